-- What a handle owns.
use Rattle.std.specs.Prelude.{◌≡◌}
use Rattle.std.specs.declared.option.Option.{Option}
use Rattle.std.specs.declared.option.Option.TheVariants.{None, Some}
use Rattle.std.specs.declared.alloc.Global.{Global}
use Rattle.std.specs.contracts.impls.GlobalAllocator.TheImpl.{ghosts}
use base.Fml.{Fml, fex, ftrue}
use denote.RattleType.{RattleType}
use denote.RawPtr.{Ptr, null_ptr}
use Rattle.std_alloc.specs.Box.Ownership.{box_owns}

module _ (R : RattleType) (alloc : Global) where
  -- null where nothing is kept, and else the value in a block of its own, which may be freed
  abbrev pub kept_owns : Ptr → Option R.Denot → Fml
  kept_owns p None = fex (p ≡ null_ptr) (λ _. ftrue)
  kept_owns p (Some x) = box_owns (ghosts.dealloc_token alloc) R p x
