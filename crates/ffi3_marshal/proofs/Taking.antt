-- Places whose writes are not dropped.
use Rattle.std.proofs.Common.{ℕ, List, [], ◌∷◌}
use Rattle.std.specs.List.{AllByRecursion}
use Rattle.ffi3_place_spec.specs.declared.Loc.{Loc}
use Rattle.ffi3_place_spec.specs.declared.Loc.TheVariants.{G}
use Rattle.ffi3_marshal.specs.Stored.{TakesAt}

pub still_takes_at : (P Q : ℕ → Type 0) → ((k : ℕ) → P k → Q k) → (l : Loc) → TakesAt P l → TakesAt Q l
still_takes_at P Q f (G r) h = f r h
still_takes_at P Q f _ h = tt

-- where no register drops one
pub all_take : (P : ℕ → Type 0) → ((k : ℕ) → P k) → (ls : List Loc) → AllByRecursion (TakesAt P) ls
all_take P all [] = tt
all_take P all (G r ∷ ls) = (all r, all_take P all ls)
all_take P all (_ ∷ ls) = (tt, all_take P all ls)
