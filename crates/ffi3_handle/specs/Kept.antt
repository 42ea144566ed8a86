-- What is kept, as contracts see it.
use Rattle.std.specs.Prelude.{Bool, true, false}
use Rattle.std.specs.declared.option.Option.{Option}
use Rattle.std.specs.declared.option.Option.TheVariants.{None, Some}
use Rattle.std_alloc.specs.declared.boxed.Box.{Box}
use Rattle.ffi3_handle.specs.declared.loose.Loose.{Loose}

-- the value in the box, if there is one
abbrev pub kept_in : {X Z : Type 0} → Option (Box X Z) → Option X
kept_in None = None
kept_in (Some b) = Some b.value

-- whether there is a value
abbrev pub is_kept : {X : Type 0} → Option X → Bool
is_kept None = false
is_kept (Some x) = true

-- the value behind the pointer, if there is one
abbrev pub loose_in : {X Z : Type 0} → Option (Loose X Z) → Option X
loose_in None = None
loose_in (Some l) = Some l.value
