-- What holds of each item of a list holds of the first that passes a test.
use Rattle.std.proofs.Common.{Bool, true, false, cond, List, [], ◌∷◌, Option, Some}
use Rattle.std.specs.Prelude.{IfSome, find}

abbrev pub Each : {X : Type 0} → (X → Type 0) → List X → Type 0
Each P [] = Unit {0}
Each P (x ∷ xs) = P x × Each P xs

this_or : {X : Type 0} (P : X → Type 0) (b : Bool) (x : X) (o : Option X) → P x → IfSome o P → IfSome (cond b (Some x) o) P
this_or P true x o this more = this
this_or P false x o this more = more

pub found : {X : Type 0} (P : X → Type 0) (test : X → Bool) (xs : List X) → Each P xs → IfSome (find test xs) P
found P test [] each = tt
found P test (x ∷ xs) each = this_or P (test x) x (find test xs) each.0 (found P test xs each.1)
