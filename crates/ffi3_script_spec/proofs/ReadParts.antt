-- Where a step of reading gives a value, each of its parts has given one.
use Rattle.std.proofs.Common.{◌≡◌, ℕ, zero, suc, ◌<◌, Bool, true, false, List, [], ◌∷◌, length, Some, refl, arith}
use Rattle.std.specs.Prelude.{slice_get, slice_index_or, if◌then◌else◌}
use Rattle.ffi3_script_spec.specs.Language.{Read, read, fault, and_then, read_map, JsonPath, Reason}

pub first_was_read : {A B : Type 0} (more : A → Read B) (r : Read A) (b : B) → and_then more r ≡ read b → (a : A) × (r ≡ read a) × (more a ≡ read b)
first_was_read more (read a) b h = (a, refl, h)
first_was_read more (fault path reason) b h = absurd (cc)

pub part_was_read : {A B : Type 0} (f : A → B) (r : Read A) (b : B) → read_map f r ≡ read b → (a : A) × (r ≡ read a) × (f a ≡ b)
part_was_read f (read a) b h = (a, refl, cc)
part_was_read f (fault path reason) b h = absurd (cc)

pub same_read : {A : Type 0} (a b : A) → read a ≡ read b → a ≡ b
same_read a b h = cc

pub test_held : {A : Type 0} (b : Bool) (r : Read A) (path : JsonPath) (reason : Reason) (a : A) → (if b then r else fault path reason) ≡ read a → (b ≡ true) × (r ≡ read a)
test_held true r path reason a h = (refl, h)
test_held false r path reason a h = absurd (cc)

-- what is at a place of a list
pub got : {X : Type 0} (xs : List X) (i : ℕ) (x d : X) → slice_get xs i ≡ Some x → (i < length xs) × (slice_index_or xs i d ≡ x)
got [] i x d h = absurd (cc)
got (y ∷ xs) zero x d h = (omega arith, cc)
got (y ∷ xs) (suc i) x d h = let there = got xs i x d h in (omega (arith, there.0), there.1)
