-- A word that differs from every word of a table names no type.
use Rattle.std.proofs.Common.{◌≡◌, ℕ, List, [], ◌∷◌, ◌++◌, None, ap, Bool, true, false, refl}
use Rattle.std.specs.Prelude.{bytes_eq}
use Rattle.std.proofs.lemmas.Bool.{ne_eqb}
use Rattle.std.proofs.lemmas.Slice.Eq.{bytes_eq-Decides}
use Rattle.ffi3_type_spec.specs.Tree.{Tree}
use Rattle.ffi3_type_spec.specs.Names.{type_beside, type_named, type_names, wide_names}

abbrev pub DiffersFromAll : List ℕ → List (List ℕ × Tree) → Type 0
DiffersFromAll word [] = Unit {0}
DiffersFromAll word (entry ∷ entries) = (word ≡ entry.0 → ⊥) × DiffersFromAll word entries

false_unless : (b : Bool) → (b ≡ true → ⊥) → b ≡ false
false_unless true h = absurd (h refl)
false_unless false h = refl

pub beside-none : (word : List ℕ) (entries : List (List ℕ × Tree)) → DiffersFromAll word entries → type_beside word entries ≡ None
beside-none word [] d = refl
beside-none word (entry ∷ entries) d =
    let differs : bytes_eq word entry.0 ≡ false = false_unless (bytes_eq word entry.0) (λ h. d.0 ((bytes_eq-Decides word entry.0).0 h)) in
    rw differs (beside-none word entries d.1)

-- a word that is none of the first ones is looked for among the rest
pub beside-later : (word : List ℕ) (entries more : List (List ℕ × Tree)) → DiffersFromAll word entries → type_beside word (entries ++ more) ≡ type_beside word more
beside-later word [] more d = refl
beside-later word (entry ∷ entries) more d =
    let differs : bytes_eq word entry.0 ≡ false = false_unless (bytes_eq word entry.0) (λ h. d.0 ((bytes_eq-Decides word entry.0).0 h)) in
    rw differs (beside-later word entries more d.1)

pub named_in_1 : (version : ℕ) (word : List ℕ) → version ≡ 1 → type_named version word ≡ type_beside word type_names
unfolding type_named
named_in_1 version word is = ap (λ n. type_named n word) is

pub named_later : (version : ℕ) (word : List ℕ) → ¬ (version ≡ 1) → type_named version word ≡ type_beside word (wide_names ++ type_names)
unfolding type_named
named_later version word other = rw (ne_eqb version 1 other) refl
