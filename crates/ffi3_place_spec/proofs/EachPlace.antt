-- One place for each argument.
use Rattle.std.proofs.Common.{◌≡◌, ℕ, zero, suc, ◌<◌, List, [], ◌∷◌, length, ap, sym, refl, arith}
use Rattle.std.specs.Prelude.{Some, slice_get, slice_index_or}
use Rattle.ffi3_type_spec.specs.Tree.{Tree}
use Rattle.ffi3_place_spec.specs.declared.Place.{Place}
use Rattle.ffi3_place_spec.specs.Sound.{PlacesHaveAll}

pub places_length : (ts : List Tree) (ps : List Place) → PlacesHaveAll ts ps → length ps ≡ length ts
places_length [] [] h = refl
places_length [] (p ∷ ps) h = absurd h
places_length (t ∷ ts) [] h = absurd h
places_length (t ∷ ts) (p ∷ ps) h = ap suc (places_length ts ps h.1)

pub read_is_there : {X : Type 0} (xs : List X) (i : ℕ) (x : X) → i < length xs → x ≡ slice_index_or xs i x → slice_get xs i ≡ Some x
read_is_there [] i x h e = absurd (omega arith)
read_is_there (y ∷ ys) zero x h e = ap Some (sym e)
read_is_there (y ∷ ys) (suc i) x h e = read_is_there ys i x (omega arith) e
