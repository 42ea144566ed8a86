-- The bytes of values, one value after another.
use Rattle.std.proofs.Common.{◌≡◌, ℕ, ◌+◌, ◌-◌, ◌<◌, List, [], ◌∷◌, ◌++◌, length, replicate, take, ap, ◌∙◌, append_assoc, arith}
use Rattle.std.proofs.lemmas.List.{take-replicate}
use Rattle.ffi3_type_spec.specs.Tree.{Tree}
use Rattle.ffi3_type_spec.specs.Layout.{size_of}
use Rattle.ffi3_type_spec.specs.Value.{ValueTree, IsWritten}
use Rattle.ffi3_place_spec.specs.Standard.{round8}
use Rattle.ffi3_capi.specs.Entry.{HasOneMore, filler}

-- so many zeros of eight
pub zeros_behind : (r s n : ℕ) → r ≡ round8 s → s ≡ n → r < s + 8 → take (r - s) (0 ∷ 0 ∷ 0 ∷ 0 ∷ 0 ∷ 0 ∷ 0 ∷ 0 ∷ []) ≡ filler n
zeros_behind r s n rounded is near =
    take-replicate (r - s) 8 0 (omega (arith, near)) ∙ ap (λ (k : ℕ). replicate (k - s) 0) rounded ∙ ap (λ (k : ℕ). replicate (round8 k - k) 0) is

-- one value written behind others
pub one_more : (t : Tree) (v : ValueTree) (old mid new here zeros : List ℕ) → length here ≡ size_of t → IsWritten t v (replicate (size_of t) 0) here → mid ≡ old ++ here → new ≡ mid ++ zeros → zeros ≡ filler (size_of t) → HasOneMore t v old new
one_more t v old mid new here zeros sized written first then rest = record {
  bytes = here;
  sized = sized;
  written = written;
  is = then ∙ ap (λ (b : List ℕ). b ++ zeros) first ∙ append_assoc old here zeros ∙ ap (λ (z : List ℕ). old ++ (here ++ z)) rest;
}
