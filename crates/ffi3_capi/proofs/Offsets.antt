-- Where the members of a struct start, one after another; and a type as a whole.
use Rattle.std.specs.Prelude.{replicate}
use Rattle.std.proofs.Common.{◌≡◌, ℕ, ◌+◌, List, [], ◌∷◌, ◌++◌, length, map, ap, sym, ◌∙◌, arith}
use Rattle.std.specs.List.{range_with_len}
use Rattle.std.proofs.lemmas.List.FromFn.{map-range_with_len_more}
use Rattle.ffi3_type_spec.specs.Tree.{Tree, struct_of, trees_of, list_of-trees_of}
use Rattle.std.proofs.lemmas.List.{length-map}
use Rattle.ffi3_type_spec.specs.Layout.{size_of, align_of, leaves_of, layouts, start_of}
use Rattle.ffi3_capi.specs.declared.fault.TextFault.{TextFault}
use Rattle.ffi3_capi.specs.declared.fault.FaultKind.TheVariants.{NoFault}
use Rattle.ffi3_capi.specs.declared.whole.WholeType.{WholeType}
use Rattle.ffi3_capi.specs.Faults.{fault_with}
use Rattle.ffi3_capi.specs.Laid.{laid_leaf, laid_leaves}
use Rattle.ffi3_capi.specs.WholeType.{members_of, offsets_of, whole_type}

abbrev starts_before : List Tree → ℕ → List ℕ
starts_before ts i = map (start_of (layouts (trees_of ts))) (range_with_len 0 i)

pub starts_more : (ts : List Tree) (i start : ℕ) (old new : List ℕ) → start ≡ start_of (layouts (trees_of ts)) i → old ≡ starts_before ts i → new ≡ old ++ start ∷ [] → new ≡ starts_before ts (i + 1)
starts_more ts i start old new here before pushed =
    pushed ∙ ap (λ l. l ++ start ∷ []) before ∙ ap (λ k. starts_before ts i ++ k ∷ []) here
    ∙ sym (map-range_with_len_more (start_of (layouts (trees_of ts))) 0 i i (omega arith))

pub starts_all : (ts : List Tree) (i : ℕ) → i ≡ length ts → (starts : List ℕ) → starts ≡ starts_before ts i → starts ≡ offsets_of (struct_of ts)
starts_all ts i whole starts before =
    before ∙ ap (starts_before ts) (whole ∙ sym (ap length (list_of-trees_of ts)))

abbrev whole_of : ℕ → ℕ → ℕ → ℕ → TextFault → WholeType
whole_of size align members leaves fault =
    record { size = size; align = align; members = members; leaves = leaves; reserved = replicate 2 0; fault = fault }

-- a type as a whole, by its parts
pub whole_is : (t : Tree) (size align members leaves : ℕ) (fault : TextFault) → size ≡ size_of t → align ≡ align_of t → members ≡ length (members_of t) → leaves ≡ length (leaves_of t) → fault ≡ fault_with NoFault → whole_of size align members leaves fault ≡ whole_type t
whole_is t size align members leaves fault s a m l f =
    let all : leaves ≡ length (laid_leaves t) = l ∙ sym (length-map (leaves_of t) laid_leaf) in
    λ i. record { size = s i; align = a i; members = m i; leaves = all i; reserved = replicate 2 0; fault = f i }
