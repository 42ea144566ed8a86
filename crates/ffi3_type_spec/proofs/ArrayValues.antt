-- Values, their bytes and their texts: those of an array are those of the struct of its elements.
use Rattle.std.proofs.Common.{◌≡◌, ℕ, zero, suc, ◌+◌, ◌*◌, ◌≤◌, List, ◌∷◌, replicate, refl, ap, sym, ◌∙◌, subst, arith, All}
use Rattle.ffi3_type_spec.specs.Tree.{Tree, array, Trees, no_trees, tree, trees_of, struct_of, first_of}
use Rattle.ffi3_type_spec.specs.Layout.{layouts, element, size_of, scalar_size}
use Rattle.ffi3_type_spec.specs.Value.{ValueTree, struct_value, ValueTrees, no_values, value, value_in, values_in, first_value_in, repeated_values, part, IsPadding, IsWritten}
use Rattle.ffi3_type_spec.specs.ValueText.{value_text_of, value_texts_of, first_text_of, repeated_texts}
use Rattle.ffi3_type_spec.proofs.Arrays.{first_layout, start_in_array, array_leaves}

first_value_is : (ts : Trees) (bytes : List ℕ) → first_value_in ts bytes ≡ value_in (first_of ts) bytes
first_value_is no_trees bytes = refl
first_value_is (tree t ts) bytes = refl

-- the values from number i on, of n elements of all
repeated_is : (ts : Trees) (all i n : ℕ) (bytes : List ℕ) → i + n ≤ all → values_in (trees_of (replicate n (first_of ts))) (layouts (trees_of (replicate all (first_of ts)))) i bytes ≡ repeated_values (first_value_in ts) (element (layouts ts) 0).size i n bytes
repeated_is ts all i zero bytes h = refl
repeated_is ts all i (suc n) bytes h =
    let t = first_of ts in
    let es = layouts (trees_of (replicate all t)) in
    let size : (element (layouts ts) 0).size ≡ size_of t = ap (λ l. l.size) (first_layout ts) in
    let rest = values_in (trees_of (replicate n t)) es (i + 1) bytes in
    let k = (element (layouts ts) 0).size in
    ap (λ j. value (value_in t (part bytes j (size_of t))) rest) (start_in_array t all i (omega arith))
    ∙ ap (λ m. value (value_in t (part bytes (i * m) m)) rest) (sym size)
    ∙ ap (λ v. value v rest) (sym (first_value_is ts (part bytes (i * k) k)))
    ∙ ap (value (first_value_in ts (part bytes (i * k) k))) (repeated_is ts all (i + 1) n bytes (omega arith))

module _ (ts : Trees) (n : ℕ) where
  abbrev its_struct : Tree
  its_struct = struct_of (replicate n (first_of ts))

  pub array_value : (bytes : List ℕ) → value_in (array ts n) bytes ≡ value_in its_struct bytes
  array_value bytes = ap struct_value (sym (repeated_is ts n 0 n bytes (omega arith)))

  pub array_padding : (i : ℕ) → IsPadding (array ts n) i → IsPadding its_struct i
  array_padding i pad =
      subst (λ ls. All (λ leaf. leaf.at ≤ i → leaf.at + scalar_size leaf.kind ≤ i) ls) (array_leaves ts n) pad

  pub array_written : (v : ValueTree) (old new : List ℕ) → IsWritten its_struct v old new → IsWritten (array ts n) v old new
  array_written v old new written =
      record { reads_back = array_value new ∙ written.reads_back; padding_stays = λ i below pad. written.padding_stays i below (array_padding i pad) }

first_text_is : (ts : Trees) (v : ValueTree) → first_text_of ts v ≡ value_text_of (first_of ts) v
first_text_is no_trees v = refl
first_text_is (tree t ts) v = refl

pub array_texts : (ts : Trees) (n : ℕ) (vs : ValueTrees) → repeated_texts (first_text_of ts) n vs ≡ value_texts_of (trees_of (replicate n (first_of ts))) vs
array_texts ts zero vs = refl
array_texts ts (suc n) no_values = refl
array_texts ts (suc n) (value v vs) =
    ap (λ text. text ∷ repeated_texts (first_text_of ts) n vs) (first_text_is ts v) ∙ ap (λ texts. value_text_of (first_of ts) v ∷ texts) (array_texts ts n vs)
