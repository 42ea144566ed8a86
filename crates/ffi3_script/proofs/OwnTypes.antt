-- The types of the elements of structs and arrays, by their numbers.
use Rattle.std.proofs.Common.{◌≡◌, ℕ, ◌<◌, ◌≤◌, List, [], ◌∷◌, length, Some, None, sym, ap, ◌∙◌, arith}
use Rattle.std.specs.Prelude.{slice_get, replicate}
use Rattle.std.proofs.lemmas.List.{length-replicate, get_or-replicate}
use Rattle.std.proofs.lemmas.Option.{slice_get-get_or, slice_get_past}
use Rattle.ffi3_type_spec.specs.Tree.{Tree, void, array, struct_of, trees_of, tree_at, list_of-trees_of}
use Rattle.ffi3_script.specs.OwnTypeOf.{element_at}

pub struct_element : (ts : List Tree) (i : ℕ) → i < length ts → Some (tree_at ts i) ≡ element_at (struct_of ts) i
struct_element ts i h =
    sym (slice_get-get_or ts i void h) ∙ ap (λ us. slice_get us i) (sym (list_of-trees_of ts))

pub no_struct_element : (ts : List Tree) (i : ℕ) → length ts ≤ i → None ≡ element_at (struct_of ts) i
no_struct_element ts i h =
    sym (slice_get_past ts i h) ∙ ap (λ us. slice_get us i) (sym (list_of-trees_of ts))

pub array_element : (ts : List Tree) (n i : ℕ) → 0 < length ts → i < n → Some (tree_at ts 0) ≡ element_at (array (trees_of ts) n) i
array_element [] n i some h = absurd (omega (arith, some))
array_element (t ∷ ts) n i some h =
    sym (slice_get-get_or (replicate n t) i void (omega (arith, h, length-replicate n t)) ∙ ap Some (get_or-replicate n i t void h))

pub no_array_element : (ts : List Tree) (n i : ℕ) → 0 < length ts → n ≤ i → None ≡ element_at (array (trees_of ts) n) i
no_array_element [] n i some h = absurd (omega (arith, some))
no_array_element (t ∷ ts) n i some h =
    sym (slice_get_past (replicate n t) i (omega (arith, h, length-replicate n t)))
