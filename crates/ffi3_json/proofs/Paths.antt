-- Places inside a type.
use Rattle.std.proofs.Common.{◌≡◌, ℕ, ◌+◌, ◌<◌, ◌≤◌, List, length, drop, sym, ap, ◌∙◌}
use Rattle.std.specs.Prelude.{slice_index}
use Rattle.std.proofs.lemmas.List.{drop_more}
use Rattle.ffi3_type_spec.specs.Tree.{Tree, tree_at, parts_of}
use Rattle.ffi3_script_spec.specs.Language.{JsonPath, inside_type, key_of_parts, at_item, under}
use Rattle.ffi3_json.proofs.Objects.{none_left}

-- one element number of a way
pub way-more : (path : JsonPath) (t u : Tree) (way : List ℕ) (i n : ℕ) (name : List ℕ) (inside on : JsonPath) → i < length way → n ≡ slice_index way i → name ≡ key_of_parts t → inside ≡ under path name → on ≡ at_item inside n → u ≡ tree_at (parts_of t) n
    → inside_type path t (drop i way) ≡ inside_type on u (drop (i + 1) way)
way-more path t u way i n name inside on below is named first second third =
    ap (inside_type path t) (drop_more way i 0 below) ∙ (λ k. inside_type (at_item (under path (sym named k)) (sym is k)) (tree_at (parts_of t) (sym is k)) (drop (i + 1) way)) ∙ (λ k. inside_type (at_item (sym first k) n) (sym third k) (drop (i + 1) way)) ∙ ap (λ p. inside_type p u (drop (i + 1) way)) (sym second)

pub way-end : (path : JsonPath) (t : Tree) (way : List ℕ) (i : ℕ) → length way ≤ i → inside_type path t (drop i way) ≡ path
way-end path t way i end = ap (inside_type path t) (none_left way i end)
