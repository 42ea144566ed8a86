-- The nodes of a resolved type: at each path that the type has stands what stood there, resolved. So it is no less deep.
use Rattle.std.proofs.Common.{◌≡◌, ℕ, zero, suc, true, List, [], ◌∷◌, Option, Some, None, option_map, refl, ap, ◌∙◌}
use Rattle.std.specs.Prelude.{slice_get, option_and_then}
use Rattle.ffi3_type_spec.specs.Tree.{Tree, structure, array, Trees, no_trees, tree, list_of}
use Rattle.ffi3_type_spec.specs.Fault.{node_at, has_parts}
use Rattle.ffi3_format_spec.specs.declared.Format.{Format}
use Rattle.ffi3_format_spec.specs.Format.{resolved, all_resolved}

element_resolved : (f : Format) (ts : Trees) (i : ℕ) → slice_get (list_of (all_resolved f ts)) i ≡ option_map (resolved f) (slice_get (list_of ts) i)
element_resolved f no_trees i = refl
element_resolved f (tree t ts) zero = refl
element_resolved f (tree t ts) (suc i) = element_resolved f ts i

below_element : (f : Format) (path : List ℕ) (o : Option Tree) (u : Tree) → ((t : Tree) → node_at path t ≡ Some u → node_at path (resolved f t) ≡ Some (resolved f u)) → option_and_then (node_at path) o ≡ Some u → option_and_then (node_at path) (option_map (resolved f) o) ≡ Some (resolved f u)
below_element f path None u inner e = cc
below_element f path (Some t) u inner e = inner t e

pub node_resolved : (f : Format) (path : List ℕ) (t u : Tree) → node_at path t ≡ Some u → node_at path (resolved f t) ≡ Some (resolved f u)
node_resolved f [] t u e = ap (option_map (resolved f)) e
node_resolved f (i ∷ path) (structure ts) u e =
    ap (option_and_then (node_at path)) (element_resolved f ts i) ∙ below_element f path (slice_get (list_of ts) i) u (λ t. node_resolved f path t u) e
node_resolved f (i ∷ path) (array ts n) u e =
    ap (option_and_then (node_at path)) (element_resolved f ts i) ∙ below_element f path (slice_get (list_of ts) i) u (λ t. node_resolved f path t u) e
node_resolved f (i ∷ path) _ u e = cc

-- structs and arrays stay so
pub parts_resolved : (f : Format) (t : Tree) → has_parts t ≡ true → has_parts (resolved f t) ≡ true
parts_resolved f (structure ts) e = refl
parts_resolved f (array ts n) e = refl
parts_resolved f _ e = cc
