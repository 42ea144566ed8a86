-- Elements resolved one by one.
use Rattle.std.proofs.Common.{◌≡◌, List, [], ◌∷◌, map, refl, ap}
use Rattle.ffi3_type_spec.specs.Tree.{Tree, tree, trees_of}
use Rattle.ffi3_format_spec.specs.declared.Format.{Format}
use Rattle.ffi3_format_spec.specs.Format.{resolved, all_resolved}

-- those of a list
pub of_list : (f : Format) (ts : List Tree) → trees_of (map (resolved f) ts) ≡ all_resolved f (trees_of ts)
of_list f [] = refl
of_list f (t ∷ ts) = ap (λ us. tree (resolved f t) us) (of_list f ts)
