use Rattle.std.proofs.Common.{◌++◌, map, refl, ap, ◌∙◌, arith}
use Rattle.ffi3_type_spec.specs.declared.Role.TheVariants.{Anywhere}
use Rattle.ffi3_type_spec.specs.Layout.{leaves_of, moved}
use Rattle.ffi3_type_spec.proofs.Faults.{right_is_small}
use Rattle.ffi3_type_spec.proofs.Arrays.{moved_none}
use Rattle.ffi3_types.specs.TreeOf.{tree_of}
use Rattle.ffi3_types.proofs.FfiType.leaves.Goals as goal

pub push_leaves-requires-clause-low : goal.push_leaves-requires-clause-low
push_leaves-requires-clause-low c =
    omega (arith, right_is_small 0 Anywhere (tree_of c.args.self.now) c.requires)

pub returns : goal.returns
returns c =
    c.in_ok-push_leaves.ensures ∙ ap (λ ls. ls ++ map (moved 0) (leaves_of (tree_of c.args.self.now))) c.new-leaves.ensures ∙ moved_none (leaves_of (tree_of c.args.self.now)) 0 refl
