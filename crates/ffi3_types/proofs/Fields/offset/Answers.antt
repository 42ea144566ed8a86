use Rattle.std.proofs.Common.{◌≡◌, ◌∙◌, arith}
use Rattle.ffi3_type_spec.specs.Tree.{struct_of}
use Rattle.ffi3_type_spec.specs.Layout.{offset_of}
use Rattle.ffi3_type_spec.specs.declared.Role.TheVariants.{Anywhere}
use Rattle.ffi3_type_spec.proofs.Layouts.{align_positive, align_bounded, start-turn}
use Rattle.ffi3_type_spec.proofs.ElementPlaces.{elements_laid_out}
use Rattle.ffi3_type_spec.proofs.Faults.{right_is_small, element_is_right}
use Rattle.ffi3_type_spec.proofs.Values.{element_within, end_within}
use Rattle.ffi3_types.specs.TreeOf.{tree_of}
use Rattle.ffi3_types.proofs.Fields.offset.Goals as goal

pub front-requires-clause-right : goal.front-requires-clause-right
front-requires-clause-right c = elements_laid_out c.args.self.now c.requires.right

pub extent-requires : goal.extent-requires
extent-requires c =
    rw c.get.ensures.element (element_is_right Anywhere c.args.self.now c.requires.right c.args.i c.requires.in_range)

pub round_up-requires-clause-nonzero : goal.round_up-requires-clause-nonzero
round_up-requires-clause-nonzero c = omega (arith, align_positive (tree_of c.get.result.now), c.extent.ensures.align)

pub round_up-requires-clause-fits : goal.round_up-requires-clause-fits
round_up-requires-clause-fits c =
    let small = right_is_small 0 Anywhere (struct_of c.args.self.now) c.requires.right in
    omega (arith, small, end_within c.args.self.now c.args.i (omega arith), align_bounded (tree_of c.get.result.now), c.extent.ensures.align, c.front.ensures.end)

pub returns-clause-start : goal.returns-clause-start
returns-clause-start c =
    c.round_up.ensures.value ∙ start-turn c.args.self.now c.args.i (tree_of c.get.result.now) c.get.ensures.element _ _ c.front.ensures.end c.extent.ensures.align

pub returns-clause-within : goal.returns-clause-within
returns-clause-within c =
    let start : c.round_up.result ≡ offset_of (struct_of c.args.self.now) c.args.i = returns-clause-start c in
    omega (arith, start, element_within c.args.self.now c.args.i c.requires.in_range)
