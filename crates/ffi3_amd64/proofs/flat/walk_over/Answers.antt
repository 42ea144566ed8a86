use Rattle.std.proofs.Common.{ap, sym, ◌∙◌, arith}
use Rattle.ffi3_type_spec.specs.declared.Role.TheVariants.{Anywhere}
use Rattle.ffi3_type_spec.specs.Tree.{struct_of}
use Rattle.ffi3_type_spec.proofs.Faults.{element_is_right, right_is_small}
use Rattle.ffi3_type_spec.proofs.Layouts.{align_positive, start-turn}
use Rattle.ffi3_type_spec.proofs.Values.{element_within}
use Rattle.ffi3_type_spec.proofs.ElementPlaces.{room_before}
use Rattle.ffi3_type_spec.specs.Layout.{size_of}
use Rattle.ffi3_types.specs.TreeOf.{tree_of}
use Rattle.ffi3_amd64.proofs.Walks.{walked-turn, walked_at_end}
use Rattle.ffi3_amd64.proofs.flat.walk_over.Goals as goal

pub run_of-requires : goal.run_of-requires
run_of-requires c =
    rw c.get.ensures.element (element_is_right Anywhere c.args.fields.now c.requires c.loop-i.i (omega arith))

pub with_run-walk-requires-clause-some : goal.with_run-walk-requires-clause-some
with_run-walk-requires-clause-some c =
    let run = rw c.in-Some.is at c.run_of.ensures in
    omega (arith, align_positive (tree_of c.get.result.now), run.align)

pub with_run-walk-requires-clause-aligned : goal.with_run-walk-requires-clause-aligned
with_run-walk-requires-clause-aligned c =
    let run = rw c.in-Some.is at c.run_of.ensures in
    room_before c.args.fields.now c.loop-i.i (tree_of c.get.result.now) c.loop-i.walk.end c.in-Some.here.each c.requires (omega arith) c.loop-i.invariant.end (sym run.align)

pub with_run-walk-requires-clause-fits : goal.with_run-walk-requires-clause-fits
with_run-walk-requires-clause-fits c =
    let run = rw c.in-Some.is at c.run_of.ensures in
    let start = start-turn c.args.fields.now c.loop-i.i _ c.get.ensures.element _ _ c.loop-i.invariant.end (sym run.align) in
    let size = sym run.size ∙ ap size_of c.get.ensures.element in
    omega (arith, start, size, element_within c.args.fields.now c.loop-i.i (omega arith), right_is_small 0 Anywhere (struct_of c.args.fields.now) c.requires)

pub loop-i-preserved : goal.loop-i-preserved
loop-i-preserved c =
    let run = rw c.in-Some.is at c.run_of.ensures in
    walked-turn c.args.fields.now c.loop-i.i (tree_of c.get.result.now) c.loop-i.walk _ c.in-Some.here c.get.ensures.element c.loop-i.invariant run c.with_run-walk.ensures

pub returns : goal.returns
returns c =
    walked_at_end c.args.fields.now c.loop-i.i c.loop-i.walk (omega arith) c.loop-i.invariant
