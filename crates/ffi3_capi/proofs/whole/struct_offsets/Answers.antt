use Rattle.std.proofs.Common.{◌∙◌, arith}
use Rattle.ffi3_type_spec.proofs.Layouts.{align_positive, start-turn, end_before-turn}
use Rattle.ffi3_type_spec.proofs.ElementPlaces.{right_here, room_before, room_here, lies}
use Rattle.ffi3_types.specs.TreeOf.{tree_of}
use Rattle.ffi3_capi.proofs.Offsets.{starts_more, starts_all}
use Rattle.ffi3_capi.proofs.whole.struct_offsets.Goals as goal

pub extent-member-requires : goal.extent-member-requires
extent-member-requires c =
    right_here c.args.members.now c.loop-i.i _ c.requires (omega arith) c.get.ensures.element

pub round_up-start-requires-clause-nonzero : goal.round_up-start-requires-clause-nonzero
round_up-start-requires-clause-nonzero c =
    omega (arith, align_positive (tree_of c.get.result.now), c.extent-member.ensures.align)

pub round_up-start-requires-clause-fits : goal.round_up-start-requires-clause-fits
round_up-start-requires-clause-fits c =
    room_before c.args.members.now c.loop-i.i (tree_of c.get.result.now) _ _ c.requires (omega arith) c.loop-i.invariant.end c.extent-member.ensures.align

pub overflow_add-end : goal.overflow_add-end
overflow_add-end c =
    let here = lies c.args.members.now c.loop-i.i _ _ c.extent-member.result.align c.extent-member.result.size c.round_up-start.result (omega arith) c.get.ensures.element c.loop-i.invariant.end c.extent-member.ensures.align c.round_up-start.ensures.value c.extent-member.ensures.size in
    omega (arith, room_here c.args.members.now c.loop-i.i _ _ c.requires here)

pub loop-i-preserved : goal.loop-i-preserved
loop-i-preserved c =
    let start = start-turn c.args.members.now c.loop-i.i _ c.get.ensures.element _ _ c.loop-i.invariant.end c.extent-member.ensures.align in
    record {
      starts = starts_more c.args.members.now c.loop-i.i c.round_up-start.result _ _ (c.round_up-start.ensures.value ∙ start) c.loop-i.invariant.starts c.in_ok-push.ensures.ok;
      end = rw c.round_up-start.ensures.value (end_before-turn c.args.members.now c.loop-i.i _ c.get.ensures.element _ _ _ c.loop-i.invariant.end c.extent-member.ensures.size c.extent-member.ensures.align);
    }

pub returns : goal.returns
returns c = starts_all c.args.members.now c.loop-i.i (omega (arith, c.len-i-end.ensures.count)) _ c.loop-i.invariant.starts
