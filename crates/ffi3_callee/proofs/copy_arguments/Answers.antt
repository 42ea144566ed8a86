use Rattle.std.specs.Prelude.{IsSomeAnd}
use Rattle.ffi3_cif.specs.Runs.{AreRunsOf, pieces_of}
use Rattle.std.proofs.Common.{◌≡◌, ◌+◌, ◌-◌, ◌<◌, ◌≤◌, length, ap, subst, sym, ◌∙◌, arith}
use Rattle.ffi3_type_spec.specs.Tree.{tree_at}
use Rattle.ffi3_type_spec.specs.Layout.{size_of}
use Rattle.ffi3_type_spec.proofs.Layouts.{least_multiple-above}
use Rattle.ffi3_place_spec.specs.Standard.{block_bytes, frame_of, plan_of, round8}
use Rattle.ffi3_type_spec.specs.declared.limits.TheConstants.{STACK_TOP}
use Rattle.ffi3_machine_transfer.specs.Passing.{passing}
use Rattle.ffi3_marshal.proofs.Arguments.{lies_more}
use Rattle.ffi3_semantics_spec.specs.SeenActivation.{block_offset}
use Rattle.ffi3_body.proofs.Blocks.{whole_within}
use Rattle.ffi3_callee.proofs.Copying.{all_copied, found_at, found_stays, one_more_copied, ready_at}
use Rattle.ffi3_callee.proofs.copy_arguments.Goals as goal

pub runs-requires : goal.runs-requires
runs-requires g c = omega (arith, c.loop-i-test.true, c.count-i-end.ensures.value, ap (λ r. length r.arguments) c.checked_sig-sig.ensures.value)

pub copy_argument-requires : goal.copy_argument-requires
copy_argument-requires g c =
    let std = g.A.Abi.standard in
    let s = c.args.cif.now in
    let t = c.arg-ty.result in
    let below : c.loop-i.i < length s.arguments = omega (arith, c.loop-i-test.true, c.count-i-end.ensures.value, ap (λ r. length r.arguments) c.checked_sig-sig.ensures.value) in
    let type_is = c.arg-ty.ensures ∙ ap (λ r. tree_at r.arguments c.loop-i.i) c.checked_sig-sig.ensures.value in
    let whole = subst (λ u. block_offset s.arguments c.loop-i.i + round8 (size_of u) ≤ block_bytes s) (sym type_is) (whole_within s c.loop-i.i below) in
    let ready = ready_at std s (g.met.A.Abi.sound s) c.checked_sig-sig.ensures.faultless c.loop-i.i t c.place.result.now below type_is c.place.ensures in
    record {
      low = omega (arith, c.requires.low, c.loop-i.invariant.to_is);
      below = omega (arith, whole, c.loop-i.invariant.to_is, c.requires.below, least_multiple-above 8 (size_of c.arg-ty.result));
      lies = lies_more (frame_of std s) (STACK_TOP - c.args.base) t c.place.result.now (omega (arith, c.requires.high)) ready.lies;
      has_all = ready.has_all;
      runs = subst (λ o. IsSomeAnd o (λ p. AreRunsOf (pieces_of p) c.runs.result.now)) c.place.ensures c.runs.ensures;
      found = found_stays c.args.block (c.args.block + block_bytes s) c.args.base c.place.result.now (passing c.args.machine.now) (passing c.loop-i.machine) (omega (arith, c.requires.low, c.requires.below)) c.requires.below c.loop-i.invariant.only (found_at c.args.base (passing c.args.machine.now) (plan_of std s).places c.loop-i.i c.place.result.now c.place.ensures c.requires.found);
    }

pub overflow_add-to : goal.overflow_add-to
overflow_add-to g c =
    let s = c.args.cif.now in
    let below : c.loop-i.i < length s.arguments = omega (arith, c.loop-i-test.true, c.count-i-end.ensures.value, ap (λ r. length r.arguments) c.checked_sig-sig.ensures.value) in
    let type_is = c.arg-ty.ensures ∙ ap (λ r. tree_at r.arguments c.loop-i.i) c.checked_sig-sig.ensures.value in
    let whole = subst (λ u. block_offset s.arguments c.loop-i.i + round8 (size_of u) ≤ block_bytes s) (sym type_is) (whole_within s c.loop-i.i below) in
    omega (arith, whole, ap round8 c.size.ensures.value, c.round_up-to.ensures.value, c.loop-i.invariant.to_is, c.requires.below, c.requires.high)

pub loop-i-preserved : goal.loop-i-preserved
loop-i-preserved g c =
    let std = g.A.Abi.standard in
    let s = c.args.cif.now in
    let sound = g.met.A.Abi.sound s in
    let t = c.arg-ty.result in
    let below : c.loop-i.i < length s.arguments = omega (arith, c.loop-i-test.true, c.count-i-end.ensures.value, ap (λ r. length r.arguments) c.checked_sig-sig.ensures.value) in
    let type_is = c.arg-ty.ensures ∙ ap (λ r. tree_at r.arguments c.loop-i.i) c.checked_sig-sig.ensures.value in
    let next_is : c.loop-i.to + c.round_up-to.result ≡ c.loop-i.to + round8 (size_of t) = ap (λ n. c.loop-i.to + n) (c.round_up-to.ensures.value ∙ ap round8 c.size.ensures.value) in
    one_more_copied std s c.args.base c.args.block (passing c.args.machine.now) c.loop-i.i c.loop-i.to (c.loop-i.to + c.round_up-to.result) t c.place.result.now (passing c.loop-i.machine) (passing c.copy_argument.new.machine) c.requires.low c.requires.below c.requires.high c.facts.ensures.stack sound c.checked_sig-sig.ensures.faultless below type_is c.place.ensures next_is c.copy_argument.ensures.read c.copy_argument.ensures.only c.loop-i.invariant

pub returns-clause-values : goal.returns-clause-values
returns-clause-values g c =
    let s = c.args.cif.now in
    let counted = ap (λ r. length r.arguments) c.checked_sig-sig.ensures.value in
    all_copied g.A.Abi.standard s c.args.base c.args.block (passing c.args.machine.now) c.loop-i.i c.loop-i.to (passing c.loop-i.machine) c.requires.low (omega (arith, counted, c.loop-i-test.false, c.count-i-end.ensures.value)) (omega (arith, counted, c.loop-i.auto.i-end, c.count-i-end.ensures.value)) c.loop-i.invariant
