use Rattle.std.proofs.Common.{◌≡◌, ◌<◌, ◌∷◌, [], true, List, length, sym, ap, subst, arith, length-append}
use Rattle.ffi3_type_spec.specs.Tree.{trees_of}
use Rattle.ffi3_type_spec.specs.Value.{ValueTree, all_fit, values_of}
use Rattle.ffi3_values.specs.ValueOf.{value_of}
use Rattle.ffi3_run_state.proofs.Telling.{all_arguments, one_argument}
use Rattle.ffi3_run_state.proofs.tracing.read_arguments.Goals as goal

pub push-requires : goal.push-requires
push-requires c = omega (arith, c.loop-i.invariant.counted)

pub loop-i-preserved : goal.loop-i-preserved
loop-i-preserved c =
    let seen = c.args.seen.now in
    let below : c.loop-i.i < length seen.signature.arguments = omega (arith, c.loop-i-test.true, c.count-i-end.ensures.is) in
    let longer = length-append c.loop-i.args (value_of c.in_ok-arg.field-0 ∷ []) in
    record {
      so_far = one_argument seen.signature.arguments seen.block c.loop-i.args c.push.new.self c.loop-i.i (value_of c.in_ok-arg.field-0) below c.loop-i.invariant.so_far c.in_ok-arg.ensures.is c.in_ok-push.ensures.ok;
      counted = omega (arith, ap (λ (l : List ValueTree). length l) c.in_ok-push.ensures.ok, longer, c.loop-i.invariant.counted);
    }

pub returns-clause-are : goal.returns-clause-are
returns-clause-are c =
    let seen = c.args.seen.now in
    all_arguments seen.signature.arguments seen.block c.loop-i.args c.loop-i.i (omega (arith, c.loop-i-test.false, c.count-i-end.ensures.is)) c.loop-i.invariant.so_far

pub returns-clause-fit : goal.returns-clause-fit
returns-clause-fit c =
    let seen = c.args.seen.now in
    let are = all_arguments seen.signature.arguments seen.block c.loop-i.args c.loop-i.i (omega (arith, c.loop-i-test.false, c.count-i-end.ensures.is)) c.loop-i.invariant.so_far in
    subst (λ (vs : List ValueTree). all_fit (trees_of seen.signature.arguments) (values_of vs) ≡ true) (sym are) c.count-i-end.ensures.fit
