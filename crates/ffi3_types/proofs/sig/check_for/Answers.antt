use Rattle.std.proofs.Common.{◌≡◌, ◌<◌, ◌≤◌, ◌⊎◌, inl, inr, ℕ, Bool, true, false, Some, length, ap, sym, ◌∙◌, arith}
use Rattle.ffi3_type_spec.specs.Tree.{Tree, tree_at}
use Rattle.ffi3_type_spec.specs.Layout.{has_long_double}
use Rattle.ffi3_type_spec.specs.Fault.{HasNoFault}
use Rattle.ffi3_type_spec.specs.Signature.{is_promoted, is_for_calls, result_role, argument_role}
use Rattle.ffi3_type_spec.proofs.Signatures.{IsSuited, first_too_many, first_in_result, first_in_argument, first_bad_fixed, first_promoted, right_with_no_fixed, right_with_fixed}
use Rattle.ffi3_types.specs.FirstElement.{purpose_of, role_for}
use Rattle.ffi3_types.proofs.sig.check_for.Goals.{in-Some+else-fixed-eq0+else-n-fixed+else-loop-i-2-test, in_default-fixed}
use Rattle.ffi3_types.proofs.sig.check_for.Goals as goal

-- what the check of a type tells
for_calls_alone : (calls : Bool) → is_for_calls (purpose_of calls) ≡ true → calls ≡ true
for_calls_alone true e = e
for_calls_alone false e = cc

suited_result : (calls : Bool) (t : Tree) → HasNoFault 0 (role_for calls true) t → (calls ≡ true → has_long_double t ≡ false) → IsSuited (purpose_of calls) (result_role (purpose_of calls)) t
suited_result calls t right plain = record { right = right; plain = λ is. plain (for_calls_alone calls is) }

suited_argument : (calls : Bool) (t : Tree) → HasNoFault 0 (role_for calls false) t → (calls ≡ true → has_long_double t ≡ false) → IsSuited (purpose_of calls) (argument_role (purpose_of calls)) t
suited_argument calls t right plain = record { right = right; plain = λ is. plain (for_calls_alone calls is) }

pub returns-then-n-gt-MOST_ARGUMENTS-clause-err : goal.returns-then-n-gt-MOST_ARGUMENTS-clause-err
returns-then-n-gt-MOST_ARGUMENTS-clause-err c = rw c.count-n.ensures (first_too_many c.args.sig.now (omega arith))

pub returns-in-Err-clause-err : goal.returns-in-Err-clause-err
returns-in-Err-clause-err c =
    first_in_result c.args.sig.now (omega arith) _ _ (rw c.ret.ensures at c.in-Err.ensures.err)

pub returns-in-Err-check_in-clause-err : goal.returns-in-Err-check_in-clause-err
returns-in-Err-check_in-clause-err c =
    let result_right = suited_result c.args.calls _ (rw c.ret.ensures at c.in_default.ensures.right) (rw c.ret.ensures at c.in_default.ensures.plain) in
    first_in_argument c.args.sig.now (omega arith) result_right c.loop-i.i _ _ (omega arith) c.loop-i.invariant (rw c.arg.ensures at c.in-Err-check_in.ensures.err)

pub returns-then-fixed-eq0-clause-err : goal.returns-then-fixed-eq0-clause-err
returns-then-fixed-eq0-clause-err c =
    let sig = c.args.sig.now in
    let purpose = purpose_of c.args.calls in
    let count = c.count-n.ensures in
    let result_right = suited_result c.args.calls _ (rw c.ret.ensures at c.in_default.ensures.right) (rw c.ret.ensures at c.in_default.ensures.plain) in
    let arguments_right : (j : ℕ) → j < length sig.arguments → IsSuited purpose (argument_role purpose) (tree_at sig.arguments j) = λ j below. c.loop-i.invariant j (omega arith) in
    let is : sig.fixed ≡ Some c.in-Some.fixed = sym c.fixed.ensures ∙ c.in-Some.is in
    let outside : (c.in-Some.fixed ≡ 0) ⊎ (length sig.arguments < c.in-Some.fixed) = elim c.then-fixed-eq0.either [ inl zero ↦ inl zero | inr over ↦ inr (omega arith) ] in
    rw count (first_bad_fixed sig (omega arith) result_right arguments_right c.in-Some.fixed is outside)

pub returns-then-is_promoted-clause-err : goal.returns-then-is_promoted-clause-err
returns-then-is_promoted-clause-err c =
    let sig = c.args.sig.now in
    let purpose = purpose_of c.args.calls in
    let count = c.count-n.ensures in
    let result_right = suited_result c.args.calls _ (rw c.ret.ensures at c.in_default.ensures.right) (rw c.ret.ensures at c.in_default.ensures.plain) in
    let arguments_right : (j : ℕ) → j < length sig.arguments → IsSuited purpose (argument_role purpose) (tree_at sig.arguments j) = λ j below. c.loop-i.invariant j (omega arith) in
    let is : sig.fixed ≡ Some c.in-Some.fixed = sym c.fixed.ensures ∙ c.in-Some.is in
    let bad = ap is_promoted (sym c.arg-in-loop-i-2.ensures) ∙ sym c.is_promoted.ensures ∙ c.if-is_promoted.true in
    first_promoted sig (omega arith) result_right arguments_right c.in-Some.fixed is (omega arith) (omega arith) c.loop-i-2.i (omega arith) (omega arith) bad c.loop-i-2.invariant

pub returns-clause-ok : goal.returns-clause-ok
returns-clause-ok c =
    let sig = c.args.sig.now in
    let purpose = purpose_of c.args.calls in
    let few : length sig.arguments ≤ 64 = omega (arith, c.if-n-gt-MOST_ARGUMENTS.false, c.count-n.ensures) in
    let result_right = suited_result c.args.calls _ (rw c.ret.ensures at c.in_default.ensures.right) (rw c.ret.ensures at c.in_default.ensures.plain) in
    let arguments_right : (j : ℕ) → j < length sig.arguments → IsSuited purpose (argument_role purpose) (tree_at sig.arguments j) = λ j below. c.loop-i.invariant j (omega (arith, below, c.loop-i-test.false, c.count-n.ensures)) in
    elim c.match-fixed.branch [
      | in-Some+else-fixed-eq0+else-n-fixed+else-loop-i-2-test w ↦
          right_with_fixed sig few result_right arguments_right w.in-Some.fixed (sym c.fixed.ensures ∙ w.in-Some.is) (omega (arith, w.if-fixed-eq0.false)) (omega (arith, w.if-n-fixed.false, c.count-n.ensures)) (λ j from below. w.loop-i-2.invariant j from (omega (arith, below, w.loop-i-2-test.false, c.count-n.ensures)))
      | in_default-fixed w ↦ right_with_no_fixed sig few result_right arguments_right (sym c.fixed.ensures ∙ w.in_default-fixed.is)
    ]
