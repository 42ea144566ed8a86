use Rattle.std.proofs.Common.{◌≡◌, ◌<◌, ℕ, true, false, Bool, List, [], ◌∷◌, length, nat_eq, refl, ap, sym, ◌∙◌, arith}
use Rattle.std.proofs.lemmas.Bool.{ne_eqb}
use Rattle.std.proofs.lemmas.Result.{IfOk-weaker}
use Rattle.std.specs.Prelude.{slice_index_or, if◌then◌else◌}
use Rattle.ffi3_type_spec.specs.Tree.{scalar, s64}
use Rattle.ffi3_type_spec.specs.Integer.{widened}
use Rattle.ffi3_type_spec.specs.Value.{ValueTree, void_value, fits, bytes_of}
use Rattle.ffi3_semantics_spec.specs.Move.{result_type_of, return}
use Rattle.ffi3_semantics_spec.specs.SeenActivation.{arguments_of}
use Rattle.ffi3_semantics_spec.specs.Follow.{IsOfType, ResultsFollow}
use Rattle.ffi3_runner_tests.specs.Hostile.{again_signature, again_behaviour, argument, once_less}
use Rattle.ffi3_runner_tests.proofs.again.AgainBody.next.Goals as goal

-- with no result, and a number that is not 0, it calls
calls : (arguments : List ValueTree) (user : ℕ) (rs : List ValueTree) → length rs ≡ 0 → nat_eq (widened s64 (bytes_of (argument arguments 1))) 0 ≡ false → once_less arguments ≡ again_behaviour arguments user rs
calls arguments user [] none other = rw other refl
calls arguments user (r ∷ rs) none other = absurd (omega arith)

-- a result that follows the first move has its type: after a return there is none
after_call : (arguments : List ValueTree) (r : ValueTree) (zero_now : Bool) → IsOfType r (result_type_of (again_signature ∷ []) (if zero_now then return (argument arguments 1) else once_less arguments)) → fits (scalar s64) r ≡ true
after_call arguments r true h = absurd h
after_call arguments r false h = h

-- the first result has its type
first_fits : (arguments : List ValueTree) (user : ℕ) (rs : List ValueTree) → ResultsFollow (again_signature ∷ []) again_behaviour arguments user rs → 0 < length rs → fits (scalar s64) (slice_index_or rs 0 void_value) ≡ true
first_fits arguments user [] follow some = absurd (omega arith)
first_fits arguments user (r ∷ rs) follow some =
    after_call arguments r (nat_eq (widened s64 (bytes_of (argument arguments 1))) 0) (follow 0 (omega arith))

pub returns-then-results-eq0-clause-is : goal.returns-then-results-eq0-clause-is
returns-then-results-eq0-clause-is c =
    let arguments = arguments_of c.args.seen.now in
    let number : c.widen.result ≡ widened s64 (bytes_of (argument arguments 1)) =
    c.widen.ensures ∙ ap (λ v. widened s64 (bytes_of v)) c.in_ok-n.ensures.is in
    let is_again : once_less arguments ≡ again_behaviour arguments c.args.seen.now.user c.args.seen.now.results =
    calls arguments c.args.seen.now.user c.args.seen.now.results (sym c.results.ensures ∙ c.if-results-eq0.true) (ne_eqb (widened s64 (bytes_of (argument arguments 1))) 0 (λ zero_now. c.if-widen-eq0.false (number ∙ zero_now))) in
    IfOk-weaker c.once_less.result _ _ (λ m h. h ∙ is_again) c.once_less.ensures.is

pub plus-requires : goal.plus-requires
plus-requires c =
    let arguments = arguments_of c.args.seen.now in
    let first : fits (scalar s64) (slice_index_or c.args.seen.now.results 0 void_value) ≡ true =
    first_fits arguments c.args.seen.now.user c.args.seen.now.results c.requires.follow (omega (arith, c.results.ensures, c.if-results-eq0.false)) in
    ap (fits (scalar s64)) c.result.ensures ∙ first
