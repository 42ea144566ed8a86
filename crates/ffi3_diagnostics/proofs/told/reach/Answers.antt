use Rattle.std.proofs.Common.{ap, sym, ◌∙◌}
use Rattle.ffi3_cdecl_spec.specs.Telling.{reach, nothing_reached}
use Rattle.ffi3_cdecl.specs.TokenOf.{token_of, sign_of, found_of}
use Rattle.ffi3_diagnostics.specs.ToldOf.{reached_of}
use Rattle.ffi3_diagnostics.proofs.Reaching.{turn_inside, turn_blank, turn_skipped, turn_token}
use Rattle.ffi3_diagnostics.proofs.told.reach.Goals as goal
use Rattle.ffi3_diagnostics.proofs.told.reach.Goals.{then-inside-gt0, else-inside-gt0+in-Blank, else-inside-gt0+in-Skipped, else-inside-gt0+in-Token+in_ok-q-in-Token}

pub loop-at-preserved : goal.loop-at-preserved
loop-at-preserved c =
    let s = sign_of c.args.c in
    let bs = c.args.bytes.now in
    let at = c.loop-at.at in
    let inside = c.loop-at.inside in
    let more = c.if-inside-gt0.inside in
    let stop = c.args.stop in
    let q = reached_of c.loop-at.q in
    let p = reached_of c.if-inside-gt0.q in
    let all = reach s stop 0 nothing_reached bs in
    let h = c.loop-at-test.true in
    let l = c.if-at-stop.false in
    elim c.if-inside-gt0.branch [
      | then-inside-gt0 w ↦ turn_inside s bs at inside more stop q p all h l w.if-inside-gt0.true w.inside-is (ap reached_of w.q-is) c.loop-at.invariant
      | else-inside-gt0+in-Blank w ↦ turn_blank s bs at inside more stop q p all h l w.if-inside-gt0.false w.inside-is (ap reached_of w.q-is) (sym (ap found_of w.in-Blank.is) ∙ w.found_in.ensures) c.loop-at.invariant
      | else-inside-gt0+in-Skipped w ↦ turn_skipped s bs at inside more stop w.in-Skipped.more q p all h l w.if-inside-gt0.false w.inside-is (ap reached_of w.q-is) (sym (ap found_of w.in-Skipped.is) ∙ w.found_in.ensures) c.loop-at.invariant
      | else-inside-gt0+in-Token+in_ok-q-in-Token w ↦ turn_token s bs at inside more stop w.in-Token.more (token_of w.in-Token.token) q p all h l w.if-inside-gt0.false w.inside-is (ap reached_of w.q-is ∙ w.in_ok-q-in-Token.ensures) (sym (ap found_of w.in-Token.is) ∙ w.found_in.ensures) c.loop-at.invariant
    ]
