use Rattle.std.proofs.Common.{ap, sym, ◌∙◌}
use Rattle.ffi3_names_spec.specs.Scan.{names_in}
use Rattle.ffi3_cdecl.specs.TokenOf.{token_of, sign_of, found_of}
use Rattle.ffi3_names.specs.NamesOf.{names_of, spot_of}
use Rattle.ffi3_names.proofs.Turns.{turn_inside, turn_blank, turn_skipped, turn_token, nothing_more}
use Rattle.ffi3_names.proofs.names.pass.Goals as goal
use Rattle.ffi3_names.proofs.names.pass.Goals.{then-inside-gt0, else-inside-gt0+in-Blank, else-inside-gt0+in-Skipped, else-inside-gt0+in-Token+in_ok-spot-in-Token}

pub returns-in-Nothing : goal.returns-in-Nothing
returns-in-Nothing c =
    nothing_more (sign_of c.args.c) c.args.text.now c.loop-at.at c.loop-at.inside (spot_of c.loop-at.spot) (names_of c.loop-at.names.items) (names_in (sign_of c.args.c) c.args.text.now) c.loop-at-test.true c.if-inside-gt0.false (sym (ap found_of c.in-Nothing.is) ∙ c.found_in.ensures) c.loop-at.invariant

pub loop-at-preserved : goal.loop-at-preserved
loop-at-preserved c =
    let s = sign_of c.args.c in
    let bs = c.args.text.now in
    let at = c.loop-at.at in
    let inside = c.loop-at.inside in
    let more = c.if-inside-gt0.inside in
    let p = spot_of c.loop-at.spot in
    let q = spot_of c.if-inside-gt0.spot in
    let ns = names_of c.loop-at.names.items in
    let ms = names_of c.if-inside-gt0.names.items in
    let all = names_in s bs in
    let h = c.loop-at-test.true in
    elim c.if-inside-gt0.branch [
      | then-inside-gt0 w ↦ turn_inside s bs at inside more p q ns ms all h w.if-inside-gt0.true w.inside-is (ap spot_of w.spot-is) (ap (λ v. names_of v.items) w.names-is) c.loop-at.invariant
      | else-inside-gt0+in-Blank w ↦ turn_blank s bs at inside more p q ns ms all h w.if-inside-gt0.false w.inside-is (ap spot_of w.spot-is) (ap (λ v. names_of v.items) w.names-is) (sym (ap found_of w.in-Blank.is) ∙ w.found_in.ensures) c.loop-at.invariant
      | else-inside-gt0+in-Skipped w ↦ turn_skipped s bs at inside more w.in-Skipped.more p q ns ms all h w.if-inside-gt0.false w.inside-is (ap spot_of w.spot-is) (ap (λ v. names_of v.items) w.names-is) (sym (ap found_of w.in-Skipped.is) ∙ w.found_in.ensures) c.loop-at.invariant
      | else-inside-gt0+in-Token+in_ok-spot-in-Token w ↦ turn_token s bs at inside more w.in-Token.more (token_of w.in-Token.token) p q ns ms all h w.if-inside-gt0.false w.inside-is (ap spot_of w.spot-is ∙ w.in_ok-spot-in-Token.ensures.there) (ap (λ v. names_of v.items) w.names-is ∙ w.in_ok-spot-in-Token.ensures.put) (sym (ap found_of w.in-Token.is) ∙ w.found_in.ensures) c.loop-at.invariant
    ]
