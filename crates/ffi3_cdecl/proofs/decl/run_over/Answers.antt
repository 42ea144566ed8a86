use Rattle.std.proofs.Common.{◌≡◌, ◌+◌, drop, ap, sym, ◌∙◌, arith}
use Rattle.ffi3_cdecl.specs.TokenOf.{dialect_of, sign_of, token_of, found_of}
use Rattle.ffi3_cdecl.specs.PassOf.{pass_of, pass_over}
use Rattle.ffi3_cdecl.proofs.Turns.{turn_inside, turn_blank, turn_skipped, turn_token}
use Rattle.ffi3_cdecl.proofs.decl.run_over.Goals as goal
use Rattle.ffi3_cdecl.proofs.decl.run_over.Goals.{then-inside-gt0, else-inside-gt0+in-Blank, else-inside-gt0+in-Skipped, else-inside-gt0+in-Token+in_ok-pass-in-Token}

pub loop-at-preserved : goal.loop-at-preserved
loop-at-preserved c =
    let r = dialect_of c.args.r in
    let s = sign_of c.args.c in
    let bs = c.args.bytes.now in
    let at = c.loop-at.at in
    let p = pass_of c.loop-at.pass in
    let next : pass_over r s at c.loop-at.inside p (drop at bs) ≡ pass_over r s (at + 1) c.if-inside-gt0.inside (pass_of c.if-inside-gt0.pass) (drop (at + 1) bs) = elim c.if-inside-gt0.branch [
      | then-inside-gt0 w ↦
          turn_inside r s bs at c.loop-at.inside p (omega arith) (omega arith) ∙ ap (λ n. pass_over r s (at + 1) n p (drop (at + 1) bs)) (sym w.inside-is) ∙ ap (λ q. pass_over r s (at + 1) c.if-inside-gt0.inside (pass_of q) (drop (at + 1) bs)) (sym w.pass-is)
      | else-inside-gt0+in-Blank w ↦
          let none : c.loop-at.inside ≡ 0 = omega arith in
          ap (λ n. pass_over r s at n p (drop at bs)) none ∙ turn_blank r s bs at p (omega arith) (sym (ap found_of w.in-Blank.is) ∙ w.found_in.ensures) ∙ ap (λ n. pass_over r s (at + 1) n p (drop (at + 1) bs)) (sym (w.inside-is ∙ none)) ∙ ap (λ q. pass_over r s (at + 1) c.if-inside-gt0.inside (pass_of q) (drop (at + 1) bs)) (sym w.pass-is)
      | else-inside-gt0+in-Skipped w ↦
          let none : c.loop-at.inside ≡ 0 = omega arith in
          ap (λ n. pass_over r s at n p (drop at bs)) none ∙ turn_skipped r s bs at p w.in-Skipped.more (omega arith) (sym (ap found_of w.in-Skipped.is) ∙ w.found_in.ensures) ∙ ap (λ n. pass_over r s (at + 1) n p (drop (at + 1) bs)) (sym w.inside-is) ∙ ap (λ q. pass_over r s (at + 1) c.if-inside-gt0.inside (pass_of q) (drop (at + 1) bs)) (sym w.pass-is)
      | else-inside-gt0+in-Token+in_ok-pass-in-Token w ↦
          let none : c.loop-at.inside ≡ 0 = omega arith in
          ap (λ n. pass_over r s at n p (drop at bs)) none ∙ turn_token r s bs at p (token_of w.in-Token.token) w.in-Token.more (omega arith) (sym (ap found_of w.in-Token.is) ∙ w.found_in.ensures) ∙ ap (λ q. pass_over r s (at + 1) w.in-Token.more q (drop (at + 1) bs)) (sym w.in_ok-pass-in-Token.ensures) ∙ ap (λ n. pass_over r s (at + 1) n (pass_of w.in_ok-pass-in-Token.pass) (drop (at + 1) bs)) (sym w.inside-is) ∙ ap (λ q. pass_over r s (at + 1) c.if-inside-gt0.inside (pass_of q) (drop (at + 1) bs)) (sym w.pass-is)
    ] in
    sym next ∙ c.loop-at.invariant
