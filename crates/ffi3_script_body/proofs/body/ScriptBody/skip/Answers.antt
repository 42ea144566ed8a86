use Rattle.std.proofs.Common.{◌≡◌, ◌≤◌, vec_len, length, refl, sym, arith}
use Rattle.std.proofs.lemmas.Bool.{eqb-true}
use Rattle.std.proofs.lemmas.List.{nil_from_length}
use Rattle.ffi3_script_body.proofs.Agreed.{skipped_agrees}
use Rattle.ffi3_script_body.proofs.body.ScriptBody.skip.Goals as goal

pub returns-then-cursor-self : goal.returns-then-cursor-self
returns-then-cursor-self c =
    let b = c.args.self.now in
    let a = c.args.seen.now in
    let marks = c.args.cursor.now.marks in
    let few : c.min-first.result ≤ b.always = omega (arith, c.min-first.ensures) in
    let within : c.min-first.result ≤ length a.results = omega (arith, c.min-first.ensures, c.results.ensures) in
    let empty : vec_len marks ≡ 0 = eqb-true (vec_len marks) 0 (sym c.if-is_empty.ensures) in
    let none : length marks.items ≡ 0 = omega (arith, empty) in
    record {
      agrees = skipped_agrees b a _ c.min-first.result c.requires.own c.requires.follow few within refl (nil_from_length marks.items none) refl refl;
    }
