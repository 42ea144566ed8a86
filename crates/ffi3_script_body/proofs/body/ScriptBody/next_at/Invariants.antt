use Rattle.std.proofs.Common.{◌≡◌}
use Rattle.ffi3_script_body.specs.Agrees.{Agrees, passed}
use Rattle.ffi3_script_body.proofs.body.ScriptBody.next_at.Given as goal

abbrev pub invariant-loop : goal.invariant-loop
invariant-loop l = Agrees l.self l.seen l.cursor × (passed l.cursor ≡ l.counter)
