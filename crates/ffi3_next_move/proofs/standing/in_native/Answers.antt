use Rattle.std.proofs.Common.{◌≡◌, ◌-◌, length, refl, arith}
use Rattle.ffi3_script.specs.ScriptOf.{script_of}
use Rattle.ffi3_next_move.proofs.Asked.{handed_stands}
use Rattle.ffi3_next_move.proofs.standing.in_native.Goals as goal

pub returns : goal.returns
returns g c =
    let s = c.args.script.now in
    let k = c.args.number in
    let j : k - c.functions.result ≡ k - length (script_of s).functions = omega (arith, c.functions.ensures.are) in
    record {
      who = refl;
      agrees = λ std a own none. handed_stands std _ s k c.first_of.result (k - c.functions.result) _ a j c.requires.above c.native_at.ensures c.first_of.ensures c.sigs_of.ensures.some own none;
    }
