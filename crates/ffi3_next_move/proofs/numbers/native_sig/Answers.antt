use Rattle.ffi3_script.specs.ScriptOf.{script_of}
use Rattle.ffi3_next_move.proofs.Numbering.{sig_of_native, sig_of_native_below}
use Rattle.ffi3_next_move.proofs.numbers.native_sig.Goals as goal

pub returns-clause-is : goal.returns-clause-is
returns-clause-is g c std =
    sig_of_native std _ (script_of c.args.script.now) c.args.number c.first_of.result c.args.j _ c.requires.here c.native_at.ensures c.first_of.ensures

pub returns-clause-below : goal.returns-clause-below
returns-clause-below g c std =
    sig_of_native_below std _ (script_of c.args.script.now) c.args.number c.first_of.result c.args.j _ c.requires.here c.native_at.ensures c.first_of.ensures c.sigs_of.ensures.some
