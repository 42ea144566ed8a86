use Rattle.std.proofs.Common.{◌≡◌, length, arith}
use Rattle.ffi3_script.specs.ScriptOf.{script_of}
use Rattle.ffi3_next_move.proofs.Numbering.{all_before}
use Rattle.ffi3_next_move.proofs.Asked.{mapped_count}
use Rattle.ffi3_next_move.proofs.numbers.signatures.Goals as goal

pub returns : goal.returns
returns g c std =
    let count : c.len.result ≡ length c.args.natives.now.items = omega arith in
    all_before std _ (script_of c.args.script.now) c.len.result c.first_of.result (mapped_count _ c.args.natives.now.items c.len.result count) c.first_of.ensures
