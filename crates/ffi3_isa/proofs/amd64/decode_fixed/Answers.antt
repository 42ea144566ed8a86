use Rattle.std.proofs.Common.{arith, ◌∙◌, w64, rules, FitsSigned}
use Rattle.std.proofs.lemmas.Int.{to_z-of_z}
use Rattle.ffi3_isa.proofs.Bytes.{is_lea_sp, is_call, is_ret}
use Rattle.ffi3_isa.proofs.amd64.decode_fixed.Goals as goal

pub returns-in-72-clause-listed : goal.returns-in-72-clause-listed
returns-in-72-clause-listed c =
    let fits : FitsSigned w64 c.displacement-d.result = search rules in
    is_lea_sp c.args.bytes.now _ (omega arith) (omega arith) (omega arith) (omega arith) (omega arith) (to_z-of_z w64 _ fits ∙ c.displacement-d.ensures)

pub returns-in-65-clause-listed : goal.returns-in-65-clause-listed
returns-in-65-clause-listed c =
    let fits : FitsSigned w64 c.displacement-d-in-65.result = search rules in
    is_call c.args.bytes.now _ (omega arith) (omega arith) (omega arith) (omega arith) (to_z-of_z w64 _ fits ∙ c.displacement-d-in-65.ensures)

pub returns-in-195-clause-listed : goal.returns-in-195-clause-listed
returns-in-195-clause-listed c = is_ret c.args.bytes.now (omega arith) (omega arith)
