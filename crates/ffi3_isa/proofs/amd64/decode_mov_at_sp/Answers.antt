use Rattle.std.proofs.Common.{arith, w64, rules, FitsSigned}
use Rattle.std.proofs.lemmas.Int.{to_z-of_z}
use Rattle.ffi3_isa.proofs.Bytes.{names_sp, moves_at_sp, moves_only_at_sp}
use Rattle.ffi3_isa.proofs.amd64.decode_mov_at_sp.Goals as goal

pub returns-in_err-register-clause-only : goal.returns-in_err-register-clause-only
returns-in_err-register-clause-only c i n h =
    let no = c.in_err-register.ensures.only h.register (names_sp c.args.bytes.now i n h) in cc

pub returns-in-36-clause-listed : goal.returns-in-36-clause-listed
returns-in-36-clause-listed c =
    let fits : FitsSigned w64 c.displacement-d.result = search rules in
    let same = to_z-of_z w64 c.displacement-d.result fits in
    let offset = c.displacement-d.ensures in
    moves_at_sp c.args.bytes.now _ _ _ (omega arith) (omega arith) c.in_ok-register.ensures.listed c.in_ok-instr.ensures.value cc

pub returns-in-36-clause-only : goal.returns-in-36-clause-only
returns-in-36-clause-only c i n h =
    let fits : FitsSigned w64 c.displacement-d.result = search rules in
    let same = to_z-of_z w64 c.displacement-d.result fits in
    let offset = c.displacement-d.ensures in
    moves_only_at_sp c.args.bytes.now _ i n _ _ c.in_ok-register.ensures.only c.in_ok-instr.ensures.value (cc) h
