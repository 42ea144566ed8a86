use Rattle.std.proofs.Common.{arith, ◌∙◌, w64, rules, FitsSigned}
use Rattle.std.proofs.lemmas.Int.{to_z-of_z}
use Rattle.ffi3_isa.proofs.Bytes.{is_endbr64, is_jmp, is_nop, is_lea, none_named}
use Rattle.ffi3_isa.proofs.amd64.decode_trampoline.Goals as goal

pub returns-in-243-clause-listed : goal.returns-in-243-clause-listed
returns-in-243-clause-listed c =
    is_endbr64 c.args.bytes.now (omega arith) (omega arith) (omega arith) (omega arith) (omega arith)

pub returns-in-255-clause-listed : goal.returns-in-255-clause-listed
returns-in-255-clause-listed c =
    let fits : FitsSigned w64 c.displacement-d.result = search rules in
    is_jmp c.args.bytes.now _ (omega arith) (omega arith) (omega arith) (to_z-of_z w64 _ fits ∙ c.displacement-d.ensures)

pub returns-in-15-clause-listed : goal.returns-in-15-clause-listed
returns-in-15-clause-listed c =
    is_nop c.args.bytes.now (omega arith) (omega arith) (omega arith) (omega arith)

pub returns-in_err-reg-clause-only : goal.returns-in_err-reg-clause-only
returns-in_err-reg-clause-only c i n is =
    absurd (none_named c.args.bytes.now i n (omega arith) (λ register names. let no = c.in_err-reg.ensures.only register names in cc) is)

pub returns-in-141-clause-listed : goal.returns-in-141-clause-listed
returns-in-141-clause-listed c =
    let fits : FitsSigned w64 c.displacement-d-in-141.result = search rules in
    is_lea c.args.bytes.now _ _ (omega arith) (omega arith) c.in_ok-reg.ensures.listed (to_z-of_z w64 _ fits ∙ c.displacement-d-in-141.ensures)
