use Rattle.std.proofs.Common.{◌≡◌, ◌+◌, ◌*◌, arith, ◌∙◌, w64, sym, ap, rules, FitsSigned, Some}
use Rattle.std.proofs.lemmas.Int.{to_z-of_z}
use Rattle.ffi3_isa.specs.Fields.{sign_extend}
use Rattle.ffi3_isa.proofs.Words.{is_literal, is_adr, is_br, only_adr}
use Rattle.ffi3_isa.proofs.aarch64.decode_trampoline.Goals as goal

pub returns-then-field-eq88-clause-listed : goal.returns-then-field-eq88-clause-listed
returns-then-field-eq88-clause-listed c =
    let fits : FitsSigned w64 c.sign_extend.result = search rules in
    let offset : c.sign_extend.result ≡ sign_extend 21 (c.field-imm19.result * 4) = grind arith in
    is_literal c.args.word c.field-imm19.result c.field-register.result c.field.result _ (omega arith) (omega arith) (omega arith) (omega arith) (omega arith) (to_z-of_z w64 _ fits ∙ offset)

pub returns-then-field-eq16-clause-listed : goal.returns-then-field-eq16-clause-listed
returns-then-field-eq16-clause-listed c =
    let fits : FitsSigned w64 c.sign_extend-then-field-eq16.result = search rules in
    let offset : c.sign_extend-then-field-eq16.result ≡ sign_extend 21 (c.field-imm19.result * 4 + c.field-then-field-eq16.result) = grind arith in
    is_adr c.args.word c.field-then-field-eq16.result c.field-imm19.result c.field-register.result c.field-2.result c.field-then-field-eq0.result _ (omega arith) (omega arith) (omega arith) (omega arith) (omega arith) (omega arith) (omega arith) (omega arith) (to_z-of_z w64 _ fits ∙ offset)

pub returns-then-field-eq16-clause-only : goal.returns-then-field-eq16-clause-only
returns-then-field-eq16-clause-only c i is =
    let fits : FitsSigned w64 c.sign_extend-then-field-eq16.result = search rules in
    let offset : c.sign_extend-then-field-eq16.result ≡ sign_extend 21 (c.field-imm19.result * 4 + c.field-then-field-eq16.result) = grind arith in
    ap Some (sym (only_adr c.args.word i c.field-then-field-eq16.result c.field-imm19.result c.field-register.result c.field-2.result c.field-then-field-eq0.result _ (omega arith) (omega arith) (omega arith) (omega arith) (omega arith) (omega arith) (omega arith) (omega arith) (to_z-of_z w64 _ fits ∙ offset) is))

pub returns-then-register-eq0-clause-listed : goal.returns-then-register-eq0-clause-listed
returns-then-register-eq0-clause-listed c =
    is_br c.args.word c.field-then-register-eq0.result c.field-register.result c.field-3.result (omega arith) (omega arith) (omega arith) (omega arith) (omega arith) (omega arith)
