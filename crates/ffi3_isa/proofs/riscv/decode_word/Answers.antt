use Rattle.std.proofs.Common.{◌≡◌, ◌+◌, ◌*◌, ◌^◌, arith, ◌∙◌, ap, w64, rules, FitsSigned, Some, ℤ}
use Rattle.std.proofs.lemmas.Int.{to_z-of_z}
use Rattle.ffi3_isa.specs.declared.Instr.TheVariants.{Auipc, Ld, Jalr, Addi, Sd, Fld, Fsd}
use Rattle.ffi3_isa.proofs.Words.{is_i, is_u, is_s, is_auipc, is_ld, is_jalr, is_addi, is_sd, is_fld, is_fsd, only_auipc, only_ld, only_jalr, only_addi, only_sd, only_fld, only_fsd}
use Rattle.ffi3_isa.specs.Fields.{sign_extend}
use Rattle.ffi3_isa.specs.Riscv.{IsI, IsU, IsS}
use Rattle.ffi3_isa.proofs.riscv.decode_word.Goals as goal

pub returns-in-23-default-clause-listed : goal.returns-in-23-default-clause-listed
returns-in-23-default-clause-listed c =
    let u : IsU c.args.word c.field-in-23-default.result c.field-rd.result 23 = is_u c.args.word c.field-in-23-default.result c.field-rd.result 23 (omega arith) (omega arith) (omega arith) (omega arith) in
    let fits : FitsSigned w64 c.sign_extend.result = search rules in
    let offset : c.sign_extend.result ≡ sign_extend 32 (c.field-in-23-default.result * 2 ^ 12) = grind arith in
    is_auipc _ _ _ _ u (to_z-of_z w64 _ fits ∙ offset)

pub returns-in-23-default-clause-only : goal.returns-in-23-default-clause-only
returns-in-23-default-clause-only c i is =
    let u : IsU c.args.word c.field-in-23-default.result c.field-rd.result 23 = is_u c.args.word c.field-in-23-default.result c.field-rd.result 23 (omega arith) (omega arith) (omega arith) (omega arith) in
    let fits : FitsSigned w64 c.sign_extend.result = search rules in
    let offset : c.sign_extend.result ≡ sign_extend 32 (c.field-in-23-default.result * 2 ^ 12) = grind arith in
    ap (λ (d : ℤ). Some (Auipc c.field-rd.result d)) (to_z-of_z w64 _ fits ∙ offset) ∙ ap Some (only_auipc _ _ _ i u is)

pub returns-in-3-eq3-clause-listed : goal.returns-in-3-eq3-clause-listed
returns-in-3-eq3-clause-listed c =
    let u : IsI c.args.word c.field.result c.field-rs.result 3 c.field-rd.result 3 = is_i c.args.word c.field.result c.field-rs.result 3 c.field-rd.result 3 (omega arith) (omega arith) (omega arith) (omega arith) (omega arith) (omega arith) in
    let fits : FitsSigned w64 c.sign_extend-d.result = search rules in
    is_ld _ _ _ _ _ u (to_z-of_z w64 _ fits ∙ c.sign_extend-d.ensures)

pub returns-in-3-eq3-clause-only : goal.returns-in-3-eq3-clause-only
returns-in-3-eq3-clause-only c i is =
    let u : IsI c.args.word c.field.result c.field-rs.result 3 c.field-rd.result 3 = is_i c.args.word c.field.result c.field-rs.result 3 c.field-rd.result 3 (omega arith) (omega arith) (omega arith) (omega arith) (omega arith) (omega arith) in
    let fits : FitsSigned w64 c.sign_extend-d.result = search rules in
    ap (λ (d : ℤ). Some (Ld c.field-rd.result c.field-rs.result d)) (to_z-of_z w64 _ fits ∙ c.sign_extend-d.ensures) ∙ ap Some (only_ld _ _ _ _ i u is)

pub returns-in-103-eq0-clause-listed : goal.returns-in-103-eq0-clause-listed
returns-in-103-eq0-clause-listed c =
    let u : IsI c.args.word c.field.result c.field-rs.result 0 c.field-rd.result 103 = is_i c.args.word c.field.result c.field-rs.result 0 c.field-rd.result 103 (omega arith) (omega arith) (omega arith) (omega arith) (omega arith) (omega arith) in
    let fits : FitsSigned w64 c.sign_extend-d.result = search rules in
    is_jalr _ _ _ _ _ u (to_z-of_z w64 _ fits ∙ c.sign_extend-d.ensures)

pub returns-in-103-eq0-clause-only : goal.returns-in-103-eq0-clause-only
returns-in-103-eq0-clause-only c i is =
    let u : IsI c.args.word c.field.result c.field-rs.result 0 c.field-rd.result 103 = is_i c.args.word c.field.result c.field-rs.result 0 c.field-rd.result 103 (omega arith) (omega arith) (omega arith) (omega arith) (omega arith) (omega arith) in
    let fits : FitsSigned w64 c.sign_extend-d.result = search rules in
    ap (λ (d : ℤ). Some (Jalr c.field-rd.result c.field-rs.result d)) (to_z-of_z w64 _ fits ∙ c.sign_extend-d.ensures) ∙ ap Some (only_jalr _ _ _ _ i u is)

pub returns-in-19-eq0-clause-listed : goal.returns-in-19-eq0-clause-listed
returns-in-19-eq0-clause-listed c =
    let u : IsI c.args.word c.field.result c.field-rs.result 0 c.field-rd.result 19 = is_i c.args.word c.field.result c.field-rs.result 0 c.field-rd.result 19 (omega arith) (omega arith) (omega arith) (omega arith) (omega arith) (omega arith) in
    let fits : FitsSigned w64 c.sign_extend-d.result = search rules in
    is_addi _ _ _ _ _ u (to_z-of_z w64 _ fits ∙ c.sign_extend-d.ensures)

pub returns-in-19-eq0-clause-only : goal.returns-in-19-eq0-clause-only
returns-in-19-eq0-clause-only c i is =
    let u : IsI c.args.word c.field.result c.field-rs.result 0 c.field-rd.result 19 = is_i c.args.word c.field.result c.field-rs.result 0 c.field-rd.result 19 (omega arith) (omega arith) (omega arith) (omega arith) (omega arith) (omega arith) in
    let fits : FitsSigned w64 c.sign_extend-d.result = search rules in
    ap (λ (d : ℤ). Some (Addi c.field-rd.result c.field-rs.result d)) (to_z-of_z w64 _ fits ∙ c.sign_extend-d.ensures) ∙ ap Some (only_addi _ _ _ _ i u is)

pub returns-in-35-eq3-clause-listed : goal.returns-in-35-eq3-clause-listed
returns-in-35-eq3-clause-listed c =
    let u : IsS c.args.word c.field-high.result c.field-low.result c.field-rs2.result c.field-rs.result 3 35 = is_s c.args.word c.field-high.result c.field-low.result c.field-rs2.result c.field-rs.result 3 35 (omega arith) (omega arith) (omega arith) (omega arith) (omega arith) (omega arith) (omega arith) in
    let fits : FitsSigned w64 c.sign_extend-apart.result = search rules in
    let offset : c.sign_extend-apart.result ≡ sign_extend 12 (c.field-high.result * 32 + c.field-low.result) = grind arith in
    is_sd _ _ _ _ _ _ u (to_z-of_z w64 _ fits ∙ offset)

pub returns-in-35-eq3-clause-only : goal.returns-in-35-eq3-clause-only
returns-in-35-eq3-clause-only c i is =
    let u : IsS c.args.word c.field-high.result c.field-low.result c.field-rs2.result c.field-rs.result 3 35 = is_s c.args.word c.field-high.result c.field-low.result c.field-rs2.result c.field-rs.result 3 35 (omega arith) (omega arith) (omega arith) (omega arith) (omega arith) (omega arith) (omega arith) in
    let fits : FitsSigned w64 c.sign_extend-apart.result = search rules in
    let offset : c.sign_extend-apart.result ≡ sign_extend 12 (c.field-high.result * 32 + c.field-low.result) = grind arith in
    ap (λ (d : ℤ). Some (Sd c.field-rs2.result c.field-rs.result d)) (to_z-of_z w64 _ fits ∙ offset) ∙ ap Some (only_sd _ _ _ _ _ i u is)

pub returns-in-7-eq3-clause-listed : goal.returns-in-7-eq3-clause-listed
returns-in-7-eq3-clause-listed c =
    let u : IsI c.args.word c.field.result c.field-rs.result 3 c.field-rd.result 7 = is_i c.args.word c.field.result c.field-rs.result 3 c.field-rd.result 7 (omega arith) (omega arith) (omega arith) (omega arith) (omega arith) (omega arith) in
    let fits : FitsSigned w64 c.sign_extend-d.result = search rules in
    is_fld _ _ _ _ _ u (to_z-of_z w64 _ fits ∙ c.sign_extend-d.ensures)

pub returns-in-7-eq3-clause-only : goal.returns-in-7-eq3-clause-only
returns-in-7-eq3-clause-only c i is =
    let u : IsI c.args.word c.field.result c.field-rs.result 3 c.field-rd.result 7 = is_i c.args.word c.field.result c.field-rs.result 3 c.field-rd.result 7 (omega arith) (omega arith) (omega arith) (omega arith) (omega arith) (omega arith) in
    let fits : FitsSigned w64 c.sign_extend-d.result = search rules in
    ap (λ (d : ℤ). Some (Fld c.field-rd.result c.field-rs.result d)) (to_z-of_z w64 _ fits ∙ c.sign_extend-d.ensures) ∙ ap Some (only_fld _ _ _ _ i u is)

pub returns-in-39-eq3-clause-listed : goal.returns-in-39-eq3-clause-listed
returns-in-39-eq3-clause-listed c =
    let u : IsS c.args.word c.field-high.result c.field-low.result c.field-rs2.result c.field-rs.result 3 39 = is_s c.args.word c.field-high.result c.field-low.result c.field-rs2.result c.field-rs.result 3 39 (omega arith) (omega arith) (omega arith) (omega arith) (omega arith) (omega arith) (omega arith) in
    let fits : FitsSigned w64 c.sign_extend-apart.result = search rules in
    let offset : c.sign_extend-apart.result ≡ sign_extend 12 (c.field-high.result * 32 + c.field-low.result) = grind arith in
    is_fsd _ _ _ _ _ _ u (to_z-of_z w64 _ fits ∙ offset)

pub returns-in-39-eq3-clause-only : goal.returns-in-39-eq3-clause-only
returns-in-39-eq3-clause-only c i is =
    let u : IsS c.args.word c.field-high.result c.field-low.result c.field-rs2.result c.field-rs.result 3 39 = is_s c.args.word c.field-high.result c.field-low.result c.field-rs2.result c.field-rs.result 3 39 (omega arith) (omega arith) (omega arith) (omega arith) (omega arith) (omega arith) (omega arith) in
    let fits : FitsSigned w64 c.sign_extend-apart.result = search rules in
    let offset : c.sign_extend-apart.result ≡ sign_extend 12 (c.field-high.result * 32 + c.field-low.result) = grind arith in
    ap (λ (d : ℤ). Some (Fsd c.field-rs2.result c.field-rs.result d)) (to_z-of_z w64 _ fits ∙ offset) ∙ ap Some (only_fsd _ _ _ _ _ i u is)
