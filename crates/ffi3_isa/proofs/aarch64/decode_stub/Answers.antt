use Rattle.std.proofs.Common.{arith, ◌∙◌}
use Rattle.ffi3_isa.proofs.Words.{is_immediate, stub_listed, is_blr, is_ret, only_table}
use Rattle.ffi3_isa.proofs.aarch64.decode_stub.Goals as goal

pub returns-then-t-eq0-clause-listed : goal.returns-then-t-eq0-clause-listed
returns-then-t-eq0-clause-listed c =
    is_blr c.args.word c.field-n.result c.field-t.result c.field-top.result (omega arith) (omega arith) (omega arith) (omega arith) (omega arith) (omega arith)

pub returns-then-t-eq0-2-clause-listed : goal.returns-then-t-eq0-2-clause-listed
returns-then-t-eq0-2-clause-listed c =
    is_ret c.args.word c.field-n.result c.field-t.result c.field-top.result (omega arith) (omega arith) (omega arith) (omega arith) (omega arith) (omega arith)

pub returns-clause-listed : goal.returns-clause-listed
returns-clause-listed c =
    stub_listed c.args.word c.field-op.result c.field-imm12.result c.field-n.result c.field-t.result c.immediate.result (is_immediate c.args.word c.field-op.result c.field-imm12.result c.field-n.result c.field-t.result (omega arith) (omega arith) (omega arith) (omega arith) (omega arith)) c.immediate.ensures.value

pub returns-clause-only : goal.returns-clause-only
returns-clause-only c i is =
    c.immediate.ensures.value ∙ only_table c.args.word i c.field-op.result c.field-imm12.result c.field-n.result c.field-t.result c.field-top.result (is_immediate c.args.word c.field-op.result c.field-imm12.result c.field-n.result c.field-t.result (omega arith) (omega arith) (omega arith) (omega arith) (omega arith)) (omega arith) (λ e f. absurd (grind arith)) (λ e f. absurd (grind arith)) is
