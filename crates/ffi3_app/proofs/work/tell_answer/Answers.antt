use Rattle.ffi3_app.proofs.Working.{answer_works, answer_refused}
use Rattle.ffi3_app.proofs.work.tell_answer.Goals as goal

pub returns-in-Ok-Text : goal.returns-in-Ok-Text
returns-in-Ok-Text g c m =
    answer_works c.args.question c.args.bytes.now _ c.in-Ok-Text.text _ (g.O.Sink.state c.args.output.now) (g.O.Sink.state c.write_lines.new.output) m c.write_lines.result c.written.result c.in-Ok-Text.field-0-is c.in-Ok-Text.ensures c.as_slice.ensures c.write_lines.ensures c.written.ensures

pub returns-in-Ok-Refusal : goal.returns-in-Ok-Refusal
returns-in-Ok-Refusal g c m =
    answer_refused c.args.question c.args.bytes.now _ c.in-Ok-Refusal.line (g.O.Sink.state c.args.output.now) m c.in-Ok-Refusal.field-0-is c.in-Ok-Refusal.ensures
