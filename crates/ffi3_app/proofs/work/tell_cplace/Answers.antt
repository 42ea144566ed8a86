use Rattle.std.proofs.Common.{refl}
use Rattle.ffi3_cdecl_spec.specs.Prototype.{read_as}
use Rattle.ffi3_cdecl_spec.specs.Reading.{reads}
use Rattle.ffi3_cdecl_spec.specs.Tokens.{signed}
use Rattle.ffi3_names_spec.specs.Scan.{names_in}
use Rattle.ffi3_app_spec.specs.Declarations.{a_text, cplace_text}
use Rattle.ffi3_app_spec.specs.Outcome.{tells, IsOfPrototype}
use Rattle.ffi3_app.proofs.Called.{are_called}
use Rattle.ffi3_app.proofs.Working.{no_prototype_works, text_works}
use Rattle.ffi3_app.proofs.work.tell_cplace.Goals as goal

pub returns-in-Ok : goal.returns-in-Ok
returns-in-Ok g c m =
    let d = c.in-Ok.declaration in
    let bytes = c.args.bytes.now in
    let names = names_in signed bytes in
    text_works (IsOfPrototype (λ names d. tells (cplace_text names d)) bytes) (cplace_text names d) (g.O.Sink.state c.args.output.now) (g.O.Sink.state c.cplace.new.output) m c.cplace.result c.written.result (a_text (read_as (reads d)), c.in-Ok.ensures.read, names, are_called bytes d c.in-Ok.ensures.read, refl) c.cplace.ensures c.written.ensures

pub returns-in-Err : goal.returns-in-Err
returns-in-Err g c m =
    no_prototype_works (λ names d. tells (cplace_text names d)) c.args.bytes.now (g.O.Sink.state c.args.output.now) m c.in-Err.end c.in-Err.ensures.refused
