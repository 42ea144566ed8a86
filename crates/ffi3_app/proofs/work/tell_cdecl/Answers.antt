use Rattle.std.proofs.Common.{refl}
use Rattle.ffi3_cdecl_spec.specs.Prototype.{read_as}
use Rattle.ffi3_cdecl_spec.specs.Reading.{reads}
use Rattle.ffi3_app_spec.specs.Declarations.{a_text, cdecl_text}
use Rattle.ffi3_app_spec.specs.Outcome.{tells, IsOfDeclaration}
use Rattle.ffi3_app.proofs.Working.{no_declaration_works, text_works}
use Rattle.ffi3_app.proofs.work.tell_cdecl.Goals as goal

pub returns-in-Ok : goal.returns-in-Ok
returns-in-Ok g c m =
    let d = c.in-Ok.declaration in
    text_works (IsOfDeclaration (λ d. tells (cdecl_text d)) c.args.bytes.now) (cdecl_text d) (g.O.Sink.state c.args.output.now) (g.O.Sink.state c.cdecl.new.output) m c.cdecl.result c.written.result (a_text (read_as (reads d)), c.in-Ok.ensures.read, refl) c.cdecl.ensures c.written.ensures

pub returns-in-Err : goal.returns-in-Err
returns-in-Err g c m =
    no_declaration_works (λ d. tells (cdecl_text d)) c.args.bytes.now (g.O.Sink.state c.args.output.now) m c.in-Err.end c.in-Err.ensures.refused
