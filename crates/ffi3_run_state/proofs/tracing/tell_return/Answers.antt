use Rattle.std.proofs.Common.{◌++◌, ◌∙◌, ap, subst}
use Rattle.ffi3_place_spec.specs.Event.{Event}
use Rattle.ffi3_values.specs.ValueOf.{value_of}
use Rattle.ffi3_text.specs.TraceLines.{keep_text_of, leave_text_of}
use Rattle.ffi3_run_state.specs.TraceLines.{last_event}
use Rattle.ffi3_io_spec.specs.Written.{WroteLine}
use Rattle.ffi3_run_state.proofs.Telling.{wrote_return}
use Rattle.ffi3_run_state.proofs.tracing.tell_return.Goals as goal

pub returns : goal.returns
returns g c =
    let o = g.O.Sink.state c.args.output.now in
    let o' = g.O.Sink.state c.write_event.new.output in
    let std = g.A.Abi.standard in
    let s = c.args.cif.now in
    let e = last_event c.args.machine.now.events in
    let v = value_of c.args.value.now in
    let stack = e.image.stack in
    let told = subst (λ (x : Event). WroteLine (c.as_slice.result.now ++ keep_text_of std x) o o' c.write_event.result) c.last-event.ensures (c.write_event.ensures stack) in
    let line = c.as_slice.ensures ∙ c.in-Ok.ensures stack ∙ ap (λ (x : Event). leave_text_of s x v) c.last-event.ensures in
    wrote_return c.args.trace c.if-not-trace.false std s e v c.as_slice.result.now o o' c.write_event.result line told
