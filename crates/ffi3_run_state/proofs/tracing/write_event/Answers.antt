use Rattle.std.proofs.Common.{ℕ, List, ◌++◌, ◌∙◌, subst}
use Rattle.ffi3_io_spec.specs.Written.{LineFailed}
use Rattle.ffi3_run_state.proofs.Telling.{failed_first, failed_then, took_both}
use Rattle.ffi3_io_spec.specs.Written.{TookText}
use Rattle.ffi3_run_state.proofs.tracing.write_event.Goals as goal

pub returns-in_default-write_all : goal.returns-in_default-write_all
returns-in_default-write_all g c = λ stack.
    failed_first (g.O.Sink.state c.args.output.now) (g.O.Sink.state c.write_all.new.output) c.args.line.now _ c.in_default-write_all.ensures.part c.in_default-write_all.ensures.failed c.in_default-write_all.ensures.never_falls

pub returns-in_default-write_all-2 : goal.returns-in_default-write_all-2
returns-in_default-write_all-2 g c = λ stack.
    let o = g.O.Sink.state c.args.output.now in
    let o' = g.O.Sink.state c.write_all-2.new.output in
    let failed = failed_then o (g.O.Sink.state c.write_all.new.output) o' c.args.line.now c.as_slice.result.now c.in-Ok-write_all.ensures.adds c.in-Ok-write_all.ensures.same c.in_default-write_all-2.ensures.part c.in_default-write_all-2.ensures.failed c.in_default-write_all-2.ensures.never_falls in
    subst (λ (l : List ℕ). LineFailed (c.args.line.now ++ l) o o') (c.as_slice.ensures ∙ c.in-Ok.ensures stack) failed

pub returns : goal.returns
returns g c = λ stack.
    let o = g.O.Sink.state c.args.output.now in
    let o' = g.O.Sink.state c.write_all-2.new.output in
    let took = took_both o (g.O.Sink.state c.write_all.new.output) o' c.args.line.now c.as_slice.result.now c.in-Ok-write_all.ensures.adds c.in-Ok-write_all.ensures.same c.in-Ok-write_all-2.ensures.adds c.in-Ok-write_all-2.ensures.same in
    subst (λ (l : List ℕ). TookText (c.args.line.now ++ l) o o') (c.as_slice.ensures ∙ c.in-Ok.ensures stack) took
