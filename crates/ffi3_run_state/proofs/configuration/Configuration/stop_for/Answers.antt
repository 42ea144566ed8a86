use Rattle.std.proofs.Common.{List, sym, subst}
use Rattle.ffi3_type_spec.specs.Signature.{Signature}
use Rattle.ffi3_run_state.specs.Going.{StoppedBy}
use Rattle.ffi3_run_state.proofs.Configuring.{stops_at}
use Rattle.ffi3_run_state.proofs.configuration.Configuration.stop_for.Goals as goal

pub returns-clause-turned : goal.returns-clause-turned
returns-clause-turned g c = λ p base all first own events machine asked signatures is does.
    let o = g.O.Sink.state c.args.output.now in
    let o' = g.O.Sink.state c.stop.new.output in
    let by = subst (λ (ss : List Signature). StoppedBy ss c.args.why o o' c.stop.result) (sym signatures) c.stop.ensures in
    stops_at p base all first own events c.args.self.now c.args.current machine o o' asked is c.args.why does c.stop.result by
