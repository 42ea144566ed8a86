use Rattle.std.proofs.Common.{◌≡◌, suc, arith}
use Rattle.ffi3_run_state.specs.declared.configuration.Turn.TheVariants as turn
use Rattle.ffi3_runner.proofs.Running.{comes_nowhere, comes_on, says}
use Rattle.ffi3_runner.proofs.prepare.Prepared.run_on.Goals as goal

pub loop-stop-init : goal.loop-stop-init
loop-stop-init g c = record {
  standing = c.requires.standing;
  between = c.requires.between;
  since = comes_nowhere _ c.args.trace _ c.args.configuration.now c.args.configuration.now c.args.configuration.now c.args.machine.now c.args.machine.now c.args.machine.now (g.O.Sink.state c.args.output.now) (g.O.Sink.state c.args.output.now) (g.O.Sink.state c.args.output.now);
}

pub turn-requires-clause-between : goal.turn-requires-clause-between
turn-requires-clause-between g c = let inv = c.loop-stop.invariant in inv.between

pub loop-stop-smaller : goal.loop-stop-smaller
loop-stop-smaller g c =
    let counted : c.loop-stop.configuration.moves ≡ suc c.turn.new.configuration.moves = c.turn.ensures.counted c.in-More.is in
    omega (arith, counted)

pub loop-stop-preserved : goal.loop-stop-preserved
loop-stop-preserved g c =
    let inv = c.loop-stop.invariant in
    record {
      standing = c.turn.ensures.standing c.in-More.is;
      between = (inv.between.0, inv.between.1, c.turn.ensures.between inv.between.0 inv.between.1 inv.between.2 c.in-More.is);
      since = comes_on g.A.Abi.standard c.args.trace _ c.args.configuration.now c.loop-stop.configuration c.turn.new.configuration c.args.machine.now c.loop-stop.machine c.turn.new.machine (g.O.Sink.state c.args.output.now) (g.O.Sink.state c.loop-stop.output) (g.O.Sink.state c.turn.new.output) inv.since c.turn.result c.turn.ensures.turned c.in-More.is;
    }

pub returns-in-Done : goal.returns-in-Done
returns-in-Done g c = λ base all first own events standard tracing h.
    let inv = c.loop-stop.invariant in
    (says g.A.Abi.standard c.args.trace _ c.args.configuration.now c.loop-stop.configuration c.turn.new.configuration c.args.machine.now c.loop-stop.machine c.turn.new.machine (g.O.Sink.state c.args.output.now) (g.O.Sink.state c.loop-stop.output) (g.O.Sink.state c.turn.new.output) inv.since c.turn.result c.turn.ensures.turned base all first own events standard tracing h turn.Done c.in-Done.is).done

pub returns-in-Stopped : goal.returns-in-Stopped
returns-in-Stopped g c = λ base all first own events standard tracing h.
    let inv = c.loop-stop.invariant in
    (says g.A.Abi.standard c.args.trace _ c.args.configuration.now c.loop-stop.configuration c.turn.new.configuration c.args.machine.now c.loop-stop.machine c.turn.new.machine (g.O.Sink.state c.args.output.now) (g.O.Sink.state c.loop-stop.output) (g.O.Sink.state c.turn.new.output) inv.since c.turn.result c.turn.ensures.turned base all first own events standard tracing h (turn.Stopped c.in-Stopped.stop) c.in-Stopped.is).ended

pub returns-in-NoMemory : goal.returns-in-NoMemory
returns-in-NoMemory g c = λ base all first own events standard tracing h.
    let inv = c.loop-stop.invariant in
    (says g.A.Abi.standard c.args.trace _ c.args.configuration.now c.loop-stop.configuration c.turn.new.configuration c.args.machine.now c.loop-stop.machine c.turn.new.machine (g.O.Sink.state c.args.output.now) (g.O.Sink.state c.loop-stop.output) (g.O.Sink.state c.turn.new.output) inv.since c.turn.result c.turn.ensures.turned base all first own events standard tracing h turn.NoMemory c.in-NoMemory.is).interrupted

pub returns-in-Failed : goal.returns-in-Failed
returns-in-Failed g c = λ base all first own events standard tracing h.
    let inv = c.loop-stop.invariant in
    (says g.A.Abi.standard c.args.trace _ c.args.configuration.now c.loop-stop.configuration c.turn.new.configuration c.args.machine.now c.loop-stop.machine c.turn.new.machine (g.O.Sink.state c.args.output.now) (g.O.Sink.state c.loop-stop.output) (g.O.Sink.state c.turn.new.output) inv.since c.turn.result c.turn.ensures.turned base all first own events standard tracing h turn.Failed c.in-Failed.is).interrupted
