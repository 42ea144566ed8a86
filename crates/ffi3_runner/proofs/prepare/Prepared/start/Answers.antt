use Rattle.std.proofs.Common.{false, None, Some, refl}
use Rattle.ffi3_io_spec.specs.Sink.{SinkState}
use Rattle.ffi3_next_move.specs.declared.standing.Standing.{Standing}
use Rattle.ffi3_run_state.specs.declared.activation.Activation.{Activation}
use Rattle.ffi3_run_state.specs.declared.activation.Who.TheVariants.{Main}
use Rattle.ffi3_runner.proofs.Main.{main_stands, start_between, starts_here}
use Rattle.ffi3_runner.proofs.prepare.Prepared.start.Goals as goal

pub returns-clause-standing : goal.returns-clause-standing
returns-clause-standing g c = λ m.
    let b = c.args.configuration.now in
    let a : Activation Standing = record { who = Main; standing = c.in_main.result; user = 0; results = c.new.result } in
    main_stands c.args.self.now.script.now _ c.args.self.now.cifs m b c.requires.new a refl c.new.ensures c.in_main.ensures.who (c.in_main.ensures.agrees _)

pub returns-clause-between : goal.returns-clause-between
returns-clause-between g c = λ trace m o begins.
    let b = c.args.configuration.now in
    let a : Activation Standing = record { who = Main; standing = c.in_main.result; user = 0; results = c.new.result } in
    starts_here g.A.Abi.standard c.args.self.now.script.now _ c.args.self.now.cifs c.requires.prepared g.met.A.Abi.agrees _ g.met.A.Abi.target_is m.spare_events m.spare_bytes m begins o b c.requires.new a refl refl c.new.ensures trace

pub returns-clause-goes_on : goal.returns-clause-goes_on
returns-clause-goes_on g c = λ m begins.
    let b = c.args.configuration.now in
    let o : SinkState = record { taken = None; faults = 0 } in
    let a : Activation Standing = record { who = Main; standing = c.in_main.result; user = 0; results = c.new.result } in
    start_between g.A.Abi.standard c.args.self.now.script.now _ c.args.self.now.cifs c.requires.prepared false m o (record b { innermost = Some a }) (starts_here g.A.Abi.standard c.args.self.now.script.now _ c.args.self.now.cifs c.requires.prepared g.met.A.Abi.agrees _ g.met.A.Abi.target_is m.spare_events m.spare_bytes m begins o b c.requires.new a refl refl c.new.ensures false)
