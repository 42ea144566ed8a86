use Rattle.std.proofs.Common.{ap}
use Rattle.ffi3_script.specs.ScriptOf.{script_of}
use Rattle.ffi3_next_move.proofs.Handing.{same_program}
use Rattle.ffi3_app.proofs.Running.{failed_works, short_works}
use Rattle.ffi3_app.proofs.work.run_by.Goals as goal

pub returns-in-NoMemory : goal.returns-in-NoMemory
returns-in-NoMemory g c =
    short_works c.args.trace g.A.Abi.standard _ _ (same_program g.A.Abi.standard _ _ _ _ _ _ _ (ap (λ v. v.items) c.in-Ok.ensures.natives) (ap script_of c.in-Ok.ensures.script)) (g.O.Sink.state c.args.output.now) (g.O.Sink.state c.run_main.new.output) c.args.machine.now c.run_main.new.machine _ _ c.run_main.ensures.part (c.run_main.ensures.cut_by_memory c.in-NoMemory.is) (c.run_main.ensures.no_memory c.in-NoMemory.is)

pub returns : goal.returns
returns g c =
    failed_works c.args.trace g.A.Abi.standard _ _ (same_program g.A.Abi.standard _ _ _ _ _ _ _ (ap (λ v. v.items) c.in-Ok.ensures.natives) (ap script_of c.in-Ok.ensures.script)) (g.O.Sink.state c.args.output.now) (g.O.Sink.state c.run_main.new.output) c.args.machine.now c.run_main.new.machine _ _ c.run_main.ensures.part (c.run_main.ensures.cut_by_write c.in-Failed.is) (c.run_main.ensures.failed c.in-Failed.is)
