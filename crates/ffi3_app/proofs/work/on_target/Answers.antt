use Rattle.ffi3_type_spec.specs.declared.Target.TheVariants.{Amd64, Aapcs64, Riscv, Win64, Apple}
use Rattle.ffi3_script.specs.ScriptOf.{script_of}
use Rattle.ffi3_script_spec.specs.Handed.{handed}
use Rattle.ffi3_app.proofs.Working.{works_by}
use Rattle.ffi3_app.proofs.work.on_target.Goals as goal

pub returns-in-Amd64 : goal.returns-in-Amd64
returns-in-Amd64 g c =
    works_by (handed _ _ _ c.args.natives.now.items) (script_of c.args.script.now) (g.O.Sink.state c.args.output.now) (g.O.Sink.state c.by_standard.new.output) c.args.machine.now c.by_standard.new.machine c.by_standard.result c.args.task c.args.target Amd64 c.in-Amd64.is c.by_standard.ensures

pub returns-in-Aapcs64 : goal.returns-in-Aapcs64
returns-in-Aapcs64 g c =
    works_by (handed _ _ _ c.args.natives.now.items) (script_of c.args.script.now) (g.O.Sink.state c.args.output.now) (g.O.Sink.state c.by_standard-in-Aapcs64.new.output) c.args.machine.now c.by_standard-in-Aapcs64.new.machine c.by_standard-in-Aapcs64.result c.args.task c.args.target Aapcs64 c.in-Aapcs64.is c.by_standard-in-Aapcs64.ensures

pub returns-in-Riscv : goal.returns-in-Riscv
returns-in-Riscv g c =
    works_by (handed _ _ _ c.args.natives.now.items) (script_of c.args.script.now) (g.O.Sink.state c.args.output.now) (g.O.Sink.state c.by_standard-in-Riscv.new.output) c.args.machine.now c.by_standard-in-Riscv.new.machine c.by_standard-in-Riscv.result c.args.task c.args.target Riscv c.in-Riscv.is c.by_standard-in-Riscv.ensures

pub returns-in-Win64 : goal.returns-in-Win64
returns-in-Win64 g c =
    works_by (handed _ _ _ c.args.natives.now.items) (script_of c.args.script.now) (g.O.Sink.state c.args.output.now) (g.O.Sink.state c.by_standard-in-Win64.new.output) c.args.machine.now c.by_standard-in-Win64.new.machine c.by_standard-in-Win64.result c.args.task c.args.target Win64 c.in-Win64.is c.by_standard-in-Win64.ensures

pub returns-in-Apple : goal.returns-in-Apple
returns-in-Apple g c =
    works_by (handed _ _ _ c.args.natives.now.items) (script_of c.args.script.now) (g.O.Sink.state c.args.output.now) (g.O.Sink.state c.by_standard-in-Apple.new.output) c.args.machine.now c.by_standard-in-Apple.new.machine c.by_standard-in-Apple.result c.args.task c.args.target Apple c.in-Apple.is c.by_standard-in-Apple.ensures
