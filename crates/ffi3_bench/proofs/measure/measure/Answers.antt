use Rattle.std.proofs.Common.{ap, ◌∙◌}
use Rattle.ffi3_script_spec.specs.Meaning.{program_of}
use Rattle.ffi3_script.specs.ScriptOf.{script_of}
use Rattle.ffi3_bench.proofs.Measuring.{line_is, never_fails, few_left, none_mapped, alone}
use Rattle.ffi3_bench.proofs.measure.measure.Goals as goal

pub unreachable-requires-in-Failed : goal.unreachable-requires-in-Failed
unreachable-requires-in-Failed g c =
    let std = g.A.Abi.standard in
    let none = ap (λ v. v.items) c.in_ok-runner.ensures.natives ∙ c.new-natives.ensures.items in
    never_fails std _ (program_of std (script_of c.args.script.now)) (alone std _ c.args.script.now _ c.in_ok-runner.ensures.script (none_mapped _ _ none)) c.new-line.result.taken c.run_main-end.new.output.taken c.new-line.result.faults c.run_main-end.new.output.faults c.new-line.ensures.taken c.new-line.ensures.faults c.requires.short c.taken-taken.ensures.full c.run_main-end.ensures.part (c.run_main-end.ensures.failed c.in-Failed.is)

pub overflow_sub-moves : goal.overflow_sub-moves
overflow_sub-moves g c =
    few_left _ c.moves_left.result (c.moves_left.ensures ∙ (c.run_main-end.ensures.left c.in-Done.is).moves)

pub returns-clause-line : goal.returns-clause-line
returns-clause-line g c =
    let std = g.A.Abi.standard in
    let none = ap (λ v. v.items) c.in_ok-runner.ensures.natives ∙ c.new-natives.ensures.items in
    line_is std _ (program_of std (script_of c.args.script.now)) (alone std _ c.args.script.now _ c.in_ok-runner.ensures.script (none_mapped _ _ none)) c.new-line.result.taken c.run_main-end.new.output.taken c.new-line.result.faults c.run_main-end.new.output.faults c.run_main-end.new.machine c.new-line.ensures.taken (c.run_main-end.ensures.done c.in-Done.is)
