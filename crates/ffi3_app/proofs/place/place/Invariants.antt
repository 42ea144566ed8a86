use Rattle.std.proofs.Common.{drop}
use Rattle.ffi3_script.specs.ScriptOf.{script_of}
use Rattle.std.specs.List.{concat}
use Rattle.ffi3_app_spec.specs.Commands.{lines_from, place_lines, place_text}
use Rattle.ffi3_app.proofs.Pieces.{Continues}
use Rattle.ffi3_app.proofs.place.place.Given as goal

abbrev pub invariant-loop-i : goal.invariant-loop-i
invariant-loop-i g l =
    let std = g.A.Abi.standard in
    Continues (place_text std (script_of l.script)) (concat (lines_from (place_lines std) l.i (drop l.i (script_of l.script).signatures))) (g.O.Sink.state l.fn.output) (g.O.Sink.state l.output)
