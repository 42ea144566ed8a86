use Rattle.std.proofs.Common.{drop, [], map, ◌++◌}
use Rattle.ffi3_text_spec.specs.LayoutLines.{layout_text_of}
use Rattle.std.specs.List.{concat}
use Rattle.ffi3_app_spec.specs.Commands.{layout_lines, arguments_from}
use Rattle.ffi3_app.proofs.Pieces.{Continues}
use Rattle.ffi3_app.proofs.layout.layout_of.Given as goal

abbrev pub invariant-loop-j : goal.invariant-loop-j
invariant-loop-j g l =
    Continues (concat (layout_lines l.number l.sig)) (concat (map (layout_text_of l.number l.sig) (arguments_from l.j (drop l.j l.sig.arguments)) ++ [])) (g.O.Sink.state l.fn.output) (g.O.Sink.state l.output)
