use Rattle.std.proofs.Common.{drop, [], ◌∷◌, ◌++◌, map}
use Rattle.ffi3_type_spec.specs.Signature.{at_result}
use Rattle.ffi3_text_spec.specs.PlaceLines.{place_text_of}
use Rattle.std.specs.List.{concat}
use Rattle.ffi3_names.specs.NamesOf.{names_of}
use Rattle.ffi3_app_spec.specs.Commands.{arguments_from}
use Rattle.ffi3_app_spec.specs.Declarations.{named_lines, named_text_of}
use Rattle.ffi3_app.proofs.Pieces.{Continues}
use Rattle.ffi3_app.proofs.place.place_of.Given as goal

abbrev pub invariant-loop-j : goal.invariant-loop-j
invariant-loop-j g l =
    let std = g.A.Abi.standard in
    let names = names_of l.names.items in
    Continues (concat (named_lines names std l.number l.placed)) (concat (map (named_text_of names std l.placed) (arguments_from l.j (drop l.j l.placed.arguments)) ++ place_text_of std l.placed at_result ∷ [])) (g.O.Sink.state l.fn.output) (g.O.Sink.state l.output)
