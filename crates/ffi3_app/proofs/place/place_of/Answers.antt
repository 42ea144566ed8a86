use Rattle.std.proofs.Common.{rules, ◌≡◌, ◌++◌, [], ◌∷◌, map, refl, ◌∙◌}
use Rattle.std.specs.Prelude.{Err, get_or}
use Rattle.std.proofs.lemmas.List.{append-nil}
use Rattle.ffi3_type_spec.specs.Signature.{at_result, at_argument}
use Rattle.ffi3_type_spec.specs.Tree.{void}
use Rattle.ffi3_text_spec.specs.PlaceLines.{sig_text_of, place_text_of}
use Rattle.std.specs.List.{concat}
use Rattle.ffi3_names.specs.NamesOf.{names_of}
use Rattle.ffi3_app_spec.specs.Commands.{arguments_from}
use Rattle.ffi3_app_spec.specs.Declarations.{named_lines, named_text_of}
use Rattle.ffi3_app.proofs.Named.{line_named}
use Rattle.ffi3_app.proofs.Pieces.{continues_from, continues_on, continues_ended, continues_last, argument_at, arguments_end}
use Rattle.ffi3_app.proofs.place.place_of.Goals as goal

pub returns-in_err-write_made_line : goal.returns-in_err-write_made_line
returns-in_err-write_made_line g c =
    let std = g.A.Abi.standard in
    let s = c.args.placed.now in
    let n = c.args.number in
    let names = names_of c.args.names.now.items in
    let whole = concat (named_lines names std n s) in
    let ended : c.from_residual.result ≡ Err c.in_err-write_made_line.field-0.0 = search rules in
    continues_ended whole whole _ _ (continues_from whole _) (sig_text_of n std s) (concat (map (named_text_of names std s) (arguments_from 0 s.arguments) ++ place_text_of std s at_result ∷ [])) _ _ _ refl (c.in_err-write_made_line.ensures (sig_text_of n std s) c.sig_line.ensures) ended

pub loop-j-init : goal.loop-j-init
loop-j-init g c =
    let std = g.A.Abi.standard in
    let s = c.args.placed.now in
    let n = c.args.number in
    let names = names_of c.args.names.now.items in
    let whole = concat (named_lines names std n s) in
    continues_on whole whole _ _ (continues_from whole _) (sig_text_of n std s) (concat (map (named_text_of names std s) (arguments_from 0 s.arguments) ++ place_text_of std s at_result ∷ [])) _ refl (c.in_ok-write_made_line.ensures (sig_text_of n std s) c.sig_line.ensures)

pub returns-in_err-write_made_line-2 : goal.returns-in_err-write_made_line-2
returns-in_err-write_made_line-2 g c =
    let std = g.A.Abi.standard in
    let s = c.args.placed.now in
    let names = names_of c.args.names.now.items in
    let j = c.loop-j.j in
    let ended : c.from_residual-in_err-write_made_line-2.result ≡ Err c.in_err-write_made_line-2.field-0.0 = search rules in
    continues_ended _ _ _ _ c.loop-j.invariant (named_text_of names std s (at_argument j)) _ _ _ _ (argument_at (named_text_of names std s) s.arguments (place_text_of std s at_result ∷ []) j void (search rules)) (c.in_err-write_made_line-2.ensures (named_text_of names std s (at_argument j)) (line_named std s j c.name_at-name.result.now (get_or names j []) c.argument_line.result c.name_at-name.ensures c.argument_line.ensures)) ended

pub loop-j-preserved : goal.loop-j-preserved
loop-j-preserved g c =
    let std = g.A.Abi.standard in
    let s = c.args.placed.now in
    let names = names_of c.args.names.now.items in
    let j = c.loop-j.j in
    continues_on _ _ _ _ c.loop-j.invariant (named_text_of names std s (at_argument j)) _ _ (argument_at (named_text_of names std s) s.arguments (place_text_of std s at_result ∷ []) j void (search rules)) (c.in_ok-write_made_line-2.ensures (named_text_of names std s (at_argument j)) (line_named std s j c.name_at-name.result.now (get_or names j []) c.argument_line.result c.name_at-name.ensures c.argument_line.ensures))

pub returns : goal.returns
returns g c =
    let std = g.A.Abi.standard in
    let s = c.args.placed.now in
    let names = names_of c.args.names.now.items in
    continues_last _ _ _ _ c.loop-j.invariant (place_text_of std s at_result) _ _ (arguments_end (named_text_of names std s) s.arguments (place_text_of std s at_result ∷ []) c.loop-j.j (search rules) ∙ append-nil (place_text_of std s at_result)) (c.write_made_line-2.ensures (place_text_of std s at_result) c.place_line.ensures)
