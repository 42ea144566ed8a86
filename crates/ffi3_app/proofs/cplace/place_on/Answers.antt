use Rattle.std.proofs.Common.{rules, ◌≡◌, ◌∙◌, ap, sym, subst, refl}
use Rattle.std.specs.Prelude.{Err}
use Rattle.std.specs.List.{concat}
use Rattle.ffi3_type_spec.specs.Signature.{SignatureIsPlaced}
use Rattle.ffi3_format_spec.specs.Format.{format_of, resolved_signature}
use Rattle.ffi3_explain_spec.specs.Standards.{standard_of}
use Rattle.ffi3_names.specs.NamesOf.{names_of}
use Rattle.ffi3_app_spec.specs.Declarations.{named_lines, placed_on, target_line}
use Rattle.ffi3_app.proofs.Pieces.{continues_from, continues_on, continues_ended, continues_last, wrote_for}
use Rattle.ffi3_app.proofs.cplace.place_on.Goals as goal

pub returns-in_err-write_made_line : goal.returns-in_err-write_made_line
returns-in_err-write_made_line g c =
    let t = c.args.target in
    let s = resolved_signature (format_of t) c.args.sig.now in
    let names = names_of c.args.names.now.items in
    let whole = placed_on names c.args.sig.now t in
    let ended : c.from_residual-in_err-write_made_line.result ≡ Err c.in_err-write_made_line.field-0.0 = search rules in
    continues_ended whole whole _ _ (continues_from whole _) (target_line t) (concat (named_lines names (standard_of t) 0 s)) _ _ _ refl (c.in_err-write_made_line.ensures (target_line t) c.target_line.ensures) ended

pub place_signature-requires : goal.place_signature-requires
place_signature-requires g c =
    let t = c.args.target in
    let same : c.in_ok-here.here ≡ resolved_signature (format_of t) c.args.sig.now = c.in_ok-here.ensures ∙ ap (λ f. resolved_signature f c.in_ok-copy.field-0) c.format_of.ensures ∙ ap (resolved_signature (format_of t)) c.in_ok-copy.ensures in
    subst SignatureIsPlaced (sym same) (c.requires.placed (format_of t))

pub returns : goal.returns
returns g c =
    let t = c.args.target in
    let s = resolved_signature (format_of t) c.args.sig.now in
    let same : c.in_ok-here.here ≡ s = c.in_ok-here.ensures ∙ ap (λ f. resolved_signature f c.in_ok-copy.field-0) c.format_of.ensures ∙ ap (resolved_signature (format_of t)) c.in_ok-copy.ensures in
    let names = names_of c.args.names.now.items in
    let whole = placed_on names c.args.sig.now t in
    let lines = concat (named_lines names (standard_of t) 0 s) in
    let went = continues_on whole whole _ _ (continues_from whole (g.O.Sink.state c.args.output.now)) (target_line t) lines _ refl (c.in_ok-write_made_line.ensures (target_line t) c.target_line.ensures) in
    let wrote = wrote_for (λ u. concat (named_lines names g.A.Abi.standard 0 u)) c.in_ok-here.here s _ _ _ same c.place_signature.ensures in
    let by_target = wrote_for (λ std. concat (named_lines names std 0 s)) g.A.Abi.standard (standard_of t) _ _ _ (sym c.requires.standard) wrote in
    continues_last whole lines _ _ went lines _ _ refl by_target
