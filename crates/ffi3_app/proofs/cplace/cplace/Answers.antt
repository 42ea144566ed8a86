use Rattle.std.proofs.Common.{rules, ◌≡◌, ℕ, List, refl, subst, sym}
use Rattle.std.specs.Prelude.{Err}
use Rattle.std.specs.List.{flat_map}
use Rattle.ffi3_type_spec.specs.Signature.{Signature, SignatureIsPlaced}
use Rattle.ffi3_format_spec.specs.declared.Format.{Format}
use Rattle.ffi3_format_spec.specs.Format.{resolved_signature}
use Rattle.ffi3_cdecl_spec.specs.Tokens.{signed}
use Rattle.ffi3_names_spec.specs.Scan.{names_in}
use Rattle.ffi3_names.specs.NamesOf.{names_of}
use Rattle.ffi3_app_spec.specs.Declarations.{prototype_lines, cplace_text, every_target, placed_on}
use Rattle.ffi3_app.proofs.Pieces.{Wrote, continues_from, continues_on, continues_ended, continues_last, wrote_for}
use Rattle.ffi3_app.proofs.cplace.cplace.Goals as goal

pub returns-in_err-prototype : goal.returns-in_err-prototype
returns-in_err-prototype g c =
    let d = c.args.declaration.now in
    let text = c.args.text.now in
    let whole = cplace_text (names_in signed text) d in
    let ended : c.from_residual-in_err-prototype.result ≡ Err c.in_err-prototype.field-0.0 = search rules in
    continues_ended whole whole _ _ (continues_from whole _) (prototype_lines d) (flat_map (placed_on (names_in signed text) d.signature) every_target) _ _ _ refl c.in_err-prototype.ensures ended

pub returns : goal.returns
returns g c =
    let d = c.args.declaration.now in
    let text = c.args.text.now in
    let whole = cplace_text (names_in signed text) d in
    let rest = flat_map (placed_on (names_in signed text) d.signature) every_target in
    let went = continues_on whole whole _ _ (continues_from whole (g.O.Sink.state c.args.output.now)) (prototype_lines d) rest _ refl c.in_ok-prototype.ensures in
    let names = names_of c.in_ok-names.names.items in
    let wrote = wrote_for (λ s. flat_map (placed_on names s) every_target) c.sig.result.now d.signature _ _ _ c.sig.ensures c.place_everywhere.ensures in
    let P = λ (ns : List (List ℕ)). Wrote (flat_map (placed_on ns d.signature) every_target) (g.O.Sink.state c.prototype.new.output) (g.O.Sink.state c.place_everywhere.new.output) c.place_everywhere.result in
    continues_last whole rest _ _ went rest _ _ refl (subst P c.in_ok-names.ensures.computed wrote)

pub place_everywhere-requires : goal.place_everywhere-requires
place_everywhere-requires g c =
    subst (λ (s : Signature). (format : Format) → SignatureIsPlaced (resolved_signature format s)) (sym c.sig.ensures) c.requires
