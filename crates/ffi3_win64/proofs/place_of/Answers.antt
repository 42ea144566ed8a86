use Rattle.std.proofs.Common.{ap, sym, ◌∙◌}
use Rattle.std.specs.Prelude.{cond}
use Rattle.ffi3_place_spec.specs.declared.Place.TheVariants.{ByRef}
use Rattle.ffi3_place_spec.specs.Standard.{place_at, in_pieces, by_reference}
use Rattle.ffi3_win64_spec.specs.Win64.{win64, position_place, argument_pieces}
use Rattle.ffi3_win64.proofs.place_of.Goals as goal

pub returns-then-is_copied : goal.returns-then-is_copied
returns-then-is_copied c =
    let t = c.args.ty.now in
    let at = position_place c.args.p in
    let pieces = argument_pieces c.args.variadic c.args.p t in
    let copied = sym c.is_copied.ensures ∙ c.if-is_copied.true in
    ap (λ l. ByRef l c.copy_start.result) c.position_place.ensures ∙ ap (ByRef at) (c.copy_start.ensures.value t) ∙ ap (λ b. place_at win64.copy_start c.args.end t (cond b (by_reference at) (in_pieces pieces))) (sym copied)
