use Rattle.std.proofs.Common.{◌≡◌, refl, ap, subst, sym, ◌∙◌, rules}
use Rattle.std.specs.Prelude.{get_or}
use Rattle.std.specs.Int.{w64, to_le_bytes}
use Rattle.ffi3_place_spec.specs.declared.Loc.TheVariants.{G, F}
use Rattle.ffi3_marshal.specs.Read.{AreBytesOf}
use Rattle.ffi3_marshal.proofs.Read.{word_bytes}
use Rattle.ffi3_marshal.proofs.reading.place_bytes.Goals as goal

pub returns-in-G : goal.returns-in-G
returns-in-G g c =
    let m = g.R.ReadImage.image c.args.state.now in
    let held : c.general.result ≡ get_or (g.R.ReadImage.image c.args.state.now).general c.in-G.r 0 = search rules in
    subst (λ l. AreBytesOf c.args.base m l c.to_le_bytes.result) (sym c.in-G.is)
    (word_bytes c.args.base m (G c.in-G.r) (get_or m.general c.in-G.r 0) c.to_le_bytes.result refl (λ k. refl) (c.to_le_bytes.ensures ∙ ap (to_le_bytes w64) held))

pub returns-in-F : goal.returns-in-F
returns-in-F g c =
    let m = g.R.ReadImage.image c.args.state.now in
    subst (λ l. AreBytesOf c.args.base m l c.to_le_bytes-in-F.result) (sym c.in-F.is)
    (word_bytes c.args.base m (F c.in-F.r) (get_or m.floating c.in-F.r 0) c.to_le_bytes-in-F.result refl (λ k. refl) (c.to_le_bytes-in-F.ensures ∙ ap (to_le_bytes w64) c.floating.ensures))
