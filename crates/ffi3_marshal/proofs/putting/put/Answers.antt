use Rattle.std.proofs.Common.{◌-◌, ◌≤◌, length, sym, subst, arith}
use Rattle.ffi3_place_spec.specs.declared.Loc.TheVariants.{G, F, S}
use Rattle.ffi3_place_spec.specs.Sound.{place_size}
use Rattle.ffi3_marshal.specs.Stored.{HasLow, IsPlaceIn, IsPut}
use Rattle.ffi3_marshal.proofs.Puts.{general_put, floating_put, stack_put}
use Rattle.ffi3_marshal.proofs.putting.put.Goals as goal

pub returns-in-G-clause-put : goal.returns-in-G-clause-put
returns-in-G-clause-put g c =
    let old = g.W.ReadImage.image c.args.state.now in
    let low = subst (λ w. HasLow c.args.bytes.now w c.with_low-word.result) c.general.ensures c.with_low-word.ensures in
    subst (λ l. IsPut c.args.base l c.args.bytes.now old (g.W.ReadImage.image c.set_general.new.self)) (sym c.in-G.is)
    (subst (IsPut c.args.base (G c.in-G.r) c.args.bytes.now old) (sym c.set_general.ensures.set) (general_put c.args.base c.in-G.r c.args.bytes.now c.with_low-word.result old c.set_general.ensures.there low))

pub returns-in-F-clause-put : goal.returns-in-F-clause-put
returns-in-F-clause-put g c =
    let old = g.W.ReadImage.image c.args.state.now in
    let low = subst (λ w. HasLow c.args.bytes.now w c.with_low-word-in-F.result) c.floating.ensures c.with_low-word-in-F.ensures in
    subst (λ l. IsPut c.args.base l c.args.bytes.now old (g.W.ReadImage.image c.set_floating.new.self)) (sym c.in-F.is)
    (subst (IsPut c.args.base (F c.in-F.r) c.args.bytes.now old) (sym c.set_floating.ensures.set) (floating_put c.args.base c.in-F.r c.args.bytes.now c.with_low-word-in-F.result old c.set_floating.ensures.there low))

pub returns-in-S-clause-put : goal.returns-in-S-clause-put
returns-in-S-clause-put g c =
    let old = g.W.ReadImage.image c.args.state.now in
    let lies = subst (IsPlaceIn g.W.ReadImage.floatings (length old.stack - c.args.base)) c.in-S.is c.requires.lies in
    let few = subst (λ l. length c.args.bytes.now ≤ place_size l) c.in-S.is c.requires.few in
    subst (λ l. IsPut c.args.base l c.args.bytes.now old (g.W.ReadImage.image c.write_stack.new.self)) (sym c.in-S.is)
    (subst (IsPut c.args.base (S c.in-S.n c.in-S.field-1) c.args.bytes.now old) (sym c.write_stack.ensures.stored) (stack_put c.args.base c.in-S.n c.in-S.field-1 c.args.bytes.now old few (omega (arith, lies.0, few))))
