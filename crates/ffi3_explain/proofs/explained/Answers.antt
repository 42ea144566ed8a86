use Rattle.std.proofs.Common.{arith, ◌≡◌, ap, sym, subst, ◌∙◌}
use Rattle.ffi3_type_spec.proofs.Placed.{faultless_is_plain}
use Rattle.ffi3_place_spec.proofs.OnMachine.{as_before}
use Rattle.ffi3_explain_spec.specs.Explain.{checks_of_count, checks_of_hidden, first_broken}
use Rattle.ffi3_explain.specs.ImageOf.{image_of}
use Rattle.ffi3_explain.specs.Places.{HiddenIsThere}
use Rattle.ffi3_explain.proofs.Ready.{result_ready}
use Rattle.ffi3_explain.proofs.Top.{told_argument, told_hidden, told_count, told_values}
use Rattle.ffi3_explain.proofs.explained.Goals as goal

pub returns-in-Err-clause-broken : goal.returns-in-Err-clause-broken
returns-in-Err-clause-broken g c =
    let std = g.A.Abi.standard in
    let link : c.LINK-base.result ≡ g.A.Abi.standard.link = c.LINK-base.ensures ∙ sym g.met.A.Abi.link_is in
    told_argument std c.args.cif.now (image_of c.args.image.now) c.LINK-base.result link c.in-Err.fault c.in-Err.ensures.broken

pub hidden_check-requires : goal.hidden_check-requires
hidden_check-requires g c =
    let std = g.A.Abi.standard in
    let s = c.args.cif.now in
    let sound = as_before std s (g.met.A.Abi.sound s) (faultless_is_plain s c.sig-sig.ensures.faultless) in
    let link : c.LINK-base.result ≡ g.A.Abi.standard.link = c.LINK-base.ensures ∙ sym g.met.A.Abi.link_is in
    let ready = result_ready std s sound (image_of c.args.image.now) c.LINK-base.result (omega (arith, link, c.requires.stack)) (omega (arith, link, c.requires.high)) in
    subst (HiddenIsThere (image_of c.args.image.now) c.LINK-base.result) (sym c.result_place.ensures) ready

pub returns-in-Some-clause-broken : goal.returns-in-Some-clause-broken
returns-in-Some-clause-broken g c =
    let std = g.A.Abi.standard in
    let m = image_of c.args.image.now in
    let base = c.LINK-base.result in
    let link : c.LINK-base.result ≡ g.A.Abi.standard.link = c.LINK-base.ensures ∙ sym g.met.A.Abi.link_is in
    let listed = c.hidden_check.ensures ∙ ap (checks_of_hidden (image_of c.args.image.now) c.LINK-base.result) c.result_place.ensures in
    told_hidden std c.args.cif.now m base link c.in-Some.check c.in-Ok.ensures.held (ap first_broken (sym listed) ∙ sym c.broken-hidden.ensures ∙ c.in-Some.is)

pub returns-in-Some-count-clause-broken : goal.returns-in-Some-count-clause-broken
returns-in-Some-count-clause-broken g c =
    let std = g.A.Abi.standard in
    let m = image_of c.args.image.now in
    let base = c.LINK-base.result in
    let link : c.LINK-base.result ≡ g.A.Abi.standard.link = c.LINK-base.ensures ∙ sym g.met.A.Abi.link_is in
    let listed = c.hidden_check.ensures ∙ ap (checks_of_hidden (image_of c.args.image.now) c.LINK-base.result) c.result_place.ensures in
    let counted = c.count_check.ensures ∙ ap (λ at. checks_of_count (image_of c.args.image.now) at c.vectors.result) c.vector_count.ensures ∙ ap (checks_of_count (image_of c.args.image.now) g.A.Abi.standard.vector_count) c.vectors.ensures in
    told_count std c.args.cif.now m base link c.in-Some-count.check c.in-Ok.ensures.held (ap first_broken (sym listed) ∙ sym c.broken-hidden.ensures ∙ c.in-None.is) (ap first_broken (sym counted) ∙ sym c.broken-count.ensures ∙ c.in-Some-count.is)

pub returns-in-None-count-clause-values : goal.returns-in-None-count-clause-values
returns-in-None-count-clause-values g c =
    let std = g.A.Abi.standard in
    let m = image_of c.args.image.now in
    let base = c.LINK-base.result in
    let link : c.LINK-base.result ≡ g.A.Abi.standard.link = c.LINK-base.ensures ∙ sym g.met.A.Abi.link_is in
    let listed = c.hidden_check.ensures ∙ ap (checks_of_hidden (image_of c.args.image.now) c.LINK-base.result) c.result_place.ensures in
    let counted = c.count_check.ensures ∙ ap (λ at. checks_of_count (image_of c.args.image.now) at c.vectors.result) c.vector_count.ensures ∙ ap (checks_of_count (image_of c.args.image.now) g.A.Abi.standard.vector_count) c.vectors.ensures in
    told_values std c.args.cif.now m base link c.in-Ok.values c.in-Ok.ensures.values c.in-Ok.ensures.held (ap first_broken (sym listed) ∙ sym c.broken-hidden.ensures ∙ c.in-None.is) (ap first_broken (sym counted) ∙ sym c.broken-count.ensures ∙ c.in-None-count.is)
