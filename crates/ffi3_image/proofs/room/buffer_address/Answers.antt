use Rattle.std.proofs.Common.{arith, ◌≡◌, sym, subst, ◌∙◌}
use Rattle.ffi3_type_spec.proofs.Placed.{faultless_is_plain}
use Rattle.ffi3_place_spec.specs.declared.Res.TheVariants.{Hidden}
use Rattle.ffi3_place_spec.proofs.OnMachine.{as_before}
use Rattle.ffi3_explain.specs.ImageOf.{image_of}
use Rattle.ffi3_explain.specs.Places.{HiddenIsThere}
use Rattle.ffi3_explain.proofs.Ready.{result_ready}
use Rattle.ffi3_image.proofs.room.buffer_address.Goals as goal

pub overflow_add-result-in-Hidden : goal.overflow_add-result-in-Hidden
overflow_add-result-in-Hidden g c =
    let std = g.A.Abi.standard in
    let s = c.args.cif.now in
    let sound = as_before std s (g.met.A.Abi.sound s) (faultless_is_plain s c.sig-sig.ensures.faultless) in
    let link : c.LINK.result ≡ g.A.Abi.standard.link = c.LINK.ensures ∙ sym g.met.A.Abi.link_is in
    let ready = result_ready std s sound (image_of c.args.image.now) c.LINK.result (omega (arith, link, c.requires.stack)) (omega (arith, link, c.requires.high)) in
    let there : HiddenIsThere (image_of c.args.image.now) c.LINK.result (Hidden c.in-Hidden.at c.in-Hidden.buffer) = subst (HiddenIsThere (image_of c.args.image.now) c.LINK.result) (sym c.result_place.ensures ∙ c.in-Hidden.is) ready in
    omega (arith, there.1)
