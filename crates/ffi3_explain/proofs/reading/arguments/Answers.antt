use Rattle.std.proofs.Common.{sym, ◌∙◌}
use Rattle.ffi3_explain.specs.ImageOf.{image_of}
use Rattle.ffi3_explain.proofs.Standing.{told_values, told_outside, values_fit, owned_values, owned_fault}
use Rattle.ffi3_explain.proofs.reading.arguments.Goals as goal

pub returns-in-Ok-clause-values : goal.returns-in-Ok-clause-values
returns-in-Ok-clause-values g c =
    let std = g.A.Abi.standard in
    told_values std c.args.cif.now (image_of c.args.image.now) c.LINK-base.result (c.LINK-base.ensures ∙ sym g.met.A.Abi.link_is) c.in-Ok.values c.in-Ok.ensures.values c.in-Ok.ensures.inside

pub returns-in-Ok-clause-fits : goal.returns-in-Ok-clause-fits
returns-in-Ok-clause-fits g c =
    let std = g.A.Abi.standard in
    let s = c.args.cif.now in
    let right = c.sig-sig.ensures.faultless in
    let is = told_values std c.args.cif.now (image_of c.args.image.now) c.LINK-base.result (c.LINK-base.ensures ∙ sym g.met.A.Abi.link_is) c.in-Ok.values c.in-Ok.ensures.values c.in-Ok.ensures.inside in
    values_fit std s (image_of c.args.image.now) right (g.met.A.Abi.sound s) c.in-Ok.values is

pub returns-in-Ok-clause-owned : goal.returns-in-Ok-clause-owned
returns-in-Ok-clause-owned g c = λ vs own. let std = g.A.Abi.standard in
    let s = c.args.cif.now in
    let right = c.sig-sig.ensures.faultless in
    let is = told_values std c.args.cif.now (image_of c.args.image.now) c.LINK-base.result (c.LINK-base.ensures ∙ sym g.met.A.Abi.link_is) c.in-Ok.values c.in-Ok.ensures.values c.in-Ok.ensures.inside in
    (owned_values std s (image_of c.args.image.now) right (g.met.A.Abi.sound s) vs own c.in-Ok.values is, tt)

pub returns-in-Err-clause-outside : goal.returns-in-Err-clause-outside
returns-in-Err-clause-outside g c =
    let std = g.A.Abi.standard in
    told_outside std c.args.cif.now (image_of c.args.image.now) c.LINK-base.result (c.LINK-base.ensures ∙ sym g.met.A.Abi.link_is) c.in-Err.fault c.in-Err.ensures.outside

pub returns-in-Err-clause-owned : goal.returns-in-Err-clause-owned
returns-in-Err-clause-owned g c = λ vs own. let std = g.A.Abi.standard in
    let s = c.args.cif.now in
    let right = c.sig-sig.ensures.faultless in
    let is = told_outside std c.args.cif.now (image_of c.args.image.now) c.LINK-base.result (c.LINK-base.ensures ∙ sym g.met.A.Abi.link_is) c.in-Err.fault c.in-Err.ensures.outside in
    (tt, owned_fault std s (image_of c.args.image.now) right (g.met.A.Abi.sound s) vs own c.in-Err.fault is)
