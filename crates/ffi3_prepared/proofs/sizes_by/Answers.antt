use Rattle.std.proofs.Common.{ap, sym, ◌∙◌}
use Rattle.ffi3_type_spec.specs.Layout.{size_of}
use Rattle.ffi3_prepared.proofs.sizes_by.Goals as goal

pub returns : goal.returns
returns g c =
    let given = c.size-given.ensures.value ∙ ap size_of c.ret.ensures ∙ ap (λ r. size_of r.result_type) c.placed_sig.ensures in
    let link = c.LINK-link.ensures ∙ sym g.met.A.Abi.link_is in
    λ i. record { values = c.packed_size-values.ensures i; result = given i; link = link i; frame = c.frame-frame.ensures i }
