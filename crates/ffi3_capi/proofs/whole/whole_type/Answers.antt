use Rattle.std.proofs.Common.{length, ap, ◌∙◌}
use Rattle.ffi3_capi.specs.WholeType.{members_of}
use Rattle.ffi3_capi.proofs.Offsets.{whole_is}
use Rattle.ffi3_capi.proofs.whole.whole_type.Goals as goal

pub returns : goal.returns
returns c =
    whole_is c.args.ty.now _ _ _ _ _ c.size.ensures.value c.align.ensures (c.member_count.ensures ∙ ap (λ t. length (members_of t)) c.as_type.ensures.value) c.leaf_count.ensures c.fault_with.ensures
