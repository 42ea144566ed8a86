use Rattle.std.proofs.Common.{◌≡◌, ap, sym, subst}
use Rattle.std.specs.Prelude.{IfOk}
use Rattle.ffi3_type_spec.specs.Tree.{Tree}
use Rattle.ffi3_type_spec.specs.Fault.{IsLaidOut}
use Rattle.ffi3_types.specs.TreeOf.{tree_of}
use Rattle.ffi3_capi.specs.WholeType.{offsets_of}
use Rattle.ffi3_capi.proofs.whole.offsets.Goals as goal

pub struct_offsets-requires : goal.struct_offsets-requires
struct_offsets-requires c = subst (λ (t : Tree). IsLaidOut t) (ap tree_of c.in-Struct.is) c.requires

pub returns-in-Struct : goal.returns-in-Struct
returns-in-Struct c =
    subst (λ (t : Tree). IfOk c.struct_offsets.result (λ o. o ≡ offsets_of t)) (sym (ap tree_of c.in-Struct.is)) c.struct_offsets.ensures
