use Rattle.std.proofs.Common.{◌≡◌, ap, ◌∙◌, subst, sym}
use Rattle.ffi3_type_spec.specs.declared.Role.TheVariants.{Anywhere}
use Rattle.ffi3_type_spec.specs.Tree.{pointer}
use Rattle.ffi3_type_spec.specs.Signature.{signature_at}
use Rattle.ffi3_type_spec.specs.Fault.{IsLaidOut}
use Rattle.ffi3_type_spec.proofs.Faults.{scalar_faults}
use Rattle.ffi3_types.specs.TreeOf.{tree_of}
use Rattle.ffi3_type_spec.specs.FirstFault.{first_fault}
use Rattle.ffi3_type_spec.proofs.FirstFaults.{right_by_none}
use Rattle.ffi3_script_spec.proofs.RightTypes.{any_result_type_is_right, result_is_laid_out, is_none-none}
use Rattle.ffi3_script_body.proofs.known.Known.outcome.Goals as goal

pub zero-requires : goal.zero-requires
zero-requires c =
    let ss = c.args.self.now.sigs.now in
    let t = (signature_at ss c.in-Call.sig).result_type in
    let right : IsLaidOut t = right_by_none 0 Anywhere t (is_none-none (first_fault 0 Anywhere t) (result_is_laid_out t (any_result_type_is_right ss c.in-Call.sig c.args.self.now.right))) in
    let is : tree_of c.ret.result.now ≡ t = c.ret.ensures ∙ ap (λ s. s.result_type) c.get.ensures in
    subst (IsLaidOut) (sym is) right

pub zero-requires-in-Make : goal.zero-requires-in-Make
zero-requires-in-Make c = scalar_faults pointer
