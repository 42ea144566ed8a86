use Rattle.std.proofs.Common.{◌∙◌}
use Rattle.std.proofs.lemmas.Bool.{false≢true}
use Rattle.ffi3_types.specs.SignatureFaultOf.{position_of}
use Rattle.ffi3_cdecl_spec.specs.Prototype.{first_other}
use Rattle.ffi3_app_spec.specs.Declarations.{sign_line}
use Rattle.ffi3_app.proofs.Working.{sign_unsaid_by}
use Rattle.ffi3_app.proofs.prototype.if_alike.Goals as goal

pub returns-clause-refused : goal.returns-clause-refused
returns-clause-refused c =
    let position = position_of c.first_other-at.result in
    sign_unsaid_by c.args.declaration c.args.other.now position c.refused.result (λ same. false≢true (c.if-are_alike.ensures.1 same)) (c.first_other-at.ensures ∙ (λ i. first_other (c.sig.ensures i) (c.sig-2.ensures i))) (c.refused.ensures (sign_line position) c.sign_line.ensures)
