use Rattle.std.proofs.Common.{rules, ◌≡◌, sym, subst}
use Rattle.std.specs.Prelude.{IfErr, Some}
use Rattle.ffi3_capi.specs.declared.declaration.Declaration.{Declaration}
use Rattle.ffi3_capi.specs.declared.declaration.Declaration.TheVariants.{Text, Nodes}
use Rattle.ffi3_capi.specs.declared.fault.TextFault.{TextFault}
use Rattle.ffi3_cdecl.specs.TokenOf.{sign_of}
use Rattle.ffi3_capi.specs.DeclaredBy.{IsFaultBy}
use Rattle.ffi3_capi.proofs.declaration.declared.Goals as goal

pub returns-in-Text-clause-err : goal.returns-in-Text-clause-err
returns-in-Text-clause-err c =
    let is : c.args.declaration ≡ Text c.in-Text.text = search rules in
    subst (λ (d : Declaration). IfErr c.declared_by_text.result (λ e. (f : TextFault) → e ≡ Some f → IsFaultBy (sign_of c.args.sign) d f)) (sym is) c.declared_by_text.ensures.err

pub returns-in-Nodes-clause-err : goal.returns-in-Nodes-clause-err
returns-in-Nodes-clause-err c =
    let is : c.args.declaration ≡ Nodes c.in-Nodes.nodes c.in-Nodes.fixed = search rules in
    subst (λ (d : Declaration). IfErr c.declared_by_nodes.result (λ e. (f : TextFault) → e ≡ Some f → IsFaultBy (sign_of c.args.sign) d f)) (sym is) c.declared_by_nodes.ensures.err
