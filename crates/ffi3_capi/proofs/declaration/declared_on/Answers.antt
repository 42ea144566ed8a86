use Rattle.std.proofs.Common.{rules, ◌≡◌, sym, subst}
use Rattle.std.specs.Prelude.{IfOk, IfErr, Some}
use Rattle.ffi3_cdecl_spec.specs.Tokens.{Sign}
use Rattle.ffi3_format_spec.specs.declared.Format.{Format}
use Rattle.ffi3_capi.specs.declared.declaration.Declaration.{Declaration}
use Rattle.ffi3_capi.specs.declared.declaration.Declaration.TheVariants.{Text, Nodes}
use Rattle.ffi3_capi.specs.declared.fault.TextFault.{TextFault}
use Rattle.ffi3_capi.specs.ByNodes.{AreNodesIn, IsFaultOfNodesIn}
use Rattle.ffi3_capi.specs.Chars.{char_sign}
use Rattle.ffi3_capi.specs.DeclaredBy.{IsDeclaredOn, IsFaultOn}
use Rattle.ffi3_capi.specs.Faults.{DeclaresIn, IsFaultIn}
use Rattle.ffi3_capi.proofs.declaration.declared_on.Goals as goal

pub returns-in-Text-clause-ok : goal.returns-in-Text-clause-ok
returns-in-Text-clause-ok c =
    let is : c.args.declaration ≡ Text c.in-Text.text = search rules in
    let here = subst (λ (s : Sign). IfOk c.declared_by_text_in.result (λ g. DeclaresIn c.long_double_on-format.result s c.in-Text.text.now g)) c.char_sign.ensures c.declared_by_text_in.ensures.ok in
    let there = subst (λ (f : Format). IfOk c.declared_by_text_in.result (λ g. DeclaresIn f (char_sign c.args.target) c.in-Text.text.now g)) c.long_double_on-format.ensures here in
    subst (λ (d : Declaration). IfOk c.declared_by_text_in.result (λ g. IsDeclaredOn c.args.target d g)) (sym is) there

pub returns-in-Text-clause-err : goal.returns-in-Text-clause-err
returns-in-Text-clause-err c =
    let is : c.args.declaration ≡ Text c.in-Text.text = search rules in
    let here = subst (λ (s : Sign). IfErr c.declared_by_text_in.result (λ e. (f : TextFault) → e ≡ Some f → IsFaultIn c.long_double_on-format.result s c.in-Text.text.now f)) c.char_sign.ensures c.declared_by_text_in.ensures.err in
    let there = subst (λ (g : Format). IfErr c.declared_by_text_in.result (λ e. (f : TextFault) → e ≡ Some f → IsFaultIn g (char_sign c.args.target) c.in-Text.text.now f)) c.long_double_on-format.ensures here in
    subst (λ (d : Declaration). IfErr c.declared_by_text_in.result (λ e. (f : TextFault) → e ≡ Some f → IsFaultOn c.args.target d f)) (sym is) there

pub returns-in-Nodes-clause-ok : goal.returns-in-Nodes-clause-ok
returns-in-Nodes-clause-ok c =
    let is : c.args.declaration ≡ Nodes c.in-Nodes.nodes c.in-Nodes.fixed = search rules in
    let here = subst (λ (f : Format). IfOk c.declared_by_nodes_in.result (λ g. AreNodesIn f c.in-Nodes.nodes.now c.in-Nodes.fixed g)) c.long_double_on-format.ensures c.declared_by_nodes_in.ensures.ok in
    subst (λ (d : Declaration). IfOk c.declared_by_nodes_in.result (λ g. IsDeclaredOn c.args.target d g)) (sym is) here

pub returns-in-Nodes-clause-err : goal.returns-in-Nodes-clause-err
returns-in-Nodes-clause-err c =
    let is : c.args.declaration ≡ Nodes c.in-Nodes.nodes c.in-Nodes.fixed = search rules in
    let here = subst (λ (g : Format). IfErr c.declared_by_nodes_in.result (λ e. (f : TextFault) → e ≡ Some f → IsFaultOfNodesIn g c.in-Nodes.nodes.now c.in-Nodes.fixed f)) c.long_double_on-format.ensures c.declared_by_nodes_in.ensures.err in
    subst (λ (d : Declaration). IfErr c.declared_by_nodes_in.result (λ e. (f : TextFault) → e ≡ Some f → IsFaultOn c.args.target d f)) (sym is) here
