use Rattle.std.proofs.Common.{◌+◌, ap, ◌∙◌, sym}
use Rattle.std.proofs.lemmas.List.{length-map}
use Rattle.std.proofs.Math.Logic.{∥∥₁_elim}
use base.Stored.{Coded-set, coded_ℕ}
use Rattle.ffi3_type_spec.specs.Signature.{signature_code, signature_list_code}
use Rattle.ffi3_script.specs.FunctionOf.{function_of}
use Rattle.ffi3_script.proofs.script.Script.main.Goals as goal

pub returns-clause-signatures_are : goal.returns-clause-signatures_are
returns-clause-signatures_are c =
    ∥∥₁_elim c.args.self.now.main_stands (Coded-set signature_list_code _ _) (λ s. s.signatures_are)

pub returns-clause-own_is : goal.returns-clause-own_is
returns-clause-own_is c =
    ∥∥₁_elim c.args.self.now.main_stands (Coded-set signature_code _ _) (λ s. s.own_is)

pub returns-clause-functions_are : goal.returns-clause-functions_are
returns-clause-functions_are c =
    let s = c.args.self.now in
    let all = length-map s.functions.items function_of in
    ∥∥₁_elim s.main_stands (Coded-set coded_ℕ _ _) (λ m. m.functions_are ∙ ap (λ n. n + s.natives) (sym all))
