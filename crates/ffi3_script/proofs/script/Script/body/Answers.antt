use Rattle.std.proofs.Common.{◌+◌, ◌<◌, length, refl, ap, ◌∙◌, sym, arith}
use Rattle.std.specs.Prelude.{option_map}
use Rattle.std.proofs.lemmas.Option.{slice_get_read}
use Rattle.std.proofs.lemmas.List.{length-map}
use Rattle.std.proofs.Math.Logic.{∥∥₁_elim}
use base.Stored.{Coded-set, coded_ℕ}
use Rattle.ffi3_type_spec.specs.Signature.{signature_at, signature_code, signature_list_code}
use Rattle.ffi3_script.specs.FunctionOf.{function_of}
use Rattle.ffi3_script.proofs.Standing.{function_is, stands}
use Rattle.ffi3_script.proofs.script.Script.body.Goals as goal

pub returns-clause-is : goal.returns-clause-is
returns-clause-is c =
    let s = c.args.self.now in
    let all = length-map s.functions.items function_of in
    let below : c.args.i < length s.functions.items = omega (arith, c.requires, all) in
    ap (option_map (λ f. f.body)) (slice_get_read s.functions.items _ c.args.i c.index.result.now refl below c.index.ensures)

pub returns-clause-signatures_are : goal.returns-clause-signatures_are
returns-clause-signatures_are c =
    let s = c.args.self.now in
    let all = length-map s.functions.items function_of in
    let below : c.args.i < length s.functions.items = omega (arith, c.requires, all) in
    ∥∥₁_elim s.bodies_stand (Coded-set signature_list_code _ _) (λ each. (stands s.sigs.value _ s.functions.items c.args.i c.index.result.now below c.index.ensures each).signatures_are)

pub returns-clause-own_is : goal.returns-clause-own_is
returns-clause-own_is c =
    let s = c.args.self.now in
    let f = c.index.result.now in
    let all = length-map s.functions.items function_of in
    let below : c.args.i < length s.functions.items = omega (arith, c.requires, all) in
    let function = ap (λ g. signature_at s.sigs.value g.signature) (function_is s.functions.items c.args.i f _ below c.index.ensures) in
    ∥∥₁_elim s.bodies_stand (Coded-set signature_code _ _) (λ each. (stands s.sigs.value _ s.functions.items c.args.i f below c.index.ensures each).own_is ∙ sym function)

pub returns-clause-functions_are : goal.returns-clause-functions_are
returns-clause-functions_are c =
    let s = c.args.self.now in
    let all = length-map s.functions.items function_of in
    let below : c.args.i < length s.functions.items = omega (arith, c.requires, all) in
    ∥∥₁_elim s.bodies_stand (Coded-set coded_ℕ _ _) (λ each. (stands s.sigs.value _ s.functions.items c.args.i c.index.result.now below c.index.ensures each).functions_are ∙ ap (λ n. n + s.natives) (sym all))
