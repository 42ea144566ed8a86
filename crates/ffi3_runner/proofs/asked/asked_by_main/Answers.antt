use Rattle.std.proofs.Common.{◌≡◌, List, [], sym, ap, ◌∙◌, subst, refl, None}
use Rattle.ffi3_type_spec.specs.Tree.{Tree, void}
use Rattle.ffi3_type_spec.specs.Layout.{least_multiple}
use Rattle.ffi3_type_spec.specs.Signature.{Signature, SignatureHasNoFault}
use Rattle.ffi3_place_spec.specs.Standard.{block_bytes}
use Rattle.ffi3_semantics_spec.specs.Move.{no_signature}
use Rattle.ffi3_type_spec.proofs.FirstSignatureFaults.{signature_right_by_none}
use Rattle.ffi3_runner.specs.Agreeing.{seen_by_main}
use Rattle.ffi3_runner.proofs.Turning.{asked_as}
use Rattle.ffi3_runner.proofs.asked.asked_by_main.Goals as goal

no_block : 0 ≡ block_bytes no_signature
unfolding least_multiple
no_block = refl

main_signature : (s : Signature) (fields : List Tree) → s ≡ record { result_type = void; arguments = fields; fixed = None } → fields ≡ [] → s ≡ no_signature
main_signature s fields is none = is ∙ ap (λ (l : List Tree). record { result_type = void; arguments = l; fixed = None }) none

pub new-seen-requires-clause-right : goal.new-seen-requires-clause-right
new-seen-requires-clause-right g c =
    let same = main_signature c.new-sig.result c.new.result c.new-sig.ensures c.new.ensures in
    subst (λ (s : Signature). SignatureHasNoFault s) (sym same) (signature_right_by_none no_signature refl)

pub new-seen-requires-clause-sized : goal.new-seen-requires-clause-sized
new-seen-requires-clause-sized g c =
    let same = main_signature c.new-sig.result c.new.result c.new-sig.ensures c.new.ensures in
    no_block ∙ ap block_bytes (sym same)

pub returns-clause-asked : goal.returns-clause-asked
returns-clause-asked g c = λ std.
    let a = c.args.current.now in
    let same = main_signature c.new-sig.result c.new.result c.new-sig.ensures c.new.ensures in
    let seen : c.new-seen.result ≡ seen_by_main a = c.new-seen.ensures ∙ ap (λ (s : Signature). record { signature = s; block = []; user = a.user; results = a.results }) same in
    asked_as _ _ _ _ _ _ c.new-seen.result (seen_by_main a) seen (c.ask.ensures.asked std)
