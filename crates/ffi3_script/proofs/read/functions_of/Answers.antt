use Rattle.std.proofs.Common.{◌≡◌, ◌<◌, ◌++◌, ◌^◌, true, All, length, map, sym, ap, subst, ◌∙◌}
use Rattle.std.proofs.lemmas.List.Elements.{All-nil, All-push}
use Rattle.std.specs.Vec.Iter.{into_iter_items}
use Rattle.ffi3_type_spec.specs.Signature.{signature_at}
use Rattle.ffi3_script_spec.specs.Typed.{function_is_typed}
use Rattle.ffi3_script.specs.FunctionOf.{function_of, StandsIn}
use Rattle.ffi3_script.specs.PartsOf.{part_of}
use Rattle.ffi3_script.specs.declared.script.ScriptFunction.{ScriptFunction}
use Rattle.ffi3_script.specs.declared.functions.FunctionPart.{FunctionPart}
use Rattle.ffi3_script.proofs.Making.{all-first, all-rest, making-turn, making-end}
use Rattle.ffi3_script.proofs.read.functions_of.Goals as goal

pub loop-part-init : goal.loop-part-init
loop-part-init c =
    let left = into_iter_items c.into_iter-part-iterator.result in
    let given : left ≡ c.args.parts.items = c.into_iter-part-iterator.ensures.into_iter_gives.0 in
    let none = c.new-functions.ensures.items in
    record {
      are = ap (λ fs. map function_of fs ++ map part_of left) none ∙ ap (map part_of) given;
      stand = subst (All (λ (f : ScriptFunction). StandsIn c.args.sigs.now.value c.args.count (signature_at c.args.sigs.now.value f.sig) f.body)) (sym none) (All-nil (λ (f : ScriptFunction). StandsIn c.args.sigs.now.value c.args.count (signature_at c.args.sigs.now.value f.sig) f.body));
      few = subst (All (λ (f : FunctionPart). length f.moves.items < 2 ^ 31)) (sym given) c.requires.few;
      typed = subst (All (λ (f : FunctionPart). function_is_typed c.args.sigs.now.value c.args.count (part_of f) ≡ true)) (sym given) c.requires.typed;
    }

pub function_of-requires : goal.function_of-requires
function_of-requires c =
    let left = into_iter_items c.loop-part.part-iterator in
    let rest = into_iter_items c.next.new.self in
    let is = c.in-Some.ensures.steps.0 in
    record {
      few = all-first (λ (f : FunctionPart). length f.moves.items < 2 ^ 31) left rest c.in-Some.part is c.loop-part.invariant.few;
      typed = all-first (λ (f : FunctionPart). function_is_typed c.args.sigs.now.value c.args.count (part_of f) ≡ true) left rest c.in-Some.part is c.loop-part.invariant.typed;
      right = c.requires.right;
    }

pub loop-part-preserved : goal.loop-part-preserved
loop-part-preserved c =
    let left = into_iter_items c.loop-part.part-iterator in
    let rest = into_iter_items c.next.new.self in
    let is = c.in-Some.ensures.steps.0 in
    let one = c.in_ok-function.function in
    let fs = c.loop-part.functions.items in
    let pushed = c.in_ok-push_function.ensures in
    record {
      are = making-turn fs c.push_function.new.functions.items one c.in-Some.part left rest (map part_of c.args.parts.items) c.loop-part.invariant.are is c.in_ok-function.ensures.is pushed;
      stand = subst (All (λ (f : ScriptFunction). StandsIn c.args.sigs.now.value c.args.count (signature_at c.args.sigs.now.value f.sig) f.body)) (sym pushed)
          (All-push (λ (f : ScriptFunction). StandsIn c.args.sigs.now.value c.args.count (signature_at c.args.sigs.now.value f.sig) f.body) fs one c.loop-part.invariant.stand c.in_ok-function.ensures.stands);
      few = all-rest (λ (f : FunctionPart). length f.moves.items < 2 ^ 31) left rest c.in-Some.part is c.loop-part.invariant.few;
      typed = all-rest (λ (f : FunctionPart). function_is_typed c.args.sigs.now.value c.args.count (part_of f) ≡ true) left rest c.in-Some.part is c.loop-part.invariant.typed;
    }

pub returns : goal.returns
returns c =
    let it = c.loop-part.part-iterator in
    record {
      are = making-end c.loop-part.functions.items (into_iter_items it) (map part_of c.args.parts.items) c.loop-part.invariant.are (sym it.rest.ok.0 ∙ c.in-None.ensures.steps.0);
      stand = c.loop-part.invariant.stand;
    }
