use Rattle.std.proofs.Common.{◌≡◌, ◌++◌, ◌<◌, ◌^◌, All, true, map, length}
use Rattle.std.specs.Vec.Iter.{into_iter_items}
use Rattle.ffi3_type_spec.specs.Signature.{signature_at}
use Rattle.ffi3_script_spec.specs.Typed.{function_is_typed}
use Rattle.ffi3_script.specs.FunctionOf.{function_of, StandsIn}
use Rattle.ffi3_script.specs.PartsOf.{part_of}
use Rattle.ffi3_script.proofs.read.functions_of.Given as goal

abbrev pub invariant-loop-part : goal.invariant-loop-part
invariant-loop-part l = record {
  are : map function_of l.functions.items ++ map part_of (into_iter_items l.part-iterator) ≡ map part_of l.fn.parts.items;
  stand : All (λ f. StandsIn l.sigs.value l.count (signature_at l.sigs.value f.sig) f.body) l.functions.items;
  few : All (λ f. length f.moves.items < 2 ^ 31) (into_iter_items l.part-iterator);
  typed : All (λ f. function_is_typed l.sigs.value l.count (part_of f) ≡ true) (into_iter_items l.part-iterator);
}
