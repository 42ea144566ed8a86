use Rattle.std.proofs.Common.{◌≡◌}
use Rattle.ffi3_semantics_spec.specs.SeenActivation.{block_offset}
use Rattle.ffi3_body.proofs.seen.Seen.arg_bytes.Given as goal

abbrev pub invariant-loop-k : goal.invariant-loop-k
invariant-loop-k l = record {
  offset_is : l.offset ≡ block_offset l.self.signature.arguments l.k;
}
