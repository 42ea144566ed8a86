use Rattle.std.proofs.Common.{◌≡◌, ◌*◌, ◌++◌, drop, length}
use Rattle.std.specs.List.{repeat}
use Rattle.ffi3_type_spec.specs.declared.limits.TheConstants.{CODE, CODE_BYTES}
use Rattle.ffi3_machine_spec.specs.State.{free_word}
use Rattle.ffi3_machine.proofs.regions.free_slots.Given as goal

abbrev pub invariant-loop-k : goal.invariant-loop-k
invariant-loop-k l = record {
  base : l.code.base ≡ CODE;
  size : length l.code.bytes ≡ CODE_BYTES;
  freed : l.code.bytes ≡ repeat l.k (free_word l.fn.isa) ++ drop (4 * l.k) l.initial.code.bytes;
}
