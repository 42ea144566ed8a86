use Rattle.std.proofs.Common.{◌≡◌, ◌*◌, ◌++◌, drop, length}
use Rattle.std.specs.List.{repeat}
use Rattle.ffi3_machine_spec.specs.State.{free_word}
use Rattle.ffi3_machine.proofs.stub.fill_words.Given as goal

abbrev pub invariant-loop-k : goal.invariant-loop-k
invariant-loop-k l = record {
  base : l.region.base ≡ 0x1000;
  size : length l.region.bytes ≡ 6144;
  freed : l.region.bytes ≡ repeat l.k (free_word l.fn.isa) ++ drop (4 * l.k) l.initial.region.bytes;
}
