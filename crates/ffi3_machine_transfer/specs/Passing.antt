-- The registers through which a call passes its values: the machine's own, or the words of the exchange region, which the stubs load into registers, and store from them.
use Rattle.std.specs.Prelude.{ℕ, ◌+◌, ◌*◌, ◌%◌, ◌^◌, Bool, true, false, if◌then◌else◌, List, ◌++◌, map, take, drop}
use Rattle.std.specs.List.{range_with_len}
use Rattle.ffi3_machine_spec.specs.Memory.{number_of}
use Rattle.ffi3_type_spec.specs.declared.Target.{Target}
use Rattle.ffi3_place_spec.specs.StubRegisters.{has_stubs}
use Rattle.ffi3_machine_spec.specs.declared.stub.TheConstants.{REGISTERS_END}
use Rattle.ffi3_machine_spec.specs.State.{State}

-- Whether calls of the target go by its stubs, and pass their registers by the exchange region: where it has stubs. Proofs hold for either.
unfoldable pub by_exchange : Target → Bool
by_exchange target = has_stubs target

-- 32 words of eight bytes each, from a place on
unfoldable pub words_at : ℕ → List ℕ → List ℕ
words_at from bytes = map (λ k. number_of 8 (take 8 (drop (from + 8 * k) bytes))) (range_with_len 0 32)

-- What a call passes stands in `general` and `floating`, and what it does not touch in `exchange`: the machine's own registers, and what stands behind the words.
abbrev pub passing_if : Bool → State → State
passing_if b s = record s {
  general = if b then words_at 0 s.exchange else s.general;
  floating = if b then words_at 256 s.exchange else s.floating;
  exchange = if b then s.general ++ (s.floating ++ drop REGISTERS_END s.exchange) else s.exchange;
}

abbrev pub passing : State → State
passing s = passing_if (by_exchange s.target) s

-- the count of steps after a stub, which does so many
abbrev pub steps_if : Bool → ℕ → ℕ → ℕ
steps_if true count steps = (steps + count) % 2 ^ 64
steps_if false count steps = steps
