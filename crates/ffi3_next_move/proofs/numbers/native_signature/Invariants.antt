use Rattle.std.proofs.Common.{◌≡◌, ◌+◌}
use Rattle.ffi3_script_spec.specs.Handed.{handed, natives_in, signatures_before}
use Rattle.ffi3_next_move.proofs.numbers.native_signature.Given as goal

abbrev pub invariant-loop-j : goal.invariant-loop-j
invariant-loop-j g l =
    l.left + signatures_before (natives_in (handed (λ b. (goal.Native-dyn g (b.vtable, b.value)).Native.title b.value) (λ b. (goal.Native-dyn g (b.vtable, b.value)).Body.meaning b.value) (λ b. (goal.Native-dyn g (b.vtable, b.value)).Body.signatures b.value) l.natives.items)) l.j ≡ l.number
