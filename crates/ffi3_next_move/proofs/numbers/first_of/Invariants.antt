use Rattle.std.proofs.Common.{◌≡◌, ◌+◌, length}
use Rattle.ffi3_script.specs.ScriptOf.{script_of}
use Rattle.ffi3_script_spec.specs.Handed.{handed, natives_in, signatures_before}
use Rattle.ffi3_next_move.proofs.numbers.first_of.Given as goal

abbrev pub invariant-loop-i : goal.invariant-loop-i
invariant-loop-i g l =
    l.first ≡ length (script_of l.script).signatures + signatures_before (natives_in (handed (λ b. (goal.Native-dyn g (b.vtable, b.value)).Native.title b.value) (λ b. (goal.Native-dyn g (b.vtable, b.value)).Body.meaning b.value) (λ b. (goal.Native-dyn g (b.vtable, b.value)).Body.signatures b.value) l.natives.items)) l.i
