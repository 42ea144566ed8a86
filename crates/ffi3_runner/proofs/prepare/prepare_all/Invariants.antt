use Rattle.std.proofs.Common.{◌≡◌, ◌++◌, take}
use Rattle.ffi3_script.specs.ScriptOf.{script_of}
use Rattle.ffi3_script_spec.specs.Handed.{handed, signatures_in}
use Rattle.ffi3_runner.proofs.prepare.prepare_all.Given as goal

abbrev pub invariant-loop-number : goal.invariant-loop-number
invariant-loop-number g l =
    l.cifs ≡ take l.number ((script_of l.script).signatures ++ signatures_in (handed (λ b. (goal.Native-dyn g (b.vtable, b.value)).Native.title b.value) (λ b. (goal.Native-dyn g (b.vtable, b.value)).Body.meaning b.value) (λ b. (goal.Native-dyn g (b.vtable, b.value)).Body.signatures b.value) l.natives.items))
