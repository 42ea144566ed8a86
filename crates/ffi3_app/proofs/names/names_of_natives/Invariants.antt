use Rattle.std.proofs.Common.{◌≡◌, take}
use Rattle.ffi3_script_spec.specs.Natives.{names_of}
use Rattle.ffi3_script_spec.specs.Handed.{handed}
use Rattle.ffi3_app.proofs.names.names_of_natives.Given as goal

abbrev pub invariant-loop-i : goal.invariant-loop-i
invariant-loop-i g l =
    l.names ≡ take l.i (names_of (handed (λ b. (goal.Native-dyn g (b.vtable, b.value)).Native.title b.value) (λ b. (goal.Native-dyn g (b.vtable, b.value)).Body.meaning b.value) (λ b. (goal.Native-dyn g (b.vtable, b.value)).Body.signatures b.value) l.natives.items))
