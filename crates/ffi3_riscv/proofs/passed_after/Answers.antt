use Rattle.std.proofs.Common.{subst}
use Rattle.ffi3_type_spec.specs.Layout.{size_of, leaves_of}
use Rattle.ffi3_riscv_spec.proofs.Shapes.{Suits, passed_suits, passed_has_room}
use Rattle.ffi3_riscv.proofs.passed_after.Goals as goal

pub returns-clause-suits : goal.returns-clause-suits
returns-clause-suits c =
    subst (λ t. Suits (size_of t) (leaves_of t) c.passed_as.result) c.arg.ensures (rw (c.passed_as.ensures.value c.arg.result c.found_of-found.ensures.is) (passed_suits c.taken_at_start-before.result c.is_fixed-fixed.result c.arg.result))

pub returns-clause-room : goal.returns-clause-room
returns-clause-room c =
    rw (c.passed_as.ensures.value c.arg.result c.found_of-found.ensures.is) (passed_has_room c.taken_at_start-before.result c.is_fixed-fixed.result c.arg.result)
