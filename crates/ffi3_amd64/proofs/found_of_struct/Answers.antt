use Rattle.std.proofs.Common.{arith}
use Rattle.ffi3_type_spec.specs.declared.Role.TheVariants.{Anywhere}
use Rattle.ffi3_type_spec.specs.Tree.{struct_of}
use Rattle.ffi3_type_spec.proofs.Faults.{right_is_small}
use Rattle.ffi3_amd64.proofs.found_of_struct.Goals as goal

pub round_up-size-requires-clause-fits : goal.round_up-size-requires-clause-fits
round_up-size-requires-clause-fits c =
    let flat = rw c.in-Some.is at c.walk_over.ensures in
    let right = rw c.in-Struct.is at c.as_type.ensures.right in
    omega (arith, flat.near, flat.low, right_is_small 0 Anywhere (struct_of c.in-Struct.fields) right)

pub returns-in-Some-clause-small : goal.returns-in-Some-clause-small
returns-in-Some-clause-small c =
    let flat = rw c.in-Some.is at c.walk_over.ensures in
    let right = rw c.in-Struct.is at c.as_type.ensures.right in
    omega (arith, c.round_up-size.ensures.value, flat.size, right_is_small 0 Anywhere (struct_of c.in-Struct.fields) right)
