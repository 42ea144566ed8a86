use Rattle.std.proofs.Common.{◌≡◌, subst, sym}
use Rattle.ffi3_type_spec.specs.TargetIsa.{isa_of}
use Rattle.ffi3_machine_spec.specs.State.{begun_code}
use Rattle.ffi3_semantics_spec.specs.Closures.{Closures, no_closures}
use Rattle.ffi3_machine_spec.specs.Slots.{HoldsMap}
use Rattle.ffi3_closures.proofs.Holding.{holds-begun}
use Rattle.ffi3_closures.proofs.Table.new.Goals as goal

pub returns-clause-begins : goal.returns-clause-begins
returns-clause-begins c target =
    let is : c.from.result.items ≡ no_closures = c.from.ensures.0 in
    subst (λ (cs : Closures). HoldsMap target cs (begun_code (isa_of target))) (sym is) (holds-begun target)
