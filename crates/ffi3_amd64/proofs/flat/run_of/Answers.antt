use Rattle.std.proofs.Common.{refl, sym, ◌∙◌, arith}
use Rattle.ffi3_type_spec.specs.declared.Role.TheVariants.{Anywhere}
use Rattle.ffi3_type_spec.proofs.ArrayPlaces.{array_is_shaped}
use Rattle.ffi3_types.specs.TreeOf.{tree_of}
use Rattle.ffi3_amd64.proofs.Walks.{array_is_run, scalar_is_run}
use Rattle.ffi3_amd64.proofs.flat.run_of.Goals as goal

pub get-requires : goal.get-requires
get-requires c =
    let right = rw c.in-Array.is at c.requires in
    omega (arith, (array_is_shaped 0 Anywhere c.in-Array.fields c.in-Array.count right).0)

pub returns-in-Array : goal.returns-in-Array
returns-in-Array c =
    let right = rw c.in-Array.is at c.requires in
    let some = (array_is_shaped 0 Anywhere c.in-Array.fields c.in-Array.count right).1 in
    let one = scalar_is_run (tree_of c.get.result.now) c.in-Some.one (sym c.scalar_run.ensures ∙ c.in-Some.is) in
    rw c.in-Array.is (array_is_run c.in-Array.fields c.in-Array.count (tree_of c.get.result.now) c.in-Some.one _ some c.get.ensures.element refl one)
