use Rattle.std.proofs.Common.{arith, ap, sym, ◌∙◌}
use Rattle.ffi3_type_spec.specs.declared.Role.TheVariants.{Anywhere}
use Rattle.ffi3_type_spec.specs.Layout.{size_of}
use Rattle.ffi3_type_spec.proofs.Faults.{right_is_small}
use Rattle.ffi3_types.specs.ScalarSize.{scalar_size_of}
use Rattle.ffi3_types.specs.TreeOf.{tree_of}
use Rattle.ffi3_types.proofs.Scalars.{sized_scalar}
use Rattle.ffi3_types.proofs.checked.CheckedType.size.Goals as goal

pub returns-then-size-ne0-clause-value : goal.returns-then-size-ne0-clause-value
returns-then-size-ne0-clause-value c =
    let is = sized_scalar (tree_of c.self.inside.ty.now) (λ e. omega (arith, c.if-size-ne0.true, c.scalar_size-size.ensures, e)) in
    c.scalar_size-size.ensures ∙ ap scalar_size_of is.1 ∙ sym (ap size_of is.1) ∙ ap size_of c.self.view_is

pub returns-clause-small : goal.returns-clause-small
returns-clause-small c =
    omega (arith, c.size.ensures, right_is_small 0 Anywhere (tree_of c.self.inside.ty.now) c.self.invariant)
