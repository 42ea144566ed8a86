use Rattle.std.proofs.Common.{ap, sym, ◌∙◌, arith}
use Rattle.ffi3_type_spec.specs.declared.Role.TheVariants.{Anywhere}
use Rattle.ffi3_type_spec.specs.Tree.{nodes}
use Rattle.ffi3_type_spec.proofs.Faults.{element_is_right}
use Rattle.ffi3_type_spec.proofs.ArrayPlaces.{array_is_shaped, array_element_is_right}
use Rattle.ffi3_types.specs.TreeOf.{tree_of}
use Rattle.ffi3_aapcs64.proofs.Members.{members-turn, members_at_end, other_member, array_by_element}
use Rattle.ffi3_aapcs64.proofs.+has_only.Goals as goal

pub has_only-have_only-requires : goal.has_only-have_only-requires
has_only-have_only-requires t c =
    let is = c.in-Struct.is in
    let fewer = ap (λ x. nodes (tree_of x)) is in
    (omega (arith, fewer), rw is at c.requires)

pub has_only-get-requires : goal.has_only-get-requires
has_only-get-requires t c =
    let right = rw c.in-Array.is at c.requires in
    omega (arith, (array_is_shaped 0 Anywhere c.in-Array.fields c.in-Array._count right).0)

pub has_only-has_only-requires : goal.has_only-has_only-requires
has_only-has_only-requires t c =
    let is = c.in-Array.is in
    let right = rw is at c.requires in
    let fewer = ap (λ x. nodes (tree_of x)) is in
    (omega (arith, fewer, c.get.ensures.fewer_nodes), rw c.get.ensures.element (array_element_is_right Anywhere c.in-Array.fields c.in-Array._count right))

pub has_only-returns-in-Array : goal.has_only-returns-in-Array
has_only-returns-in-Array t c =
    let is = c.in-Array.is in
    let right = rw is at c.requires in
    let some = (array_is_shaped 0 Anywhere c.in-Array.fields c.in-Array._count right).1 in
    rw is (c.has_only.ensures ∙ sym (array_by_element c.args.kind c.in-Array.fields c.in-Array._count _ c.get.ensures.element some))

pub have_only-has_only-requires : goal.have_only-has_only-requires
have_only-has_only-requires t c =
    (omega (arith, c.get.ensures.fewer_nodes), rw c.get.ensures.element (element_is_right Anywhere c.args.fields.now c.requires c.loop-i.i (omega arith)))

pub have_only-returns-then-not-has_only : goal.have_only-returns-then-not-has_only
have_only-returns-then-not-has_only t c =
    sym (other_member c.args.kind c.args.fields.now c.loop-i.i _ (omega arith) c.get.ensures.element (sym c.has_only.ensures ∙ c.if-not-has_only.true))

pub have_only-loop-i-preserved : goal.have_only-loop-i-preserved
have_only-loop-i-preserved t c =
    members-turn c.args.kind c.args.fields.now c.loop-i.i _ c.get.ensures.element c.loop-i.invariant (sym c.has_only.ensures ∙ c.if-not-has_only.false)

pub have_only-returns : goal.have_only-returns
have_only-returns t c =
    sym (members_at_end c.args.kind c.args.fields.now c.loop-i.i (omega arith) c.loop-i.invariant)
