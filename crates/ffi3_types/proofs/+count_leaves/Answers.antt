use Rattle.std.proofs.Common.{◌+◌, ◌*◌, ap, sym, ◌∙◌, arith, length}
use Rattle.ffi3_type_spec.specs.declared.Role.TheVariants.{Anywhere}
use Rattle.ffi3_type_spec.specs.Tree.{struct_of, array, trees_of}
use Rattle.ffi3_type_spec.specs.Layout.{leaves_of}
use Rattle.ffi3_type_spec.proofs.Faults.{right_is_small, element_is_right}
use Rattle.ffi3_type_spec.proofs.ArrayPlaces.{array_is_shaped, array_element_is_right, array_count_is}
use Rattle.ffi3_type_spec.proofs.Leaves.{leaves-turn, leaves_at_end, leaves_within_struct, leaves_le-size}
use Rattle.ffi3_types.proofs.+count_leaves.Goals as goal

pub Fields::count_leaves-count_leaves-total-requires : goal.Fields::count_leaves-count_leaves-total-requires
Fields::count_leaves-count_leaves-total-requires t c =
    (omega arith, rw c.get.ensures.element (element_is_right Anywhere c.args.self.now c.requires c.loop-k.k (omega arith)))

pub Fields::count_leaves-overflow_add-total : goal.Fields::count_leaves-overflow_add-total
Fields::count_leaves-overflow_add-total t c =
    let turn = leaves-turn c.args.self.now c.loop-k.k _ c.get.ensures.element _ _ c.loop-k.invariant c.count_leaves-total.ensures in
    omega (arith, turn, leaves_within_struct c.args.self.now (c.loop-k.k + 1) (omega arith), right_is_small 0 Anywhere (struct_of c.args.self.now) c.requires)

pub Fields::count_leaves-loop-k-preserved : goal.Fields::count_leaves-loop-k-preserved
Fields::count_leaves-loop-k-preserved t c =
    leaves-turn c.args.self.now c.loop-k.k _ c.get.ensures.element _ _ c.loop-k.invariant c.count_leaves-total.ensures

pub Fields::count_leaves-returns : goal.Fields::count_leaves-returns
Fields::count_leaves-returns t c = leaves_at_end c.args.self.now c.loop-k.k _ (omega arith) c.loop-k.invariant

pub Fields::count_leaves_of_array-get-requires : goal.Fields::count_leaves_of_array-get-requires
Fields::count_leaves_of_array-get-requires t c =
    omega (arith, (array_is_shaped 0 Anywhere c.args.self.now c.args.count c.requires).0)

pub Fields::count_leaves_of_array-count_leaves-requires : goal.Fields::count_leaves_of_array-count_leaves-requires
Fields::count_leaves_of_array-count_leaves-requires t c =
    (omega (arith, c.get.ensures.fewer_nodes), rw c.get.ensures.element (array_element_is_right Anywhere c.args.self.now c.args.count c.requires))

pub Fields::count_leaves_of_array-overflow_mul-result : goal.Fields::count_leaves_of_array-overflow_mul-result
Fields::count_leaves_of_array-overflow_mul-result t c =
    let each = c.count_leaves.ensures ∙ ap (λ u. length (leaves_of u)) c.get.ensures.element in
    let whole = array_count_is c.args.self.now c.args.count ∙ ap (λ k. c.args.count * k) (sym each) in
    let within = leaves_le-size (array (trees_of c.args.self.now) c.args.count) in
    omega (arith, whole, within, right_is_small 0 Anywhere (array (trees_of c.args.self.now) c.args.count) c.requires)

pub Fields::count_leaves_of_array-returns : goal.Fields::count_leaves_of_array-returns
Fields::count_leaves_of_array-returns t c =
    let each = c.count_leaves.ensures ∙ ap (λ u. length (leaves_of u)) c.get.ensures.element in
    ap (λ k. c.args.count * k) each ∙ sym (array_count_is c.args.self.now c.args.count)
