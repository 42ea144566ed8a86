use Rattle.std.proofs.Common.{◌<◌, ◌*◌, ap, sym, ◌∙◌, arith, length}
use Rattle.std.proofs.lemmas.List.{length-map}
use Rattle.ffi3_type_spec.specs.declared.limits.TheConstants.{LARGEST_TYPE}
use Rattle.ffi3_type_spec.specs.declared.Role.TheVariants.{Anywhere}
use Rattle.ffi3_type_spec.specs.Tree.{nodes, void, array, trees_of}
use Rattle.ffi3_type_spec.specs.Layout.{size_of, align_of, layouts}
use Rattle.ffi3_type_spec.proofs.Faults.{right_is_small}
use Rattle.ffi3_type_spec.proofs.ElementPlaces.{elements_laid_out, all_small}
use Rattle.ffi3_type_spec.proofs.ArrayPlaces.{array_is_shaped, array_element_is_right, array_size_is, array_align_is}
use Rattle.ffi3_type_spec.proofs.Layouts.{everywhere, align_positive, align_bounded, end_before-bounded, align_before-positive, align_before-bounded, aligns_bounded, nodes-element, end_before-turn, align_before-turn, size_at_end, align_at_end}
use Rattle.ffi3_types.specs.TreeOf.{tree_of}
use Rattle.ffi3_types.proofs.+extent.Goals as goal
use Rattle.ffi3_types.proofs.+extent.Goals.{Fields::front-then-item-align, Fields::front-else-item-align}

pub FfiType::extent-extent-requires : goal.FfiType::extent-extent-requires
FfiType::extent-extent-requires t c =
    let is = c.in-Struct.is in
    let fewer = ap (λ x. nodes (tree_of x)) is in
    (omega (arith, fewer), elements_laid_out c.in-Struct.fields (rw is at c.requires))

pub FfiType::extent-extent_of_array-requires : goal.FfiType::extent-extent_of_array-requires
FfiType::extent-extent_of_array-requires t c =
    let is = c.in-Array.is in
    let fewer = ap (λ x. nodes (tree_of x)) is in
    (omega (arith, fewer), rw is at c.requires)

pub Fields::extent_of_array-get-requires : goal.Fields::extent_of_array-get-requires
Fields::extent_of_array-get-requires t c =
    omega (arith, (array_is_shaped 0 Anywhere c.args.self.now c.args.count c.requires).0)

pub Fields::extent_of_array-extent-item-requires : goal.Fields::extent_of_array-extent-item-requires
Fields::extent_of_array-extent-item-requires t c =
    (omega (arith, c.get.ensures.fewer_nodes), rw c.get.ensures.element (array_element_is_right Anywhere c.args.self.now c.args.count c.requires))

pub Fields::extent_of_array-overflow_mul-result : goal.Fields::extent_of_array-overflow_mul-result
Fields::extent_of_array-overflow_mul-result t c =
    let size = c.extent-item.ensures.size ∙ ap size_of c.get.ensures.element in
    let whole = array_size_is c.args.self.now c.args.count ∙ ap (λ k. c.args.count * k) (sym size) in
    omega (arith, whole, right_is_small 0 Anywhere (array (trees_of c.args.self.now) c.args.count) c.requires)

pub Fields::extent_of_array-returns-clause-size : goal.Fields::extent_of_array-returns-clause-size
Fields::extent_of_array-returns-clause-size t c =
    let size = c.extent-item.ensures.size ∙ ap size_of c.get.ensures.element in
    ap (λ k. c.args.count * k) size ∙ sym (array_size_is c.args.self.now c.args.count)

pub Fields::extent_of_array-returns-clause-align : goal.Fields::extent_of_array-returns-clause-align
Fields::extent_of_array-returns-clause-align t c =
    c.extent-item.ensures.align ∙ ap align_of c.get.ensures.element ∙ sym (array_align_is c.args.self.now c.args.count)

pub Fields::front-extent-item-requires : goal.Fields::front-extent-item-requires
Fields::front-extent-item-requires t c =
    let ts = c.args.self.now in
    let i = c.loop-i.i in
    let below : i < length ts = omega arith in
    let fewer = nodes-element ts i below in
    let here = ap nodes c.get.ensures.element in
    (omega arith, rw c.get.ensures.element (c.requires.right i void below))

-- the element's alignment is from 1 to 8, and the end so far is small
pub Fields::front-round_up-requires-clause-nonzero : goal.Fields::front-round_up-requires-clause-nonzero
Fields::front-round_up-requires-clause-nonzero t c =
    omega (arith, align_positive (tree_of c.get.result.now), c.extent-item.ensures.align)

pub Fields::front-round_up-requires-clause-fits : goal.Fields::front-round_up-requires-clause-fits
Fields::front-round_up-requires-clause-fits t c =
    let ts = c.args.self.now in
    omega (arith, align_bounded (tree_of c.get.result.now), c.extent-item.ensures.align, end_before-bounded ts c.loop-i.i (everywhere LARGEST_TYPE ts (all_small ts c.requires.right)), length-map c.self.inside.types.items tree_of, ap length c.self.view_is, c.self.invariant)

pub Fields::front-overflow_add-end : goal.Fields::front-overflow_add-end
Fields::front-overflow_add-end t c =
    let ts = c.args.self.now in
    let sized = everywhere LARGEST_TYPE ts (all_small ts c.requires.right) c.loop-i.i in
    let size_here = ap size_of c.get.ensures.element in
    omega (arith, align_bounded (tree_of c.get.result.now), c.extent-item.ensures, end_before-bounded ts c.loop-i.i (everywhere LARGEST_TYPE ts (all_small ts c.requires.right)), length-map c.self.inside.types.items tree_of, ap length c.self.view_is, c.self.invariant)

pub Fields::front-loop-i-preserved : goal.Fields::front-loop-i-preserved
Fields::front-loop-i-preserved t c =
    let ts = c.args.self.now in
    let here = c.get.ensures.element in
    let sized = c.extent-item.ensures in
    let ends = end_before-turn ts c.loop-i.i _ here _ _ _ c.loop-i.invariant.end sized.size sized.align in
    let aligned = align_before-turn ts c.loop-i.i _ here _ _ c.loop-i.invariant.align sized.align in
    record {
      end = rw c.round_up.ensures.value ends;
      align = elim c.if-item-align.branch [ Fields::front-then-item-align w ↦ omega (arith, aligned) | Fields::front-else-item-align w ↦ omega (arith, aligned) ];
    }

pub Fields::extent-round_up-requires-clause-nonzero : goal.Fields::extent-round_up-requires-clause-nonzero
Fields::extent-round_up-requires-clause-nonzero t c =
    omega (arith, align_before-positive (layouts (trees_of c.args.self.now)) c.len.result, c.front-front.ensures.align)

pub Fields::extent-round_up-requires-clause-fits : goal.Fields::extent-round_up-requires-clause-fits
Fields::extent-round_up-requires-clause-fits t c =
    let ts = c.args.self.now in
    omega (arith, align_before-bounded (layouts (trees_of ts)) c.len.result (aligns_bounded (trees_of ts)), end_before-bounded ts c.len.result (everywhere LARGEST_TYPE ts (all_small ts c.requires)), c.front-front.ensures, c.len.ensures)

pub Fields::extent-returns-clause-size : goal.Fields::extent-returns-clause-size
Fields::extent-returns-clause-size t c =
    rw c.round_up.ensures.value (size_at_end c.args.self.now c.len.result c.len.ensures.count _ _ c.front-front.ensures.end c.front-front.ensures.align)

pub Fields::extent-returns-clause-align : goal.Fields::extent-returns-clause-align
Fields::extent-returns-clause-align t c =
    align_at_end c.args.self.now c.len.result c.len.ensures.count _ c.front-front.ensures.align
