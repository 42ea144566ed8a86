use Rattle.std.proofs.Common.{◌≡◌, ◌++◌, map, ap, ◌∙◌, arith}
use Rattle.ffi3_type_spec.specs.declared.Role.TheVariants.{Anywhere}
use Rattle.ffi3_type_spec.specs.Tree.{struct_of, trees_of}
use Rattle.ffi3_type_spec.specs.Layout.{size_of, moved, layouts, element, repeated}
use Rattle.ffi3_type_spec.proofs.Layouts.{align_positive, align_bounded, start-turn, end_before-turn}
use Rattle.ffi3_type_spec.proofs.Values.{element_within, end_within}
use Rattle.ffi3_type_spec.proofs.Faults.{right_is_small}
use Rattle.ffi3_type_spec.proofs.ElementPlaces.{right_here}
use Rattle.ffi3_type_spec.proofs.ArrayPlaces.{array_is_shaped, array_element_is_right, element_in_array}
use Rattle.ffi3_types.specs.TreeOf.{tree_of}
use Rattle.ffi3_types.proofs.PushedLeaves.{pushed-turn, pushed_at_end, repeated-turn}
use Rattle.ffi3_types.proofs.+push_leaves.Goals as goal

pub Fields::push_leaves-extent-extent-requires : goal.Fields::push_leaves-extent-extent-requires
Fields::push_leaves-extent-extent-requires t c =
    right_here c.args.self.now c.loop-k.k _ c.requires.right (omega arith) c.get-item.ensures.element

pub Fields::push_leaves-round_up-start-requires-clause-nonzero : goal.Fields::push_leaves-round_up-start-requires-clause-nonzero
Fields::push_leaves-round_up-start-requires-clause-nonzero t c =
    omega (arith, align_positive (tree_of c.get-item.result.now), c.extent-extent.ensures.align)

pub Fields::push_leaves-round_up-start-requires-clause-fits : goal.Fields::push_leaves-round_up-start-requires-clause-fits
Fields::push_leaves-round_up-start-requires-clause-fits t c =
    omega (arith, end_within c.args.self.now c.loop-k.k (omega arith), align_bounded (tree_of c.get-item.result.now), c.extent-extent.ensures.align, (right_is_small 0 Anywhere (struct_of c.args.self.now) c.requires.right))

pub Fields::push_leaves-overflow_add-from : goal.Fields::push_leaves-overflow_add-from
Fields::push_leaves-overflow_add-from t c =
    let start = start-turn c.args.self.now c.loop-k.k _ c.get-item.ensures.element _ _ c.loop-k.invariant.end c.extent-extent.ensures.align in
    let within = element_within c.args.self.now c.loop-k.k (omega arith) in
    omega (arith, start, c.round_up-start.ensures.value, within, c.requires.low)

pub Fields::push_leaves-push_leaves-requires : goal.Fields::push_leaves-push_leaves-requires
Fields::push_leaves-push_leaves-requires t c =
    let start = start-turn c.args.self.now c.loop-k.k _ c.get-item.ensures.element _ _ c.loop-k.invariant.end c.extent-extent.ensures.align in
    let here = ap size_of c.get-item.ensures.element in
    let within = element_within c.args.self.now c.loop-k.k (omega arith) in
    (omega arith, (right_here c.args.self.now c.loop-k.k _ c.requires.right (omega arith) c.get-item.ensures.element, omega (arith, start, c.round_up-start.ensures.value, here, within, c.requires.low)))

pub Fields::push_leaves-overflow_add-end : goal.Fields::push_leaves-overflow_add-end
Fields::push_leaves-overflow_add-end t c =
    let start = start-turn c.args.self.now c.loop-k.k _ c.get-item.ensures.element _ _ c.loop-k.invariant.end c.extent-extent.ensures.align in
    let here = ap size_of c.get-item.ensures.element in
    let within = element_within c.args.self.now c.loop-k.k (omega arith) in
    omega (arith, start, c.round_up-start.ensures.value, here, within, c.extent-extent.ensures.size, c.requires.low)

pub Fields::push_leaves-loop-k-preserved : goal.Fields::push_leaves-loop-k-preserved
Fields::push_leaves-loop-k-preserved t c =
    let start = start-turn c.args.self.now c.loop-k.k _ c.get-item.ensures.element _ _ c.loop-k.invariant.end c.extent-extent.ensures.align in
    record {
      end = rw c.round_up-start.ensures.value (end_before-turn c.args.self.now c.loop-k.k _ c.get-item.ensures.element _ _ _ c.loop-k.invariant.end c.extent-extent.ensures.size c.extent-extent.ensures.align);
      leaves = pushed-turn c.args.self.now c.loop-k.k _ _ _ _ c.args.from c.round_up-start.result c.get-item.ensures.element (c.round_up-start.ensures.value ∙ start) c.loop-k.invariant.leaves c.in_ok-push_leaves.ensures;
    }

pub Fields::push_leaves-returns : goal.Fields::push_leaves-returns
Fields::push_leaves-returns t c =
    pushed_at_end c.args.self.now c.loop-k.k (omega arith) _ _ c.args.from c.loop-k.invariant.leaves

pub Fields::push_leaves_of_array-get-item-requires : goal.Fields::push_leaves_of_array-get-item-requires
Fields::push_leaves_of_array-get-item-requires t c =
    omega (arith, (array_is_shaped 0 Anywhere c.args.self.now c.args.count c.requires.right).0)

pub Fields::push_leaves_of_array-extent-size-requires : goal.Fields::push_leaves_of_array-extent-size-requires
Fields::push_leaves_of_array-extent-size-requires t c =
    rw c.get-item.ensures.element (array_element_is_right Anywhere c.args.self.now c.args.count c.requires.right)

pub Fields::push_leaves_of_array-push_leaves-requires : goal.Fields::push_leaves_of_array-push_leaves-requires
Fields::push_leaves_of_array-push_leaves-requires t c =
    let size = c.extent-size.ensures.size ∙ ap size_of c.get-item.ensures.element in
    let within = element_in_array c.args.self.now c.args.count c.loop-i.i c.extent-size.result.size size (omega arith) in
    (omega (arith, c.get-item.ensures.fewer_nodes), (rw c.get-item.ensures.element (array_element_is_right Anywhere c.args.self.now c.args.count c.requires.right), omega (arith, within, c.extent-size.ensures.size, c.requires.low)))

pub Fields::push_leaves_of_array-loop-i-preserved : goal.Fields::push_leaves_of_array-loop-i-preserved
Fields::push_leaves_of_array-loop-i-preserved t c =
    repeated-turn c.args.self.now c.loop-i.i _ _ _ _ c.args.from c.extent-size.result.size c.get-item.ensures.element c.extent-size.ensures.size c.loop-i.invariant c.in_ok-push_leaves.ensures

pub Fields::push_leaves_of_array-returns : goal.Fields::push_leaves_of_array-returns
Fields::push_leaves_of_array-returns t c =
    let whole : c.loop-i.i ≡ c.args.count = omega arith in
    c.loop-i.invariant ∙ ap (λ n. c.args.leaves.now ++ map (moved c.args.from) (repeated (element (layouts (trees_of c.args.self.now)) 0) n)) whole
