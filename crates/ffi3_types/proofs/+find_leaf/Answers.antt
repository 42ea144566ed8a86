use Rattle.std.proofs.Common.{◌≡◌, ◌+◌, ◌*◌, ◌/◌, ◌%◌, ◌<◌, ℕ, List, ap, sym, ◌∙◌, arith, length}
use Rattle.std.proofs.Math.Nat.{mul-div_cancel_left}
use Rattle.ffi3_type_spec.specs.declared.Role.TheVariants.{Anywhere}
use Rattle.ffi3_type_spec.specs.Tree.{Tree, struct_of, array, tree_at, trees_of, scalar}
use Rattle.ffi3_type_spec.specs.Layout.{size_of, leaves_of, layouts, least_multiple, start_of, end_before, align_of}
use Rattle.ffi3_type_spec.proofs.Layouts.{align_positive, align_bounded, start-turn, end_before-turn}
use Rattle.ffi3_type_spec.proofs.Leaves.{leaves-turn, leaves_at_end, leaves_within_struct, leaf_of_struct}
use Rattle.ffi3_type_spec.proofs.Values.{element_within, end_within}
use Rattle.ffi3_type_spec.proofs.Faults.{right_is_small}
use Rattle.ffi3_type_spec.proofs.ElementPlaces.{right_here}
use Rattle.ffi3_type_spec.proofs.ArrayPlaces.{Lies, lies_in_element, array_is_shaped, array_element_is_right, array_count_is, array_size_is, array_leaf_there, element_in_array}
use Rattle.ffi3_type_spec.specs.Fault.{IsLaidOut}
use Rattle.ffi3_types.specs.TreeOf.{tree_of}
use Rattle.ffi3_types.proofs.+find_leaf.Goals as goal

-- where element k lies
start_here : (ts : List Tree) (k : ℕ) (t : Tree) (end align start : ℕ) → t ≡ tree_at ts k → end ≡ end_before (layouts (trees_of ts)) k → align ≡ align_of t → start ≡ least_multiple align end → start ≡ start_of (layouts (trees_of ts)) k
start_here ts k t end align start is e a s = s ∙ start-turn ts k t is end align e a

pub Fields::find_leaf-extent-extent-requires : goal.Fields::find_leaf-extent-extent-requires
Fields::find_leaf-extent-extent-requires t c =
    right_here c.args.self.now c.loop-k.k _ c.requires.right (omega arith) c.get-item.ensures.element

pub Fields::find_leaf-round_up-start-requires-clause-nonzero : goal.Fields::find_leaf-round_up-start-requires-clause-nonzero
Fields::find_leaf-round_up-start-requires-clause-nonzero t c =
    omega (arith, align_positive (tree_of c.get-item.result.now), c.extent-extent.ensures.align)

pub Fields::find_leaf-round_up-start-requires-clause-fits : goal.Fields::find_leaf-round_up-start-requires-clause-fits
Fields::find_leaf-round_up-start-requires-clause-fits t c =
    omega (arith, end_within c.args.self.now c.loop-k.k (omega arith), align_bounded (tree_of c.get-item.result.now), c.extent-extent.ensures.align, (right_is_small 0 Anywhere (struct_of c.args.self.now) c.requires.right))

pub Fields::find_leaf-count_leaves-count-requires : goal.Fields::find_leaf-count_leaves-count-requires
Fields::find_leaf-count_leaves-count-requires t c =
    right_here c.args.self.now c.loop-k.k _ c.requires.right (omega arith) c.get-item.ensures.element

pub Fields::find_leaf-overflow_add-before : goal.Fields::find_leaf-overflow_add-before
Fields::find_leaf-overflow_add-before t c =
    let turn = leaves-turn c.args.self.now c.loop-k.k _ c.get-item.ensures.element _ _ c.loop-k.invariant.before c.count_leaves-count.ensures in
    omega (arith, turn, leaves_within_struct c.args.self.now (c.loop-k.k + 1) (omega arith), (right_is_small 0 Anywhere (struct_of c.args.self.now) c.requires.right))

pub Fields::find_leaf-find_leaf-leaf-requires : goal.Fields::find_leaf-find_leaf-leaf-requires
Fields::find_leaf-find_leaf-leaf-requires t c =
    (omega arith, (right_here c.args.self.now c.loop-k.k _ c.requires.right (omega arith) c.get-item.ensures.element, (omega (arith, c.count_leaves-count.ensures), (c.extent-extent.ensures.size, c.count_leaves-count.ensures))))

pub Fields::find_leaf-overflow_add-result : goal.Fields::find_leaf-overflow_add-result
Fields::find_leaf-overflow_add-result t c =
    let start = start_here c.args.self.now c.loop-k.k _ _ _ _ c.get-item.ensures.element c.loop-k.invariant.end c.extent-extent.ensures.align c.round_up-start.ensures.value in
    let here = ap size_of c.get-item.ensures.element in
    let within = element_within c.args.self.now c.loop-k.k (omega arith) in
    omega (arith, start, here, within, c.find_leaf-leaf.ensures.inside, (right_is_small 0 Anywhere (struct_of c.args.self.now) c.requires.right))

pub Fields::find_leaf-returns-then-i-before-clause-at : goal.Fields::find_leaf-returns-then-i-before-clause-at
Fields::find_leaf-returns-then-i-before-clause-at t c =
    let start = start_here c.args.self.now c.loop-k.k _ _ _ _ c.get-item.ensures.element c.loop-k.invariant.end c.extent-extent.ensures.align c.round_up-start.ensures.value in
    let found = leaf_of_struct c.args.self.now c.loop-k.k _ c.args.i _ _ (omega arith) c.get-item.ensures.element c.loop-k.invariant.before c.loop-k.invariant.from (omega (arith, c.count_leaves-count.ensures)) start in
    omega (arith, ap (λ l. l.at) found, c.find_leaf-leaf.ensures.at)

pub Fields::find_leaf-returns-then-i-before-clause-kind : goal.Fields::find_leaf-returns-then-i-before-clause-kind
Fields::find_leaf-returns-then-i-before-clause-kind t c =
    let start = start_here c.args.self.now c.loop-k.k _ _ _ _ c.get-item.ensures.element c.loop-k.invariant.end c.extent-extent.ensures.align c.round_up-start.ensures.value in
    let found = leaf_of_struct c.args.self.now c.loop-k.k _ c.args.i _ _ (omega arith) c.get-item.ensures.element c.loop-k.invariant.before c.loop-k.invariant.from (omega (arith, c.count_leaves-count.ensures)) start in
    c.find_leaf-leaf.ensures.kind ∙ ap (λ l. scalar l.kind) (sym found)

pub Fields::find_leaf-returns-then-i-before-clause-inside : goal.Fields::find_leaf-returns-then-i-before-clause-inside
Fields::find_leaf-returns-then-i-before-clause-inside t c =
    let start = start_here c.args.self.now c.loop-k.k _ _ _ _ c.get-item.ensures.element c.loop-k.invariant.end c.extent-extent.ensures.align c.round_up-start.ensures.value in
    let here = ap size_of c.get-item.ensures.element in
    let within = element_within c.args.self.now c.loop-k.k (omega arith) in
    omega (arith, start, here, within, c.find_leaf-leaf.ensures.inside)

pub Fields::find_leaf-overflow_add-end : goal.Fields::find_leaf-overflow_add-end
Fields::find_leaf-overflow_add-end t c =
    let start = start_here c.args.self.now c.loop-k.k _ _ _ _ c.get-item.ensures.element c.loop-k.invariant.end c.extent-extent.ensures.align c.round_up-start.ensures.value in
    let here = ap size_of c.get-item.ensures.element in
    let within = element_within c.args.self.now c.loop-k.k (omega arith) in
    omega (arith, start, here, within, c.extent-extent.ensures.size, (right_is_small 0 Anywhere (struct_of c.args.self.now) c.requires.right))

pub Fields::find_leaf-loop-k-preserved : goal.Fields::find_leaf-loop-k-preserved
Fields::find_leaf-loop-k-preserved t c =
    record {
      end = rw c.round_up-start.ensures.value (end_before-turn c.args.self.now c.loop-k.k _ c.get-item.ensures.element _ _ _ c.loop-k.invariant.end c.extent-extent.ensures.size c.extent-extent.ensures.align);
      before = leaves-turn c.args.self.now c.loop-k.k _ c.get-item.ensures.element _ _ c.loop-k.invariant.before c.count_leaves-count.ensures;
      from = omega arith;
    }

pub Fields::find_leaf-unreachable-requires : goal.Fields::find_leaf-unreachable-requires
Fields::find_leaf-unreachable-requires t c =
    let all = leaves_at_end c.args.self.now c.loop-k.k _ (omega arith) c.loop-k.invariant.before in
    omega (arith, all, c.requires.in_range)

-- ---- an array

-- leaf i of an array, by the number of leaves of an element
lies_there : (ts : List Tree) (count i : ℕ) (t : Tree) (each : ℕ) → t ≡ tree_at ts 0 → each ≡ length (leaves_of t) → i < length (leaves_of (array (trees_of ts) count)) → Lies count each i
lies_there ts count i t each is e below =
    let one : each ≡ length (leaves_of (tree_at ts 0)) = e ∙ ap (λ u. length (leaves_of u)) is in
    let whole = array_count_is ts count ∙ ap (λ k. count * k) (sym one) in
    lies_in_element count each i (omega (arith, whole, below))

-- of size and leaves of an array, each element has its part
item_size : (ts : List Tree) (count whole : ℕ) (t : Tree) → t ≡ tree_at ts 0 → IsLaidOut (array (trees_of ts) count) → whole ≡ size_of (array (trees_of ts) count) → whole / count ≡ size_of t
item_size ts count whole t is right w =
    let some = (array_is_shaped 0 Anywhere ts count right).1 in
    ap (λ k. k / count) (w ∙ array_size_is ts count) ∙ mul-div_cancel_left (size_of (tree_at ts 0)) some ∙ ap size_of (sym is)

item_leaves : (ts : List Tree) (count whole : ℕ) (t : Tree) → t ≡ tree_at ts 0 → IsLaidOut (array (trees_of ts) count) → whole ≡ length (leaves_of (array (trees_of ts) count)) → whole / count ≡ length (leaves_of t)
item_leaves ts count whole t is right w =
    let some = (array_is_shaped 0 Anywhere ts count right).1 in
    ap (λ k. k / count) (w ∙ array_count_is ts count) ∙ mul-div_cancel_left (length (leaves_of (tree_at ts 0))) some ∙ ap (λ u. length (leaves_of u)) (sym is)

pub Fields::find_leaf_of_array-get-item-requires : goal.Fields::find_leaf_of_array-get-item-requires
Fields::find_leaf_of_array-get-item-requires t c =
    omega (arith, (array_is_shaped 0 Anywhere c.args.self.now c.args.count c.requires.right).0)

pub Fields::find_leaf_of_array-nonzero_div-size : goal.Fields::find_leaf_of_array-nonzero_div-size
Fields::find_leaf_of_array-nonzero_div-size t c =
    omega (arith, (array_is_shaped 0 Anywhere c.args.self.now c.args.count c.requires.right).1)

pub Fields::find_leaf_of_array-nonzero_div-each : goal.Fields::find_leaf_of_array-nonzero_div-each
Fields::find_leaf_of_array-nonzero_div-each t c =
    omega (arith, (array_is_shaped 0 Anywhere c.args.self.now c.args.count c.requires.right).1)

pub Fields::find_leaf_of_array-nonzero_div-number : goal.Fields::find_leaf_of_array-nonzero_div-number
Fields::find_leaf_of_array-nonzero_div-number t c =
    let each = item_leaves c.args.self.now c.args.count c.args.leaves _ c.get-item.ensures.element c.requires.right c.requires.counted in
    (lies_there c.args.self.now c.args.count c.args.i _ _ c.get-item.ensures.element each c.requires.in_range).some

pub Fields::find_leaf_of_array-nonzero_rem-rest : goal.Fields::find_leaf_of_array-nonzero_rem-rest
Fields::find_leaf_of_array-nonzero_rem-rest t c =
    let each = item_leaves c.args.self.now c.args.count c.args.leaves _ c.get-item.ensures.element c.requires.right c.requires.counted in
    (lies_there c.args.self.now c.args.count c.args.i _ _ c.get-item.ensures.element each c.requires.in_range).some

pub Fields::find_leaf_of_array-overflow_mul-start : goal.Fields::find_leaf_of_array-overflow_mul-start
Fields::find_leaf_of_array-overflow_mul-start t c =
    let size = item_size c.args.self.now c.args.count c.args.whole _ c.get-item.ensures.element c.requires.right c.requires.sized in
    let each = item_leaves c.args.self.now c.args.count c.args.leaves _ c.get-item.ensures.element c.requires.right c.requires.counted in
    let here = lies_there c.args.self.now c.args.count c.args.i _ _ c.get-item.ensures.element each c.requires.in_range in
    let within = element_in_array c.args.self.now c.args.count (c.args.i / (c.args.leaves / c.args.count)) (c.args.whole / c.args.count) (size ∙ ap size_of c.get-item.ensures.element) here.number in
    omega (arith, within, right_is_small 0 Anywhere (array (trees_of c.args.self.now) c.args.count) c.requires.right)

pub Fields::find_leaf_of_array-find_leaf-leaf-requires : goal.Fields::find_leaf_of_array-find_leaf-leaf-requires
Fields::find_leaf_of_array-find_leaf-leaf-requires t c =
    let size = item_size c.args.self.now c.args.count c.args.whole _ c.get-item.ensures.element c.requires.right c.requires.sized in
    let each = item_leaves c.args.self.now c.args.count c.args.leaves _ c.get-item.ensures.element c.requires.right c.requires.counted in
    let here = lies_there c.args.self.now c.args.count c.args.i _ _ c.get-item.ensures.element each c.requires.in_range in
    let below : c.args.i % (c.args.leaves / c.args.count) < length (leaves_of (tree_of c.get-item.result.now)) = omega (arith, here.rest, each) in
    (omega (arith, c.get-item.ensures.fewer_nodes), (rw c.get-item.ensures.element (array_element_is_right Anywhere c.args.self.now c.args.count c.requires.right), (below, (size, each))))

pub Fields::find_leaf_of_array-overflow_add-result : goal.Fields::find_leaf_of_array-overflow_add-result
Fields::find_leaf_of_array-overflow_add-result t c =
    let size = item_size c.args.self.now c.args.count c.args.whole _ c.get-item.ensures.element c.requires.right c.requires.sized in
    let each = item_leaves c.args.self.now c.args.count c.args.leaves _ c.get-item.ensures.element c.requires.right c.requires.counted in
    let here = lies_there c.args.self.now c.args.count c.args.i _ _ c.get-item.ensures.element each c.requires.in_range in
    let within = element_in_array c.args.self.now c.args.count (c.args.i / (c.args.leaves / c.args.count)) (c.args.whole / c.args.count) (size ∙ ap size_of c.get-item.ensures.element) here.number in
    omega (arith, within, right_is_small 0 Anywhere (array (trees_of c.args.self.now) c.args.count) c.requires.right, c.find_leaf-leaf.ensures.inside, size)

pub Fields::find_leaf_of_array-returns-clause-at : goal.Fields::find_leaf_of_array-returns-clause-at
Fields::find_leaf_of_array-returns-clause-at t c =
    let size = item_size c.args.self.now c.args.count c.args.whole _ c.get-item.ensures.element c.requires.right c.requires.sized in
    let each = item_leaves c.args.self.now c.args.count c.args.leaves _ c.get-item.ensures.element c.requires.right c.requires.counted in
    let here = lies_there c.args.self.now c.args.count c.args.i _ _ c.get-item.ensures.element each c.requires.in_range in
    let found = array_leaf_there c.args.self.now c.args.count c.args.i _ (c.args.whole / c.args.count) (c.args.leaves / c.args.count) c.get-item.ensures.element size each here in
    ap (λ k. c.args.i / (c.args.leaves / c.args.count) * (c.args.whole / c.args.count) + k) c.find_leaf-leaf.ensures.at ∙ sym (ap (λ l. l.at) found)

pub Fields::find_leaf_of_array-returns-clause-kind : goal.Fields::find_leaf_of_array-returns-clause-kind
Fields::find_leaf_of_array-returns-clause-kind t c =
    let size = item_size c.args.self.now c.args.count c.args.whole _ c.get-item.ensures.element c.requires.right c.requires.sized in
    let each = item_leaves c.args.self.now c.args.count c.args.leaves _ c.get-item.ensures.element c.requires.right c.requires.counted in
    let here = lies_there c.args.self.now c.args.count c.args.i _ _ c.get-item.ensures.element each c.requires.in_range in
    let found = array_leaf_there c.args.self.now c.args.count c.args.i _ (c.args.whole / c.args.count) (c.args.leaves / c.args.count) c.get-item.ensures.element size each here in
    c.find_leaf-leaf.ensures.kind ∙ ap (λ l. scalar l.kind) (sym found)

pub Fields::find_leaf_of_array-returns-clause-inside : goal.Fields::find_leaf_of_array-returns-clause-inside
Fields::find_leaf_of_array-returns-clause-inside t c =
    let size = item_size c.args.self.now c.args.count c.args.whole _ c.get-item.ensures.element c.requires.right c.requires.sized in
    let each = item_leaves c.args.self.now c.args.count c.args.leaves _ c.get-item.ensures.element c.requires.right c.requires.counted in
    let here = lies_there c.args.self.now c.args.count c.args.i _ _ c.get-item.ensures.element each c.requires.in_range in
    let within = element_in_array c.args.self.now c.args.count (c.args.i / (c.args.leaves / c.args.count)) (c.args.whole / c.args.count) (size ∙ ap size_of c.get-item.ensures.element) here.number in
    omega (arith, within, c.find_leaf-leaf.ensures.inside, size)
