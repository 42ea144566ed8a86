-- Where an element of a struct lies, and that it is without fault where the struct is.
use Rattle.std.proofs.Common.{◌≡◌, ℕ, ◌+◌, ◌-◌, ◌<◌, ◌≤◌, ◌^◌, List, length, All, take, drop, ap, ◌∙◌, arith}
use Rattle.std.proofs.lemmas.List.{get_or_default}
use Rattle.ffi3_type_spec.specs.declared.limits.TheConstants.{LARGEST_TYPE}
use Rattle.ffi3_type_spec.specs.Tree.{Tree, void, struct_of, tree_at, trees_of}
use Rattle.ffi3_type_spec.specs.Layout.{size_of, align_of, layouts, end_before, start_of, least_multiple}
use Rattle.ffi3_type_spec.specs.declared.Role.TheVariants.{Anywhere}
use Rattle.ffi3_type_spec.specs.Fault.{IsLaidOut}
use Rattle.ffi3_type_spec.specs.Value.{value_in}
use Rattle.ffi3_type_spec.proofs.Layouts.{align_bounded, start-turn}
use Rattle.ffi3_type_spec.proofs.Faults.{element_is_right, right_is_small}
use Rattle.ffi3_type_spec.proofs.Values.{element_value, element_within, end_within}

-- where element i lies
pub record Lies (ts : List Tree) (i start size : ℕ) : Type 0 where
  pub start_is : start ≡ start_of (layouts (trees_of ts)) i
  pub size_is : size ≡ size_of (tree_at ts i)
  pub within : start + size ≤ size_of (struct_of ts)

pub lies : (ts : List Tree) (i : ℕ) (t : Tree) (end align size start : ℕ) → i < length ts → t ≡ tree_at ts i → end ≡ end_before (layouts (trees_of ts)) i → align ≡ align_of t → start ≡ least_multiple align end → size ≡ size_of t → Lies ts i start size
lies ts i t end align size start below is e a s n =
    let start_here = s ∙ start-turn ts i t is end align e a in
    let size_here = n ∙ ap size_of is in
    record { start_is = start_here; size_is = size_here; within = omega (arith, element_within ts i below, start_here, size_here) }

-- the value of the bytes there is that of element i
pub part_is : (ts : List Tree) (i : ℕ) (t : Tree) (start size : ℕ) (bytes : List ℕ) → t ≡ tree_at ts i → Lies ts i start size → value_in t (take ((start + size) - start) (drop start bytes)) ≡ element_value ts bytes i
part_is ts i t start size bytes is here =
    let whole : (start + size) - start ≡ size = omega arith in
    rw (whole, here.start_is, here.size_is, is)

-- an element of a struct without fault has none
pub right_here : (ts : List Tree) (i : ℕ) (t : Tree) → IsLaidOut (struct_of ts) → i < length ts → t ≡ tree_at ts i → IsLaidOut t
right_here ts i t right below is = rw is (element_is_right Anywhere ts right i below)

-- the end of what is before an element, and its alignment, are small
pub room_before : (ts : List Tree) (i : ℕ) (t : Tree) (end align : ℕ) → IsLaidOut (struct_of ts) → i < length ts → end ≡ end_before (layouts (trees_of ts)) i → align ≡ align_of t → end + align < 2 ^ 64
room_before ts i t end align right below e a =
    let small = right_is_small 0 Anywhere (struct_of ts) right in
    omega (arith, small, end_within ts i (omega arith), align_bounded t, e, a)

-- the end of an element is small
pub room_here : (ts : List Tree) (i start size : ℕ) → IsLaidOut (struct_of ts) → Lies ts i start size → start + size < 2 ^ 64
room_here ts i start size right here =
    omega (arith, right_is_small 0 Anywhere (struct_of ts) right, here.within)

-- the elements of a struct that has a layout have one, and are small
pub elements_laid_out : (ts : List Tree) → IsLaidOut (struct_of ts) → All IsLaidOut ts
elements_laid_out ts right k d below =
    rw (get_or_default ts k d void below) (element_is_right Anywhere ts right k below)

pub all_small : (ts : List Tree) → All IsLaidOut ts → All (λ t. size_of t ≤ LARGEST_TYPE) ts
all_small ts right k d below = right_is_small 0 Anywhere _ (right k d below)
