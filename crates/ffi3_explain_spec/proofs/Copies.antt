-- Copies of arguments lie in the frame with all of their bytes.
use Rattle.std.specs.Prelude.{◌/◌, ◌*◌}
use Rattle.std.proofs.Common.{◌≡◌, ℕ, zero, suc, ◌+◌, ◌<◌, ◌≤◌, false, [], ◌∷◌, length, refl, arith}
use Rattle.std.specs.List.{AllByRecursion}
use Rattle.ffi3_type_spec.specs.declared.Isa.{Isa}
use Rattle.ffi3_type_spec.specs.declared.Role.{Role}
use Rattle.ffi3_type_spec.specs.declared.Role.TheVariants.{AsArgument, AsElement, PlacedArgument}
use Rattle.ffi3_type_spec.specs.Tree.{Tree, void, scalar, left_out, structure, array, no_trees, tree, tree_at}
use Rattle.ffi3_type_spec.specs.Layout.{size_of, layouts, align_before, end_before}
use Rattle.ffi3_type_spec.specs.Fault.{takes_void, HasNoFault, IsArgumentType, bad_typedef, left_out_type, out_of_place, left_out_kind, misshapen}
use Rattle.ffi3_type_spec.specs.Signature.{Signature, SignatureIsPlaced, bad_type, at_argument, in_argument, of_type}
use Rattle.ffi3_type_spec.proofs.Faults.{fault_outside}
use Rattle.ffi3_type_spec.proofs.Right.{right_without_first}
use Rattle.ffi3_type_spec.proofs.Layouts.{least_multiple-above, scalar_room-bounds, size_le-end}
use Rattle.ffi3_place_spec.specs.Sound.{LiesIn, stack_words, stack_words_for}

-- a type without fault that is not Void has bytes
has_bytes : (outer : ℕ) (role : Role) (t : Tree) → takes_void role ≡ false → HasNoFault outer role t → 1 ≤ size_of t
has_bytes outer role void none right = absurd (right [] bad_typedef (out_of_place refl none))
has_bytes outer role (scalar s) none right = (scalar_room-bounds s).0
has_bytes outer role (left_out k) none right = absurd (right [] (left_out_type (left_out k)) (left_out_kind refl))
has_bytes outer role (array (tree t no_trees) (suc n)) none right =
    let inside : HasNoFault (outer + 1) AsElement t = λ path fault is. right (0 ∷ path) fault (fault_outside (array (tree t no_trees) (suc n)) 0 path fault (omega arith) is) in
    let first = has_bytes (outer + 1) AsElement t refl inside in
    let more : suc n * size_of t ≡ n * size_of t + size_of t = omega arith in
    omega (arith, first, more)
has_bytes outer role (structure (tree t ts)) none right =
    let inside : HasNoFault (outer + 1) AsElement t = λ path fault is. right (0 ∷ path) fault (fault_outside (structure (tree t ts)) 0 path fault (omega arith) is) in
    let first = has_bytes (outer + 1) AsElement t refl inside in
    let ends : size_of t ≤ end_before (layouts (tree t ts)) (length (layouts (tree t ts))) = size_le-end (layouts (tree t ts)) 0 (length (layouts (tree t ts))) (omega arith) in
    let rounded : end_before (layouts (tree t ts)) (length (layouts (tree t ts))) ≤ size_of (structure (tree t ts)) = least_multiple-above (align_before (layouts (tree t ts)) (length (layouts (tree t ts)))) (end_before (layouts (tree t ts)) (length (layouts (tree t ts)))) in
    omega (arith, first, ends, rounded)
has_bytes outer role _ none right = absurd (right [] bad_typedef (misshapen refl refl))

pub bytes_of_right : (t : Tree) → IsArgumentType t → 1 ≤ size_of t
bytes_of_right t right = has_bytes 0 AsArgument t refl right

-- so has an argument that can be placed
pub bytes_of_placed : (s : Signature) → SignatureIsPlaced s → (i : ℕ) → i < length s.arguments → 1 ≤ size_of (tree_at s.arguments i)
bytes_of_placed s right i below =
    has_bytes 0 PlacedArgument (tree_at s.arguments i) refl (right_without_first PlacedArgument (tree_at s.arguments i) (λ path f first. right (bad_type (at_argument i) path f) (in_argument below (of_type first))))

module _ (isa : Isa) (frame : ℕ) where
  words_fit : (at count : ℕ) → AllByRecursion (LiesIn isa frame) (stack_words at (suc count)) → at + 8 * suc count ≤ frame
  words_fit at zero h = omega (arith, h.0.0)
  words_fit at (suc count) h = omega (arith, words_fit (at + 8) count h.1)

  doublewords_fit : (copy count size : ℕ) → 1 ≤ size → count ≡ (size + 7) / 8 → AllByRecursion (LiesIn isa frame) (stack_words copy count) → copy + size ≤ frame
  doublewords_fit copy zero size some is h = absurd (omega (arith, some, is))
  doublewords_fit copy (suc count) size some is h = omega (arith, words_fit copy count h, is)

  pub copy_fits : (copy : ℕ) (t : Tree) → 1 ≤ size_of t → AllByRecursion (LiesIn isa frame) (stack_words_for copy t) → copy + size_of t ≤ frame
  copy_fits copy t some h = doublewords_fit copy ((size_of t + 7) / 8) (size_of t) some refl h
