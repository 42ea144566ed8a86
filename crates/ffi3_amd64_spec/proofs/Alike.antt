-- Structs of equal layout are placed alike.
use Rattle.std.proofs.Common.{◌≡◌, ℕ, Bool, zero, suc, ◌+◌, ◌*◌, ◌/◌, false, not, ◌&&◌, ◌||◌, cond, List, [], ◌∷◌, ◌++◌, length, refl, ap, ◌∙◌}
use Rattle.std.specs.Prelude.{max, nat_lt, nat_le}
use Rattle.std.specs.List.{list_any, count_by}
use Rattle.ffi3_type_spec.specs.Tree.{Tree, structure, Trees}
use Rattle.ffi3_type_spec.specs.Layout.{Layout, layout, least_multiple, size_of}
use Rattle.ffi3_type_spec.specs.Signature.{Signature}
use Rattle.ffi3_place_spec.specs.declared.Loc.TheVariants.{G, S}
use Rattle.ffi3_place_spec.specs.declared.Ext.TheVariants.{Free}
use Rattle.ffi3_place_spec.specs.declared.Piece.{Piece}
use Rattle.ffi3_place_spec.specs.declared.Taken.{Taken}
use Rattle.ffi3_place_spec.specs.Standard.{Spot, ResultSpot, in_pieces, in_buffer, in_result_pieces, round8, doubleword}
use Rattle.ffi3_place_spec.specs.Doublewords.{doublewords_at}
use Rattle.ffi3_place_spec.specs.Alike.{AreAlike, same_type, same_layout, AllAlike, SignaturesAreAlike, GoesByLayout}
use Rattle.ffi3_place_spec.proofs.Alike.{all_alike, plan_alike, start_alike}
use Rattle.ffi3_amd64_spec.specs.declared.Class.{Class}
use Rattle.ffi3_amd64_spec.specs.declared.Class.TheVariants.{Integer, Sse}
use Rattle.ffi3_amd64_spec.specs.Amd64.{is_integer_class, is_sse_class, is_integer_leaf_in, class_of, is_one_x87, x87_pieces, classes_from, classes, general_argument, result_register, register_of, register_pieces, taken_with, spot_after, spots_after, taken_after, taken_at_first, result_spot_of, placing_of, amd64}

-- ---- structs

-- class MEMORY, or a class of which no argument is in registers
abbrev memory_by : Layout → Bool
memory_by l = nat_lt 16 l.size || (is_one_x87 l.leaves || false)

module _ (ts us : Trees) (e : layout (structure ts) ≡ layout (structure us)) where
  class_alike : (j : ℕ) → class_of (structure ts) j ≡ class_of (structure us) j
  class_alike j = ap (λ (l : Layout). cond (list_any (is_integer_leaf_in j) l.leaves) Integer Sse) e

  classes_from_alike : (j n : ℕ) → classes_from (structure ts) j n ≡ classes_from (structure us) j n
  classes_from_alike j zero = refl
  classes_from_alike j (suc n) =
      ap (λ c. c ∷ classes_from (structure ts) (j + 1) n) (class_alike j) ∙ ap (λ cs. class_of (structure us) j ∷ cs) (classes_from_alike (j + 1) n)

  struct_pieces_alike : (general : ℕ → ℕ) (g f : ℕ) (earlier cs : List Class) → register_pieces general g f (structure ts) earlier cs ≡ register_pieces general g f (structure us) earlier cs
  struct_pieces_alike general g f earlier [] = refl
  struct_pieces_alike general g f earlier (c ∷ cs) =
      ap (λ (l : Layout). doubleword (register_of general g f earlier c) (length earlier) l.size Free ∷ register_pieces general g f (structure ts) (earlier ++ c ∷ []) cs) e ∙ ap (λ ps. doubleword (register_of general g f earlier c) (length earlier) (size_of (structure us)) Free ∷ ps) (struct_pieces_alike general g f (earlier ++ c ∷ []) cs)

  struct_classes_alike : classes (structure ts) ≡ classes (structure us)
  struct_classes_alike =
      let found = ap (λ (l : Layout). classes_from (structure ts) 0 ((l.size + 7) / 8)) e ∙ classes_from_alike 0 ((size_of (structure us) + 7) / 8) in
      λ i. cond (memory_by (e i)) [] (found i)

  found_pieces : (general : ℕ → ℕ) (g f : ℕ) → register_pieces general g f (structure ts) [] (classes (structure ts)) ≡ register_pieces general g f (structure us) [] (classes (structure us))
  found_pieces general g f =
      ap (register_pieces general g f (structure ts) []) struct_classes_alike ∙ struct_pieces_alike general g f [] (classes (structure us))

-- ---- one argument: a struct is told by its layout, its classes and its pieces in registers

abbrev fits_by : Taken → Layout → List Class → Bool
fits_by before l cs =
    not (memory_by l) && (nat_le (before.general + count_by is_integer_class cs) 6 && nat_le (before.vector + count_by is_sse_class cs) 8)

abbrev at_by : Taken → Layout → ℕ
at_by before l = least_multiple (max 8 l.align) before.stack

abbrev taken_by : Taken → Layout → List Class → Taken
taken_by before l cs =
    cond {A = Taken} (fits_by before l cs) (record { general = before.general + count_by is_integer_class cs; vector = before.vector + count_by is_sse_class cs; stack = before.stack })
    (record { general = before.general; vector = before.vector; stack = at_by before l + round8 l.size })

abbrev spot_by : Taken → Layout → List Class → List Piece → Spot
spot_by before l cs pieces =
    in_pieces (cond (fits_by before l cs) pieces (doublewords_at (λ j. S (at_by before l + 8 * j) 8) l.size Free 0 ((l.size + 7) / 8)))

taken_alike : (before : Taken) (t u : Tree) → AreAlike t u → taken_with before t ≡ taken_with before u
taken_alike before t u same_type = refl
taken_alike before t u (same_layout {ts = ts} {us = us} e) = λ i. taken_by before (e i) (struct_classes_alike ts us e i)

spot_alike : (before : Taken) (t u : Tree) → AreAlike t u → spot_after before t ≡ spot_after before u
spot_alike before t u same_type = refl
spot_alike before t u (same_layout {ts = ts} {us = us} e) =
    λ i. spot_by before (e i) (struct_classes_alike ts us e i) (found_pieces ts us e general_argument before.general before.vector i)

-- ---- a result

first_alike : (t u : Tree) → AreAlike t u → taken_at_first t ≡ taken_at_first u
first_alike t u same_type = refl
first_alike t u (same_layout e) =
    ap (λ (l : Layout). record { general = cond (nat_lt 16 l.size) 1 0; vector = 0; stack = 0 }) e

abbrev result_by : Layout → List Piece → ResultSpot
result_by l pieces =
    cond (nat_lt 16 l.size) (in_buffer (G (general_argument 0))) (in_result_pieces (cond (is_one_x87 l.leaves || false) (x87_pieces 0 l.leaves) pieces))

result_alike : (t u : Tree) → AreAlike t u → result_spot_of t ≡ result_spot_of u
result_alike t u same_type = refl
result_alike t u (same_layout {ts = ts} {us = us} e) = λ i. result_by (e i) (found_pieces ts us e result_register 0 0 i)

-- ---- all arguments

spots_alike : (ts us : List Tree) → AllAlike ts us → (before : Taken) → spots_after before ts ≡ spots_after before us
spots_alike =
    all_alike (λ (ts : List Tree) (before : Taken). spots_after before ts)
    (λ t u ts us here rest before. ap (λ s. s ∷ spots_after (taken_with before t) ts) (spot_alike before t u here) ∙ ap (λ b. spot_after before u ∷ spots_after b ts) (taken_alike before t u here) ∙ ap (λ ss. spot_after before u ∷ ss) (rest (taken_with before u)))

all_taken_alike : (ts us : List Tree) → AllAlike ts us → (before : Taken) → taken_after before ts ≡ taken_after before us
all_taken_alike =
    all_alike (λ (ts : List Tree) (before : Taken). taken_after before ts)
    (λ t u ts us here rest before. ap (λ b. taken_after b ts) (taken_alike before t u here) ∙ rest (taken_with before u))

placing_alike : (s r : Signature) → SignaturesAreAlike s r → placing_of s ≡ placing_of r
placing_alike s r h =
    let first : taken_at_first s.result_type ≡ taken_at_first r.result_type = first_alike s.result_type r.result_type h.result_type in
    let spots : spots_after (taken_at_first s.result_type) s.arguments ≡ spots_after (taken_at_first r.result_type) r.arguments = ap (λ b. spots_after b s.arguments) first ∙ spots_alike s.arguments r.arguments h.arguments (taken_at_first r.result_type) in
    let taken : taken_after (taken_at_first s.result_type) s.arguments ≡ taken_after (taken_at_first r.result_type) r.arguments = ap (λ b. taken_after b s.arguments) first ∙ all_taken_alike s.arguments r.arguments h.arguments (taken_at_first r.result_type) in
    let spot = result_alike s.result_type r.result_type h.result_type in
    λ i. record {
      arguments = spots i;
      result_spot = spot i;
      stack_bytes = (taken i).stack;
      vector_registers = (taken i).vector;
    }

pub goes_by_layout : GoesByLayout amd64
goes_by_layout s r h = plan_alike amd64 start_alike s r h (placing_alike s r h)
