-- Structs of equal layout are placed alike.
use Rattle.std.proofs.Common.{◌≡◌, ℕ, ◌+◌, ◌/◌, true, not, ◌&&◌, ◌||◌, cond, List, [], ◌∷◌, refl, ap, ◌∙◌}
use Rattle.std.specs.Prelude.{Bool, Option, nat_le, slice_index_or}
use Rattle.ffi3_type_spec.specs.Tree.{Tree, structure, Trees, u8}
use Rattle.ffi3_type_spec.specs.Layout.{Layout, Leaf, layout, least_multiple}
use Rattle.ffi3_type_spec.specs.Signature.{Signature}
use Rattle.ffi3_place_spec.specs.declared.Ext.TheVariants.{Free}
use Rattle.ffi3_place_spec.specs.Standard.{in_pieces}
use Rattle.ffi3_place_spec.specs.Doublewords.{doublewords_at}
use Rattle.ffi3_place_spec.specs.Alike.{AreAlike, same_type, same_layout, AllAlike, SignaturesAreAlike, GoesByLayout}
use Rattle.ffi3_place_spec.proofs.Alike.{all_alike, plan_alike, start_alike}
use Rattle.ffi3_riscv_spec.specs.declared.Shape.{Shape}
use Rattle.ffi3_riscv_spec.specs.declared.Shape.TheVariants.{OneF, TwoF, FI, IF, Words, ByRef}
use Rattle.ffi3_riscv_spec.specs.declared.TakenWords.{TakenWords}
use Rattle.ffi3_riscv_spec.specs.Riscv.{shape_of_leaves, registers_suffice, passed_as, word, floating_piece, integer_piece, spot_of, is_fixed, taken_at_start, taken_by_shape, spot_after, taken_with, spots_after, taken_after, untouched, result_shape, result_from, result_spot_of, is_by_reference, taken_at_first, stack_of, placing_of, riscv}

-- ---- one argument: a struct is told by its layout

-- a place by its shape
module _ (ts us : Trees) (e : layout (structure ts) ≡ layout (structure us)) where
  abbrev first : Layout → Leaf
  first l = slice_index_or l.leaves 0 (record { at = 0; kind = u8 })

  abbrev second : Layout → Leaf
  second l = slice_index_or l.leaves 1 (record { at = 0; kind = u8 })

  struct_spot_alike : (before : TakenWords) (s : Shape) → spot_of before (structure ts) s ≡ spot_of before (structure us) s
  struct_spot_alike before OneF = ap (λ (l : Layout). in_pieces (floating_piece before.floats (first l) ∷ [])) e
  struct_spot_alike before TwoF =
      ap (λ (l : Layout). in_pieces (floating_piece before.floats (first l) ∷ floating_piece (before.floats + 1) (second l) ∷ [])) e
  struct_spot_alike before FI =
      ap (λ (l : Layout). in_pieces (floating_piece before.floats (first l) ∷ integer_piece before.words (second l) ∷ [])) e
  struct_spot_alike before IF =
      ap (λ (l : Layout). in_pieces (integer_piece before.words (first l) ∷ floating_piece before.floats (second l) ∷ [])) e
  struct_spot_alike before (Words n) =
      ap (λ (l : Layout). in_pieces (doublewords_at (λ j. word (before.words + j)) l.size Free 0 n)) e
  struct_spot_alike before ByRef = refl

abbrev start_by : TakenWords → Bool → Layout → TakenWords
start_by end fixed l =
    record { words = cond (nat_le 16 l.align && (nat_le l.size 16 && (not fixed || nat_le 8 end.words))) (least_multiple 2 end.words) end.words; floats = end.floats }

abbrev integer_by : Layout → Shape
integer_by l = cond {A = Shape} (nat_le l.size 16) (Words ((l.size + 7) / 8)) ByRef

abbrev passed_by : TakenWords → Bool → Layout → Shape
passed_by before fixed l =
    cond {A = Shape} (fixed && registers_suffice before (shape_of_leaves (integer_by l) l.leaves)) (shape_of_leaves (integer_by l) l.leaves) (integer_by l)

taken_alike : (end : TakenWords) (fixed : Bool) (t u : Tree) → AreAlike t u → taken_with end fixed t ≡ taken_with end fixed u
taken_alike end fixed t u same_type = refl
taken_alike end fixed t u (same_layout e) =
    ap (λ (l : Layout). taken_by_shape (start_by end fixed l) (passed_by (start_by end fixed l) fixed l)) e

spot_alike : (end : TakenWords) (fixed : Bool) (t u : Tree) → AreAlike t u → spot_after end fixed t ≡ spot_after end fixed u
spot_alike end fixed t u same_type = refl
spot_alike end fixed t u (same_layout {ts = ts} {us = us} e) =
    let before = taken_at_start end fixed (structure us) in
    ap (λ (l : Layout). spot_of (start_by end fixed l) (structure ts) (passed_by (start_by end fixed l) fixed l)) e ∙ struct_spot_alike ts us e before (passed_as before fixed (structure us))

-- ---- a result

shape_alike : (t u : Tree) → AreAlike t u → passed_as untouched true t ≡ passed_as untouched true u
shape_alike t u same_type = refl
shape_alike t u (same_layout e) = ap (passed_by untouched true) e

result_alike : (t u : Tree) → AreAlike t u → result_spot_of t ≡ result_spot_of u
result_alike t u same_type = refl
result_alike t u (same_layout {ts = ts} {us = us} e) =
    ap (λ (l : Layout). result_from (spot_of untouched (structure ts) (passed_by untouched true l))) e ∙ ap result_from (struct_spot_alike ts us e untouched (result_shape (structure us)))

-- ---- all arguments

spots_alike : (fixed : Option ℕ) (ts us : List Tree) → AllAlike ts us → (end : TakenWords) (i : ℕ) → spots_after fixed end i ts ≡ spots_after fixed end i us
spots_alike fixed ts us h end i =
    all_alike (λ (ts : List Tree) (x : TakenWords × ℕ). spots_after fixed x.0 x.1 ts)
    (λ t u ts us here rest x. let named = is_fixed fixed x.1 in
    ap (λ s. s ∷ spots_after fixed (taken_with x.0 named t) (x.1 + 1) ts) (spot_alike x.0 named t u here) ∙ ap (λ k. spot_after x.0 named u ∷ spots_after fixed k (x.1 + 1) ts) (taken_alike x.0 named t u here) ∙ ap (λ ss. spot_after x.0 named u ∷ ss) (rest (taken_with x.0 named u, x.1 + 1))) ts us h (end, i)

all_taken_alike : (fixed : Option ℕ) (ts us : List Tree) → AllAlike ts us → (end : TakenWords) (i : ℕ) → taken_after fixed end i ts ≡ taken_after fixed end i us
all_taken_alike fixed ts us h end i =
    all_alike (λ (ts : List Tree) (x : TakenWords × ℕ). taken_after fixed x.0 x.1 ts)
    (λ t u ts us here rest x. let named = is_fixed fixed x.1 in
    ap (λ k. taken_after fixed k (x.1 + 1) ts) (taken_alike x.0 named t u here) ∙ rest (taken_with x.0 named u, x.1 + 1)) ts us h (end, i)

placing_alike : (s r : Signature) → SignaturesAreAlike s r → placing_of s ≡ placing_of r
placing_alike s r h =
    let first : taken_at_first s.result_type ≡ taken_at_first r.result_type = ap (λ p. record { words = cond (is_by_reference p) 1 0; floats = 0 }) (shape_alike s.result_type r.result_type h.result_type) in
    let spots : spots_after s.fixed (taken_at_first s.result_type) 0 s.arguments ≡ spots_after r.fixed (taken_at_first r.result_type) 0 r.arguments = ap (λ n. spots_after n (taken_at_first s.result_type) 0 s.arguments) h.fixed ∙ ap (λ k. spots_after r.fixed k 0 s.arguments) first ∙ spots_alike r.fixed s.arguments r.arguments h.arguments (taken_at_first r.result_type) 0 in
    let taken : taken_after s.fixed (taken_at_first s.result_type) 0 s.arguments ≡ taken_after r.fixed (taken_at_first r.result_type) 0 r.arguments = ap (λ n. taken_after n (taken_at_first s.result_type) 0 s.arguments) h.fixed ∙ ap (λ k. taken_after r.fixed k 0 s.arguments) first ∙ all_taken_alike r.fixed s.arguments r.arguments h.arguments (taken_at_first r.result_type) 0 in
    let spot = result_alike s.result_type r.result_type h.result_type in
    λ i. record {
      arguments = spots i;
      result_spot = spot i;
      stack_bytes = stack_of (taken i);
      vector_registers = 0;
    }

pub goes_by_layout : GoesByLayout riscv
goes_by_layout s r h = plan_alike riscv start_alike s r h (placing_alike s r h)
