-- Structs of equal layout are placed alike.
use Rattle.std.proofs.Common.{◌≡◌, ℕ, ◌+◌, ◌*◌, ◌/◌, Bool, true, false, not, ◌&&◌, cond, List, ◌∷◌, length, refl, ap, ◌∙◌}
use Rattle.std.specs.Prelude.{max, nat_lt, nat_le, is_some}
use Rattle.ffi3_type_spec.specs.Tree.{Tree, structure, Trees, scalar, pointer}
use Rattle.ffi3_type_spec.specs.Layout.{Layout, layout, size_of, align_of, least_multiple}
use Rattle.ffi3_type_spec.specs.Signature.{Signature}
use Rattle.ffi3_place_spec.specs.declared.Loc.TheVariants.{G, S}
use Rattle.ffi3_place_spec.specs.declared.Ext.TheVariants.{Free}
use Rattle.ffi3_place_spec.specs.declared.Taken.{Taken}
use Rattle.ffi3_place_spec.specs.Standard.{Spot, in_pieces, by_reference, round8}
use Rattle.ffi3_place_spec.specs.Doublewords.{doublewords_at}
use Rattle.ffi3_place_spec.specs.Alike.{AreAlike, same_type, same_layout, AllAlike, SignaturesAreAlike, GoesByLayout}
use Rattle.ffi3_place_spec.proofs.Alike.{all_alike, plan_alike, start_alike}
use Rattle.ffi3_aapcs64_spec.specs.Aapcs64.{homogeneous_members, is_copied, passed, member_pieces, taken_with, spot_after, spots_after, taken_after, untouched, result_from, result_spot_of, placing_of, aapcs64}

-- ---- one argument: a struct is told by its layout, and by size and alignment of what is passed for it

abbrev pub vectors_by : Layout → Bool
vectors_by l = is_some (homogeneous_members l.leaves)

abbrev pub copied_by : Layout → Bool
copied_by l = not (vectors_by l) && nat_lt 16 l.size

module _ (ts us : Trees) (e : layout (structure ts) ≡ layout (structure us)) where
  -- what is a pointer in place of both, or both
  number_if : (f : Tree → ℕ) → f (structure ts) ≡ f (structure us) → (b : Bool) → f (cond {A = Tree} b (scalar pointer) (structure ts)) ≡ f (cond {A = Tree} b (scalar pointer) (structure us))
  number_if f same true = refl
  number_if f same false = same

  passed_alike : (f : Tree → ℕ) → f (structure ts) ≡ f (structure us) → f (passed (structure ts)) ≡ f (passed (structure us))
  passed_alike f same =
      ap (λ (l : Layout). f (cond {A = Tree} (copied_by l) (scalar pointer) (structure ts))) e ∙ number_if f same (is_copied (structure us))

  pub passed_size : size_of (passed (structure ts)) ≡ size_of (passed (structure us))
  passed_size = passed_alike size_of (ap (λ l. l.size) e)

  pub passed_align : align_of (passed (structure ts)) ≡ align_of (passed (structure us))
  passed_align = passed_alike align_of (ap (λ l. l.align) e)

abbrev pub needed_by : Layout → ℕ → ℕ
needed_by l size = cond (vectors_by l) (length l.leaves) ((size + 7) / 8)

abbrev pub register_spot_by : ℕ → Layout → Spot
register_spot_by first l =
    cond (copied_by l) (by_reference (G first)) (in_pieces (cond (vectors_by l) (member_pieces first l.leaves) (doublewords_at (λ j. G (first + j)) l.size Free 0 ((l.size + 7) / 8))))

abbrev pub stack_spot_by : ℕ → Layout → Spot
stack_spot_by first l =
    cond (copied_by l) (by_reference (S first 8)) (in_pieces (doublewords_at (λ j. S (first + 8 * j) 8) l.size Free 0 ((l.size + 7) / 8)))

abbrev start_by : Taken → Layout → ℕ → ℕ
start_by before l align =
    cond (vectors_by l) before.vector (cond (nat_le 16 align) (least_multiple 2 before.general) before.general)

abbrev taken_by : Taken → Layout → ℕ → ℕ → Taken
taken_by before l size align = record {
  general = cond (vectors_by l) before.general (start_by before l align + needed_by l size);
  vector = cond (vectors_by l) (start_by before l align + needed_by l size) before.vector;
  stack = cond (nat_le (start_by before l align + needed_by l size) 8) before.stack (least_multiple (max 8 align) before.stack + round8 size);
}

abbrev spot_by : Taken → Layout → ℕ → ℕ → Spot
spot_by before l size align =
    cond (nat_le (start_by before l align + needed_by l size) 8) (register_spot_by (start_by before l align) l) (stack_spot_by (least_multiple (max 8 align) before.stack) l)

taken_alike : (before : Taken) (t u : Tree) → AreAlike t u → taken_with before t ≡ taken_with before u
taken_alike before t u same_type = refl
taken_alike before t u (same_layout {ts = ts} {us = us} e) = λ i. taken_by before (e i) (passed_size ts us e i) (passed_align ts us e i)

spot_alike : (before : Taken) (t u : Tree) → AreAlike t u → spot_after before t ≡ spot_after before u
spot_alike before t u same_type = refl
spot_alike before t u (same_layout {ts = ts} {us = us} e) = λ i. spot_by before (e i) (passed_size ts us e i) (passed_align ts us e i)

-- ---- all arguments

spots_alike : (ts us : List Tree) → AllAlike ts us → (before : Taken) → spots_after before ts ≡ spots_after before us
spots_alike =
    all_alike (λ (ts : List Tree) (before : Taken). spots_after before ts)
    (λ t u ts us here rest before. ap (λ s. s ∷ spots_after (taken_with before t) ts) (spot_alike before t u here) ∙ ap (λ b. spot_after before u ∷ spots_after b ts) (taken_alike before t u here) ∙ ap (λ ss. spot_after before u ∷ ss) (rest (taken_with before u)))

all_taken_alike : (ts us : List Tree) → AllAlike ts us → (before : Taken) → taken_after before ts ≡ taken_after before us
all_taken_alike =
    all_alike (λ (ts : List Tree) (before : Taken). taken_after before ts)
    (λ t u ts us here rest before. ap (λ b. taken_after b ts) (taken_alike before t u here) ∙ rest (taken_with before u))

pub result_alike : (t u : Tree) → AreAlike t u → result_spot_of t ≡ result_spot_of u
result_alike t u same_type = refl
result_alike t u (same_layout {ts = ts} {us = us} e) =
    ap result_from (spot_alike untouched (structure ts) (structure us) (same_layout e))

placing_alike : (s r : Signature) → SignaturesAreAlike s r → placing_of s ≡ placing_of r
placing_alike s r h =
    let spots = spots_alike s.arguments r.arguments h.arguments untouched in
    let taken = all_taken_alike s.arguments r.arguments h.arguments untouched in
    let spot = result_alike s.result_type r.result_type h.result_type in
    λ i. record {
      arguments = spots i;
      result_spot = spot i;
      stack_bytes = (taken i).stack;
      vector_registers = 0;
    }

pub goes_by_layout : GoesByLayout aapcs64
goes_by_layout s r h = plan_alike aapcs64 start_alike s r h (placing_alike s r h)
