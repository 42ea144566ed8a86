-- What a shape says of the value, and of the registers that are free.
use Rattle.std.proofs.Common.{◌≡◌, ℕ, ◌+◌, ◌/◌, ◌≤◌, Bool, true, false, ◌&&◌, cond, leb, List, [], ◌∷◌, length, refl, arith}
use Rattle.std.specs.Prelude.{⊤, slice_index_or}
use Rattle.std.proofs.lemmas.Bool.{leb-true}
use Rattle.ffi3_type_spec.specs.Tree.{Tree, Scalar, u8, float, double}
use Rattle.ffi3_type_spec.specs.Layout.{Leaf, leaves_of, size_of, scalar_size}
use Rattle.ffi3_type_spec.specs.Integer.{is_floating, is_integer}
use Rattle.ffi3_place_spec.proofs.Tests.{and_left, and_right}
use Rattle.ffi3_riscv_spec.specs.declared.Shape.{Shape}
use Rattle.ffi3_riscv_spec.specs.declared.Shape.TheVariants.{OneF, TwoF, FI, IF, Words, ByRef}
use Rattle.ffi3_riscv_spec.specs.declared.TakenWords.{TakenWords}
use Rattle.ffi3_riscv_spec.specs.Riscv.{is_word_integer, integer_shape, shape_of_leaves, shape_of, registers_suffice, passed_as, words_of, floats_of}

abbrev no_leaf : Leaf
no_leaf = record { at = 0; kind = u8 }

-- leaf i of these
abbrev pub leaf : List Leaf → ℕ → Leaf
leaf ls i = slice_index_or ls i no_leaf

-- so many bytes and leaves are passed by the shape
abbrev pub Suits : ℕ → List Leaf → Shape → Type 0
Suits n ls OneF = length ls ≡ 1
Suits n ls TwoF = length ls ≡ 2
Suits n ls FI = length ls ≡ 2
Suits n ls IF = length ls ≡ 2
Suits n ls (Words count) = (count ≡ (n + 7) / 8) × (n ≤ 16)
Suits n ls ByRef = ⊤

integer_if : (n : ℕ) (ls : List Leaf) (b : Bool) → leb n 16 ≡ b → Suits n ls (cond {A = Shape} b (Words ((n + 7) / 8)) ByRef)
integer_if n ls true e = (refl, leb-true n 16 e)
integer_if n ls false e = tt

pub integer_suits : (t : Tree) → Suits (size_of t) (leaves_of t) (integer_shape t)
integer_suits t = integer_if (size_of t) (leaves_of t) (leb (size_of t) 16) refl

choose : (P : Shape → Type 0) (b : Bool) (x y : Shape) → P x → P y → P (cond {A = Shape} b x y)
choose P true x y h k = h
choose P false x y h k = k

choose_if : (P : Shape → Type 0) (b : Bool) (x y : Shape) → (b ≡ true → P x) → P y → P (cond {A = Shape} b x y)
choose_if P true x y h k = h refl
choose_if P false x y h k = k

-- what holds of each shape with a floating register, where the leaves are of its kinds, and of the integer shape, holds of the one by which a value is passed
module _ (P : List Leaf → Shape → Type 0) (one : (a : Leaf) → is_floating a.kind ≡ true → P (a ∷ []) OneF) (two : (a b : Leaf) → is_floating a.kind ≡ true → is_floating b.kind ≡ true → P (a ∷ b ∷ []) TwoF) (floating_first : (a b : Leaf) → is_floating a.kind ≡ true → is_word_integer b.kind ≡ true → P (a ∷ b ∷ []) FI) (integer_first : (a b : Leaf) → is_word_integer a.kind ≡ true → is_floating b.kind ≡ true → P (a ∷ b ∷ []) IF) where
  leaves_by : (otherwise : Shape) (ls : List Leaf) → P ls otherwise → P ls (shape_of_leaves otherwise ls)
  leaves_by otherwise [] h = h
  leaves_by otherwise (a ∷ []) h = choose_if (P (a ∷ [])) (is_floating a.kind) OneF otherwise (one a) h
  leaves_by otherwise (a ∷ b ∷ []) h =
      choose_if (P (a ∷ b ∷ [])) (is_floating a.kind && is_floating b.kind) TwoF _ (λ e. two a b (and_left (is_floating a.kind) _ e) (and_right (is_floating a.kind) _ e))
      (choose_if (P (a ∷ b ∷ [])) (is_floating a.kind && is_word_integer b.kind) FI _ (λ e. floating_first a b (and_left (is_floating a.kind) _ e) (and_right (is_floating a.kind) _ e))
      (choose_if (P (a ∷ b ∷ [])) (is_word_integer a.kind && is_floating b.kind) IF otherwise (λ e. integer_first a b (and_left (is_word_integer a.kind) _ e) (and_right (is_word_integer a.kind) _ e)) h))
  leaves_by otherwise (a ∷ b ∷ c ∷ ls) h = h

  passed_by : (t : Tree) → P (leaves_of t) (integer_shape t) → (before : TakenWords) (fixed : Bool) → P (leaves_of t) (passed_as before fixed t)
  passed_by t h before fixed =
      choose (P (leaves_of t)) (fixed && registers_suffice before (shape_of t)) (shape_of t) (integer_shape t) (leaves_by (integer_shape t) (leaves_of t) h) h

pub passed_suits : (before : TakenWords) (fixed : Bool) (t : Tree) → Suits (size_of t) (leaves_of t) (passed_as before fixed t)
passed_suits before fixed t =
    passed_by (Suits (size_of t)) (λ a e. refl) (λ a b e f. refl) (λ a b e f. refl) (λ a b e f. refl) t (integer_suits t) before fixed

-- the leaves that stand in floating registers are floats and doubles
abbrev pub HasFloats : List Leaf → Shape → Type 0
HasFloats ls OneF = is_floating (leaf ls 0).kind ≡ true
HasFloats ls TwoF =
    (is_floating (leaf ls 0).kind ≡ true) × (is_floating (leaf ls 1).kind ≡ true)
HasFloats ls FI = is_floating (leaf ls 0).kind ≡ true
HasFloats ls IF = is_floating (leaf ls 1).kind ≡ true
HasFloats ls _ = ⊤

integer_floats : (t : Tree) → HasFloats (leaves_of t) (integer_shape t)
integer_floats t =
    choose (HasFloats (leaves_of t)) (leb (size_of t) 16) (Words ((size_of t + 7) / 8)) ByRef tt tt

pub passed_floats : (before : TakenWords) (fixed : Bool) (t : Tree) → HasFloats (leaves_of t) (passed_as before fixed t)
passed_floats before fixed t =
    passed_by HasFloats (λ a e. e) (λ a b e f. (e, f)) (λ a b e f. e) (λ a b e f. f) t (integer_floats t) before fixed

-- ---- leaves that fit a register

floating_small : (s : Scalar) → is_floating s ≡ true → scalar_size s ≤ 8
floating_small float e = omega arith
floating_small double e = omega arith
floating_small _ e = cc

word_small : (s : Scalar) → is_word_integer s ≡ true → scalar_size s ≤ 8
word_small s e = leb-true (scalar_size s) 8 (and_right (is_integer s) (leb (scalar_size s) 8) e)

abbrev IsSmall : Leaf → Type 0
IsSmall l = scalar_size l.kind ≤ 8

-- a leaf that has a register of its own has at most eight bytes
abbrev pub HasSmall : List Leaf → Shape → Type 0
HasSmall ls OneF = IsSmall (leaf ls 0)
HasSmall ls TwoF = IsSmall (leaf ls 0) × IsSmall (leaf ls 1)
HasSmall ls FI = IsSmall (leaf ls 0) × IsSmall (leaf ls 1)
HasSmall ls IF = IsSmall (leaf ls 0) × IsSmall (leaf ls 1)
HasSmall ls _ = ⊤

integer_small : (t : Tree) → HasSmall (leaves_of t) (integer_shape t)
integer_small t =
    choose (HasSmall (leaves_of t)) (leb (size_of t) 16) (Words ((size_of t + 7) / 8)) ByRef tt tt

pub passed_small : (before : TakenWords) (fixed : Bool) (t : Tree) → HasSmall (leaves_of t) (passed_as before fixed t)
passed_small before fixed t =
    passed_by HasSmall (λ a e. floating_small a.kind e) (λ a b e f. (floating_small a.kind e, floating_small b.kind f)) (λ a b e f. (floating_small a.kind e, word_small b.kind f)) (λ a b e f. (word_small a.kind e, floating_small b.kind f)) t (integer_small t) before fixed

-- registers are free for the shape
abbrev pub HasRoom : TakenWords → Shape → Type 0
HasRoom before OneF = before.floats + 1 ≤ 8
HasRoom before TwoF = before.floats + 2 ≤ 8
HasRoom before FI = (before.floats + 1 ≤ 8) × (before.words + 1 ≤ 8)
HasRoom before IF = (before.floats + 1 ≤ 8) × (before.words + 1 ≤ 8)
HasRoom before _ = ⊤

both_free : (f w : ℕ) → (leb f 8 && leb w 8) ≡ true → (f ≤ 8) × (w ≤ 8)
both_free f w h = (leb-true f 8 (and_left (leb f 8) (leb w 8) h), leb-true w 8 (and_right (leb f 8) (leb w 8) h))

room_of : (before : TakenWords) (shape : Shape) → registers_suffice before shape ≡ true → HasRoom before shape
room_of before OneF h = leb-true (before.floats + 1) 8 h
room_of before TwoF h = leb-true (before.floats + 2) 8 h
room_of before FI h = both_free (before.floats + 1) (before.words + 1) h
room_of before IF h = both_free (before.floats + 1) (before.words + 1) h
room_of before _ h = tt

integer_room : (before : TakenWords) (t : Tree) → HasRoom before (integer_shape t)
integer_room before t =
    choose (HasRoom before) (leb (size_of t) 16) (Words ((size_of t + 7) / 8)) ByRef tt tt

room_if : (before : TakenWords) (fixed : Bool) (t : Tree) (b : Bool) → (fixed && registers_suffice before (shape_of t)) ≡ b → HasRoom before (cond {A = Shape} b (shape_of t) (integer_shape t))
room_if before fixed t true e = room_of before (shape_of t) (and_right fixed (registers_suffice before (shape_of t)) e)
room_if before fixed t false e = integer_room before t

pub passed_has_room : (before : TakenWords) (fixed : Bool) (t : Tree) → HasRoom before (passed_as before fixed t)
passed_has_room before fixed t = room_if before fixed t (fixed && registers_suffice before (shape_of t)) refl

few_words : (n : ℕ) (ls : List Leaf) (shape : Shape) → Suits n ls shape → words_of shape ≤ 2
few_words n ls (Words count) h = omega (arith, h.0, h.1)
few_words n ls _ h = omega arith

pub passed_few : (before : TakenWords) (fixed : Bool) (t : Tree) → words_of (passed_as before fixed t) ≤ 2
passed_few before fixed t = few_words (size_of t) (leaves_of t) (passed_as before fixed t) (passed_suits before fixed t)

pub floats_room : (before : TakenWords) (shape : Shape) → before.floats ≤ 8 → HasRoom before shape → before.floats + floats_of shape ≤ 8
floats_room before OneF few h = h
floats_room before TwoF few h = h
floats_room before FI few h = h.0
floats_room before IF few h = h.0
floats_room before (Words n) few h = omega (arith, few)
floats_room before ByRef few h = omega (arith, few)
