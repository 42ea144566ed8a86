-- What one more leaf, eightbyte or argument adds.
use Rattle.std.proofs.Common.{◌≡◌, ℕ, zero, suc, ◌+◌, ◌-◌, ◌<◌, Bool, true, false, cond, List, [], ◌∷◌, ◌++◌, drop, length, ap, sym, ◌∙◌, refl, arith, subst, add-zero, append_assoc, ◌≤◌, leb, not, ◌&&◌}
use Rattle.std.specs.List.{count_by, list_any}
use Rattle.std.proofs.lemmas.Bool.{le-leb}
use Rattle.std.proofs.lemmas.List.Sums.{sum_by-cons, sum_by_push}
use Rattle.ffi3_type_spec.specs.Tree.{Tree, void, tree_at}
use Rattle.ffi3_type_spec.specs.Layout.{leaves_of, leaf_at, size_of}
use Rattle.ffi3_place_spec.specs.declared.Loc.{Loc}
use Rattle.ffi3_place_spec.specs.declared.Loc.TheVariants.{G}
use Rattle.ffi3_place_spec.specs.declared.Piece.{Piece}
use Rattle.ffi3_place_spec.specs.declared.Taken.{Taken}
use Rattle.ffi3_place_spec.specs.declared.Place.{Place}
use Rattle.ffi3_place_spec.specs.declared.Place.TheVariants.{Direct}
use Rattle.ffi3_place_spec.specs.Standard.{doubleword, places_from, copies_end, ResultSpot, no_result, in_buffer, in_result_pieces}
use Rattle.ffi3_place_spec.specs.Doublewords.{widening}
use Rattle.ffi3_place_spec.proofs.Elements.{leaf_read, argument_read}
use Rattle.ffi3_amd64_spec.specs.declared.Class.{Class}
use Rattle.ffi3_amd64_spec.specs.Amd64.{amd64, is_integer_leaf_in, class_of, classes_from, in_memory, is_class_memory, general_argument, result_pieces, register_of, register_pieces, taken_with, taken_after, argument_pieces, spots_after, result_spot_of, integers, sses, in_registers, stack_end}
use Rattle.ffi3_amd64_spec.proofs.Covered.{length-classes_from}

-- ---- leaves

-- whether an integer leaf lies in the eightbyte, from one leaf on
pub any_found : (t : Tree) (j i : ℕ) → i < length (leaves_of t) → is_integer_leaf_in j (leaf_at t i) ≡ true → list_any (is_integer_leaf_in j) (drop i (leaves_of t)) ≡ true
any_found t j i h found = rw (leaf_read t i h, found) refl

pub any_later : (t : Tree) (j i : ℕ) → i < length (leaves_of t) → is_integer_leaf_in j (leaf_at t i) ≡ false → list_any (is_integer_leaf_in j) (drop i (leaves_of t)) ≡ list_any (is_integer_leaf_in j) (drop (i + 1) (leaves_of t))
any_later t j i h not = rw (leaf_read t i h, not) refl

-- ---- classes

pub classes_more : (t : Tree) (j n : ℕ) → classes_from t j (n + 1) ≡ classes_from t j n ++ class_of t (j + n) ∷ []
classes_more t j zero = rw add-zero refl
classes_more t j (suc n) =
    let count : suc (n + 1) ≡ suc n + 1 = omega arith in
    let index : (j + 1) + n ≡ j + suc n = omega arith in
    subst (λ m. classes_from t j m ≡ class_of t j ∷ (classes_from t (j + 1) n ++ class_of t (j + suc n) ∷ [])) count
    (ap (λ cs. class_of t j ∷ cs) (classes_more t (j + 1) n ∙ ap (λ k. classes_from t (j + 1) n ++ class_of t k ∷ []) index))

pub classes_next : (t : Tree) (j n : ℕ) → j < n → classes_from t j (n - j) ≡ class_of t j ∷ classes_from t (j + 1) (n - (j + 1))
classes_next t j n h =
    let count : suc (n - (j + 1)) ≡ n - j = omega arith in
    subst (λ m. classes_from t j m ≡ class_of t j ∷ classes_from t (j + 1) (n - (j + 1))) count refl

abbrev pub one_if : (Class → Bool) → Class → ℕ
one_if p c = cond (p c) 1 0

pub count_more : (p : Class → Bool) (t : Tree) (j : ℕ) → count_by p (classes_from t 0 (j + 1)) ≡ count_by p (classes_from t 0 j) + one_if p (class_of t j)
count_more p t j =
    let index : 0 + j ≡ j = omega arith in
    ap (count_by p) (classes_more t 0 j ∙ ap (λ k. classes_from t 0 j ++ class_of t k ∷ []) index) ∙ sum_by_push (one_if p) (classes_from t 0 j) (class_of t j)

pub count_next : (p : Class → Bool) (t : Tree) (j n : ℕ) → j < n → count_by p (classes_from t j (n - j)) ≡ one_if p (class_of t j) + count_by p (classes_from t (j + 1) (n - (j + 1)))
count_next p t j n h =
    ap (count_by p) (classes_next t j n h) ∙ sum_by-cons (one_if p) (class_of t j) (classes_from t (j + 1) (n - (j + 1)))

-- ---- pieces

-- one more piece in a register
pub register_step : (general : ℕ → ℕ) (g f : ℕ) (t : Tree) (j count : ℕ) (out whole : List Piece) → j < count →
    out ++ register_pieces general g f t (classes_from t 0 j) (classes_from t j (count - j)) ≡ whole →
    (out ++ doubleword (register_of general g f (classes_from t 0 j) (class_of t j)) j (size_of t) (widening t) ∷ []) ++ register_pieces general g f t (classes_from t 0 (j + 1)) (classes_from t (j + 1) (count - (j + 1))) ≡ whole
register_step general g f t j count out whole h before =
    let c = class_of t j in
    let rest = classes_from t (j + 1) (count - (j + 1)) in
    let opened = subst (λ cs. out ++ register_pieces general g f t (classes_from t 0 j) cs ≡ whole) (classes_next t j count h) before in
    let at_j = subst (λ k. out ++ (doubleword (register_of general g f (classes_from t 0 j) c) k (size_of t) (widening t) ∷ register_pieces general g f t (classes_from t 0 j ++ c ∷ []) rest) ≡ whole) (length-classes_from t 0 j) opened in
    let index : 0 + j ≡ j = omega arith in
    let more : classes_from t 0 (j + 1) ≡ classes_from t 0 j ++ c ∷ [] = classes_more t 0 j ∙ ap (λ k. classes_from t 0 j ++ class_of t k ∷ []) index in
    let grown = subst (λ cs. out ++ (doubleword (register_of general g f (classes_from t 0 j) c) j (size_of t) (widening t) ∷ register_pieces general g f t cs rest) ≡ whole) (sym more) at_j in
    append_assoc out _ _ ∙ grown

-- ---- arguments

-- what one more argument takes
pub taken_step : (ts : List Tree) (i : ℕ) (t : Tree) (before whole : Taken) → i < length ts → t ≡ tree_at ts i → taken_after before (drop i ts) ≡ whole → taken_after (taken_with before t) (drop (i + 1) ts) ≡ whole
taken_step ts i t before whole h read e =
    subst (λ us. taken_after before us ≡ whole) (argument_read ts i t h read) e

-- the place of one more argument
pub place_step : (ts : List Tree) (i : ℕ) (t : Tree) (before : Taken) (out whole : List Place) → i < length ts → t ≡ tree_at ts i →
    out ++ places_from amd64.copy_start 0 (drop i ts) (spots_after before (drop i ts)) ≡ whole →
    (out ++ Direct (argument_pieces before t) ∷ []) ++ places_from amd64.copy_start 0 (drop (i + 1) ts) (spots_after (taken_with before t) (drop (i + 1) ts)) ≡ whole
place_step ts i t before out whole h read e =
    let opened = subst (λ us. out ++ places_from amd64.copy_start 0 us (spots_after before us) ≡ whole) (argument_read ts i t h read) e in
    append_assoc out _ _ ∙ opened

-- no argument has a copy
pub places_without_copies : (start : ℕ → Tree → ℕ) (c d : ℕ) (a : Taken) (ts : List Tree) → places_from start c ts (spots_after a ts) ≡ places_from start d ts (spots_after a ts)
places_without_copies start c d a [] = refl
places_without_copies start c d a (t ∷ ts) =
    ap (λ ps. Direct (argument_pieces a t) ∷ ps) (places_without_copies start c d (taken_with a t) ts)

pub ends_without_copies : (start : ℕ → Tree → ℕ) (end : ℕ) (a : Taken) (ts : List Tree) → copies_end start end ts (spots_after a ts) ≡ end
ends_without_copies start end a [] = refl
ends_without_copies start end a (t ∷ ts) = ends_without_copies start end (taken_with a t) ts

-- ---- results

by_memory : (P : ResultSpot → Type 0) (t : Tree) (b : Bool) → is_class_memory t ≡ b → (is_class_memory t ≡ true → P (in_buffer (G (general_argument 0)))) → (is_class_memory t ≡ false → P (in_result_pieces (result_pieces t))) → P (cond b (in_buffer (G (general_argument 0))) (in_result_pieces (result_pieces t)))
by_memory P t true e hidden direct = hidden e
by_memory P t false e hidden direct = direct e

-- cases on where a result stands
pub result_when : (P : ResultSpot → Type 0) (t : Tree) → (t ≡ void → P no_result) → (is_class_memory t ≡ true → P (in_buffer (G (general_argument 0)))) → (¬ (t ≡ void) → is_class_memory t ≡ false → P (in_result_pieces (result_pieces t))) → P (result_spot_of t)
result_when P void none hidden direct = none refl
result_when P t none hidden direct = by_memory P t (is_class_memory t) refl hidden (direct (λ e. cc))

pub spot_of_memory : (t : Tree) → is_class_memory t ≡ true → result_spot_of t ≡ in_buffer (G (general_argument 0))
spot_of_memory t m =
    result_when (λ spot. spot ≡ in_buffer (G (general_argument 0))) t (λ e. let small : is_class_memory t ≡ false = ap is_class_memory e in cc) (λ _. refl) (λ _ small. cc)

pub spot_of_registers : (t : Tree) → ¬ (t ≡ void) → is_class_memory t ≡ false → result_spot_of t ≡ in_result_pieces (result_pieces t)
spot_of_registers t some small =
    result_when (λ spot. spot ≡ in_result_pieces (result_pieces t)) t (λ e. absurd (some e)) (λ m. cc) (λ _ _. refl)

-- one more piece in a register, where the new list and its last piece are known by equations
pub register_turn : (general : ℕ → ℕ) (g f : ℕ) (t : Tree) (j count : ℕ) (out new whole : List Piece) (p : Piece) (l : Loc) → j < count → l ≡ register_of general g f (classes_from t 0 j) (class_of t j) → p ≡ doubleword l j (size_of t) (widening t) → new ≡ out ++ p ∷ [] →
    out ++ register_pieces general g f t (classes_from t 0 j) (classes_from t j (count - j)) ≡ whole →
    new ++ register_pieces general g f t (classes_from t 0 (j + 1)) (classes_from t (j + 1) (count - (j + 1))) ≡ whole
register_turn general g f t j count out new whole p l h loc piece pushed before =
    ap (λ ps. ps ++ register_pieces general g f t (classes_from t 0 (j + 1)) (classes_from t (j + 1) (count - (j + 1)))) (pushed ∙ ap (λ q. out ++ q ∷ []) (piece ∙ ap (λ m. doubleword m j (size_of t) (widening t)) loc)) ∙ register_step general g f t j count out whole h before

-- an argument that finds too few registers
pub taken_on_stack : (a : Taken) (t : Tree) (n : ℕ) → in_registers a t ≡ false → n ≡ stack_end a.stack t → record { general = a.general; vector = a.vector; stack = n } ≡ taken_with a t
taken_on_stack a t n few end =
    ap (λ k. record { general = a.general; vector = a.vector; stack = k }) end ∙ sym (ap (λ b. cond {A = Taken} b (record { general = a.general + integers t; vector = a.vector + sses t; stack = a.stack }) (record { general = a.general; vector = a.vector; stack = stack_end a.stack t })) few)

-- where the general registers suffice, the vector registers decide
pub vectors_decide : (a : Taken) (t : Tree) → in_memory t ≡ false → a.general + integers t ≤ 6 → leb (a.vector + sses t) 8 ≡ in_registers a t
vectors_decide a t direct enough =
    let general : leb (a.general + integers t) 6 ≡ true = le-leb (a.general + integers t) 6 enough in
    sym (ap (λ m. not m && (leb (a.general + integers t) 6 && leb (a.vector + sses t) 8)) direct ∙ ap (λ g. g && leb (a.vector + sses t) 8) general)
