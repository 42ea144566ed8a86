-- The texts of a struct's values, one after another.
use Rattle.std.proofs.Common.{◌≡◌, ℕ, zero, suc, ◌+◌, ◌<◌, List, [], ◌∷◌, ◌++◌, length, take, refl, ap, sym, ◌∙◌, arith, append_assoc, append-nil}
use Rattle.std.specs.Prelude.{slice_index_or}
use Rattle.std.specs.List.{join_with_byte}
use Rattle.std.proofs.lemmas.List.{take_more}
use Rattle.ffi3_type_spec.specs.Tree.{Tree, tree_at, trees_of}
use Rattle.ffi3_type_spec.specs.Value.{ValueTree, values_of}
use Rattle.ffi3_type_spec.specs.ValueText.{value_text_of, value_texts_of}
use Rattle.ffi3_type_spec.proofs.Values.{value_at}

-- the texts of a struct's elements
abbrev pub element_texts : List Tree → List ValueTree → List (List ℕ)
element_texts ts vs = value_texts_of (trees_of ts) (values_of vs)

pub length-element_texts : (ts : List Tree) (vs : List ValueTree) → length vs ≡ length ts → length (element_texts ts vs) ≡ length ts
length-element_texts [] vs n = refl
length-element_texts (t ∷ ts) [] n = absurd (omega arith)
length-element_texts (t ∷ ts) (v ∷ vs) n = ap suc (length-element_texts ts vs (omega arith))

pub element_text : (ts : List Tree) (vs : List ValueTree) (i : ℕ) → length vs ≡ length ts → i < length ts → slice_index_or (element_texts ts vs) i [] ≡ value_text_of (tree_at ts i) (value_at vs i)
element_text [] vs i n below = absurd (omega arith)
element_text (t ∷ ts) [] i n below = absurd (omega arith)
element_text (t ∷ ts) (v ∷ vs) zero n below = refl
element_text (t ∷ ts) (v ∷ vs) (suc i) n below = element_text ts vs i (omega arith) (omega arith)

-- the first n texts, between commas
pub joined : List (List ℕ) → ℕ → List ℕ
joined xs n = join_with_byte 44 (take n xs)

pub joined-none : (xs : List (List ℕ)) → joined xs 0 ≡ []
unfolding joined
joined-none xs = refl

joined-first : (xs : List (List ℕ)) → 0 < length xs → joined xs 1 ≡ slice_index_or xs 0 []
unfolding joined
joined-first [] h = absurd (omega arith)
joined-first (x ∷ xs) h = refl

join-last : (c : ℕ) (x : List ℕ) (xs : List (List ℕ)) (y : List ℕ) → join_with_byte c ((x ∷ xs) ++ (y ∷ [])) ≡ join_with_byte c (x ∷ xs) ++ (c ∷ y)
join-last c x [] y = refl
join-last c x (z ∷ xs) y =
    ap (λ t. x ++ (c ∷ t)) (join-last c z xs y) ∙ sym (append_assoc x (c ∷ join_with_byte c (z ∷ xs)) (c ∷ y))

joined-more : (xs : List (List ℕ)) (i : ℕ) → 0 < i → i < length xs → joined xs (i + 1) ≡ joined xs i ++ (44 ∷ slice_index_or xs i [])
unfolding joined
joined-more [] i p h = absurd (omega arith)
joined-more (x ∷ xs) zero p h = absurd (omega arith)
joined-more (x ∷ xs) (suc i) p h =
    let last = slice_index_or (x ∷ xs) (suc i) [] in
    ap (join_with_byte 44) (take_more (x ∷ xs) (suc i) [] h) ∙ join-last 44 x (take i xs) last

take_all : (xs : List (List ℕ)) → take (length xs) xs ≡ xs
take_all [] = refl
take_all (x ∷ xs) = ap (λ ys. x ∷ ys) (take_all xs)

pub joined-all : (xs : List (List ℕ)) (n : ℕ) → n ≡ length xs → joined xs n ≡ join_with_byte 44 xs
unfolding joined
joined-all xs n all = ap (λ k. join_with_byte 44 (take k xs)) all ∙ ap (join_with_byte 44) (take_all xs)

-- what has the first i texts, with a comma if there are any and the next text, has one more
pub joined-turn-first : (xs : List (List ℕ)) (i : ℕ) (before now text : List ℕ) → i ≡ 0 → i < length xs → now ≡ before ++ joined xs i → text ≡ slice_index_or xs i [] → now ++ text ≡ before ++ joined xs (i + 1)
joined-turn-first xs i before now text none some n t =
    ap (λ k. now ++ k) (t ∙ ap (λ k. slice_index_or xs k []) none ∙ sym (joined-first xs (omega arith))) ∙ ap (λ k. k ++ joined xs 1) (n ∙ ap (λ k. before ++ joined xs k) none ∙ ap (λ k. before ++ k) (joined-none xs) ∙ append-nil before) ∙ ap (λ k. before ++ joined xs (k + 1)) (sym none)

pub joined-turn-next : (xs : List (List ℕ)) (i : ℕ) (before now comma text : List ℕ) → 0 < i → i < length xs → now ≡ before ++ joined xs i → comma ≡ now ++ (44 ∷ []) → text ≡ slice_index_or xs i [] → comma ++ text ≡ before ++ joined xs (i + 1)
joined-turn-next xs i before now comma text some below n c t =
    rw (c, n, t, joined-more xs i some below, append_assoc, append_assoc)
