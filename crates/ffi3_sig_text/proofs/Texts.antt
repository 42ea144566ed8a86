-- The texts of the elements, one after another.
use Rattle.std.proofs.Common.{◌≡◌, ℕ, zero, suc, ◌+◌, ◌-◌, ◌<◌, ◌≤◌, List, [], ◌∷◌, ◌++◌, length, take, drop, refl, ap, sym, ◌∙◌, arith, append_assoc, append-nil, length-drop}
use Rattle.std.specs.List.{join_with_byte}
use Rattle.std.proofs.lemmas.List.{take_more, get_or-drop}
use Rattle.ffi3_type_spec.specs.Tree.{Tree, void, tree_at, trees_of}
use Rattle.ffi3_format_spec.specs.SigText.{told_text, told_texts, told_list}

join-more : (c : ℕ) (x : List ℕ) (xs : List (List ℕ)) (y : List ℕ) → join_with_byte c ((x ∷ xs) ++ (y ∷ [])) ≡ join_with_byte c (x ∷ xs) ++ (c ∷ y)
join-more c x [] y = refl
join-more c x (z ∷ xs) y =
    ap (λ t. x ++ (c ∷ t)) (join-more c z xs y) ∙ sym (append_assoc x (c ∷ join_with_byte c (z ∷ xs)) (c ∷ y))

-- the texts of the first n elements
pub texts_before : List Tree → ℕ → List ℕ
texts_before ts n = join_with_byte 44 (told_texts (trees_of (take n ts)))

told_texts-push : (ts : List Tree) (t : Tree) → told_texts (trees_of (ts ++ (t ∷ []))) ≡ told_texts (trees_of ts) ++ (told_text t ∷ [])
told_texts-push [] t = refl
told_texts-push (u ∷ ts) t = ap (λ xs. told_text u ∷ xs) (told_texts-push ts t)

pub texts_before-first : (ts : List Tree) → 0 < length ts → texts_before ts 1 ≡ told_text (tree_at ts 0)
unfolding texts_before
texts_before-first [] h = absurd (omega arith)
texts_before-first (t ∷ ts) h = refl

pub texts_before-more : (ts : List Tree) (i : ℕ) → 0 < i → i < length ts → texts_before ts (i + 1) ≡ texts_before ts i ++ (44 ∷ told_text (tree_at ts i))
unfolding texts_before
texts_before-more [] i p h = absurd (omega arith)
texts_before-more (t ∷ ts) zero p h = absurd (omega arith)
texts_before-more (t ∷ ts) (suc i) p h =
    let last = tree_at (t ∷ ts) (suc i) in
    ap (λ us. join_with_byte 44 (told_texts (trees_of us))) (take_more (t ∷ ts) (suc i) void h) ∙ ap (join_with_byte 44) (told_texts-push (t ∷ take i ts) last) ∙ join-more 44 (told_text t) (told_texts (trees_of (take i ts))) (told_text last)

pub texts_before-none : (ts : List Tree) → texts_before ts 0 ≡ []
unfolding texts_before
texts_before-none ts = refl

-- what has the texts of the first i elements, with a comma if there are any and the next text, has those of one more
pub texts-first : (ts : List Tree) (i : ℕ) (before now text : List ℕ) → i ≡ 0 → 0 < length ts → now ≡ before ++ texts_before ts i → text ≡ told_text (tree_at ts i) → now ++ text ≡ before ++ texts_before ts (i + 1)
texts-first ts i before now text none some n t =
    ap (λ k. now ++ k) (t ∙ ap (λ k. told_text (tree_at ts k)) none ∙ sym (texts_before-first ts some)) ∙ ap (λ k. k ++ texts_before ts 1) (n ∙ ap (λ k. before ++ texts_before ts k) none ∙ ap (λ k. before ++ k) (texts_before-none ts) ∙ append-nil before) ∙ ap (λ k. before ++ texts_before ts (k + 1)) (sym none)

pub texts-next : (ts : List Tree) (i : ℕ) (before now comma text : List ℕ) → 0 < i → i < length ts → now ≡ before ++ texts_before ts i → comma ≡ now ++ (44 ∷ []) → text ≡ told_text (tree_at ts i) → comma ++ text ≡ before ++ texts_before ts (i + 1)
texts-next ts i before now comma text some below n c t =
    rw (c, n, t, texts_before-more ts i some below, append_assoc, append_assoc)

-- the texts of the elements from number `from` on
module _ (ts : List Tree) (from i : ℕ) where
  here : from ≤ i → tree_at (drop from ts) (i - from) ≡ tree_at ts i
  here h =
      let there : from + (i - from) ≡ i = omega arith in
      get_or-drop from ts (i - from) void ∙ ap (tree_at ts) there

  -- one more text, the first
  pub range-first : (before now text : List ℕ) → i ≡ from → i < length ts → now ≡ before ++ texts_before (drop from ts) (i - from) → text ≡ told_text (tree_at ts i) → now ++ text ≡ before ++ texts_before (drop from ts) (i + 1 - from)
  range-first before now text first below n t =
      let next : i - from + 1 ≡ i + 1 - from = omega arith in
      texts-first (drop from ts) (i - from) before now text (omega arith) (omega (arith, length-drop from ts)) n (t ∙ ap told_text (sym (here (omega arith)))) ∙ ap (λ k. before ++ texts_before (drop from ts) k) next

  -- one more text, after a comma
  pub range-next : (before now comma text : List ℕ) → from < i → i < length ts → now ≡ before ++ texts_before (drop from ts) (i - from) → comma ≡ now ++ (44 ∷ []) → text ≡ told_text (tree_at ts i) → comma ++ text ≡ before ++ texts_before (drop from ts) (i + 1 - from)
  range-next before now comma text later below n c t =
      let next : i - from + 1 ≡ i + 1 - from = omega arith in
      texts-next (drop from ts) (i - from) before now comma text (omega arith) (omega (arith, length-drop from ts)) n c (t ∙ ap told_text (sym (here (omega arith)))) ∙ ap (λ k. before ++ texts_before (drop from ts) k) next

pub range-none : (ts : List Tree) (from : ℕ) (before : List ℕ) → before ≡ before ++ texts_before (drop from ts) (from - from)
range-none ts from before =
    let none : from - from ≡ 0 = omega arith in
    sym (ap (λ k. before ++ texts_before (drop from ts) k) none ∙ ap (λ k. before ++ k) (texts_before-none (drop from ts)) ∙ append-nil before)

pub texts_before-text : (ts : List Tree) (n : ℕ) → texts_before ts n ≡ told_list (take n ts)
unfolding texts_before
texts_before-text ts n = refl
