-- Pieces in words of one register, which are told as one.
use Rattle.std.proofs.Common.{◌≡◌, ℕ, ◌+◌, ◌<◌, ◌≤◌, Bool, true, false, cond, List, [], ◌∷◌, ◌++◌, length, drop, ap, sym, refl, ◌∙◌, arith, append_assoc, append-nil}
use Rattle.std.specs.Prelude.{slice_index_or}
use Rattle.std.specs.List.{flat_map}
use Rattle.std.proofs.lemmas.List.{drop_more, drop_all}
use Rattle.ffi3_type_spec.specs.declared.Isa.{Isa}
use Rattle.ffi3_place_spec.specs.declared.Piece.{Piece}
use Rattle.ffi3_text_spec.specs.declared.Part.{Part}
use Rattle.ffi3_text_spec.specs.PlaceLines.{joined_to, longer, part_of, register_part_text, register_texts, stands_above}

module _ (isa : Isa) where
  -- the texts of parts
  abbrev pub texts : List Part → List ℕ
  texts ps = flat_map (register_part_text isa) ps

  -- those of a part and of what is behind it from number k on
  abbrev pub texts_from : Part → List Piece → ℕ → List ℕ
  texts_from p ps k = texts (joined_to isa p (drop k ps))

  pub begins : (ps : List Piece) (q : Piece) → 0 < length ps → q ≡ slice_index_or ps 0 q → register_texts isa ps ≡ texts_from (part_of q) ps 1
  begins [] q some is = absurd (omega arith)
  begins (p ∷ ps) q some is = ap (λ r. texts_from (part_of r) (p ∷ ps) 1) (sym is)

  pub nothing : (ps : List Piece) → length ps ≡ 0 → [] ≡ register_texts isa ps
  nothing [] none = refl
  nothing (p ∷ ps) none = absurd (omega (arith, none))

  next_piece : (ps : List Piece) (k : ℕ) (q : Piece) → k < length ps → q ≡ slice_index_or ps k q → drop k ps ≡ q ∷ drop (k + 1) ps
  next_piece ps k q below is =
      drop_more ps k q below ∙ ap (λ r. r ∷ drop (k + 1) ps) (sym is)

  by_test : (p : Part) (q : Piece) (qs : List Piece) (b : Bool) → stands_above isa p.loc q.loc ≡ b → joined_to isa p (q ∷ qs) ≡ cond b (joined_to isa (longer p q.len) qs) (p ∷ joined_to isa (part_of q) qs)
  by_test p q qs b e =
      ap (λ t. cond t (joined_to isa (longer p q.len) qs) (p ∷ joined_to isa (part_of q) qs)) e

  -- the next piece stands above
  pub goes_on : (ps : List Piece) (k : ℕ) (p : Part) (q : Piece) → k < length ps → q ≡ slice_index_or ps k q → stands_above isa p.loc q.loc ≡ true → texts_from p ps k ≡ texts_from (longer p q.len) ps (k + 1)
  goes_on ps k p q below is above =
      ap (λ qs. texts (joined_to isa p qs)) (next_piece ps k q below is) ∙ ap texts (by_test p q (drop (k + 1) ps) true above)

  -- or it does not
  pub next_part : (ps : List Piece) (k : ℕ) (p : Part) (q : Piece) → k < length ps → q ≡ slice_index_or ps k q → stands_above isa p.loc q.loc ≡ false → texts_from p ps k ≡ register_part_text isa p ++ texts_from (part_of q) ps (k + 1)
  next_part ps k p q below is above =
      ap (λ qs. texts (joined_to isa p qs)) (next_piece ps k q below is) ∙ ap texts (by_test p q (drop (k + 1) ps) false above)

  pub ends : (ps : List Piece) (k : ℕ) (p : Part) → length ps ≤ k → texts_from p ps k ≡ register_part_text isa p
  ends ps k p past =
      ap (λ qs. texts (joined_to isa p qs)) (drop_all k ps past) ∙ append-nil (register_part_text isa p)

  -- ---- what is written

  pub turn_above : (ps : List Piece) (k : ℕ) (p p' : Part) (q : Piece) (text whole : List ℕ) → k < length ps → q ≡ slice_index_or ps k q → stands_above isa p.loc q.loc ≡ true → p' ≡ longer p q.len → text ++ texts_from p ps k ≡ whole → text ++ texts_from p' ps (k + 1) ≡ whole
  turn_above ps k p p' q text whole below is above e so_far =
      ap (λ r. text ++ texts_from r ps (k + 1)) e ∙ ap (λ t. text ++ t) (sym (goes_on ps k p q below is above)) ∙ so_far

  pub turn_next : (ps : List Piece) (k : ℕ) (p p' : Part) (q : Piece) (text new whole : List ℕ) → k < length ps → q ≡ slice_index_or ps k q → stands_above isa p.loc q.loc ≡ false → p' ≡ part_of q → new ≡ text ++ register_part_text isa p → text ++ texts_from p ps k ≡ whole → new ++ texts_from p' ps (k + 1) ≡ whole
  turn_next ps k p p' q text new whole below is apart e wrote so_far =
      ap (λ r. new ++ texts_from r ps (k + 1)) e ∙ ap (λ t. t ++ texts_from (part_of q) ps (k + 1)) wrote ∙ append_assoc text (register_part_text isa p) (texts_from (part_of q) ps (k + 1)) ∙ ap (λ t. text ++ t) (sym (next_part ps k p q below is apart)) ∙ so_far

  pub last_part : (ps : List Piece) (k : ℕ) (p : Part) (text new whole : List ℕ) → length ps ≤ k → new ≡ text ++ register_part_text isa p → text ++ texts_from p ps k ≡ whole → new ≡ whole
  last_part ps k p text new whole past wrote so_far =
      wrote ∙ ap (λ t. text ++ t) (sym (ends ps k p past)) ∙ so_far
