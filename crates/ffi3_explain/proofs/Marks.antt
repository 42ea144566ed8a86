-- The value's bytes over zeros and over ones tell its leaves from its padding.
use Rattle.std.specs.Prelude.{replicate, cond, ◌&&◌, ◌||◌, ◌==◌, nat_le, nat_lt}
use Rattle.std.proofs.Common.{◌≡◌, ℕ, ◌+◌, ◌-◌, ◌<◌, ◌≤◌, inl, inr, Bool, true, false, List, [], ◌∷◌, get_or, length, refl, ap, sym, ◌∙◌, subst, arith}
use Rattle.std.specs.Int.{w64, from_le_bytes}
use Rattle.std.specs.List.{AllByRecursion}
use Rattle.std.proofs.lemmas.Bool.Decides.{nat_tests}
use Rattle.std.proofs.lemmas.List.{length-replicate, get_or-replicate}
use Rattle.std.proofs.lemmas.List.Elements.{All-from_recursion}
use Rattle.ffi3_type_spec.specs.Tree.{Tree}
use Rattle.ffi3_type_spec.specs.Layout.{Leaf, leaves_of, size_of, scalar_size}
use Rattle.ffi3_type_spec.specs.Value.{ValueTree, IsWritten}
use Rattle.ffi3_place_spec.specs.declared.Piece.{Piece}
use Rattle.ffi3_place_spec.specs.Image.{Image, word_at}
use Rattle.ffi3_place_spec.specs.Holds.{leaf_bytes}
use Rattle.ffi3_place_spec.specs.Sound.{IsPieceOf, IsWithin}
use Rattle.ffi3_place_spec.proofs.Tests.{and_left, and_right}
use Rattle.ffi3_explain_spec.specs.declared.Part.TheVariants.{Arg}
use Rattle.ffi3_explain_spec.specs.declared.Check.{Check}
use Rattle.ffi3_explain_spec.specs.Explain.{check_of_piece, place_byte, eight, extended, first_byte, first_bytes, value_in_pieces, in_leaf, wanted_byte, wanted_word}
use Rattle.ffi3_place_spec.proofs.Reading.{LeavesRead, leaves_read}
use Rattle.ffi3_explain_spec.proofs.Pieces.{first_bytes-index, is_le, is_lt, or_cases}
use Rattle.ffi3_explain_spec.proofs.Words.{index_eight, same_eight}
use Rattle.ffi3_explain.specs.Places.{AreMarks, marked_byte}

neither : (a b : Bool) → (a || b) ≡ false → (a ≡ false) × (b ≡ false)
neither true b h = cc
neither false b h = (refl, h)

-- bytes that have those of the same leaves agree in each byte of a leaf
same_leaves : (a b : List ℕ) (ls : List Leaf) (bs : List (List ℕ)) (o : ℕ) → LeavesRead a ls bs → LeavesRead b ls bs → in_leaf ls o ≡ true → get_or a o 0 ≡ get_or b o 0
same_leaves a b [] bs o r s e = cc
same_leaves a b (l ∷ ls) [] o r s e = absurd r
same_leaves a b (l ∷ ls) (c ∷ cs) o r s e =
    elim (or_cases (nat_le l.at o && nat_lt o (l.at + scalar_size l.kind)) (in_leaf ls o) e) [
      | inl here ↦ let low = is_le l.at o (and_left (nat_le l.at o) (nat_lt o (l.at + scalar_size l.kind)) here) in
          let high = is_lt o (l.at + scalar_size l.kind) (and_right (nat_le l.at o) (nat_lt o (l.at + scalar_size l.kind)) here) in
          let back : l.at + (o - l.at) ≡ o = omega (arith, low) in
          let inside : o - l.at < scalar_size l.kind = omega (arith, low, high) in
          ap (λ n. get_or a n 0) (sym back) ∙ r.0 (o - l.at) inside ∙ sym (s.0 (o - l.at) inside) ∙ ap (λ n. get_or b n 0) back
      | inr later ↦ same_leaves a b ls cs o r.1 s.1 later
    ]

outside : (at size o : ℕ) → (nat_le at o && nat_lt o (at + size)) ≡ false → at ≤ o → at + size ≤ o
outside at size o e low = grind (arith, nat_tests, e, low)

in_no_leaf : (ls : List Leaf) (o : ℕ) → in_leaf ls o ≡ false → AllByRecursion (λ l. l.at ≤ o → l.at + scalar_size l.kind ≤ o) ls
in_no_leaf [] o e = tt
in_no_leaf (l ∷ ls) o e =
    let both = neither (nat_le l.at o && nat_lt o (l.at + scalar_size l.kind)) (in_leaf ls o) e in
    (outside l.at (scalar_size l.kind) o both.0, in_no_leaf ls o both.1)

module _ (m : Image) (base : ℕ) (t : Tree) (pieces : List Piece) (v : ValueTree) (is : v ≡ value_in_pieces m base t pieces) where
  leaf_written : (old new : List ℕ) → IsWritten t v old new → (o : ℕ) → o < size_of t → in_leaf (leaves_of t) o ≡ true → get_or new o 0 ≡ first_byte m base pieces o
  leaf_written old new written o h leaf =
      let out = first_bytes m base pieces 0 (size_of t) in
      let read = subst (λ u. LeavesRead new (leaves_of t) (leaf_bytes u)) (written.reads_back ∙ is) (leaves_read t new) in
      let e : 0 + o ≡ o = omega arith in
      same_leaves new out (leaves_of t) (leaf_bytes (value_in_pieces m base t pieces)) o read (leaves_read t out) leaf ∙ first_bytes-index m base pieces 0 (size_of t) o h ∙ ap (first_byte m base pieces) e

  padding_kept : (old new : List ℕ) → IsWritten t v old new → (o : ℕ) → o < length old → in_leaf (leaves_of t) o ≡ false → get_or new o 0 ≡ get_or old o 0
  padding_kept old new written o h none =
      written.padding_stays o h (All-from_recursion _ (leaves_of t) (in_no_leaf (leaves_of t) o none))

  pub are_marks : (low high : List ℕ) → length low ≡ size_of t → length high ≡ size_of t → IsWritten t v (replicate (size_of t) 0) low → IsWritten t v (replicate (size_of t) 255) high → AreMarks m base t pieces low high
  are_marks low high a b first second = record {
    low_sized = a;
    high_sized = b;
    leaf = λ o h e. (leaf_written (replicate (size_of t) 0) low first o h e, leaf_written (replicate (size_of t) 255) high second o h e);
    padding = λ o h e. (padding_kept (replicate (size_of t) 0) low first o (omega (arith, h, length-replicate {A = ℕ} (size_of t) 0)) e ∙ get_or-replicate (size_of t) o 0 0 h, padding_kept (replicate (size_of t) 255) high second o (omega (arith, h, length-replicate {A = ℕ} (size_of t) 255)) e ∙ get_or-replicate (size_of t) o 255 0 h);
  }

-- ---- what is wanted of a place, by the marks

same_test : (a b x : ℕ) → a ≡ x → b ≡ x → (a == b) ≡ true
same_test a b x e f = grind (arith, nat_tests, e, f)

other_test : (a b : ℕ) → a ≡ 0 → b ≡ 255 → (a == b) ≡ false
other_test a b e f = grind (arith, nat_tests, e, f)

module _ (m : Image) (base : ℕ) (t : Tree) (pieces : List Piece) (low high : List ℕ) (marks : AreMarks m base t pieces low high) (p : Piece) (of : IsPieceOf t p) (found : List ℕ) (is : found ≡ eight (place_byte m base p.loc)) where
  as_found : (k : ℕ) → k < 8 → get_or found k 0 ≡ place_byte m base p.loc k
  as_found k h = ap (λ xs. get_or xs k 0) is ∙ index_eight (place_byte m base p.loc) k h

  by_tests : (k : ℕ) → k < 8 → (a b : Bool) → nat_lt k p.len ≡ a → in_leaf (leaves_of t) (p.off + k) ≡ b → cond (a && (get_or low (p.off + k) 0 == get_or high (p.off + k) 0)) (get_or low (p.off + k) 0) (get_or found k 0) ≡ cond (a && b) (first_byte m base pieces (p.off + k)) (place_byte m base p.loc k)
  by_tests k h false b e f = as_found k h
  by_tests k h true true e f =
      let inside : p.off + k < size_of t = omega (arith, is_lt k p.len e, of.within) in
      let leaf = marks.leaf (p.off + k) inside f in
      let same = same_test (get_or low (p.off + k) 0) (get_or high (p.off + k) 0) (first_byte m base pieces (p.off + k)) leaf.0 leaf.1 in
      ap (λ b. cond b (get_or low (p.off + k) 0) (get_or found k 0)) same ∙ leaf.0
  by_tests k h true false e f =
      let inside : p.off + k < size_of t = omega (arith, is_lt k p.len e, of.within) in
      let padding = marks.padding (p.off + k) inside f in
      let differ = other_test (get_or low (p.off + k) 0) (get_or high (p.off + k) 0) padding.0 padding.1 in
      ap (λ b. cond b (get_or low (p.off + k) 0) (get_or found k 0)) differ ∙ as_found k h

  pub marked_word : from_le_bytes w64 (eight (marked_byte p found low high)) ≡ wanted_word m base t pieces p
  marked_word =
      ap (from_le_bytes w64) (same_eight (marked_byte p found low high) (wanted_byte m base t pieces p) (λ k h. by_tests k h (nat_lt k p.len) (in_leaf (leaves_of t) (p.off + k)) refl refl))

-- a part of a value lies within as many bytes as the value has
pub part_within : (t : Tree) (n : ℕ) (p : Piece) → n ≡ size_of t → IsPieceOf t p → IsWithin n p
part_within t n p sized of = (of.short, omega (arith, of.within, sized), of.fits)

abbrev check_with : ℕ → Piece → ℕ → ℕ → Check
check_with i p found wants = record { part = Arg i; place = p.loc; found = found; wants = wants }

-- a piece is checked
pub check_is : (m : Image) (base i : ℕ) (t : Tree) (pieces : List Piece) (p : Piece) (v : ValueTree) (found wants word : ℕ) → found ≡ word_at m base p.loc → word ≡ wanted_word m base t pieces p → v ≡ value_in_pieces m base t pieces → wants ≡ extended p.ext t v word → check_with i p found wants ≡ check_of_piece m base i t pieces p
check_is m base i t pieces p v found wants word there low same is =
    let all = is ∙ ap (λ u. extended p.ext t u word) same ∙ ap (extended p.ext t (value_in_pieces m base t pieces)) low in
    λ k. record { part = Arg i; place = p.loc; found = there k; wants = all k }
