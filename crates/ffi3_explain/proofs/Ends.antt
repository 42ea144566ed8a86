-- Where places on the stack end.
use Rattle.std.specs.Prelude.{◌^◌, max, slice_get, slice_index_or, Some}
use Rattle.std.proofs.Common.{◌≡◌, ℕ, suc, ◌+◌, ◌<◌, ◌≤◌, List, [], ◌∷◌, ◌++◌, drop, length, refl, ap, sym, ◌∙◌, arith}
use Rattle.std.specs.List.{flat_map}
use Rattle.std.proofs.lemmas.Option.{get_or_from_slice_get, slice_get_within}
use Rattle.ffi3_type_spec.specs.Tree.{Tree}
use Rattle.ffi3_place_spec.specs.declared.Loc.{Loc}
use Rattle.ffi3_place_spec.specs.declared.Loc.TheVariants.{G, S}
use Rattle.ffi3_place_spec.specs.declared.Piece.{Piece}
use Rattle.ffi3_place_spec.specs.declared.Place.{Place}
use Rattle.ffi3_place_spec.specs.Sound.{PlacesHaveAll, piece_locs, place_locs}
use Rattle.ffi3_place_spec.proofs.Elements.{drop_read}
use Rattle.ffi3_explain_spec.specs.Arguments.{stack_end}
use Rattle.std.proofs.lemmas.List.{drop_all}
use Rattle.ffi3_place_spec.proofs.Elements.{drop_read}

-- the greater of three, either way
max_assoc : (a b c : ℕ) → max a (max b c) ≡ max (max a b) c
max_assoc a b c = omega arith

pub stack_end-append : (ls ks : List Loc) → stack_end (ls ++ ks) ≡ max (stack_end ls) (stack_end ks)
stack_end-append [] ks = omega arith
stack_end-append (S n w ∷ ls) ks =
    ap (max (n + w)) (stack_end-append ls ks) ∙ max_assoc (n + w) (stack_end ls) (stack_end ks)
stack_end-append (_ ∷ ls) ks = stack_end-append ls ks

-- one place more
one_more : (l : Loc) (ls : List Loc) → stack_end (l ∷ ls) ≡ max (stack_end (l ∷ [])) (stack_end ls)
one_more (G r) ls = omega arith
one_more _ ls = omega arith

-- the pieces from number j on are still to be looked at
abbrev pub IsPieceEnd : List Piece → ℕ → ℕ → Type 0
IsPieceEnd pieces j end =
    stack_end (piece_locs pieces) ≡ max end (stack_end (piece_locs (drop j pieces)))

pub no_piece : (pieces : List Piece) → IsPieceEnd pieces 0 0
no_piece pieces = omega arith

pub piece_further : (pieces : List Piece) (j end more here : ℕ) (p : Piece) → j < length pieces → p ≡ slice_index_or pieces j p → here ≡ stack_end (p.loc ∷ []) → more ≡ max end here → IsPieceEnd pieces j end → IsPieceEnd pieces (j + 1) more
piece_further pieces j end more here p below at is greater left =
    left ∙ ap (λ ps. max end (stack_end (piece_locs ps))) (drop_read pieces j p below at)
    ∙ ap (max end) (one_more p.loc (piece_locs (drop (j + 1) pieces)) ∙ ap (λ n. max n (stack_end (piece_locs (drop (j + 1) pieces)))) (sym is))
    ∙ max_assoc end here (stack_end (piece_locs (drop (j + 1) pieces))) ∙ ap (λ n. max n (stack_end (piece_locs (drop (j + 1) pieces)))) (sym greater)

pub pieces_end : (pieces : List Piece) (j end : ℕ) → length pieces ≤ j → IsPieceEnd pieces j end → end ≡ stack_end (piece_locs pieces)
pieces_end pieces j end last left =
    let none : max end 0 ≡ end = omega arith in
    sym (left ∙ ap (λ ps. max end (stack_end (piece_locs ps))) (drop_all j pieces last) ∙ none)

-- the same of places
abbrev pub IsPlaceEnd : List Place → ℕ → ℕ → Type 0
IsPlaceEnd places i end =
    stack_end (flat_map place_locs places) ≡ max end (stack_end (flat_map place_locs (drop i places)))

pub no_place : (places : List Place) → IsPlaceEnd places 0 0
no_place places = omega arith

pub place_further : (places : List Place) (i end more here : ℕ) (p : Place) → slice_get places i ≡ Some p → here ≡ stack_end (place_locs p) → more ≡ max end here → IsPlaceEnd places i end → IsPlaceEnd places (i + 1) more
place_further places i end more here p at is greater left =
    let rest = flat_map place_locs (drop (i + 1) places) in
    let first = drop_read places i p (slice_get_within places i p at) (sym (get_or_from_slice_get places i p p at)) in
    left ∙ ap (λ ps. max end (stack_end (flat_map place_locs ps))) first
    ∙ ap (max end) (stack_end-append (place_locs p) rest ∙ ap (λ n. max n (stack_end rest)) (sym is))
    ∙ max_assoc end here (stack_end rest) ∙ ap (λ n. max n (stack_end rest)) (sym greater)

pub places_end : (places : List Place) (i end : ℕ) → length places ≤ i → IsPlaceEnd places i end → end ≡ stack_end (flat_map place_locs places)
places_end places i end last left =
    let none : max end 0 ≡ end = omega arith in
    sym (left ∙ ap (λ ps. max end (stack_end (flat_map place_locs ps))) (drop_all i places last) ∙ none)

-- there is one place for each argument
pub same_count : (ts : List Tree) (ps : List Place) → PlacesHaveAll ts ps → length ps ≡ length ts
same_count [] [] have = refl
same_count (t ∷ ts) (p ∷ ps) have = ap suc (same_count ts ps have.1)
same_count _ _ have = absurd have

-- the greater of two small numbers is small
pub small_greater : (a b c : ℕ) → a < 2 ^ 33 → b < 2 ^ 33 → c ≡ max a b → c < 2 ^ 33
small_greater a b c h k e = omega (arith, h, k, e)
