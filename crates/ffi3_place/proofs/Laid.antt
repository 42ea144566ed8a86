-- Places of arguments whose copies are laid in the frame, one argument after another.
use Rattle.std.proofs.Common.{◌≡◌, ℕ, ◌+◌, ◌<◌, ◌≤◌, List, [], ◌∷◌, ◌++◌, map, get_or, set, take, drop, length, ap, sym, subst, ◌∙◌, refl, arith}
use Rattle.std.proofs.lemmas.List.{append_assoc, append-nil, set-get_or, take_more_set, drop-set-lt, take_all, drop_all}
use Rattle.ffi3_type_spec.specs.Tree.{Tree, tree_at}
use Rattle.ffi3_type_spec.specs.Layout.{size_of}
use Rattle.ffi3_place_spec.specs.declared.Place.{Place}
use Rattle.ffi3_place_spec.specs.declared.Place.TheVariants.{Direct, ByRef}
use Rattle.ffi3_place_spec.specs.Standard.{Spot, in_pieces, by_reference, start, places_from, copies_end, round8}
use Rattle.ffi3_place_spec.proofs.Elements.{drop_read, argument_read}
use Rattle.ffi3_place.specs.WithoutCopy.{without_copy}

-- an argument's place once its copy is laid behind what ends at `end`, and where the copy ends
abbrev pub laid_place : ℕ → Tree → Place → Place
laid_place end t (Direct pieces) = Direct pieces
laid_place end t (ByRef at copy) = ByRef at (start end t)

abbrev pub laid_end : ℕ → Tree → Place → ℕ
laid_end end t (Direct pieces) = end
laid_end end t (ByRef at copy) = start end t + round8 (size_of t)

-- all of them, and where the last ends
abbrev pub laid_places : ℕ → List Tree → List Place → List Place
laid_places end (t ∷ ts) (p ∷ ps) =
    laid_place end t p ∷ laid_places (laid_end end t p) ts ps
laid_places end _ _ = []

abbrev pub laid_ends : ℕ → List Tree → List Place → ℕ
laid_ends end (t ∷ ts) (p ∷ ps) = laid_ends (laid_end end t p) ts ps
laid_ends end _ _ = end

-- ---- a standard's places without copies

pub laid_from_spots : (end : ℕ) (ts : List Tree) (spots : List Spot) → laid_places end ts (map without_copy spots) ≡ places_from start end ts spots
laid_from_spots end [] spots = refl
laid_from_spots end (t ∷ ts) [] = refl
laid_from_spots end (t ∷ ts) (in_pieces pieces ∷ spots) =
    ap (λ ps. Direct pieces ∷ ps) (laid_from_spots end ts spots)
laid_from_spots end (t ∷ ts) (by_reference at ∷ spots) =
    ap (λ ps. ByRef at (start end t) ∷ ps) (laid_from_spots (start end t + round8 (size_of t)) ts spots)

pub ends_from_spots : (end : ℕ) (ts : List Tree) (spots : List Spot) → laid_ends end ts (map without_copy spots) ≡ copies_end start end ts spots
ends_from_spots end [] spots = refl
ends_from_spots end (t ∷ ts) [] = refl
ends_from_spots end (t ∷ ts) (in_pieces pieces ∷ spots) =
    ends_from_spots end ts spots
ends_from_spots end (t ∷ ts) (by_reference at ∷ spots) =
    ends_from_spots (start end t + round8 (size_of t)) ts spots

-- ---- one more argument

-- a place that is put where it stands already
pub put_again : (places : List Place) (i : ℕ) (p : Place) → p ≡ get_or places i p → places ≡ set places i p
put_again places i p read =
    sym (set-get_or places i p) ∙ ap (λ x. set places i x) (sym read)

module _ (end : ℕ) (ts : List Tree) (places : List Place) (i : ℕ) (t : Tree) (p : Place) (new : List Place) (next : ℕ) (inside : i < length ts) (there : i < length places) (of_type : t ≡ tree_at ts i) (read : p ≡ get_or places i p) (put : new ≡ set places i (laid_place end t p)) (behind : next ≡ laid_end end t p) where
  rest_is : drop (i + 1) new ≡ drop (i + 1) places
  rest_is = ap (λ l. drop (i + 1) l) put ∙ drop-set-lt (i + 1) places i (laid_place end t p) (omega arith)

  done_is : take (i + 1) new ≡ take i places ++ laid_place end t p ∷ []
  done_is = ap (λ l. take (i + 1) l) put ∙ take_more_set places i (laid_place end t p) there

  pub ends_turn : (whole : ℕ) → laid_ends end (drop i ts) (drop i places) ≡ whole → laid_ends next (drop (i + 1) ts) (drop (i + 1) new) ≡ whole
  ends_turn whole before =
      let typed = subst (λ l. laid_ends end l (drop i places) ≡ whole) (argument_read ts i t inside of_type) before in
      let begun = subst (λ l. laid_ends end (t ∷ drop (i + 1) ts) l ≡ whole) (drop_read places i p there read) typed in
      ap (λ n. laid_ends n (drop (i + 1) ts) (drop (i + 1) new)) behind ∙ ap (λ l. laid_ends (laid_end end t p) (drop (i + 1) ts) l) rest_is ∙ begun

  pub places_turn : (whole : List Place) → take i places ++ laid_places end (drop i ts) (drop i places) ≡ whole → take (i + 1) new ++ laid_places next (drop (i + 1) ts) (drop (i + 1) new) ≡ whole
  places_turn whole before =
      let typed = subst (λ l. take i places ++ laid_places end l (drop i places) ≡ whole) (argument_read ts i t inside of_type) before in
      let begun = subst (λ l. take i places ++ laid_places end (t ∷ drop (i + 1) ts) l ≡ whole) (drop_read places i p there read) typed in
      ap (λ l. l ++ laid_places next (drop (i + 1) ts) (drop (i + 1) new)) done_is ∙ append_assoc (take i places) (laid_place end t p ∷ []) (laid_places next (drop (i + 1) ts) (drop (i + 1) new)) ∙ ap (λ n. take i places ++ laid_place end t p ∷ laid_places n (drop (i + 1) ts) (drop (i + 1) new)) behind ∙ ap (λ l. take i places ++ laid_place end t p ∷ laid_places (laid_end end t p) (drop (i + 1) ts) l) rest_is ∙ begun

-- ---- behind the last argument

pub places_at_end : (end : ℕ) (ts : List Tree) (places : List Place) (n : ℕ) (whole : List Place) → length ts ≤ n → length places ≤ n → take n places ++ laid_places end (drop n ts) (drop n places) ≡ whole → places ≡ whole
places_at_end end ts places n whole few short before =
    let typed = subst (λ l. take n places ++ laid_places end l (drop n places) ≡ whole) (drop_all n ts few) before in
    let taken = subst (λ l. l ++ [] ≡ whole) (take_all n places short) typed in
    sym (append-nil places) ∙ taken

pub ends_at_end : (end : ℕ) (ts : List Tree) (places : List Place) (n : ℕ) (whole : ℕ) → length ts ≤ n → laid_ends end (drop n ts) (drop n places) ≡ whole → end ≡ whole
ends_at_end end ts places n whole few before =
    subst (λ l. laid_ends end l (drop n places) ≡ whole) (drop_all n ts few) before
