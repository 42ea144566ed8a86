-- One more piece, and one more argument.
use Rattle.std.proofs.Common.{◌≡◌, ℕ, zero, suc, ◌+◌, ◌<◌, ◌≤◌, ltb, List, [], ◌∷◌, ◌++◌, drop, length, ap, sym, ◌∙◌, refl, arith, subst, inl, inr, drop_of_length-le, take, take_all}
use Rattle.std.specs.Prelude.{Some, None, IsSomeAnd, slice_get, slice_index_or}
use Rattle.std.specs.List.{AllByRecursion}
use Rattle.std.proofs.lemmas.List.{take_more}
use Rattle.ffi3_type_spec.specs.Tree.{Tree, tree_at}
use Rattle.ffi3_type_spec.specs.Layout.{size_of}
use Rattle.ffi3_place_spec.specs.declared.Loc.{Loc}
use Rattle.ffi3_place_spec.specs.declared.Loc.TheVariants.{S}
use Rattle.ffi3_place_spec.specs.declared.Piece.{Piece}
use Rattle.ffi3_place_spec.specs.declared.Place.{Place}
use Rattle.ffi3_place_spec.specs.declared.Place.TheVariants.{Direct, ByRef}
use Rattle.ffi3_place_spec.specs.Sound.{IsPieceOf, PlaceHasAll, PlacesHaveAll, RisesTo, AreRising}
use Rattle.ffi3_place_spec.proofs.Elements.{drop_read}
use Rattle.ffi3_place_spec.proofs.Tests.{each_at, each_weaker}
use Rattle.ffi3_cif.specs.declared.runs.Run.{Run}
use Rattle.ffi3_cif.specs.Runs.{pieces_of, run_at, run_then, stack_runs, OneCopies, Neighbours, Rises, AreRunsOf, EndsWithin, PlaceEndsWithin, PlacesHaveRuns, some_run, glued}
use Rattle.ffi3_cif.proofs.Glue.{are_glued}

-- ---- what comes next

-- ---- the runs of pieces

abbrev pub first_run : Run
first_run = record { at = 0; off = 0; len = 0 }

abbrev run_of : ℕ → Piece → Run
run_of start p = record { at = start; off = p.off; len = p.len }

-- the run of a piece rises to the runs of those after it
first_rises : (p : Piece) (start size : ℕ) → p.loc ≡ S start size → (qs : List Piece) → AllByRecursion (RisesTo p) qs → Neighbours Rises (stack_runs qs) → Neighbours Rises (run_of start p ∷ stack_runs qs)
first_rises p start size at [] h k = tt
first_rises p start size at (q ∷ qs) h k = by_place q.loc refl (first_rises p start size at qs h.1) k
  where
    by_place : (l : Loc) → q.loc ≡ l → (Neighbours Rises (stack_runs qs) → Neighbours Rises (run_of start p ∷ stack_runs qs)) → Neighbours Rises (run_then (run_at l q) (stack_runs qs)) → Neighbours Rises (run_of start p ∷ run_then (run_at l q) (stack_runs qs))
    by_place (S high w) there rest k =
        let rises = h.0 start size high w at there in
        (record { at = rises.0; off = rises.1 }, k)
    by_place _ there rest k = rest k

runs_rise : (pieces : List Piece) → AreRising pieces → Neighbours Rises (stack_runs pieces)
runs_rise [] h = tt
runs_rise (p ∷ ps) h = by_place p.loc refl (runs_rise ps h.1)
  where
    by_place : (l : Loc) → p.loc ≡ l → Neighbours Rises (stack_runs ps) → Neighbours Rises (run_then (run_at l p) (stack_runs ps))
    by_place (S start w) at k = first_rises p start w at ps h.0 k
    by_place _ at k = k

pub runs_made : (pieces : List Piece) → AreRising pieces → AreRunsOf pieces (glued first_run (stack_runs pieces))
runs_made pieces rising =
    let g = are_glued first_run (stack_runs pieces) in
    record {
      has_each = λ at off c. g.has_each at off (inr c);
      has_no_other = λ at off c. others at off (g.has_no_other at off c);
      some_bytes = g.some_bytes;
      whole = g.whole;
      rising = g.rising (from_first (stack_runs pieces) (runs_rise pieces rising));
    }
  where
    others : (at off : ℕ) → OneCopies at off (first_run ∷ stack_runs pieces) → OneCopies at off (stack_runs pieces)
    others at off (inl c) = absurd (omega (arith, c.from, c.to))
    others at off (inr c) = c

    from_first : (rs : List Run) → Neighbours Rises rs → Neighbours Rises (first_run ∷ rs)
    from_first [] h = tt
    from_first (r ∷ rs) h = (record { at = omega arith; off = omega arith }, h)

-- ---- the runs of each argument

pub one_more : (ps : List Place) (p : Place) (rs : List (List Run)) (r : List Run) → PlacesHaveRuns ps rs → AreRunsOf (pieces_of p) r → PlacesHaveRuns (ps ++ p ∷ []) (rs ++ r ∷ [])
one_more [] p [] r h k = (k, tt)
one_more (q ∷ ps) p (s ∷ rs) r h k = (h.0, one_more ps p rs r h.1 k)
one_more _ p _ r h k = absurd h

pub as_many : (ps : List Place) (rs : List (List Run)) → PlacesHaveRuns ps rs → length rs ≡ length ps
as_many [] [] h = refl
as_many (p ∷ ps) (r ∷ rs) h = ap suc (as_many ps rs h.1)
as_many _ _ h = absurd h

-- ---- one turn of the loop over pieces

no_run : (p : Piece) (ps : List Piece) → run_at p.loc p ≡ None → stack_runs (p ∷ ps) ≡ stack_runs ps
no_run p ps e = ap (λ o. run_then o (stack_runs ps)) e

its_run : (p : Piece) (ps : List Piece) (n : Run) → run_at p.loc p ≡ Some n → stack_runs (p ∷ ps) ≡ n ∷ stack_runs ps
its_run p ps n e = ap (λ o. run_then o (stack_runs ps)) e

module _ (pieces : List Piece) (i : ℕ) (p : Piece) (inside : i < length pieces) (read : p ≡ slice_index_or pieces i p) (runs whole : List Run) (r : Run) (before : runs ++ glued r (stack_runs (drop i pieces)) ≡ whole) where
  opened : runs ++ glued r (stack_runs (p ∷ drop (i + 1) pieces)) ≡ whole
  opened = subst (λ ps. runs ++ glued r (stack_runs ps) ≡ whole) (drop_read pieces i p inside read) before

  module _ (out : List Run) (last : Run) where
    abbrev LeftOver : Type 0
    LeftOver = out ++ glued last (stack_runs (drop (i + 1) pieces)) ≡ whole

    same_run : (new : List Run) (next : Run) → out ≡ new → last ≡ next → new ++ glued next (stack_runs (drop (i + 1) pieces)) ≡ whole → LeftOver
    same_run new next e f h =
        ap (λ rs. rs ++ glued last (stack_runs (drop (i + 1) pieces))) e ∙ ap (λ q. new ++ glued q (stack_runs (drop (i + 1) pieces))) f ∙ h

    pub piece_skipped : out ≡ runs → last ≡ r → run_at p.loc p ≡ None → LeftOver
    piece_skipped e f none =
        same_run runs r e f (subst (λ ns. runs ++ glued r ns ≡ whole) (no_run p (drop (i + 1) pieces) none) opened)

    pub piece_taken : (n next : Run) (new : List Run) → out ≡ new → last ≡ next → run_at p.loc p ≡ Some n → ((rest : List Run) → new ++ glued next rest ≡ runs ++ glued r (n ∷ rest)) → LeftOver
    piece_taken n next new e f some step =
        same_run new next e f (step (stack_runs (drop (i + 1) pieces)) ∙ subst (λ ns. runs ++ glued r ns ≡ whole) (its_run p (drop (i + 1) pieces) n some) opened)

pub all_taken : (pieces : List Piece) (i : ℕ) (runs out : List Run) (r : Run) → AreRising pieces → length pieces ≤ i → runs ++ glued r (stack_runs (drop i pieces)) ≡ glued first_run (stack_runs pieces) → out ≡ runs ++ some_run r → AreRunsOf pieces out
all_taken pieces i runs out r rising over before pushed =
    let done = subst (λ ps. runs ++ glued r (stack_runs ps) ≡ glued first_run (stack_runs pieces)) (drop_of_length-le pieces over) before in
    subst (λ rs. AreRunsOf pieces rs) (sym (pushed ∙ done)) (runs_made pieces rising)

-- a piece of the list ends within the bound, and so does its run
pub run_ends : (size : ℕ) (pieces : List Piece) (i : ℕ) (p : Piece) (n : Run) → i < length pieces → p ≡ slice_index_or pieces i p → run_at p.loc p ≡ Some n → AllByRecursion (EndsWithin size) pieces → n.off + n.len ≤ size
run_ends size pieces i p n inside read e all = ends p.loc e
  where
    here : EndsWithin size p
    here = each_at (EndsWithin size) pieces i p inside (sym read) all

    ends : (l : Loc) → run_at l p ≡ Some n → n.off + n.len ≤ size
    ends (S k w) f =
        let off : p.off ≡ n.off = cc in
        let len : p.len ≡ n.len = cc in
        omega (arith, here, off, len)
    ends _ f = cc

-- ---- one turn of the loop over places

pub place_taken : (places : List Place) (i : ℕ) (p : Place) (all out : List (List Run)) (r : List Run) → i < length places → p ≡ slice_index_or places i p → PlacesHaveRuns (take i places) all → out ≡ all ++ r ∷ [] → AreRunsOf (pieces_of p) r → PlacesHaveRuns (take (i + 1) places) out
place_taken places i p all out r inside read before pushed has =
    let more : take (i + 1) places ≡ take i places ++ p ∷ [] = take_more places i p inside ∙ ap (λ q. take i places ++ q ∷ []) (sym read) in
    subst (λ ps. PlacesHaveRuns ps out) (sym more) (subst (λ rs. PlacesHaveRuns (take i places ++ p ∷ []) rs) (sym pushed) (one_more (take i places) p all r before has))

pub all_places : (places : List Place) (i : ℕ) (all : List (List Run)) → i ≡ length places → PlacesHaveRuns (take i places) all → PlacesHaveRuns places all
all_places places i all end h =
    subst (λ ps. PlacesHaveRuns ps all) (ap (λ n. take n places) end ∙ take_all (length places) places (omega arith)) h

-- the pieces of places that have all of their values end within the values
pub places_end : (size : ℕ) (ts : List Tree) (ps : List Place) → ((k : ℕ) → k < length ts → size_of (tree_at ts k) ≤ size) → PlacesHaveAll ts ps → AllByRecursion (PlaceEndsWithin size) ps
places_end size [] [] small h = tt
places_end size (t ∷ ts) (p ∷ ps) small h =
    (place_ends p h.0, places_end size ts ps (λ k below. small (suc k) (omega (arith, below))) h.1)
  where
    first : size_of t ≤ size
    first = small 0 (omega arith)

    place_ends : (q : Place) → PlaceHasAll t q → PlaceEndsWithin size q
    place_ends (Direct pieces) all =
        each_weaker (IsPieceOf t) (EndsWithin size) (λ p e. omega (arith, e.within, first)) pieces all.each
    place_ends (ByRef at copy) all = tt
places_end size _ _ small h = absurd h

-- ---- the accessor

pub runs_there : (ps : List Place) (rs : List (List Run)) (i : ℕ) (r : List Run) → PlacesHaveRuns ps rs → i < length ps → slice_get rs i ≡ Some r → IsSomeAnd (slice_get ps i) (λ p. AreRunsOf (pieces_of p) r)
runs_there [] rs i r h below e = absurd (omega arith)
runs_there (q ∷ ps) [] i r h below e = absurd h
runs_there (q ∷ ps) (s ∷ rs) zero r h below e =
    let same : s ≡ r = cc in
    subst (λ x. AreRunsOf (pieces_of q) x) same h.0
runs_there (q ∷ ps) (s ∷ rs) (suc i) r h below e = runs_there ps rs i r h.1 (omega arith) e
