-- Where the frame has no bytes, nothing stands on the stack, and there are no runs.
use Rattle.std.proofs.Common.{◌≡◌, ◌+◌, List, [], ◌∷◌, ◌++◌, length, replicate, refl, arith, subst, inl, inr}
use Rattle.std.specs.List.{AllByRecursion, flat_map}
use Rattle.ffi3_type_spec.specs.declared.Isa.{Isa}
use Rattle.ffi3_place_spec.specs.declared.Loc.{Loc}
use Rattle.ffi3_place_spec.specs.declared.Loc.TheVariants.{S}
use Rattle.ffi3_place_spec.specs.declared.Piece.{Piece}
use Rattle.ffi3_place_spec.specs.declared.Place.{Place}
use Rattle.ffi3_place_spec.specs.declared.Place.TheVariants.{Direct, ByRef}
use Rattle.ffi3_place_spec.specs.Sound.{StandsIn, piece_locs, place_locs}
use Rattle.ffi3_cif.specs.Runs.{pieces_of, run_at, run_then, stack_runs, OneCopies, AreRunsOf, PlacesHaveRuns, HasNoRuns}

-- ---- no runs

are_none : (pieces : List Piece) → stack_runs pieces ≡ [] → AreRunsOf pieces []
are_none pieces e = record {
  has_each = λ at off c. subst (OneCopies at off) e c;
  has_no_other = λ at off c. absurd c;
  some_bytes = tt;
  whole = tt;
  rising = tt;
}

pub none_anywhere : (ps : List Place) → AllByRecursion HasNoRuns ps → PlacesHaveRuns ps (replicate (length ps) [])
none_anywhere [] h = tt
none_anywhere (p ∷ ps) h = (are_none (pieces_of p) h.0, none_anywhere ps h.1)

-- ---- an empty frame

pub all_front : (P : Loc → Type 0) (xs ys : List Loc) → AllByRecursion P (xs ++ ys) → AllByRecursion P xs
all_front P [] ys h = tt
all_front P (x ∷ xs) ys h = (h.0, all_front P xs ys h.1)

pub all_back : (P : Loc → Type 0) (xs ys : List Loc) → AllByRecursion P (xs ++ ys) → AllByRecursion P ys
all_back P [] ys h = h
all_back P (x ∷ xs) ys h = all_back P xs ys h.1

no_run : (isa : Isa) (pieces : List Piece) → AllByRecursion (StandsIn isa 0) (piece_locs pieces) → stack_runs pieces ≡ []
no_run isa [] h = refl
no_run isa (p ∷ ps) h = by_place p.loc h.0 (no_run isa ps h.1)
  where
    by_place : (l : Loc) → StandsIn isa 0 l → stack_runs ps ≡ [] → run_then (run_at l p) (stack_runs ps) ≡ []
    by_place (S n w) (inl low) e = absurd (omega (arith, low.0, low.1))
    by_place (S n w) (inr further) e = absurd further
    by_place _ low e = e

at_place : (isa : Isa) (p : Place) → AllByRecursion (StandsIn isa 0) (place_locs p) → HasNoRuns p
at_place isa (Direct pieces) h = no_run isa pieces h
at_place isa (ByRef at copy) h = refl

pub none_in_empty : (isa : Isa) (ps : List Place) → AllByRecursion (StandsIn isa 0) (flat_map place_locs ps) → AllByRecursion HasNoRuns ps
none_in_empty isa [] h = tt
none_in_empty isa (p ∷ ps) h =
    (at_place isa p (all_front (StandsIn isa 0) (place_locs p) (flat_map place_locs ps) h), none_in_empty isa ps (all_back (StandsIn isa 0) (place_locs p) (flat_map place_locs ps) h))
