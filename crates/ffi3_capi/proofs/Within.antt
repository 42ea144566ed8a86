-- The pieces of places that have all of their values end within the values.
use Rattle.std.proofs.Common.{ℕ, suc, ◌<◌, ◌≤◌, List, [], ◌∷◌, length, arith}
use Rattle.std.specs.List.{AllByRecursion}
use Rattle.ffi3_type_spec.specs.Tree.{Tree, tree_at}
use Rattle.ffi3_type_spec.specs.Layout.{size_of}
use Rattle.ffi3_place_spec.specs.declared.Place.{Place}
use Rattle.ffi3_place_spec.specs.declared.Place.TheVariants.{Direct, ByRef}
use Rattle.ffi3_place_spec.specs.declared.Res.{Res}
use Rattle.ffi3_place_spec.specs.declared.Res.TheVariants.{Direct as DirectRes}
use Rattle.ffi3_place_spec.specs.Sound.{IsPieceOf, PlaceHasAll, PlacesHaveAll, ResultHasAll}
use Rattle.ffi3_place_spec.proofs.Tests.{each_weaker}
use Rattle.ffi3_cif.specs.Runs.{EndsWithin, PlaceEndsWithin}
use Rattle.ffi3_capi.specs.Within.{ResultEndsWithin}

pub places_end : (size : ℕ) (ts : List Tree) (ps : List Place) → ((k : ℕ) → k < length ts → size_of (tree_at ts k) ≤ size) → PlacesHaveAll ts ps → AllByRecursion (PlaceEndsWithin size) ps
places_end size [] [] small h = tt
places_end size (t ∷ ts) (p ∷ ps) small h =
    (place_ends p h.0, places_end size ts ps (λ k below. small (suc k) (omega (arith, below))) h.1)
  where
    first : size_of t ≤ size
    first = small 0 (omega arith)

    place_ends : (q : Place) → PlaceHasAll t q → PlaceEndsWithin size q
    place_ends (Direct pieces) all =
        each_weaker (IsPieceOf t) (EndsWithin size) (λ p e. omega (arith, e.within, first)) pieces all.each
    place_ends (ByRef at copy) all = tt
places_end size _ _ small h = absurd h

pub result_ends : (size : ℕ) (t : Tree) (r : Res) → size_of t ≤ size → ResultHasAll t r → ResultEndsWithin size r
result_ends size t (DirectRes pieces) small all =
    each_weaker (IsPieceOf t) (EndsWithin size) (λ p e. omega (arith, e.within, small)) pieces all.each
result_ends size t _ small all = tt
