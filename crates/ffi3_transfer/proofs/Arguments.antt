-- One more argument beside those that stand.
use Rattle.std.proofs.Common.{◌≡◌, ℕ, ◌+◌, List, [], ◌∷◌, drop, length, subst, sym, arith}
use Rattle.std.specs.List.{AllByRecursion}
use Rattle.std.proofs.lemmas.List.{drop_all}
use Rattle.ffi3_type_spec.specs.Tree.{Tree}
use Rattle.ffi3_type_spec.specs.Layout.{size_of}
use Rattle.ffi3_place_spec.specs.declared.Loc.{Loc}
use Rattle.ffi3_place_spec.specs.declared.Place.{Place}
use Rattle.ffi3_place_spec.specs.Image.{Image}
use Rattle.ffi3_place_spec.specs.Standard.{round8}
use Rattle.ffi3_place_spec.specs.Sound.{IsNoneOf}
use Rattle.ffi3_type_spec.specs.declared.Target.{Target}
use Rattle.ffi3_marshal.specs.Stored.{Stays}
use Rattle.ffi3_marshal.specs.Standing.{place_uses, all_uses, AreReadyIn, PlaceKeeps, PlaceStands, PlacesKeep}
use Rattle.ffi3_marshal.proofs.Composing.{stays_none, stays_then}
use Rattle.ffi3_marshal.proofs.Copying.{keeps_since, place_stays}
use Rattle.ffi3_marshal.proofs.Lawful.{each_first, each_rest, apart_across, across_none}
use Rattle.ffi3_marshal.proofs.Arguments.{AtArgumentIn, places_keep, ready_length_in}
use Rattle.ffi3_transfer.specs.Stored.{floating_words}
use Rattle.ffi3_transfer.specs.Packed.{packed_size, first_in, behind}
use Rattle.ffi3_transfer.specs.Standing.{AllStand}
use Rattle.ffi3_transfer.proofs.Packing.{packed_open, behind_drop}

pub all_stay : (base : ℕ) (target : Target) (room : ℕ) (ls : List Loc) (a b : Image) (ts : List Tree) (ps : List Place) (bytes : List ℕ) → AreReadyIn floating_words target room ts ps → AllByRecursion (IsNoneOf ls) (all_uses ts ps) → Stays base ls a b → AllStand base a ts ps bytes → AllStand base b ts ps bytes
all_stay base target room ls a b [] [] bytes ready none s stand = tt
all_stay base target room ls a b (t ∷ ts) (p ∷ ps) bytes ready none s stand = (
  place_stays base t (first_in t bytes) p ls a b ready.0.has_all (each_first (IsNoneOf ls) (place_uses t p) (all_uses ts ps) none) s stand.0,
  all_stay base target room ls a b ts ps (behind t bytes) ready.1 (each_rest (IsNoneOf ls) (place_uses t p) (all_uses ts ps) none) s stand.1,
)
all_stay base target room ls a b _ _ bytes ready none s stand = absurd ready

module _ (base : ℕ) (target : Target) (room : ℕ) (ts : List Tree) (ps : List Place) (bytes : List ℕ) where
  -- what is so before the argument at j - 1 is stored, whose values end at `at` in the buffer
  pub record AllStored (j at : ℕ) (first m : Image) : Type 0 where
    pub stand : AllStand base m (drop j ts) (drop j ps) (drop at bytes)
    pub stays : Stays base (all_uses (drop j ts) (drop j ps)) first m
    pub left : at + packed_size (drop j ts) ≡ length bytes
    pub kept : PlacesKeep base first m (drop j ts) (drop j ps)

  pub none_yet : (j at : ℕ) (m : Image) → AreReadyIn floating_words target room ts ps → j ≡ length ts → at ≡ length bytes → AllStored j at m m
  none_yet j at m ready at_end all =
      let no_type = drop_all j ts (omega (arith, at_end)) in
      let no_place = drop_all j ps (omega (arith, at_end, ready_length_in floating_words target room ts ps ready)) in
      let none : at + 0 ≡ length bytes = omega (arith, all) in
      record {
        stand = rw (no_type, no_place) tt;
        stays = rw no_type (stays_none base m);
        left = rw no_type none;
        kept = rw no_type tt;
      }

  module _ (j : ℕ) (t : Tree) (p : Place) (here : AtArgumentIn floating_words target room ts ps j t p) where
    pub argument_step : (at end : ℕ) (first a b : Image) → end ≡ at + round8 (size_of t) → PlaceStands base b t (first_in t (drop at bytes)) p → PlaceKeeps base a b t p → Stays base (place_uses t p) a b → AllStored (j + 1) end first a → AllStored j at first b
    argument_step at end first a b next stands keeps stays before =
        let across = apart_across (place_uses t p) (all_uses (drop (j + 1) ts) (drop (j + 1) ps)) here.apart in
        let clear = across_none (place_uses t p) (all_uses (drop (j + 1) ts) (drop (j + 1) ps)) across in
        let kept = all_stay base target room (place_uses t p) a b (drop (j + 1) ts) (drop (j + 1) ps) (drop end bytes) here.rest_ready clear stays before.stand in
        let kept_there = subst (AllStand base b (drop (j + 1) ts) (drop (j + 1) ps)) (sym (behind_drop t at end bytes next)) kept in
        let types = here.types in
        let places = here.places in
        record {
          stand = subst (λ us. AllStand base b us (drop j ps) (drop at bytes)) (sym types) (subst (λ qs. AllStand base b (t ∷ drop (j + 1) ts) qs (drop at bytes)) (sym places) (stands, kept_there));
          stays = subst (λ us. Stays base (all_uses us (drop j ps)) first b) (sym types) (subst (λ qs. Stays base (all_uses (t ∷ drop (j + 1) ts) qs) first b) (sym places) (stays_then base (all_uses (drop (j + 1) ts) (drop (j + 1) ps)) (place_uses t p) first a b before.stays stays));
          left = omega (arith, packed_open (drop j ts) (drop (j + 1) ts) t types, before.left, next);
          kept = subst (λ us. PlacesKeep base first b us (drop j ps)) (sym types) (subst (PlacesKeep base first b (t ∷ drop (j + 1) ts)) (sym places) (keeps_since base t p (all_uses (drop (j + 1) ts) (drop (j + 1) ps)) first a b across before.stays keeps, places_keep base (place_uses t p) first a b (drop (j + 1) ts) (drop (j + 1) ps) clear stays before.kept));
        }

  pub stored_at_end : (j at : ℕ) (first m : Image) → j ≡ 0 → length bytes ≡ packed_size ts → AllStored j at first m → AllStand base m ts ps bytes × Stays base (all_uses ts ps) first m × PlacesKeep base first m ts ps
  stored_at_end j at first m none sized stored =
      let end = subst (λ i. AllStored i at first m) none stored in
      let start : at ≡ 0 = omega (arith, end.left, sized) in
      (subst (λ n. AllStand base m ts ps (drop n bytes)) start end.stand, end.stays, end.kept)
