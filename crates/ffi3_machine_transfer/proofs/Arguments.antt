-- One more argument beside those that stand.
use Rattle.std.specs.Prelude.{true}
use Rattle.std.proofs.Common.{◌≡◌, ℕ, ◌+◌, ◌<◌, ◌≤◌, List, [], ◌∷◌, get_or, drop, length, subst, sym, ◌∙◌, ap, arith}
use Rattle.std.specs.List.{AllByRecursion}
use Rattle.std.proofs.lemmas.List.{drop_all, drop_more}
use Rattle.ffi3_type_spec.specs.declared.Target.{Target}
use Rattle.ffi3_type_spec.specs.Tree.{Tree, trees_of}
use Rattle.ffi3_type_spec.specs.Value.{ValueTree, void_value, all_fit, values_of}
use Rattle.ffi3_type_spec.proofs.ValueElements.{fitting_lengths}
use Rattle.ffi3_place_spec.specs.declared.Loc.{Loc}
use Rattle.ffi3_place_spec.specs.declared.Place.{Place}
use Rattle.ffi3_place_spec.specs.Sound.{IsNoneOf}
use Rattle.ffi3_type_spec.specs.declared.limits.TheConstants.{STACK}
use Rattle.ffi3_marshal.proofs.Arguments.{AtArgument, ready_length}
use Rattle.ffi3_marshal.proofs.Lawful.{each_first, each_rest, apart_across, across_none}
use Rattle.ffi3_machine_spec.specs.State.{State}
use Rattle.ffi3_machine_transfer.specs.Stored.{Stays, WroteWithin}
use Rattle.ffi3_machine_transfer.specs.Standing.{place_uses, all_uses, PlaceKeepsUnused, PlaceStands, AllKeepUnused, AllStand, AreReady}
use Rattle.ffi3_machine_transfer.proofs.Composing.{stays_none, stays_then, wrote_nothing, wrote_then}
use Rattle.ffi3_machine_transfer.proofs.Copying.{place_keeps_after, place_keeps_then, place_stays}

pub all_stay : (base : ℕ) (target : Target) (room : ℕ) (ls : List Loc) (a b : State) (ts : List Tree) (ps : List Place) (vs : List ValueTree) → STACK ≤ base → AreReady target room ts ps → AllByRecursion (IsNoneOf ls) (all_uses ts ps) → Stays base ls a b → AllStand base a ts ps vs → AllStand base b ts ps vs
all_stay base target room ls a b [] [] [] low ready none s stand = tt
all_stay base target room ls a b (t ∷ ts) (p ∷ ps) (v ∷ vs) low ready none s stand = (
  place_stays base t v p ls a b low ready.0.has_all (each_first (IsNoneOf ls) (place_uses t p) (all_uses ts ps) none) s stand.0,
  all_stay base target room ls a b ts ps vs low ready.1 (each_rest (IsNoneOf ls) (place_uses t p) (all_uses ts ps) none) s stand.1,
)
all_stay base target room ls a b _ _ _ low ready none s stand = absurd stand

-- what their places keep, with other places stored after
pub all_keep_stay : (base : ℕ) (ls : List Loc) (a b c : State) (ts : List Tree) (ps : List Place) → AllByRecursion (IsNoneOf ls) (all_uses ts ps) → Stays base ls b c → AllKeepUnused base a b ts ps → AllKeepUnused base a c ts ps
all_keep_stay base ls a b c [] [] none s keep = tt
all_keep_stay base ls a b c (t ∷ ts) (p ∷ ps) none s keep = (
  place_keeps_then base t p ls a b c (each_first (IsNoneOf ls) (place_uses t p) (all_uses ts ps) none) s keep.0,
  all_keep_stay base ls a b c ts ps (each_rest (IsNoneOf ls) (place_uses t p) (all_uses ts ps) none) s keep.1,
)
all_keep_stay base ls a b c _ _ none s keep = absurd keep

module _ (base : ℕ) (target : Target) (room : ℕ) (ts : List Tree) (ps : List Place) (vs : List ValueTree) where
  -- what is so before the argument at j - 1 is stored
  pub record AllStored (j : ℕ) (first m : State) : Type 0 where
    pub stand : AllStand base m (drop j ts) (drop j ps) (drop j vs)
    pub unused : AllKeepUnused base first m (drop j ts) (drop j ps)
    pub stays : Stays base (all_uses (drop j ts) (drop j ps)) first m
    pub within : WroteWithin base (base + room) first m

  pub none_yet : (j : ℕ) (m : State) → AreReady target room ts ps → length vs ≡ length ts → j ≡ length ts → AllStored j m m
  none_yet j m ready counted at_end =
      let no_type = drop_all j ts (omega (arith, at_end)) in
      let no_place = drop_all j ps (omega (arith, at_end, ready_length target room ts ps ready)) in
      let no_value = drop_all j vs (omega (arith, at_end, counted)) in
      record {
        stand = rw (no_type, no_place, no_value) tt;
        unused = rw (no_type, no_place) tt;
        stays = rw no_type (stays_none base m);
        within = wrote_nothing base (base + room) m;
      }

  pub argument_step : (j : ℕ) (t : Tree) (p : Place) (v : ValueTree) (first a b : State) → STACK ≤ base → AtArgument target room ts ps j t p → drop j vs ≡ v ∷ drop (j + 1) vs → PlaceStands base b t v p → PlaceKeepsUnused base t a b p → Stays base (place_uses t p) a b → WroteWithin base (base + room) a b → AllStored (j + 1) first a → AllStored j first b
  argument_step j t p v first a b low here values stands keeps stays within before =
      let across = apart_across (place_uses t p) (all_uses (drop (j + 1) ts) (drop (j + 1) ps)) here.apart in
      let clear = across_none (place_uses t p) (all_uses (drop (j + 1) ts) (drop (j + 1) ps)) across in
      let kept = all_stay base target room (place_uses t p) a b (drop (j + 1) ts) (drop (j + 1) ps) (drop (j + 1) vs) low here.rest_ready clear stays before.stand in
      let kept_here = place_keeps_after base t p (all_uses (drop (j + 1) ts) (drop (j + 1) ps)) first a b across before.stays keeps in
      let kept_rest = all_keep_stay base (place_uses t p) first a b (drop (j + 1) ts) (drop (j + 1) ps) clear stays before.unused in
      let types = here.types in
      let places = here.places in
      record {
        stand = subst (λ us. AllStand base b us (drop j ps) (drop j vs)) (sym types) (subst (λ qs. AllStand base b (t ∷ drop (j + 1) ts) qs (drop j vs)) (sym places) (subst (λ ws. AllStand base b (t ∷ drop (j + 1) ts) (p ∷ drop (j + 1) ps) ws) (sym values) (stands, kept)));
        unused = subst (λ us. AllKeepUnused base first b us (drop j ps)) (sym types) (subst (λ qs. AllKeepUnused base first b (t ∷ drop (j + 1) ts) qs) (sym places) (kept_here, kept_rest));
        stays = subst (λ us. Stays base (all_uses us (drop j ps)) first b) (sym types) (subst (λ qs. Stays base (all_uses (t ∷ drop (j + 1) ts) qs) first b) (sym places) (stays_then base (all_uses (drop (j + 1) ts) (drop (j + 1) ps)) (place_uses t p) first a b before.stays stays));
        within = wrote_then base (base + room) first a b before.within within;
      }

-- the value at j
pub value_read : (ts : List Tree) (vs : List ValueTree) (j : ℕ) (v : ValueTree) → all_fit (trees_of ts) (values_of vs) ≡ true → j < length ts → v ≡ get_or vs j void_value → drop j vs ≡ v ∷ drop (j + 1) vs
value_read ts vs j v fit below is =
    drop_more vs j void_value (omega (arith, below, fitting_lengths ts vs fit)) ∙ ap (λ w. w ∷ drop (j + 1) vs) (sym is)
