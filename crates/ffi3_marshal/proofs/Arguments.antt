-- The arguments of a call, one after another, and what the laws of a standard say of each.
use Rattle.std.specs.Prelude.{slice_get, Some}
use Rattle.std.proofs.Common.{◌≡◌, ℕ, suc, zero, ◌+◌, ◌<◌, ◌≤◌, List, [], ◌∷◌, ◌++◌, drop, length, subst, sym, refl, ap, arith}
use Rattle.std.specs.List.{AllByRecursion}
use Rattle.std.proofs.lemmas.Option.{get_or_from_slice_get, slice_get_within}
use Rattle.ffi3_type_spec.specs.declared.Target.{Target}
use Rattle.ffi3_type_spec.specs.Tree.{Tree, tree_at}
use Rattle.ffi3_type_spec.specs.Signature.{Signature, SignatureHasNoFault, SignatureIsPlaced}
use Rattle.ffi3_place_spec.specs.declared.Loc.{Loc}
use Rattle.ffi3_place_spec.specs.declared.Loc.TheVariants.{S}
use Rattle.ffi3_place_spec.specs.declared.Place.{Place}
use Rattle.ffi3_place_spec.specs.declared.Place.TheVariants.{Direct, ByRef}
use Rattle.ffi3_place_spec.specs.Image.{Image}
use Rattle.ffi3_place_spec.specs.Agrees.{AgreesWithMachine}
use Rattle.ffi3_place_spec.specs.Standard.{Standard, plan_of, frame_of}
use Rattle.ffi3_place_spec.specs.Sound.{AreApart, IsNoneOf, IsSound, argument_locs, piece_locs}
use Rattle.ffi3_place_spec.proofs.Elements.{drop_read, argument_read}
use Rattle.ffi3_marshal.specs.Stored.{IsPlaceIn, IsWritable, Stays}
use Rattle.ffi3_marshal.specs.Standing.{place_uses, all_uses, AreReady, IsReadyIn, AreReadyIn, PlaceLies, PlaceLiesIn, PlacesKeep}
use Rattle.ffi3_marshal.proofs.Copying.{place_keeps}
use Rattle.ffi3_marshal.proofs.Lawful.{each_first, each_rest, apart_rest, all_ready, any_ready, all_apart, written_by_law}

pub place_read : {X : Type 0} (xs : List X) (i : ℕ) (x : X) → slice_get xs i ≡ Some x → drop i xs ≡ x ∷ drop (i + 1) xs
place_read xs i x is = drop_read xs i x (slice_get_within xs i x is) (sym (get_or_from_slice_get xs i x x is))

module _ (f : ℕ) (target : Target) (room : ℕ) where
  pub ready_length_in : (ts : List Tree) (ps : List Place) → AreReadyIn f target room ts ps → length ps ≡ length ts
  ready_length_in [] [] h = refl
  ready_length_in (t ∷ ts) (p ∷ ps) h = ap suc (ready_length_in ts ps h.1)
  ready_length_in _ _ h = absurd h

  ready_drop : (j : ℕ) (ts : List Tree) (ps : List Place) → AreReadyIn f target room ts ps → AreReadyIn f target room (drop j ts) (drop j ps)
  ready_drop zero ts ps h = h
  ready_drop (suc j) [] [] h = tt
  ready_drop (suc j) (t ∷ ts) (p ∷ ps) h = ready_drop j ts ps h.1
  ready_drop (suc j) _ _ h = absurd h

  uses_drop : (j : ℕ) (ts : List Tree) (ps : List Place) → AreReadyIn f target room ts ps → AreApart (all_uses ts ps) → AreApart (all_uses (drop j ts) (drop j ps))
  uses_drop zero ts ps ready h = h
  uses_drop (suc j) [] [] ready h = h
  uses_drop (suc j) (t ∷ ts) (p ∷ ps) ready h = uses_drop j ts ps ready.1 (apart_rest (place_uses t p) (all_uses ts ps) h)
  uses_drop (suc j) _ _ ready h = absurd ready

pub ready_length : (target : Target) (room : ℕ) (ts : List Tree) (ps : List Place) → AreReady target room ts ps → length ps ≡ length ts
ready_length = ready_length_in 32

-- what their places keep they keep
pub places_keep : (base : ℕ) (ls : List Loc) (o a b : Image) (ts : List Tree) (ps : List Place) → AllByRecursion (IsNoneOf ls) (all_uses ts ps) → Stays base ls a b → PlacesKeep base o a ts ps → PlacesKeep base o b ts ps
places_keep base ls o a b (t ∷ ts) (p ∷ ps) none s keep = (
  place_keeps base t p ls o a b (each_first (IsNoneOf ls) (place_uses t p) (all_uses ts ps) none) s keep.0,
  places_keep base ls o a b ts ps (each_rest (IsNoneOf ls) (place_uses t p) (all_uses ts ps) none) s keep.1,
)
places_keep base ls o a b _ _ none s keep = tt

module _ (f : ℕ) (target : Target) (room : ℕ) (ts : List Tree) (ps : List Place) where
  -- what is known of the argument at j
  pub record AtArgumentIn (j : ℕ) (t : Tree) (p : Place) : Type 0 where
    pub types : drop j ts ≡ t ∷ drop (j + 1) ts
    pub places : drop j ps ≡ p ∷ drop (j + 1) ps
    pub ready : IsReadyIn f target room t p
    pub rest_ready : AreReadyIn f target room (drop (j + 1) ts) (drop (j + 1) ps)
    pub apart : AreApart (place_uses t p ++ all_uses (drop (j + 1) ts) (drop (j + 1) ps))

  pub at_argument : (j : ℕ) (t : Tree) (p : Place) → AreReadyIn f target room ts ps → AreApart (all_uses ts ps) → drop j ts ≡ t ∷ drop (j + 1) ts → drop j ps ≡ p ∷ drop (j + 1) ps → AtArgumentIn j t p
  at_argument j t p ready apart types places =
      let ready_here = subst (λ us. AreReadyIn f target room us (p ∷ drop (j + 1) ps)) types (subst (AreReadyIn f target room (drop j ts)) places (ready_drop f target room j ts ps ready)) in
      let apart_here = subst (λ us. AreApart (all_uses us (p ∷ drop (j + 1) ps))) types (subst (λ qs. AreApart (all_uses (drop j ts) qs)) places (uses_drop f target room j ts ps ready apart)) in
      record { types = types; places = places; ready = ready_here.0; rest_ready = ready_here.1; apart = apart_here }

abbrev pub AtArgument : Target → ℕ → List Tree → List Place → ℕ → Tree → Place → Type 0
AtArgument = AtArgumentIn 32

module _ (f : ℕ) where
  all_more : (n m : ℕ) → n ≤ m → (ls : List Loc) → AllByRecursion (IsPlaceIn f n) ls → AllByRecursion (IsPlaceIn f m) ls
  all_more n m h [] all = tt
  all_more n m h (S k w ∷ ls) all = ((omega (arith, h, all.0.0), all.0.1, all.0.2), all_more n m h ls all.1)
  all_more n m h (_ ∷ ls) all = (all.0, all_more n m h ls all.1)

  one_more : (n m : ℕ) → n ≤ m → (l : Loc) → IsPlaceIn f n l → IsPlaceIn f m l
  one_more n m h (S k w) lies = (omega (arith, h, lies.0), lies.1, lies.2)
  one_more n m h _ lies = lies

  pub lies_more_in : (n m : ℕ) (t : Tree) (p : Place) → n ≤ m → PlaceLiesIn f n t p → PlaceLiesIn f m t p
  lies_more_in n m t (Direct pieces) h lies = all_more n m h (piece_locs pieces) lies
  lies_more_in n m t (ByRef at copy) h lies = (one_more n m h at lies.0, omega (arith, h, lies.1))

pub lies_more : (n m : ℕ) (t : Tree) (p : Place) → n ≤ m → PlaceLies n t p → PlaceLies m t p
lies_more = lies_more_in 32

-- what the laws say of the argument at j
module _ (std : Standard) (s : Signature) (sound : IsSound std s) (agrees : AgreesWithMachine std) where
  abbrev written : AllByRecursion (IsWritable std.target) (argument_locs (plan_of std s))
  written = written_by_law std s sound agrees std.target std.target refl refl

  at_argument_here : (f : ℕ) → AreReadyIn f std.target (frame_of std s) s.arguments (plan_of std s).places → (j : ℕ) (t : Tree) (p : Place) → j < length s.arguments → t ≡ tree_at s.arguments j → slice_get (plan_of std s).places j ≡ Some p → AtArgumentIn f std.target (frame_of std s) s.arguments (plan_of std s).places j t p
  at_argument_here f ready j t p below type_is place_is =
      at_argument f std.target (frame_of std s) s.arguments (plan_of std s).places j t p ready (all_apart std s sound) (argument_read s.arguments j t below type_is) (place_read (plan_of std s).places j p place_is)

  -- of a signature that can be placed
  module _ (right : SignatureIsPlaced s) where
    pub any_ready_all : AreReadyIn 40 std.target (frame_of std s) s.arguments (plan_of std s).places
    any_ready_all = any_ready std s sound right std.target written

    pub any_argument : (j : ℕ) (t : Tree) (p : Place) → j < length s.arguments → t ≡ tree_at s.arguments j → slice_get (plan_of std s).places j ≡ Some p → AtArgumentIn 40 std.target (frame_of std s) s.arguments (plan_of std s).places j t p
    any_argument = at_argument_here 40 any_ready_all

-- of one that can be called
module _ (std : Standard) (s : Signature) (sound : IsSound std s) (right : SignatureHasNoFault s) (agrees : AgreesWithMachine std) where
  pub ready_all : AreReady std.target (frame_of std s) s.arguments (plan_of std s).places
  ready_all = all_ready std s sound right std.target (written std s sound agrees)

  pub lawful_argument : (j : ℕ) (t : Tree) (p : Place) → j < length s.arguments → t ≡ tree_at s.arguments j → slice_get (plan_of std s).places j ≡ Some p → AtArgument std.target (frame_of std s) s.arguments (plan_of std s).places j t p
  lawful_argument = at_argument_here std s sound agrees 32 ready_all
