-- One more piece beside those that stand.
use Rattle.std.proofs.Common.{◌≡◌, ℕ, suc, ◌+◌, ◌<◌, ◌≤◌, List, [], ◌∷◌, get_or, drop, length, subst, sym, ◌∙◌, arith}
use Rattle.std.specs.List.{AllByRecursion}
use Rattle.std.proofs.lemmas.List.{drop_all}
use Rattle.ffi3_type_spec.specs.Tree.{Tree}
use Rattle.ffi3_type_spec.specs.Value.{value_in}
use Rattle.ffi3_place_spec.specs.declared.Loc.{Loc}
use Rattle.ffi3_place_spec.specs.declared.Piece.{Piece}
use Rattle.ffi3_place_spec.specs.Image.{Image}
use Rattle.ffi3_place_spec.specs.Holds.{FillsAs}
use Rattle.ffi3_place_spec.specs.Sound.{Apart, AreApart, IsNoneOf, IsPieceOf, piece_locs, place_size}
use Rattle.ffi3_place_spec.proofs.Elements.{drop_read}
use Rattle.ffi3_place_spec.proofs.Tests.{each_at}
use Rattle.ffi3_marshal.specs.Stored.{KeepsAbove, PieceStands, Stays, IsStored}
use Rattle.ffi3_marshal.proofs.Composing.{apart_sym, same_byte, same_word_at, stays_none, stays_then}

-- ---- lists

pub each_read : {X : Type 0} (P : X → Type 0) (xs : List X) (i : ℕ) (x : X) → i < length xs → x ≡ get_or xs i x → AllByRecursion P xs → P x
each_read P xs i x h e all = each_at P xs i x h (sym e) all

pub each_drop : {X : Type 0} (P : X → Type 0) (j : ℕ) (xs : List X) → AllByRecursion P xs → AllByRecursion P (drop j xs)
each_drop P (suc j) (x ∷ xs) h = each_drop P j xs h.1
each_drop P _ _ h = h

pub each_loc : (P : Loc → Type 0) (ps : List Piece) → AllByRecursion P (piece_locs ps) → AllByRecursion (λ p. P p.loc) ps
each_loc P [] h = tt
each_loc P (p ∷ ps) h = (h.0, each_loc P ps h.1)

pub apart_drop : (j : ℕ) (ps : List Piece) → AreApart (piece_locs ps) → AreApart (piece_locs (drop j ps))
apart_drop (suc j) (p ∷ ps) h = apart_drop j ps h.1
apart_drop _ _ h = h

pub none_of_one : (l : Loc) (ls : List Loc) → AllByRecursion (Apart l) ls → AllByRecursion (IsNoneOf (l ∷ [])) ls
none_of_one l [] h = tt
none_of_one l (k ∷ ls) h = ((apart_sym l k h.0, tt), none_of_one l ls h.1)

module _ (base : ℕ) where
  -- what a piece's place keeps it keeps after stores elsewhere
  pub all_keep : (ls : List Loc) (o a b : Image) (ps : List Piece) → AllByRecursion (IsNoneOf ls) (piece_locs ps) → Stays base ls a b → AllByRecursion (KeepsAbove base o a) ps → AllByRecursion (KeepsAbove base o b) ps
  all_keep ls o a b [] none s keep = tt
  all_keep ls o a b (p ∷ ps) none s keep =
      (λ free k from below. same_byte base p.loc a b (s.others p.loc none.0) k below ∙ keep.0 free k from below, all_keep ls o a b ps none.1 s keep.1)

  pub all_since : (ls : List Loc) (o a b : Image) (ps : List Piece) → AllByRecursion (IsNoneOf ls) (piece_locs ps) → Stays base ls o a → AllByRecursion (KeepsAbove base a b) ps → AllByRecursion (KeepsAbove base o b) ps
  all_since ls o a b [] none s keep = tt
  all_since ls o a b (p ∷ ps) none s keep =
      (λ free k from below. keep.0 free k from below ∙ same_byte base p.loc o a (s.others p.loc none.0) k below, all_since ls o a b ps none.1 s keep.1)

module _ (base : ℕ) (t : Tree) (bytes : List ℕ) where
  stands_stays : (ls : List Loc) (a b : Image) (p : Piece) → p.len ≤ place_size p.loc → IsNoneOf ls p.loc → Stays base ls a b → PieceStands base a t bytes p → PieceStands base b t bytes p
  stands_stays ls a b p few none s stands =
      let same = s.others p.loc none in record {
        held = λ k h. same_byte base p.loc a b same k (omega (arith, h, few)) ∙ stands.held k h;
        filled = subst (λ w. FillsAs p.ext w t (value_in t bytes)) (sym (same_word_at base p.loc a b same)) stands.filled;
      }

  pub all_stand_stays : (ls : List Loc) (a b : Image) (ps : List Piece) → AllByRecursion (IsPieceOf t) ps → AllByRecursion (IsNoneOf ls) (piece_locs ps) → Stays base ls a b → AllByRecursion (PieceStands base a t bytes) ps → AllByRecursion (PieceStands base b t bytes) ps
  all_stand_stays ls a b [] parts none s stand = tt
  all_stand_stays ls a b (p ∷ ps) parts none s stand =
      (stands_stays ls a b p parts.0.fits none.0 s stand.0, all_stand_stays ls a b ps parts.1 none.1 s stand.1)

  -- what is so before the piece at j - 1 is stored
  pub record AreStored (pieces : List Piece) (j : ℕ) (first m : Image) : Type 0 where
    pub stand : AllByRecursion (PieceStands base m t bytes) (drop j pieces)
    pub stays : Stays base (piece_locs (drop j pieces)) first m
    pub kept : AllByRecursion (KeepsAbove base first m) (drop j pieces)

  pub piece_step : (pieces : List Piece) (j : ℕ) (p : Piece) (first a b : Image) → j < length pieces → p ≡ get_or pieces j p → AllByRecursion (IsPieceOf t) pieces → AreApart (piece_locs pieces) → IsStored base t bytes p a b → AreStored pieces (j + 1) first a → AreStored pieces j first b
  piece_step pieces j p first a b h read parts apart stored before =
      let opened = drop_read pieces j p h read in
      let apart_here = subst (λ ps. AreApart (piece_locs ps)) opened (apart_drop j pieces apart) in
      let parts_here = subst (AllByRecursion (IsPieceOf t)) opened (each_drop (IsPieceOf t) j pieces parts) in
      let clear = none_of_one p.loc (piece_locs (drop (j + 1) pieces)) apart_here.0 in
      record {
        stand = subst (AllByRecursion (PieceStands base b t bytes)) (sym opened) (stored.stands, all_stand_stays (p.loc ∷ []) a b (drop (j + 1) pieces) parts_here.1 clear stored.stays before.stand);
        stays = subst (λ ps. Stays base (piece_locs ps) first b) (sym opened) (stays_then base (piece_locs (drop (j + 1) pieces)) (p.loc ∷ []) first a b before.stays stored.stays);
        kept = subst (AllByRecursion (KeepsAbove base first b)) (sym opened) (λ free k from below. stored.kept free k from below ∙ same_byte base p.loc first a (before.stays.others p.loc apart_here.0) k below, all_keep base (p.loc ∷ []) first a b (drop (j + 1) pieces) clear stored.stays before.kept);
      }

  pub none_stored : (pieces : List Piece) (j : ℕ) (m : Image) → length pieces ≤ j → AreStored pieces j m m
  none_stored pieces j m h =
      let none = drop_all j pieces h in record {
        stand = subst (AllByRecursion (PieceStands base m t bytes)) (sym none) tt;
        stays = subst (λ ps. Stays base (piece_locs ps) m m) (sym none) (stays_none base m);
        kept = subst (AllByRecursion (KeepsAbove base m m)) (sym none) tt;
      }

  pub all_stored : (pieces : List Piece) (j : ℕ) (first m : Image) → j ≡ 0 → AreStored pieces j first m → AreStored pieces 0 first m
  all_stored pieces j first m none stored = subst (λ i. AreStored pieces i first m) none stored
