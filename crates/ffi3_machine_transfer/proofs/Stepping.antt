-- One more piece beside those that stand.
use Rattle.std.proofs.Common.{◌≡◌, ℕ, ◌+◌, ◌<◌, ◌≤◌, List, [], ◌∷◌, get_or, drop, length, subst, sym, ◌∙◌, ap, arith}
use Rattle.std.specs.Prelude.{true}
use Rattle.std.specs.List.{AllByRecursion}
use Rattle.std.specs.Int.{w64, from_le_bytes}
use Rattle.ffi3_type_spec.specs.Tree.{Tree}
use Rattle.ffi3_type_spec.specs.Layout.{leaves_of}
use Rattle.ffi3_type_spec.specs.Value.{ValueTree}
use Rattle.ffi3_place_spec.specs.declared.Loc.{Loc}
use Rattle.ffi3_place_spec.specs.declared.Loc.TheVariants.{G, F, S}
use Rattle.ffi3_place_spec.specs.declared.Piece.{Piece}
use Rattle.ffi3_place_spec.specs.Holds.{FillsAs, leaf_bytes}
use Rattle.ffi3_place_spec.specs.Sound.{AreApart, IsNoneOf, IsPieceOf, piece_locs, place_size}
use Rattle.ffi3_place_spec.proofs.Words.{same_bytes}
use Rattle.ffi3_place_spec.proofs.Elements.{drop_read}
use Rattle.ffi3_marshal.proofs.Stepping.{apart_drop, each_drop, each_loc, each_read, none_of_one}
use Rattle.ffi3_machine_spec.specs.State.{State}
use Rattle.ffi3_machine_transfer.specs.Stored.{IsByteOf, IsPlace, byte_of, word_in, KeepsUnused, SameAt, Stays, WroteWithin, PieceStands, IsStored}
use Rattle.ffi3_machine_transfer.specs.Runs.{goes_by_run}
use Rattle.ffi3_machine_transfer.proofs.Composing.{same_byte, stays_none, stays_then, wrote_nothing, wrote_then}
use Rattle.ffi3_machine_transfer.proofs.Tables.{each_with}
use Rattle.std.proofs.lemmas.List.{drop_all}

-- ---- pieces that still stand

pub same_word_in : (base : ℕ) (l : Loc) (a b : State) → SameAt base l a b → word_in base b l ≡ word_in base a l
same_word_in base (G r) a b s = s
same_word_in base (F r) a b s = s
same_word_in base (S n w) a b s =
    ap (from_le_bytes w64) (same_bytes (byte_of base b (S n w)) (byte_of base a (S n w)) w s)

module _ (base : ℕ) (t : Tree) where
  -- what is kept, with other places stored after or before
  pub keeps_after : (ls : List Loc) (a b c : State) (p : Piece) → IsNoneOf ls p.loc → Stays base ls a b → KeepsUnused base t b c p → KeepsUnused base t a c p
  keeps_after ls a b c p none s keeps = λ free k below unused. keeps free k below unused ∙ same_byte base p.loc a b (s.others p.loc none) k below

  pub all_keep_then : (ls : List Loc) (a b c : State) (ps : List Piece) → AllByRecursion (IsNoneOf ls) (piece_locs ps) → Stays base ls b c → AllByRecursion (KeepsUnused base t a b) ps → AllByRecursion (KeepsUnused base t a c) ps
  all_keep_then ls a b c ps none s =
      each_with (λ p. IsNoneOf ls p.loc) (KeepsUnused base t a b) (KeepsUnused base t a c) (λ p clear keeps free k below unused. same_byte base p.loc b c (s.others p.loc clear) k below ∙ keeps free k below unused) ps (each_loc (IsNoneOf ls) ps none)

  pub all_keep_after : (ls : List Loc) (a b c : State) (ps : List Piece) → AllByRecursion (IsNoneOf ls) (piece_locs ps) → Stays base ls a b → AllByRecursion (KeepsUnused base t b c) ps → AllByRecursion (KeepsUnused base t a c) ps
  all_keep_after ls a b c ps none s =
      each_with (λ p. IsNoneOf ls p.loc) (KeepsUnused base t b c) (KeepsUnused base t a c) (λ p clear keeps. keeps_after ls a b c p clear s keeps) ps (each_loc (IsNoneOf ls) ps none)

module _ (base : ℕ) (t : Tree) (v : ValueTree) where
  pub stands_stays : (ls : List Loc) (a b : State) (p : Piece) → p.len ≤ place_size p.loc → IsNoneOf ls p.loc → Stays base ls a b → PieceStands base a t v p → PieceStands base b t v p
  stands_stays ls a b p few none s stands =
      let same = s.others p.loc none in (
        λ k h. subst (IsByteOf (leaves_of t) (leaf_bytes v) (p.off + k)) (sym (same_byte base p.loc a b same k (omega (arith, h, few)))) (stands.0 k h),
        subst (λ w. FillsAs p.ext w t v) (sym (same_word_in base p.loc a b same)) stands.1,
      )

  pub all_stand_stays : (ls : List Loc) (a b : State) (ps : List Piece) → AllByRecursion (IsPieceOf t) ps → AllByRecursion (IsNoneOf ls) (piece_locs ps) → Stays base ls a b → AllByRecursion (PieceStands base a t v) ps → AllByRecursion (PieceStands base b t v) ps
  all_stand_stays ls a b [] parts none s stand = tt
  all_stand_stays ls a b (p ∷ ps) parts none s stand =
      (stands_stays ls a b p parts.0.fits none.0 s stand.0, all_stand_stays ls a b ps parts.1 none.1 s stand.1)

  -- what is so before the piece at j is stored, once it is stored
  pub record AreStored (pieces : List Piece) (j : ℕ) (first m : State) : Type 0 where
    pub stand : AllByRecursion (PieceStands base m t v) (drop j pieces)
    pub unused : AllByRecursion (KeepsUnused base t first m) (drop j pieces)
    pub stays : Stays base (piece_locs (drop j pieces)) first m
    pub within : (room : ℕ) → AllByRecursion (IsPlace room) (piece_locs pieces) → WroteWithin base (base + room) first m

  pub piece_step : (pieces : List Piece) (j : ℕ) (p : Piece) (first a b : State) → j < length pieces → p ≡ get_or pieces j p → AllByRecursion (IsPieceOf t) pieces → AreApart (piece_locs pieces) → IsStored base t v p a b → AreStored pieces (j + 1) first a → AreStored pieces j first b
  piece_step pieces j p first a b h read parts apart stored before =
      let opened = drop_read pieces j p h read in
      let apart_here = subst (λ ps. AreApart (piece_locs ps)) opened (apart_drop j pieces apart) in
      let parts_here = subst (AllByRecursion (IsPieceOf t)) opened (each_drop (IsPieceOf t) j pieces parts) in
      let clear = none_of_one p.loc (piece_locs (drop (j + 1) pieces)) apart_here.0 in
      let lies : (r : ℕ) → AllByRecursion (IsPlace r) (piece_locs pieces) → IsPlace r p.loc = λ r all. each_read (λ q. IsPlace r q.loc) pieces j p h read (each_loc (IsPlace r) pieces all) in
      record {
        stand = subst (AllByRecursion (PieceStands base b t v)) (sym opened) (stored.stands, all_stand_stays (p.loc ∷ []) a b (drop (j + 1) pieces) parts_here.1 clear stored.stays before.stand);
        unused = subst (AllByRecursion (KeepsUnused base t first b)) (sym opened) (keeps_after base t (piece_locs (drop (j + 1) pieces)) first a b p apart_here.0 before.stays stored.unused, all_keep_then base t (p.loc ∷ []) first a b (drop (j + 1) pieces) clear stored.stays before.unused);
        stays = subst (λ ps. Stays base (piece_locs ps) first b) (sym opened) (stays_then base (piece_locs (drop (j + 1) pieces)) (p.loc ∷ []) first a b before.stays stored.stays);
        within = λ r all. wrote_then base (base + r) first a b (before.within r all) (stored.within r (lies r all));
      }

  -- a piece that stands from the first on still stands before its turn
  pub given_still : (pieces : List Piece) (j : ℕ) (p : Piece) (first m : State) → j < length pieces → p ≡ get_or pieces j p → AllByRecursion (IsPieceOf t) pieces → AreApart (piece_locs pieces) → AllByRecursion (λ q. goes_by_run q.loc q.ext ≡ true → PieceStands base first t v q) pieces → AreStored pieces (j + 1) first m → goes_by_run p.loc p.ext ≡ true → PieceStands base m t v p
  given_still pieces j p first m h read parts apart given before by =
      let opened = drop_read pieces j p h read in
      let apart_here = subst (λ ps. AreApart (piece_locs ps)) opened (apart_drop j pieces apart) in
      let part = each_read (IsPieceOf t) pieces j p h read parts in
      stands_stays (piece_locs (drop (j + 1) pieces)) first m p part.fits apart_here.0 before.stays (each_read (λ q. goes_by_run q.loc q.ext ≡ true → PieceStands base first t v q) pieces j p h read given by)

  pub none_stored : (pieces : List Piece) (j : ℕ) (m : State) → length pieces ≤ j → AreStored pieces j m m
  none_stored pieces j m h =
      let none = drop_all j pieces h in record {
        stand = subst (AllByRecursion (PieceStands base m t v)) (sym none) tt;
        unused = subst (AllByRecursion (KeepsUnused base t m m)) (sym none) tt;
        stays = subst (λ ps. Stays base (piece_locs ps) m m) (sym none) (stays_none base m);
        within = λ r all. wrote_nothing base (base + r) m;
      }
