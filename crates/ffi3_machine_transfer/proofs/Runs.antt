-- The runs of an argument's bytes on the stack, and the pieces that they are made of.
use Rattle.std.proofs.Common.{◌≡◌, ◌⊎◌, inl, inr, ℕ, zero, suc, ◌+◌, ◌-◌, ◌<◌, ◌≤◌, List, [], ◌∷◌, drop, refl, sym, ◌∙◌, subst, arith}
use Rattle.std.specs.List.{AllByRecursion}
use Rattle.ffi3_type_spec.specs.Tree.{Tree}
use Rattle.ffi3_type_spec.specs.Layout.{size_of}
use Rattle.ffi3_place_spec.specs.declared.Loc.{Loc}
use Rattle.ffi3_place_spec.specs.declared.Loc.TheVariants.{G, F, S}
use Rattle.ffi3_place_spec.specs.declared.Piece.{Piece}
use Rattle.ffi3_place_spec.specs.Sound.{Apart, AreApart, IsNoneOf, IsPieceOf, piece_locs, place_size}
use Rattle.ffi3_cif.specs.declared.runs.Run.{Run}
use Rattle.ffi3_cif.specs.Runs.{AreRunsOf, Neighbours, OneCopies, Rises, run_at, run_then, stack_runs}
use Rattle.ffi3_marshal.proofs.Lawful.{each_map}
use Rattle.ffi3_machine_transfer.specs.Stored.{IsPlace}
use Rattle.ffi3_machine_transfer.specs.Runs.{RunLies}

-- by a piece on the stack, or by one of the rest
pub by_piece : (Q : Type 0) (at off : ℕ) (l : Loc) (p : Piece) (rest : List Run) → ((n w : ℕ) → l ≡ S n w → n ≤ at → at < n + p.len → off + n ≡ p.off + at → Q) → (OneCopies at off rest → Q) → OneCopies at off (run_then (run_at l p) rest) → Q
by_piece Q at off (S n w) p rest f g (inl c) = f n w refl c.from c.to c.same
by_piece Q at off (S n w) p rest f g (inr c) = g c
by_piece Q at off (G r) p rest f g c = g c
by_piece Q at off (F r) p rest f g c = g c

pub behind_piece : (at off : ℕ) (l : Loc) (p : Piece) (rest : List Run) → OneCopies at off rest → OneCopies at off (run_then (run_at l p) rest)
behind_piece at off (S n w) p rest c = inr c
behind_piece at off (G r) p rest c = c
behind_piece at off (F r) p rest c = c

first_piece : (n w k : ℕ) (l : Loc) (p : Piece) (rest : List Run) → l ≡ S n w → k < p.len → OneCopies (n + k) (p.off + k) (run_then (run_at l p) rest)
first_piece n w k l p rest is h = subst (λ q. OneCopies (n + k) (p.off + k) (run_then (run_at q p) rest)) (sym is) (inl (record { from = omega arith; to = omega (arith, h); same = omega arith }))

same_place : (n v m w : ℕ) → S n v ≡ S m w → (n ≡ m) × (v ≡ w)
same_place n v m w e = (cc, cc)

-- each byte of a piece on the stack is copied
abbrev pub IsRunCopied : List Run → Piece → Type 0
IsRunCopied runs p = (n w k : ℕ) → p.loc ≡ S n w → k < p.len → OneCopies (n + k) (p.off + k) runs

each_copied : (pieces : List Piece) → AllByRecursion (IsRunCopied (stack_runs pieces)) pieces
each_copied [] = tt
each_copied (p ∷ ps) =
    (λ n w k is h. first_piece n w k p.loc p (stack_runs ps) is h, each_map (IsRunCopied (stack_runs ps)) (IsRunCopied (run_then (run_at p.loc p) (stack_runs ps))) (λ q copied n w k is h. behind_piece (n + k) (q.off + k) p.loc p (stack_runs ps) (copied n w k is h)) ps (each_copied ps))

pub all_copied_by : (pieces : List Piece) (runs : List Run) → AreRunsOf pieces runs → AllByRecursion (IsRunCopied runs) pieces
all_copied_by pieces runs are =
    each_map (IsRunCopied (stack_runs pieces)) (IsRunCopied runs) (λ q copied n w k is h. are.has_each (n + k) (q.off + k) (copied n w k is h)) pieces (each_copied pieces)

-- ---- where nothing is copied

-- the piece has no more bytes than its place
len_in : (t : Tree) (p : Piece) (n w : ℕ) → IsPieceOf t p → p.loc ≡ S n w → p.len ≤ w
len_in t p n w part is = subst (λ l. p.len ≤ place_size l) is part.fits

-- bytes of a place that is none of the pieces'
pub clear_of_pieces : (t : Tree) (q w k off : ℕ) (pieces : List Piece) → AllByRecursion (IsPieceOf t) pieces → IsNoneOf (piece_locs pieces) (S q w) → k < w → ¬ OneCopies (q + k) off (stack_runs pieces)
clear_of_pieces t q w k off [] parts none h c = c
clear_of_pieces t q w k off (p ∷ ps) parts none h c =
    by_piece ⊥ (q + k) off p.loc p (stack_runs ps) (λ n u is from to same. far n u (len_in t p n u parts.0 is) from to (subst (Apart (S q w)) is none.0)) (clear_of_pieces t q w k off ps parts.1 none.1 h) c
  where
    far : (n u : ℕ) → p.len ≤ u → n ≤ q + k → q + k < n + p.len → (q + w ≤ n) ⊎ (n + u ≤ q) → ⊥
    far n u fits from to (inl below) = omega (arith, h, from, below)
    far n u fits from to (inr above) = omega (arith, to, above, fits)

-- the bytes of a piece's place above the piece
abbrev pub IsClearAbove : List Run → Piece → Type 0
IsClearAbove runs p = (n w k off : ℕ) → p.loc ≡ S n w → p.len ≤ k → k < w → ¬ OneCopies (n + k) off runs

clear_before : (t : Tree) (p : Piece) (rest : List Run) (qs : List Piece) → IsPieceOf t p → AllByRecursion (Apart p.loc) (piece_locs qs) → AllByRecursion (IsClearAbove rest) qs → AllByRecursion (IsClearAbove (run_then (run_at p.loc p) rest)) qs
clear_before t p rest [] part apart all = tt
clear_before t p rest (q ∷ qs) part apart all = (one, clear_before t p rest qs part apart.1 all.1)
  where
    far : (n u m w k : ℕ) → p.len ≤ u → k < w → n ≤ m + k → m + k < n + p.len → (n + u ≤ m) ⊎ (m + w ≤ n) → ⊥
    far n u m w k fits h from to (inl below) = omega (arith, to, below, fits)
    far n u m w k fits h from to (inr above) = omega (arith, h, from, above)

    one : IsClearAbove (run_then (run_at p.loc p) rest) q
    one m w k off is above below c =
        by_piece ⊥ (m + k) off p.loc p rest (λ n u here from to same. far n u m w k (len_in t p n u part here) below from to (subst (λ l. Apart l (S m w)) here (subst (Apart p.loc) is apart.0))) (all.0 m w k off is above below) c

each_clear : (t : Tree) (pieces : List Piece) → AllByRecursion (IsPieceOf t) pieces → AreApart (piece_locs pieces) → AllByRecursion (IsClearAbove (stack_runs pieces)) pieces
each_clear t [] parts apart = tt
each_clear t (p ∷ ps) parts apart = (one, clear_before t p (stack_runs ps) ps parts.0 apart.0 (each_clear t ps parts.1 apart.1))
  where
    one : IsClearAbove (stack_runs (p ∷ ps)) p
    one n w k off is above below c =
        by_piece ⊥ (n + k) off p.loc p (stack_runs ps) (λ m u here from to same. let e = (same_place n w m u (sym is ∙ here)).0 in omega (arith, to, e, above)) (clear_of_pieces t n w k off ps parts.1 (subst (λ l. AllByRecursion (Apart l) (piece_locs ps)) is apart.0) below) c

pub all_clear_above : (t : Tree) (pieces : List Piece) (runs : List Run) → AllByRecursion (IsPieceOf t) pieces → AreApart (piece_locs pieces) → AreRunsOf pieces runs → AllByRecursion (IsClearAbove runs) pieces
all_clear_above t pieces runs parts apart are =
    each_map (IsClearAbove (stack_runs pieces)) (IsClearAbove runs) (λ q clear n w k off is above below c. clear n w k off is above below (are.has_no_other (n + k) off c)) pieces (each_clear t pieces parts apart)

-- ---- where runs lie

copied_within : (t : Tree) (room at off : ℕ) (pieces : List Piece) → AllByRecursion (IsPieceOf t) pieces → AllByRecursion (IsPlace room) (piece_locs pieces) → OneCopies at off (stack_runs pieces) → (at < room) × (off < size_of t)
copied_within t room at off [] parts lie c = absurd c
copied_within t room at off (p ∷ ps) parts lie c =
    by_piece ((at < room) × (off < size_of t)) at off p.loc p (stack_runs ps) here (copied_within t room at off ps parts.1 lie.1) c
  where
    here : (n w : ℕ) → p.loc ≡ S n w → n ≤ at → at < n + p.len → off + n ≡ p.off + at → (at < room) × (off < size_of t)
    here n w is from to same =
        let fits = len_in t p n w parts.0 is in
        let within = parts.0.within in
        let lies = subst (IsPlace room) is lie.0 in
        (omega (arith, to, fits, lies.0), omega (arith, from, to, same, within))

each_lies : (room size : ℕ) (rs : List Run) → ((at off : ℕ) → OneCopies at off rs → (at < room) × (off < size)) → AllByRecursion (λ r. 0 < r.len) rs → AllByRecursion (RunLies room size) rs
each_lies room size [] f some = tt
each_lies room size (r ∷ rs) f some =
    let last = f (r.at + (r.len - 1)) (r.off + (r.len - 1)) (inl (record { from = omega arith; to = omega (arith, some.0); same = omega arith })) in
    ((omega (arith, last.0, some.0), omega (arith, last.1, some.0)), each_lies room size rs (λ at off c. f at off (inr c)) some.1)

pub runs_lie : (t : Tree) (room : ℕ) (pieces : List Piece) (runs : List Run) → AllByRecursion (IsPieceOf t) pieces → AllByRecursion (IsPlace room) (piece_locs pieces) → AreRunsOf pieces runs → AllByRecursion (RunLies room (size_of t)) runs
runs_lie t room pieces runs parts lie are =
    each_lies room (size_of t) runs (λ at off c. copied_within t room at off pieces parts lie (are.has_no_other at off c)) are.some_bytes

pub runs_lie_wider : (room small size : ℕ) (rs : List Run) → small ≤ size → AllByRecursion (RunLies room small) rs → AllByRecursion (RunLies room size) rs
runs_lie_wider room small size rs h = each_map (RunLies room small) (RunLies room size) (λ r lies. (lies.0, omega (arith, h, lies.1))) rs

-- ---- runs that rise

-- every later run begins where the first ends, or higher, on the stack and in the value
pub rises_to : (r : Run) (rs : List Run) (at off : ℕ) → Neighbours Rises (r ∷ rs) → OneCopies at off rs → (r.at + r.len ≤ at) × (r.off + r.len ≤ off)
rises_to r [] at off rise c = absurd c
rises_to r (n ∷ ns) at off rise (inl c) =
    let up = rise.0 in
    (omega (arith, up.at, c.from), omega (arith, up.off, c.from, c.same))
rises_to r (n ∷ ns) at off rise (inr c) =
    let up = rise.0 in
    let rest = rises_to n ns at off rise.1 c in
    (omega (arith, up.at, rest.0), omega (arith, up.off, rest.1))

pub rising_drop : (i : ℕ) (rs : List Run) → Neighbours Rises rs → Neighbours Rises (drop i rs)
rising_drop zero rs rise = rise
rising_drop (suc i) [] rise = rise
rising_drop (suc i) (r ∷ []) rise = rising_drop i [] tt
rising_drop (suc i) (r ∷ n ∷ ns) rise = rising_drop i (n ∷ ns) rise.1
