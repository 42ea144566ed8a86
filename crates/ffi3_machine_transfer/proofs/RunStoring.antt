-- Runs of a value's bytes, stored one after another.
use Rattle.std.specs.Prelude.{true}
use Rattle.std.proofs.Common.{◌≡◌, ◌⊎◌, inl, inr, ℕ, ◌+◌, ◌-◌, ◌<◌, ◌≤◌, List, ◌∷◌, ◌++◌, take, drop, get_or, length, length-append, length-take, length-drop, refl, ap, sym, ◌∙◌, subst, arith}
use Rattle.std.specs.List.{AllByRecursion}
use Rattle.std.specs.Int.{w64, to_le_bytes}
use Rattle.std.proofs.lemmas.Bool.{cases_lt}
use Rattle.std.proofs.lemmas.List.{drop_all}
use Rattle.ffi3_type_spec.specs.Tree.{Tree}
use Rattle.ffi3_type_spec.specs.Layout.{leaves_of, size_of}
use Rattle.ffi3_type_spec.specs.Value.{ValueTree, IsPadding, IsWritten}
use Rattle.ffi3_type_spec.proofs.Parts.{index_part, inside_part, length_part}
use Rattle.ffi3_place_spec.specs.declared.Loc.{Loc}
use Rattle.ffi3_place_spec.specs.declared.Loc.TheVariants.{G, F, S}
use Rattle.ffi3_place_spec.specs.declared.Ext.{Ext}
use Rattle.ffi3_place_spec.specs.declared.Ext.TheVariants.{Free}
use Rattle.ffi3_place_spec.specs.declared.Piece.{Piece}
use Rattle.ffi3_place_spec.specs.Holds.{FillsAs, leaf_bytes}
use Rattle.ffi3_place_spec.specs.Sound.{IsNoneOf, IsPieceOf, piece_locs, place_size}
use Rattle.ffi3_place_spec.proofs.Elements.{drop_read}
use Rattle.ffi3_cif.specs.declared.runs.Run.{Run}
use Rattle.ffi3_cif.specs.Runs.{AreRunsOf, Copies, Neighbours, OneCopies, Rises}
use Rattle.ffi3_type_spec.specs.declared.limits.TheConstants.{STACK}
use Rattle.ffi3_machine_spec.specs.State.{State, stack_at, stored}
use Rattle.ffi3_machine_transfer.specs.Stored.{IsByteOf, IsPlace, KeepsUnused, PieceStands, SameAt, Stays, WroteOnly, byte_of, stack_byte, word_in}
use Rattle.ffi3_machine_transfer.specs.Runs.{AreRunsStored, IsRunStored, goes_by_run}
use Rattle.ffi3_machine_transfer.proofs.Composing.{only_nothing, only_then, only_wider, same_then}
use Rattle.ffi3_machine_transfer.proofs.Putting.{only_stored, stored_inside}
use Rattle.ffi3_machine_transfer.proofs.Reading.{value_byte}
use Rattle.ffi3_marshal.proofs.Lawful.{each_map}
use Rattle.ffi3_marshal.proofs.Stepping.{each_loc}
use Rattle.ffi3_machine_transfer.proofs.Tables.{each_with}
use Rattle.ffi3_machine_transfer.proofs.Runs.{IsClearAbove, IsRunCopied, clear_of_pieces, rises_to, rising_drop}

-- ---- pieces that go by runs

goes : (Q : Type 0) (l : Loc) (e : Ext) → goes_by_run l e ≡ true → ((n w : ℕ) → l ≡ S n w → e ≡ Free → Q) → Q
goes Q (S n w) Free h f = f n w refl refl
goes Q _ _ h f = cc

-- a register does not
pub registers_given : (base : ℕ) (t : Tree) (v : ValueTree) (m : State) (ps : List Piece) → AllByRecursion (IsPlace 0) (piece_locs ps) → AllByRecursion (λ p. goes_by_run p.loc p.ext ≡ true → PieceStands base m t v p) ps
registers_given base t v m ps lie =
    each_map (λ p. IsPlace 0 p.loc) (λ p. goes_by_run p.loc p.ext ≡ true → PieceStands base m t v p) (λ p lies by. goes (PieceStands base m t v p) p.loc p.ext by (λ n w here free. absurd (no_stack n w (subst (IsPlace 0) here lies)))) ps (each_loc (IsPlace 0) ps lie)
  where
    no_stack : (n w : ℕ) → IsPlace 0 (S n w) → ⊥
    no_stack n w h = omega (arith, h.0, h.1)

-- ---- one run

parts_length : (first here : List ℕ) (off len size : ℕ) → length here ≡ len → length first ≡ size → off + len ≤ size → length (take off first ++ (here ++ drop len (drop off first))) ≡ size
parts_length first here off len size many sized within = simp (length-append, length-take, length-drop) (omega (arith, many, sized, within))

-- what stood there is read, the value is written over it, and the run is put back
pub run_stored : (base : ℕ) (t : Tree) (v : ValueTree) (first loaded bytes here : List ℕ) (r : Run) (old : State) → STACK ≤ base → base - STACK + (r.at + r.len) ≤ length old.stack → length first ≡ size_of t → length bytes ≡ size_of t → r.off + r.len ≤ size_of t → here ≡ stack_at (base + r.at) r.len old → loaded ≡ take r.off first ++ (here ++ drop r.len (drop r.off first)) → IsWritten t v loaded bytes →
    IsRunStored base t v r old (stored (base + r.at) (take r.len (drop r.off bytes)) old)
run_stored base t v first loaded bytes here r old low fits first_sized sized within here_is loaded_is written =
    let run = take r.len (drop r.off bytes) in
    let many : length run ≡ r.len = length_part bytes r.off r.len (omega (arith, sized, within)) in
    let low_at : STACK ≤ base + r.at = omega (arith, low) in
    let fits_run : base + r.at - STACK + length run ≤ length old.stack = omega (arith, low, fits, many) in
    let fits_len : base + r.at - STACK + r.len ≤ length old.stack = omega (arith, low, fits) in
    let here_many : length here ≡ r.len = ap length here_is ∙ length_part old.stack (base + r.at - STACK) r.len fits_len in
    let stands : (at off : ℕ) → Copies at off r → stack_byte (stored (base + r.at) run old) (base + at) ≡ get_or bytes off 0 = λ at off c.
    let from = c.from in
    let to = c.to in
    let same = c.same in
    let small : at - r.at < r.len = omega (arith, from, to) in
    let there : base + r.at + (at - r.at) ≡ base + at = omega (arith, from) in
    let back : r.off + (at - r.at) ≡ off = omega (arith, from, same) in
    ap (stack_byte (stored (base + r.at) run old)) (sym there) ∙ stored_inside (base + r.at) run old low_at fits_run (at - r.at) (omega (arith, small, many)) ∙ index_part bytes r.off r.len (at - r.at) small ∙ ap (λ i. get_or bytes i 0) back in
    let stood : (at off : ℕ) → Copies at off r → get_or loaded off 0 ≡ stack_byte old (base + at) = λ at off c.
    let from = c.from in
    let to = c.to in
    let same = c.same in
    let small : off - r.off < r.len = omega (arith, from, to, same) in
    let there : base + r.at - STACK + (off - r.off) ≡ base + at - STACK = omega (arith, low, from, same) in
    let back : r.off + (off - r.off) ≡ off = omega (arith, from, same) in
    ap (λ i. get_or loaded i 0) (sym back) ∙ inside_part first loaded here r.off r.len loaded_is here_many (omega (arith, first_sized, within)) (off - r.off) small ∙ ap (λ xs. get_or xs (off - r.off) 0) here_is ∙ index_part old.stack (base + r.at - STACK) r.len (off - r.off) small ∙ ap (λ i. get_or old.stack i 0) there in
    let range : length loaded ≡ size_of t = ap length loaded_is ∙ parts_length first here r.off r.len (size_of t) here_many first_sized within in
    record {
      stand = λ at off c. subst (IsByteOf (leaves_of t) (leaf_bytes v) off) (sym (stands at off c)) (value_byte t v bytes off written.reads_back);
      unused = λ at off c pad.
          let from = c.from in
          let to = c.to in
          let same = c.same in
          stands at off c ∙ written.padding_stays off (omega (arith, from, to, same, within, range)) pad ∙ stood at off c;
      only = subst (λ n. WroteOnly (base + r.at) (base + r.at + n) old (stored (base + r.at) run old)) many (only_stored (base + r.at) run old low_at fits_run);
    }

-- ---- all runs

module _ (base : ℕ) (t : Tree) (v : ValueTree) (low : STACK ≤ base) where
  -- a byte beside the run
  beside : (r : Run) (a b : State) (at : ℕ) → (at < r.at) ⊎ (r.at + r.len ≤ at) → WroteOnly (base + r.at) (base + r.at + r.len) a b → stack_byte b (base + at) ≡ stack_byte a (base + at)
  beside r a b at (inl below) only = only.within.outside (base + at - STACK) (inl (omega (arith, low, below)))
  beside r a b at (inr above) only = only.within.outside (base + at - STACK) (inr (omega (arith, low, above)))

  one_more_run : (r : Run) (rest : List Run) (first a b : State) → Neighbours Rises (r ∷ rest) → IsRunStored base t v r a b → AreRunsStored base t v rest first a → AreRunsStored base t v (r ∷ rest) first b
  one_more_run r rest first a b rise here before = record {
    stand = stand;
    unused = unused;
    others = others;
    only = λ room size all. only_then base (base + room) first a b (before.only room size all.1) (only_wider (base + r.at) (base + r.at + r.len) base (base + room) a b (omega arith) (omega (arith, all.0.0)) here.only);
  }
    where
      later : (at off : ℕ) → OneCopies at off rest → stack_byte b (base + at) ≡ stack_byte a (base + at)
      later at off c = beside r a b at (inr (rises_to r rest at off rise c).0) here.only

      stand : (at off : ℕ) → OneCopies at off (r ∷ rest) → IsByteOf (leaves_of t) (leaf_bytes v) off (stack_byte b (base + at))
      stand at off (inl c) = here.stand at off c
      stand at off (inr c) = subst (IsByteOf (leaves_of t) (leaf_bytes v) off) (sym (later at off c)) (before.stand at off c)

      not_later : (at off : ℕ) → Copies at off r → (o : ℕ) → ¬ OneCopies at o rest
      not_later at off c o d = let up = (rises_to r rest at o rise d).0 in omega (arith, c.to, up)

      unused : (at off : ℕ) → OneCopies at off (r ∷ rest) → IsPadding t off → stack_byte b (base + at) ≡ stack_byte first (base + at)
      unused at off (inl c) pad = here.unused at off c pad ∙ before.others at (not_later at off c)
      unused at off (inr c) pad = later at off c ∙ before.unused at off c pad

      side : (at : ℕ) → ((off : ℕ) → ¬ OneCopies at off (r ∷ rest)) → (at < r.at) ⊎ (r.at + r.len ≤ at)
      side at none =
          elim (cases_lt at r.at) [
            | inl below ↦ inl below
            | inr from ↦
                elim (cases_lt at (r.at + r.len)) [
                  | inl to ↦ absurd (none (r.off + (at - r.at)) (inl (record { from = from; to = to; same = omega (arith, from) })))
                  | inr above ↦ inr above
                ]
          ]

      others : (at : ℕ) → ((off : ℕ) → ¬ OneCopies at off (r ∷ rest)) → stack_byte b (base + at) ≡ stack_byte first (base + at)
      others at none = beside r a b at (side at none) here.only ∙ before.others at (λ off c. none off (inr c))

  pub run_step : (runs : List Run) (i : ℕ) (r : Run) (first a b : State) → i < length runs → r ≡ get_or runs i r → Neighbours Rises runs → IsRunStored base t v r a b → AreRunsStored base t v (drop (i + 1) runs) first a → AreRunsStored base t v (drop i runs) first b
  run_step runs i r first a b h read rise here before =
      let opened = drop_read runs i r h read in
      subst (λ rs. AreRunsStored base t v rs first b) (sym opened) (one_more_run r (drop (i + 1) runs) first a b (subst (Neighbours Rises) opened (rising_drop i runs rise)) here before)

  pub no_run : (runs : List Run) (i : ℕ) (m : State) → length runs ≤ i → AreRunsStored base t v (drop i runs) m m
  no_run runs i m h =
      subst (λ rs. AreRunsStored base t v rs m m) (sym (drop_all i runs h)) (record {
        stand = λ at off c. absurd c;
        unused = λ at off c pad. absurd c;
        others = λ at none. refl;
        only = λ room size all. only_nothing base (base + room) m;
      })

  -- ---- what runs do to the places of pieces

  module _ (runs : List Run) (top : ℕ) (first m : State) (is : AreRunsStored base t v runs first m) (only : WroteOnly base top first m) where
    -- ---- one piece

    stands_at : (p : Piece) (n w : ℕ) → IsRunCopied runs p → p.loc ≡ S n w → p.ext ≡ Free → PieceStands base m t v p
    stands_at p n w copied here free = (
      λ k h.
          let there : base + (n + k) ≡ base + n + k = omega arith in
          subst (λ l. IsByteOf (leaves_of t) (leaf_bytes v) (p.off + k) (byte_of base m l k)) (sym here) (subst (λ i. IsByteOf (leaves_of t) (leaf_bytes v) (p.off + k) (stack_byte m i)) there (is.stand (n + k) (p.off + k) (copied n w k here h))),
      subst (λ e. FillsAs e (word_in base m p.loc) t v) (sym free) tt,
    )

    pub each_by_run : (ps : List Piece) → AllByRecursion (IsRunCopied runs) ps → AllByRecursion (λ p. goes_by_run p.loc p.ext ≡ true → PieceStands base m t v p) ps
    each_by_run ps = each_map (IsRunCopied runs) (λ p. goes_by_run p.loc p.ext ≡ true → PieceStands base m t v p) (λ p copied by. goes (PieceStands base m t v p) p.loc p.ext by (λ n w here free. stands_at p n w copied here free)) ps

    -- by the place
    kept_at : (p : Piece) (l : Loc) → p.loc ≡ l → IsRunCopied runs p → IsClearAbove runs p → (k : ℕ) → k < place_size l → (k < p.len → IsPadding t (p.off + k)) → byte_of base m l k ≡ byte_of base first l k
    kept_at p (G r) here copied clear k below none = ap (λ xs. get_or (to_le_bytes w64 (get_or xs r 0)) k 0) only.general
    kept_at p (F r) here copied clear k below none = ap (λ xs. get_or (to_le_bytes w64 (get_or xs r 0)) k 0) only.floating
    kept_at p (S n w) here copied clear k below none =
        let there : base + (n + k) ≡ base + n + k = omega arith in
        subst (λ i. stack_byte m i ≡ stack_byte first i) there (elim (cases_lt k p.len) [
          | inl inside ↦ is.unused (n + k) (p.off + k) (copied n w k here inside) (none inside)
          | inr above ↦ is.others (n + k) (λ off c. clear n w k off here above below c)
        ])

    pub each_kept : (ps : List Piece) → AllByRecursion (IsRunCopied runs) ps → AllByRecursion (IsClearAbove runs) ps → AllByRecursion (KeepsUnused base t first m) ps
    each_kept ps = each_with (IsRunCopied runs) (IsClearAbove runs) (KeepsUnused base t first m) (λ p copied clear free k below none. kept_at p p.loc refl copied clear k below none) ps

  -- ---- all places apart from the pieces' stay

  pub runs_stay : (pieces : List Piece) (runs : List Run) (top : ℕ) (first m : State) → AllByRecursion (IsPieceOf t) pieces → AreRunsOf pieces runs → AreRunsStored base t v runs first m → WroteOnly base top first m → Stays base (piece_locs pieces) first m
  runs_stay pieces runs top first m parts are is only = record { sp = only.sp; size = only.within.size; others = others }
    where
      others : (l : Loc) → IsNoneOf (piece_locs pieces) l → SameAt base l first m
      others (G r) none = ap (λ xs. get_or xs r 0) only.general
      others (F r) none = ap (λ xs. get_or xs r 0) only.floating
      others (S q w) none = λ k h.
          let there : base + (q + k) ≡ base + q + k = omega arith in
          subst (λ i. stack_byte m i ≡ stack_byte first i) there (is.others (q + k) (λ off c. clear_of_pieces t q w k off pieces parts none h (are.has_no_other (q + k) off c)))

-- ---- runs first, then the other pieces

pub keeps_both : (base : ℕ) (t : Tree) (a b c : State) (ps : List Piece) → AllByRecursion (KeepsUnused base t a b) ps → AllByRecursion (KeepsUnused base t b c) ps → AllByRecursion (KeepsUnused base t a c) ps
keeps_both base t a b c ps =
    each_with (KeepsUnused base t a b) (KeepsUnused base t b c) (KeepsUnused base t a c) (λ p first second free k below none. second free k below none ∙ first free k below none) ps

pub stays_twice : (base : ℕ) (ls : List Loc) (a b c : State) → Stays base ls a b → Stays base ls b c → Stays base ls a c
stays_twice base ls a b c s u = record {
  sp = u.sp ∙ s.sp;
  size = u.size ∙ s.size;
  others = λ l none. same_then base l a b c (s.others l none) (u.others l none);
}
