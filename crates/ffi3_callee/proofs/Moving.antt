-- An argument that is moved to its copy, run by run and register by register.
use Rattle.std.specs.Prelude.{true, false}
use Rattle.std.proofs.Common.{◌≡◌, ◌⊎◌, inl, inr, ⊎_elim, ℕ, zero, suc, ◌+◌, ◌-◌, ◌<◌, ◌≤◌, List, [], ◌∷◌, take, drop, get_or, length, refl, ap, sym, ◌∙◌, subst, arith}
use Rattle.std.specs.List.{AllByRecursion, Any}
use Rattle.std.specs.Int.{w64, to_le_bytes}
use Rattle.std.proofs.lemmas.Bool.{cases_lt}
use Rattle.std.proofs.lemmas.List.{drop_all, get_or-take, length-take-le}
use Rattle.ffi3_type_spec.specs.Tree.{Tree}
use Rattle.ffi3_type_spec.specs.Layout.{size_of}
use Rattle.ffi3_type_spec.proofs.Parts.{index_part, length_part}
use Rattle.ffi3_place_spec.specs.declared.Loc.{Loc}
use Rattle.ffi3_place_spec.specs.declared.Loc.TheVariants.{G, F, S}
use Rattle.ffi3_place_spec.specs.declared.Piece.{Piece}
use Rattle.ffi3_place_spec.specs.declared.Place.TheVariants.{Direct}
use Rattle.ffi3_place_spec.specs.Holds.{Carries}
use Rattle.ffi3_place_spec.specs.Sound.{HaveAll, IsPieceOf, IsWithin, place_size}
use Rattle.ffi3_place_spec.proofs.Elements.{drop_read}
use Rattle.ffi3_place_spec.proofs.Tests.{each_at}
use Rattle.ffi3_cif.specs.declared.runs.Run.{Run}
use Rattle.ffi3_cif.specs.Runs.{AreRunsOf, Copies, Neighbours, OneCopies, Rises, run_at, run_then, stack_runs}
use Rattle.ffi3_type_spec.specs.declared.limits.TheConstants.{STACK}
use Rattle.ffi3_machine_spec.specs.State.{State, stack_at, stored}
use Rattle.ffi3_machine_transfer.specs.Stored.{AreBytesOf, WroteOnly, byte_of, stack_byte}
use Rattle.ffi3_machine_transfer.specs.Runs.{RunLies}
use Rattle.ffi3_machine_transfer.proofs.Composing.{only_nothing, only_then, only_wider, same_byte}
use Rattle.ffi3_machine_transfer.proofs.Putting.{only_stored, stored_inside}
use Rattle.ffi3_machine_transfer.proofs.Runs.{by_piece, behind_piece, rises_to, rising_drop}
use Rattle.ffi3_marshal.proofs.Lawful.{each_map}
use Rattle.ffi3_callee.specs.Loaded.{AreLoaded, HaveByte, IsRead}
use Rattle.ffi3_callee.specs.Moved.{ArePiecesMoved, AreRunsMoved, CarriesInRegister, IsPieceMoved, OneCarriesInRegister, is_on_stack}
use Rattle.ffi3_callee.proofs.Copying.{place_above, stored_there}
use Rattle.ffi3_callee.proofs.Placing.{pieces_read}

-- before the piece at i: a byte that is right is moved, or carried by one of the rest
pub record AreMovedTo (base to : ℕ) (pieces : List Piece) (i : ℕ) (first m : State) : Type 0 where
  pub right : (o x : ℕ) → HaveByte base first o x pieces → OneCarriesInRegister o pieces ⊎ (stack_byte first (to + o) ≡ x) → OneCarriesInRegister o (drop i pieces) ⊎ (stack_byte m (to + o) ≡ x)
  pub only : (size : ℕ) → AllByRecursion (IsWithin size) pieces → WroteOnly to (to + size) first m

-- ---- runs

module _ (base to : ℕ) (low : STACK ≤ to) (below : to ≤ base) where
  -- a byte at or above `base` stays
  above_stays : (size : ℕ) (a b : State) (at : ℕ) → to + size ≤ base → WroteOnly to (to + size) a b → stack_byte b (base + at) ≡ stack_byte a (base + at)
  above_stays size a b at h only = only.within.outside (base + at - STACK) (inr (omega (arith, low, below, h)))

  one_more_moved : (r : Run) (rest : List Run) (room : ℕ) (first a b : State) → Neighbours Rises (r ∷ rest) → AllByRecursion (RunLies room (base - to)) (r ∷ rest) → base - STACK + room ≤ length a.stack → b ≡ stored (to + r.off) (stack_at (base + r.at) r.len a) a → AreRunsMoved base to rest first a → AreRunsMoved base to (r ∷ rest) first b
  one_more_moved r rest room first a b rise lie fits is before = record { copied = copied; only = only }
    where
      bytes : List ℕ
      bytes = stack_at (base + r.at) r.len a

      many : length bytes ≡ r.len
      many = length_part a.stack (base + r.at - STACK) r.len (omega (arith, low, below, fits, lie.0.0))

      low_off : STACK ≤ to + r.off
      low_off = omega (arith, low)

      fits_off : to + r.off - STACK + length bytes ≤ length a.stack
      fits_off = omega (arith, low, below, many, lie.0.1, fits)

      wrote : WroteOnly (to + r.off) (to + r.off + r.len) a b
      wrote = subst (λ n. WroteOnly (to + r.off) (to + r.off + n) a b) many (subst (WroteOnly (to + r.off) (to + r.off + length bytes) a) (sym is) (only_stored (to + r.off) bytes a low_off fits_off))

      before_all : WroteOnly to (to + (base - to)) first a
      before_all = before.only room (base - to) lie.1

      here : (at off : ℕ) → Copies at off r → stack_byte b (to + off) ≡ stack_byte a (base + at)
      here at off c =
          let from = c.from in
          let up = c.to in
          let same = c.same in
          let small : off - r.off < r.len = omega (arith, from, up, same) in
          let there : to + r.off + (off - r.off) ≡ to + off = omega (arith, from, same) in
          let back : base + r.at - STACK + (off - r.off) ≡ base + at - STACK = omega (arith, low, below, from, same) in
          ap (λ m. stack_byte m (to + off)) is ∙ ap (stack_byte (stored (to + r.off) bytes a)) (sym there) ∙ stored_inside (to + r.off) bytes a low_off fits_off (off - r.off) (omega (arith, small, many)) ∙ index_part a.stack (base + r.at - STACK) r.len (off - r.off) small ∙ ap (λ i. get_or a.stack i 0) back

      copied : (at off : ℕ) → OneCopies at off (r ∷ rest) → stack_byte b (to + off) ≡ stack_byte first (base + at)
      copied at off (inl c) = here at off c ∙ above_stays (base - to) first a at (omega (arith, below)) before_all
      copied at off (inr c) =
          let up = (rises_to r rest at off rise c).1 in
          wrote.within.outside (to + off - STACK) (inr (omega (arith, low, up))) ∙ before.copied at off c

      only : (room size : ℕ) → AllByRecursion (RunLies room size) (r ∷ rest) → WroteOnly to (to + size) first b
      only n size all = only_then to (to + size) first a b (before.only n size all.1) (only_wider (to + r.off) (to + r.off + r.len) to (to + size) a b (omega arith) (omega (arith, all.0.1)) wrote)

  pub move_run : (runs : List Run) (i : ℕ) (r : Run) (room : ℕ) (first a b : State) → i < length runs → r ≡ get_or runs i r → Neighbours Rises runs → AllByRecursion (RunLies room (base - to)) (drop i runs) → base - STACK + room ≤ length a.stack → b ≡ stored (to + r.off) (stack_at (base + r.at) r.len a) a → AreRunsMoved base to (drop (i + 1) runs) first a → AreRunsMoved base to (drop i runs) first b
  move_run runs i r room first a b h read rise lie fits is before =
      let opened = drop_read runs i r h read in
      subst (λ rs. AreRunsMoved base to rs first b) (sym opened) (one_more_moved r (drop (i + 1) runs) room first a b (subst (Neighbours Rises) opened (rising_drop i runs rise)) (subst (AllByRecursion (RunLies room (base - to))) opened lie) fits is before)

  pub no_run_moved : (runs : List Run) (i : ℕ) (m : State) → length runs ≤ i → AreRunsMoved base to (drop i runs) m m
  no_run_moved runs i m h =
      subst (λ rs. AreRunsMoved base to rs m m) (sym (drop_all i runs h)) (record {
        copied = λ at off c. absurd c;
        only = λ room size all. only_nothing to (to + size) m;
      })

  -- ---- one register

  register_size : (l : Loc) → is_on_stack l ≡ false → place_size l ≡ 8
  register_size (G r) h = refl
  register_size (F r) h = refl
  register_size (S n w) h = cc

  pub piece_moved : (p : Piece) (bytes : List ℕ) (old : State) → is_on_stack p.loc ≡ false → AreBytesOf base old p.loc bytes → length bytes ≡ 8 → p.len ≤ 8 → to + p.off - STACK + p.len ≤ length old.stack → IsPieceMoved base to p old (stored (to + p.off) (take p.len bytes) old)
  piece_moved p bytes old register are eight short fits =
      let many : length (take p.len bytes) ≡ p.len = length-take-le p.len bytes (omega (arith, eight, short)) in
      let low_off : STACK ≤ to + p.off = omega (arith, low) in
      let fits_off : to + p.off - STACK + length (take p.len bytes) ≤ length old.stack = omega (arith, many, fits) in
      let wrote = subst (λ n. WroteOnly (to + p.off) (to + p.off + n) old (stored (to + p.off) (take p.len bytes) old)) many (only_stored (to + p.off) (take p.len bytes) old low_off fits_off) in
      record {
        here = λ o c.
            let from = c.1.0 in
            let up = c.1.1 in
            let small : o - p.off < p.len = omega (arith, from, up) in
            let there : to + p.off + (o - p.off) ≡ to + o = omega (arith, from) in
            ap (stack_byte (stored (to + p.off) (take p.len bytes) old)) (sym there) ∙ stored_inside (to + p.off) (take p.len bytes) old low_off fits_off (o - p.off) (omega (arith, small, many)) ∙ get_or-take p.len bytes (o - p.off) 0 small ∙ are.here (o - p.off) (omega (arith, small, short, register_size p.loc register));
        others = λ o.
            elim (cases_lt o p.off) [
              | inl under ↦ inr (wrote.within.outside (to + o - STACK) (inl (omega (arith, low, under))))
              | inr from ↦
                  elim (cases_lt o (p.off + p.len)) [
                    | inl up ↦ inl (register, (from, up))
                    | inr beyond ↦ inr (wrote.within.outside (to + o - STACK) (inr (omega (arith, low, beyond))))
                  ]
            ];
        only = λ size within. only_wider (to + p.off) (to + p.off + p.len) to (to + size) old (stored (to + p.off) (take p.len bytes) old) (omega arith) (omega (arith, within.1)) wrote;
      }

  pub piece_left : (p : Piece) (m : State) → is_on_stack p.loc ≡ true → IsPieceMoved base to p m m
  piece_left p m on_stack = record { here = λ o c. let register = c.0 in absurd cc; others = λ o. inr refl; only = λ size within. only_nothing to (to + size) m }

  -- ---- all registers

  register_byte : (l : Loc) (k : ℕ) (a b : State) → is_on_stack l ≡ false → b.general ≡ a.general → b.floating ≡ a.floating → byte_of base b l k ≡ byte_of base a l k
  register_byte (G r) k a b h g f = ap (λ xs. get_or (to_le_bytes w64 (get_or xs r 0)) k 0) g
  register_byte (F r) k a b h g f = ap (λ xs. get_or (to_le_bytes w64 (get_or xs r 0)) k 0) f
  register_byte (S n w) k a b h g f = cc

  pub none_moved : (pieces : List Piece) (m : State) → AreMovedTo base to pieces 0 m m
  none_moved pieces m = record { right = λ o x have right. right; only = λ size all. only_nothing to (to + size) m }

  pub one_register : (pieces : List Piece) (i size : ℕ) (p : Piece) (first a b : State) → i < length pieces → p ≡ get_or pieces i p → AllByRecursion (IsWithin size) pieces → IsPieceMoved base to p a b → AreMovedTo base to pieces i first a → AreMovedTo base to pieces (i + 1) first b
  one_register pieces i size p first a b below_i is all moved before = record { right = right; only = only }
    where
      same : WroteOnly to (to + size) first a
      same = before.only size all

      here : (o x : ℕ) → HaveByte base first o x pieces → CarriesInRegister o p → stack_byte b (to + o) ≡ x
      here o x have c = moved.here o c ∙ register_byte p.loc (o - p.off) first a c.0 same.general same.floating ∙ each_at (λ q. Carries o q → byte_of base first q.loc (o - q.off) ≡ x) pieces i p below_i (sym is) have c.1

      kept : (o x : ℕ) → HaveByte base first o x pieces → stack_byte a (to + o) ≡ x → CarriesInRegister o p ⊎ (stack_byte b (to + o) ≡ stack_byte a (to + o)) → stack_byte b (to + o) ≡ x
      kept o x have there (inl c) = here o x have c
      kept o x have there (inr stays) = stays ∙ there

      one : (o x : ℕ) → HaveByte base first o x pieces → CarriesInRegister o p ⊎ OneCarriesInRegister o (drop (i + 1) pieces) → OneCarriesInRegister o (drop (i + 1) pieces) ⊎ (stack_byte b (to + o) ≡ x)
      one o x have (inl c) = inr (here o x have c)
      one o x have (inr rest) = inl rest

      both : (o x : ℕ) → HaveByte base first o x pieces → OneCarriesInRegister o (drop i pieces) ⊎ (stack_byte a (to + o) ≡ x) → OneCarriesInRegister o (drop (i + 1) pieces) ⊎ (stack_byte b (to + o) ≡ x)
      both o x have (inl some) = one o x have (subst (OneCarriesInRegister o) (drop_read pieces i p below_i is) some)
      both o x have (inr there) = inr (kept o x have there (moved.others o))

      right : (o x : ℕ) → HaveByte base first o x pieces → OneCarriesInRegister o pieces ⊎ (stack_byte first (to + o) ≡ x) → OneCarriesInRegister o (drop (i + 1) pieces) ⊎ (stack_byte b (to + o) ≡ x)
      right o x have r = both o x have (before.right o x have r)

      only : (size : ℕ) → AllByRecursion (IsWithin size) pieces → WroteOnly to (to + size) first b
      only n each = only_then to (to + n) first a b (before.only n each) (moved.only n (each_at (IsWithin n) pieces i p below_i (sym is) each))

  pub all_moved : (pieces : List Piece) (i : ℕ) (first m : State) → length pieces ≤ i → AreMovedTo base to pieces i first m → ArePiecesMoved base to pieces first m
  all_moved pieces i first m end moved = record {
    right = λ o x have r. done o x (moved.right o x have r);
    only = moved.only;
  }
    where
      done : (o x : ℕ) → OneCarriesInRegister o (drop i pieces) ⊎ (stack_byte m (to + o) ≡ x) → stack_byte m (to + o) ≡ x
      done o x (inl some) = absurd (subst (OneCarriesInRegister o) (drop_all i pieces end) some)
      done o x (inr there) = there

-- ---- runs and registers together

-- a byte that pieces on the stack carry is the one that all have
byte_there : (base : ℕ) (m : State) (at o x : ℕ) (pieces : List Piece) → HaveByte base m o x pieces → OneCopies at o (stack_runs pieces) → stack_byte m (base + at) ≡ x
byte_there base m at o x [] have c = absurd c
byte_there base m at o x (p ∷ ps) have c =
    by_piece (stack_byte m (base + at) ≡ x) at o p.loc p (stack_runs ps) here (byte_there base m at o x ps have.1) c
  where
    here : (n w : ℕ) → p.loc ≡ S n w → n ≤ at → at < n + p.len → o + n ≡ p.off + at → stack_byte m (base + at) ≡ x
    here n w is from up same =
        let there : base + n + (o - p.off) ≡ base + at = omega (arith, from, same) in
        ap (stack_byte m) (sym there) ∙ ap (λ l. byte_of base m l (o - p.off)) (sym is) ∙ have.0 (omega (arith, from, same), omega (arith, from, up, same))

-- it is carried in a register, or on the stack
abbrev CarriedSomewhere : ℕ → List Piece → Type 0
CarriedSomewhere o pieces =
    OneCarriesInRegister o pieces ⊎ ((at : ℕ) × OneCopies at o (stack_runs pieces))

somewhere_here : (o : ℕ) (l : Loc) (p : Piece) (rest : List Run) → p.loc ≡ l → Carries o p → CarriesInRegister o p ⊎ ((at : ℕ) × OneCopies at o (run_then (run_at l p) rest))
somewhere_here o (G r) p rest is c = inl (ap is_on_stack is, c)
somewhere_here o (F r) p rest is c = inl (ap is_on_stack is, c)
somewhere_here o (S n w) p rest is c =
    inr (n + (o - p.off), inl (record { from = omega arith; to = omega (arith, c.0, c.1); same = omega (arith, c.0) }))

somewhere : (o : ℕ) (pieces : List Piece) → Any (Carries o) pieces → CarriedSomewhere o pieces
somewhere o [] (k, q, below, is, c) = absurd (omega (arith, below))
somewhere o (p ∷ ps) (zero, q, below, is, c) =
    ⊎_elim (λ d. inl (inl d)) inr (somewhere_here o p.loc p (stack_runs ps) refl (subst (Carries o) (sym is) c))
somewhere o (p ∷ ps) (suc k, q, below, is, c) =
    ⊎_elim (λ d. inl (inr d)) (λ d. inr (d.0, behind_piece d.0 o p.loc p (stack_runs ps) d.1)) (somewhere o ps (k, q, omega (arith, below), is, c))

carried_within : (t : Tree) (o : ℕ) (pieces : List Piece) → AllByRecursion (IsPieceOf t) pieces → Any (Carries o) pieces → o < size_of t
carried_within t o [] parts (k, q, below, is, c) = absurd (omega (arith, below))
carried_within t o (p ∷ ps) parts (zero, q, below, is, c) =
    let within = parts.0.within in
    let here = subst (Carries o) (sym is) c in
    omega (arith, within, here.1)
carried_within t o (p ∷ ps) parts (suc k, q, below, is, c) = carried_within t o ps parts.1 (k, q, omega (arith, below), is, c)

-- bytes of places above what is written are still had
have_stays : (t : Tree) (low high base : ℕ) (a b : State) (o x : ℕ) (pieces : List Piece) → STACK ≤ base → high ≤ base → WroteOnly low high a b → AllByRecursion (IsPieceOf t) pieces → HaveByte base a o x pieces → HaveByte base b o x pieces
have_stays t low high base a b o x [] inside above w parts have = tt
have_stays t low high base a b o x (p ∷ ps) inside above w parts have = (
  λ c. let fits = parts.0.fits in same_byte base p.loc a b (place_above low high base p.loc a b inside above w) (o - p.off) (omega (arith, c.0, c.1, fits)) ∙ have.0 c,
  have_stays t low high base a b o x ps inside above w parts.1 have.1,
)

module _ (base to : ℕ) (t : Tree) (pieces : List Piece) (runs : List Run) (low : STACK ≤ to) (below : to + size_of t ≤ base) (parts : AllByRecursion (IsPieceOf t) pieces) (are : AreRunsOf pieces runs) (first mid m : State) (runs_only : WroteOnly to (to + size_of t) first mid) (moved : AreRunsMoved base to runs first mid) (rest : ArePiecesMoved base to pieces mid m) (sized : to - STACK + size_of t ≤ length m.stack) where
  right_byte : (o x : ℕ) → HaveByte base first o x pieces → CarriedSomewhere o pieces → stack_byte m (to + o) ≡ x
  right_byte o x have (inl c) = rest.right o x (have_stays t to (to + size_of t) base first mid o x pieces (omega (arith, low, below)) below runs_only parts have) (inl c)
  right_byte o x have (inr c) = rest.right o x (have_stays t to (to + size_of t) base first mid o x pieces (omega (arith, low, below)) below runs_only parts have) (inr (moved.copied c.0 o (are.has_each c.0 o c.1) ∙ byte_there base first c.0 o x pieces have c.1))

  loaded : AreLoaded base first pieces (stack_at to (size_of t) m)
  loaded o x have any =
      let there : to - STACK + o ≡ to + o - STACK = omega (arith, low) in
      index_part m.stack (to - STACK) (size_of t) o (carried_within t o pieces parts any) ∙ ap (λ i. get_or m.stack i 0) there ∙ right_byte o x have (somewhere o pieces any)

  pub direct_read : HaveAll t pieces → IsRead base first t (Direct pieces) (stack_at to (size_of t) m)
  direct_read all = pieces_read base first t pieces (stack_at to (size_of t) m) (omega (arith, low, below)) all (length_part m.stack (to - STACK) (size_of t) sized) loaded

pub within_wider : (n m : ℕ) (pieces : List Piece) → n ≤ m → AllByRecursion (IsWithin n) pieces → AllByRecursion (IsWithin m) pieces
within_wider n m pieces h = each_map (IsWithin n) (IsWithin m) (λ p within. (within.0, omega (arith, h, within.1), within.2)) pieces

-- ---- a copy by reference

pub copied_only : (to start size : ℕ) (old new : State) → STACK ≤ to → start - STACK + size ≤ length old.stack → to - STACK + size ≤ length old.stack → new ≡ stored to (stack_at start size old) old → WroteOnly to (to + size) old new
copied_only to start size old new low from fits is =
    let many = length_part old.stack (start - STACK) size from in
    subst (λ n. WroteOnly to (to + n) old new) many (subst (WroteOnly to (to + length (stack_at start size old)) old) (sym is) (only_stored to (stack_at start size old) old low (omega (arith, many, fits))))

pub copied_there : (to start size : ℕ) (old new : State) → STACK ≤ to → start - STACK + size ≤ length old.stack → to - STACK + size ≤ length old.stack → new ≡ stored to (stack_at start size old) old → stack_at to size new ≡ stack_at start size old
copied_there to start size old new low from fits is =
    let many = length_part old.stack (start - STACK) size from in
    ap (λ n. stack_at to n new) (sym many) ∙ ap (stack_at to (length (stack_at start size old))) is ∙ stored_there to (stack_at start size old) old low (omega (arith, many, fits))
