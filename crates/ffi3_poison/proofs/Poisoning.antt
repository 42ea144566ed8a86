-- What carries nothing is overwritten: one register after another, then the frame byte by byte; all else stays, and the image still owns its values.
use Rattle.std.specs.Prelude.{◌≢◌, ◌/◌, ◌%◌, nat_lt, if◌then◌else◌, min, Bool, true, false, not, ◌&&◌, ◌||◌, ◌==◌}
use Rattle.std.proofs.Common.{◌≡◌, ◌⊎◌, inl, inr, ℕ, ◌+◌, ◌-◌, ◌<◌, ◌≤◌, List, [], ◌∷◌, take, get_or, length, refl, ap, sym, ◌∙◌, subst, arith, ◌++◌, drop, eq-eqb}
use Rattle.std.specs.Int.{w64, to_le_bytes, from_le_bytes}
use Rattle.std.proofs.lemmas.Bool.{cases_eq, cases_lt, eqb-true}
use Rattle.std.proofs.lemmas.Bool.Decides.{nat_tests}
use Rattle.std.proofs.lemmas.List.{get_or_past, get_or-take, get_or-drop, take_all}
use Rattle.std.proofs.lemmas.List.Folds.{list_any_more, list_any_at}
use Rattle.std.specs.List.{list_any, AllByRecursion}
use Rattle.std.proofs.lemmas.Nat.{le_bytes_8}
use Rattle.ffi3_type_spec.proofs.Tests.{both, if_true, if_false}
use Rattle.ffi3_type_spec.specs.Signature.{Signature, SignatureHasNoFault}
use Rattle.ffi3_type_spec.specs.declared.limits.TheConstants.{STACK, STACK_BYTES, STACK_TOP}
use Rattle.ffi3_place_spec.specs.declared.Loc.{Loc}
use Rattle.ffi3_place_spec.specs.declared.Loc.TheVariants.{G, F, S}
use Rattle.ffi3_place_spec.specs.Standard.{Standard, frame_of, plan_of}
use Rattle.ffi3_place_spec.specs.Sound.{IsNoneOf, Apart, IsSound, argument_locs, closed_to_arguments, closed_to_results}
use Rattle.ffi3_place_spec.proofs.Tests.{and_left, and_right, each_of_eight, not_true}
use Rattle.ffi3_machine_spec.specs.State.{State, filled, stored, HasReturnAddress, HasReturnAt, image_of, stack_at}
use Rattle.ffi3_machine_transfer.specs.Stored.{IsPlace, IsWordPut, WroteOnly, byte_of, stack_byte, word_in, IsWritable, WroteWithin}
use Rattle.ffi3_marshal.proofs.Composing.{register_is_whole}
use Rattle.ffi3_machine_transfer.proofs.Composing.{only_nothing, only_then, only_wider, same_byte, wrote_nothing, wrote_then, wrote_wider}
use Rattle.ffi3_machine_transfer.proofs.Putting.{only_stored, stored_inside, stored_outside}
use Rattle.ffi3_machine_transfer.proofs.Stepping.{same_word_in}
use Rattle.ffi3_poison.specs.Poison.{belongs, carries, is_argument_register, is_free, is_register, IsPoisoned, MarkFalls, hidden_has, places_have}
use Rattle.ffi3_poison.specs.Overwritten.{AreRegistersDone, IsFrameDone, IsLeftOrFree, IsRegisterDone, RegistersKeep}
use Rattle.ffi3_type_spec.specs.declared.Target.{Target}
use Rattle.ffi3_type_spec.specs.declared.Target.TheVariants.{Amd64 as ForAmd64}
use Rattle.ffi3_type_spec.specs.declared.Isa.{Isa}
use Rattle.ffi3_type_spec.specs.declared.Isa.TheVariants.{Amd64, Aarch64, Riscv}
use Rattle.ffi3_type_spec.specs.TargetIsa.{isa_of}
use Rattle.ffi3_type_spec.specs.Value.{ValueTree}
use Rattle.ffi3_type_spec.proofs.Parts.{length_part}
use Rattle.ffi3_place_spec.specs.Image.{byte_at, word_at}
use Rattle.ffi3_place_spec.specs.MachineRegisters.{link_place, link_register, pushed_bytes, reserved_places, stack_pointer, trampoline_registers, to_list}
use Rattle.ffi3_place_spec.specs.Agrees.{AgreesWithMachine}
use Rattle.ffi3_marshal.proofs.Stepping.{each_read}
use Rattle.ffi3_marshal.proofs.Lawful.{across_none, all_ready, each_first, each_join, each_rest, machine_places}
use Rattle.ffi3_callee.specs.Received.{OwnsAtEntry}
use Rattle.ffi3_callee.proofs.Copying.{each_writable, stretch_stays}
use Rattle.ffi3_callee.proofs.Entry.{hidden_in_frame}
use Rattle.ffi3_callee.proofs.Laws.{each_both}
use Rattle.ffi3_poison.proofs.Searching.{both_false}
use Rattle.ffi3_poison.proofs.StillOwned.{AgreeWhere, arguments_same, hidden_same, or_left, or_right}

-- ---- tests

and_false : (a b : Bool) → a ≡ false → (a && b) ≡ false
and_false true b h = cc
and_false false b h = refl

and_not : (a b : Bool) → b ≡ true → (a && not b) ≡ false
and_not true true h = refl
and_not true false h = cc
and_not false b h = refl

not_false : (b : Bool) → b ≡ false → not b ≡ true
not_false true h = cc
not_false false h = refl

either : (a b : Bool) → (a || b) ≡ true → (a ≡ true) ⊎ (b ≡ true)
either true b h = inl refl
either false b h = inr h

-- ---- registers

-- what holds of a register holds of the same one
pub same_register : (P : Loc → Type 0) (l m : Loc) → is_register l m ≡ true → P m → P l
same_register P (G a) (G b) is h = subst (λ n. P (G n)) (sym (eqb-true a b is)) h
same_register P (F a) (F b) is h = subst (λ n. P (F n)) (sym (eqb-true a b is)) h
same_register P (G a) (F b) is h = cc
same_register P (G a) (S b w) is h = cc
same_register P (F a) (G b) is h = cc
same_register P (F a) (S b w) is h = cc
same_register P (S n w) m is h = cc

same_or_apart : (at l : Loc) → IsPlace 0 at → IsPlace 0 l → (l ≡ at) ⊎ IsNoneOf (at ∷ []) l
same_or_apart (G a) (G b) h k =
    elim (cases_eq b a) [
      | inl same ↦ inl (ap G same)
      | inr other ↦ inr (other, tt)
    ]
same_or_apart (F a) (F b) h k =
    elim (cases_eq b a) [
      | inl same ↦ inl (ap F same)
      | inr other ↦ inr (other, tt)
    ]
same_or_apart (G a) (F b) h k = inr (tt, tt)
same_or_apart (F a) (G b) h k = inr (tt, tt)
same_or_apart (S n w) l h k = absurd (omega (arith, h.0, h.1))
same_or_apart (G a) (S n w) h k = absurd (omega (arith, k.0, k.1))
same_or_apart (F a) (S n w) h k = absurd (omega (arith, k.0, k.1))

word_byte : (base : ℕ) (m : State) (l : Loc) (k : ℕ) → IsPlace 0 l → byte_of base m l k ≡ get_or (to_le_bytes w64 (word_in base m l)) k 0
word_byte base m (G r) k h = refl
word_byte base m (F r) k h = refl
word_byte base m (S n w) k h = absurd (omega (arith, h.0, h.1))

module _ (std : Standard) (s : Signature) where
  passing_belongs : (l : Loc) (k : ℕ) → IsPlace 0 l → is_argument_register std l ≡ true → belongs std s l k ≡ true
  passing_belongs (G r) k h passing = passing
  passing_belongs (F r) k h passing = passing
  passing_belongs (S n w) k h passing = absurd (omega (arith, h.0, h.1))

  pub other_not_free : (l : Loc) (k : ℕ) → IsPlace 0 l → is_argument_register std l ≡ false → is_free std s l k ≡ false
  other_not_free (G r) k h other = and_false (is_argument_register std (G r)) (not (carries std s (G r) k)) other
  other_not_free (F r) k h other = and_false (is_argument_register std (F r)) (not (carries std s (F r) k)) other
  other_not_free (S n w) k h passing = absurd (omega (arith, h.0, h.1))

  pub free_carries : (l : Loc) (k : ℕ) → is_free std s l k ≡ true → carries std s l k ≡ false
  free_carries l k free =
      not_true (carries std s l k) (and_right (belongs std s l k) (not (carries std s l k)) free)

  pub carries_not_free : (l : Loc) (k : ℕ) → carries std s l k ≡ true → is_free std s l k ≡ false
  carries_not_free l k has = and_not (belongs std s l k) (carries std s l k) has

  pub belongs_free : (l : Loc) (k : ℕ) → belongs std s l k ≡ true → carries std s l k ≡ false → is_free std s l k ≡ true
  belongs_free l k own has =
      both (belongs std s l k) (not (carries std s l k)) own (not_false (carries std s l k) has)

  pub frame_free : (n : ℕ) → n < frame_of std s → carries std s (S n 1) 0 ≡ false → is_free std s (S n 1) 0 ≡ true
  frame_free n h has =
      let own : nat_lt (n + 0) (frame_of std s) ≡ true = grind (arith, nat_tests, h) in
      belongs_free (S n 1) 0 own has

  pub free_in_frame : (n : ℕ) → is_free std s (S n 1) 0 ≡ true → n < frame_of std s
  free_in_frame n free =
      let own : nat_lt (n + 0) (frame_of std s) ≡ true = and_left (belongs std s (S n 1) 0) (not (carries std s (S n 1) 0)) free in
      grind (arith, nat_tests, own)

module _ (std : Standard) (s : Signature) (base byte : ℕ) where
  keep_nothing : (m : State) → RegistersKeep std s base byte m m
  keep_nothing m = record {
    each = λ l k lies h. inl refl;
    whole = λ l lies none. refl;
    sp = refl;
    mark = refl;
    within = wrote_nothing base base m;
  }

  keep_then : (a b c : State) → RegistersKeep std s base byte a b → RegistersKeep std s base byte b c → RegistersKeep std s base byte a c
  keep_then a b c f g = record {
    each = λ l k lies h. one_then l k (f.each l k lies h) (g.each l k lies h);
    whole = λ l lies none. g.whole l lies none ∙ f.whole l lies none;
    sp = g.sp ∙ f.sp;
    mark = g.mark ∙ f.mark;
    within = wrote_then base base a b c f.within g.within;
  }
    where
      one_then : (l : Loc) (k : ℕ) → IsLeftOrFree std s base byte a b l k → IsLeftOrFree std s base byte b c l k → IsLeftOrFree std s base byte a c l k
      one_then l k x (inr free) = inr free
      one_then l k (inl same) (inl still) = inl (still ∙ same)
      one_then l k (inr free) (inl still) = inr (free.0, still ∙ free.1)

  free_still : (a b : State) (l : Loc) (k : ℕ) → RegistersKeep std s base byte a b → IsPlace 0 l → k < 8 → byte_of base a l k ≡ byte → byte_of base b l k ≡ byte
  free_still a b l k keep lies h is =
      elim (keep.each l k lies h) [
        | inl still ↦ still ∙ is
        | inr free ↦ free.1
      ]

  module _ (at : Loc) (old new : State) (word next : ℕ) (lies : IsPlace 0 at) (passing : is_argument_register std at ≡ true) (word_is : word ≡ word_in base old at) (bytes : (k : ℕ) → k < 8 → get_or (to_le_bytes w64 next) k 0 ≡ (if carries std s at k then get_or (to_le_bytes w64 word) k 0 else byte)) (put : IsWordPut base at next old new) where
    overwritten : (k : ℕ) → k < 8 → carries std s at k ≡ false → byte_of base new at k ≡ byte
    overwritten k h has =
        put.here k h ∙ bytes k h ∙ if_false (carries std s at k) (get_or (to_le_bytes w64 word) k 0) byte has

    left : (k : ℕ) → k < 8 → carries std s at k ≡ true → byte_of base new at k ≡ byte_of base old at k
    left k h has =
        put.here k h ∙ bytes k h ∙ if_true (carries std s at k) (get_or (to_le_bytes w64 word) k 0) byte has ∙ ap (λ w. get_or (to_le_bytes w64 w) k 0) word_is ∙ sym (word_byte base old at k lies)

    at_itself : (k : ℕ) → k < 8 → (b : Bool) → carries std s at k ≡ b → IsLeftOrFree std s base byte old new at k
    at_itself k h true has = inl (left k h has)
    at_itself k h false has = inr (belongs_free std s at k (passing_belongs std s at k lies passing) has, overwritten k h has)

    none_free : (k : ℕ) → is_free std s at k ≡ false → (b : Bool) → carries std s at k ≡ b → carries std s at k ≡ true
    none_free k free true has = has
    none_free k free false has =
        absurd (cc (free, belongs_free std s at k (passing_belongs std s at k lies passing) has))

    pub passing_done : (((k : ℕ) → k < 8 → carries std s at k ≡ true) → next ≡ word) → new.mark ≡ old.mark → IsRegisterDone std s base byte at old new
    passing_done whole mark = record {
      free = λ k h free. overwritten k h (free_carries std s at k free);
      keep = record { each = each; whole = all; sp = put.stays.sp; mark = mark; within = wrote_wider base (base + 0) base base old new (omega arith) (omega arith) (put.within 0 lies) };
    }
      where
        each : (l : Loc) (k : ℕ) → IsPlace 0 l → k < 8 → IsLeftOrFree std s base byte old new l k
        each l k register h =
            elim (same_or_apart at l lies register) [
              | inl is ↦ subst (λ m. IsLeftOrFree std s base byte old new m k) (sym is) (at_itself k h (carries std s at k) refl)
              | inr other ↦ inl (same_byte base l old new (put.stays.others l other) k (omega (arith, h, register_is_whole l register)))
            ]

        all : (l : Loc) → IsPlace 0 l → ((k : ℕ) → k < 8 → is_free std s l k ≡ false) → word_in base new l ≡ word_in base old l
        all l register none =
            elim (same_or_apart at l lies register) [
              | inl is ↦ subst (λ m. ((k : ℕ) → k < 8 → is_free std s m k ≡ false) → word_in base new m ≡ word_in base old m) (sym is) (λ nothing. put.word ∙ whole (λ k h. none_free k (nothing k h) (carries std s at k) refl) ∙ word_is) none
              | inr other ↦ same_word_in base l old new (put.stays.others l other)
            ]

  -- ---- one after another

  pub no_register_done : (m : State) → AreRegistersDone std s base byte 0 m m
  no_register_done m = record {
    free = λ l k lies found h free. cc;
    keep = keep_nothing m;
  }

  pub one_more_done : (i : ℕ) (at : Loc) (first a b : State) → i < length std.argument_registers → at ≡ get_or std.argument_registers i at → AreRegistersDone std s base byte i first a → IsRegisterDone std s base byte at a b → AreRegistersDone std s base byte (i + 1) first b
  one_more_done i at first a b below read before done = record {
    free = free;
    keep = keep_then first a b before.keep done.keep;
  }
    where
      free : (l : Loc) (k : ℕ) → IsPlace 0 l → list_any (is_register l) (take (i + 1) std.argument_registers) ≡ true → k < 8 → is_free std s l k ≡ true → byte_of base b l k ≡ byte
      free l k lies found h is =
          elim (either (list_any (is_register l) (take i std.argument_registers)) (is_register l at) (sym (list_any_more (is_register l) std.argument_registers i at below ∙ ap (λ m. list_any (is_register l) (take i std.argument_registers) || is_register l m) (sym read)) ∙ found)) [
            | inl earlier ↦ free_still a b l k done.keep lies h (before.free l k lies earlier h is)
            | inr here ↦ same_register (λ m. is_free std s m k ≡ true → byte_of base b m k ≡ byte) l at here (done.free k h) is
          ]

  -- ---- the frame

  pub no_byte_done : (m : State) → IsFrameDone std s base byte 0 m m
  no_byte_done m = record {
    free = λ n below is. absurd (omega (arith, below));
    kept = λ n is. refl;
    only = only_nothing base (base + frame_of std s) m;
    falls = λ n below is. absurd (omega (arith, below));
    no_higher = omega arith;
    no_lower = inl refl;
  }

  module _ (n : ℕ) (first a : State) (before : IsFrameDone std s base byte n first a) where
    -- a byte that carries something is left
    pub byte_left : is_free std s (S n 1) 0 ≡ false → IsFrameDone std s base byte (n + 1) first a
    byte_left taken = record {
      free = λ i below is. before.free i (earlier i below is) is;
      kept = before.kept;
      only = before.only;
      falls = λ i below is. before.falls i (earlier i below is) is;
      no_higher = before.no_higher;
      no_lower = before.no_lower;
    }
      where
        earlier : (i : ℕ) → i < n + 1 → is_free std s (S i 1) 0 ≡ true → i < n
        earlier i below is =
            elim (cases_lt i n) [
              | inl less ↦ less
              | inr more ↦ (
                  let here : i ≡ n = omega (arith, below, more) in
                  absurd (cc (subst (λ j. is_free std s (S j 1) 0 ≡ true) here is, taken))
                  )
            ]

    -- a free one is overwritten
    pub byte_written : (b : State) → b ≡ filled (base + n) 1 byte a → STACK ≤ base → base + frame_of std s ≤ STACK_TOP → length a.stack ≡ STACK_BYTES → n < frame_of std s → is_free std s (S n 1) 0 ≡ true → IsFrameDone std s base byte (n + 1) first b
    byte_written b b_is low high sized inside free_here = subst (IsFrameDone std s base byte (n + 1) first) (sym is) done
      where
        c : State
        c = stored (base + n) (byte ∷ []) a

        is : b ≡ c
        is = b_is

        fits : base + n - STACK + 1 ≤ length a.stack
        fits = omega (arith, low, high, sized, inside)

        low_n : STACK ≤ base + n
        low_n = omega (arith, low)

        other : (i : ℕ) → i ≢ n → stack_byte c (base + i) ≡ stack_byte a (base + i)
        other i apart =
            stored_outside (base + n) (byte ∷ []) a low_n fits (base + i - STACK) (elim (cases_lt i n) [
              | inl less ↦ inl (omega (arith, low, less))
              | inr more ↦ inr (omega (arith, low, more, apart))
            ])

        here : stack_byte c (base + n) ≡ byte
        here =
            let there : base + n + 0 ≡ base + n = omega arith in
            ap (stack_byte c) (sym there) ∙ stored_inside (base + n) (byte ∷ []) a low_n fits 0 (omega arith)

        free : (i : ℕ) → i < n + 1 → is_free std s (S i 1) 0 ≡ true → stack_byte c (base + i) ≡ byte
        free i below is_free_there =
            elim (cases_eq i n) [
              | inl same ↦ ap (λ j. stack_byte c (base + j)) same ∙ here
              | inr apart ↦ other i apart ∙ before.free i (omega (arith, below, apart)) is_free_there
            ]

        kept : (i : ℕ) → is_free std s (S i 1) 0 ≡ false → stack_byte c (base + i) ≡ stack_byte first (base + i)
        kept i taken =
            elim (cases_eq i n) [
              | inl same ↦ absurd (cc (free_here, subst (λ j. is_free std s (S j 1) 0 ≡ false) same taken))
              | inr apart ↦ other i apart ∙ before.kept i taken
            ]

        mark_is : c.mark ≡ min a.mark (base + n)
        mark_is = refl

        falls : (i : ℕ) → i < n + 1 → is_free std s (S i 1) 0 ≡ true → c.mark ≤ base + i
        falls i below is_free_there =
            elim (cases_eq i n) [
              | inl same ↦ omega (arith, mark_is, same)
              | inr apart ↦ omega (arith, mark_is, before.falls i (omega (arith, below, apart)) is_free_there)
            ]

        no_lower : (c.mark ≡ first.mark) ⊎ ((i : ℕ) × (is_free std s (S i 1) 0 ≡ true) × (c.mark ≡ base + i))
        no_lower =
            elim (cases_lt a.mark (base + n)) [
              | inl above ↦ (
                  let same : c.mark ≡ a.mark = omega (arith, mark_is, above) in
                  subst (λ k. (k ≡ first.mark) ⊎ ((i : ℕ) × (is_free std s (S i 1) 0 ≡ true) × (k ≡ base + i))) (sym same) before.no_lower
                  )
              | inr below ↦ inr (n, free_here, omega (arith, mark_is, below))
            ]

        only : WroteOnly base (base + frame_of std s) first c
        only =
            only_then base (base + frame_of std s) first a c before.only (only_wider (base + n) (base + n + 1) base (base + frame_of std s) a c (omega arith) (omega (arith, inside)) (only_stored (base + n) (byte ∷ []) a low_n fits))

        done : IsFrameDone std s base byte (n + 1) first c
        done = record { free = free; kept = kept; only = only; falls = falls; no_higher = omega (arith, mark_is, before.no_higher); no_lower = no_lower }

-- ---- the eight bytes of a word, some of which were overwritten

low_byte : (n : ℕ) → n % 256 < 256
low_byte n = omega arith

word_bytes : (word k : ℕ) → k < 8 → get_or (to_le_bytes w64 word) k 0 < 256
word_bytes word =
    each_of_eight (λ k. get_or (to_le_bytes w64 word) k 0 < 256) (low_byte word) (low_byte (word / 256)) (low_byte (word / 65536)) (low_byte (word / 16777216)) (low_byte (word / 4294967296)) (low_byte (word / 1099511627776)) (low_byte (word / 281474976710656)) (low_byte (word / 72057594037927936))

chosen_byte : (b : Bool) (x y : ℕ) → x < 256 → y < 256 → (if b then x else y) < 256
chosen_byte true x y h k = h
chosen_byte false x y h k = k

pub word_of_chosen : (test : ℕ → Bool) (bytes : List ℕ) (word byte result : ℕ) → byte < 256 → length bytes ≡ 8 → ((k : ℕ) → k < 8 → get_or bytes k 0 ≡ (if test k then get_or (to_le_bytes w64 word) k 0 else byte)) → result ≡ from_le_bytes w64 bytes → to_le_bytes w64 result ≡ bytes
word_of_chosen test bytes word byte result small sized are is = le_bytes_8 bytes result sized below is
  where
    below : (i : ℕ) → get_or bytes i 0 < 256
    below i =
        elim (cases_lt i 8) [
          | inl inside ↦ subst (λ n. n < 256) (sym (are i inside)) (chosen_byte (test i) (get_or (to_le_bytes w64 word) i 0) byte (word_bytes word i inside) small)
          | inr past ↦ (let none = get_or_past bytes i 0 (omega (arith, sized, past)) in omega (arith, none))
        ]

-- ---- registers that are closed to arguments are no argument registers

not_equal : (a b : ℕ) → a ≢ b → (a == b) ≡ false
not_equal a b h = grind (arith, nat_tests, h)

other_register : (l m : Loc) → IsPlace 0 l → Apart l m → is_register l m ≡ false
other_register (G a) (G b) h apart = not_equal a b apart
other_register (F a) (F b) h apart = not_equal a b apart
other_register (G a) (F b) h apart = refl
other_register (G a) (S b w) h apart = refl
other_register (F a) (G b) h apart = refl
other_register (F a) (S b w) h apart = refl
other_register (S n w) m h apart = absurd (omega (arith, h.0, h.1))

other_registers : (l : Loc) → IsPlace 0 l → (ls : List Loc) → AllByRecursion (Apart l) ls → list_any (is_register l) ls ≡ false
other_registers l register [] h = refl
other_registers l register (m ∷ ls) h =
    both_false (is_register l m) (list_any (is_register l) ls) (other_register l m register h.0) (other_registers l register ls h.1)

-- ---- argument registers are registers that are written

pub passing_place : (std : Standard) → AgreesWithMachine std → (i : ℕ) (at : Loc) → i < length std.argument_registers → at ≡ get_or std.argument_registers i at → IsPlace 0 at
passing_place std agrees i at below read =
    each_read (IsPlace 0) std.argument_registers i at below read (machine_places (isa_of std.target) 0 std.argument_registers agrees.arguments_exist)

pub passing_written : (std : Standard) → AgreesWithMachine std → (target kind : Target) → std.target ≡ kind → target ≡ kind → (i : ℕ) (at : Loc) → i < length std.argument_registers → at ≡ get_or std.argument_registers i at → IsWritable target at
passing_written std agrees target kind is same i at below read =
    let plain = each_read (λ l. AllByRecursion (Apart l) (closed_to_arguments std)) std.argument_registers i at below read agrees.arguments_plain in
    let closed = each_first (Apart at) (closed_to_results std) (std.trampoline_registers ++ to_list std.vector_count) plain in
    let rest = each_rest (Apart at) std.callee_saved (std.reserved ++ to_list std.link_register) closed.1 in
    subst (λ t. IsWritable t at) (is ∙ sym same) (agrees.written at (each_first (Apart at) std.reserved (to_list std.link_register) rest))

pub is_passing : (std : Standard) (i : ℕ) (at : Loc) → IsPlace 0 at → i < length std.argument_registers → at ≡ get_or std.argument_registers i at → is_argument_register std at ≡ true
is_passing std i at lies below read =
    list_any_at (is_register at) std.argument_registers i at below (ap (is_register at) (sym read) ∙ itself at lies)
  where
    itself : (l : Loc) → IsPlace 0 l → is_register l l ≡ true
    itself (G r) h = eq-eqb r r refl
    itself (F r) h = eq-eqb r r refl
    itself (S n w) h = absurd (omega (arith, h.0, h.1))

-- ---- what is closed to arguments are registers

pointer_place : (isa : Isa) → IsPlace 0 (G (stack_pointer isa))
pointer_place Amd64 = omega arith
pointer_place Aarch64 = omega arith
pointer_place Riscv = omega arith

reserved_are : (isa : Isa) → AllByRecursion (IsPlace 0) (reserved_places isa)
reserved_are Amd64 = tt
reserved_are Aarch64 = (omega arith, tt)
reserved_are Riscv = (omega arith, (omega arith, (omega arith, tt)))

link_is : (isa : Isa) → AllByRecursion (IsPlace 0) (to_list (link_place isa))
link_is Amd64 = tt
link_is Aarch64 = (omega arith, tt)
link_is Riscv = (omega arith, tt)

trampoline_are : (isa : Isa) → AllByRecursion (IsPlace 0) (trampoline_registers isa)
trampoline_are Amd64 = (omega arith, tt)
trampoline_are Aarch64 = (omega arith, (omega arith, tt))
trampoline_are Riscv = (omega arith, (omega arith, tt))

closed_are : (std : Standard) → AgreesWithMachine std → AllByRecursion (IsPlace 0) (closed_to_arguments std)
closed_are std agrees =
    let isa = isa_of std.target in
    each_join (IsPlace 0) (closed_to_results std) (std.trampoline_registers ++ to_list std.vector_count) (
      subst (IsPlace 0) (sym agrees.stack_pointer) (pointer_place (isa_of std.target)),
      each_join (IsPlace 0) std.callee_saved (std.reserved ++ to_list std.link_register) (machine_places (isa_of std.target) 0 std.callee_saved agrees.callee_saved_exist)
          (each_join (IsPlace 0) std.reserved (to_list std.link_register) (subst (AllByRecursion (IsPlace 0)) (sym agrees.reserved) (reserved_are (isa_of std.target))) (subst (λ o. AllByRecursion (IsPlace 0) (to_list o)) (sym agrees.link_register) (link_is (isa_of std.target)))),
    )
    (each_join (IsPlace 0) std.trampoline_registers (to_list std.vector_count) (subst (AllByRecursion (IsPlace 0)) (sym agrees.trampoline) (trampoline_are (isa_of std.target))) (machine_places (isa_of std.target) 0 (to_list std.vector_count) agrees.count_exists))

-- ---- registers, then the frame

-- a byte of a register that is free is an argument register's
free_passing : (std : Standard) (s : Signature) (l : Loc) (k : ℕ) → IsPlace 0 l → is_free std s l k ≡ true → is_argument_register std l ≡ true
free_passing std s (G r) k h free = and_left (is_argument_register std (G r)) (not (carries std s (G r) k)) free
free_passing std s (F r) k h free = and_left (is_argument_register std (F r)) (not (carries std s (F r) k)) free
free_passing std s (S n w) k h free = absurd (omega (arith, h.0, h.1))

register_still : (base : ℕ) (a b : State) (l : Loc) (k : ℕ) → IsPlace 0 l → b.general ≡ a.general → b.floating ≡ a.floating → byte_of base b l k ≡ byte_of base a l k
register_still base a b (G r) k h general floating = ap (λ xs. get_or (to_le_bytes w64 (get_or xs r 0)) k 0) general
register_still base a b (F r) k h general floating = ap (λ xs. get_or (to_le_bytes w64 (get_or xs r 0)) k 0) floating
register_still base a b (S n w) k h general floating = absurd (omega (arith, h.0, h.1))

word_still : (base : ℕ) (a b : State) (l : Loc) → IsPlace 0 l → b.general ≡ a.general → b.floating ≡ a.floating → word_in base b l ≡ word_in base a l
word_still base a b (G r) h general floating = ap (λ xs. get_or xs r 0) general
word_still base a b (F r) h general floating = ap (λ xs. get_or xs r 0) floating
word_still base a b (S n w) h general floating = absurd (omega (arith, h.0, h.1))

pub poisoned : (std : Standard) (s : Signature) (base byte : ℕ) (first a b : State) → AgreesWithMachine std → STACK ≤ base → AreRegistersDone std s base byte (length std.argument_registers) first a → IsFrameDone std s base byte (frame_of std s) a b → IsPoisoned std s base byte first b
poisoned std s base byte first a b agrees low registers frame = record {
  register_free = λ l k lies h free. still l k lies ∙ registers.free l k lies (among l k lies free) h free;
  register_kept = λ l k lies h taken. still l k lies ∙ left l k taken (registers.keep.each l k lies h);
  frame_free = λ n free. frame.free n (free_in_frame std s n free) free;
  frame_kept = λ n taken. frame.kept n taken ∙ registers.keep.within.outside (base + n - STACK) (inr (omega (arith, low)));
  whole = whole;
  others = others;
  closed = each_both (IsPlace 0) (λ l. AllByRecursion (Apart l) std.argument_registers) (λ l. word_in base b l ≡ word_in base first l) (λ l lies apart. others l lies (other_registers l lies std.argument_registers apart)) (closed_to_arguments std) (closed_are std agrees) (across_none std.argument_registers (closed_to_arguments std) agrees.arguments_plain);
  sp = frame.only.sp ∙ registers.keep.sp;
  within = wrote_then base (base + frame_of std s) first a b (wrote_wider base base base (base + frame_of std s) first a (omega arith) (omega arith) registers.keep.within) frame.only.within;
  mark = subst (λ m. MarkFalls (λ n. is_free std s (S n 1) 0) base m b.mark) registers.keep.mark marked;
}
  where
    among : (l : Loc) (k : ℕ) → IsPlace 0 l → is_free std s l k ≡ true → list_any (is_register l) (take (length std.argument_registers) std.argument_registers) ≡ true
    among l k lies free =
        ap (list_any (is_register l)) (take_all (length std.argument_registers) std.argument_registers (omega arith)) ∙ free_passing std s l k lies free

    still : (l : Loc) (k : ℕ) → IsPlace 0 l → byte_of base b l k ≡ byte_of base a l k
    still l k lies = register_still base a b l k lies frame.only.general frame.only.floating

    left : (l : Loc) (k : ℕ) → is_free std s l k ≡ false → (byte_of base a l k ≡ byte_of base first l k) ⊎ ((is_free std s l k ≡ true) × (byte_of base a l k ≡ byte)) → byte_of base a l k ≡ byte_of base first l k
    left l k taken (inl same) = same
    left l k taken (inr free) = absurd (cc (taken, free.0))

    whole : (l : Loc) → IsPlace 0 l → ((k : ℕ) → k < 8 → is_free std s l k ≡ false) → word_in base b l ≡ word_in base first l
    whole l lies none =
        word_still base a b l lies frame.only.general frame.only.floating ∙ registers.keep.whole l lies none

    others : (l : Loc) → IsPlace 0 l → is_argument_register std l ≡ false → word_in base b l ≡ word_in base first l
    others l lies other = whole l lies (λ k h. other_not_free std s l k lies other)

    marked : MarkFalls (λ n. is_free std s (S n 1) 0) base a.mark b.mark
    marked = record {
      falls = λ n free. frame.falls n (free_in_frame std s n free) free;
      no_higher = frame.no_higher;
      no_lower = frame.no_lower;
    }

-- ---- the image

module _ (std : Standard) (s : Signature) (byte : ℕ) (a b : State) (low : STACK ≤ a.sp) (high : a.sp + std.link + frame_of std s ≤ STACK_TOP) (sized : length a.stack ≡ STACK_BYTES) (is : IsPoisoned std s (a.sp + std.link) byte a b) where
  frame_byte : (m : State) (n : ℕ) → m.sp ≡ a.sp → n < frame_of std s → get_or (stack_at m.sp (std.link + frame_of std s) m) (std.link + n) 0 ≡ stack_byte m (a.sp + std.link + n)
  frame_byte m n same below =
      let there : m.sp - STACK + (std.link + n) ≡ a.sp + std.link + n - STACK = omega (arith, low, same) in
      get_or-take (std.link + frame_of std s) (drop (m.sp - STACK) m.stack) (std.link + n) 0 (omega (arith, below)) ∙ get_or-drop (m.sp - STACK) m.stack (std.link + n) 0 ∙ ap (λ i. get_or m.stack i 0) there

  agree : AgreeWhere std.link (frame_of std s) (carries std s) (image_of (std.link + frame_of std s) a) (image_of (std.link + frame_of std s) b)
  agree = record {
    bytes = bytes;
    words = words;
    stack = λ n below has. frame_byte b n is.sp below ∙ is.frame_kept n (carries_not_free std s (S n 1) 0 has) ∙ sym (frame_byte a n refl below);
    sp = is.sp;
    reaches = omega (arith, length_part b.stack (b.sp - STACK) (std.link + frame_of std s) (omega (arith, is.sp, is.within.size, low, high, sized)));
  }
    where
      bytes : (l : Loc) (k : ℕ) → IsPlace 0 l → k < 8 → carries std s l k ≡ true → byte_at (image_of (std.link + frame_of std s) b) std.link l k ≡ byte_at (image_of (std.link + frame_of std s) a) std.link l k
      bytes (G r) k lies h has = is.register_kept (G r) k lies h (carries_not_free std s (G r) k has)
      bytes (F r) k lies h has = is.register_kept (F r) k lies h (carries_not_free std s (F r) k has)
      bytes (S n w) k lies h has = absurd (omega (arith, lies.0, lies.1))

      words : (l : Loc) → IsPlace 0 l → ((k : ℕ) → k < 8 → carries std s l k ≡ true) → word_at (image_of (std.link + frame_of std s) b) std.link l ≡ word_at (image_of (std.link + frame_of std s) a) std.link l
      words (G r) lies has = is.whole (G r) lies (λ k h. carries_not_free std s (G r) k (has k h))
      words (F r) lies has = is.whole (F r) lies (λ k h. carries_not_free std s (F r) k (has k h))
      words (S n w) lies has = absurd (omega (arith, lies.0, lies.1))

  pub still_owned : IsSound std s → SignatureHasNoFault s → (vs : List ValueTree) → OwnsAtEntry std s a vs → OwnsAtEntry std s b vs
  still_owned sound right vs own =
      let old = image_of (std.link + frame_of std s) a in
      let new = image_of (std.link + frame_of std s) b in
      let p = plan_of std s in record {
        reaches = agree.reaches;
        arguments = arguments_same std.link (frame_of std s) (carries std s) old new agree ForAmd64 s.arguments p.places vs (all_ready std s sound right ForAmd64 (each_writable (argument_locs (plan_of std s)))) (λ m j has. or_right (hidden_has m j p.res) (places_have m j s.arguments p.places) has) own.arguments;
        hidden = hidden_same std.link (frame_of std s) (carries std s) old new agree p.res (hidden_in_frame std s sound right) (λ m j has. or_left (hidden_has m j p.res) (places_have m j s.arguments p.places) has) own.hidden;
      }

-- ---- the return address

return_at : (isa : Isa) (base high : ℕ) (a b : State) → base ≡ a.sp + pushed_bytes isa → base ≤ STACK_TOP → length a.stack ≡ STACK_BYTES → b.sp ≡ a.sp → WroteWithin base high a b → AllByRecursion (λ l. word_in base b l ≡ word_in base a l) (to_list (link_place isa)) → HasReturnAt (link_register isa) a.general a.sp a.stack → HasReturnAt (link_register isa) b.general b.sp b.stack
return_at Amd64 base high a b base_is top sized same w words h =
    let still = stretch_stays base high a.sp 8 a b h.0 (omega (arith, base_is, top, sized, h.0)) (inl (omega (arith, base_is))) w in
    (omega (arith, same, h.0), ap (λ n. stack_at n 8 b) same ∙ still ∙ h.1)
return_at Aarch64 base high a b base_is top sized same w words h = words.0 ∙ h
return_at Riscv base high a b base_is top sized same w words h = words.0 ∙ h

pub return_still : (std : Standard) (s : Signature) (byte : ℕ) (a b : State) → AgreesWithMachine std → a.target ≡ std.target → a.sp + std.link + frame_of std s ≤ STACK_TOP → length a.stack ≡ STACK_BYTES → IsPoisoned std s (a.sp + std.link) byte a b → HasReturnAddress a → HasReturnAddress b
return_still std s byte a b agrees target_is high sized is h =
    let base = a.sp + std.link in
    let isa = isa_of std.target in
    let Same : Loc → Type 0 = λ l. word_in (a.sp + std.link) b l ≡ word_in (a.sp + std.link) a l in
    let closed = each_first Same (closed_to_results std) (std.trampoline_registers ++ to_list std.vector_count) is.closed in
    let links = each_rest Same std.reserved (to_list std.link_register) (each_rest Same std.callee_saved (std.reserved ++ to_list std.link_register) closed.1) in
    let base_is : a.sp + std.link ≡ a.sp + pushed_bytes (isa_of std.target) = ap (λ n. a.sp + n) agrees.link in
    subst (λ t. HasReturnAt (link_register (isa_of t)) b.general b.sp b.stack) (sym (is.within.target ∙ target_is))
    (return_at isa base (base + frame_of std s) a b base_is (omega (arith, high)) sized is.sp is.within (subst (λ o. AllByRecursion Same (to_list o)) agrees.link_register links) (subst (λ t. HasReturnAt (link_register (isa_of t)) a.general a.sp a.stack) target_is h))
