-- What the core of transfers leaves in the image of a machine, and so in the machine.
use Rattle.std.specs.Prelude.{Bool, true, false, if◌then◌else◌, slice_set}
use Rattle.std.proofs.Common.{◌≡◌, ℕ, ◌+◌, ◌-◌, ◌<◌, ◌≤◌, inl, inr, List, [], ◌∷◌, ◌++◌, take, drop, get_or, length, refl, ap, sym, ◌∙◌, subst, arith, append_assoc}
use Rattle.std.specs.Int.{w64, from_le_bytes}
use Rattle.std.specs.List.{replace_range}
use Rattle.std.proofs.lemmas.Bool.{cases_lt}
use Rattle.std.proofs.lemmas.List.{drop-drop}
use Rattle.ffi3_type_spec.specs.declared.Target.{Target}
use Rattle.ffi3_type_spec.specs.declared.limits.TheConstants.{STACK}
use Rattle.ffi3_type_spec.specs.TargetIsa.{isa_of}
use Rattle.ffi3_type_spec.specs.Tree.{Tree}
use Rattle.ffi3_type_spec.specs.Layout.{size_of}
use Rattle.ffi3_type_spec.specs.Value.{ValueTree, IsWritten, part, value_in}
use Rattle.ffi3_type_spec.proofs.Parts.{index_part, length_part}
use Rattle.ffi3_place_spec.specs.declared.Loc.{Loc}
use Rattle.ffi3_place_spec.specs.declared.Loc.TheVariants.{G, F, S}
use Rattle.ffi3_place_spec.specs.declared.Piece.{Piece}
use Rattle.ffi3_place_spec.specs.Image.{byte_at, word_at}
use Rattle.ffi3_place_spec.specs.MachineRegisters.{is_zero_register}
use Rattle.ffi3_place_spec.specs.Holds.{FillsAs}
use Rattle.ffi3_place_spec.specs.Sound.{stack_words_for}
use Rattle.ffi3_place_spec.proofs.Words.{same_bytes}
use Rattle.ffi3_marshal.specs.Stored as core
use Rattle.ffi3_marshal.specs.Read as read
use Rattle.ffi3_marshal.specs.Standing as standing
use Rattle.ffi3_machine_spec.specs.State.{State, stack_at, stored, with_general}
use Rattle.ffi3_machine_transfer.specs.Stored.{AreBytesOf, IsPieceLoaded, IsPlace, IsPut, IsSet, IsSetAndFilled, IsWordPut, IsWritable, KeepsPadding, SameAt, Stays, WroteWithin, byte_of, word_in}
use Rattle.ffi3_machine_transfer.specs.Standing.{IsCopied}
use Rattle.ffi3_machine_transfer.specs.Lent.{image_passed}

-- ---- writes

set_if : (b : Bool) (k v : ℕ) (g : List ℕ) → b ≡ false → (if b then g else slice_set g k v) ≡ slice_set g k v
set_if true k v g e = cc
set_if false k v g e = refl

pub general_image : (k v : ℕ) (m : State) → is_zero_register (isa_of m.target) k ≡ false → image_passed (with_general k v m) ≡ core.with_general k v (image_passed m)
general_image k v m e =
    ap (λ g. record { general = g; floating = m.floating; sp = STACK; stack = m.stack }) (set_if (is_zero_register (isa_of m.target) k) k v m.general e)

pub stored_image : (from : ℕ) (bytes : List ℕ) (m : State) → image_passed (stored (STACK + from) bytes m) ≡ core.stored from bytes (image_passed m)
stored_image from bytes m =
    let start : STACK + from - STACK ≡ from = omega arith in
    ap (λ xs. record { general = m.general; floating = m.floating; sp = STACK; stack = xs })
    (ap (λ n. replace_range m.stack n (n + length bytes) bytes) start ∙ append_assoc (take from m.stack) bytes (drop (from + length bytes) m.stack) ∙ ap (λ xs. take from m.stack ++ (bytes ++ xs)) (sym (drop-drop (length bytes) from m.stack)))

-- a write that the target's machine does not drop is taken
pub taken : (target : Target) (l : Loc) → IsWritable target l → core.TakesAt (λ k. is_zero_register (isa_of target) k ≡ false) l
taken target (G r) h = h
taken target (F r) h = tt
taken target (S n w) h = tt

-- ---- the same places

module _ (base start : ℕ) (at_base : base ≡ STACK + start) where
  byte_there : (m : State) (l : Loc) (k : ℕ) → byte_at (image_passed m) start l k ≡ byte_of base m l k
  byte_there m (G r) k = refl
  byte_there m (F r) k = refl
  byte_there m (S n w) k =
      let there : start + n + k ≡ base + n + k - STACK = omega (arith, at_base) in
      ap (λ i. get_or m.stack i 0) there

  pub word_there : (m : State) (l : Loc) → word_at (image_passed m) start l ≡ word_in base m l
  word_there m (G r) = refl
  word_there m (F r) = refl
  word_there m (S n w) =
      ap (from_le_bytes w64) (same_bytes (byte_at (image_passed m) start (S n w)) (byte_of base m (S n w)) w (λ k h. byte_there m (S n w) k))

  module _ (old new : State) where
    pub within_there : (room : ℕ) → WroteWithin (STACK + start) (STACK + (start + room)) old new → WroteWithin base (base + room) old new
    within_there room h =
        let high : STACK + (start + room) ≡ STACK + start + room = omega arith in
        subst (λ n. WroteWithin n (n + room) old new) (sym at_base) (subst (λ n. WroteWithin (STACK + start) n old new) high h)

    same_there : (l : Loc) → core.SameAt start l (image_passed old) (image_passed new) → SameAt base l old new
    same_there (G r) h = h
    same_there (F r) h = h
    same_there (S n w) h = λ k below. sym (byte_there new (S n w) k) ∙ h k below ∙ byte_there old (S n w) k

    stays_there : (ls : List Loc) → new.sp ≡ old.sp → core.Stays start ls (image_passed old) (image_passed new) → Stays base ls old new
    stays_there ls sp s = record { sp = sp; size = s.size; others = λ l none. same_there l (s.others l none) }

    pub put_there : (l : Loc) (bytes : List ℕ) → new.sp ≡ old.sp → ((room : ℕ) → IsPlace room l → WroteWithin base (base + room) old new) → core.IsPut start l bytes (image_passed old) (image_passed new) → IsPut base l bytes old new
    put_there l bytes sp within is = record {
      here = λ k h. sym (byte_there new l k) ∙ is.here k h;
      kept = λ k from below. sym (byte_there new l k) ∙ is.kept k from below ∙ byte_there old l k;
      stays = stays_there (l ∷ []) sp is.stays;
      within = within;
      whole = λ eight w h e. sym (word_there new l) ∙ is.whole eight w h e;
    }

    pub word_put_there : (l : Loc) (w : ℕ) → new.sp ≡ old.sp → ((room : ℕ) → IsPlace room l → WroteWithin base (base + room) old new) → core.IsWordPut start l w (image_passed old) (image_passed new) → IsWordPut base l w old new
    word_put_there l w sp within is = record {
      here = λ k h. sym (byte_there new l k) ∙ is.here k h;
      word = sym (word_there new l) ∙ is.word;
      stays = stays_there (l ∷ []) sp is.stays;
      within = within;
    }

    pub set_there : (p : Piece) (bytes : List ℕ) → new.sp ≡ old.sp → ((room : ℕ) → IsPlace room p.loc → WroteWithin base (base + room) old new) → core.IsSet start p bytes (image_passed old) (image_passed new) → IsSet base p bytes old new
    set_there p bytes sp within is = record {
      held = λ k h. sym (byte_there new p.loc k) ∙ is.held k h;
      kept = λ k from below. sym (byte_there new p.loc k) ∙ is.kept k from below ∙ byte_there old p.loc k;
      stays = stays_there (p.loc ∷ []) sp is.stays;
      within = within;
    }

    pub filled_there : (t : Tree) (v : ValueTree) (bytes : List ℕ) (p : Piece) → value_in t bytes ≡ v → new.sp ≡ old.sp → ((room : ℕ) → IsPlace room p.loc → WroteWithin base (base + room) old new) → core.IsStored start t bytes p (image_passed old) (image_passed new) → IsSetAndFilled base t v bytes p old new
    filled_there t v bytes p reads sp within is = record {
      held = λ k h. sym (byte_there new p.loc k) ∙ is.stands.held k h;
      filled = subst (λ w. FillsAs p.ext w t v) (word_there new p.loc) (subst (FillsAs p.ext (word_at (image_passed new) start p.loc) t) reads is.stands.filled);
      kept = λ free k from below. sym (byte_there new p.loc k) ∙ is.kept free k from below ∙ byte_there old p.loc k;
      stays = stays_there (p.loc ∷ []) sp is.stays;
      within = within;
    }

    -- a value that was written over what stood where its copy is
    pub copied_there : (t : Tree) (v : ValueTree) (l : Loc) (copy : ℕ) (loaded bytes : List ℕ) → length bytes ≡ size_of t → loaded ≡ stack_at (base + copy) (size_of t) old → base + copy - STACK + size_of t ≤ length old.stack → IsWritten t v loaded bytes → new.sp ≡ old.sp → ((room : ℕ) → IsPlace room l → copy + size_of t ≤ room → WroteWithin base (base + room) old new)
        → standing.IsCopied start t bytes l copy (image_passed old) (image_passed new) → IsCopied base t v l copy old new
    copied_there t v l copy loaded bytes sized is fits written sp within copied =
        let from : base + copy - STACK ≡ start + copy = omega (arith, at_base) in
        record {
          stands = record {
            address = sym (word_there new l) ∙ copied.stands.address ∙ address;
            room = omega (arith, copied.stands.room, at_base);
            reads = ap (λ n. value_in t (take (size_of t) (drop n new.stack))) from ∙ ap (value_in t) copied.stands.has ∙ written.reads_back;
          };
          unused = unused;
          stays = stays_there (l ∷ stack_words_for copy t) sp copied.stays;
          within = within;
        }
      where
        address : STACK + start + copy ≡ base + copy
        address = omega (arith, at_base)

        room : start + copy + size_of t ≤ length old.stack
        room = omega (arith, fits, at_base)

        unused : KeepsPadding (base + copy) t old new
        unused i below padding =
            let there : base + copy + i - STACK ≡ start + copy + i = omega (arith, at_base) in
            elim (cases_lt i (size_of t)) [
              | inl inside ↦
                  let old_there : base + copy - STACK + i ≡ base + copy + i - STACK = omega (arith, at_base) in
                  let few : i < length loaded = omega (arith, inside, ap length is, length_part old.stack (base + copy - STACK) (size_of t) fits) in
                  let has : get_or (part new.stack (start + copy) (size_of t)) i 0 ≡ get_or bytes i 0 = ap (λ xs. get_or xs i 0) copied.stands.has in
                  ap (λ j. get_or new.stack j 0) there ∙ sym (index_part new.stack (start + copy) (size_of t) i inside) ∙ has ∙ written.padding_stays i few padding ∙ ap (λ xs. get_or xs i 0) is ∙ index_part old.stack (base + copy - STACK) (size_of t) i inside ∙ ap (λ j. get_or old.stack j 0) old_there
              | inr behind ↦ ap (λ j. get_or new.stack j 0) there ∙ copied.kept i behind below ∙ ap (λ j. get_or old.stack j 0) (sym there)
            ]

  -- ---- what is read

  pub bytes_there : (m : State) (l : Loc) (bytes : List ℕ) → read.AreBytesOf start (image_passed m) l bytes → AreBytesOf base m l bytes
  bytes_there m l bytes are = record { here = λ k h. are.here k h ∙ byte_there m l k; behind = are.behind }

  pub loaded_there : (m : State) (p : Piece) (old new : List ℕ) → read.IsPieceRead start (image_passed m) p old new → IsPieceLoaded base m p old new
  loaded_there m p old new is = record {
    sized = is.sized;
    here = λ o c. is.here o c ∙ byte_there m p.loc (o - p.off);
    others = is.others;
  }

  -- a place in so many bytes of the stack
  pub is_there : (m : State) (l : Loc) → start ≤ length m.stack → IsPlace (length m.stack - start) l → read.IsThere (image_passed m) start l
  is_there m (G r) low lies = lies
  is_there m (F r) low lies = lies
  is_there m (S n w) low lies = (omega (arith, lies.0, lies.1, low), lies.2)
