-- A result that was given is held.
use Rattle.std.specs.Prelude.{true, ◌&&◌, Option, Some, None}
use Rattle.std.proofs.Common.{◌≡◌, inl, ⊎_elim, ℕ, ◌+◌, ◌-◌, ◌*◌, ◌<◌, ◌≤◌, List, [], ◌∷◌, take, drop, get_or, length, refl, ap, sym, ◌∙◌, subst, arith}
use Rattle.std.specs.List.{AllByRecursion}
use Rattle.std.proofs.lemmas.Bool.{cases_lt}
use Rattle.ffi3_type_spec.specs.declared.Target.{Target}
use Rattle.ffi3_type_spec.specs.declared.Target.TheVariants.{Amd64}
use Rattle.ffi3_type_spec.specs.Tree.{Tree}
use Rattle.ffi3_type_spec.specs.Layout.{leaves_of, size_of}
use Rattle.ffi3_type_spec.specs.Signature.{Signature}
use Rattle.ffi3_type_spec.specs.Value.{ValueTree, fits, value_in}
use Rattle.ffi3_type_spec.specs.TargetIsa.{isa_of}
use Rattle.ffi3_type_spec.proofs.Layouts.{least_multiple-above}
use Rattle.ffi3_type_spec.proofs.Parts.{length_part}
use Rattle.ffi3_place_spec.specs.declared.Loc.{Loc}
use Rattle.ffi3_place_spec.specs.declared.Loc.TheVariants.{G, F, S}
use Rattle.ffi3_place_spec.specs.declared.Piece.{Piece}
use Rattle.ffi3_place_spec.specs.declared.Place.TheVariants.{Direct}
use Rattle.ffi3_place_spec.specs.declared.Res.{Res}
use Rattle.ffi3_place_spec.specs.declared.Res.TheVariants.{Nothing, Direct as DirectRes, Hidden}
use Rattle.ffi3_place_spec.specs.Standard.{Standard, plan_of, frame_of}
use Rattle.ffi3_place_spec.specs.Holds.{leaf_bytes, FillsAs, FillsResult, HoldsResult, OwnsResult, RegisterHolds}
use Rattle.ffi3_place_spec.specs.Sound.{ResultHasAll, piece_locs, result_locs}
use Rattle.ffi3_type_spec.specs.declared.limits.TheConstants.{STACK, STACK_BYTES, STACK_TOP}
use Rattle.ffi3_machine_spec.specs.State.{State, stack_at, with_sp}
use Rattle.ffi3_machine_transfer.specs.Stored.{IsByteOf, IsPlace, byte_of, word_in, KeepsPadding, KeepsUnused, Stays, WroteWithin}
use Rattle.ffi3_machine_transfer.specs.Standing.{PiecesStand, IsReady}
use Rattle.ffi3_marshal.proofs.Arguments.{lies_more}
use Rattle.ffi3_machine_transfer.proofs.Composing.{by_register, rewritten, wrote_then}
use Rattle.ffi3_marshal.proofs.Lawful.{machine_places}
use Rattle.ffi3_machine_transfer.proofs.Outcomes.{buffer_within}
use Rattle.ffi3_machine_transfer.proofs.Owning.{owned, filled}
use Rattle.ffi3_machine_transfer.proofs.Stepping.{same_word_in}
use Rattle.ffi3_callee.specs.Loaded.{image_from}
use Rattle.ffi3_place_spec.specs.declared.SaveWord.{SaveWord}
use Rattle.ffi3_place_spec.proofs.OnMachine.{IsSoundOnMachine}
use Rattle.ffi3_callee.specs.Saved.{AreSaved, IsToSave, saved_word}
use Rattle.ffi3_callee.specs.Given.{IsSettable, RegisterHoldsWord, RegistersStay, ResultKeepsUnused, ResultWrites, result_uses}
use Rattle.ffi3_callee.proofs.Copying.{each_writable, stretch_stays}
use Rattle.ffi3_callee.proofs.Placing.{stack_inside}

-- a stack that stays, as a stretch in which nothing is written
pub quiet : (low high : ℕ) (a b : State) → low ≤ STACK_TOP → WroteWithin STACK_TOP STACK_TOP a b → WroteWithin low high a b
quiet low high a b h w = rewritten STACK_TOP STACK_TOP low high a b (λ i far. cases_lt (STACK + i) STACK_TOP) h w

-- a register's word, wherever stack places count from
pub register_word : (base from : ℕ) (l : Loc) (m : State) → IsPlace 0 l → word_in base m l ≡ word_in from m l
register_word base from l m lies = by_register (λ l. word_in base m l ≡ word_in from m l) (λ r below. refl) (λ r below. refl) l lies

pub registers_stay : (base : ℕ) (ls : List Loc) (a b : State) → Stays base ls a b → RegistersStay ls a b
registers_stay base ls a b s = λ l lies none.
    register_word STACK_TOP base l b lies ∙ same_word_in base l a b (s.others l none) ∙ register_word base STACK_TOP l a lies

-- the image reaches over the frame
pub frame_reached : (base frame : ℕ) (m : State) → STACK ≤ base → base + frame ≤ STACK_TOP → length m.stack ≡ STACK_BYTES → frame ≤ length (image_from base frame m).stack
frame_reached base frame m low high sized =
    let whole : length (image_from base frame m).stack ≡ frame = length_part m.stack (base - STACK) frame (omega (arith, low, high, sized)) in
    omega (arith, whole)

pub nothing_held : (std : Standard) (s : Signature) (base : ℕ) (m : State) (v : ValueTree) → STACK ≤ base → base + frame_of std s ≤ STACK_TOP → length m.stack ≡ STACK_BYTES → (plan_of std s).res ≡ Nothing → fits s.result_type v ≡ true → HoldsResult std s v (image_from base (frame_of std s) m)
nothing_held std s base m v low high sized is fit =
    let t = s.result_type in
    let frame = frame_of std s in
    record {
      own = record { reaches = frame_reached base frame m low high sized; fitting = fit; stands = subst (λ r. OwnsResult (image_from base frame m) t r v) (sym is) tt };
      filled = subst (λ r. FillsResult std (image_from base frame m) t r v) (sym is) tt;
    }

-- ---- in registers

module _ (base : ℕ) (m : State) (t : Tree) (v : ValueTree) where
  same_bytes : (l : Loc) (k : ℕ) → byte_of base (with_sp base m) l k ≡ byte_of base m l k
  same_bytes (G r) k = refl
  same_bytes _ k = refl

  same_words : (l : Loc) → word_in base m l ≡ word_in base (with_sp base m) l
  same_words (G r) = refl
  same_words _ = refl

  pieces_there : (pieces : List Piece) → PiecesStand base m t v pieces → PiecesStand base (with_sp base m) t v pieces
  pieces_there [] stand = tt
  pieces_there (p ∷ ps) stand = (
    (
      λ k h. subst (IsByteOf (leaves_of t) (leaf_bytes v) (p.off + k)) (sym (same_bytes p.loc k)) (stand.0.0 k h),
      subst (λ w. FillsAs p.ext w t v) (same_words p.loc) stand.0.1,
    ),
    pieces_there ps stand.1,
  )

-- its places are registers
pub direct_places : (std : Standard) (s : Signature) (pieces : List Piece) → IsSoundOnMachine std s → (plan_of std s).res ≡ DirectRes pieces → AllByRecursion (IsPlace 0) (piece_locs pieces)
direct_places std s pieces sound is =
    subst (λ r. AllByRecursion (IsPlace 0) (result_locs r)) is (machine_places (isa_of std.target) 0 (result_locs (plan_of std s).res) sound.result_in_registers)

-- pieces that stand in registers write nothing on the stack
pub direct_within : (std : Standard) (s : Signature) (base : ℕ) (pieces : List Piece) (a b : State) → IsSoundOnMachine std s → (plan_of std s).res ≡ DirectRes pieces → ((room : ℕ) → AllByRecursion (IsPlace room) (piece_locs pieces) → WroteWithin base (base + room) a b) → WroteWithin base base a b
direct_within std s base pieces a b sound is within =
    let none : base + 0 ≡ base = omega arith in
    subst (λ n. WroteWithin base n a b) none (within 0 (direct_places std s pieces sound is))

pub direct_writes : (std : Standard) (s : Signature) (base : ℕ) (t : Tree) (pieces : List Piece) (a b : State) → IsSoundOnMachine std s → (plan_of std s).res ≡ DirectRes pieces → ((room : ℕ) → AllByRecursion (IsPlace room) (piece_locs pieces) → WroteWithin base (base + room) a b) → ResultWrites base t (plan_of std s).res a b
direct_writes std s base t pieces a b sound is within =
    subst (λ r. ResultWrites base t r a b) (sym is) (direct_within std s base pieces a b sound is within)

pub direct_held : (std : Standard) (s : Signature) (base : ℕ) (m : State) (v : ValueTree) (pieces : List Piece) → IsSoundOnMachine std s → STACK ≤ base → base + frame_of std s ≤ STACK_TOP → length m.stack ≡ STACK_BYTES → (plan_of std s).res ≡ DirectRes pieces → fits s.result_type v ≡ true → PiecesStand base m s.result_type v pieces → HoldsResult std s v (image_from base (frame_of std s) m)
direct_held std s base m v pieces sound low high sized is fit stands =
    let t = s.result_type in
    let frame = frame_of std s in
    let all = subst (ResultHasAll t) is sound.result_has_all in
    let lie = direct_places std s pieces sound is in
    let ready : IsReady Amd64 frame t (Direct pieces) = record { has_all = all; lies = lies_more 0 frame t (Direct pieces) (omega arith) lie; writable = each_writable (piece_locs pieces) } in
    let fits_alone : (fits t v && true) ≡ true = subst (λ b. (b && true) ≡ true) (sym fit) refl in
    let own = owned (with_sp base m) frame low Amd64 (t ∷ []) (Direct pieces ∷ []) (v ∷ []) (ready, tt) fits_alone (pieces_there base m t v pieces stands, tt) in
    let full = filled (with_sp base m) frame low Amd64 (t ∷ []) (Direct pieces ∷ []) (v ∷ []) (ready, tt) (pieces_there base m t v pieces stands, tt) in
    record {
      own = record { reaches = frame_reached base frame m low high sized; fitting = fit; stands = subst (λ r. OwnsResult (image_from base frame m) t r v) (sym is) own.0.1 };
      filled = subst (λ r. FillsResult std (image_from base frame m) t r v) (sym is) full.0;
    }

pub direct_registers : (std : Standard) (base : ℕ) (res : Res) (pieces : List Piece) (a b : State) → res ≡ DirectRes pieces → Stays base (piece_locs pieces) a b → RegistersStay (result_uses std res) a b
direct_registers std base res pieces a b is s =
    subst (λ r. RegistersStay (result_uses std r) a b) (sym is) (registers_stay base (piece_locs pieces) a b s)

-- ---- in the caller's buffer

told_by : (base frame n k : ℕ) (target : Target) (m : State) (returned : Option Loc) → n ≡ k → IsSettable target returned → RegisterHoldsWord m returned n → RegisterHolds (image_from base frame m) returned k
told_by base frame n k target m (Some (G r)) same set told = told ∙ same
told_by base frame n k target m (Some (F r)) same set told = told ∙ same
told_by base frame n k target m (Some (S q w)) same set told = absurd (omega (arith, set.0.0, set.0.1))
told_by base frame n k target m None same set told = tt

pub hidden_held : (std : Standard) (s : Signature) (base address : ℕ) (target : Target) (a m : State) (v : ValueTree) (at : Loc) (buffer : ℕ) (returned : Option Loc) → STACK ≤ base → base + frame_of std s ≤ STACK_TOP → length a.stack ≡ STACK_BYTES → (plan_of std s).res ≡ Hidden at buffer → address ≡ base + buffer → fits s.result_type v ≡ true → returned ≡ std.returned_address → IsSettable target returned → value_in s.result_type (stack_at address (size_of s.result_type) a) ≡ v → WroteWithin STACK_TOP STACK_TOP a m → RegisterHoldsWord m returned address → HoldsResult std s v (image_from base (frame_of std s) m)
hidden_held std s base address target a m v at buffer returned low high sized is address_is fit returned_is set value quiet_from told =
    let t = s.result_type in
    let frame = frame_of std s in
    let within = buffer_within std s at buffer is in
    let none : 0 + buffer ≡ buffer = omega arith in
    let same : take (size_of t) (drop (0 + buffer) (stack_at base frame m)) ≡ stack_at address (size_of t) a = ap (λ n. take (size_of t) (drop n (stack_at base frame m))) none ∙ stack_inside base frame buffer (size_of t) m low within ∙ stretch_stays STACK_TOP STACK_TOP (base + buffer) (size_of t) a m (omega (arith, low)) (omega (arith, low, high, within, sized)) (inl (omega (arith, high, within))) quiet_from ∙ ap (λ n. stack_at n (size_of t) a) (sym address_is) in
    record {
      own = record { reaches = frame_reached base frame m low high (quiet_from.size ∙ sized); fitting = fit; stands = subst (λ r. OwnsResult (image_from base frame m) t r v) (sym is) (ap (value_in t) same ∙ value) };
      filled = subst (λ r. FillsResult std (image_from base frame m) t r v) (sym is) (subst (λ o. RegisterHolds (image_from base frame m) o (base + buffer)) returned_is (told_by base frame address (base + buffer) target m returned address_is set told));
    }

-- the stack below the first stack argument stays
below_stays : (base : ℕ) (t : Tree) (res : Res) (a b : State) → ResultWrites base t res a b → (i : ℕ) → STACK + i < base → get_or b.stack i 0 ≡ get_or a.stack i 0
below_stays base t Nothing a b w i h = w.outside i (inl h)
below_stays base t (DirectRes pieces) a b w i h = w.outside i (inl h)
below_stays base t (Hidden at buffer) a b w i h = w.outside i (inl (omega (arith, h)))

-- and so do words that are saved there
pub saved_below : (from base start : ℕ) (t : Tree) (res : Res) (hidden : Option Loc) (words : List SaveWord) (entry a b : State) → STACK ≤ from → from + 8 * length words ≤ base → ResultWrites base t res a b → AreSaved from start hidden words entry a → AreSaved from start hidden words entry b
saved_below from base start t res hidden words entry a b low high writes saved = λ i w below is.
    let same : saved_word from i b ≡ saved_word from i a = same_word_in from (S (8 * i) 8) a b (λ k h. below_stays base t res a b writes (from + 8 * i + k - STACK) (omega (arith, low, high, below, h))) in
    subst (IsToSave start entry hidden w) (sym same) (saved i w below is)

pub written_target : (base : ℕ) (t : Tree) (res : Res) (a b : State) → ResultWrites base t res a b → b.target ≡ a.target
written_target base t Nothing a b w = w.target
written_target base t (DirectRes pieces) a b w = w.target
written_target base t (Hidden at buffer) a b w = w.target

pub hidden_writes : (base address : ℕ) (t : Tree) (res : Res) (at : Loc) (buffer : ℕ) (a b c : State) → address + size_of t ≤ STACK_TOP → res ≡ Hidden at buffer → address ≡ base + buffer → WroteWithin address (address + size_of t) a b → WroteWithin STACK_TOP STACK_TOP b c → ResultWrites base t res a c
hidden_writes base address t res at buffer a b c high is address_is w q =
    subst (λ r. ResultWrites base t r a c) (sym is) (subst (λ n. WroteWithin n (n + size_of t) a c) address_is (wrote_then address (address + size_of t) a b c w (quiet address (address + size_of t) b c (omega (arith, high)) q)))

-- ---- what no leaf has

pub nothing_keeps : (base : ℕ) (t : Tree) (res : Res) (a b : State) → res ≡ Nothing → ResultKeepsUnused base t res a b
nothing_keeps base t res a b is = subst (λ r. ResultKeepsUnused base t r a b) (sym is) tt

pub direct_keeps : (base : ℕ) (t : Tree) (res : Res) (pieces : List Piece) (a b : State) → res ≡ DirectRes pieces → AllByRecursion (KeepsUnused base t a b) pieces → ResultKeepsUnused base t res a b
direct_keeps base t res pieces a b is keep = subst (λ r. ResultKeepsUnused base t r a b) (sym is) keep

-- the buffer, with a register set after it
pub hidden_keeps : (base address : ℕ) (t : Tree) (res : Res) (at : Loc) (buffer : ℕ) (a b c : State) → res ≡ Hidden at buffer → address ≡ base + buffer → KeepsPadding address t a b → WroteWithin STACK_TOP STACK_TOP b c → ResultKeepsUnused base t res a c
hidden_keeps base address t res at buffer a b c is address_is keep q =
    subst (λ r. ResultKeepsUnused base t r a c) (sym is) (subst (λ n. KeepsPadding n t a c) address_is (λ i below pad. q.outside (address + i - STACK) (cases_lt (STACK + (address + i - STACK)) STACK_TOP) ∙ keep i below pad))

pub keeps_from : (base other : ℕ) (t : Tree) (res : Res) (a b : State) → base ≡ other → ResultKeepsUnused base t res a b → ResultKeepsUnused other t res a b
keeps_from base other t res a b is keep = subst (λ n. ResultKeepsUnused n t res a b) is keep
