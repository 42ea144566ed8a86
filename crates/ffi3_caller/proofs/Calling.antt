-- The arguments of a call, then the hidden result's address, then the number of vector registers.
use Rattle.std.specs.Prelude.{true, Option, Some, None}
use Rattle.std.proofs.Common.{◌≡◌, ℕ, zero, suc, ◌+◌, ◌-◌, ◌<◌, ◌≤◌, List, [], ◌∷◌, ◌++◌, get_or, length, replicate, subst, sym, ◌∙◌, ap, refl, arith}
use Rattle.std.specs.List.{AllByRecursion, flat_map, replace_range}
use Rattle.std.proofs.lemmas.List.{get_or-replicate, length-replicate}
use Rattle.ffi3_type_spec.specs.declared.Target.{Target}
use Rattle.ffi3_type_spec.specs.declared.Isa.{Isa}
use Rattle.ffi3_type_spec.specs.declared.Isa.TheVariants.{Amd64, Aarch64, Riscv}
use Rattle.ffi3_type_spec.specs.declared.limits.TheConstants.{STACK}
use Rattle.ffi3_type_spec.specs.TargetIsa.{isa_of}
use Rattle.ffi3_type_spec.specs.Tree.{Tree, trees_of}
use Rattle.ffi3_type_spec.specs.Signature.{Signature, SignatureHasNoFault}
use Rattle.ffi3_type_spec.specs.Value.{ValueTree, all_fit, values_of}
use Rattle.ffi3_place_spec.specs.declared.Loc.{Loc}
use Rattle.ffi3_place_spec.specs.declared.Loc.TheVariants.{S}
use Rattle.ffi3_place_spec.specs.declared.Place.{Place}
use Rattle.ffi3_place_spec.specs.declared.Place.TheVariants.{Direct, ByRef}
use Rattle.ffi3_place_spec.specs.declared.Res.{Res}
use Rattle.ffi3_place_spec.specs.declared.Res.TheVariants.{Hidden}
use Rattle.ffi3_place_spec.specs.MachineRegisters.{reserved_places, to_list}
use Rattle.ffi3_place_spec.specs.Standard.{Standard, plan_of, frame_of}
use Rattle.ffi3_place_spec.specs.Agrees.{AgreesWithMachine, given_back, special}
use Rattle.ffi3_place_spec.specs.Holds.{FillArguments, OwnsArguments, OwnsHidden, RegisterHolds}
use Rattle.ffi3_place_spec.specs.Sound.{Apart, IsNoneOf, IsSound, PlacesHaveAll, argument_locs, buffer_locs, copy_locs, hidden_locs, closed_to_arguments, closed_to_results, place_locs, stack_words, stack_words_for}
use Rattle.ffi3_machine_spec.specs.State.{State, image_of, filled, stored, lowered, scribbled, scribbled_general, scribbled_register, with_sp}
use Rattle.ffi3_machine.specs.Scribbled.{get_or-scribbled_general}
use Rattle.ffi3_machine_transfer.specs.Stored.{stack_byte, IsPlace, IsWritable, SameAt, Stays, WroteWithin}
use Rattle.ffi3_machine_transfer.specs.Standing.{AllKeepUnused, AllStand, all_uses, HiddenStands}
use Rattle.ffi3_marshal.proofs.Composing.{none_append}
use Rattle.ffi3_machine_transfer.proofs.Composing.{by_register, lie_more, register_is, same_then, sp_moved, wrote_then}
use Rattle.ffi3_machine_transfer.proofs.Tables.{each_with, reserved_are_places}
use Rattle.ffi3_machine_transfer.proofs.Putting.{stored_inside, stored_within}
use Rattle.ffi3_machine_transfer.proofs.Stepping.{same_word_in}
use Rattle.ffi3_machine_transfer.proofs.Owning.{image_word, owned, filled as all_filled}
use Rattle.ffi3_marshal.proofs.Lawful.{each_first, each_rest, each_join, each_map, apart_first, apart_across, across_none, across_first, uses_each, machine_places, call_places, all_ready}
use Rattle.ffi3_machine_transfer.proofs.Arguments.{all_keep_stay, all_stay}
use Rattle.ffi3_caller.specs.Called.{CountStands}

-- ---- the frame

filled_is : (addr len byte : ℕ) (s : State) → filled addr len byte s ≡ stored addr (replicate len byte) s
filled_is addr len byte s =
    let n : len ≡ length (replicate len byte) = sym (length-replicate len byte) in
    ap (λ k. record s {
      stack = replace_range s.stack (addr - STACK) (addr - STACK + k) (replicate len byte);
      mark = lowered s.mark addr k;
    }) n

pub filled_within : (addr len byte : ℕ) (s : State) → STACK ≤ addr → addr - STACK + len ≤ length s.stack → WroteWithin addr (addr + len) s (filled addr len byte s)
filled_within addr len byte s low fits =
    let n = length-replicate len byte in
    subst (WroteWithin addr (addr + len) s) (sym (filled_is addr len byte s)) (stored_within addr (replicate len byte) s low (omega (arith, n, fits)) addr (addr + len) (omega arith) (omega (arith, n)))

pub filled_bytes : (addr len byte : ℕ) (s : State) → STACK ≤ addr → addr - STACK + len ≤ length s.stack → (i : ℕ) → i < len → stack_byte (filled addr len byte s) (addr + i) ≡ byte
filled_bytes addr len byte s low fits i below =
    let n = length-replicate len byte in
    subst (λ m. stack_byte m (addr + i) ≡ byte) (sym (filled_is addr len byte s)) (stored_inside addr (replicate len byte) s low (omega (arith, n, fits)) i (omega (arith, n, below)) ∙ get_or-replicate len i byte 0 below)

-- ---- registers and the stack are apart

register_apart : (l : Loc) (at n : ℕ) → IsPlace 0 l → AllByRecursion (Apart l) (stack_words at n)
register_apart l at zero h = tt
register_apart l at (suc n) h = (by_register (λ l. Apart l (S at 8)) (λ r below. tt) (λ r below. tt) l h, register_apart l (at + 8) n h)

register_apart_copies : (l : Loc) (ts : List Tree) (ps : List Place) → IsPlace 0 l → AllByRecursion (Apart l) (copy_locs ts ps)
register_apart_copies l [] ps h = tt
register_apart_copies l (t ∷ ts) [] h = tt
register_apart_copies l (t ∷ ts) (Direct pieces ∷ ps) h = register_apart_copies l ts ps h
register_apart_copies l (t ∷ ts) (ByRef at copy ∷ ps) h =
    each_join (Apart l) (stack_words_for copy t) (copy_locs ts ps) (register_apart l copy _ h) (register_apart_copies l ts ps h)

-- a register that carries no argument is none of what the arguments use
pub none_of_uses : (l : Loc) (ts : List Tree) (ps : List Place) → PlacesHaveAll ts ps → IsPlace 0 l → IsNoneOf (flat_map place_locs ps) l → IsNoneOf (all_uses ts ps) l
none_of_uses l ts ps all h none = uses_each (Apart l) ts ps all none (register_apart_copies l ts ps h)

-- ---- the laws

module _ (std : Standard) (s : Signature) (sound : IsSound std s) where
  abbrev places : List Place
  places = (plan_of std s).places

  abbrev hidden : List Loc
  hidden = hidden_locs (plan_of std s).res

  pub hidden_clear : AllByRecursion (IsNoneOf (hidden_locs (plan_of std s).res)) (all_uses s.arguments (plan_of std s).places)
  hidden_clear =
      let copies = copy_locs s.arguments (plan_of std s).places in
      let buffer = buffer_locs s.result_type (plan_of std s).res in
      let flat = flat_map place_locs (plan_of std s).places in
      let across = apart_across (argument_locs (plan_of std s)) (copies ++ buffer) sound.apart in
      let to_copies = across_first hidden copies buffer (each_first (λ x. AllByRecursion (Apart x) (copies ++ buffer)) hidden flat across) in
      let to_places = apart_across hidden flat (apart_first (argument_locs (plan_of std s)) (copies ++ buffer) sound.apart) in
      uses_each (IsNoneOf hidden) s.arguments places sound.has_all (across_none hidden flat to_places) (across_none hidden copies to_copies)

  pub hidden_lies : SignatureHasNoFault s → (room : ℕ) → frame_of std s ≤ room → AllByRecursion (IsPlace room) (hidden_locs (plan_of std s).res)
  hidden_lies right room h =
      each_map (IsPlace (frame_of std s)) (IsPlace room) (lie_more (frame_of std s) room h) (hidden_locs (plan_of std s).res) (each_first (IsPlace (frame_of std s)) (hidden_locs (plan_of std s).res) (flat_map place_locs (plan_of std s).places) (each_first (IsPlace (frame_of std s)) (argument_locs (plan_of std s)) (copy_locs s.arguments (plan_of std s).places ++ buffer_locs s.result_type (plan_of std s).res) (call_places std s sound right)))

  -- the register that tells the number carries no argument
  count_free : AllByRecursion (IsNoneOf (to_list std.vector_count)) (argument_locs (plan_of std s))
  count_free =
      each_map (IsNoneOf (closed_to_arguments std)) (IsNoneOf (to_list std.vector_count)) (λ l h. each_rest (Apart l) std.trampoline_registers (to_list std.vector_count) (each_rest (Apart l) (closed_to_results std) (std.trampoline_registers ++ to_list std.vector_count) h)) (argument_locs (plan_of std s)) sound.allowed

  pub count_clear : AllByRecursion (IsPlace 0) (to_list std.vector_count) → AllByRecursion (IsNoneOf (to_list std.vector_count)) (all_uses s.arguments (plan_of std s).places)
  count_clear registers =
      let copies = copy_locs s.arguments (plan_of std s).places in
      let apart = each_map (IsPlace 0) (λ x. AllByRecursion (Apart x) copies) (λ l lies. register_apart_copies l s.arguments (plan_of std s).places lies) (to_list std.vector_count) registers in
      uses_each (IsNoneOf (to_list std.vector_count)) s.arguments (plan_of std s).places sound.has_all (each_rest (IsNoneOf (to_list std.vector_count)) (hidden_locs (plan_of std s).res) (flat_map place_locs (plan_of std s).places) count_free) (across_none (to_list std.vector_count) copies apart)

  pub count_clear_of_hidden : AllByRecursion (IsNoneOf (to_list std.vector_count)) (hidden_locs (plan_of std s).res)
  count_clear_of_hidden = each_first (IsNoneOf (to_list std.vector_count)) (hidden_locs (plan_of std s).res) (flat_map place_locs (plan_of std s).places) count_free

hidden_stays : (base : ℕ) (r : Res) (ls : List Loc) (a b : State) → AllByRecursion (IsNoneOf ls) (hidden_locs r) → Stays base ls a b → HiddenStands base a r → HiddenStands base b r
hidden_stays base (Hidden at buffer) ls a b none stays stands = same_word_in base at a b (stays.others at none.0) ∙ stands
hidden_stays base _ ls a b none stays stands = tt

pub hidden_owned : (m : State) (len : ℕ) (r : Res) → STACK ≤ m.sp → AllByRecursion (IsPlace len) (hidden_locs r) → HiddenStands m.sp m r → OwnsHidden (image_of len m) 0 r
hidden_owned m len (Hidden at buffer) low lie stands =
    let none : m.sp + buffer ≡ m.sp + 0 + buffer = omega arith in
    image_word m len low at lie.0 ∙ stands ∙ none
hidden_owned m len _ low lie stands = tt

pub count_told : (m : State) (len : ℕ) (at : Option Loc) (n : ℕ) → STACK ≤ m.sp → AllByRecursion (IsPlace 0) (to_list at) → CountStands m.sp m at n → RegisterHolds (image_of len m) at n
count_told m len None n low registers stands = tt
count_told m len (Some at) n low registers stands = register_is len m.sp m at registers.0 ∙ stands

-- ---- the three stores together

pub record AreCalled (std : Standard) (s : Signature) (vs : List ValueTree) (base : ℕ) (m : State) : Type 0 where
  pub stand : AllStand base m s.arguments (plan_of std s).places vs
  pub hidden : HiddenStands base m (plan_of std s).res

pub called_all : (std : Standard) (s : Signature) → IsSound std s → SignatureHasNoFault s → (vs : List ValueTree) (target : Target) (base : ℕ) (a b c : State) → STACK ≤ base → AllByRecursion (IsWritable target) (argument_locs (plan_of std s)) → AllByRecursion (IsPlace 0) (to_list std.vector_count) →
    AllStand base a s.arguments (plan_of std s).places vs → HiddenStands base b (plan_of std s).res → Stays base (hidden_locs (plan_of std s).res) a b → Stays base (to_list std.vector_count) b c → AreCalled std s vs base c
called_all std s sound right vs target base a b c low write registers stand hidden first second =
    let ready = all_ready std s sound right target write in
    let stand_b = all_stay base target (frame_of std s) (hidden_locs (plan_of std s).res) a b s.arguments (plan_of std s).places vs low ready (hidden_clear std s sound) first stand in record {
      stand = all_stay base target (frame_of std s) (to_list std.vector_count) b c s.arguments (plan_of std s).places vs low ready (count_clear std s sound registers) second stand_b;
      hidden = hidden_stays base (plan_of std s).res (to_list std.vector_count) b c (count_clear_of_hidden std s sound) second hidden;
    }

-- a register is the same whatever the stack's places count from
register_same : (base other : ℕ) (l : Loc) (a b : State) → IsPlace 0 l → SameAt base l a b → SameAt other l a b
register_same base other l a b lies =
    by_register (λ l. SameAt base l a b → SameAt other l a b) (λ r below same. same) (λ r below same. same) l lies

-- the other registers, after all stores
pub others_same : (std : Standard) (s : Signature) → IsSound std s → (base : ℕ) (l : Loc) (z o a b c : State) → IsPlace 0 l → IsNoneOf (argument_locs (plan_of std s) ++ to_list std.vector_count) l → SameAt 0 l z o → Stays base (all_uses s.arguments (plan_of std s).places) o a → Stays base (hidden_locs (plan_of std s).res) a b → Stays base (to_list std.vector_count) b c → SameAt 0 l z c
others_same std s sound base l z o a b c h none zero_same first second third =
    let parts = none_append (argument_locs (plan_of std s)) (to_list std.vector_count) l none in
    let both = none_append (hidden_locs (plan_of std s).res) (flat_map place_locs (plan_of std s).places) l parts.0 in
    let in_uses = none_of_uses l s.arguments (plan_of std s).places sound.has_all h both.1 in
    same_then 0 l z o c zero_same (register_same base 0 l o c h (same_then base l o b c (same_then base l o a b (first.others l in_uses) (second.others l both.0)) (third.others l parts.1)))

-- bytes of the frame that carry nothing, after all stores
free_same : (std : Standard) (s : Signature) → IsSound std s → (base at w : ℕ) (o a b c : State) → AllByRecursion (IsPlace 0) (to_list std.vector_count) → IsNoneOf (argument_locs (plan_of std s) ++ copy_locs s.arguments (plan_of std s).places) (S at w) → Stays base (all_uses s.arguments (plan_of std s).places) o a → Stays base (hidden_locs (plan_of std s).res) a b → Stays base (to_list std.vector_count) b c → SameAt base (S at w) o c
free_same std s sound base at w o a b c registers none first second third =
    let parts = none_append (argument_locs (plan_of std s)) (copy_locs s.arguments (plan_of std s).places) (S at w) none in
    let both = none_append (hidden_locs (plan_of std s).res) (flat_map place_locs (plan_of std s).places) (S at w) parts.0 in
    let in_uses = uses_each (Apart (S at w)) s.arguments (plan_of std s).places sound.has_all both.1 parts.1 in
    same_then base (S at w) o b c (same_then base (S at w) o a b (first.others (S at w) in_uses) (second.others (S at w) both.0)) (third.others (S at w) (each_map (IsPlace 0) (Apart (S at w)) (by_register (Apart (S at w)) (λ r below. tt) (λ r below. tt)) (to_list std.vector_count) registers))

-- ---- the frame that is opened

pub frame_registers : (sp frame byte : ℕ) (x : State) (l : Loc) → IsPlace 0 l → SameAt 0 l x (filled sp frame byte (with_sp sp x))
frame_registers sp frame byte x l lies =
    by_register (λ l. SameAt 0 l x (filled sp frame byte (with_sp sp x))) (λ r below. refl) (λ r below. refl) l lies

pub frame_within : (sp frame byte : ℕ) (x : State) → STACK ≤ sp → sp - STACK + frame ≤ length x.stack → WroteWithin sp (sp + frame) x (filled sp frame byte (with_sp sp x))
frame_within sp frame byte x low fits =
    wrote_then sp (sp + frame) x (with_sp sp x) (filled sp frame byte (with_sp sp x)) (sp_moved sp sp (sp + frame) x) (filled_within sp frame byte (with_sp sp x) low fits)

pub frame_begun : (n number sp frame byte : ℕ) (old a b d : State) → number ≡ n → a ≡ scribbled number old → b ≡ with_sp sp a → d ≡ filled sp frame byte b → d ≡ filled sp frame byte (with_sp sp (scribbled n old))
frame_begun n number sp frame byte old a b d number_is first second third =
    third ∙ ap (filled sp frame byte) (second ∙ ap (with_sp sp) (first ∙ ap (λ k. scribbled k old) number_is))

-- ---- a call's arguments

pub record IsCallStored (std : Standard) (s : Signature) (vs : List ValueTree) (z o d : State) : Type 0 where
  pub sp : d.sp ≡ o.sp
  pub own : OwnsArguments (image_of (frame_of std s) d) 0 s.arguments (plan_of std s).places vs
  pub filled : FillArguments (image_of (frame_of std s) d) 0 s.arguments (plan_of std s).places vs
  pub hidden : OwnsHidden (image_of (frame_of std s) d) 0 (plan_of std s).res
  pub vectors : RegisterHolds (image_of (frame_of std s) d) std.vector_count (plan_of std s).vectors
  pub others : (l : Loc) → IsPlace 0 l → IsNoneOf (argument_locs (plan_of std s) ++ to_list std.vector_count) l → SameAt 0 l z d
  pub unused : AllKeepUnused o.sp o d s.arguments (plan_of std s).places
  pub free : (at w : ℕ) → IsNoneOf (argument_locs (plan_of std s) ++ copy_locs s.arguments (plan_of std s).places) (S at w) → SameAt o.sp (S at w) o d
  pub within : WroteWithin o.sp (o.sp + frame_of std s) o d

pub call_stored : (std : Standard) (s : Signature) → IsSound std s → SignatureHasNoFault s → (vs : List ValueTree) (target : Target) (base : ℕ) (r : Res) (k : Option Loc) (n : ℕ) (z o a b d : State) → base ≡ o.sp → STACK ≤ base → r ≡ (plan_of std s).res → k ≡ std.vector_count → n ≡ (plan_of std s).vectors → AllByRecursion (IsWritable target) (argument_locs (plan_of std s)) → AllByRecursion (IsPlace 0) (to_list k) → all_fit (trees_of s.arguments) (values_of vs) ≡ true →
    ((l : Loc) → IsPlace 0 l → SameAt 0 l z o) →
    AllStand o.sp a s.arguments (plan_of std s).places vs → Stays o.sp (all_uses s.arguments (plan_of std s).places) o a → WroteWithin o.sp (o.sp + frame_of std s) o a → AllKeepUnused o.sp o a s.arguments (plan_of std s).places →
    HiddenStands base b r → Stays base (hidden_locs r) a b → ((room : ℕ) → AllByRecursion (IsPlace room) (hidden_locs r) → WroteWithin base (base + room) a b) →
    CountStands base d k n → Stays base (to_list k) b d → ((room : ℕ) → WroteWithin base (base + room) b d) → IsCallStored std s vs z o d
call_stored std s sound right vs target base r k n z o a b d is low res_is count_is number_is write registers fit opened stand places_stay places_within places_keep hidden_stands hidden_stay hidden_within told count_stay count_within =
    let stand_a = subst (λ x. AllStand x a s.arguments (plan_of std s).places vs) (sym is) stand in
    let first = subst (λ x. Stays x (all_uses s.arguments (plan_of std s).places) o a) (sym is) places_stay in
    let hidden_b = subst (HiddenStands base b) res_is hidden_stands in
    let second = subst (λ q. Stays base (hidden_locs q) a b) res_is hidden_stay in
    let third = subst (λ q. Stays base (to_list q) b d) count_is count_stay in
    let in_registers = subst (λ q. AllByRecursion (IsPlace 0) (to_list q)) count_is registers in
    let ready = all_ready std s sound right target write in
    let whole = called_all std s sound right vs target base a b d low write in_registers stand_a hidden_b second third in
    let sp_is : d.sp ≡ o.sp = third.sp ∙ second.sp ∙ first.sp in
    let base_is : base ≡ d.sp = is ∙ sym sp_is in
    let low_d : STACK ≤ d.sp = omega (arith, base_is, low) in
    let lie = subst (λ q. AllByRecursion (IsPlace (frame_of std s)) (hidden_locs q)) (sym res_is) (hidden_lies std s sound right (frame_of std s) (omega arith)) in
    let later = subst (λ x. WroteWithin x (x + frame_of std s) a d) is (wrote_then base (base + frame_of std s) a b d (hidden_within (frame_of std s) lie) (count_within (frame_of std s))) in
    let told_d = subst (λ x. CountStands x d std.vector_count (plan_of std s).vectors) base_is (subst (CountStands base d std.vector_count) number_is (subst (λ q. CountStands base d q n) count_is told)) in
    let stand_d = subst (λ x. AllStand x d s.arguments (plan_of std s).places vs) base_is whole.stand in record {
      sp = sp_is;
      own = owned d (frame_of std s) low_d target s.arguments (plan_of std s).places vs ready fit stand_d;
      filled = all_filled d (frame_of std s) low_d target s.arguments (plan_of std s).places vs ready stand_d;
      hidden = hidden_owned d (frame_of std s) (plan_of std s).res low_d (hidden_lies std s sound right (frame_of std s) (omega arith)) (subst (λ x. HiddenStands x d (plan_of std s).res) base_is whole.hidden);
      vectors = count_told d (frame_of std s) std.vector_count (plan_of std s).vectors low_d in_registers told_d;
      others = λ l h none. others_same std s sound base l z o a b d h none (opened l h) first second third;
      unused = subst (λ x. AllKeepUnused x o d s.arguments (plan_of std s).places) is
          (all_keep_stay base (to_list std.vector_count) o b d s.arguments (plan_of std s).places (count_clear std s sound in_registers) third
          (all_keep_stay base (hidden_locs (plan_of std s).res) o a b s.arguments (plan_of std s).places (hidden_clear std s sound) second
          (subst (λ x. AllKeepUnused x o a s.arguments (plan_of std s).places) (sym is) places_keep)));
      free = λ at w none. subst (λ x. SameAt x (S at w) o d) is (free_same std s sound base at w o a b d in_registers none first second third);
      within = wrote_then o.sp (o.sp + frame_of std s) o a d places_within later;
    }

pub register_lies : (room : ℕ) (l : Loc) → IsPlace 0 l → IsPlace room l
register_lies room l lies = by_register (IsPlace room) (λ r below. below) (λ r below. below) l lies

pub call_within : (frame : ℕ) (x o d : State) → o.sp + frame ≡ x.sp → WroteWithin o.sp (o.sp + frame) x o → d.sp ≡ o.sp → WroteWithin o.sp (o.sp + frame) o d → WroteWithin d.sp x.sp x d
call_within frame x o d top first same second =
    subst (λ low. WroteWithin low x.sp x d) (sym same) (subst (λ high. WroteWithin o.sp high x d) top (wrote_then o.sp (o.sp + frame) x o d first second))

-- ---- reserved registers, of which a scribble writes none

scribbled_same : (isa : Isa) (n : ℕ) (m : State) (k : ℕ) → isa_of m.target ≡ isa → k < 32 → get_or (scribbled n m).general k 0 ≡ scribbled_register isa n k (get_or m.general k 0)
scribbled_same isa n m k is h =
    ap (λ i. get_or (scribbled_general i n m.general) k 0) is ∙ get_or-scribbled_general isa n m.general k h

scribble_leaves : (isa : Isa) (n : ℕ) (m : State) → isa_of m.target ≡ isa → AllByRecursion (λ l. SameAt 0 l m (scribbled n m)) (reserved_places isa)
scribble_leaves Amd64 n m is = tt
scribble_leaves Aarch64 n m is = (scribbled_same Aarch64 n m 18 is (omega arith), tt)
scribble_leaves Riscv n m is =
    (scribbled_same Riscv n m 0 is (omega arith), (scribbled_same Riscv n m 3 is (omega arith), (scribbled_same Riscv n m 4 is (omega arith), tt)))

-- ---- the register that tells the number of vector registers

module _ (std : Standard) (agrees : AgreesWithMachine std) where
  pub count_is_register : AllByRecursion (IsPlace 0) (to_list std.vector_count)
  count_is_register =
      machine_places (isa_of std.target) 0 (to_list std.vector_count) agrees.count_exists

  count_unreserved : AllByRecursion (IsNoneOf std.reserved) (to_list std.vector_count)
  count_unreserved =
      each_map (IsNoneOf (given_back std ++ (std.reserved ++ std.trampoline_registers))) (IsNoneOf std.reserved) (λ l h. each_first (Apart l) std.reserved std.trampoline_registers (each_rest (Apart l) (given_back std) (std.reserved ++ std.trampoline_registers) h)) (to_list std.vector_count) agrees.count_plain

  pub count_is_written : (target kind : Target) → std.target ≡ kind → target ≡ kind → AllByRecursion (IsWritable target) (to_list std.vector_count)
  count_is_written target kind is same =
      subst (λ k. AllByRecursion (IsWritable k) (to_list std.vector_count)) (is ∙ sym same) (each_map (IsNoneOf std.reserved) (IsWritable std.target) agrees.written (to_list std.vector_count) count_unreserved)

  -- it is none of the callee-saved registers
  count_not_preserved : AllByRecursion (IsNoneOf (to_list std.vector_count)) std.callee_saved
  count_not_preserved =
      each_map (IsNoneOf (special std)) (IsNoneOf (to_list std.vector_count)) (λ l h. plain l h.1) std.callee_saved agrees.callee_saved_plain
    where
      plain : (l : Loc) → AllByRecursion (Apart l) (std.reserved ++ (to_list std.link_register ++ (std.trampoline_registers ++ (to_list std.vector_count ++ to_list std.returned_address)))) → IsNoneOf (to_list std.vector_count) l
      plain l h =
          let link = each_rest (Apart l) std.reserved (to_list std.link_register ++ (std.trampoline_registers ++ (to_list std.vector_count ++ to_list std.returned_address))) h in
          let trampoline = each_rest (Apart l) (to_list std.link_register) (std.trampoline_registers ++ (to_list std.vector_count ++ to_list std.returned_address)) link in
          each_first (Apart l) (to_list std.vector_count) (to_list std.returned_address) (each_rest (Apart l) std.trampoline_registers (to_list std.vector_count ++ to_list std.returned_address) trampoline)

  -- and none of the reserved ones
  count_not_reserved : AllByRecursion (IsNoneOf (to_list std.vector_count)) std.reserved
  count_not_reserved = across_none (to_list std.vector_count) std.reserved count_unreserved

  -- ---- registers that a callee preserves, and reserved ones

  module _ (s : Signature) (sound : IsSound std s) (z d : State) (others : (l : Loc) → IsPlace 0 l → IsNoneOf (argument_locs (plan_of std s) ++ to_list std.vector_count) l → SameAt 0 l z d) where
    each_same : (ls : List Loc) → AllByRecursion (IsPlace 0) ls → AllByRecursion (IsNoneOf (argument_locs (plan_of std s))) ls → AllByRecursion (IsNoneOf (to_list std.vector_count)) ls → AllByRecursion (λ l. SameAt 0 l z d) ls
    each_same [] lie free none = tt
    each_same (l ∷ ls) lie free none =
        (others l lie.0 (each_join (Apart l) (argument_locs (plan_of std s)) (to_list std.vector_count) free.0 none.0), each_same ls lie.1 free.1 none.1)

    closed : AllByRecursion (IsNoneOf (argument_locs (plan_of std s))) (std.callee_saved ++ (std.reserved ++ to_list std.link_register))
    closed =
        let clear = across_none (argument_locs (plan_of std s)) (closed_to_arguments std) sound.allowed in
        (each_first (IsNoneOf (argument_locs (plan_of std s))) (closed_to_results std) (std.trampoline_registers ++ to_list std.vector_count) clear).1

    pub preserved_same : AllByRecursion (λ l. SameAt 0 l z d) std.callee_saved
    preserved_same =
        each_same std.callee_saved (machine_places (isa_of std.target) 0 std.callee_saved agrees.callee_saved_exist) (each_first (IsNoneOf (argument_locs (plan_of std s))) std.callee_saved (std.reserved ++ to_list std.link_register) closed) count_not_preserved

    reserved_same : AllByRecursion (λ l. SameAt 0 l z d) std.reserved
    reserved_same =
        each_same std.reserved (subst (AllByRecursion (IsPlace 0)) (sym agrees.reserved) (reserved_are_places (isa_of std.target))) (each_first (IsNoneOf (argument_locs (plan_of std s))) std.reserved (to_list std.link_register) (each_rest (IsNoneOf (argument_locs (plan_of std s))) std.callee_saved (std.reserved ++ to_list std.link_register) closed)) count_not_reserved

    -- a scribble leaves the reserved registers
    pub reserved_stays : (n : ℕ) (old : State) (kind : Target) → z ≡ scribbled n old → std.target ≡ kind → old.target ≡ kind → AllByRecursion (λ l. SameAt 0 l old d) std.reserved
    reserved_stays n old kind z_is is same =
        let isa_is : isa_of old.target ≡ isa_of std.target = ap isa_of (same ∙ sym is) in
        let kept = subst (AllByRecursion (λ l. SameAt 0 l old (scribbled n old))) (sym agrees.reserved) (scribble_leaves (isa_of std.target) n old isa_is) in
        each_with (λ l. SameAt 0 l old z) (λ l. SameAt 0 l z d) (λ l. SameAt 0 l old d) (λ l h k. same_then 0 l old z d h k) std.reserved (subst (λ x. AllByRecursion (λ l. SameAt 0 l old x) std.reserved) (sym z_is) kept) reserved_same
