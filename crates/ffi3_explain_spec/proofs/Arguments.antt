-- The laws of the arguments that are read by the standard alone.
use Rattle.std.specs.Prelude.{◌-◌, ◌&&◌, nat_le, cond, slice_get, Option, Some, None}
use Rattle.std.proofs.Common.{◌≡◌, ℕ, zero, suc, ◌+◌, ◌<◌, ◌≤◌, Bool, true, false, List, [], ◌∷◌, ◌++◌, get_or, length, take, drop, refl, ap, sym, ◌∙◌, subst, arith, length-take, length-drop}
use Rattle.std.specs.List.{AllByRecursion, flat_map}
use Rattle.std.specs.Int.{w64, to_le_bytes}
use Rattle.std.proofs.lemmas.Bool.Decides.{nat_tests}
use Rattle.ffi3_type_spec.specs.declared.Isa.{Isa}
use Rattle.ffi3_type_spec.specs.TargetIsa.{isa_of}
use Rattle.ffi3_type_spec.specs.Tree.{Tree, trees_of, tree_at}
use Rattle.ffi3_type_spec.specs.Layout.{size_of}
use Rattle.ffi3_type_spec.specs.Fault.{IsLaidOut}
use Rattle.ffi3_type_spec.specs.Signature.{Signature, SignatureHasNoFault, SignatureIsPlaced}
use Rattle.ffi3_type_spec.specs.Value.{ValueTree, value_in, values_of, fits, all_fit}
use Rattle.ffi3_type_spec.proofs.Placed.{faultless_is_plain, faultless_is_placed}
use Rattle.ffi3_type_spec.proofs.Right.{argument_is_laid_out}
use Rattle.ffi3_place_spec.specs.declared.Loc.{Loc}
use Rattle.ffi3_place_spec.specs.declared.Loc.TheVariants.{S}
use Rattle.ffi3_place_spec.specs.declared.Piece.{Piece}
use Rattle.ffi3_place_spec.specs.declared.Place.{Place}
use Rattle.ffi3_place_spec.specs.declared.Place.TheVariants.{Direct, ByRef}
use Rattle.ffi3_place_spec.specs.MachineRegisters.{to_list}
use Rattle.ffi3_place_spec.specs.Image.{Image, byte_at, word_at, register}
use Rattle.ffi3_place_spec.specs.Standard.{Standard, frame_of, plan_of}
use Rattle.ffi3_place_spec.specs.Sound.{IsNoneOf, IsSound, LiesIn, StandsIn, PlaceHasAll, PlacesHaveAll, piece_locs, place_locs, argument_locs, hidden_locs, copy_locs, buffer_locs, stack_words_for, closed_to_arguments, closed_to_results, Apart}
use Rattle.ffi3_place_spec.specs.Holds.{Own, OwnsArgument, OwnsArguments, SameIn}
use Rattle.ffi3_place_spec.proofs.Further.{each_lies, frame_not_further}
use Rattle.ffi3_explain_spec.specs.declared.Outside.{Outside}
use Rattle.ffi3_explain_spec.specs.Explain.{carries, explained, holds_values, first_byte, first_bytes}
use Rattle.ffi3_explain_spec.specs.Laws.{HasWords}
use Rattle.ffi3_explain_spec.specs.Arguments.{is_in_image, value_at_address, value_by_standard, values_by_standard, outside_of, or_later, first_outside, are_values, arguments_by, held_by_standard, stack_end, least_stack}
use Rattle.ffi3_explain_spec.specs.ArgumentLaws.{ArgumentLaws, AreRead}
use Rattle.ffi3_explain_spec.proofs.Copies.{bytes_of_placed, copy_fits}
use Rattle.ffi3_type_spec.proofs.Fitting.{value_fits}
use Rattle.ffi3_type_spec.proofs.Tests.{and_left, and_right, both}
use Rattle.ffi3_explain_spec.proofs.Pieces.{first_bytes-length, stood_is_read}
use Rattle.ffi3_explain_spec.proofs.Places.{left_part, right_part, one_copy}
use Rattle.ffi3_explain_spec.proofs.Laws.{is_explained}

-- ---- an address in the image

in_image : (m : Image) (address size : ℕ) → m.sp ≤ address → address + size ≤ m.sp + length m.stack → is_in_image m address size ≡ true
in_image m address size low high =
    let above : nat_le m.sp address ≡ true = grind (arith, nat_tests, low) in
    let below : nat_le (address + size) (m.sp + length m.stack) ≡ true = grind (arith, nat_tests, high) in
    both (nat_le m.sp address) (nat_le (address + size) (m.sp + length m.stack)) above below

address_low : (m : Image) (address size : ℕ) → is_in_image m address size ≡ true → m.sp ≤ address
address_low m address size e =
    grind (arith, nat_tests, and_left (nat_le m.sp address) (nat_le (address + size) (m.sp + length m.stack)) e)

address_high : (m : Image) (address size : ℕ) → is_in_image m address size ≡ true → address + size ≤ m.sp + length m.stack
address_high m address size e =
    grind (arith, nat_tests, and_right (nat_le m.sp address) (nat_le (address + size) (m.sp + length m.stack)) e)

-- so many bytes are there
pub bytes_there : (m : Image) (address size : ℕ) → is_in_image m address size ≡ true → length (take size (drop (address - m.sp) m.stack)) ≡ size
bytes_there m address size e =
    simp (length-take, length-drop) (omega (arith, address_low m address size e, address_high m address size e))

-- and so they lie within
pub bytes_within : (m : Image) (address size : ℕ) → is_in_image m address size ≡ true → (address - m.sp) + size ≤ length m.stack
bytes_within m address size e =
    omega (arith, address_low m address size e, address_high m address size e)

-- ---- no address points outside

both_none : (o later : Option Outside) → or_later o later ≡ None → (o ≡ None) × (later ≡ None)
both_none None later e = (refl, e)
both_none (Some x) later e = cc

inside : (b : Bool) (o : Outside) → cond b None (Some o) ≡ None → b ≡ true
inside true o e = refl
inside false o e = cc

-- ---- an image that owns values has these

module _ (m : Image) (base : ℕ) (isa : Isa) (frame : ℕ) (room : base + frame ≤ length m.stack) where
  -- an address that is the copy's leads to its value
  copy_read : (t : Tree) (copy word : ℕ) (v : ValueTree) → copy + size_of t ≤ frame → word ≡ m.sp + base + copy → value_in t (take (size_of t) (drop (base + copy) m.stack)) ≡ v → (value_at_address m word t ≡ v) × (is_in_image m word (size_of t) ≡ true)
  copy_read t copy word v fit is stands =
      let offset : word - m.sp ≡ base + copy = omega (arith, is) in
      (ap (λ n. value_in t (take (size_of t) (drop n m.stack))) offset ∙ stands, in_image m word (size_of t) (omega (arith, is)) (omega (arith, is, fit, room)))

  argument_read : (i : ℕ) (t : Tree) (p : Place) (v : ValueTree) → 1 ≤ size_of t → PlaceHasAll t p → AllByRecursion (LiesIn isa frame) (copy_locs (t ∷ []) (p ∷ [])) → OwnsArgument m base t p v → (value_by_standard m base t p ≡ v) × (outside_of m base i t p ≡ None)
  argument_read i t (Direct ps) v some have lies own =
      (stood_is_read m base t ps v have own.0 own.1, refl)
  argument_read i t (ByRef at copy) v some have lies own =
      let fit = copy_fits isa frame copy t some (left_part (LiesIn isa frame) (stack_words_for copy t) [] lies) in
      let read = copy_read t copy (word_at m base at) v fit own.1 own.2 in
      (read.0, ap (λ b. cond b None (Some (record { argument = i; address = word_at m base at }))) read.1)

  arguments_read : (i : ℕ) (ts : List Tree) (ps : List Place) (vs : List ValueTree) → ((k : ℕ) → k < length ts → 1 ≤ size_of (tree_at ts k)) → PlacesHaveAll ts ps → AllByRecursion (LiesIn isa frame) (copy_locs ts ps) → OwnsArguments m base ts ps vs → (values_by_standard m base ts ps ≡ vs) × (first_outside m base i ts ps ≡ None)
  arguments_read i [] [] [] some have lies own = (refl, refl)
  arguments_read i [] [] (v ∷ vs) some have lies own = absurd own
  arguments_read i (t ∷ ts) (p ∷ ps) [] some have lies own = absurd own
  arguments_read i (t ∷ ts) (p ∷ ps) (v ∷ vs) some have lies own =
      let copies = one_copy isa frame t ts p ps lies in
      let here = argument_read i t p v (some 0 (omega arith)) have.0 copies.0 own.0 in
      let later = arguments_read (suc i) ts ps vs (λ k h. some (suc k) (omega (arith, h))) have.1 copies.1 own.1 in
      let same : value_by_standard m base t p ∷ values_by_standard m base ts ps ≡ v ∷ vs = λ j. here.0 j ∷ later.0 j in
      (same, ap (λ o. or_later o (first_outside m base (suc i) ts ps)) here.1 ∙ later.1)
  arguments_read i _ _ vs some have lies own = absurd have

-- ---- the values fit

argument_fits : (m : Image) (base i : ℕ) (t : Tree) (p : Place) → IsLaidOut t → outside_of m base i t p ≡ None → fits t (value_by_standard m base t p) ≡ true
argument_fits m base i t (Direct ps) right none =
    value_fits t (first_bytes m base ps 0 (size_of t)) right (first_bytes-length m base ps 0 (size_of t))
argument_fits m base i t (ByRef at copy) right none =
    value_fits t (take (size_of t) (drop (word_at m base at - m.sp) m.stack)) right (bytes_there m (word_at m base at) (size_of t) (inside (is_in_image m (word_at m base at) (size_of t)) (record { argument = i; address = word_at m base at }) none))

arguments_fit : (m : Image) (base i : ℕ) (ts : List Tree) (ps : List Place) → ((k : ℕ) → k < length ts → IsLaidOut (tree_at ts k)) → PlacesHaveAll ts ps → first_outside m base i ts ps ≡ None → all_fit (trees_of ts) (values_of (values_by_standard m base ts ps)) ≡ true
arguments_fit m base i [] [] right have none = refl
arguments_fit m base i (t ∷ ts) (p ∷ ps) right have none =
    let each = both_none (outside_of m base i t p) (first_outside m base (suc i) ts ps) none in
    both _ _ (argument_fits m base i t p (right 0 (omega arith)) each.0) (arguments_fit m base (suc i) ts ps (λ k h. right (suc k) (omega (arith, h))) have.1 each.1)
arguments_fit m base i _ _ right have none = absurd have

-- ---- what a place points to

module _ (m : Image) (base : ℕ) where
  followed_here : (i : ℕ) (u t : Tree) (p : Place) (at : Loc) (copy : ℕ) → u ≡ t → p ≡ ByRef at copy → outside_of m base i u p ≡ None → (is_in_image m (word_at m base at) (size_of t) ≡ true) × (value_by_standard m base u p ≡ value_at_address m (word_at m base at) t)
  followed_here i u t p at copy type_is place_is none =
      let none_there : outside_of m base i t (ByRef at copy) ≡ None = (λ j. outside_of m base i (sym type_is j) (sym place_is j)) ∙ none in
      (inside (is_in_image m (word_at m base at) (size_of t)) (record { argument = i; address = word_at m base at }) none_there, λ j. value_by_standard m base (type_is j) (place_is j))

  followed_at : (i : ℕ) (ts : List Tree) (ps : List Place) → first_outside m base i ts ps ≡ None → (k : ℕ) (t : Tree) (at : Loc) (copy : ℕ) → slice_get ts k ≡ Some t → slice_get ps k ≡ Some (ByRef at copy) → (is_in_image m (word_at m base at) (size_of t) ≡ true) × (slice_get (values_by_standard m base ts ps) k ≡ Some (value_at_address m (word_at m base at) t))
  followed_at i (u ∷ ts) (p ∷ ps) none zero t at copy type_is place_is =
      let each = both_none (outside_of m base i u p) (first_outside m base (suc i) ts ps) none in
      let same_type : u ≡ t = cc in
      let same_place : p ≡ ByRef at copy = cc in
      let here = followed_here i u t p at copy same_type same_place each.0 in
      (here.0, ap Some here.1)
  followed_at i (u ∷ ts) (p ∷ ps) none (suc k) t at copy type_is place_is =
      let each = both_none (outside_of m base i u p) (first_outside m base (suc i) ts ps) none in
      followed_at (suc i) ts ps each.1 k t at copy type_is place_is
  followed_at i _ _ none k t at copy type_is place_is = cc

-- ---- images that are the same where arguments stand

module _ (n m : Image) (base : ℕ) (sp : n.sp ≡ m.sp) (stack : n.stack ≡ m.stack) where
  same_byte : (at : Loc) (k : ℕ) → register n at ≡ register m at → byte_at n base at k ≡ byte_at m base at k
  same_byte (S i w) k e = ap (λ bytes. get_or bytes (base + i + k) 0) stack
  same_byte _ k e = ap (λ w. get_or (to_le_bytes w64 w) k 0) e

  same_word : (at : Loc) → register n at ≡ register m at → word_at n base at ≡ word_at m base at
  same_word (S i w) e = ap (λ bytes. word_at (record { general = []; floating = []; sp = 0; stack = bytes }) base (S i w)) stack
  same_word _ e = e

  same_first_byte : (ps : List Piece) (o : ℕ) → SameIn (piece_locs ps) n m → first_byte n base ps o ≡ first_byte m base ps o
  same_first_byte [] o h = refl
  same_first_byte (p ∷ ps) o h =
      let here = same_byte p.loc (o - p.off) h.0 in
      let later = same_first_byte ps o h.1 in
      λ j. cond (carries o p) (here j) (later j)

  same_first_bytes : (ps : List Piece) (o k : ℕ) → SameIn (piece_locs ps) n m → first_bytes n base ps o k ≡ first_bytes m base ps o k
  same_first_bytes ps o zero h = refl
  same_first_bytes ps o (suc k) h =
      let here = same_first_byte ps o h in
      let later = same_first_bytes ps (suc o) k h in
      λ j. here j ∷ later j

  same_value : (t : Tree) (p : Place) → SameIn (place_locs p) n m → value_by_standard n base t p ≡ value_by_standard m base t p
  same_value t (Direct ps) h = ap (value_in t) (same_first_bytes ps 0 (size_of t) h)
  same_value t (ByRef at copy) h =
      let word = same_word at h.0 in
      λ j. value_in t (take (size_of t) (drop (word j - sp j) (stack j)))

  same_outside : (i : ℕ) (t : Tree) (p : Place) → SameIn (place_locs p) n m → outside_of n base i t p ≡ outside_of m base i t p
  same_outside i t (Direct ps) h = refl
  same_outside i t (ByRef at copy) h =
      let word = same_word at h.0 in
      λ j. cond (nat_le (sp j) (word j) && nat_le (word j + size_of t) (sp j + length (stack j))) None (Some (record { argument = i; address = word j }))

  same_read : (i : ℕ) (ts : List Tree) (ps : List Place) → SameIn (flat_map place_locs ps) n m → (values_by_standard n base ts ps ≡ values_by_standard m base ts ps) × (first_outside n base i ts ps ≡ first_outside m base i ts ps)
  same_read i (t ∷ ts) (p ∷ ps) h =
      let first = left_part (λ at. register n at ≡ register m at) (place_locs p) (flat_map place_locs ps) h in
      let value = same_value t p first in
      let out = same_outside i t p first in
      let later = same_read (suc i) ts ps (right_part (λ at. register n at ≡ register m at) (place_locs p) (flat_map place_locs ps) h) in
      let values : value_by_standard n base t p ∷ values_by_standard n base ts ps ≡ value_by_standard m base t p ∷ values_by_standard m base ts ps = λ j. value j ∷ later.0 j in
      (values, λ j. or_later (out j) (later.1 j))
  same_read i _ _ h = (refl, refl)

-- registers that the count's is none of
same_beside : (std : Standard) (n m : Image) → ((at : Loc) → IsNoneOf (to_list std.vector_count) at → register n at ≡ register m at) → (ls : List Loc) → AllByRecursion (IsNoneOf (closed_to_arguments std)) ls → SameIn ls n m
same_beside std n m same [] none = tt
same_beside std n m same (at ∷ ls) none =
    let beside = right_part (Apart at) std.trampoline_registers (to_list std.vector_count) (right_part (Apart at) (closed_to_results std) (std.trampoline_registers ++ to_list std.vector_count) none.0) in
    (same at beside, same_beside std n m same ls none.1)

-- what an image owns fits
owned_fits : (m : Image) (base : ℕ) (t : Tree) (p : Place) (v : ValueTree) → OwnsArgument m base t p v → fits t v ≡ true
owned_fits m base t (Direct ps) v own = own.0
owned_fits m base t (ByRef at copy) v own = own.0

pub owned_fit : (m : Image) (base : ℕ) (ts : List Tree) (ps : List Place) (vs : List ValueTree) → OwnsArguments m base ts ps vs → all_fit (trees_of ts) (values_of vs) ≡ true
owned_fit m base [] [] [] own = refl
owned_fit m base (t ∷ ts) (p ∷ ps) (v ∷ vs) own =
    both _ _ (owned_fits m base t p v own.0) (owned_fit m base ts ps vs own.1)
owned_fit m base _ _ _ own = absurd own

-- ---- the stack that is needed

end_within : (isa : Isa) (stack : ℕ) (ls : List Loc) → AllByRecursion (LiesIn isa stack) ls → stack_end ls ≤ stack
end_within isa stack [] lie = omega arith
end_within isa stack (S n w ∷ ls) lie =
    let later = end_within isa stack ls lie.1 in
    omega (arith, lie.0.0, later)
end_within isa stack (_ ∷ ls) lie = end_within isa stack ls lie.1

-- ---- the laws

-- no copy is a further word
copies_in_frame : (std : Standard) (s : Signature) → IsSound std s → AllByRecursion (LiesIn (isa_of std.target) (frame_of std s)) (copy_locs s.arguments (plan_of std s).places)
copies_in_frame std s sound =
    let isa = isa_of std.target in
    let p = plan_of std s in
    let copies = copy_locs s.arguments p.places in
    let buffer = buffer_locs s.result_type p.res in
    left_part (LiesIn isa (frame_of std s)) copies buffer (each_lies isa (frame_of std s) (copies ++ buffer) (right_part (StandsIn isa (frame_of std s)) (argument_locs p) (copies ++ buffer) sound.in_frame) (frame_not_further isa s.arguments p.places s.result_type p.res))

-- an image that owns values has these, where the signature can be placed
pub placed_is_owned : (std : Standard) (s : Signature) (m : Image) → SignatureIsPlaced s → IsSound std s → (vs : List ValueTree) → Own std s vs m → held_by_standard std s m ≡ are_values vs
placed_is_owned std s m right sound vs own =
    let found = arguments_read m std.link (isa_of std.target) (frame_of std s) own.reaches 0 s.arguments (plan_of std s).places vs (bytes_of_placed s right) sound.has_all (copies_in_frame std s sound) own.arguments in
    ap (arguments_by (values_by_standard m std.link s.arguments (plan_of std s).places)) found.1 ∙ ap are_values found.0

module _ (std : Standard) (s : Signature) (m : Image) (right : SignatureHasNoFault s) (sound : IsSound std s) where
  abbrev Lies : Loc → Type 0
  Lies = LiesIn (isa_of std.target) (frame_of std s)

  abbrev copies : List Loc
  copies = copy_locs s.arguments (plan_of std s).places

  abbrev buffer : List Loc
  buffer = buffer_locs s.result_type (plan_of std s).res

  abbrev read : List ValueTree
  read = values_by_standard m std.link s.arguments (plan_of std s).places

  abbrev first : Option Outside
  first = first_outside m std.link 0 s.arguments (plan_of std s).places

  owned_read : (vs : List ValueTree) → Own std s vs m → held_by_standard std s m ≡ are_values vs
  owned_read vs own = placed_is_owned std s m (faultless_is_placed s right) sound vs own

  explained_read : HasWords m → std.link + frame_of std s ≤ length m.stack → (vs : List ValueTree) → explained std s m ≡ holds_values vs → held_by_standard std s m ≡ are_values vs
  explained_read has reaches vs is =
      let holds = ((is_explained std s m right sound has reaches).values vs).1 is in
      owned_read vs holds.own

  are_read_whole : (vs : List ValueTree) → held_by_standard std s m ≡ are_values vs → (read ≡ vs) × (first ≡ None)
  are_read_whole vs is =
      let by_case : (o : Option Outside) → first ≡ o → arguments_by read o ≡ are_values vs → (read ≡ vs) × (first ≡ None) = λ o. elim o as (λ x. first ≡ x → arguments_by read x ≡ are_values vs → (read ≡ vs) × (first ≡ None)) [
        | None ↦ λ none same. let values : read ≡ vs = cc in (values, none)
        | Some x ↦ λ e same. cc
      ] in
      by_case first refl is

  values_fit : (vs : List ValueTree) → held_by_standard std s m ≡ are_values vs → all_fit (trees_of s.arguments) (values_of vs) ≡ true
  values_fit vs is =
      let read_whole = are_read_whole vs is in
      subst (λ ws. all_fit (trees_of s.arguments) (values_of ws) ≡ true) read_whole.0 (arguments_fit m std.link 0 s.arguments (plan_of std s).places (argument_is_laid_out s right) sound.has_all read_whole.1)

  followed : (vs : List ValueTree) → held_by_standard std s m ≡ are_values vs → (k : ℕ) (t : Tree) (at : Loc) (copy : ℕ) → slice_get s.arguments k ≡ Some t → slice_get (plan_of std s).places k ≡ Some (ByRef at copy) → (is_in_image m (word_at m std.link at) (size_of t) ≡ true) × (slice_get vs k ≡ Some (value_at_address m (word_at m std.link at) t))
  followed vs is k t at copy type_is place_is =
      let read_whole = are_read_whole vs is in
      let there = followed_at m std.link 0 s.arguments (plan_of std s).places read_whole.1 k t at copy type_is place_is in
      (there.0, ap (λ ws. slice_get ws k) (sym read_whole.0) ∙ there.1)

  read_the_same : (n : Image) → n.sp ≡ m.sp → n.stack ≡ m.stack → SameIn (flat_map place_locs (plan_of std s).places) n m → held_by_standard std s n ≡ held_by_standard std s m
  read_the_same n sp stack same =
      let both_same = same_read n m std.link sp stack 0 s.arguments (plan_of std s).places same in
      λ j. arguments_by (both_same.0 j) (both_same.1 j)

  uncounted : (n : Image) → n.sp ≡ m.sp → n.stack ≡ m.stack → ((at : Loc) → IsNoneOf (to_list std.vector_count) at → register n at ≡ register m at) → held_by_standard std s n ≡ held_by_standard std s m
  uncounted n sp stack same =
      let closed = right_part (IsNoneOf (closed_to_arguments std)) (hidden_locs (plan_of std s).res) (flat_map place_locs (plan_of std s).places) sound.allowed in
      read_the_same n sp stack (same_beside std n m same (flat_map place_locs (plan_of std s).places) closed)

  places_lie : AllByRecursion Lies (flat_map place_locs (plan_of std s).places)
  places_lie =
      right_part Lies (hidden_locs (plan_of std s).res) (flat_map place_locs (plan_of std s).places) (left_part Lies (argument_locs (plan_of std s)) (copies ++ buffer) (sound.on_machine (faultless_is_plain s right)).in_frame)

  least_is_less : least_stack std s ≤ std.link + frame_of std s
  least_is_less =
      let within = end_within (isa_of std.target) (frame_of std s) (flat_map place_locs (plan_of std s).places) places_lie in
      omega (arith, within)

  argument_laws : ArgumentLaws std s m
  argument_laws = record {
    owned = owned_read;
    by_explanation = explained_read;
    fit = values_fit;
    outside = λ o is vs own. let other = owned_read vs own in cc;
    followed = followed;
    others = read_the_same;
    uncounted = uncounted;
    least = least_is_less;
  }

pub are_read : (std : Standard) (s : Signature) (m : Image) → AreRead std s m
are_read std s m right sound = argument_laws std s m right sound
