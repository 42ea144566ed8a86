-- From the image at an entry to places that count from the end of the return address, and the steps of taking arguments put together.
use Rattle.std.proofs.Common.{◌≡◌, inr, ℕ, ◌+◌, ◌-◌, ◌*◌, ◌≤◌, List, [], ◌∷◌, ◌++◌, take, drop, length, refl, ap, sym, ◌∙◌, subst, arith}
use Rattle.std.specs.Prelude.{Option, ⊤}
use Rattle.std.specs.List.{AllByRecursion, flat_map}
use Rattle.std.proofs.lemmas.List.{drop-drop, drop-take, get_or-drop}
use Rattle.ffi3_type_spec.specs.declared.Target.TheVariants.{Amd64}
use Rattle.ffi3_type_spec.specs.TargetIsa.{isa_of}
use Rattle.ffi3_type_spec.specs.Tree.{Tree}
use Rattle.ffi3_type_spec.specs.Signature.{Signature, SignatureHasNoFault}
use Rattle.ffi3_type_spec.specs.Value.{ValueTree}
use Rattle.ffi3_place_spec.specs.declared.Loc.{Loc}
use Rattle.ffi3_place_spec.specs.declared.Loc.TheVariants.{G, F, S}
use Rattle.ffi3_place_spec.specs.declared.Place.{Place}
use Rattle.ffi3_place_spec.specs.declared.Place.TheVariants.{Direct, ByRef}
use Rattle.ffi3_place_spec.specs.declared.Res.{Res}
use Rattle.ffi3_place_spec.specs.declared.Res.TheVariants.{Hidden}
use Rattle.ffi3_place_spec.specs.Image.{Image, word_at}
use Rattle.ffi3_place_spec.specs.Standard.{Standard, block_bytes, frame_of, plan_of}
use Rattle.ffi3_place_spec.specs.Holds.{OwnsArguments, OwnsHidden}
use Rattle.ffi3_place_spec.specs.MachineRegisters.{to_list}
use Rattle.ffi3_place_spec.specs.StubRegisters.{hidden_register}
use Rattle.ffi3_place_spec.specs.Sound.{IsOneOf, IsOnStackOrIn, IsSound, argument_locs, buffer_locs, copy_locs, hidden_locs, place_locs}
use Rattle.ffi3_type_spec.specs.declared.limits.TheConstants.{STACK, STACK_BYTES, STACK_TOP}
use Rattle.ffi3_type_spec.proofs.Placed.{faultless_is_plain}
use Rattle.ffi3_machine_spec.specs.State.{State, image_of, scribbled, stack_at, with_sp}
use Rattle.ffi3_machine_transfer.specs.Passing.{passing}
use Rattle.ffi3_machine_transfer.specs.Stored.{IsPlace, SameAt, WroteOnly, WroteWithin, with_journal_of}
use Rattle.ffi3_machine_transfer.specs.Standing.{AreReady}
use Rattle.ffi3_machine_transfer.proofs.Alike as alikes
use Rattle.ffi3_machine_transfer.proofs.Alike.{AreAlike, arguments_owned}
use Rattle.ffi3_machine_transfer.proofs.Composing.{lie_more, wrote_wider}
use Rattle.ffi3_machine_transfer.proofs.Tables.{all_true, one_of_each}
use Rattle.ffi3_marshal.proofs.Lawful.{all_ready, call_places, each_first, each_map, each_rest}
use Rattle.ffi3_machine_transfer.proofs.Owning.{image_word}
use Rattle.ffi3_machine_transfer.proofs.Stepping.{same_word_in}
use Rattle.ffi3_semantics_spec.specs.SeenActivation.{arguments_in}
use Rattle.ffi3_place_spec.specs.declared.SaveWord.{SaveWord}
use Rattle.ffi3_place_spec.specs.declared.SaveWord.TheVariants.{Register}
use Rattle.ffi3_callee.specs.Loaded.{AreFound, image_from}
use Rattle.ffi3_callee.specs.Entered.{IsEntered}
use Rattle.ffi3_callee.specs.Given.{IsAddressOf, IsAddressOrZero}
use Rattle.ffi3_callee.specs.Received.{IsReceived, OwnsAtEntry, hidden_of}
use Rattle.ffi3_callee.specs.Saved.{AreSaved, HiddenLies, IsSaveable, IsToSave, hidden_word, saved_word}
use Rattle.ffi3_callee.proofs.Beside.{copied_beside, wrote_down}
use Rattle.ffi3_callee.proofs.Copying.{each_writable, same_image, stretch_stays}
use Rattle.ffi3_place_spec.proofs.Words.{same_bytes}
use Rattle.ffi3_callee.proofs.Return.{any_sp}

-- ---- the frame behind the return address

abbrev behind : ℕ → Image → Image
behind link m = record { general = m.general; floating = m.floating; sp = m.sp + link; stack = drop link m.stack }

module _ (link : ℕ) (m : Image) where
  same_behind : AreAlike link 0 (λ l. ⊤) m (behind link m)
  same_behind = record { sp = omega arith; stack = refl; general = λ r kept. refl; floating = λ r kept. refl }

  behind_word : (l : Loc) → word_at (behind link m) 0 l ≡ word_at m link l
  behind_word l = alikes.word_same link 0 (λ l. ⊤) m (behind link m) same_behind l tt

  behind_arguments : (ts : List Tree) (ps : List Place) (vs : List ValueTree) → OwnsArguments m link ts ps vs → OwnsArguments (behind link m) 0 ts ps vs
  behind_arguments ts ps vs own =
      arguments_owned link 0 (λ l. ⊤) m (behind link m) same_behind ts ps vs (all_true (flat_map place_locs ps)) own

-- the image behind the return address
pub image_behind : (link room : ℕ) (m : State) → STACK ≤ m.sp → behind link (image_of (link + room) m) ≡ image_from (m.sp + link) room m
image_behind link room m low =
    let there : m.sp - STACK + link ≡ m.sp + link - STACK = omega (arith, low) in
    let stack : drop link (stack_at m.sp (link + room) m) ≡ stack_at (m.sp + link) room m = drop-take link room (drop (m.sp - STACK) m.stack) ∙ ap (take room) (drop-drop link (m.sp - STACK) m.stack ∙ ap (λ n. drop n m.stack) there) in
    same_image (behind link (image_of (link + room) m)) (image_from (m.sp + link) room m) refl refl refl stack

-- what an entry owns stands in the frame behind the return address
pub owned_behind : (std : Standard) (s : Signature) (m : State) (vs : List ValueTree) → STACK ≤ m.sp → OwnsAtEntry std s m vs → OwnsArguments (image_from (m.sp + std.link) (frame_of std s) m) 0 s.arguments (plan_of std s).places vs
owned_behind std s m vs low own =
    let link = std.link in
    let frame = frame_of std s in
    subst (λ n. OwnsArguments n 0 s.arguments (plan_of std s).places vs) (image_behind link frame m low)
    (behind_arguments link (image_of (link + frame) m) s.arguments (plan_of std s).places vs own.arguments)

-- ---- addresses that are found

find_all : (base room : ℕ) (m : State) (ts : List Tree) (ps : List Place) (vs : List ValueTree) → STACK ≤ base → AreReady Amd64 room ts ps → OwnsArguments (image_from base room m) 0 ts ps vs → AreFound base m ps
find_all base room m ts [] vs low ready own = tt
find_all base room m (t ∷ ts) (Direct pieces ∷ ps) (v ∷ vs) low ready own = (tt, find_all base room m ts ps vs low ready.1 own.1)
find_all base room m (t ∷ ts) (ByRef at copy ∷ ps) (v ∷ vs) low ready own =
    let none : base + 0 + copy ≡ base + copy = omega arith in
    (sym (image_word (with_sp base m) room low at ready.0.lies.0) ∙ own.0.1 ∙ none, find_all base room m ts ps vs low ready.1 own.1)
find_all base room m _ _ _ low ready own = absurd own

pub found_where_owned : (std : Standard) (s : Signature) (base : ℕ) (m : State) (vs : List ValueTree) → IsSound std s → SignatureHasNoFault s → STACK ≤ base → OwnsArguments (image_from base (frame_of std s) m) 0 s.arguments (plan_of std s).places vs → AreFound base m (plan_of std s).places
found_where_owned std s base m vs sound right low own =
    find_all base (frame_of std s) m s.arguments (plan_of std s).places vs low (all_ready std s sound right Amd64 (each_writable (argument_locs (plan_of std s)))) own

-- ---- places that lie in the stack

one_saveable : (room : ℕ) (w : SaveWord) → IsSaveable 0 w → IsSaveable room w
one_saveable room (Register at) h = lie_more 0 room (omega arith) at h
one_saveable room _ h = tt

pub all_saveable : (room : ℕ) (ws : List SaveWord) → AllByRecursion (IsSaveable 0) ws → AllByRecursion (IsSaveable room) ws
all_saveable room = each_map (IsSaveable 0) (IsSaveable room) (one_saveable room)

hidden_in : (n k : ℕ) → n ≤ k → (r : Res) → AllByRecursion (IsPlace n) (hidden_locs r) → HiddenLies k (hidden_of r)
hidden_in n k h (Hidden at buffer) all = lie_more n k h at all.0
hidden_in n k h _ all = tt

pub hidden_in_frame : (std : Standard) (s : Signature) → IsSound std s → SignatureHasNoFault s → AllByRecursion (IsPlace (frame_of std s)) (hidden_locs (plan_of std s).res)
hidden_in_frame std s sound right =
    let p = plan_of std s in
    each_first (IsPlace (frame_of std s)) (hidden_locs p.res) (flat_map place_locs p.places) (each_first (IsPlace (frame_of std s)) (argument_locs p) (copy_locs s.arguments p.places ++ buffer_locs s.result_type p.res) (call_places std s sound right))

-- ---- where a callee's parts stand below an entry

-- the numbers that the code has are the frame's start, the save area, the block and the place of a hidden result's address
pub record Stands (std : Standard) (s : Signature) (m : State) (base area block : ℕ) (hidden : Option Loc) : Type 0 where
  pub base_is : base ≡ m.sp + std.link
  pub area_is : area ≡ m.sp - std.save
  pub block_is : block + block_bytes s ≡ area
  pub hidden_is : hidden ≡ hidden_of (plan_of std s).res

pub stands : (std : Standard) (s : Signature) (m : State) (entry link save count : ℕ) (hidden : Option Loc) (r : Res) → entry ≡ m.sp → link ≡ std.link → save ≡ std.save → count ≡ block_bytes s → hidden ≡ hidden_of r → r ≡ (plan_of std s).res → STACK + std.save + block_bytes s ≤ m.sp → Stands std s m (entry + link) (entry - save) (entry - save - count) hidden
stands std s m entry link save count hidden r entry_is link_is save_is count_is hidden_is r_is room = record {
  base_is = omega (arith, entry_is, link_is);
  area_is = omega (arith, entry_is, save_is);
  block_is = omega (arith, entry_is, save_is, count_is, room);
  hidden_is = hidden_is ∙ ap hidden_of r_is;
}

pub hidden_lies : (std : Standard) (s : Signature) (m : State) (base : ℕ) (hidden : Option Loc) → IsSound std s → SignatureHasNoFault s → base ≡ m.sp + std.link → hidden ≡ hidden_of (plan_of std s).res → m.sp + std.link + frame_of std s ≤ STACK_TOP → HiddenLies (STACK_TOP - base) hidden
hidden_lies std s m base hidden sound right base_is hidden_is high =
    subst (HiddenLies (STACK_TOP - base)) (sym hidden_is) (hidden_in (frame_of std s) (STACK_TOP - base) (omega (arith, base_is, high)) (plan_of std s).res (hidden_in_frame std s sound right))

listed_of : (P : Loc → Type 0) (r : Res) → AllByRecursion P (hidden_locs r) → AllByRecursion P (to_list (hidden_of r))
listed_of P (Hidden at buffer) all = all
listed_of P _ all = tt

-- it is the register that the stub Entry saves
pub hidden_to_list : (std : Standard) (s : Signature) (hidden : Option Loc) → hidden ≡ hidden_of (plan_of std s).res → AllByRecursion (IsOneOf (G (hidden_register (isa_of std.target)) ∷ [])) (hidden_locs (plan_of std s).res) → AllByRecursion (IsOneOf (G (hidden_register (isa_of std.target)) ∷ [])) (to_list hidden)
hidden_to_list std s hidden is all =
    subst (λ o. AllByRecursion (IsOneOf (G (hidden_register (isa_of std.target)) ∷ [])) (to_list o)) (sym is) (listed_of (IsOneOf (G (hidden_register (isa_of std.target)) ∷ [])) (plan_of std s).res all)

-- ---- the address of a hidden result's buffer

address_at : (link room : ℕ) (m : State) (r : Res) → STACK ≤ m.sp → AllByRecursion (IsPlace room) (hidden_locs r) → OwnsHidden (image_of (link + room) m) link r → IsAddressOf (m.sp + link) (hidden_word (m.sp + link) m (hidden_of r)) r
address_at link room m (Hidden at buffer) low lie own =
    let inside : STACK ≤ m.sp + link = omega (arith, low) in
    sym (any_sp (m.sp + link) (m.sp + link) m at) ∙ sym (image_word (with_sp (m.sp + link) m) room inside at lie.0) ∙ ap (λ n. word_at n 0 at) (sym (image_behind link room m low)) ∙ behind_word link (image_of (link + room) m) at ∙ own
address_at link room m _ low lie own = tt

pub address_owned : (std : Standard) (s : Signature) (m : State) (vs : List ValueTree) → IsSound std s → SignatureHasNoFault s → STACK ≤ m.sp → OwnsAtEntry std s m vs → IsAddressOf (m.sp + std.link) (hidden_word (m.sp + std.link) m (hidden_of (plan_of std s).res)) (plan_of std s).res
address_owned std s m vs sound right low own =
    address_at std.link (frame_of std s) m (plan_of std s).res low (hidden_in_frame std s sound right) own.hidden

behind_hidden : (link room : ℕ) (m : State) (r : Res) → STACK ≤ m.sp → OwnsHidden (image_of (link + room) m) link r → OwnsHidden (image_from (m.sp + link) room m) 0 r
behind_hidden link room m (Hidden at buffer) low own =
    let sum : m.sp + link + buffer ≡ m.sp + link + 0 + buffer = omega arith in
    ap (λ n. word_at n 0 at) (sym (image_behind link room m low)) ∙ behind_word link (image_of (link + room) m) at ∙ own ∙ sum
behind_hidden link room m _ low own = tt

address_there : (base room : ℕ) (m : State) (r : Res) → STACK ≤ base → AllByRecursion (IsPlace room) (hidden_locs r) → OwnsHidden (image_from base room m) 0 r → IsAddressOf base (hidden_word base m (hidden_of r)) r
address_there base room m (Hidden at buffer) inside lie own =
    let sum : base + 0 + buffer ≡ base + buffer = omega arith in
    sym (any_sp base base m at) ∙ sym (image_word (with_sp base m) room inside at lie.0) ∙ own ∙ sum
address_there base room m _ inside lie own = tt

address_or_zero : (base from address : ℕ) (m : State) (r : Res) → address ≡ hidden_word base m (hidden_of r) → IsAddressOf from address r → IsAddressOrZero from address r
address_or_zero base from address m (Hidden at buffer) is known = known
address_or_zero base from address m _ is known = is

pub remembered_is : (base address : ℕ) (r : Res) → IsAddressOrZero base address r → IsAddressOf base address r
remembered_is base address (Hidden at buffer) known = known
remembered_is base address _ known = tt

pub address_known : (std : Standard) (s : Signature) (m x : State) (entry base address : ℕ) (hidden : Option Loc) → IsAddressOf (m.sp + std.link) (hidden_word (m.sp + std.link) x (hidden_of (plan_of std s).res)) (plan_of std s).res → entry ≡ m.sp → base ≡ m.sp + std.link → hidden ≡ hidden_of (plan_of std s).res → address ≡ hidden_word base x hidden → IsAddressOrZero (entry + std.link) address (plan_of std s).res
address_known std s m x entry base address hidden passed entry_is base_is hidden_is address_is =
    let there : m.sp + std.link ≡ entry + std.link = omega (arith, entry_is) in
    let word : address ≡ hidden_word (m.sp + std.link) x (hidden_of (plan_of std s).res) = address_is ∙ ap (λ q. hidden_word q x hidden) base_is ∙ ap (hidden_word (m.sp + std.link) x) hidden_is in
    let known = subst (λ n. IsAddressOf n address (plan_of std s).res) there (subst (λ n. IsAddressOf (m.sp + std.link) n (plan_of std s).res) (sym word) passed) in
    address_or_zero (m.sp + std.link) (entry + std.link) address x (plan_of std s).res word known

-- ---- all steps

module _ (std : Standard) (s : Signature) (block n : ℕ) (m b c d : State) (low : STACK + std.save + block_bytes s ≤ m.sp) (high : m.sp + std.link + frame_of std s ≤ STACK_TOP) (counted : 8 * length std.save_area ≡ std.save) (sized : length m.stack ≡ STACK_BYTES) (block_is : block + block_bytes s + std.save ≡ m.sp) (entered : IsEntered std (hidden_of (plan_of std s).res) block m b) where
  -- the image in which the arguments are found, at the entry and as they are passed
  alike : AreAlike 0 0 (IsOnStackOrIn std.argument_registers) (image_from (m.sp + std.link) (frame_of std s) m) (image_from (m.sp + std.link) (frame_of std s) (passing b))
  alike = record {
    sp = refl;
    stack = stretch_stays (m.sp - std.save) m.sp (m.sp + std.link) (frame_of std s) m (with_journal_of m b) (omega (arith, low)) (omega (arith, low, high, sized)) (inr (omega arith)) entered.within;
    general = λ r some. one_of_each (λ l. SameAt 0 l m (passing b)) (G r) std.argument_registers entered.arguments some;
    floating = λ r some. one_of_each (λ l. SameAt 0 l m (passing b)) (F r) std.argument_registers entered.arguments some;
  }

  owned_between : (vs : List ValueTree) → IsSound std s → SignatureHasNoFault s → OwnsAtEntry std s m vs → OwnsArguments (image_from (m.sp + std.link) (frame_of std s) (passing b)) 0 s.arguments (plan_of std s).places vs
  owned_between vs sound right own =
      let p = plan_of std s in
      arguments_owned 0 0 (IsOnStackOrIn std.argument_registers) (image_from (m.sp + std.link) (frame_of std s) m) (image_from (m.sp + std.link) (frame_of std s) (passing b)) alike s.arguments p.places vs (each_rest (IsOnStackOrIn std.argument_registers) (hidden_locs p.res) (flat_map place_locs p.places) (sound.on_machine (faultless_is_plain s right)).passed) (owned_behind std s m vs (omega (arith, low)) own)

  pub found_between : (vs : List ValueTree) → IsSound std s → SignatureHasNoFault s → OwnsAtEntry std s m vs → AreFound (m.sp + std.link) (passing b) (plan_of std s).places
  found_between vs sound right own =
      found_where_owned std s (m.sp + std.link) (passing b) vs sound right (omega (arith, low)) (owned_between vs sound right own)

  -- a hidden result's address stands where it is passed
  pub address_between : (vs : List ValueTree) → IsSound std s → SignatureHasNoFault s → OwnsAtEntry std s m vs → IsAddressOf (m.sp + std.link) (hidden_word (m.sp + std.link) (passing b) (hidden_of (plan_of std s).res)) (plan_of std s).res
  address_between vs sound right own =
      let p = plan_of std s in
      let owned = alikes.address_owned 0 0 (IsOnStackOrIn std.argument_registers) (image_from (m.sp + std.link) (frame_of std s) m) (image_from (m.sp + std.link) (frame_of std s) (passing b)) alike p.res (each_first (IsOnStackOrIn std.argument_registers) (hidden_locs p.res) (flat_map place_locs p.places) (sound.on_machine (faultless_is_plain s right)).passed) (behind_hidden std.link (frame_of std s) m p.res (omega (arith, low)) own.hidden) in
      address_there (m.sp + std.link) (frame_of std s) (passing b) p.res (omega (arith, low)) (hidden_in_frame std s sound right) owned

  pub received : IsSound std s → SignatureHasNoFault s → WroteOnly block (block + block_bytes s) (passing b) (passing c) → d ≡ scribbled n c → ((vs : List ValueTree) → OwnsArguments (image_from (m.sp + std.link) (frame_of std s) (passing b)) 0 s.arguments (plan_of std s).places vs → arguments_in s.arguments (stack_at block (block_bytes s) (passing c)) ≡ vs) → IsReceived std s m d
  received sound right copies d_is values = record {
    values = all;
    saved = kept;
    sp = sp;
    within = within;
    pc = λ own. ap (λ q. q.pc) d_is ∙ copies.within.pc ∙ entered.pc own;
    events = ap (λ q. q.events) d_is ∙ copies.within.events ∙ entered.events;
    spare_events = ap (λ q. q.spare_events) d_is ∙ copies.within.spare_events ∙ entered.spare_events;
    spare_bytes = ap (λ q. q.spare_bytes) d_is ∙ copies.within.spare_bytes ∙ entered.spare_bytes;
    steps = ap (λ q. q.steps) d_is ∙ copies.within.steps ∙ entered.steps;
  }
    where
      sp_is : d.sp ≡ block
      sp_is = ap (λ q. q.sp) d_is ∙ copies.sp ∙ entered.sp

      all : (vs : List ValueTree) → OwnsAtEntry std s m vs → arguments_in s.arguments (stack_at d.sp (block_bytes s) d) ≡ vs
      all vs own =
          ap (λ q. arguments_in s.arguments (stack_at q (block_bytes s) d)) sp_is ∙ ap (λ q. arguments_in s.arguments (stack_at block (block_bytes s) q)) d_is ∙ values vs (owned_between vs sound right own)

      moved : WroteWithin block (block + block_bytes s) b (with_journal_of b d)
      moved =
          subst (λ q. WroteWithin block (block + block_bytes s) b (with_journal_of b q)) (sym d_is) (copied_beside n block (block + block_bytes s) b c copies.within)

      kept : AreSaved (m.sp - std.save) (m.sp + std.link) (hidden_of (plan_of std s).res) std.save_area m d
      kept = λ i w below is.
          let same : saved_word (m.sp - std.save) i d ≡ saved_word (m.sp - std.save) i b = same_word_in (m.sp - std.save) (S (8 * i) 8) b d (λ k h. moved.outside (m.sp - std.save + 8 * i + k - STACK) (inr (omega (arith, block_is, low)))) in
          subst (IsToSave (m.sp + std.link) m (hidden_of (plan_of std s).res) w) (sym same) (entered.saved i w below is)

      sp : d.sp + block_bytes s + std.save ≡ m.sp
      sp = omega (arith, sp_is, block_is)

      within : WroteWithin d.sp m.sp m (with_journal_of m d)
      within =
          subst (λ q. WroteWithin q m.sp m (with_journal_of m d)) (sym sp_is) (wrote_down block (m.sp - std.save) m.sp m b d (omega (arith, block_is)) (omega arith) entered.within
          (wrote_wider block (block + block_bytes s) block (m.sp - std.save) b (with_journal_of b d) (omega arith) (omega (arith, block_is)) moved))
