-- Open calls that stand on a machine's stack, from one machine to the next.
use Rattle.std.proofs.Common.{◌≡◌, ℕ, ◌+◌, ◌<◌, ◌≤◌, List, [], ◌∷◌, length, Some, refl, sym, ap, ◌∙◌, subst, arith}
use Rattle.std.specs.List.{AllByRecursion}
use Rattle.ffi3_type_spec.specs.Signature.{Signature, signature_at}
use Rattle.ffi3_type_spec.specs.Value.{ValueTree}
use Rattle.ffi3_place_spec.specs.declared.Loc.{Loc}
use Rattle.ffi3_place_spec.specs.Holds.{Own, SameIn}
use Rattle.ffi3_place_spec.specs.Image.{Image, register}
use Rattle.ffi3_place_spec.specs.Standard.{Standard, frame_of, need_of, block_bytes}
use Rattle.ffi3_semantics_spec.specs.Journal.{Entered, needs}
use Rattle.ffi3_machine_spec.specs.State.{State, image_of, stack_at, with_code, with_room}
use Rattle.ffi3_semantics_spec.specs.SeenActivation.{arguments_in}
use Rattle.ffi3_callee.specs.Received.{IsIncoming}
use Rattle.ffi3_invoke.specs.Calls.{Stands, IsInCallee, IsCalled, KeepsOpen}
use Rattle.ffi3_run_state.specs.declared.activation.OpenCall.{OpenCall}
use Rattle.ffi3_run_state.specs.Activations.{arguments_at}
use Rattle.ffi3_run_state.specs.Stack.{caller_sp, IsOpen, OpenStand, frames, HoldsCalls}

-- the stack stays from an address on
abbrev pub StaysFrom : ℕ → State → State → Type 0
StaysFrom low m m' = (address count : ℕ) → low ≤ address → stack_at address count m' ≡ stack_at address count m

-- and so do the arguments in a block there
pub arguments_kept : (ss : List Signature) (m m' : State) (low : ℕ) → StaysFrom low m m' → (c : OpenCall) → low ≤ c.incoming.block → arguments_at ss m' (Some c) ≡ arguments_at ss m (Some c)
arguments_kept ss m m' low stays c above =
    ap (arguments_in (signature_at ss c.sig).arguments) (stays c.incoming.block (block_bytes (signature_at ss c.sig)) above)

-- the caller's stack pointer is the call's need above the block
pub caller_above : (std : Standard) (e : Entered) (sp : ℕ) (m : State) → Stands std e sp m → sp + need_of std e.signature ≡ caller_sp std e
caller_above std e sp m h =
    let place : sp + block_bytes e.signature + std.save ≡ e.event.image.sp = h.place in omega (arith, place)

module _ (std : Standard) (ss : List Signature) (held : Loc → ℕ) (top : ℕ) where
  -- open calls fill the stack up to the top
  pub open_needs : (m : State) (calls : List OpenCall) (entered : List Entered) (sp : ℕ) → OpenStand std ss held top m calls entered sp → sp + needs std entered ≡ top
  open_needs m [] [] sp h = let k : sp ≡ top = h in omega (arith, k)
  open_needs m [] (e ∷ outer) sp h = elim h [ ]
  open_needs m (c ∷ calls) [] sp h = elim h [ ]
  open_needs m (c ∷ calls) (e ∷ outer) sp h =
      let others : caller_sp std e + needs std outer ≡ top = open_needs m calls outer (caller_sp std e) h.1 in
      let own : sp + need_of std e.signature ≡ caller_sp std e = caller_above std e sp m h.0.stands in
      omega (arith, others, own)

  kept_one : (m m' : State) (low sp : ℕ) (c : OpenCall) (e : Entered) → KeepsOpen std low m m' → StaysFrom low m m' → low ≤ sp → IsOpen std ss held m c e sp → IsOpen std ss held m' c e sp
  kept_one m m' low sp c e keeps stays above h =
      let here : c.incoming.block ≡ sp = h.block in
      let same = arguments_kept ss m m' low stays c (omega (arith, here, above)) in
      record {
        below = h.below;
        signature = h.signature;
        stands = keeps e sp above h.stands;
        reserved = h.reserved;
        incoming = h.incoming;
        block = h.block;
        arguments = subst (λ (vs : List ValueTree). Own std e.signature vs e.event.image) (sym same) h.arguments;
      }

  -- what keeps the stack from an address on keeps the calls that stand there
  pub open_kept : (m m' : State) (low : ℕ) → KeepsOpen std low m m' → StaysFrom low m m' → (calls : List OpenCall) (entered : List Entered) (sp : ℕ) → low ≤ sp → OpenStand std ss held top m calls entered sp → OpenStand std ss held top m' calls entered sp
  open_kept m m' low keeps stays [] [] sp above h = h
  open_kept m m' low keeps stays [] (e ∷ outer) sp above h = elim h [ ]
  open_kept m m' low keeps stays (c ∷ calls) [] sp above h = elim h [ ]
  open_kept m m' low keeps stays (c ∷ calls) (e ∷ outer) sp above h =
      let own : sp + need_of std e.signature ≡ caller_sp std e = caller_above std e sp m h.0.stands in
      (kept_one m m' low sp c e keeps stays above h.0, open_kept m m' low keeps stays calls outer (caller_sp std e) (omega (arith, above, own)) h.1)

  -- code that is written
  keeps_code : (address : ℕ) (bytes : List ℕ) (m : State) → KeepsOpen std 0 m (with_code address bytes m)
  keeps_code address bytes m = λ e block low h. record {
    place = h.place;
    bottom = h.bottom;
    top = h.top;
    saved = h.saved;
    return_address = h.return_address;
    frame = h.frame;
  }

  pub holds_by_code : (address : ℕ) (bytes : List ℕ) (m : State) (calls : List OpenCall) (entered : List Entered) → HoldsCalls std ss held top m calls entered → HoldsCalls std ss held top (with_code address bytes m) calls entered
  holds_by_code address bytes m calls entered h = record {
    target = h.target;
    stand = open_kept m (with_code address bytes m) 0 (keeps_code address bytes m) (λ at count above. refl) calls entered m.sp (omega arith) h.stand;
    reserved = h.reserved;
    room = h.room;
    bytes = h.bytes;
  }

-- room that is made in the journal
pub keeps_room : (std : Standard) (low n : ℕ) (m m' : State) → KeepsOpen std low (with_room n m) m' → KeepsOpen std low m m'
keeps_room std low n m m' keeps = λ e block above h. keeps e block above (record {
  place = h.place;
  bottom = h.bottom;
  top = h.top;
  saved = h.saved;
  return_address = h.return_address;
  frame = h.frame;
})

-- ---- registers that hold what they held

pub same_then_held : (locs : List Loc) (m n : Image) (held : Loc → ℕ) → SameIn locs m n → AllByRecursion (λ at. register m at ≡ held at) locs → AllByRecursion (λ at. register n at ≡ held at) locs
same_then_held [] m n held same h = tt
same_then_held (at ∷ locs) m n held same h =
    (sym same.0 ∙ h.0, same_then_held locs m n held same.1 h.1)

pub held_both : (locs : List Loc) (m n : Image) (held : Loc → ℕ) → AllByRecursion (λ at. register m at ≡ held at) locs → AllByRecursion (λ at. register n at ≡ held at) locs → SameIn locs m n
held_both [] m n held a b = tt
held_both (at ∷ locs) m n held a b =
    (a.0 ∙ sym b.0, held_both locs m n held a.1 b.1)

-- ---- the innermost of the open calls

module _ (std : Standard) (ss : List Signature) (held : Loc → ℕ) (top : ℕ) (m : State) (c : OpenCall) (calls : List OpenCall) where
  pub in_callee : (e : Entered) (outer : List Entered) → HoldsCalls std ss held top m (c ∷ calls) (e ∷ outer) → IsInCallee std e m
  in_callee e outer h =
      let is_open = h.stand.0 in
      record {
        target = h.target;
        stands = is_open.stands;
        reserved = held_both std.reserved e.event.image (image_of 0 m) held is_open.reserved h.reserved;
        room = let k : length (e ∷ outer) ≤ m.spare_events = h.room in omega (arith, k);
        bytes = let k : frame_of std e.signature + frames std outer ≤ m.spare_bytes = h.bytes in omega (arith, k);
      }

  pub is_called : (entered : List Entered) → HoldsCalls std ss held top m (c ∷ calls) entered → IsCalled std (signature_at ss c.sig) m
  is_called [] h = elim h.stand [ ]
  is_called (e ∷ outer) h =
      let P = λ (s : Signature). IsInCallee std (record { signature = s; event = e.event }) m in
      (e.event, subst P h.stand.0.signature (in_callee e outer h))

  pub sig_below : (entered : List Entered) → HoldsCalls std ss held top m (c ∷ calls) entered → c.sig < length ss
  sig_below [] h = elim h.stand [ ]
  sig_below (e ∷ outer) h = h.stand.0.below

  pub is_incoming : (entered : List Entered) → HoldsCalls std ss held top m (c ∷ calls) entered → IsIncoming std (signature_at ss c.sig) c.incoming
  is_incoming [] h = elim h.stand [ ]
  is_incoming (e ∷ outer) h =
      subst (λ (s : Signature). IsIncoming std s c.incoming) h.stand.0.signature h.stand.0.incoming

  pub block_at : (entered : List Entered) → HoldsCalls std ss held top m (c ∷ calls) entered → c.incoming.block ≡ m.sp
  block_at [] h = elim h.stand [ ]
  block_at (e ∷ outer) h = h.stand.0.block
