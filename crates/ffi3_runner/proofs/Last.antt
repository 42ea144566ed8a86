-- The last of a list.
use Rattle.std.proofs.Common.{◌≡◌, ℕ, ◌+◌, ◌-◌, ◌<◌, ◌≤◌, List, [], ◌∷◌, ◌++◌, length, reverse, Option, Some, None, refl, sym, ap, ◌∙◌, subst, arith}
use Rattle.std.specs.List.{slice_get}
use Rattle.ffi3_type_spec.specs.declared.limits.TheConstants.{STACK, STACK_TOP}
use Rattle.ffi3_type_spec.specs.Signature.{Signature, signature_at}
use Rattle.ffi3_place_spec.specs.declared.Loc.{Loc}
use Rattle.ffi3_place_spec.specs.Standard.{Standard, block_bytes, frame_of}
use Rattle.ffi3_semantics_spec.specs.Journal.{Entered}
use Rattle.ffi3_machine_spec.specs.State.{State, stack_at}
use Rattle.ffi3_callee.specs.Received.{IsIncoming}
use Rattle.ffi3_next_move.specs.declared.standing.Standing.{Standing}
use Rattle.ffi3_run_state.specs.declared.activation.Activation.{Activation}
use Rattle.ffi3_run_state.specs.declared.activation.OpenCall.{OpenCall}
use Rattle.ffi3_run_state.specs.declared.activation.Waiting.{Waiting}
use Rattle.ffi3_run_state.specs.Activations.{call_inside, calls_below, calls_of}
use Rattle.ffi3_run_state.specs.Stack.{HoldsCalls}
use Rattle.ffi3_run_state.proofs.Configuring.{popped_holds, reverse-last}
use Rattle.ffi3_run_state.proofs.Opened.{block_at, is_incoming, sig_below}
use Rattle.ffi3_runner.specs.Agreeing.{seen_by_callee}

module _ {X : Type 0} where
  split_last : (x : X) (xs : List X) (n : ℕ) → n ≡ length xs → (w : X) × (rest : List X) × (slice_get (x ∷ xs) n ≡ Some w) × (x ∷ xs ≡ rest ++ w ∷ [])
  split_last x [] n is = (x, [], ap (slice_get (x ∷ [])) is, refl)
  split_last x (y ∷ ys) n is =
      let k = split_last y ys (length ys) refl in
      (k.0, x ∷ k.1, ap (slice_get (x ∷ (y ∷ ys))) is ∙ k.2, ap (λ (l : List X). x ∷ l) k.3)

  -- a list that has a last
  pub last_is : (xs : List X) (w : X) → slice_get xs (length xs - 1) ≡ Some w → (rest : List X) × (xs ≡ rest ++ w ∷ [])
  last_is [] w is = cc
  last_is (x ∷ xs) w is =
      let k = split_last x xs (length (x ∷ xs) - 1) (omega arith) in
      let there = k.2 in
      let same : k.0 ≡ w = cc in
      (k.1, k.3 ∙ ap (λ (v : X). k.1 ++ v ∷ []) same)

  -- a list that has none
  pub last_none : (xs : List X) → slice_get xs (length xs - 1) ≡ None → xs ≡ []
  last_none [] is = refl
  last_none (x ∷ xs) is =
      let k = split_last x xs (length (x ∷ xs) - 1) (omega arith) in
      let there = k.2 in cc

-- what is known of the call that the innermost activation answers to
pub record InnermostCall {S : Type 0} (std : Standard) (ss : List Signature) (m : State) (served : Option OpenCall) (items : List (Waiting S)) (c : OpenCall) : Type 0 where
  pub call : call_inside served (reverse items) ≡ Some c
  pub below : c.sig < length ss
  pub block : c.incoming.block ≡ m.sp
  pub low : STACK ≤ m.sp
  pub high : m.sp + block_bytes (signature_at ss c.sig) ≤ STACK_TOP

module _ {S : Type 0} (std : Standard) (ss : List Signature) (held : Loc → ℕ) (top : ℕ) (m : State) (entered : List Entered) (served : Option OpenCall) (xs items : List (Waiting S)) (same : xs ≡ items) where
  innermost_call : (c : OpenCall) (calls : List OpenCall) → call_inside served (reverse items) ≡ Some c → HoldsCalls std ss held top m (c ∷ calls) entered → InnermostCall std ss m served items c
  innermost_call c calls call h =
      let s = signature_at ss c.sig in
      let incoming : IsIncoming std s c.incoming = is_incoming std ss held top m c calls entered h in
      let block = block_at std ss held top m c calls entered h in
      let low : STACK ≤ c.incoming.block = incoming.low in
      let entry : c.incoming.block + block_bytes s + std.save ≡ c.incoming.entry = incoming.entry in
      let high : c.incoming.entry + std.link + frame_of std s ≤ STACK_TOP = incoming.high in
      record {
        call = call;
        below = sig_below std ss held top m c calls entered h;
        block = block;
        low = omega (arith, low, block);
        high = omega (arith, entry, high, block);
      }

  -- it is that of the one that waits last
  pub last_call : (w : Waiting S) → Some w ≡ slice_get xs (length xs - 1) → HoldsCalls std ss held top m (calls_of served (reverse items)) entered → InnermostCall std ss m served items w.call
  last_call w is h =
      let last = last_is xs w (sym is) in
      let ends : items ≡ last.0 ++ w ∷ [] = sym same ∙ last.1 in
      innermost_call w.call (calls_of served (reverse last.0)) (ap (λ (l : List (Waiting S)). call_inside served (reverse l)) ends ∙ ap (call_inside served) (reverse-last last.0 w)) (popped_holds std ss held top m entered served items last.0 w ends h)

  -- and where none waits that of the call that is served, or none
  pub alone_in : (o : Option OpenCall) → None ≡ slice_get xs (length xs - 1) → served ≡ o → call_inside served (reverse items) ≡ o
  alone_in o is served_is =
      ap (λ (l : List (Waiting S)). call_inside served (reverse l)) (sym same ∙ last_none xs (sym is)) ∙ served_is

  pub served_call : (c : OpenCall) → None ≡ slice_get xs (length xs - 1) → served ≡ Some c → HoldsCalls std ss held top m (calls_of served (reverse items)) entered → InnermostCall std ss m served items c
  served_call c is served_is h =
      let none : items ≡ [] = sym same ∙ last_none xs (sym is) in
      let P = λ (l : List (Waiting S)). HoldsCalls std ss held top m (calls_of served (reverse l)) entered in
      let Q = λ (o : Option OpenCall). HoldsCalls std ss held top m (calls_below o) entered in
      innermost_call c [] (alone_in (Some c) is served_is) (subst Q served_is (subst P none h))

-- what its callee has seen
pub callee_seen : (ss : List Signature) (m : State) (c : OpenCall) (a : Activation Standing) (sig : Signature) (block : List ℕ) → sig ≡ signature_at ss c.sig → block ≡ stack_at c.incoming.block (block_bytes (signature_at ss c.sig)) m → record { signature = sig; block = block; user = a.user; results = a.results } ≡ seen_by_callee ss m c a
callee_seen ss m c a sig block same is = λ i. record { signature = same i; block = is i; user = a.user; results = a.results }
