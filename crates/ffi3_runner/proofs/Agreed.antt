-- What activations have seen, from one machine to the next, and that all of them stand in their bodies after each kind of move.
use Rattle.std.proofs.Common.{◌≡◌, ℕ, ◌≤◌, true, List, [], ◌∷◌, Option, Some, None, refl, sym, ap, subst, arith, ◌++◌, reverse, ◌∙◌}
use Rattle.ffi3_type_spec.specs.Signature.{Signature, signature_at}
use Rattle.ffi3_type_spec.specs.Value.{ValueTree, fits}
use Rattle.ffi3_place_spec.specs.Standard.{block_bytes}
use Rattle.ffi3_machine_spec.specs.State.{State, stack_at}
use Rattle.ffi3_script_spec.specs.Natives.{NamedNative}
use Rattle.ffi3_semantics_spec.specs.SeenActivation.{SeenActivation}
use Rattle.ffi3_script.specs.declared.script.Script.{Script}
use Rattle.ffi3_next_move.specs.Stands.{StandingAgrees}
use Rattle.ffi3_script_body.specs.Agrees.{one_more}
use Rattle.ffi3_next_move.specs.declared.standing.Standing.{Standing}
use Rattle.ffi3_run_state.specs.declared.activation.Activation.{Activation}
use Rattle.ffi3_run_state.specs.declared.activation.OpenCall.{OpenCall}
use Rattle.ffi3_run_state.specs.declared.activation.Waiting.{Waiting}
use Rattle.ffi3_run_state.specs.Going.{and_result, HasGoneIn, HasGoneBack}
use Rattle.ffi3_run_state.specs.Activations.{calls_below, call_inside, calls_of, result_type_at}
use Rattle.ffi3_run_state.proofs.Blocks.{AreAbove}
use Rattle.ffi3_run_state.proofs.Opened.{StaysFrom}
use Rattle.ffi3_runner.specs.Agreeing.{seen_by, seen_by_callee, IsStanding, WillStand, AllWillStand, InnermostStands, PositionsAgree}
use Rattle.std.proofs.lemmas.List.{reverse-append}
use Rattle.ffi3_semantics_spec.specs.declared.Closure.{Closure}
use Rattle.ffi3_semantics_spec.specs.Meaning.{function}
use Rattle.ffi3_run_state.specs.declared.activation.Who.TheVariants.{Function}
use Rattle.ffi3_run_state.specs.declared.configuration.Configuration.{Configuration}
use Rattle.ffi3_run_state.specs.Served.{HasAccepted}
use Rattle.ffi3_next_move.specs.Stands as ask

-- with one result more
pub seen_more : (ss : List Signature) (m : State) (call : Option OpenCall) (a : Activation Standing) (r : ValueTree) → seen_by ss m call (and_result a r) ≡ one_more (seen_by ss m call a) r
seen_more ss m None a r = refl
seen_more ss m (Some c) a r = refl

-- where it stands is not what it has seen
pub seen_still : (ss : List Signature) (m : State) (call : Option OpenCall) (a : Activation Standing) (standing : Standing) → seen_by ss m call (record a { standing = standing }) ≡ seen_by ss m call a
seen_still ss m None a standing = refl
seen_still ss m (Some c) a standing = refl

module _ (ss : List Signature) (m m' : State) (low : ℕ) (stays : StaysFrom low m m') where
  callee_kept : (c : OpenCall) (a : Activation Standing) → low ≤ c.incoming.block → seen_by_callee ss m' c a ≡ seen_by_callee ss m c a
  callee_kept c a above =
      ap (λ (l : List ℕ). record { signature = signature_at ss c.sig; block = l; user = a.user; results = a.results }) (stays c.incoming.block (block_bytes (signature_at ss c.sig)) above)

  below_kept : (served : Option OpenCall) (a : Activation Standing) → AreAbove low (calls_below served) → seen_by ss m' served a ≡ seen_by ss m served a
  below_kept None a above = refl
  below_kept (Some c) a above = callee_kept c a above.0

  pub seen_kept : (served : Option OpenCall) (outer : List (Waiting Standing)) (a : Activation Standing) → AreAbove low (calls_of served outer) → seen_by ss m' (call_inside served outer) a ≡ seen_by ss m (call_inside served outer) a
  seen_kept served [] a above = below_kept served a above
  seen_kept served (w ∷ outer) a above = callee_kept w.call a above.0

  module _ (s : Script) (natives : List NamedNative) (served : Option OpenCall) where
    pub standing_kept : (outer : List (Waiting Standing)) (a : Activation Standing) → AreAbove low (calls_of served outer) → IsStanding s natives ss m (call_inside served outer) a → IsStanding s natives ss m' (call_inside served outer) a
    standing_kept outer a above h = record {
      who = h.who;
      agrees = subst (λ (z : SeenActivation). StandingAgrees s natives z a.standing) (sym (seen_kept served outer a above)) h.agrees;
    }

    pub will_kept : (outer : List (Waiting Standing)) (a : Activation Standing) (awaited : Signature) → AreAbove low (calls_of served outer) → WillStand s natives ss m (call_inside served outer) a awaited → WillStand s natives ss m' (call_inside served outer) a awaited
    will_kept outer a awaited above h = record {
      who = h.who;
      agrees = λ r it. subst (λ (z : SeenActivation). StandingAgrees s natives (one_more z r) a.standing) (sym (seen_kept served outer a above)) (h.agrees r it);
    }

    pub all_will_kept : (outer : List (Waiting Standing)) → AreAbove low (calls_of served outer) → AllWillStand s natives ss m served outer → AllWillStand s natives ss m' served outer
    all_will_kept [] above h = tt
    all_will_kept (w ∷ outer) above h =
        (will_kept outer w.activation (signature_at ss w.call.sig) above.1 h.0, all_will_kept outer above.1 h.1)

-- THE ONE THAT WAITED stands where its next move is
pub now_stands : (s : Script) (natives : List NamedNative) (ss : List Signature) (m : State) (call : Option OpenCall) (a : Activation Standing) (awaited : Signature) (r : ValueTree) → fits awaited.result_type r ≡ true → WillStand s natives ss m call a awaited → IsStanding s natives ss m call (and_result a r)
now_stands s natives ss m call a awaited r it h = record {
  who = h.who;
  agrees = subst (λ (z : SeenActivation). StandingAgrees s natives z a.standing) (sym (seen_more ss m call a r)) (h.agrees r it);
}

-- a stack that is equal stays
pub stays_equal : (m m' : State) → m'.stack ≡ m.stack → StaysFrom 0 m m'
stays_equal m m' same = λ address count above. ap (λ (l : List ℕ). stack_at address count (record m { stack = l })) same

pub all_above : (calls : List OpenCall) → AreAbove 0 calls
all_above [] = tt
all_above (c ∷ calls) = (omega arith, all_above calls)

last_first : {X : Type 0} (xs : List X) (x : X) → reverse (xs ++ x ∷ []) ≡ x ∷ reverse xs
last_first xs x = reverse-append xs (x ∷ [])

module _ (s : Script) (natives : List NamedNative) (ss : List Signature) (m m' : State) (low : ℕ) (stays : StaysFrom low m m') (b b' : Configuration Standing) where
  abbrev outer : List (Waiting Standing)
  outer = reverse b.suspended.items

  -- A CALL WAS ENTERED
  pub entered_stands : (closure : Closure) (standing : Standing) (sig : ℕ) (a : Activation Standing) → HasGoneIn closure standing sig a b b' → AreAbove low (calls_of b.served outer) → AllWillStand s natives ss m b.served outer → WillStand s natives ss m (call_inside b.served outer) a (signature_at ss sig) → ask.who_of standing ≡ function closure.func → ((z : SeenActivation) → z.signature ≡ signature_at ss sig → z.results ≡ [] → StandingAgrees s natives z standing) → PositionsAgree s natives ss m' b'
  entered_stands closure standing sig a gone above others will who agrees =
      let w : Waiting Standing = record { activation = a; call = gone.call } in
      let new : Activation Standing = record { who = Function closure.func; standing = standing; user = closure.user; results = [] } in
      let turned : reverse b'.suspended.items ≡ w ∷ outer = ap (λ (l : List (Waiting Standing)). reverse l) gone.suspended ∙ last_first b.suspended.items w in
      let site : signature_at ss gone.call.sig ≡ signature_at ss sig = ap (signature_at ss) gone.signature in
      let P = λ (l : List (Waiting Standing)). InnermostStands s natives ss m' (call_inside b.served l) (Some new) in
      let here : P (w ∷ outer) = record { who = sym who; agrees = agrees (seen_by ss m' (Some gone.call) new) site refl } in
      let Q = λ (i : Option (Activation Standing)). InnermostStands s natives ss m' (call_inside b'.served (reverse b'.suspended.items)) i in
      let R = λ (o : Option OpenCall). InnermostStands s natives ss m' (call_inside o (reverse b'.suspended.items)) (Some new) in
      let T = λ (l : List (Waiting Standing)). AllWillStand s natives ss m' b.served l in
      let U = λ (o : Option OpenCall). AllWillStand s natives ss m' o (reverse b'.suspended.items) in
      let awaits = subst (λ (t : Signature). WillStand s natives ss m' (call_inside b.served outer) a t) (sym site) (will_kept ss m m' low stays s natives b.served outer a (signature_at ss sig) above will) in
      let those : T (w ∷ outer) = (awaits, all_will_kept ss m m' low stays s natives b.served outer above others) in
      record {
        innermost = subst Q (sym gone.innermost) (subst R (sym gone.served) (subst P (sym turned) here));
        others = subst U (sym gone.served) (subst T (sym turned) those);
      }

  -- A CALL RETURNED
  pub returned_stands : (r : ValueTree) → HasGoneBack r b b' → AreAbove low (calls_of b'.served (reverse b'.suspended.items)) → AllWillStand s natives ss m b.served outer → fits (result_type_at ss (call_inside b.served outer)) r ≡ true → PositionsAgree s natives ss m' b'
  returned_stands r gone above others it =
      let w = gone.waited in
      let left = reverse b'.suspended.items in
      let turned : outer ≡ w ∷ left = ap (λ (l : List (Waiting Standing)). reverse l) gone.suspended ∙ last_first b'.suspended.items w in
      let T = λ (l : List (Waiting Standing)). AllWillStand s natives ss m b.served l in
      let U = λ (o : Option OpenCall). AllWillStand s natives ss m o (w ∷ left) in
      let those : AllWillStand s natives ss m b'.served (w ∷ left) = subst U (sym gone.served) (subst T turned others) in
      let F = λ (l : List (Waiting Standing)). fits (result_type_at ss (call_inside b.served l)) r ≡ true in
      let fitting : fits (signature_at ss w.call.sig).result_type r ≡ true = subst F turned it in
      let will = will_kept ss m m' low stays s natives b'.served left w.activation (signature_at ss w.call.sig) above those.0 in
      let Q = λ (i : Option (Activation Standing)). InnermostStands s natives ss m' (call_inside b'.served left) i in
      record {
        innermost = subst Q (sym gone.innermost) (now_stands s natives ss m' (call_inside b'.served left) w.activation (signature_at ss w.call.sig) r fitting will);
        others = all_will_kept ss m m' low stays s natives b'.served left above those.1;
      }

-- A CALL WAS ACCEPTED, and nothing waits for it
pub accepted_stands : (s : Script) (natives : List NamedNative) (ss : List Signature) (m : State) (b b' : Configuration Standing) (closure : Closure) (standing : Standing) → HasAccepted closure standing b b' → b.suspended.items ≡ [] → ask.who_of standing ≡ function closure.func → ((z : SeenActivation) → z.signature ≡ signature_at ss closure.sig → z.results ≡ [] → StandingAgrees s natives z standing) → PositionsAgree s natives ss m b'
accepted_stands s natives ss m b b' closure standing gone none who agrees =
    let new : Activation Standing = record { who = Function closure.func; standing = standing; user = closure.user; results = [] } in
    let items : b'.suspended.items ≡ [] = gone.suspended ∙ none in
    let here : IsStanding s natives ss m (Some gone.call) new = record { who = sym who; agrees = agrees (seen_by ss m (Some gone.call) new) (ap (signature_at ss) gone.signature) refl } in
    let call : call_inside b'.served (reverse b'.suspended.items) ≡ Some gone.call = ap (λ (l : List (Waiting Standing)). call_inside b'.served (reverse l)) items ∙ gone.served in
    let P = λ (o : Option OpenCall). IsStanding s natives ss m o new in
    let Q = λ (i : Option (Activation Standing)). InnermostStands s natives ss m (call_inside b'.served (reverse b'.suspended.items)) i in
    let R = λ (l : List (Waiting Standing)). AllWillStand s natives ss m b'.served (reverse l) in
    record { innermost = subst Q (sym gone.innermost) (subst P (sym call) here); others = subst R (sym items) tt }

-- THE INNERMOST ACTIVATION GOES ON, on a stack that is the same
pub went_stands : (s : Script) (natives : List NamedNative) (ss : List Signature) (m m' : State) (b b' : Configuration Standing) (x : Activation Standing) → m'.stack ≡ m.stack → b'.innermost ≡ Some x → b'.served ≡ b.served → b'.suspended.items ≡ b.suspended.items → IsStanding s natives ss m (call_inside b.served (reverse b.suspended.items)) x → AllWillStand s natives ss m b.served (reverse b.suspended.items) → PositionsAgree s natives ss m' b'
went_stands s natives ss m m' b b' x stack innermost served items stands others =
    let outer = reverse b.suspended.items in
    let stays = stays_equal m m' stack in
    let above = all_above (calls_of b.served outer) in
    let Q = λ (i : Option (Activation Standing)). InnermostStands s natives ss m' (call_inside b'.served (reverse b'.suspended.items)) i in
    let R = λ (o : Option OpenCall). InnermostStands s natives ss m' (call_inside o (reverse b'.suspended.items)) (Some x) in
    let P = λ (l : List (Waiting Standing)). InnermostStands s natives ss m' (call_inside b.served (reverse l)) (Some x) in
    let T = λ (l : List (Waiting Standing)). AllWillStand s natives ss m' b.served (reverse l) in
    let U = λ (o : Option OpenCall). AllWillStand s natives ss m' o (reverse b'.suspended.items) in
    record {
      innermost = subst Q (sym innermost) (subst R (sym served) (subst P (sym items) (standing_kept ss m m' 0 stays s natives b.served outer x above stands)));
      others = subst U (sym served) (subst T (sym items) (all_will_kept ss m m' 0 stays s natives b.served outer above others));
    }
