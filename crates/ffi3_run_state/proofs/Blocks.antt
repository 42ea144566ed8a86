-- Blocks of open calls above an address, and activations that keep their arguments there.
use Rattle.std.proofs.Common.{◌≡◌, ℕ, ◌+◌, ◌≤◌, List, [], ◌∷◌, Option, Some, None, refl, ap, ◌∙◌, arith}
use Rattle.std.specs.Prelude.{⊤}
use Rattle.ffi3_type_spec.specs.Signature.{Signature}
use Rattle.ffi3_type_spec.specs.Value.{ValueTree}
use Rattle.ffi3_place_spec.specs.declared.Loc.{Loc}
use Rattle.ffi3_place_spec.specs.Standard.{Standard, need_of}
use Rattle.ffi3_semantics_spec.specs.Journal.{Entered}
use Rattle.ffi3_semantics_spec.specs.Meaning as meaning
use Rattle.ffi3_small_step_spec.specs.Remainder.{Suspended}
use Rattle.ffi3_machine_spec.specs.State.{State}
use Rattle.ffi3_run_state.specs.declared.activation.OpenCall.{OpenCall}
use Rattle.ffi3_run_state.specs.declared.activation.Activation.{Activation}
use Rattle.ffi3_run_state.specs.declared.activation.Waiting.{Waiting}
use Rattle.ffi3_run_state.specs.Activations.{who_of, left_below, arguments_at, calls_below, acting, call_inside, suspended_at, calls_of}
use Rattle.ffi3_run_state.specs.Stack.{caller_sp, OpenStand}
use Rattle.ffi3_run_state.proofs.Opened.{StaysFrom, arguments_kept, caller_above}

abbrev pub AreAbove : ℕ → List OpenCall → Type 0
AreAbove low [] = ⊤
AreAbove low (c ∷ calls) = (low ≤ c.incoming.block) × AreAbove low calls

pub blocks_above : (std : Standard) (ss : List Signature) (held : Loc → ℕ) (top : ℕ) (m : State) (low : ℕ) (calls : List OpenCall) (entered : List Entered) (sp : ℕ) → low ≤ sp → OpenStand std ss held top m calls entered sp → AreAbove low calls
blocks_above std ss held top m low [] entered sp above h = tt
blocks_above std ss held top m low (c ∷ calls) [] sp above h = elim h [ ]
blocks_above std ss held top m low (c ∷ calls) (e ∷ outer) sp above h =
    let here : c.incoming.block ≡ sp = h.0.block in
    let own : sp + need_of std e.signature ≡ caller_sp std e = caller_above std e sp m h.0.stands in
    (omega (arith, above, here), blocks_above std ss held top m low calls outer (caller_sp std e) (omega (arith, above, own)) h.1)

module _ (ss : List Signature) (m m' : State) (low : ℕ) (stays : StaysFrom low m m') where
  one_kept : (c : OpenCall) → low ≤ c.incoming.block → arguments_at ss m' (Some c) ≡ arguments_at ss m (Some c)
  one_kept = arguments_kept ss m m' low stays

  below_kept : (served : Option OpenCall) → AreAbove low (calls_below served) → arguments_at ss m' served ≡ arguments_at ss m served
  below_kept None above = refl
  below_kept (Some c) above = one_kept c above.0

  module _ {S : Type 0} (served : Option OpenCall) where
    inside_kept : (outer : List (Waiting S)) → AreAbove low (calls_of served outer) → arguments_at ss m' (call_inside served outer) ≡ arguments_at ss m (call_inside served outer)
    inside_kept [] above = below_kept served above
    inside_kept (w ∷ outer) above = one_kept w.call above.0

    pub acting_kept : (a : Activation S) (outer : List (Waiting S)) → AreAbove low (calls_of served outer) → acting ss m' (call_inside served outer) a ≡ acting ss m (call_inside served outer) a
    acting_kept a outer above =
        ap (λ (l : List ValueTree). record { who = who_of a.who; arguments = l; user = a.user; left = left_below (call_inside served outer); results = a.results }) (inside_kept outer above)

    pub suspended_kept : (outer : List (Waiting S)) → AreAbove low (calls_of served outer) → suspended_at ss m' served outer ≡ suspended_at ss m served outer
    suspended_kept [] above = refl
    suspended_kept (w ∷ outer) above =
        ap (λ (b : meaning.Activation). record { activation = b; signature = w.call.sig } ∷ suspended_at ss m' served outer) (acting_kept w.activation outer above.1)
        ∙ ap (λ (l : List Suspended). record { activation = acting ss m (call_inside served outer) w.activation; signature = w.call.sig } ∷ l) (suspended_kept outer above.1)
