-- Where the activations of a run stand in their bodies.
use Rattle.std.specs.Prelude.{◌≡◌, ⊤, true, List, [], ◌∷◌, reverse, Option, Some, None}
use Rattle.ffi3_type_spec.specs.Signature.{Signature, signature_at}
use Rattle.ffi3_type_spec.specs.Value.{ValueTree, fits}
use Rattle.ffi3_place_spec.specs.Standard.{block_bytes}
use Rattle.ffi3_semantics_spec.specs.Move.{no_signature}
use Rattle.ffi3_script_spec.specs.Natives.{NamedNative}
use Rattle.ffi3_machine_spec.specs.State.{State, stack_at}
use Rattle.ffi3_semantics_spec.specs.SeenActivation.{SeenActivation}
use Rattle.ffi3_script_body.specs.Agrees.{one_more}
use Rattle.ffi3_script.specs.declared.script.Script.{Script}
use Rattle.ffi3_next_move.specs.Stands as ask
use Rattle.ffi3_next_move.specs.Stands.{StandingAgrees}
use Rattle.ffi3_next_move.specs.declared.standing.Standing.{Standing}
use Rattle.ffi3_run_state.specs.declared.activation.Activation.{Activation}
use Rattle.ffi3_run_state.specs.declared.activation.OpenCall.{OpenCall}
use Rattle.ffi3_run_state.specs.declared.activation.Waiting.{Waiting}
use Rattle.ffi3_run_state.specs.declared.configuration.Configuration.{Configuration}
use Rattle.ffi3_run_state.specs.Activations.{who_of, call_inside}

-- what main's activation has seen
abbrev pub seen_by_main : Activation Standing → SeenActivation
seen_by_main a =
    record { signature = no_signature; block = []; user = a.user; results = a.results }

-- and one that answers to a call, whose block has its arguments
abbrev pub seen_by_callee : List Signature → State → OpenCall → Activation Standing → SeenActivation
seen_by_callee signatures m c a = record {
  signature = signature_at signatures c.sig;
  block = stack_at c.incoming.block (block_bytes (signature_at signatures c.sig)) m;
  user = a.user;
  results = a.results;
}

-- what an activation has seen that answers to this call, or to none, as main
abbrev pub seen_by : List Signature → State → Option OpenCall → Activation Standing → SeenActivation
seen_by signatures m None a = seen_by_main a
seen_by signatures m (Some c) a = seen_by_callee signatures m c a

-- The activation stands in the body that it runs, where it agrees with what it has seen.
pub record IsStanding (s : Script) (natives : List NamedNative) (signatures : List Signature) (m : State)
    (call : Option OpenCall) (a : Activation Standing) : Type 0 where
  pub who : who_of a.who ≡ ask.who_of a.standing
  pub agrees : StandingAgrees s natives (seen_by signatures m call a) a.standing

-- The same of one that waits for a call by this signature: after any result of it
pub record WillStand (s : Script) (natives : List NamedNative) (signatures : List Signature) (m : State)
    (call : Option OpenCall) (a : Activation Standing) (awaited : Signature) : Type 0 where
  pub who : who_of a.who ≡ ask.who_of a.standing
  pub agrees : (r : ValueTree) → fits awaited.result_type r ≡ true
      → StandingAgrees s natives (one_more (seen_by signatures m call a) r) a.standing

abbrev pub AllWillStand : Script → List NamedNative → List Signature → State → Option OpenCall → List (Waiting Standing)
    → Type 0
AllWillStand s natives signatures m served [] = ⊤
AllWillStand s natives signatures m served (w ∷ outer) =
    WillStand s natives signatures m (call_inside served outer) w.activation (signature_at signatures w.call.sig)
    × AllWillStand s natives signatures m served outer

abbrev pub InnermostStands : Script → List NamedNative → List Signature → State → Option OpenCall
    → Option (Activation Standing) → Type 0
InnermostStands s natives signatures m call None = ⊥
InnermostStands s natives signatures m call (Some a) = IsStanding s natives signatures m call a

-- ALL ACTIVATIONS STAND IN THEIR BODIES: the innermost where its next move is asked for, those around it where the move after their call's result is.
pub record PositionsAgree (s : Script) (natives : List NamedNative) (signatures : List Signature) (m : State)
    (b : Configuration Standing) : Type 0 where
  pub innermost : InnermostStands s natives signatures m (call_inside b.served (reverse b.suspended.items)) b.innermost
  pub others : AllWillStand s natives signatures m b.served (reverse b.suspended.items)
