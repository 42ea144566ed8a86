-- The activations of a configuration that are not finished, as the direct meaning sees them.
use Rattle.std.specs.Prelude.{ℕ, ◌+◌, ◌-◌, ◌^◌, ◌<◌, ⊤, List, [], ◌∷◌, length, Option, Some, None}
use Rattle.ffi3_type_spec.specs.declared.limits.TheConstants.{STACK}
use Rattle.ffi3_type_spec.specs.Tree.{Tree, void}
use Rattle.ffi3_type_spec.specs.Signature.{Signature, signature_at}
use Rattle.ffi3_type_spec.specs.Value.{ValueTree}
use Rattle.ffi3_place_spec.specs.Standard.{block_bytes}
use Rattle.ffi3_semantics_spec.specs.Meaning as meaning
use Rattle.ffi3_semantics_spec.specs.Meaning.{main, function, stack_size}
use Rattle.ffi3_small_step_spec.specs.Remainder.{Suspended}
use Rattle.ffi3_machine_spec.specs.State.{State, stack_at}
use Rattle.ffi3_semantics_spec.specs.SeenActivation.{arguments_in}
use Rattle.ffi3_run_state.specs.declared.activation.Who.{Who}
use Rattle.ffi3_run_state.specs.declared.activation.Who.TheVariants.{Main, Function}
use Rattle.ffi3_run_state.specs.declared.activation.OpenCall.{OpenCall}
use Rattle.ffi3_run_state.specs.declared.activation.Activation.{Activation}
use Rattle.ffi3_run_state.specs.declared.activation.Waiting.{Waiting}

abbrev pub who_of : Who → meaning.Who
who_of Main = main
who_of (Function k) = function k

-- the bytes of stack left below an activation: below the block of the call that it answers to; main answers to none
abbrev pub left_below : Option OpenCall → ℕ
left_below None = stack_size
left_below (Some c) = c.incoming.block - STACK

-- its arguments, which stand in that block
abbrev pub arguments_at : List Signature → State → Option OpenCall → List ValueTree
arguments_at signatures m None = []
arguments_at signatures m (Some c) =
    arguments_in
    (signature_at signatures c.sig).arguments
    (stack_at c.incoming.block (block_bytes (signature_at signatures c.sig)) m)

-- the type of what it returns
abbrev pub result_type_at : List Signature → Option OpenCall → Tree
result_type_at signatures None = void
result_type_at signatures (Some c) = (signature_at signatures c.sig).result_type

-- the open calls below which nothing waits
abbrev pub calls_below : Option OpenCall → List OpenCall
calls_below None = []
calls_below (Some c) = c ∷ []

module _ {S : Type 0} where
  -- an activation that answers to this call
  abbrev pub acting : List Signature → State → Option OpenCall → Activation S → meaning.Activation
  acting signatures m call a = record {
    who = who_of a.who;
    arguments = arguments_at signatures m call;
    user = a.user;
    left = left_below call;
    results = a.results;
  }

  -- the call that an activation answers to inside those that wait: the innermost's, or the one that the outermost answers to
  abbrev pub call_inside : Option OpenCall → List (Waiting S) → Option OpenCall
  call_inside served [] = served
  call_inside served (w ∷ outer) = Some w.call

  -- those that wait, the innermost first
  abbrev pub suspended_at : List Signature → State → Option OpenCall → List (Waiting S) → List Suspended
  suspended_at signatures m served [] = []
  suspended_at signatures m served (w ∷ outer) =
      record { activation = acting signatures m (call_inside served outer) w.activation; signature = w.call.sig }
      ∷ suspended_at signatures m served outer

  -- the open calls, the innermost first
  abbrev pub calls_of : Option OpenCall → List (Waiting S) → List OpenCall
  calls_of served [] = calls_below served
  calls_of served (w ∷ outer) = w.call ∷ calls_of served outer

  -- none of those that wait has as many results as a list can have
  abbrev pub AreShort : List (Waiting S) → Type 0
  AreShort [] = ⊤
  AreShort (w ∷ outer) = (length w.activation.results + 1 < 2 ^ 32) × AreShort outer
