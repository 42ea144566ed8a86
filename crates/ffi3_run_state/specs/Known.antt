-- What is known of the live closures of a run, and which of them a call enters.
use Rattle.std.specs.Prelude.{◌≡◌, ℕ, ◌+◌, ◌<◌, ◌≤◌, List, length, None, Some, Result, Ok, Err, slice_index_or}
use Rattle.ffi3_type_spec.specs.declared.limits.TheConstants.{STACK}
use Rattle.ffi3_type_spec.specs.Signature.{Signature, signature_at}
use Rattle.ffi3_type_spec.specs.Value.{ValueTree}
use Rattle.ffi3_place_spec.specs.Standard.{Standard, need_of}
use Rattle.ffi3_semantics_spec.specs.declared.Closure.{Closure}
use Rattle.ffi3_semantics_spec.specs.declared.Stop.{Stop}
use Rattle.ffi3_semantics_spec.specs.Closures.{Closures, closure_at}
use Rattle.ffi3_semantics_spec.specs.Meaning.{Program, Activation, enters, stops, effect_of, callee_of, function_at}
use Rattle.ffi3_semantics_spec.specs.Move.{call}
use Rattle.ffi3_machine_spec.specs.State.{IsSlot}

-- a closure's numbers lie in their lists, and its signature is its function's
pub record IsKnown (p : Program) (c : Closure) : Type 0 where
  pub function : c.func < length p.functions
  pub below : c.sig < length p.signatures
  pub signature : c.sig ≡ (function_at p c.func).signature

abbrev pub AreKnown : Program → Closures → Type 0
AreKnown p closures =
    (k : ℕ) (c : Closure) → slice_index_or closures k None ≡ Some c → IsKnown p c

-- the live closures' signatures are among so many
abbrev pub AreBelow : ℕ → Closures → Type 0
AreBelow count closures =
    (k : ℕ) (c : Closure) → slice_index_or closures k None ≡ Some c → c.sig < count

-- the closure at a pointer has the call's signature, and the stack below sp suffices
pub record CanEnter (std : Standard) (signatures : List Signature) (closures : Closures) (ptr sig : ℕ) (sp : ℕ)
    (c : Closure) : Type 0 where
  pub live : closure_at closures ptr ≡ Some c
  pub slot : IsSlot ptr
  pub same : signature_at signatures sig ≡ signature_at signatures c.sig
  pub room : STACK + need_of std (signature_at signatures sig) ≤ sp

-- in the direct meaning a call enters this closure, or stops the run
abbrev pub LeadsTo : Program → Activation → Closures → (ptr sig : ℕ) → List ValueTree → Result Closure Stop → Type 0
LeadsTo p a closures ptr sig args (Ok closure) =
    effect_of p a closures (call ptr sig args) ≡ enters ptr sig (callee_of p a sig args closure)
LeadsTo p a closures ptr sig args (Err stop) =
    effect_of p a closures (call ptr sig args) ≡ stops stop
