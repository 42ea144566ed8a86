-- What of a configuration changes where its run goes on, and how the line of a stop was written.
use Rattle.std.specs.Prelude.{◌≡◌, ℕ, List, [], ◌∷◌, ◌++◌, Some}
use Rattle.ffi3_type_spec.specs.Signature.{Signature}
use Rattle.ffi3_type_spec.specs.Value.{ValueTree}
use Rattle.ffi3_semantics_spec.specs.declared.Closure.{Closure}
use Rattle.ffi3_semantics_spec.specs.declared.Stop.{Stop}
use Rattle.ffi3_semantics_spec.specs.Lines.{a_line, stop_text}
use Rattle.ffi3_io_spec.specs.Sink.{SinkState}
use Rattle.ffi3_io_spec.specs.Written.{TookText}
use Rattle.ffi3_run_state.specs.declared.activation.OpenCall.{OpenCall}
use Rattle.ffi3_run_state.specs.declared.activation.Activation.{Activation}
use Rattle.ffi3_run_state.specs.declared.activation.Waiting.{Waiting}
use Rattle.ffi3_run_state.specs.declared.activation.Who.TheVariants.{Function}
use Rattle.ffi3_run_state.specs.declared.configuration.Configuration.{Configuration}
use Rattle.ffi3_run_state.specs.declared.configuration.Turn.{Turn}
use Rattle.ffi3_run_state.specs.declared.configuration.Turn.TheVariants.{More, Done, Stopped, NoMemory, Failed}
use Rattle.ffi3_io_spec.specs.Written.{LineFailed}

-- the line of a stop was written, or why not
abbrev pub StoppedBy : List Signature → Stop → SinkState → SinkState → Turn → Type 0
StoppedBy signatures stop before after More = ⊥
StoppedBy signatures stop before after Done = ⊥
StoppedBy signatures stop before after (Stopped s) =
    (s ≡ stop) × TookText (a_line (stop_text signatures stop)) before after
StoppedBy signatures stop before after NoMemory = after ≡ before
StoppedBy signatures stop before after Failed = LineFailed (a_line (stop_text signatures stop)) before after

module _ {S : Type 0} where
  -- the activation of a closure's function before its first move
  abbrev pub activation_of : Closure → S → Activation S
  activation_of closure standing =
      record { who = Function closure.func; standing = standing; user = closure.user; results = [] }

  -- the activation with one result more
  abbrev pub and_result : Activation S → ValueTree → Activation S
  and_result a r = record a { results = a.results ++ r ∷ [] }

  -- the activation goes on with a result, or there is no memory for it and nothing changes
  abbrev pub GoneOn : ValueTree → Activation S → Configuration S → Configuration S → Turn → Type 0
  GoneOn r a old new More = new ≡ record old { innermost = Some (and_result a r) }
  GoneOn r a old new Done = ⊥
  GoneOn r a old new (Stopped stop) = ⊥
  GoneOn r a old new NoMemory = new ≡ old
  GoneOn r a old new Failed = ⊥

  -- a closure's function, before its first move, is the innermost activation, and this one waits for the call
  pub record HasGoneIn (closure : Closure) (standing : S) (sig : ℕ) (a : Activation S) (old new : Configuration S)
      : Type 0 where
    pub call : OpenCall
    pub signature : call.sig ≡ sig
    pub innermost : new.innermost ≡ Some (activation_of closure standing)
    pub suspended : new.suspended.items ≡ old.suspended.items ++ record { activation = a; call = call } ∷ []
    pub served : new.served ≡ old.served
    pub table : new.table ≡ old.table
    pub moves : new.moves ≡ old.moves

  -- the innermost of those that waited is the innermost activation, and has a result more
  pub record HasGoneBack (r : ValueTree) (old new : Configuration S) : Type 0 where
    pub waited : Waiting S
    pub suspended : old.suspended.items ≡ new.suspended.items ++ waited ∷ []
    pub innermost : new.innermost ≡ Some (and_result waited.activation r)
    pub served : new.served ≡ old.served
    pub table : new.table ≡ old.table
    pub moves : new.moves ≡ old.moves
