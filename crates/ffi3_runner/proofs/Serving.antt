-- A call that enters a closure: one that this run made, and one that is served.
use Rattle.std.proofs.Common.{◌≡◌, ℕ, suc, List, [], ◌∷◌, ◌++◌, reverse, None, Some, sym, ap, ◌∙◌, subst, ◌⊎◌, inl, inr, refl}
use Rattle.ffi3_type_spec.specs.Signature.{Signature, signature_at}
use Rattle.ffi3_type_spec.specs.Value.{ValueTree}
use Rattle.ffi3_place_spec.specs.Event.{Event}
use Rattle.ffi3_semantics_spec.specs.declared.Closure.{Closure}
use Rattle.ffi3_semantics_spec.specs.Closures.{Closures, closure_at}
use Rattle.ffi3_semantics_spec.specs.Meaning.{Program, callee_of, effect_of, enters}
use Rattle.ffi3_semantics_spec.specs.Move.{call}
use Rattle.ffi3_semantics_spec.specs.Trace.{TraceItem}
use Rattle.ffi3_small_step_spec.specs.Remainder.{Remainder}
use Rattle.ffi3_small_step_spec.specs.SoFar.{Base}
use Rattle.ffi3_machine_spec.specs.State.{State}
use Rattle.ffi3_io_spec.specs.Sink.{SinkState}
use Rattle.ffi3_next_move.specs.declared.standing.Standing.{Standing}
use Rattle.ffi3_invoke.specs.Calls.{entered_closure, entry_at}
use Rattle.ffi3_run_state.specs.declared.activation.Activation.{Activation}
use Rattle.ffi3_run_state.specs.declared.activation.Waiting.{Waiting}
use Rattle.ffi3_run_state.specs.declared.configuration.Configuration.{Configuration}
use Rattle.ffi3_run_state.specs.declared.configuration.Turn.{Turn}
use Rattle.ffi3_run_state.specs.Between.{Beginning, RunState, IsAsking, run_state, run_state_with}
use Rattle.ffi3_run_state.specs.Going.{HasGoneIn}
use Rattle.ffi3_run_state.specs.Turned.{Turned, StandsAt}
use Rattle.std.specs.Prelude.{Bool}
use Rattle.ffi3_place_spec.specs.Standard.{Standard}
use Rattle.ffi3_small_step_spec.specs.TracingOf.{IsTracingOf}
use Rattle.ffi3_io_spec.specs.Written.{TookText}
use Rattle.ffi3_io_spec.specs.declared.IoError.{IoError}
use Rattle.ffi3_run_state.specs.Accepted.{WasInterruptedAtEntry}
use Rattle.ffi3_run_state.specs.Served.{ShowsCall, served_base, served_beginning, served_left, served_tracing}
use Rattle.ffi3_run_state.specs.TraceLines.{entry_lines}
use Rattle.ffi3_run_state.proofs.Accepting.{served_is_traced}
use Rattle.ffi3_runner.specs.Ran.{Ran}
use Rattle.ffi3_runner.specs.Ready.{CanGoOn, traced_or_not}
use Rattle.ffi3_runner.specs.Serving.{IsAtEntry, HasRun, HasNotRun, Served, end_of}
use Rattle.ffi3_runner.specs.declared.run.RunEnd.{RunEnd}
use Rattle.ffi3_runner.proofs.Running.{can_go_on}
use Rattle.ffi3_runner.specs.declared.run.RunEnd.TheVariants as run

no_closure : (c : Closure) → None ≡ Some c → ⊥
no_closure c e = cc

module _ (b b₁ : Configuration Standing) (m₁ : State) (ptr : ℕ) (called : Closure) (same : b₁ ≡ record b { suspended = b₁.suspended }) (live : closure_at b.table ptr ≡ Some called) (shows : entered_closure m₁ ≡ ptr) where
  there : closure_at b₁.table (entered_closure m₁) ≡ closure_at b.table ptr
  there =
      ap (λ (z : Configuration Standing). closure_at z.table (entered_closure m₁)) same ∙ ap (closure_at b.table) shows

  pub shown : (found : Closure) → closure_at b₁.table (entered_closure m₁) ≡ Some found → closure_at b.table ptr ≡ Some found
  shown found is = sym there ∙ is

  pub none_shown : closure_at b₁.table (entered_closure m₁) ≡ None → ⊥
  none_shown is = no_closure called (sym is ∙ there ∙ live)

-- the same activations wait
waiting_same : (ss : List Signature) (a : Activation Standing) (b b₁ : Configuration Standing) (m : State) (o : SinkState) → b₁ ≡ record b { suspended = b₁.suspended } → b₁.suspended.items ≡ b.suspended.items → run_state ss a b₁ m o ≡ run_state ss a b m o
waiting_same ss a b b₁ m o same items =
    ap (λ (z : Configuration Standing). run_state_with ss z.served (reverse b₁.suspended.items) z.table z.moves m o a) same
    ∙ ap (λ (l : List (Waiting Standing)). run_state_with ss b.served (reverse l) b.table b.moves m o a) items

-- what a call comes to that is passed first
pub entered_at : (p : Program) (base : Base) (all : Remainder) (first : Beginning) (own : List TraceItem) (events : List Event) (b b₁ b' : Configuration Standing) (a : Activation Standing) (m m' : State) (o o' : SinkState) (ptr sig : ℕ) (args : List ValueTree) (called found : Closure) (t : Turn) → b₁ ≡ record b { suspended = b₁.suspended } → b₁.suspended.items ≡ b.suspended.items → called ≡ found → IsAsking p base all first own events (run_state p.signatures a b m o) (call ptr sig args) → effect_of p (run_state p.signatures a b m o).innermost b.table (call ptr sig args) ≡ enters ptr sig (callee_of p (run_state p.signatures a b m o).innermost sig args called) → (IsAsking p base all first own events (run_state p.signatures a b₁ m o) (call ptr sig args) → effect_of p (run_state p.signatures a b₁ m o).innermost b₁.table (call ptr sig args) ≡ enters ptr sig (callee_of p (run_state p.signatures a b₁ m o).innermost sig args found) → Turned p base all first own (suc b₁.moves) b' m' o' t) → Turned p base all first own (suc b.moves) b' m' o' t
entered_at p base all first own events b b₁ b' a m m' o o' ptr sig args called found t same items one is does turned =
    let state = waiting_same p.signatures a b b₁ m o same items in
    let table : b₁.table ≡ b.table = ap (λ (z : Configuration Standing). z.table) same in
    let moves : b₁.moves ≡ b.moves = ap (λ (z : Configuration Standing). z.moves) same in
    let P = λ (x : RunState) (closures : Closures) (c : Closure). effect_of p x.innermost closures (call ptr sig args) ≡ enters ptr sig (callee_of p x.innermost sig args c) in
    let asks = subst (λ (x : RunState). IsAsking p base all first own events x (call ptr sig args)) (sym state) is in
    let here = subst (λ (x : RunState). P x b₁.table found) (sym state) (subst (λ (k : Closures). P (run_state p.signatures a b m o) k found) (sym table) (subst (λ (c : Closure). P (run_state p.signatures a b m o) b.table c) one does)) in
    subst (λ (n : ℕ). Turned p base all first own (suc n) b' m' o' t) moves (turned asks here)

-- and the callee goes in
pub gone_in : (closure : Closure) (standing : Standing) (sig : ℕ) (a : Activation Standing) (b b₁ b' : Configuration Standing) → b₁ ≡ record b { suspended = b₁.suspended } → b₁.suspended.items ≡ b.suspended.items → HasGoneIn closure standing sig a b₁ b' → HasGoneIn closure standing sig a b b'
gone_in closure standing sig a b b₁ b' same items gone = record {
  call = gone.call;
  signature = gone.signature;
  innermost = gone.innermost;
  suspended = gone.suspended ∙ ap (λ (l : List (Waiting Standing)). l ++ record { activation = a; call = gone.call } ∷ []) items;
  served = gone.served ∙ ap (λ (z : Configuration Standing). z.served) same;
  table = gone.table ∙ ap (λ (z : Configuration Standing). z.table) same;
  moves = gone.moves ∙ ap (λ (z : Configuration Standing). z.moves) same;
}

-- one closure is live at an address
pub one_closure : (closures : Closures) (address : ℕ) (a b : Closure) → closure_at closures address ≡ Some a → closure_at closures address ≡ Some b → a ≡ b
one_closure closures address a b is_a is_b = cc

-- what the machine shows, of the closure that was found and by the signatures of the interfaces
pub shows_found : (std : Standard) (p : Program) (closures : Closures) (m : State) (found closure : Closure) (arguments : List ValueTree) (cifs : List Signature) → cifs ≡ p.signatures → closure_at closures (entered_closure m) ≡ Some found → IsAtEntry std p closures m closure arguments → ShowsCall std (signature_at cifs found.sig) arguments m
shows_found std p closures m found closure arguments cifs are live at =
    let same = one_closure closures (entered_closure m) closure found at.live live in
    let P = λ (c : Closure). ShowsCall std (signature_at p.signatures c.sig) arguments m in
    let Q = λ (l : List Signature). ShowsCall std (signature_at l found.sig) arguments m in
    subst Q (sym are) (subst P same at.shows)

module _ (std : Standard) (trace : Bool) (p : Program) (b b₁ : Configuration Standing) (m m₁ : State) (o o₁ : SinkState) (found : Closure) (cifs : List Signature) (are : cifs ≡ p.signatures) (live : closure_at b.table (entered_closure m) ≡ Some found) where
  abbrev s : Signature
  s = signature_at p.signatures found.sig

  abbrev base : List ValueTree → Base
  base arguments = served_base std p found arguments m b.table b.moves

  abbrev first : Beginning
  first = served_beginning std s m o₁ (served_tracing trace std p.signatures found.sig m)

  module _ (begins : (arguments : List ValueTree) → ShowsCall std (signature_at cifs found.sig) arguments m → TookText (entry_lines trace std s (entry_at std s m) arguments) o o₁ × StandsAt p (base arguments) (served_left std p found arguments m b.table b.moves) first [] [] b₁ m₁ o₁) where
    -- the run stands after the call's entry
    pub served_between : (closure : Closure) (arguments : List ValueTree) → IsAtEntry std p b.table m closure arguments → CanGoOn std p traced_or_not b₁ m₁
    served_between closure arguments at =
        let shows = shows_found std p b.table m found closure arguments cifs are live at in
        can_go_on std p (base arguments) (served_left std p found arguments m b.table b.moves) first [] [] (λ t. served_tracing t std p.signatures found.sig m) b₁ m₁ o₁ refl (served_is_traced p std found arguments m b.table b.moves) (begins arguments shows).1

    -- THE CALL RAN
    pub call_served : (b' : Configuration Standing) (m' : State) (o' : SinkState) (t : RunEnd) → ((base : Base) (all : Remainder) (first : Beginning) (own : List TraceItem) (events : List Event) → base.standard ≡ std → IsTracingOf p base trace first.tracing → StandsAt p base all first own events b₁ m₁ o₁ → Ran p base all first b' m' o' t) → Served std trace p b m o b' m' o' t
    call_served b' m' o' t ran = λ closure arguments at.
        let same = one_closure b.table (entered_closure m) found closure live at.live in
        let shows = shows_found std p b.table m found closure arguments cifs are live at in
        let began = begins arguments shows in
        let here : HasRun std trace p found arguments b m o b' m' o' t = record {
          told = o₁;
          entry = began.0;
          ran = ran (base arguments) (served_left std p found arguments m b.table b.moves) first [] [] refl (served_is_traced p std found arguments m b.table b.moves trace) began.1;
        } in
        inl (subst (λ (c : Closure). HasRun std trace p c arguments b m o b' m' o' t) same here)

  -- OR IT WAS INTERRUPTED AT ITS ENTRY
  pub call_cut_off : (why : IoError) (t : RunEnd) → t ≡ end_of why → b₁ ≡ b → ((arguments : List ValueTree) → ShowsCall std (signature_at cifs found.sig) arguments m → WasInterruptedAtEntry std s arguments trace why m m₁ o o₁) → Served std trace p b m o b₁ m₁ o₁ t
  call_cut_off why t answer kept cuts = λ closure arguments at.
      let same = one_closure b.table (entered_closure m) found closure live at.live in
      let shows = shows_found std p b.table m found closure arguments cifs are live at in
      let here : HasNotRun std trace p found arguments b m o b₁ m₁ o₁ t = record { why = why; answer = answer; kept = kept; cut_off = cuts arguments shows } in
      inr (subst (λ (c : Closure). HasNotRun std trace p c arguments b m o b₁ m₁ o₁ t) same here)

-- THE TARGET STAYS, however a run ended
ran_target : (p : Program) (began : Base) (all : Remainder) (found : Beginning) (b : Configuration Standing) (m : State) (o : SinkState) (t : RunEnd) → Ran p began all found b m o t → m.target ≡ began.standard.target
ran_target p began all found b m o run.Done ran = ran.ended.target
ran_target p began all found b m o (run.Stopped stop) ran = ran.target
ran_target p began all found b m o run.NoMemory ran = ran.target
ran_target p began all found b m o run.Failed ran = ran.target

module _ (std : Standard) (trace : Bool) (p : Program) (closure : Closure) (arguments : List ValueTree) (b b' : Configuration Standing) (m m' : State) (o o' : SinkState) (t : RunEnd) where
  target_is : HasRun std trace p closure arguments b m o b' m' o' t ⊎ HasNotRun std trace p closure arguments b m o b' m' o' t → m'.target ≡ std.target
  target_is (inl has) =
      ran_target p (served_base std p closure arguments m b.table b.moves) (served_left std p closure arguments m b.table b.moves) (served_beginning std (signature_at p.signatures closure.sig) m has.told (served_tracing trace std p.signatures closure.sig m)) b' m' o' t has.ran
  target_is (inr not) = not.cut_off.target

  pub target_stays : IsAtEntry std p b.table m closure arguments → Served std trace p b m o b' m' o' t → m'.target ≡ m.target
  target_stays at served =
      target_is (served closure arguments at) ∙ sym at.shows.target
