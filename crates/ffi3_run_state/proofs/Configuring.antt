-- What each kind of move leads to on a configuration.
use Rattle.std.proofs.Common.{◌≡◌, ℕ, suc, true, ◌+◌, ◌-◌, ◌≤◌, inl, inr, List, [], ◌∷◌, ◌++◌, length, Option, Some, refl, sym, ap, ◌∙◌, subst, arith, reverse, append-nil}
use Rattle.std.specs.Prelude.{Bool}
use Rattle.std.proofs.lemmas.List.{reverse-append}
use Rattle.ffi3_type_spec.specs.declared.limits.TheConstants.{STACK}
use Rattle.ffi3_type_spec.specs.Signature.{Signature, signature_at}
use Rattle.ffi3_type_spec.specs.Tree.{void}
use Rattle.ffi3_type_spec.specs.Value.{ValueTree, void_value, leaf_value, struct_value, fits}
use Rattle.ffi3_place_spec.specs.declared.Loc.{Loc}
use Rattle.ffi3_semantics_spec.specs.Journal.{Entered}
use Rattle.ffi3_run_state.specs.Stack.{HoldsCalls}
use Rattle.ffi3_place_spec.specs.Event.{Event}
use Rattle.ffi3_place_spec.specs.Standard.{Standard, block_bytes}
use Rattle.ffi3_semantics_spec.specs.declared.Closure.{Closure}
use Rattle.ffi3_semantics_spec.specs.declared.Stop.{Stop}
use Rattle.ffi3_semantics_spec.specs.declared.Stop.TheVariants.{MoveLimit}
use Rattle.ffi3_semantics_spec.specs.Closures.{Closures}
use Rattle.ffi3_semantics_spec.specs.Lines.{enter_lines, leave_lines}
use Rattle.ffi3_semantics_spec.specs.Meaning.{Program, stops, enters, function, callee_of, effect_of, need_at, goes_on}
use Rattle.ffi3_semantics_spec.specs.Move.{Move, call, return}
use Rattle.ffi3_semantics_spec.specs.Trace.{TraceItem, Enter, Leave}
use Rattle.ffi3_small_step_spec.specs.Remainder.{Remainder, Suspended}
use Rattle.ffi3_small_step_spec.specs.SoFar.{Base, text_after}
use Rattle.ffi3_small_step_spec.specs.TracingOf.{IsTracingOf}
use Rattle.ffi3_machine_spec.specs.State.{State, stack_at, with_code}
use Rattle.ffi3_semantics_spec.specs.SeenActivation.{arguments_in}
use Rattle.ffi3_io_spec.specs.Sink.{SinkState}
use Rattle.ffi3_io_spec.specs.Written.{TookText, LineInterrupted}
use Rattle.ffi3_io_spec.specs.declared.IoError.{IoError}
use Rattle.ffi3_callee.specs.declared.Incoming.{Incoming}
use Rattle.ffi3_invoke.specs.Calls.{HasEnded}
use Rattle.ffi3_run_state.specs.declared.activation.Activation.{Activation}
use Rattle.ffi3_run_state.specs.declared.activation.OpenCall.{OpenCall}
use Rattle.ffi3_run_state.specs.declared.activation.Waiting.{Waiting}
use Rattle.ffi3_run_state.specs.declared.configuration.Configuration.{Configuration}
use Rattle.ffi3_run_state.specs.declared.configuration.Turn.{Turn}
use Rattle.ffi3_run_state.specs.Between.{Beginning, RunState, asking, IsBetween, IsAsking, run_state, run_state_with, open_calls_at}
use Rattle.ffi3_run_state.specs.Going.{StoppedBy, GoneOn, HasGoneBack, activation_of, and_result}
use Rattle.ffi3_run_state.specs.Activations.{acting, arguments_at, call_inside, suspended_at, calls_of}
use Rattle.ffi3_run_state.specs.TraceLines.{last_event, entry_lines, return_lines}
use Rattle.ffi3_run_state.specs.Turned.{TurnHasStopped, WasInterruptedAfter, LooksAs, turn_of, WentOn, Turned}
use Rattle.ffi3_run_state.proofs.Blocks.{AreAbove, blocks_above, acting_kept, suspended_kept}
use Rattle.ffi3_run_state.proofs.Opened.{StaysFrom}
use Rattle.ffi3_run_state.proofs.Moving.{cut_after, cut_between, looks_as_itself, limit_ends, limit_failed, limit_is_last, move_is_last, stop_ends, stop_failed, change_on}
use Rattle.ffi3_run_state.proofs.Since.{looked_at}
use Rattle.ffi3_run_state.proofs.Telling.{last_is}
use Rattle.ffi3_type_spec.specs.declared.Target.{Target}
use Rattle.ffi3_machine_spec.specs.Slots.{HoldsMap}
use Rattle.ffi3_run_state.specs.Known.{AreKnown}
use Rattle.ffi3_semantics_spec.specs.Meaning as meaning
use Rattle.ffi3_io_spec.specs.declared.IoError.TheVariants as cut
use Rattle.ffi3_run_state.specs.declared.configuration.Turn.TheVariants as turn
use Rattle.ffi3_run_state.proofs.Crossing as crossing

pub reverse-last : {X : Type 0} (xs : List X) (x : X) → reverse (xs ++ x ∷ []) ≡ x ∷ reverse xs
reverse-last xs x = reverse-append xs (x ∷ [])

-- what returns nothing returns void
pub void_is : (v : ValueTree) → fits void v ≡ true → v ≡ void_value
void_is void_value h = refl
void_is (leaf_value bytes) h = cc
void_is (struct_value vs) h = cc

module _ {S : Type 0} where
  -- the machine holds the call of the one that waits last
  pub popped_holds : (std : Standard) (ss : List Signature) (held : Loc → ℕ) (top : ℕ) (m : State) (entered : List Entered) (served : Option OpenCall) (items items' : List (Waiting S)) (w : Waiting S) → items ≡ items' ++ w ∷ [] → HoldsCalls std ss held top m (calls_of served (reverse items)) entered → HoldsCalls std ss held top m (w.call ∷ calls_of served (reverse items')) entered
  popped_holds std ss held top m entered served items items' w is h =
      let turned : reverse items ≡ w ∷ reverse items' = ap (λ (l : List (Waiting S)). reverse l) is ∙ reverse-last items' w in
      subst (λ (l : List (Waiting S)). HoldsCalls std ss held top m (calls_of served l) entered) turned h

  -- the moment of a configuration by the one that waits last
  pub popped_state : (ss : List Signature) (a : Activation S) (b : Configuration S) (m : State) (output : SinkState) (items : List (Waiting S)) (w : Waiting S) → b.suspended.items ≡ items ++ w ∷ [] → run_state ss a b m output ≡ run_state_with ss b.served (w ∷ reverse items) b.table b.moves m output a
  popped_state ss a b m output items w is =
      ap (λ (l : List (Waiting S)). run_state_with ss b.served l b.table b.moves m output a) (ap (λ (l : List (Waiting S)). reverse l) is ∙ reverse-last items w)

  -- and where none waits
  pub outermost_state : (ss : List Signature) (a : Activation S) (b : Configuration S) (m : State) (output : SinkState) (served : Option OpenCall) → b.suspended.items ≡ [] → b.served ≡ served → run_state ss a b m output ≡ run_state_with ss served [] b.table b.moves m output a
  outermost_state ss a b m output served none is =
      ap (λ (l : List (Waiting S)). run_state_with ss b.served (reverse l) b.table b.moves m output a) none
      ∙ ap (λ (k : Option OpenCall). run_state_with ss k [] b.table b.moves m output a) is

  -- a configuration that goes on has its activation with one result more
  pub gone_more : (r : ValueTree) (a : Activation S) (b b' : Configuration S) (t : Turn) → GoneOn r a b b' t → t ≡ turn.More → b' ≡ record b { innermost = Some (and_result a r) }
  gone_more r a b b' t gone is = subst (λ (u : Turn). GoneOn r a b b' u) is gone

  -- the one that waited acts on
  pub gone_back : (r : ValueTree) (w : Waiting S) (b mid b' : Configuration S) (t : Turn) → b.suspended.items ≡ mid.suspended.items ++ w ∷ [] → mid.served ≡ b.served → mid.table ≡ b.table → mid.moves ≡ b.moves → GoneOn r w.activation mid b' t → t ≡ turn.More → HasGoneBack r b b'
  gone_back r w b mid b' t items served table moves gone is =
      let P = λ (z : Configuration S). HasGoneBack r b z in
      let here : P (record mid { innermost = Some (and_result w.activation r) }) = record { waited = w; suspended = items; innermost = refl; served = served; table = table; moves = moves } in
      subst P (sym (gone_more r w.activation mid b' t gone is)) here

module _ {S : Type 0} (p : Program) (base : Base) (all : Remainder) (first : Beginning) (own : List TraceItem) where
  -- THE RUN GOES ON FROM HERE, or there is no memory for the result
  pub goes : (b b' : Configuration S) (a : Activation S) (m : State) (output : SinkState) (r : ValueTree) (more : List TraceItem) (events : List Event) (t : Turn) → length more ≤ 1 → GoneOn r a b b' t → IsBetween p base all first (own ++ more) events (run_state p.signatures (and_result a r) b m output) → Turned p base all first own (suc b.moves) b' m output t
  goes b b' a m output r more events turn.More one gone between =
      let P = λ (c : Configuration S). WentOn p base all first own (suc b.moves) c m output in
      let here : P (record b { innermost = Some (and_result a r) }) = record { more = more; events = events; stands = between; stands_anew = λ tracing o. looked_at p base all first (own ++ more) events (run_state p.signatures (and_result a r) b m output) tracing o between; one = one; counted = refl } in
      subst P (sym gone) here
  goes b b' a m output r more events turn.Done one gone between = elim gone [ ]
  goes b b' a m output r more events (turn.Stopped stop) one gone between = elim gone [ ]
  goes b b' a m output r more events turn.NoMemory one gone between =
      let Q = λ (c : Configuration S). WasInterruptedAfter p base all first own (suc b.moves) cut.NoMemory c.table c.moves m output in
      let was_cut = cut_after p base all first own more events (run_state p.signatures (and_result a r) b m output) (suc b.moves) b.moves m one (inl refl) (omega arith, omega arith) (omega arith) (looks_as_itself m) between in
      subst Q (sym gone) was_cut
  goes b b' a m output r more events turn.Failed one gone between = elim gone [ ]

  -- THE RUN IS INTERRUPTED
  pub goes_off : (b : Configuration S) (m : State) (output : SinkState) (why : IoError) (t : Turn) → t ≡ turn_of why → WasInterruptedAfter p base all first own (suc b.moves) why b.table b.moves m output → Turned p base all first own (suc b.moves) b m output t
  goes_off b m output cut.NoMemory t is was_cut =
      subst (λ (u : Turn). Turned p base all first own (suc b.moves) b m output u) (sym is) was_cut
  goes_off b m output cut.Failed t is was_cut =
      subst (λ (u : Turn). Turned p base all first own (suc b.moves) b m output u) (sym is) was_cut

  module _ (events : List Event) (b : Configuration S) (a : Activation S) (m : State) (output output' : SinkState) where
    abbrev here : RunState
    here = run_state p.signatures a b m output

    -- for want of memory, before the move
    pub refused : (asked : Move) (m' : State) → LooksAs m m' → IsAsking p base all first own events here asked → WasInterruptedAfter p base all first own (suc b.moves) cut.NoMemory b.table b.moves m' output
    refused asked m' looks is =
        cut_between p base all first own events (asking here) (suc b.moves) b.moves m' (inr refl) (omega arith, omega arith) (omega arith) looks is.between

    -- THE MOVE STOPS THE RUN
    pub stops_at : (asked : Move) → IsAsking p base all first own events here asked → (stop : Stop) → effect_of p here.innermost here.closures asked ≡ stops stop → (t : Turn) → StoppedBy p.signatures stop output output' t → Turned p base all first own (suc b.moves) b m output' t
    stops_at asked is stop does turn.More by = elim by [ ]
    stops_at asked is stop does turn.Done by = elim by [ ]
    stops_at asked is stop does (turn.Stopped s) by =
        let P = λ (z : Stop). TurnHasStopped p base all first own (suc b.moves) z b m output' in
        subst P (sym by.0) (record {
          ended = stop_ends p base all first own events here asked is stop does output' by.1;
          last = move_is_last p base all first own events here asked is stop does;
          counted = inl refl;
        })
    stops_at asked is stop does turn.NoMemory by =
        let P = λ (o : SinkState). WasInterruptedAfter p base all first own (suc b.moves) cut.NoMemory b.table b.moves m o in
        subst P (sym by) (cut_between p base all first own events (asking here) (suc b.moves) b.moves m (inr refl) (omega arith, omega arith) (omega arith) (looks_as_itself m) is.between)
    stops_at asked is stop does turn.Failed by = stop_failed p base all first own events here asked is stop does output' by

    -- NO MOVE IS LEFT
    pub stops_at_limit : b.moves ≡ 0 → IsBetween p base all first own events here → (t : Turn) → StoppedBy p.signatures MoveLimit output output' t → Turned p base all first own 0 b m output' t
    stops_at_limit none h turn.More by = elim by [ ]
    stops_at_limit none h turn.Done by = elim by [ ]
    stops_at_limit none h (turn.Stopped s) by =
        let P = λ (z : Stop). TurnHasStopped p base all first own 0 z b m output' in
        subst P (sym by.0) (record {
          ended = limit_ends p base all first own events here none h output' by.1;
          last = limit_is_last p base all first own events here none h;
          counted = inr (refl, refl, none);
        })
    stops_at_limit none h turn.NoMemory by =
        let P = λ (o : SinkState). WasInterruptedAfter p base all first own 0 cut.NoMemory b.table b.moves m o in
        subst P (sym by) (cut_between p base all first own events here 0 b.moves m (inl refl) (omega (arith, none), omega arith) (omega (arith, none)) (looks_as_itself m) h)
    stops_at_limit none h turn.Failed by =
        let P = λ (n : ℕ). WasInterruptedAfter p base all first own n cut.Failed b.table b.moves m output' in
        subst P none (limit_failed p base all first own events here none h output' by)

-- ---- a call

module _ {S : Type 0} (p : Program) (base : Base) (all : Remainder) (first : Beginning) (own : List TraceItem) (events : List Event) (served : Option OpenCall) (outer : List (Waiting S)) (closures : Closures) (moves : ℕ) (m : State) (output : SinkState) (current : Activation S) (ptr sig : ℕ) (args : List ValueTree) where
  abbrev before_call : RunState
  before_call = run_state_with p.signatures served outer closures moves m output current

  module _ (is : IsAsking p base all first own events before_call (call ptr sig args)) (closure : Closure) (does : effect_of p before_call.innermost closures (call ptr sig args) ≡ enters ptr sig (callee_of p before_call.innermost sig args closure)) (m' : State) (incoming : Incoming) (called : crossing.HasCalled p base ptr sig args m m' incoming) (standing : S) where
    abbrev new_call : OpenCall
    new_call = record { sig = sig; incoming = incoming }

    abbrev new_one : Activation S
    new_one = activation_of closure standing

    abbrev in_call : SinkState → RunState
    in_call output' =
        run_state_with p.signatures served (record { activation = current; call = new_call } ∷ outer) closures moves m' output' new_one

    above : AreAbove m.sp (calls_of served outer)
    above =
        blocks_above base.standard p.signatures base.held base.top m m.sp (calls_of served outer) (open_calls_at p base events before_call) m.sp (omega arith) is.between.calls.stand

    stays : StaysFrom m.sp m m'
    stays = called.begun.above

    innermost_is : (in_call output).innermost ≡ callee_of p before_call.innermost sig args closure
    innermost_is =
        let site = signature_at p.signatures sig in
        let arguments : arguments_at p.signatures m' (Some new_call) ≡ args = ap (λ (k : ℕ). arguments_in site.arguments (stack_at k (block_bytes site) m')) called.block_is ∙ called.begun.arguments_stand in
        let low : m'.sp + need_at p sig ≡ m.sp = crossing.lower p base all first own events before_call ptr sig args is closure does m' incoming called in
        let had : before_call.innermost.left + STACK ≡ m.sp = is.between.left in
        let left : incoming.block - STACK ≡ before_call.innermost.left - need_at p sig = omega (arith, low, had, called.block_is) in
        λ i. record { who = function closure.func; arguments = arguments i; user = closure.user; left = left i; results = [] }

    suspended_is : (in_call output).suspended ≡ record { activation = before_call.innermost; signature = sig } ∷ before_call.suspended
    suspended_is =
        ap (λ (a : meaning.Activation). record { activation = a; signature = sig } ∷ suspended_at p.signatures m' served outer) (acting_kept p.signatures m m' m.sp stays served current outer above)
        ∙ ap (λ (l : List Suspended). record { activation = before_call.innermost; signature = sig } ∷ l) (suspended_kept p.signatures m m' m.sp stays served outer above)

    -- the lines that tell the entry
    pub call_lines : (trace : Bool) → IsTracingOf p base trace first.tracing → entry_lines trace base.standard (signature_at p.signatures sig) (last_event m'.events) (arguments_in (signature_at p.signatures sig).arguments (stack_at m'.sp (block_bytes (signature_at p.signatures sig)) m')) ≡ enter_lines first.tracing (text_after p base own) ptr (signature_at p.signatures sig) args
    call_lines trace tracing =
        let site = signature_at p.signatures sig in
        let event : last_event m'.events ≡ called.begun.entry = ap last_event called.begun.events ∙ last_is m.events called.begun.entry in
        ap (λ (e : Event). entry_lines trace base.standard site e (arguments_in site.arguments (stack_at m'.sp (block_bytes site) m'))) event
        ∙ ap (λ (vs : List ValueTree). entry_lines trace base.standard site called.begun.entry vs) called.begun.arguments_stand
        ∙ crossing.told_lines_are p base all first own events before_call ptr sig args is closure does m' incoming called trace tracing

    pub call_entered : (output' : SinkState) → TookText (enter_lines first.tracing (text_after p base own) ptr (signature_at p.signatures sig) args) output output' → IsBetween p base all first (own ++ Enter ptr sig args ∷ []) (events ++ called.begun.entry ∷ []) (in_call output')
    call_entered output' told =
        let there = crossing.enters_on p base all first own events before_call ptr sig args is closure does m' incoming called output' told in
        let same : in_call output' ≡ crossing.entered p base all first own events before_call ptr sig args is closure does m' incoming called output' =
        λ i. record { innermost = innermost_is i; suspended = suspended_is i; calls = new_call ∷ calls_of served outer; closures = closures; moves = moves; machine = m'; output = output' } in
        subst (λ (x : RunState). IsBetween p base all first (own ++ Enter ptr sig args ∷ []) (events ++ called.begun.entry ∷ []) x) (sym same) there

    -- or the run is interrupted there
    pub call_cut_off : (why : IoError) (output' : SinkState) → LineInterrupted (enter_lines first.tracing (text_after p base own) ptr (signature_at p.signatures sig) args) output output' why → WasInterruptedAfter p base all first own (suc moves) why closures moves m' output'
    call_cut_off why output' cut_off =
        crossing.enters_cut p base all first own events before_call ptr sig args is closure does m' incoming called why output' cut_off

-- ---- a return

module _ {S : Type 0} (p : Program) (base : Base) (all : Remainder) (first : Beginning) (own : List TraceItem) (events : List Event) (served : Option OpenCall) (w : Waiting S) (outer : List (Waiting S)) (closures : Closures) (moves : ℕ) (m : State) (output : SinkState) (current : Activation S) (v : ValueTree) where
  abbrev before_return : RunState
  before_return = run_state_with p.signatures served (w ∷ outer) closures moves m output current

  module _ (is : IsAsking p base all first own events before_return (return v)) (m' : State) (ended : HasEnded base.standard (signature_at p.signatures w.call.sig) v m m') where
    abbrev a : meaning.Activation
    a = before_return.innermost

    abbrev caller : meaning.Activation
    caller = acting p.signatures m (call_inside served outer) w.activation

    abbrev others : List Suspended
    others = suspended_at p.signatures m served outer

    abbrev after_return : SinkState → RunState
    after_return output' =
        run_state_with p.signatures served outer closures moves m' output' (and_result w.activation v)

    above_return : AreAbove m'.sp (calls_of served outer)
    above_return =
        crossing.others_above p base all first own events a caller w.call others (calls_of served outer) closures moves m output v is m' ended

    stays_return : StaysFrom m'.sp m m'
    stays_return = ended.above

    -- the lines that tell the return
    pub return_lines_told : (trace : Bool) → IsTracingOf p base trace first.tracing → return_lines trace base.standard (signature_at p.signatures w.call.sig) (last_event m'.events) v ≡ leave_lines first.tracing (text_after p base own).calls v
    return_lines_told trace tracing =
        let event : last_event m'.events ≡ ended.return = ap last_event ended.events ∙ last_is m.events ended.return in
        ap (λ (e : Event). return_lines trace base.standard (signature_at p.signatures w.call.sig) e v) event
        ∙ crossing.told_lines_are_at_return p base all first own events a caller w.call others (calls_of served outer) closures moves m output v is m' ended trace tracing

    pub call_returned : (output' : SinkState) → TookText (leave_lines first.tracing (text_after p base own).calls v) output output' → IsBetween p base all first (own ++ Leave w.call.sig v ∷ []) (events ++ ended.return ∷ []) (after_return output')
    call_returned output' told =
        let there = crossing.returns_on p base all first own events a caller w.call others (calls_of served outer) closures moves m output v is m' ended output' told in
        let innermost = acting_kept p.signatures m m' m'.sp stays_return served (and_result w.activation v) outer above_return in
        let suspended = suspended_kept p.signatures m m' m'.sp stays_return served outer above_return in
        let same : after_return output' ≡ crossing.back p base all first own events a caller w.call others (calls_of served outer) closures moves m output v is m' ended output' =
        λ i. record { innermost = innermost i; suspended = suspended i; calls = calls_of served outer; closures = closures; moves = moves; machine = m'; output = output' } in
        subst (λ (x : RunState). IsBetween p base all first (own ++ Leave w.call.sig v ∷ []) (events ++ ended.return ∷ []) x) (sym same) there

    -- or the run is interrupted there
    pub return_cut_off : (why : IoError) (output' : SinkState) → LineInterrupted (leave_lines first.tracing (text_after p base own).calls v) output output' why → WasInterruptedAfter p base all first own (suc moves) why closures moves m' output'
    return_cut_off why output' cut_off =
        crossing.returns_cut p base all first own events a caller w.call others (calls_of served outer) closures moves m output v is m' ended why output' cut_off

module _ {S : Type 0} (p : Program) (base : Base) (all : Remainder) (first : Beginning) (own : List TraceItem) (events : List Event) (b : Configuration S) (a : Activation S) (m m' : State) (output : SinkState) (asked : Move) (is : IsAsking p base all first own events (run_state p.signatures a b m output) asked) (r : ValueTree) (closures : Closures) (does : effect_of p (run_state p.signatures a b m output).innermost b.table asked ≡ goes_on r closures) (address : ℕ) (bytes : List ℕ) (written : m' ≡ with_code address bytes m) (holds : HoldsMap m'.target closures m'.code) (known : AreKnown p closures) where
  abbrev changed_configuration : Configuration S
  changed_configuration = record b { table = closures }

  changed : IsBetween p base all first (own ++ []) events (run_state p.signatures (and_result a r) changed_configuration m' output)
  changed =
      let n = with_code address bytes m in
      let h = subst (λ (k : State). HoldsMap k.target closures k.code) written holds in
      let target : m.target ≡ base.standard.target = is.between.calls.target in
      let here = subst (λ (t : Target). HoldsMap t closures n.code) target h in
      let on = change_on p base all first own events (run_state p.signatures a b m output) asked is r closures does address bytes here known in
      let P = λ (k : State). IsBetween p base all first own events (run_state p.signatures (and_result a r) changed_configuration k output) in
      let Q = λ (l : List TraceItem). IsBetween p base all first l events (run_state p.signatures (and_result a r) changed_configuration m' output) in
      subst Q (sym (append-nil own)) (subst P (sym written) on)

  -- the run goes on, or there is no memory for the result
  pub made_on : (b' : Configuration S) (t : Turn) → GoneOn r a changed_configuration b' t → Turned p base all first own (suc b.moves) b' m' output t
  made_on b' t gone =
      goes p base all first own changed_configuration b' a m' output r [] events t (omega arith) gone changed

  -- there is no memory for it
  pub made_refused : WasInterruptedAfter p base all first own (suc b.moves) cut.NoMemory closures b.moves m' output
  made_refused =
      cut_after p base all first own [] events (run_state p.signatures (and_result a r) changed_configuration m' output) (suc b.moves) b.moves m' (omega arith) (inl refl) (omega arith, omega arith) (omega arith) (looks_as_itself m') changed
