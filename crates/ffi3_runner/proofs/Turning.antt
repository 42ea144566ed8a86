-- The move that the innermost activation asks for, by what it has seen; and numbers of functions and interfaces.
use Rattle.std.proofs.Common.{◌≡◌, ℕ, suc, ◌+◌, ◌-◌, ◌≤◌, List, [], ◌∷◌, length, map, Option, Some, None, reverse, refl, sym, ap, ◌∙◌, subst, arith, length-append, ◌<◌, ◌++◌, take, IfOk, Result}
use Rattle.std.proofs.lemmas.List.{length-map, take_all, take_more}
use Rattle.ffi3_type_spec.specs.Signature.{Signature, signature_at}
use Rattle.ffi3_type_spec.specs.Value.{ValueTree}
use Rattle.ffi3_place_spec.specs.Event.{Event}
use Rattle.ffi3_place_spec.specs.Standard.{Standard, need_of}
use Rattle.ffi3_semantics_spec.specs.Meaning.{Program, Native, behaviour_of, functions_from, most_moves, next_move, function_of, Who, function_at}
use Rattle.ffi3_semantics_spec.specs.Move.{Move, MoveFits, result_type_of, no_signature}
use Rattle.ffi3_semantics_spec.specs.Follow.{IsOfType}
use Rattle.ffi3_next_move.specs.Asked.{IsAsked}
use Rattle.ffi3_semantics_spec.specs.Trace.{TraceItem}
use Rattle.ffi3_small_step_spec.specs.Remainder.{Remainder}
use Rattle.ffi3_small_step_spec.specs.SoFar.{Base}
use Rattle.ffi3_machine_spec.specs.State.{State}
use Rattle.ffi3_io_spec.specs.Sink.{SinkState}
use Rattle.ffi3_semantics_spec.specs.SeenActivation.{SeenActivation, arguments_of}
use Rattle.ffi3_script_spec.specs.Natives.{NamedNative}
use Rattle.ffi3_script.specs.ScriptOf.{script_of}
use Rattle.ffi3_script.specs.declared.script.Script.{Script}
use Rattle.ffi3_next_move.specs.Stands.{StandingAgrees}
use Rattle.ffi3_script_body.specs.Agrees.{one_more}
use Rattle.ffi3_next_move.specs.declared.standing.Standing.{Standing}
use Rattle.ffi3_run_state.specs.declared.activation.Activation.{Activation}
use Rattle.ffi3_run_state.specs.declared.activation.OpenCall.{OpenCall}
use Rattle.ffi3_run_state.specs.declared.activation.Waiting.{Waiting}
use Rattle.ffi3_run_state.specs.declared.configuration.Configuration.{Configuration}
use Rattle.ffi3_run_state.specs.Between.{Beginning, ResultsWithinMoves, IsBetween, IsAsking, run_state, RunState}
use Rattle.ffi3_run_state.specs.Going.{and_result}
use Rattle.ffi3_run_state.specs.Activations.{who_of, acting, arguments_at, call_inside, suspended_at, result_type_at, AreShort}
use Rattle.ffi3_run_state.specs.Turned.{StandsAt, StandsWith, Turned, WentOn}
use Rattle.ffi3_run_state.specs.declared.configuration.Turn.{Turn}
use Rattle.ffi3_runner.specs.Agreeing.{seen_by, InnermostStands, IsStanding, PositionsAgree}
use Rattle.ffi3_runner.specs.Running.{program, IsPrepared}
use Rattle.ffi3_runner.proofs.Agreed.{seen_more, seen_still}
use Rattle.std.specs.declared.alloc.AllocError.{AllocError}
use Rattle.ffi3_body.specs.declared.Move as body
use Rattle.ffi3_body.specs.MoveOf.{move_of}
use Rattle.ffi3_type_spec.specs.declared.limits.TheConstants.{STACK}
use Rattle.ffi3_semantics_spec.specs.declared.Closure.{Closure}
use Rattle.ffi3_semantics_spec.specs.declared.Stop.{Stop}
use Rattle.ffi3_run_state.specs.Known.{LeadsTo}
use Rattle.ffi3_script_spec.specs.Handed.{signatures_in}
use Rattle.ffi3_semantics_spec.specs.Meaning as meaning
use Rattle.ffi3_script_spec.specs.Meaning as rules
use Rattle.ffi3_next_move.specs.Stands as ask
use Rattle.ffi3_run_state.specs.declared.configuration.Turn.TheVariants as turn
use Rattle.ffi3_semantics_spec.specs.Move as run

-- what its body sees is what the direct meaning sees
pub asks_for : (p : Program) (ss : List Signature) (m : State) (call : Option OpenCall) (a : Activation Standing) (asked : Move) → who_of a.who ≡ ask.who_of a.standing → asked ≡ behaviour_of p (ask.who_of a.standing) (arguments_of (seen_by ss m call a)) (seen_by ss m call a).user (seen_by ss m call a).results → next_move p (acting ss m call a) ≡ asked
asks_for p ss m None a asked who is =
    ap (λ (w : meaning.Who). behaviour_of p w [] a.user a.results) who ∙ sym is
asks_for p ss m (Some c) a asked who is =
    ap (λ (w : meaning.Who). behaviour_of p w (arguments_at ss m (Some c)) a.user a.results) who ∙ sym is

-- the type of what it returns
pub returns_type : (ss : List Signature) (m : State) (call : Option OpenCall) (a : Activation Standing) → (seen_by ss m call a).signature.result_type ≡ result_type_at ss call
returns_type ss m None a = refl
returns_type ss m (Some c) a = refl

-- the innermost of a configuration that stands
pub innermost_stands : (s : Script) (natives : List NamedNative) (ss : List Signature) (m : State) (b : Configuration Standing) (a : Activation Standing) → b.innermost ≡ Some a → PositionsAgree s natives ss m b → IsStanding s natives ss m (call_inside b.served (reverse b.suspended.items)) a
innermost_stands s natives ss m b a is h =
    subst (λ (i : Option (Activation Standing)). InnermostStands s natives ss m (call_inside b.served (reverse b.suspended.items)) i) is h.innermost

module _ (p : Program) (base : Base) (all : Remainder) (first : Beginning) (own : List TraceItem) (events : List Event) (b : Configuration Standing) (a : Activation Standing) (m : State) (output : SinkState) where
  pub between_of : b.innermost ≡ Some a → StandsAt p base all first own events b m output → IsBetween p base all first own events (run_state p.signatures a b m output)
  between_of is h =
      subst (λ (i : Option (Activation Standing)). StandsWith p base all first own events b m output i) is h

-- ---- numbers

pub short_by_few : (ss : List Signature) (m : State) (served : Option OpenCall) (outer : List (Waiting Standing)) (moves : ℕ) → ResultsWithinMoves moves (suspended_at ss m served outer) → AreShort outer
short_by_few ss m served [] moves h = tt
short_by_few ss m served (w ∷ outer) moves h =
    let few : length w.activation.results + moves ≤ most_moves = h.0 in
    (omega (arith, few), short_by_few ss m served outer moves h.1)

length_functions : (first own : ℕ) (ns : List Native) → length (functions_from first own ns) ≡ length ns
length_functions first own [] = refl
length_functions first own (n ∷ ns) =
    ap (λ (l : ℕ). suc l) (length_functions (first + length n.signatures) (own + 1) ns)

-- the functions of a run are the script's and the natives
pub count_of_functions : (std : Standard) (s : Script) (natives : List NamedNative) → length (program std s natives).functions ≡ length (script_of s).functions + length natives
count_of_functions std s natives =
    let script = script_of s in
    let all = length-append (map (rules.function_of script.signatures) script.functions) (functions_from (length script.signatures) (length (map (rules.function_of script.signatures) script.functions)) (map (λ n. n.native) natives)) in
    let scripts = length-map script.functions (rules.function_of script.signatures) in
    let others = length_functions (length script.signatures) (length (map (rules.function_of script.signatures) script.functions)) (map (λ n. n.native) natives) ∙ length-map natives (λ n. n.native) in
    omega (arith, all, scripts, others)

-- ---- the whole of it, by what a runner has

-- THE INNERMOST ACTIVATION ASKS FOR A MOVE, which is counted. It was taken from the configuration, its place in its body is known further on, and it stands there once the move has a result.
pub record Asks (std : Standard) (s : Script) (natives : List NamedNative) (cifs : List Signature) (b : Configuration Standing) (m : State) (a z : Activation Standing) (i : Option (Activation Standing)) (mv : Move) : Type 0 where
  pub counted : b.moves ≡ suc (b.moves - 1)
  pub asks : (base : Base) (all : Remainder) (first : Beginning) (own : List TraceItem) (events : List Event) (output : SinkState) → StandsAt (program std s natives) base all first own events b m output → IsAsking (program std s natives) base all first own events (run_state (program std s natives).signatures z (record b { innermost = i; moves = b.moves - 1 }) m output) mv
  pub fits : MoveFits (program std s natives).signatures (length (program std s natives).functions) (seen_by cifs m (call_inside b.served (reverse b.suspended.items)) a).signature.result_type mv
  pub who : who_of z.who ≡ ask.who_of z.standing
  pub after : (r : ValueTree) → IsOfType r (result_type_of (program std s natives).signatures mv) → StandingAgrees s natives (one_more (seen_by cifs m (call_inside b.served (reverse b.suspended.items)) z) r) z.standing

pub asks_now : (std : Standard) (s : Script) (natives : List NamedNative) (cifs : List Signature) (prepared : IsPrepared std s natives cifs) (b : Configuration Standing) (m : State) (a z : Activation Standing) (i : Option (Activation Standing)) → b.innermost ≡ Some a → b.moves ≡ suc (b.moves - 1) → PositionsAgree s natives cifs m b → z ≡ record a { standing = z.standing } → ask.who_of z.standing ≡ ask.who_of a.standing → (asked mv : Move) → IsAsked (program std s natives) (ask.who_of a.standing) (seen_by cifs m (call_inside b.served (reverse b.suspended.items)) a) (λ r. StandingAgrees s natives (one_more (seen_by cifs m (call_inside b.served (reverse b.suspended.items)) a) r) z.standing) asked → asked ≡ mv → Asks std s natives cifs b m a z i mv
asks_now std s natives cifs prepared b m a z i is counted stand same who asked mv it what =
    let p = program std s natives in
    let call = call_inside b.served (reverse b.suspended.items) in
    let stands = innermost_stands s natives cifs m b a is stand in
    let next = subst (λ (ss : List Signature). next_move p (acting ss m call a) ≡ asked) prepared.are (asks_for p cifs m call a asked stands.who it.is) ∙ what in
    let seen : seen_by cifs m call a ≡ seen_by cifs m call z = sym (ap (seen_by cifs m call) same ∙ seen_still cifs m call a z.standing) in
    record {
      counted = counted;
      asks = λ base all first own events output h.
          let P = λ (n : ℕ). IsBetween p base all first own events (run_state p.signatures a (record b { moves = n }) m output) in
          let Q = λ (y : Activation Standing). IsAsking p base all first own events (run_state p.signatures y (record b { innermost = i; moves = b.moves - 1 }) m output) mv in
          let here : Q (record a { standing = z.standing }) = record { between = subst P counted (between_of p base all first own events b a m output is h); asks = next } in
          subst Q (sym same) here;
      fits = subst (λ (x : Move). MoveFits p.signatures (length p.functions) (seen_by cifs m call a).signature.result_type x) what it.fits;
      who = ap (λ (y : Activation Standing). who_of y.who) same ∙ stands.who ∙ sym who;
      after = λ r typed. subst (λ (y : SeenActivation). StandingAgrees s natives (one_more y r) z.standing) seen (it.after r (subst (λ (x : Move). IsOfType r (result_type_of p.signatures x)) (sym what) typed));
    }

module _ (std : Standard) (s : Script) (natives : List NamedNative) (cifs : List Signature) (b : Configuration Standing) (m : State) (a z : Activation Standing) (i : Option (Activation Standing)) (mv : Move) (it : Asks std s natives cifs b m a z i mv) where
  -- the activation after its move has a result
  pub after_stands : (r : ValueTree) → IsOfType r (result_type_of (program std s natives).signatures mv) → IsStanding s natives cifs m (call_inside b.served (reverse b.suspended.items)) (and_result z r)
  after_stands r typed = record {
    who = it.who;
    agrees = subst (λ (y : SeenActivation). StandingAgrees s natives y z.standing) (sym (seen_more cifs m (call_inside b.served (reverse b.suspended.items)) z r)) (it.after r typed);
  }

-- the same with an equal number of moves
pub turned_as : {S : Type 0} (p : Program) (base : Base) (all : Remainder) (first : Beginning) (own : List TraceItem) (n n' : ℕ) (b : Configuration S) (m : State) (o : SinkState) (t : Turn) → n ≡ n' → Turned p base all first own n b m o t → Turned p base all first own n' b m o t
turned_as p base all first own n n' b m o t same h =
    subst (λ (k : ℕ). Turned p base all first own k b m o t) same h

-- where no move is left the run does not go on
pub never_more : {S : Type 0} (p : Program) (base : Base) (all : Remainder) (first : Beginning) (own : List TraceItem) (b : Configuration S) (m : State) (o : SinkState) (t : Turn) → Turned p base all first own 0 b m o t → t ≡ turn.More → ⊥
never_more p base all first own b m o t h more =
    let went = subst (λ (u : Turn). Turned p base all first own 0 b m o u) more h in
    let counted : 0 ≡ suc b.moves = went.counted in
    omega (arith, counted)

-- where it goes on
pub went_on : {S : Type 0} (p : Program) (base : Base) (all : Remainder) (first : Beginning) (own : List TraceItem) (n : ℕ) (b : Configuration S) (m : State) (o : SinkState) (t : Turn) → Turned p base all first own n b m o t → t ≡ turn.More → WentOn p base all first own n b m o
went_on p base all first own n b m o t h more =
    subst (λ (u : Turn). Turned p base all first own n b m o u) more h

-- where an activation stands by the call that it answers to, said in another way
pub agrees_as : (s : Script) (natives : List NamedNative) (ss : List Signature) (m : State) (a : Activation Standing) (call call' : Option OpenCall) → call ≡ call' → StandingAgrees s natives (seen_by ss m call a) a.standing → StandingAgrees s natives (seen_by ss m call' a) a.standing
agrees_as s natives ss m a call call' same h =
    subst (λ (o : Option OpenCall). StandingAgrees s natives (seen_by ss m o a) a.standing) same h

pub asked_as : (p : Program) (who : Who) (s : Script) (natives : List NamedNative) (standing : Standing) (r : Result body.Move AllocError) (z z' : SeenActivation) → z ≡ z' → IfOk r (λ m. IsAsked p who z (λ v. StandingAgrees s natives (one_more z v) standing) (move_of m)) → IfOk r (λ m. IsAsked p who z' (λ v. StandingAgrees s natives (one_more z' v) standing) (move_of m))
asked_as p who s natives standing r z z' same h =
    subst (λ (y : SeenActivation). IfOk r (λ m. IsAsked p who y (λ v. StandingAgrees s natives (one_more y v) standing) (move_of m))) same h

pub func_below : (std : Standard) (s : Script) (natives : List NamedNative) (n func : ℕ) → length natives ≡ n → func < length (program std s natives).functions → func < length (script_of s).functions + n
func_below std s natives n func same below =
    let counted = count_of_functions std s natives in
    omega (arith, counted, same, below)

-- what a call leads to, by what a run is prepared with
pub does_at : (std : Standard) (s : Script) (natives : List NamedNative) (cifs : List Signature) (prepared : IsPrepared std s natives cifs) (ptr sig : ℕ) (args : List ValueTree) (r : Result Closure Stop) (base : Base) (all : Remainder) (first : Beginning) (own : List TraceItem) (events : List Event) (x : RunState) (asked : run.Move) → IsAsking (program std s natives) base all first own events x asked → ((p : Program) (a : meaning.Activation) (given : List ValueTree) → p.signatures ≡ cifs → p.need ≡ need_of std → a.left + STACK ≡ x.machine.sp → LeadsTo p a x.closures ptr sig given r) → LeadsTo (program std s natives) x.innermost x.closures ptr sig args r
does_at std s natives cifs prepared ptr sig args r base all first own events x asked is does =
    does (program std s natives) x.innermost args (sym prepared.are) refl is.between.left

-- the signature by which a prepared run calls a function
pub own_at : (std : Standard) (s : Script) (natives : List NamedNative) (cifs : List Signature) (prepared : IsPrepared std s natives cifs) (func sig own : ℕ) (z : SeenActivation) → own ≡ (function_at (program std s natives) func).signature → signature_at cifs sig ≡ signature_at cifs own → z.signature ≡ signature_at cifs sig → z.signature ≡ signature_at (program std s natives).signatures (function_at (program std s natives) func).signature
own_at std s natives cifs prepared func sig own z known same site =
    let p = program std s natives in
    site ∙ same ∙ ap (λ (k : ℕ). signature_at cifs k) known ∙ ap (λ (l : List Signature). signature_at l (function_at p func).signature) prepared.are

-- an interface for each signature of a run
module _ (std : Standard) (s : Script) (natives : List NamedNative) (n end : ℕ) (counted : end ≡ length (program std s natives).signatures) where
  pub one_of_all : n < end → n < length (script_of s).signatures + length (signatures_in natives)
  one_of_all below =
      let sum : length (program std s natives).signatures ≡ length (script_of s).signatures + length (signatures_in natives) = length-append (script_of s).signatures (signatures_in natives) in
      omega (arith, counted, sum, below)

  pub more_cifs : (cifs cifs' : List Signature) (sig : Signature) → n < end → cifs ≡ take n ((script_of s).signatures ++ signatures_in natives) → sig ≡ signature_at (program std s natives).signatures n → cifs' ≡ cifs ++ sig ∷ [] → cifs' ≡ take (n + 1) ((script_of s).signatures ++ signatures_in natives)
  more_cifs cifs cifs' sig below is same pushed =
      let xs = (program std s natives).signatures in
      pushed ∙ ap (λ (l : List Signature). l ++ sig ∷ []) is ∙ ap (λ (t : Signature). take n xs ++ t ∷ []) same ∙ sym (take_more xs n no_signature (subst (λ (k : ℕ). n < k) counted below))

  pub all_cifs : (cifs : List Signature) → end ≤ n → cifs ≡ take n ((script_of s).signatures ++ signatures_in natives) → cifs ≡ (program std s natives).signatures
  all_cifs cifs past is =
      is ∙ take_all n (program std s natives).signatures (subst (λ (k : ℕ). k ≤ n) counted past)
