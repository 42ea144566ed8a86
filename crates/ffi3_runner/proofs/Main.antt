-- A run of main, from its start on a machine that begins.
use Rattle.std.proofs.Common.{◌≡◌, ℕ, inl, List, [], Option, Some, None, reverse, refl, sym, ap, ◌∙◌, subst, arith}
use Rattle.std.specs.Prelude.{Bool}
use Rattle.std.specs.List.{AllByRecursion}
use Rattle.ffi3_type_spec.specs.declared.Isa.{Isa}
use Rattle.ffi3_type_spec.specs.declared.Isa.TheVariants.{Amd64, Aarch64, Riscv}
use Rattle.ffi3_type_spec.specs.TargetIsa.{isa_of}
use Rattle.ffi3_place_spec.specs.declared.Loc.{Loc}
use Rattle.ffi3_place_spec.specs.Agrees.{AgreesWithMachine}
use Rattle.ffi3_place_spec.specs.Image.{register}
use Rattle.ffi3_place_spec.specs.MachineRegisters.{reserved_places}
use Rattle.ffi3_place_spec.specs.Standard.{Standard, need_of}
use Rattle.ffi3_semantics_spec.specs.Closures.{Closures, no_closures}
use Rattle.ffi3_semantics_spec.specs.Meaning.{Program, meaning_of, main_call, most_moves, stack_size, main}
use Rattle.ffi3_small_step_spec.specs.Remainder.{remainder_of}
use Rattle.ffi3_small_step_spec.specs.SoFar.{main_base}
use Rattle.ffi3_small_step_spec.proofs.Coming.{comes_from}
use Rattle.ffi3_machine_spec.specs.State.{State, begun, begun_code, begun_general, image_of, scribbled_general}
use Rattle.ffi3_machine_spec.specs.Slots.{HoldsMap}
use Rattle.ffi3_io_spec.specs.Sink.{SinkState}
use Rattle.ffi3_io.proofs.Writing.{took_nothing}
use Rattle.ffi3_next_move.specs.declared.standing.Standing.{Standing}
use Rattle.ffi3_run_state.specs.declared.activation.Activation.{Activation}
use Rattle.ffi3_run_state.specs.declared.activation.OpenCall.{OpenCall}
use Rattle.ffi3_run_state.specs.declared.activation.Waiting.{Waiting}
use Rattle.ffi3_run_state.specs.declared.activation.Who.TheVariants.{Main}
use Rattle.ffi3_run_state.specs.declared.configuration.Configuration.{Configuration}
use Rattle.ffi3_run_state.specs.Between.{RunState, IsBetween, run_state, run_state_with}
use Rattle.ffi3_run_state.specs.Activations.{acting, who_of, call_inside}
use Rattle.ffi3_run_state.specs.Turned.{StandsAt}
use Rattle.ffi3_run_state.proofs.Closed.{none_known}
use Rattle.ffi3_runner.specs.Running.{IsNew, IsPrepared, program}
use Rattle.ffi3_runner.specs.Started.{main_beginning}
use Rattle.ffi3_type_spec.specs.declared.Target.{Target}
use Rattle.ffi3_type_spec.specs.Signature.{Signature}
use Rattle.ffi3_semantics_spec.specs.Move.{no_signature}
use Rattle.ffi3_small_step_spec.specs.MainTracing.{main_tracing}
use Rattle.ffi3_small_step_spec.proofs.TracedCalls.{main_is_traced}
use Rattle.ffi3_semantics_spec.specs.SeenActivation.{SeenActivation}
use Rattle.ffi3_script_spec.specs.Natives.{NamedNative}
use Rattle.ffi3_script.specs.declared.script.Script.{Script}
use Rattle.ffi3_next_move.specs.Stands.{StandingAgrees}
use Rattle.ffi3_runner.specs.Agreeing.{seen_by_main, IsStanding, AllWillStand, PositionsAgree}
use Rattle.ffi3_runner.specs.Ready.{CanGoOn, traced_or_not}
use Rattle.ffi3_runner.proofs.Running.{can_go_on}
use Rattle.ffi3_next_move.specs.Stands as ask

-- reserved registers hold 0 where a machine begins
none_reserved : (isa : Isa) (floating : List ℕ) (sp : ℕ) (stack : List ℕ) → AllByRecursion (λ at. register (record { general = begun_general isa; floating = floating; sp = sp; stack = stack }) at ≡ 0) (reserved_places isa)
unfolding begun_general scribbled_general
none_reserved Amd64 floating sp stack = tt
none_reserved Aarch64 floating sp stack = (refl, tt)
none_reserved Riscv floating sp stack = (refl, (refl, (refl, tt)))

module _ (p : Program) (std : Standard) (needs : p.need ≡ need_of std) (agrees : AgreesWithMachine std) (k l : ℕ) (o : SinkState) (trace : Bool) where
  abbrev machine : State
  machine = begun std.target k l

  abbrev start : RunState
  start = record {
    innermost = main_call;
    suspended = [];
    calls = [];
    closures = no_closures;
    moves = most_moves;
    machine = machine;
    output = o;
  }

  reserved_hold : AllByRecursion (λ at. register (image_of 0 machine) at ≡ 0) std.reserved
  reserved_hold =
      let P = λ (locs : List Loc). AllByRecursion (λ at. register (image_of 0 machine) at ≡ 0) locs in
      subst P (sym agrees.reserved) (none_reserved (isa_of std.target) machine.floating machine.sp (image_of 0 machine).stack)

  pub starts : HoldsMap std.target no_closures (begun_code (isa_of std.target)) → IsBetween p (main_base std) (remainder_of (meaning_of p)) (main_beginning trace std o) [] [] start
  starts holds = record {
    needs = needs;
    count = refl;
    top = omega arith;
    come = comes_from p (main_base std) main_call no_closures most_moves refl refl;
    journal = refl;
    steps = refl;
    written = record { told = omega arith; took = took_nothing o };
    mark = inl (omega arith);
    deep = omega arith;
    left = refl;
    calls = record { target = refl; stand = refl; reserved = reserved_hold; room = omega arith; bytes = omega arith };
    holds = holds;
    known = none_known p;
    few = omega arith;
    others_few = tt;
    found = record { above = λ address count over. refl; events = omega arith; bytes = omega arith };
    outermost = refl;
  }

  -- THE RUN STANDS at main's first move
  module _ (b : Configuration Standing) (new : IsNew b) (a : Activation Standing) (who : a.who ≡ Main) (user : a.user ≡ 0) (results : a.results ≡ []) where
    acts : acting p.signatures machine None a ≡ main_call
    acts =
        λ i. record { who = who_of (who i); arguments = []; user = user i; left = stack_size; results = results i }

    run_state_is : run_state p.signatures a b machine o ≡ start
    run_state_is =
        ap (λ (s : Option OpenCall). run_state_with p.signatures s (reverse b.suspended.items) b.table b.moves machine o a) new.served
        ∙ ap (λ (w : List (Waiting Standing)). run_state_with p.signatures None (reverse w) b.table b.moves machine o a) new.suspended
        ∙ ap (λ (c : Closures). run_state_with p.signatures None [] c b.moves machine o a) new.closures
        ∙ ap (λ (n : ℕ). run_state_with p.signatures None [] no_closures n machine o a) new.moves
        ∙ (λ i. record { innermost = acts i; suspended = []; calls = []; closures = no_closures; moves = most_moves; machine = machine; output = o })

    pub stands_at_start : StandsAt p (main_base std) (remainder_of (meaning_of p)) (main_beginning trace std o) [] [] (record b { innermost = Some a }) machine o
    stands_at_start =
        let P = λ (c : Closures). HoldsMap std.target c (begun_code (isa_of std.target)) in
        let holds = subst P new.closures (new.begins std.target) in
        subst (λ (x : RunState). IsBetween p (main_base std) (remainder_of (meaning_of p)) (main_beginning trace std o) [] [] x) (sym run_state_is) (starts holds)

-- main stands before its first move
pub main_stands : (s : Script) (natives : List NamedNative) (ss : List Signature) (m : State) (b : Configuration Standing) → IsNew b → (a : Activation Standing) → a.who ≡ Main → a.results ≡ [] → ask.who_of a.standing ≡ main → ((z : SeenActivation) → z.signature ≡ no_signature → z.results ≡ [] → StandingAgrees s natives z a.standing) → PositionsAgree s natives ss m (record b { innermost = Some a })
main_stands s natives ss m b new a is_main none who agrees =
    let here : IsStanding s natives ss m None a = record { who = ap who_of is_main ∙ sym who; agrees = agrees (seen_by_main a) refl none } in
    let P = λ (o : Option OpenCall). IsStanding s natives ss m o a in
    let Q = λ (l : List (Waiting Standing)). AllWillStand s natives ss m b.served (reverse l) in
    let call : call_inside b.served (reverse b.suspended.items) ≡ None = ap (λ (l : List (Waiting Standing)). call_inside b.served (reverse l)) new.suspended ∙ new.served in
    record { innermost = subst P (sym call) here; others = subst Q (sym new.suspended) tt }

module _ (std : Standard) (s : Script) (natives : List NamedNative) (cifs : List Signature) (prepared : IsPrepared std s natives cifs) (agrees : AgreesWithMachine std) (target : Target) (target_is : std.target ≡ target) (k l : ℕ) (m : State) (begins : m ≡ begun target k l) (o : SinkState) (b : Configuration Standing) (new : IsNew b) (a : Activation Standing) (who : a.who ≡ Main) (user : a.user ≡ 0) (results : a.results ≡ []) (trace : Bool) where
  pub starts_here : StandsAt (program std s natives) (main_base std) (remainder_of (meaning_of (program std s natives))) (main_beginning trace std o) [] [] (record b { innermost = Some a }) m o
  starts_here =
      let P = λ (x : State). StandsAt (program std s natives) (main_base std) (remainder_of (meaning_of (program std s natives))) (main_beginning trace std o) [] [] (record b { innermost = Some a }) x o in
      let same : begun std.target k l ≡ m = ap (λ (t : Target). begun t k l) target_is ∙ sym begins in
      subst P same (stands_at_start (program std s natives) std refl agrees k l o trace b new a who user results)

-- where a run of main starts
module _ (std : Standard) (s : Script) (natives : List NamedNative) (cifs : List Signature) (prepared : IsPrepared std s natives cifs) (trace : Bool) (m : State) (o : SinkState) (b : Configuration Standing) (stands : StandsAt (program std s natives) (main_base std) (remainder_of (meaning_of (program std s natives))) (main_beginning trace std o) [] [] b m o) where
  pub start_between : CanGoOn std (program std s natives) traced_or_not b m
  start_between =
      can_go_on std (program std s natives) (main_base std) (remainder_of (meaning_of (program std s natives))) (main_beginning trace std o) [] [] (λ t. main_tracing t std) b m o refl (main_is_traced (program std s natives) std) stands
