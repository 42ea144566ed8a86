use Rattle.std.proofs.Common.{◌≡◌, List, ap, map, refl, rules}
use Rattle.ffi3_machine_spec.specs.State.{begun}
use Rattle.ffi3_script_spec.specs.Natives.{NamedNative}
use Rattle.ffi3_script_spec.specs.Handed.{handed_in}
use Rattle.ffi3_run_state.specs.declared.configuration.Turn.TheVariants as turn
use Rattle.ffi3_runner.specs.Ready.{traced_or_not}
use Rattle.ffi3_runner_tests.proofs.Moving.{can_as}
use Rattle.ffi3_runner_tests.proofs.turns.take_turns.Goals as goal

pub loop-second-init : goal.loop-second-init
loop-second-init g c =
    let m = c.begin.new.self in
    let begins : m ≡ begun g.A.Abi.TARGET m.spare_events m.spare_bytes = search rules in
    let natives : ◌≡◌ {A = List NamedNative} _ _ = λ i. map {B = NamedNative} (λ b. handed_in ((goal.Native-dyn g (b.vtable, b.value)).Native.title b.value) ((goal.Native-dyn g (b.vtable, b.value)).Body.meaning b.value) ((goal.Native-dyn g (b.vtable, b.value)).Body.signatures b.value)) (c.start.ensures.prepared i).natives.now.items in
    can_as g.A.Abi.standard _ _ _ _ _ _ _ _ (ap (λ x. x.script.now) c.start.ensures.prepared) natives (ap (λ x. x.cifs) c.start.ensures.prepared) (record {
      prepared = c.in_ok-runner.ensures.prepared;
      standing = c.start.ensures.standing _;
      between = c.start.ensures.goes_on m begins;
    })

pub loop-second-preserved : goal.loop-second-preserved
loop-second-preserved g c =
    let inv = c.loop-second.invariant in
    let more : c.turn-end.result ≡ turn.More = search rules in
    let natives : ◌≡◌ {A = List NamedNative} _ _ = λ i. map {B = NamedNative} (λ b. handed_in ((goal.Native-dyn g (b.vtable, b.value)).Native.title b.value) ((goal.Native-dyn g (b.vtable, b.value)).Body.meaning b.value) ((goal.Native-dyn g (b.vtable, b.value)).Body.signatures b.value)) (c.turn-end.ensures.prepared i).natives.now.items in
    can_as g.A.Abi.standard _ _ _ _ _ _ _ _ (ap (λ x. x.script.now) c.turn-end.ensures.prepared) natives (ap (λ x. x.cifs) c.turn-end.ensures.prepared) (record {
      prepared = inv.prepared;
      standing = c.turn-end.ensures.standing more;
      between = c.turn-end.ensures.between traced_or_not refl inv.between more;
    })

pub turn-end-requires-clause-between : goal.turn-end-requires-clause-between
turn-end-requires-clause-between g c =
    let inv = c.loop-second.invariant in
    (traced_or_not, refl, inv.between)
