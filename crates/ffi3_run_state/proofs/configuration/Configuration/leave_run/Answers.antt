use Rattle.std.proofs.Common.{◌≡◌, true, [], Option, Some, None, sym, subst, rules}
use Rattle.ffi3_type_spec.specs.Signature.{Signature, signature_at}
use Rattle.ffi3_type_spec.specs.Value.{fits}
use Rattle.ffi3_values.specs.ValueOf.{value_of}
use Rattle.ffi3_semantics_spec.specs.Move.{return}
use Rattle.ffi3_io.proofs.Writing.{took_as}
use Rattle.ffi3_invoke.specs.Calls.{HasReturned, IsCalled}
use Rattle.ffi3_place_spec.specs.Standard.{Standard}
use Rattle.ffi3_run_state.specs.declared.activation.OpenCall.{OpenCall}
use Rattle.ffi3_run_state.specs.Between.{RunState, IsAsking}
use Rattle.ffi3_run_state.specs.Activations.{calls_below, result_type_at}
use Rattle.ffi3_run_state.specs.Stack.{HoldsCalls}
use Rattle.ffi3_run_state.specs.TraceLines.{last_event}
use Rattle.ffi3_run_state.proofs.Configuring.{goes_off, outermost_state}
use Rattle.ffi3_run_state.proofs.Opened.{is_called}
use Rattle.ffi3_run_state.proofs.Accepting.{is_done, lines_told, main_returns, served_cut, served_returns}
use Rattle.ffi3_run_state.proofs.Transports.{by_names, cut_as, numbered, return_told_as}
use Rattle.ffi3_run_state.proofs.configuration.Configuration.leave_run.Goals as goal

pub give_back-requires-clause-called : goal.give_back-requires-clause-called
give_back-requires-clause-called g c =
    let call : OpenCall = c.in-Some.field-0 in
    let stand = c.requires.stand in
    let is_served : c.args.self.now.served ≡ Some call = search rules in
    let held = subst (λ (k : Option OpenCall). HoldsCalls g.A.Abi.standard c.args.cifs.now stand.0 stand.1 c.args.machine.now (calls_below k) stand.2) is_served stand.3 in
    let called = is_called g.A.Abi.standard c.args.cifs.now stand.0 stand.1 c.args.machine.now call [] stand.2 held in
    subst (λ (s : Signature). IsCalled g.A.Abi.standard s c.args.machine.now) (sym c.get-cif.ensures) called

pub returns-in_default-clause-turned : goal.returns-in_default-clause-turned
returns-in_default-clause-turned g c = λ p base all first own events current standard signatures tracing is.
    let b = c.args.self.now in
    let m = c.args.machine.now in
    let o = g.O.Sink.state c.args.output.now in
    let v = value_of c.args.value.now in
    let not_served : b.served ≡ None = search rules in
    let asks = subst (λ (x : RunState). IsAsking p base all first own events x (return v)) (outermost_state p.signatures current b m o None c.requires.alone not_served) is in
    let it = subst (λ (k : Option OpenCall). fits (result_type_at c.args.cifs.now k) v ≡ true) not_served c.requires.fits in
    is_done p base all first own v m o _ c.requires.taken c.requires.alone c.take.ensures.after (main_returns p base all first own events b.table b.moves m o current v asks it)

pub returns-in-Ok-clause-turned : goal.returns-in-Ok-clause-turned
returns-in-Ok-clause-turned g c = λ p base all first own events current standard signatures tracing is.
    let b = c.args.self.now in
    let m = c.args.machine.now in
    let m' = c.give_back.new.machine in
    let o = g.O.Sink.state c.args.output.now in
    let o' = g.O.Sink.state c.tell_return.new.output in
    let v = value_of c.args.value.now in
    let call : OpenCall = c.in-Some.field-0 in
    let is_served : b.served ≡ Some call = search rules in
    let asks = subst (λ (x : RunState). IsAsking p base all first own events x (return v)) (outermost_state p.signatures current b m o (Some call) c.requires.alone is_served) is in
    let site = numbered p c.args.cifs.now call.sig c.get-cif.result.now signatures c.get-cif.ensures in
    let given = by_names (λ (x : Standard) (y : Signature). HasReturned x y v m m') g.A.Abi.standard base.standard c.get-cif.result.now (signature_at p.signatures call.sig) (sym standard) site c.give_back.ensures in
    let lines = lines_told p base all first own events b.table b.moves m o current v call asks m' given c.args.trace tracing in
    let told = took_as o o' _ _ (return_told_as c.args.trace g.A.Abi.standard base.standard c.get-cif.result.now (signature_at p.signatures call.sig) (last_event m'.events) v _ (sym standard) site lines) c.in-Ok.ensures in
    is_done p base all first own v m' o' _ c.requires.taken c.requires.alone c.take.ensures.after (served_returns p base all first own events b.table b.moves m o current v call asks m' given o' told)

pub returns-in-Err-clause-turned : goal.returns-in-Err-clause-turned
returns-in-Err-clause-turned g c = λ p base all first own events current standard signatures tracing is.
    let b = c.args.self.now in
    let m = c.args.machine.now in
    let m' = c.give_back.new.machine in
    let o = g.O.Sink.state c.args.output.now in
    let o' = g.O.Sink.state c.tell_return.new.output in
    let v = value_of c.args.value.now in
    let call : OpenCall = c.in-Some.field-0 in
    let is_served : b.served ≡ Some call = search rules in
    let asks = subst (λ (x : RunState). IsAsking p base all first own events x (return v)) (outermost_state p.signatures current b m o (Some call) c.requires.alone is_served) is in
    let site = numbered p c.args.cifs.now call.sig c.get-cif.result.now signatures c.get-cif.ensures in
    let given = by_names (λ (x : Standard) (y : Signature). HasReturned x y v m m') g.A.Abi.standard base.standard c.get-cif.result.now (signature_at p.signatures call.sig) (sym standard) site c.give_back.ensures in
    let lines = lines_told p base all first own events b.table b.moves m o current v call asks m' given c.args.trace tracing in
    let told = return_told_as c.args.trace g.A.Abi.standard base.standard c.get-cif.result.now (signature_at p.signatures call.sig) (last_event m'.events) v _ (sym standard) site lines in
    let cut_off = cut_as _ _ o o' c.in-Err.why told c.in-Err.ensures in
    goes_off p base all first own _ m' o' c.in-Err.why c.cut_off.result c.cut_off.ensures.is (served_cut p base all first own events b.table b.moves m o current v call asks m' given c.in-Err.why o' cut_off)
