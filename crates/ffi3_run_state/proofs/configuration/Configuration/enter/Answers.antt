use Rattle.std.proofs.Common.{◌+◌, ◌++◌, List, [], ◌∷◌, length, reverse, refl, sym, ap, ◌∙◌, subst, arith}
use Rattle.std.proofs.lemmas.List.{length-append}
use Rattle.ffi3_type_spec.specs.Signature.{signature_at}
use Rattle.ffi3_place_spec.specs.Event.{Event}
use Rattle.ffi3_semantics_spec.specs.Move.{call}
use Rattle.ffi3_semantics_spec.specs.Trace.{Enter}
use Rattle.ffi3_invoke.specs.Calls.{entry_at}
use Rattle.ffi3_io.proofs.Writing.{took_as}
use Rattle.ffi3_run_state.specs.declared.activation.Activation.{Activation}
use Rattle.ffi3_run_state.specs.declared.activation.Waiting.{Waiting}
use Rattle.ffi3_run_state.specs.Between.{IsBetween, run_state_with}
use Rattle.ffi3_run_state.specs.Going.{activation_of}
use Rattle.ffi3_run_state.proofs.Accepting.{WasAccepted}
use Rattle.ffi3_run_state.proofs.Configuring.{call_entered, call_lines, call_cut_off, goes_off, reverse-last}
use Rattle.ffi3_run_state.proofs.Passing.{begins, called_from, passed_by, shows, shows_by}
use Rattle.ffi3_run_state.proofs.Since.{looked_at}
use Rattle.ffi3_run_state.proofs.Transports.{cut_as, entry_told_as, numbered}
use Rattle.ffi3_run_state.proofs.configuration.Configuration.enter.Goals as goal

pub accept-incoming-requires-clause-target : goal.accept-incoming-requires-clause-target
accept-incoming-requires-clause-target g c =
    (shows g.A.Abi.standard _ c.requires.passed.1 c.requires.passed.2 c.requires.passed.0 c.args.machine.now c.requires.passed.3).target ∙ g.met.A.Abi.target_is

pub accept-incoming-requires-clause-entry : goal.accept-incoming-requires-clause-entry
accept-incoming-requires-clause-entry g c =
    (shows g.A.Abi.standard _ c.requires.passed.1 c.requires.passed.2 c.requires.passed.0 c.args.machine.now c.requires.passed.3).entry

pub accept-incoming-requires-clause-room : goal.accept-incoming-requires-clause-room
accept-incoming-requires-clause-room g c =
    (shows_by g.A.Abi.standard _ c.get-cif.result.now c.requires.passed.1 c.requires.passed.2 c.requires.passed.0 c.args.machine.now (c.requires.same ∙ sym c.get-cif.ensures) c.requires.passed.3).room

pub accept-incoming-requires-clause-frame : goal.accept-incoming-requires-clause-frame
accept-incoming-requires-clause-frame g c =
    (shows_by g.A.Abi.standard _ c.get-cif.result.now c.requires.passed.1 c.requires.passed.2 c.requires.passed.0 c.args.machine.now (c.requires.same ∙ sym c.get-cif.ensures) c.requires.passed.3).frame

pub accept-incoming-requires-clause-some : goal.accept-incoming-requires-clause-some
accept-incoming-requires-clause-some g c =
    (c.requires.passed.2, (shows_by g.A.Abi.standard _ c.get-cif.result.now c.requires.passed.1 c.requires.passed.2 c.requires.passed.0 c.args.machine.now (c.requires.same ∙ sym c.get-cif.ensures) c.requires.passed.3).owns)

pub accept-incoming-requires-clause-events : goal.accept-incoming-requires-clause-events
accept-incoming-requires-clause-events g c =
    omega (arith, (shows g.A.Abi.standard _ c.requires.passed.1 c.requires.passed.2 c.requires.passed.0 c.args.machine.now c.requires.passed.3).events)

pub accept-incoming-requires-clause-bytes : goal.accept-incoming-requires-clause-bytes
accept-incoming-requires-clause-bytes g c =
    omega (arith, (shows_by g.A.Abi.standard _ c.get-cif.result.now c.requires.passed.1 c.requires.passed.2 c.requires.passed.0 c.args.machine.now (c.requires.same ∙ sym c.get-cif.ensures) c.requires.passed.3).bytes)

pub tell_entry-told-requires-clause-recorded : goal.tell_entry-told-requires-clause-recorded
tell_entry-told-requires-clause-recorded g c =
    let counted = ap (λ (l : List Event). length l) c.accept-incoming.ensures.events ∙ length-append c.args.machine.now.events (entry_at g.A.Abi.standard c.get-cif.result.now c.args.machine.now ∷ []) in
    omega (arith, counted)

pub tell_entry-told-requires-clause-low : goal.tell_entry-told-requires-clause-low
tell_entry-told-requires-clause-low g c =
    omega (arith, (shows_by g.A.Abi.standard _ c.get-cif.result.now c.requires.passed.1 c.requires.passed.2 c.requires.passed.0 c.args.machine.now (c.requires.same ∙ sym c.get-cif.ensures) c.requires.passed.3).room, c.accept-incoming.ensures.sp)

pub tell_entry-told-requires-clause-high : goal.tell_entry-told-requires-clause-high
tell_entry-told-requires-clause-high g c =
    omega (arith, (shows_by g.A.Abi.standard _ c.get-cif.result.now c.requires.passed.1 c.requires.passed.2 c.requires.passed.0 c.args.machine.now (c.requires.same ∙ sym c.get-cif.ensures) c.requires.passed.3).frame, c.accept-incoming.ensures.sp)

pub returns-clause-above : goal.returns-clause-above
returns-clause-above g c = λ more before ptr args passed address count over.
    let std = g.A.Abi.standard in
    let m = c.args.machine.now in
    let incoming = c.accept-incoming.result in
    let e = c.accept-incoming.ensures in
    let s = c.get-cif.result.now in
    let is = passed_by std _ s ptr args before m (c.requires.same ∙ sym c.get-cif.ensures) passed in
    let here = shows std s ptr args before m is in
    let accepted : WasAccepted std s m c.accept-incoming.new.machine incoming = record { events = e.events; received = e.received; incoming_is = e.incoming; block = e.block; sp = e.sp; within = e.within; steps = e.steps; spare_events = e.spare_events; spare_bytes = e.spare_bytes; in_callee = e.in_callee here.return_address here.events here.bytes } in
    (begins std s ptr args before m is c.accept-incoming.new.machine incoming g.met.A.Abi.agrees accepted e.reserved).above address count over

pub returns-in-Err-clause-turned : goal.returns-in-Err-clause-turned
returns-in-Err-clause-turned g c = λ p base all first own events before ptr args standard signatures tracing passed is does.
    let std = g.A.Abi.standard in
    let o = g.O.Sink.state c.args.output.now in
    let o' = g.O.Sink.state c.tell_entry-told.new.output in
    let b = c.args.self.now in
    let m' = c.accept-incoming.new.machine in
    let closure = c.args.closure in
    let sig = c.args.sig in
    let incoming = c.accept-incoming.result in
    let e = c.accept-incoming.ensures in
    let s = c.get-cif.result.now in
    let site = c.get-cif.ensures ∙ sym c.requires.same in
    let called = called_from p base std c.args.cifs.now s ptr sig args before c.args.machine.now m' incoming standard signatures site c.requires.site g.met.A.Abi.agrees passed (λ here. record { events = e.events; received = e.received; incoming_is = e.incoming; block = e.block; sp = e.sp; within = e.within; steps = e.steps; spare_events = e.spare_events; spare_bytes = e.spare_bytes; in_callee = e.in_callee here.return_address here.events here.bytes }) e.reserved in
    let lines = entry_told_as c.args.trace std base.standard s (signature_at p.signatures sig) m' _ (sym standard) (numbered p c.args.cifs.now sig s signatures site) (call_lines p base all first own events b.served (reverse b.suspended.items) b.table b.moves before o c.args.current ptr sig args is closure does m' incoming called c.args.standing c.args.trace tracing) in
    goes_off p base all first own b m' o' c.in-Err.why c.cut_off.result c.cut_off.ensures.is (call_cut_off p base all first own events b.served (reverse b.suspended.items) b.table b.moves before o c.args.current ptr sig args is closure does m' incoming called c.args.standing c.in-Err.why o' (cut_as _ _ o o' c.in-Err.why lines c.in-Err.ensures))

pub returns-clause-turned : goal.returns-clause-turned
returns-clause-turned g c = λ p base all first own events before ptr args standard signatures tracing passed is does.
    let std = g.A.Abi.standard in
    let o = g.O.Sink.state c.args.output.now in
    let o' = g.O.Sink.state c.tell_entry-told.new.output in
    let b = c.args.self.now in
    let m' = c.accept-incoming.new.machine in
    let closure = c.args.closure in
    let sig = c.args.sig in
    let incoming = c.accept-incoming.result in
    let e = c.accept-incoming.ensures in
    let s = c.get-cif.result.now in
    let site = c.get-cif.ensures ∙ sym c.requires.same in
    let called = called_from p base std c.args.cifs.now s ptr sig args before c.args.machine.now m' incoming standard signatures site c.requires.site g.met.A.Abi.agrees passed (λ here. record { events = e.events; received = e.received; incoming_is = e.incoming; block = e.block; sp = e.sp; within = e.within; steps = e.steps; spare_events = e.spare_events; spare_bytes = e.spare_bytes; in_callee = e.in_callee here.return_address here.events here.bytes }) e.reserved in
    let lines = entry_told_as c.args.trace std base.standard s (signature_at p.signatures sig) m' _ (sym standard) (numbered p c.args.cifs.now sig s signatures site) (call_lines p base all first own events b.served (reverse b.suspended.items) b.table b.moves before o c.args.current ptr sig args is closure does m' incoming called c.args.standing c.args.trace tracing) in
    let entered = call_entered p base all first own events b.served (reverse b.suspended.items) b.table b.moves before o c.args.current ptr sig args is closure does m' incoming called c.args.standing o' (took_as o o' _ _ lines c.in_default.ensures) in
    let turned = ap (λ (l : List (Waiting g.row.S.Denot)). reverse l) c.push_reserved.ensures.items ∙ reverse-last b.suspended.items (record { activation = c.args.current; call = record { sig = sig; incoming = incoming } }) in
    let P = λ (l : List (Waiting g.row.S.Denot)) (a : Activation g.row.S.Denot). IsBetween p base all first (own ++ Enter ptr sig args ∷ []) (events ++ called.begun.entry ∷ []) (run_state_with p.signatures b.served l b.table b.moves m' o' a) in
    let stands = subst (P (reverse c.push_reserved.new.self.items)) (sym c.of_closure.ensures) (subst (λ (l : List (Waiting g.row.S.Denot)). P l (activation_of closure c.args.standing)) (sym turned) entered) in
    record { more = Enter ptr sig args ∷ []; events = events ++ called.begun.entry ∷ []; stands = stands; stands_anew = λ tracing o₁. looked_at p base all first (own ++ Enter ptr sig args ∷ []) (events ++ called.begun.entry ∷ []) _ tracing o₁ stands; one = omega arith; counted = refl }
