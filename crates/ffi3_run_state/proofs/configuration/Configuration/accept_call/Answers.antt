use Rattle.std.proofs.Common.{◌≡◌, ◌<◌, length, Some, List, [], ◌∷◌, reverse, refl, sym, ap, ◌∙◌, subst, arith, length-append}
use Rattle.ffi3_type_spec.specs.Signature.{Signature, signature_at}
use Rattle.ffi3_invoke.specs.Calls.{entry_at}
use Rattle.ffi3_run_state.specs.declared.activation.Activation.{Activation}
use Rattle.ffi3_run_state.specs.declared.activation.OpenCall.{OpenCall}
use Rattle.ffi3_run_state.specs.declared.activation.Waiting.{Waiting}
use Rattle.ffi3_run_state.specs.Between.{IsBetween, run_state_with}
use Rattle.ffi3_run_state.specs.Going.{activation_of}
use Rattle.ffi3_run_state.specs.Served.{ShowsCall, served_base, served_beginning, served_left, served_tracing}
use Rattle.ffi3_run_state.proofs.Accepting.{WasAccepted, cut_at_entry, entry_told, served_begins}
use Rattle.ffi3_run_state.proofs.Transports.{as_left, cut_as, entry_told_as, numbered}
use Rattle.ffi3_io.proofs.Writing.{took_as}
use Rattle.ffi3_place_spec.specs.Event.{Event}
use Rattle.ffi3_machine_spec.specs.State.{State}
use Rattle.ffi3_run_state.proofs.configuration.Configuration.accept_call.Goals as goal

pub accept-incoming-requires-clause-target : goal.accept-incoming-requires-clause-target
accept-incoming-requires-clause-target g c = c.requires.shows.1.target ∙ g.met.A.Abi.target_is

pub accept-incoming-requires-clause-entry : goal.accept-incoming-requires-clause-entry
accept-incoming-requires-clause-entry g c = c.requires.shows.1.entry

pub accept-incoming-requires-clause-room : goal.accept-incoming-requires-clause-room
accept-incoming-requires-clause-room g c =
    (subst (λ (s : Signature). ShowsCall g.A.Abi.standard s c.requires.shows.0 c.args.machine.now) (sym c.get-cif.ensures) c.requires.shows.1).room

pub accept-incoming-requires-clause-frame : goal.accept-incoming-requires-clause-frame
accept-incoming-requires-clause-frame g c =
    (subst (λ (s : Signature). ShowsCall g.A.Abi.standard s c.requires.shows.0 c.args.machine.now) (sym c.get-cif.ensures) c.requires.shows.1).frame

pub accept-incoming-requires-clause-some : goal.accept-incoming-requires-clause-some
accept-incoming-requires-clause-some g c =
    (c.requires.shows.0, (subst (λ (s : Signature). ShowsCall g.A.Abi.standard s c.requires.shows.0 c.args.machine.now) (sym c.get-cif.ensures) c.requires.shows.1).owns)

pub accept-incoming-requires-clause-events : goal.accept-incoming-requires-clause-events
accept-incoming-requires-clause-events g c =
    omega (arith, c.requires.shows.1.events)

pub accept-incoming-requires-clause-bytes : goal.accept-incoming-requires-clause-bytes
accept-incoming-requires-clause-bytes g c =
    omega (arith, (subst (λ (s : Signature). ShowsCall g.A.Abi.standard s c.requires.shows.0 c.args.machine.now) (sym c.get-cif.ensures) c.requires.shows.1).bytes)

pub tell_entry-requires-clause-recorded : goal.tell_entry-requires-clause-recorded
tell_entry-requires-clause-recorded g c =
    let counted = ap (λ (l : List Event). length l) c.accept-incoming.ensures.events ∙ length-append c.args.machine.now.events (entry_at g.A.Abi.standard c.get-cif.result.now c.args.machine.now ∷ []) in
    omega (arith, counted)

pub tell_entry-requires-clause-low : goal.tell_entry-requires-clause-low
tell_entry-requires-clause-low g c =
    omega (arith, (subst (λ (s : Signature). ShowsCall g.A.Abi.standard s c.requires.shows.0 c.args.machine.now) (sym c.get-cif.ensures) c.requires.shows.1).room, c.accept-incoming.ensures.sp)

pub tell_entry-requires-clause-high : goal.tell_entry-requires-clause-high
tell_entry-requires-clause-high g c =
    omega (arith, (subst (λ (s : Signature). ShowsCall g.A.Abi.standard s c.requires.shows.0 c.args.machine.now) (sym c.get-cif.ensures) c.requires.shows.1).frame, c.accept-incoming.ensures.sp)

pub returns-in-Err-clause-accepted : goal.returns-in-Err-clause-accepted
returns-in-Err-clause-accepted g c = λ p arguments signatures needs shown holds known few.
    let std = g.A.Abi.standard in
    let b = c.args.self.now in
    let m = c.args.machine.now in
    let m' = c.accept-incoming.new.machine in
    let o = g.O.Sink.state c.args.output.now in
    let o' = g.O.Sink.state c.tell_entry.new.output in
    let closure = c.args.closure in
    let incoming = c.accept-incoming.result in
    let e = c.accept-incoming.ensures in
    let s = c.get-cif.result.now in
    let same : signature_at p.signatures closure.sig ≡ s = sym (numbered p c.args.cifs.now closure.sig s signatures c.get-cif.ensures) in
    let here = subst (λ (t : Signature). ShowsCall std t arguments m) (sym c.get-cif.ensures) shown in
    let accepted : WasAccepted std s m m' incoming = record { events = e.events; received = e.received; incoming_is = e.incoming; block = e.block; sp = e.sp; within = e.within; steps = e.steps; spare_events = e.spare_events; spare_bytes = e.spare_bytes; in_callee = e.in_callee here.return_address here.events here.bytes } in
    let shows = subst (λ (t : Signature). ShowsCall std t arguments m) (sym same) here in
    let is = subst (λ (t : Signature). WasAccepted std t m m' incoming) (sym same) accepted in
    let below = subst (λ (l : List Signature). closure.sig < length l) (sym signatures) c.requires.below in
    let tracing = served_tracing c.args.trace std p.signatures closure.sig m in
    let lines = entry_told_as c.args.trace std std s (signature_at p.signatures closure.sig) m' _ refl (sym same) (entry_told p std closure arguments m m' incoming o b.table b.moves tracing needs below shows holds known few is c.args.trace) in
    cut_at_entry p std closure arguments m m' incoming o b.table b.moves tracing needs below shows holds known few is c.args.trace c.in-Err.why o' (cut_as _ _ o o' c.in-Err.why lines c.in-Err.ensures)

pub returns-clause-accepted : goal.returns-clause-accepted
returns-clause-accepted g c = λ p arguments signatures needs shown holds known few.
    let std = g.A.Abi.standard in
    let b = c.args.self.now in
    let m = c.args.machine.now in
    let m' = c.accept-incoming.new.machine in
    let o = g.O.Sink.state c.args.output.now in
    let o' = g.O.Sink.state c.tell_entry.new.output in
    let closure = c.args.closure in
    let incoming = c.accept-incoming.result in
    let e = c.accept-incoming.ensures in
    let s = c.get-cif.result.now in
    let same : signature_at p.signatures closure.sig ≡ s = sym (numbered p c.args.cifs.now closure.sig s signatures c.get-cif.ensures) in
    let here = subst (λ (t : Signature). ShowsCall std t arguments m) (sym c.get-cif.ensures) shown in
    let accepted : WasAccepted std s m m' incoming = record { events = e.events; received = e.received; incoming_is = e.incoming; block = e.block; sp = e.sp; within = e.within; steps = e.steps; spare_events = e.spare_events; spare_bytes = e.spare_bytes; in_callee = e.in_callee here.return_address here.events here.bytes } in
    let shows = subst (λ (t : Signature). ShowsCall std t arguments m) (sym same) here in
    let is = subst (λ (t : Signature). WasAccepted std t m m' incoming) (sym same) accepted in
    let below = subst (λ (l : List Signature). closure.sig < length l) (sym signatures) c.requires.below in
    let tracing = served_tracing c.args.trace std p.signatures closure.sig m in
    let lines = entry_told_as c.args.trace std std s (signature_at p.signatures closure.sig) m' _ refl (sym same) (entry_told p std closure arguments m m' incoming o b.table b.moves tracing needs below shows holds known few is c.args.trace) in
    let call : OpenCall = record { sig = closure.sig; incoming = incoming } in
    let P = λ (x : State) (l : List (Waiting g.row.S.Denot)) (a : Activation g.row.S.Denot). IsBetween p (served_base std p closure arguments m b.table b.moves) (served_left std p closure arguments m b.table b.moves) (served_beginning std (signature_at p.signatures closure.sig) m o' tracing) [] [] (run_state_with p.signatures (Some call) (reverse l) b.table b.moves x o' a) in
    let begins = served_begins p std closure arguments m m' incoming o' b.table b.moves tracing needs below shows holds known few is c.args.standing in
    let stands = subst (P m' b.suspended.items) (sym c.of_closure.ensures) (subst (λ (l : List (Waiting g.row.S.Denot)). P m' l (activation_of closure c.args.standing)) (sym c.requires.alone) begins) in
    (took_as o o' _ _ lines c.in_default.ensures, as_left (λ (x : State). P x b.suspended.items c.of_closure.result) m' _ stands search)
