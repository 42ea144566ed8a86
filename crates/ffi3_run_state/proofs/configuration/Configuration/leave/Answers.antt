use Rattle.std.proofs.Common.{◌≡◌, true, List, [], ◌∷◌, ◌++◌, reverse, refl, sym, ap, ◌∙◌, subst, rules, arith}
use Rattle.ffi3_type_spec.specs.Signature.{Signature, signature_at}
use Rattle.ffi3_type_spec.specs.Value.{ValueTree, fits}
use Rattle.ffi3_values.specs.ValueOf.{value_of}
use Rattle.ffi3_place_spec.specs.Standard.{Standard}
use Rattle.ffi3_invoke.specs.Calls.{HasEnded}
use Rattle.ffi3_semantics_spec.specs.Move.{return}
use Rattle.ffi3_semantics_spec.specs.Trace.{Leave}
use Rattle.ffi3_run_state.specs.declared.activation.Waiting.{Waiting}
use Rattle.ffi3_io.proofs.Writing.{took_as}
use Rattle.ffi3_io_spec.specs.declared.IoError.TheVariants as cut
use Rattle.ffi3_run_state.specs.Between.{RunState, IsAsking, run_state_with}
use Rattle.ffi3_run_state.specs.TraceLines.{last_event}
use Rattle.ffi3_run_state.specs.Going.{GoneOn}
use Rattle.ffi3_run_state.specs.Activations.{call_inside, calls_of, result_type_at}
use Rattle.ffi3_run_state.specs.Stack.{HoldsCalls}
use Rattle.ffi3_run_state.proofs.Configuring.{goes, goes_off, gone_back, call_returned, return_cut_off, return_lines_told, popped_holds, popped_state}
use Rattle.ffi3_run_state.proofs.Opened.{is_called, is_incoming}
use Rattle.ffi3_run_state.proofs.Transports.{by_names, cut_as, return_told_as}
use Rattle.ffi3_run_state.proofs.configuration.Configuration.leave.Goals as goal

pub leave_run-requires-clause-stand : goal.leave_run-requires-clause-stand
leave_run-requires-clause-stand g c =
    let b = c.args.self.now in
    let none : b.suspended.items ≡ [] = search rules in
    let t = c.requires.stand in
    (t.0, t.1, t.2, subst (λ (l : List (Waiting g.row.S.Denot)). HoldsCalls g.A.Abi.standard c.args.cifs.now t.0 t.1 c.args.machine.now (calls_of b.served (reverse l)) t.2) none t.3)

pub leave_run-requires-clause-fits : goal.leave_run-requires-clause-fits
leave_run-requires-clause-fits g c =
    let b = c.args.self.now in
    let none : b.suspended.items ≡ [] = search rules in
    subst (λ (l : List (Waiting g.row.S.Denot)). fits (result_type_at c.args.cifs.now (call_inside b.served (reverse l))) (value_of c.args.value.now) ≡ true) none c.requires.fits

pub returns-in_default-clause-turned : goal.returns-in_default-clause-turned
returns-in_default-clause-turned g c = λ p base all first own events current standard signatures tracing is.
    let b = c.args.self.now in
    let v = value_of c.args.value.now in
    let m = c.args.machine.now in
    let output = g.O.Sink.state c.args.output.now in
    let none : b.suspended.items ≡ [] = search rules in
    let none' : c.pop.new.self.items ≡ [] = search rules in
    let P = λ (l : List (Waiting g.row.S.Denot)). IsAsking p base all first own events (run_state_with p.signatures b.served (reverse l) b.table b.moves m output current) (return v) in
    c.leave_run.ensures.turned p base all first own events current standard signatures tracing (subst P (none ∙ sym none') is)

pub end_with-requires-clause-called : goal.end_with-requires-clause-called
end_with-requires-clause-called g c =
    is_called g.A.Abi.standard c.args.cifs.now c.requires.stand.0 c.requires.stand.1 c.args.machine.now c.in-Some.field-0.call _ c.requires.stand.2 (popped_holds g.A.Abi.standard c.args.cifs.now c.requires.stand.0 c.requires.stand.1 c.args.machine.now c.requires.stand.2 c.args.self.now.served c.args.self.now.suspended.items c.pop.new.self.items c.in-Some.field-0 c.in-Some.ensures.items c.requires.stand.3)

pub end_with-requires-clause-incoming : goal.end_with-requires-clause-incoming
end_with-requires-clause-incoming g c =
    is_incoming g.A.Abi.standard c.args.cifs.now c.requires.stand.0 c.requires.stand.1 c.args.machine.now c.in-Some.field-0.call _ c.requires.stand.2 (popped_holds g.A.Abi.standard c.args.cifs.now c.requires.stand.0 c.requires.stand.1 c.args.machine.now c.requires.stand.2 c.args.self.now.served c.args.self.now.suspended.items c.pop.new.self.items c.in-Some.field-0 c.in-Some.ensures.items c.requires.stand.3)

pub returns-clause-goes : goal.returns-clause-goes
returns-clause-goes g c = λ more.
    let b = c.args.self.now in
    let w = c.in-Some.field-0 in
    let mid = record b { suspended = c.pop.new.self } in
    let gone = subst (λ (r : ValueTree). GoneOn r w.activation mid c.go_on.new.self c.go_on.result) c.in-Ok.ensures.value c.go_on.ensures in
    gone_back (value_of c.args.value.now) w b mid c.go_on.new.self c.go_on.result c.in-Some.ensures.items refl refl refl gone more

pub returns-clause-turned : goal.returns-clause-turned
returns-clause-turned g c = λ p base all first own events current standard signatures tracing is.
    let b = c.args.self.now in
    let v = value_of c.args.value.now in
    let m = c.args.machine.now in
    let m' = c.end_with.new.machine in
    let o = g.O.Sink.state c.args.output.now in
    let o' = g.O.Sink.state c.tell_return.new.output in
    let w = c.in-Some.field-0 in
    let outer = reverse c.pop.new.self.items in
    let mid = record b { suspended = c.pop.new.self } in
    let asks = subst (λ (x : RunState). IsAsking p base all first own events x (return v)) (popped_state p.signatures current b m o c.pop.new.self.items w c.in-Some.ensures.items) is in
    let site = ap (λ (l : List Signature). signature_at l w.call.sig) (sym signatures) in
    let ended = by_names (λ (x : Standard) (y : Signature). HasEnded x y v m m') g.A.Abi.standard base.standard (signature_at c.args.cifs.now w.call.sig) (signature_at p.signatures w.call.sig) (sym standard) site c.in-Ok.ensures.ended in
    let lines = return_lines_told p base all first own events b.served w outer b.table b.moves m o current v asks m' ended c.args.trace tracing in
    let told = took_as o o' _ _ (return_told_as c.args.trace g.A.Abi.standard base.standard c.get.result.now (signature_at p.signatures w.call.sig) (last_event m'.events) v _ (sym standard) (c.get.ensures ∙ site) lines) c.in_default-tell_return.ensures in
    let back = call_returned p base all first own events b.served w outer b.table b.moves m o current v asks m' ended o' told in
    let gone = subst (λ (r : ValueTree). GoneOn r w.activation mid c.go_on.new.self c.go_on.result) c.in-Ok.ensures.value c.go_on.ensures in
    goes p base all first own mid c.go_on.new.self w.activation m' o' v (Leave w.call.sig v ∷ []) (events ++ ended.return ∷ []) c.go_on.result (omega arith) gone back

pub returns-in-Err-clause-turned : goal.returns-in-Err-clause-turned
returns-in-Err-clause-turned g c = λ p base all first own events current standard signatures tracing is.
    let b = c.args.self.now in
    let v = value_of c.args.value.now in
    let m = c.args.machine.now in
    let m' = c.end_with.new.machine in
    let o = g.O.Sink.state c.args.output.now in
    let w = c.in-Some.field-0 in
    let outer = reverse c.pop.new.self.items in
    let asks = subst (λ (x : RunState). IsAsking p base all first own events x (return v)) (popped_state p.signatures current b m o c.pop.new.self.items w c.in-Some.ensures.items) is in
    let site = ap (λ (l : List Signature). signature_at l w.call.sig) (sym signatures) in
    let ended = by_names (λ (x : Standard) (y : Signature). HasEnded x y v m m') g.A.Abi.standard base.standard (signature_at c.args.cifs.now w.call.sig) (signature_at p.signatures w.call.sig) (sym standard) site c.in-Err.ensures.ended in
    return_cut_off p base all first own events b.served w outer b.table b.moves m o current v asks m' ended cut.NoMemory o refl

pub returns-in-Err-tell_return-clause-turned : goal.returns-in-Err-tell_return-clause-turned
returns-in-Err-tell_return-clause-turned g c = λ p base all first own events current standard signatures tracing is.
    let b = c.args.self.now in
    let v = value_of c.args.value.now in
    let m = c.args.machine.now in
    let m' = c.end_with.new.machine in
    let o = g.O.Sink.state c.args.output.now in
    let o' = g.O.Sink.state c.tell_return.new.output in
    let w = c.in-Some.field-0 in
    let outer = reverse c.pop.new.self.items in
    let asks = subst (λ (x : RunState). IsAsking p base all first own events x (return v)) (popped_state p.signatures current b m o c.pop.new.self.items w c.in-Some.ensures.items) is in
    let site = ap (λ (l : List Signature). signature_at l w.call.sig) (sym signatures) in
    let ended = by_names (λ (x : Standard) (y : Signature). HasEnded x y v m m') g.A.Abi.standard base.standard (signature_at c.args.cifs.now w.call.sig) (signature_at p.signatures w.call.sig) (sym standard) site c.in-Ok.ensures.ended in
    let lines = return_lines_told p base all first own events b.served w outer b.table b.moves m o current v asks m' ended c.args.trace tracing in
    let told = return_told_as c.args.trace g.A.Abi.standard base.standard c.get.result.now (signature_at p.signatures w.call.sig) (last_event m'.events) v _ (sym standard) (c.get.ensures ∙ site) lines in
    let cut_off = cut_as _ _ o o' c.in-Err-tell_return.why told c.in-Err-tell_return.ensures in
    goes_off p base all first own (record b { suspended = c.pop.new.self }) m' o' c.in-Err-tell_return.why c.cut_off.result c.cut_off.ensures.is (return_cut_off p base all first own events b.served w outer b.table b.moves m o current v asks m' ended c.in-Err-tell_return.why o' cut_off)
