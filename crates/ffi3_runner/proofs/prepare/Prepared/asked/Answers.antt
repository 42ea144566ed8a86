use Rattle.std.proofs.Common.{Option, Some, None, reverse, sym, ap, rules}
use Rattle.ffi3_run_state.specs.declared.activation.OpenCall.{OpenCall}
use Rattle.ffi3_run_state.specs.Activations.{call_inside}
use Rattle.ffi3_runner.specs.Agreeing.{seen_by, seen_by_callee, seen_by_main}
use Rattle.ffi3_runner.proofs.Last.{alone_in, last_call, served_call}
use Rattle.ffi3_runner.proofs.Turning.{agrees_as, asked_as}
use Rattle.ffi3_runner.proofs.prepare.Prepared.asked.Goals as goal

pub asked_by_callee-requires-clause-below : goal.asked_by_callee-requires-clause-below
asked_by_callee-requires-clause-below g c =
    (last_call g.A.Abi.standard c.args.self.now.cifs _ _ c.args.machine.now _ c.args.configuration.now.served c.deref.result.now c.args.configuration.now.suspended.items c.deref.ensures.value c.in-Some.waiting.now c.in-Some.ensures.value c.requires.holds.3).below

pub asked_by_callee-requires-clause-block : goal.asked_by_callee-requires-clause-block
asked_by_callee-requires-clause-block g c =
    (last_call g.A.Abi.standard c.args.self.now.cifs _ _ c.args.machine.now _ c.args.configuration.now.served c.deref.result.now c.args.configuration.now.suspended.items c.deref.ensures.value c.in-Some.waiting.now c.in-Some.ensures.value c.requires.holds.3).block

pub asked_by_callee-requires-clause-low : goal.asked_by_callee-requires-clause-low
asked_by_callee-requires-clause-low g c =
    (last_call g.A.Abi.standard c.args.self.now.cifs _ _ c.args.machine.now _ c.args.configuration.now.served c.deref.result.now c.args.configuration.now.suspended.items c.deref.ensures.value c.in-Some.waiting.now c.in-Some.ensures.value c.requires.holds.3).low

pub asked_by_callee-requires-clause-high : goal.asked_by_callee-requires-clause-high
asked_by_callee-requires-clause-high g c =
    (last_call g.A.Abi.standard c.args.self.now.cifs _ _ c.args.machine.now _ c.args.configuration.now.served c.deref.result.now c.args.configuration.now.suspended.items c.deref.ensures.value c.in-Some.waiting.now c.in-Some.ensures.value c.requires.holds.3).high

pub asked_by_callee-requires-in-Some-served-clause-below : goal.asked_by_callee-requires-in-Some-served-clause-below
asked_by_callee-requires-in-Some-served-clause-below g c =
    (served_call g.A.Abi.standard c.args.self.now.cifs _ _ c.args.machine.now _ c.args.configuration.now.served c.deref.result.now c.args.configuration.now.suspended.items c.deref.ensures.value c.in-Some-served.call c.in-None.ensures.value (search rules) c.requires.holds.3).below

pub asked_by_callee-requires-in-Some-served-clause-block : goal.asked_by_callee-requires-in-Some-served-clause-block
asked_by_callee-requires-in-Some-served-clause-block g c =
    (served_call g.A.Abi.standard c.args.self.now.cifs _ _ c.args.machine.now _ c.args.configuration.now.served c.deref.result.now c.args.configuration.now.suspended.items c.deref.ensures.value c.in-Some-served.call c.in-None.ensures.value (search rules) c.requires.holds.3).block

pub asked_by_callee-requires-in-Some-served-clause-low : goal.asked_by_callee-requires-in-Some-served-clause-low
asked_by_callee-requires-in-Some-served-clause-low g c =
    (served_call g.A.Abi.standard c.args.self.now.cifs _ _ c.args.machine.now _ c.args.configuration.now.served c.deref.result.now c.args.configuration.now.suspended.items c.deref.ensures.value c.in-Some-served.call c.in-None.ensures.value (search rules) c.requires.holds.3).low

pub asked_by_callee-requires-in-Some-served-clause-high : goal.asked_by_callee-requires-in-Some-served-clause-high
asked_by_callee-requires-in-Some-served-clause-high g c =
    (served_call g.A.Abi.standard c.args.self.now.cifs _ _ c.args.machine.now _ c.args.configuration.now.served c.deref.result.now c.args.configuration.now.suspended.items c.deref.ensures.value c.in-Some-served.call c.in-None.ensures.value (search rules) c.requires.holds.3).high

pub asked_by_callee-requires-clause-agrees : goal.asked_by_callee-requires-clause-agrees
asked_by_callee-requires-clause-agrees g c =
    agrees_as _ _ c.args.self.now.cifs c.args.machine.now c.args.current.now (call_inside c.args.configuration.now.served (reverse c.args.configuration.now.suspended.items)) (Some c.in-Some.waiting.now.call) (last_call g.A.Abi.standard c.args.self.now.cifs _ _ c.args.machine.now _ c.args.configuration.now.served c.deref.result.now c.args.configuration.now.suspended.items c.deref.ensures.value c.in-Some.waiting.now c.in-Some.ensures.value c.requires.holds.3).call c.requires.stands.agrees

pub asked_by_callee-requires-in-Some-served-clause-agrees : goal.asked_by_callee-requires-in-Some-served-clause-agrees
asked_by_callee-requires-in-Some-served-clause-agrees g c =
    agrees_as _ _ c.args.self.now.cifs c.args.machine.now c.args.current.now (call_inside c.args.configuration.now.served (reverse c.args.configuration.now.suspended.items)) (Some c.in-Some-served.call) (served_call g.A.Abi.standard c.args.self.now.cifs _ _ c.args.machine.now _ c.args.configuration.now.served c.deref.result.now c.args.configuration.now.suspended.items c.deref.ensures.value c.in-Some-served.call c.in-None.ensures.value (search rules) c.requires.holds.3).call c.requires.stands.agrees

pub asked_by_main-requires-clause-agrees : goal.asked_by_main-requires-clause-agrees
asked_by_main-requires-clause-agrees g c =
    agrees_as _ _ c.args.self.now.cifs c.args.machine.now c.args.current.now (call_inside c.args.configuration.now.served (reverse c.args.configuration.now.suspended.items)) None (alone_in g.A.Abi.standard c.args.self.now.cifs c.requires.holds.0 c.requires.holds.1 c.args.machine.now c.requires.holds.2 c.args.configuration.now.served c.deref.result.now c.args.configuration.now.suspended.items c.deref.ensures.value None c.in-None.ensures.value (search rules)) c.requires.stands.agrees

pub returns-in-None-served-clause-asked : goal.returns-in-None-served-clause-asked
returns-in-None-served-clause-asked g c =
    asked_as _ _ _ _ _ _ (seen_by_main c.args.current.now) (seen_by c.args.self.now.cifs c.args.machine.now (call_inside c.args.configuration.now.served (reverse c.args.configuration.now.suspended.items)) c.args.current.now) (ap (λ (o : Option OpenCall). seen_by c.args.self.now.cifs c.args.machine.now o c.args.current.now) (sym (alone_in g.A.Abi.standard c.args.self.now.cifs c.requires.holds.0 c.requires.holds.1 c.args.machine.now c.requires.holds.2 c.args.configuration.now.served c.deref.result.now c.args.configuration.now.suspended.items c.deref.ensures.value None c.in-None.ensures.value (search rules)))) (c.asked_by_main.ensures.asked g.A.Abi.standard)

pub returns-in-Some-served-clause-asked : goal.returns-in-Some-served-clause-asked
returns-in-Some-served-clause-asked g c =
    asked_as _ _ _ _ _ _ (seen_by_callee c.args.self.now.cifs c.args.machine.now c.in-Some-served.call c.args.current.now) (seen_by c.args.self.now.cifs c.args.machine.now (call_inside c.args.configuration.now.served (reverse c.args.configuration.now.suspended.items)) c.args.current.now) (ap (λ (o : Option OpenCall). seen_by c.args.self.now.cifs c.args.machine.now o c.args.current.now) (sym (served_call g.A.Abi.standard c.args.self.now.cifs _ _ c.args.machine.now _ c.args.configuration.now.served c.deref.result.now c.args.configuration.now.suspended.items c.deref.ensures.value c.in-Some-served.call c.in-None.ensures.value (search rules) c.requires.holds.3).call)) (c.asked_by_callee-in-Some-served.ensures.asked g.A.Abi.standard)

pub returns-in-Some-clause-asked : goal.returns-in-Some-clause-asked
returns-in-Some-clause-asked g c =
    asked_as _ _ _ _ _ _ (seen_by_callee c.args.self.now.cifs c.args.machine.now c.in-Some.waiting.now.call c.args.current.now) (seen_by c.args.self.now.cifs c.args.machine.now (call_inside c.args.configuration.now.served (reverse c.args.configuration.now.suspended.items)) c.args.current.now) (ap (λ (o : Option OpenCall). seen_by c.args.self.now.cifs c.args.machine.now o c.args.current.now) (sym (last_call g.A.Abi.standard c.args.self.now.cifs _ _ c.args.machine.now _ c.args.configuration.now.served c.deref.result.now c.args.configuration.now.suspended.items c.deref.ensures.value c.in-Some.waiting.now c.in-Some.ensures.value c.requires.holds.3).call)) (c.asked_by_callee.ensures.asked g.A.Abi.standard)
