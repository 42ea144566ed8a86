use Rattle.ffi3_call_tests.proofs.calls.whole.Goals as goal

pub end_call-requires-clause-called : goal.end_call-requires-clause-called
end_call-requires-clause-called g c = (_, c.begin_call-incoming.ensures.begun.in_callee)
