use Rattle.std.proofs.Common.{append-nil, sym, arith}
use Rattle.ffi3_type_spec.specs.TargetIsa.{isa_of}
use Rattle.ffi3_machine.specs.Entries.{event_of}
use Rattle.ffi3_text.specs.TraceLines.{register_text}
use Rattle.ffi3_text.proofs.Kept.{is_register, texts_turn, texts_end}
use Rattle.ffi3_text.proofs.trace.write_kept.Goals as goal

pub loop-k-init : goal.loop-k-init
loop-k-init g c = λ stack. sym (append-nil _)

pub write_register-requires : goal.write_register-requires
write_register-requires g c =
    is_register (isa_of g.A.Abi.standard.target) g.A.Abi.standard.callee_saved c.loop-k.k c.callee_saved.result g.met.A.Abi.agrees.callee_saved_exist (omega (arith, c.loop-k-test.true, c.KEPT-k-end.ensures, g.met.A.Abi.kept_all)) c.callee_saved.ensures

pub loop-k-preserved : goal.loop-k-preserved
loop-k-preserved g c = λ stack. texts_turn (register_text (event_of c.args.event.now stack)) g.A.Abi.standard.callee_saved c.loop-k.k c.callee_saved.result c.args.text.now c.loop-k.text c.write_register.new.text (omega (arith, c.loop-k-test.true, c.KEPT-k-end.ensures, g.met.A.Abi.kept_all)) c.callee_saved.ensures (c.loop-k.invariant stack) (c.in_ok-write_register.ensures stack)

pub returns : goal.returns
returns g c = λ stack. texts_end (register_text (event_of c.args.event.now stack)) g.A.Abi.standard.callee_saved c.loop-k.k c.args.text.now c.loop-k.text (omega (arith, c.loop-k-test.false, c.KEPT-k-end.ensures, g.met.A.Abi.kept_all)) (c.loop-k.invariant stack)
