-- The state that a machine's fields make.
use Rattle.ffi3_machine.specs.declared.Machine.TheInside.{Inside}
use Rattle.ffi3_machine_spec.specs.State.{State}

abbrev pub state_of : Inside → State
state_of m = record {
  target = m.target;
  general = m.general;
  floating = m.floating;
  sp = m.sp;
  pc = m.pc;
  mark = m.mark;
  stack = m.stack.bytes;
  code = m.code.bytes;
  exchange = m.exchange.bytes;
  steps = m.steps;
  events = m.journal.events;
  spare_events = m.journal.spare_events;
  spare_bytes = m.journal.spare_bytes;
}
