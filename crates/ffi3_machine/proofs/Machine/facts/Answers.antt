use Rattle.std.proofs.Common.{subst, rules}
use Rattle.ffi3_type_spec.specs.declared.limits.TheConstants.{STACK, STACK_BYTES, CODE, CODE_BYTES}
use Rattle.ffi3_machine_spec.specs.declared.stub.TheConstants.{EXCHANGE}
use Rattle.ffi3_machine_spec.specs.State.{IsMachine}
use Rattle.ffi3_machine.proofs.Words.{whole}
use Rattle.ffi3_machine.proofs.Machine.facts.Goals as goal

pub returns : goal.returns
returns c =
    let form = c.self.invariant.2 in
    subst IsMachine c.self.view_is (record {
      general = form.general;
      floating = form.floating;
      stack = form.stack;
      code = form.code;
      exchange = form.exchange;
      mark_low = form.mark_low;
      mark_high = form.mark_high;
      zero = form.zero;
      general_words = c.are_words.ensures;
      floating_words = c.are_words-2.ensures;
      sp_word = search rules;
      pc_word = search rules;
      stack_bytes = whole c.self.inside.stack.base STACK STACK_BYTES c.self.inside.stack.bytes c.lend.result.now c.self.invariant.0 form.stack c.lend.ensures.value c.are_bytes.ensures;
      code_bytes = whole c.self.inside.code.base CODE CODE_BYTES c.self.inside.code.bytes c.lend-2.result.now c.self.invariant.1 form.code c.lend-2.ensures.value c.are_bytes-2.ensures;
      exchange_bytes = whole c.self.inside.exchange.base EXCHANGE 552 c.self.inside.exchange.bytes c.lend-3.result.now c.self.invariant.3 form.exchange c.lend-3.ensures.value c.are_bytes-3.ensures;
    })
