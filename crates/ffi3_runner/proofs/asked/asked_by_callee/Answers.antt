use Rattle.std.proofs.Common.{ℕ, ap, sym, ◌∙◌}
use Rattle.ffi3_place_spec.specs.Standard.{block_bytes}
use Rattle.ffi3_machine_spec.specs.State.{stack_at}
use Rattle.ffi3_runner.specs.Agreeing.{seen_by_callee}
use Rattle.ffi3_runner.proofs.Last.{callee_seen}
use Rattle.ffi3_runner.proofs.Turning.{asked_as}
use Rattle.ffi3_runner.proofs.asked.asked_by_callee.Goals as goal

pub returns-clause-asked : goal.returns-clause-asked
returns-clause-asked g c = λ std.
    let m = c.args.machine.now in
    let call = c.args.call.now in
    let a = c.args.current.now in
    let from = c.sp.ensures.value ∙ sym c.requires.block in
    let count = c.block.ensures ∙ ap block_bytes c.get-cif.ensures in
    let block = c.lend_stack-block.ensures.value ∙ ap (λ (k : ℕ). stack_at k c.block.result m) from ∙ ap (λ (k : ℕ). stack_at call.incoming.block k m) count in
    let seen = c.new-seen.ensures ∙ callee_seen c.args.cifs.now m call a c.sig.result.now c.lend_stack-block.result.now (c.sig.ensures.value ∙ c.get-cif.ensures) block in
    asked_as _ _ _ _ _ _ c.new-seen.result (seen_by_callee c.args.cifs.now m call a) seen (c.ask.ensures.asked std)
