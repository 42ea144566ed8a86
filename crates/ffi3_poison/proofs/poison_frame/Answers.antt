use Rattle.std.specs.Prelude.{true, false}
use Rattle.std.proofs.Common.{◌≡◌, ◌+◌, ◌<◌, length, sym, ◌∙◌, subst, arith}
use Rattle.ffi3_type_spec.specs.declared.limits.TheConstants.{STACK_BYTES}
use Rattle.ffi3_place_spec.specs.declared.Loc.TheVariants.{S}
use Rattle.ffi3_place_spec.specs.Standard.{frame_of}
use Rattle.ffi3_poison.specs.Poison.{carries}
use Rattle.ffi3_poison.specs.Overwritten.{IsFrameDone}
use Rattle.ffi3_poison.proofs.Poisoning.{byte_left, byte_written, carries_not_free, frame_free, no_byte_done}
use Rattle.ffi3_poison.proofs.poison_frame.Goals.{then-not-carries, else-not-carries}
use Rattle.ffi3_poison.proofs.poison_frame.Goals as goal

pub loop-n-init : goal.loop-n-init
loop-n-init g c = no_byte_done g.A.Abi.standard c.args.cif.now c.args.base c.args.byte c.args.machine.now

pub loop-n-preserved : goal.loop-n-preserved
loop-n-preserved g c =
    let std = g.A.Abi.standard in
    let s = c.args.cif.now in
    let n = c.loop-n.n in
    let before = c.loop-n.invariant in
    let inside : c.loop-n.n < frame_of g.A.Abi.standard c.args.cif.now = omega (arith, c.loop-n-test.true, c.frame-n-end.ensures) in
    let sized : length c.loop-n.machine.stack ≡ STACK_BYTES = before.only.within.size ∙ c.facts.ensures.stack in
    elim c.if-not-carries.branch [
      | then-not-carries w ↦ (
          let has : carries g.A.Abi.standard c.args.cif.now (S c.loop-n.n 1) 0 ≡ false = sym c.carries.ensures ∙ w.if-not-carries.true in
          subst (IsFrameDone std s c.args.base c.args.byte (n + 1) c.args.machine.now) (sym w.machine-is) (byte_written std s c.args.base c.args.byte n c.args.machine.now c.loop-n.machine before w.fill_stack.new.self (rw c.address-start.ensures.value at w.fill_stack.ensures) c.address-start.ensures.low c.requires sized inside (frame_free std s n inside has))
          )
      | else-not-carries w ↦ (
          let has : carries g.A.Abi.standard c.args.cif.now (S c.loop-n.n 1) 0 ≡ true = sym c.carries.ensures ∙ w.if-not-carries.false in
          subst (IsFrameDone std s c.args.base c.args.byte (n + 1) c.args.machine.now) (sym w.machine-is) (byte_left std s c.args.base c.args.byte n c.args.machine.now c.loop-n.machine before (carries_not_free std s (S n 1) 0 has))
          )
    ]
