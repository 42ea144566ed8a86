use Rattle.std.proofs.Common.{◌≡◌, ℕ, ◌+◌, ◌-◌, ◌<◌, ◌≤◌, length, ap, sym, subst, ◌∙◌, arith}
use Rattle.ffi3_type_spec.specs.declared.limits.TheConstants.{STACK}
use Rattle.ffi3_place_spec.specs.declared.Loc.{Loc}
use Rattle.ffi3_machine_spec.specs.State.{filled, scribbled, with_sp}
use Rattle.ffi3_machine_transfer.specs.Passing.{passing}
use Rattle.ffi3_machine_transfer.specs.Stored.{stack_byte, IsPlace, SameAt, WroteWithin}
use Rattle.ffi3_caller.proofs.Calling.{filled_bytes, frame_begun, frame_registers, frame_within}
use Rattle.ffi3_caller.proofs.arguments.begin_frame.Goals as goal

pub returns : goal.returns
returns c =
    let old = c.args.machine.now in
    let sp = c.sp.result - c.args.frame in
    let n = length c.args.machine.now.events in
    let whole = frame_begun (length c.args.machine.now.events) c.len-number.result (c.sp.result - c.args.frame) c.args.frame 0xA5 c.args.machine.now c.scribble.new.self c.set_sp.new.self c.fill_stack.new.self (c.len-number.ensures ∙ ap (λ j. length j.events) c.events.ensures) c.scribble.ensures c.set_sp.ensures c.fill_stack.ensures in
    let low : STACK ≤ c.sp.result - c.args.frame = omega (arith, c.sp.ensures.value, c.requires.bottom) in
    let fits : c.sp.result - c.args.frame - STACK + c.args.frame ≤ length c.args.machine.now.stack = omega (arith, c.sp.ensures.value, c.requires.bottom, c.requires.top, c.sp.ensures.machine.stack) in
    record {
      opened = whole ∙ ap (λ p. filled (p - c.args.frame) c.args.frame 0xA5 (with_sp (p - c.args.frame) (scribbled n old))) c.sp.ensures.value;
      sp = omega (arith, ap (λ m. m.sp) whole, c.sp.ensures.value, c.requires.bottom);
      registers = subst (λ m. (l : Loc) → IsPlace 0 l → SameAt 0 l (passing (scribbled n old)) (passing m)) (sym whole) (λ l h. frame_registers sp c.args.frame 0xA5 (passing (scribbled n old)) l h);
      filled = subst (λ m. (i : ℕ) → i < c.args.frame → stack_byte m (m.sp + i) ≡ 0xA5) (sym whole) (λ i below. filled_bytes sp c.args.frame 0xA5 (with_sp sp (scribbled n old)) low fits i below);
      within = subst (λ m. WroteWithin m.sp (m.sp + c.args.frame) (passing (scribbled n old)) (passing m)) (sym whole) (frame_within sp c.args.frame 0xA5 (passing (scribbled n old)) low fits);
    }
