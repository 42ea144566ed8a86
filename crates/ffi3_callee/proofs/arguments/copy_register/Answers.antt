use Rattle.std.proofs.Common.{rules, ◌≡◌, ◌+◌, ◌-◌, ◌≤◌, false, length, ap, sym, ◌∙◌, subst, arith}
use Rattle.ffi3_type_spec.specs.declared.limits.TheConstants.{STACK}
use Rattle.ffi3_machine_transfer.specs.Passing.{passing}
use Rattle.ffi3_callee.specs.Moved.{IsPieceMoved, is_on_stack}
use Rattle.ffi3_callee.proofs.Moving.{piece_moved}
use Rattle.ffi3_callee.proofs.arguments.copy_register.Goals as goal

pub returns-then-not-is_on_stack : goal.returns-then-not-is_on_stack
returns-then-not-is_on_stack c =
    let m = passing c.args.machine.now in
    let p = c.args.piece.now in
    let register : is_on_stack p.loc ≡ false = sym c.is_on_stack.ensures ∙ c.if-not-is_on_stack.true in
    let eight : length c.place_bytes-bytes.result ≡ 8 = search rules in
    let fits : c.args.to + p.off - STACK + p.len ≤ length m.stack = omega (arith, c.requires.low, c.requires.below, c.requires.within.1, c.address-at.ensures.low, c.address-at.ensures.high, c.facts.ensures.stack) in
    subst (IsPieceMoved c.args.base c.args.to p m) (sym (ap passing c.store_stack.ensures))
    (piece_moved c.args.base c.args.to c.requires.low c.requires.below p c.place_bytes-bytes.result m register c.place_bytes-bytes.ensures eight c.requires.within.0 fits)
