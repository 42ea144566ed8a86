use Rattle.std.proofs.Common.{◌≡◌, ◌+◌, ◌-◌, length, ap, subst, sym, ◌∙◌, arith}
use Rattle.ffi3_type_spec.specs.TargetIsa.{isa_of}
use Rattle.ffi3_type_spec.proofs.Placed.{faultless_is_plain}
use Rattle.ffi3_place_spec.specs.Holds.{OwnsArguments}
use Rattle.ffi3_place_spec.specs.Standard.{block_bytes, frame_of, plan_of}
use Rattle.ffi3_machine_spec.specs.State.{scribbled, scribbled_floating, scribbled_general}
use Rattle.ffi3_machine_transfer.specs.Passing.{by_exchange, passing}
use Rattle.ffi3_callee.specs.Entered.{IsEntered, entered_if}
use Rattle.ffi3_callee.specs.Loaded.{AreFound, image_from}
use Rattle.ffi3_callee.specs.Received.{hidden_of}
use Rattle.ffi3_callee.proofs.Entry.{address_between, address_known, found_between, hidden_lies, hidden_to_list, received, stands}
use Rattle.ffi3_callee.proofs.Keeping.{reserved_scribbled, reserved_then, scribbled_alike}
use Rattle.ffi3_callee.proofs.OwnKept.{own_list, own_reserved_of}
use Rattle.ffi3_machine_transfer.proofs.Passing.{laws_of}
use Rattle.ffi3_callee.proofs.Whole.{only_written, scribbled_beside}
use Rattle.ffi3_callee.proofs.receive.Goals as goal

pub passed_address-address-requires : goal.passed_address-address-requires
passed_address-address-requires g c =
    hidden_lies g.A.Abi.standard c.args.cif.now c.args.machine.now c.at-base.result c.hidden_place-hidden.result (g.met.A.Abi.sound c.args.cif.now) c.sig-sig.ensures.faultless (omega (arith, c.at-base.ensures, c.LINK.ensures, g.met.A.Abi.link_is, c.sp-entry.ensures.value)) (c.hidden_place-hidden.ensures ∙ ap hidden_of c.result_place.ensures) c.requires.frame

pub enter-requires-clause-room : goal.enter-requires-clause-room
enter-requires-clause-room g c = omega (arith, c.requires.room)

pub enter-requires-clause-base : goal.enter-requires-clause-base
enter-requires-clause-base g c = omega (arith, c.at-base.ensures, c.LINK.ensures, g.met.A.Abi.link_is, c.sp-entry.ensures.value)

pub enter-requires-clause-hidden : goal.enter-requires-clause-hidden
enter-requires-clause-hidden g c =
    hidden_lies g.A.Abi.standard c.args.cif.now c.args.machine.now c.at-base.result c.hidden_place-hidden.result (g.met.A.Abi.sound c.args.cif.now) c.sig-sig.ensures.faultless (omega (arith, c.at-base.ensures, c.LINK.ensures, g.met.A.Abi.link_is, c.sp-entry.ensures.value)) (c.hidden_place-hidden.ensures ∙ ap hidden_of c.result_place.ensures) c.requires.frame

pub enter-requires-clause-hidden_saved : goal.enter-requires-clause-hidden_saved
enter-requires-clause-hidden_saved g c = λ e.
    let std = g.A.Abi.standard in
    let s = c.args.cif.now in
    let m = c.args.machine.now in
    let same : std.target ≡ m.target = g.met.A.Abi.target_is ∙ sym c.requires.target in
    let law = laws_of std m.target (g.met.A.Abi.result_by_stubs s (faultless_is_plain s c.sig-sig.ensures.faultless)) same e in
    hidden_to_list std s c.hidden_place-hidden.result (c.hidden_place-hidden.ensures ∙ ap hidden_of c.result_place.ensures) law.hidden

pub copy_arguments-requires-clause-found : goal.copy_arguments-requires-clause-found
copy_arguments-requires-clause-found g c =
    let std = g.A.Abi.standard in
    let s = c.args.cif.now in
    let m = c.args.machine.now in
    let sound = g.met.A.Abi.sound s in
    let block = c.sp-entry.result - c.SAVE.result - c.block.result in
    let there = stands std s m c.sp-entry.result c.LINK.result c.SAVE.result c.block.result c.hidden_place-hidden.result c.result_place.result.now c.sp-entry.ensures.value (c.LINK.ensures ∙ sym g.met.A.Abi.link_is) (c.SAVE.ensures ∙ sym g.met.A.Abi.save_is) c.block.ensures c.hidden_place-hidden.ensures c.result_place.ensures c.requires.room in
    let block_is : c.sp-entry.result - c.SAVE.result - c.block.result + block_bytes s + std.save ≡ m.sp = omega (arith, there.block_is, there.area_is, c.requires.room) in
    let entered = subst (λ h. IsEntered std h block m c.enter.new.machine) there.hidden_is c.enter.ensures.entered in
    subst (λ q. AreFound q (passing c.enter.new.machine) (plan_of std s).places) (sym (c.at-base.ensures ∙ there.base_is))
    (found_between std s block 0 m c.enter.new.machine c.enter.new.machine c.enter.new.machine c.requires.room c.requires.frame g.met.A.Abi.agrees.area c.sp-entry.ensures.machine.stack block_is entered c.requires.some.0 sound c.sig-sig.ensures.faultless c.requires.some.1)

pub returns : goal.returns
returns g c =
    let std = g.A.Abi.standard in
    let s = c.args.cif.now in
    let m = c.args.machine.now in
    let b = c.enter.new.machine in
    let d = c.copy_arguments.new.machine in
    let sound = g.met.A.Abi.sound s in
    let agrees = g.met.A.Abi.agrees in
    let right = c.sig-sig.ensures.faultless in
    let sized = c.sp-entry.ensures.machine.stack in
    let block = c.sp-entry.result - c.SAVE.result - c.block.result in
    let there = stands std s m c.sp-entry.result c.LINK.result c.SAVE.result c.block.result c.hidden_place-hidden.result c.result_place.result.now c.sp-entry.ensures.value (c.LINK.ensures ∙ sym g.met.A.Abi.link_is) (c.SAVE.ensures ∙ sym g.met.A.Abi.save_is) c.block.ensures c.hidden_place-hidden.ensures c.result_place.ensures c.requires.room in
    let block_is : c.sp-entry.result - c.SAVE.result - c.block.result + block_bytes s + std.save ≡ m.sp = omega (arith, there.block_is, there.area_is, c.requires.room) in
    let at : c.sp-entry.result - c.SAVE.result - c.block.result ≡ m.sp - std.save - block_bytes s = omega (arith, there.block_is, there.area_is, c.requires.room) in
    let base = sym (c.at-base.ensures ∙ there.base_is) in
    let passed = c.enter.ensures.entered in
    let entered = subst (λ h. IsEntered std h block m b) there.hidden_is passed in
    let copies = c.copy_arguments.ensures.only in
    let number : c.len-number.result ≡ length m.events = c.len-number.ensures ∙ ap (λ j. length j.events) c.events.ensures ∙ ap length (copies.within.events ∙ passed.events) in
    let target = copies.within.target ∙ passed.within.target in
    let same = c.requires.target ∙ sym g.met.A.Abi.target_is in
    let between = address_between std s block 0 m b b b c.requires.room c.requires.frame agrees.area sized block_is entered c.requires.some.0 sound right c.requires.some.1 in
    let own = own_list b d c.facts.ensures c.facts-2.ensures block (block + block_bytes s) copies in
    let still = own_reserved_of b d c.facts.ensures c.facts-2.ensures std agrees block (block + block_bytes s) copies in
    let beside = only_written b d c.facts.ensures c.facts-2.ensures block (block + block_bytes s) copies in
    let callee = c.enter.ensures.whole ∙ ap (λ h. entered_if (by_exchange m.target) std h block m) there.hidden_is ∙ ap (λ k. entered_if (by_exchange m.target) std (hidden_of (plan_of std s).res) k m) at in
    record {
      whole = scribbled_beside (length m.events) b d c.scribble.new.self _ (c.scribble.ensures ∙ ap (λ n. scribbled n d) number) beside callee;
      received = received std s block c.len-number.result m b d c.scribble.new.self c.requires.room c.requires.frame agrees.area sized block_is entered sound right copies c.scribble.ensures (λ vs own. c.copy_arguments.ensures.values vs (subst (λ q. OwnsArguments (image_from q (frame_of std s) (passing b)) 0 s.arguments (plan_of std s).places vs) base own));
      incoming = record {
        low = omega (arith, there.block_is, there.area_is, c.requires.room);
        entry = omega (arith, there.block_is, there.area_is, c.requires.room, c.sp-entry.ensures.value);
        high = omega (arith, c.sp-entry.ensures.value, c.requires.frame);
        address = address_known std s m (passing b) c.sp-entry.result c.at-base.result c.passed_address-address.result c.hidden_place-hidden.result between c.sp-entry.ensures.value (c.at-base.ensures ∙ there.base_is) there.hidden_is c.passed_address-address.ensures;
      };
      general = ap (λ q. q.general) c.scribble.ensures ∙ ap (λ t. scribbled_general (isa_of t) c.len-number.result d.general) target ∙ ap (λ n. scribbled_general (isa_of m.target) n d.general) number ∙ ap (scribbled_general (isa_of m.target) (length m.events)) own ∙ scribbled_alike std agrees (length m.events) m b same passed.reserved;
      floating = ap (λ q. q.floating) c.scribble.ensures ∙ ap scribbled_floating number;
      reserved = reserved_then std m d c.scribble.new.self (reserved_then std m b d passed.reserved still) (reserved_scribbled std agrees c.len-number.result d c.scribble.new.self (target ∙ same) c.scribble.ensures);
      entry = c.sp-entry.ensures.value;
      block = sym (ap (λ q. q.sp) c.scribble.ensures ∙ copies.sp ∙ passed.sp);
    }
