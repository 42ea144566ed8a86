use Rattle.std.proofs.Common.{◌≡◌, ◌+◌, ◌++◌, ◌-◌, ◌<◌, ◌≤◌, ap, length, sym, subst, refl, ◌∙◌, arith}
use Rattle.std.specs.List.{AllByRecursion, flat_map}
use Rattle.ffi3_type_spec.specs.declared.limits.TheConstants.{STACK, STACK_TOP}
use Rattle.ffi3_place_spec.specs.Standard.{plan_of, frame_of}
use Rattle.ffi3_place_spec.specs.Sound.{IsWhole, IsNoneOf, argument_locs, hidden_locs, place_locs}
use Rattle.ffi3_place_spec.specs.MachineRegisters.{to_list}
use Rattle.ffi3_machine_spec.specs.State.{scribbled}
use Rattle.ffi3_machine_transfer.specs.Passing.{passing}
use Rattle.ffi3_machine_transfer.specs.Stored.{stack_byte, IsPlace, IsWritable, SameAt, WroteWithin}
use Rattle.ffi3_machine_transfer.specs.Standing.{AllKeepUnused}
use Rattle.ffi3_caller.specs.Called.{with_frame}
use Rattle.ffi3_place_spec.specs.declared.Loc.{Loc}
use Rattle.ffi3_machine.specs.Scribbled.{length-scribbled_general, length-scribbled_floating}
use Rattle.ffi3_machine_transfer.proofs.Passing.{own_register}
use Rattle.ffi3_marshal.proofs.Lawful.{each_first, written_by_law}
use Rattle.ffi3_caller.proofs.Calling.{call_stored, call_within, count_is_register, count_is_written, hidden_lies, preserved_same, reserved_stays}
use Rattle.ffi3_caller.proofs.arguments.store_args.Goals as goal

pub begin_frame-requires-clause-bottom : goal.begin_frame-requires-clause-bottom
begin_frame-requires-clause-bottom g c = omega (arith, c.requires.room, c.frame.ensures)

pub store_places-requires-clause-target : goal.store_places-requires-clause-target
store_places-requires-clause-target g c = c.begin_frame.ensures.within.target ∙ c.requires.target

pub store_places-requires-clause-bottom : goal.store_places-requires-clause-bottom
store_places-requires-clause-bottom g c =
    omega (arith, c.begin_frame.ensures.sp, c.frame.ensures, c.requires.room)

pub store_places-requires-clause-frame : goal.store_places-requires-clause-frame
store_places-requires-clause-frame g c =
    omega (arith, c.begin_frame.ensures.sp, c.frame.ensures, c.requires.top)

pub at-base-requires-clause-low : goal.at-base-requires-clause-low
at-base-requires-clause-low g c =
    omega (arith, c.begin_frame.ensures.sp, c.frame.ensures, c.sp.ensures.value, c.requires.room)

pub at-base-requires-clause-high : goal.at-base-requires-clause-high
at-base-requires-clause-high g c =
    omega (arith, c.begin_frame.ensures.sp, c.sp.ensures.value, c.requires.top)

pub store_hidden-requires : goal.store_hidden-requires
store_hidden-requires g c =
    let std = g.A.Abi.standard in
    let s = c.args.cif.now in
    let sound = g.met.A.Abi.sound s in
    let target = c.store_places.new.machine.target in
    let is = sym c.result_place.ensures in
    let write = written_by_law std s sound g.met.A.Abi.agrees c.store_places.new.machine.target _ g.met.A.Abi.target_is (c.store_places.ensures.within.target ∙ c.begin_frame.ensures.within.target ∙ c.requires.target) in
    record {
      lie = subst (λ r. AllByRecursion (IsPlace (STACK_TOP - c.at-base.result)) (hidden_locs r)) is (hidden_lies std s sound c.sig-sig.ensures.faultless (STACK_TOP - c.at-base.result) (omega (arith, c.begin_frame.ensures.sp, c.requires.top, c.frame.ensures, c.at-base.ensures, c.sp.ensures.value)));
      writable = subst (λ r. AllByRecursion (IsWritable target) (hidden_locs r)) is (each_first (IsWritable target) (hidden_locs (plan_of std s).res) (flat_map place_locs (plan_of std s).places) write);
      whole = subst (λ r. AllByRecursion IsWhole (hidden_locs r)) is sound.address;
    }

pub put_count-requires-clause-registers : goal.put_count-requires-clause-registers
put_count-requires-clause-registers g c =
    subst (λ k. AllByRecursion (IsPlace 0) (to_list k)) (sym c.vector_count-count.ensures) (count_is_register g.A.Abi.standard g.met.A.Abi.agrees)

pub put_count-requires-clause-writable : goal.put_count-requires-clause-writable
put_count-requires-clause-writable g c =
    let std = g.A.Abi.standard in
    let s = c.args.cif.now in
    let sound = g.met.A.Abi.sound s in
    let lie = subst (λ r. AllByRecursion (IsPlace (frame_of std s)) (hidden_locs r)) (sym c.result_place.ensures) (hidden_lies std s sound c.sig-sig.ensures.faultless (frame_of std s) (omega arith)) in
    let same = (c.store_hidden.ensures.within (frame_of std s) lie).target ∙ c.store_places.ensures.within.target ∙ c.begin_frame.ensures.within.target ∙ c.requires.target in
    subst (λ k. AllByRecursion (IsWritable c.store_hidden.new.machine.target) (to_list k)) (sym c.vector_count-count.ensures) (count_is_written std g.met.A.Abi.agrees c.store_hidden.new.machine.target _ g.met.A.Abi.target_is same)

pub returns : goal.returns
returns g c =
    let std = g.A.Abi.standard in
    let s = c.args.cif.now in
    let sound = g.met.A.Abi.sound s in
    let m = c.args.machine.now in
    let write = written_by_law std s sound g.met.A.Abi.agrees m.target _ g.met.A.Abi.target_is c.requires.target in
    let registers = subst (λ k. AllByRecursion (IsPlace 0) (to_list k)) (sym c.vector_count-count.ensures) (count_is_register std g.met.A.Abi.agrees) in
    let low : STACK ≤ c.at-base.result = omega (arith, c.begin_frame.ensures.sp, c.frame.ensures, c.at-base.ensures, c.sp.ensures.value, c.requires.room) in
    let all = call_stored std s sound c.sig-sig.ensures.faultless c.args.values.now m.target c.at-base.result c.result_place.result.now c.vector_count-count.result c.vectors.result (passing (scribbled (length m.events) m)) (passing c.begin_frame.new.machine) (passing c.store_places.new.machine) (passing c.store_hidden.new.machine) (passing c.put_count.new.machine) (c.at-base.ensures ∙ c.sp.ensures.value) low c.result_place.ensures c.vector_count-count.ensures c.vectors.ensures write registers c.requires.fit c.begin_frame.ensures.registers c.store_places.ensures.stand c.store_places.ensures.stays c.store_places.ensures.within c.store_places.ensures.unused c.store_hidden.ensures.stands c.store_hidden.ensures.stays c.store_hidden.ensures.within c.put_count.ensures.told c.put_count.ensures.stays c.put_count.ensures.within in
    let wrote = (call_within (frame_of std s) (passing (scribbled (length m.events) m)) (passing c.begin_frame.new.machine) (passing c.put_count.new.machine) (subst (λ n. c.begin_frame.new.machine.sp + n ≡ m.sp) c.frame.ensures c.begin_frame.ensures.sp) (subst (λ n. WroteWithin c.begin_frame.new.machine.sp (c.begin_frame.new.machine.sp + n) (passing (scribbled (length m.events) m)) (passing c.begin_frame.new.machine)) c.frame.ensures c.begin_frame.ensures.within) all.sp all.within) in
    let o = c.begin_frame.new.machine in
    let d = c.put_count.new.machine in
    let own : (l : Loc) → IsPlace 0 l → IsNoneOf (argument_locs (plan_of std s) ++ to_list std.vector_count) l → SameAt 0 l (scribbled (length m.events) m) c.put_count.new.machine = λ l h none.
    own_register l (scribbled (length m.events) m) c.put_count.new.machine h wrote.target (length-scribbled_general _ _ _ ∙ sym c.facts.ensures.general) (length-scribbled_floating _ ∙ sym c.facts.ensures.floating) (all.others l h none) wrote.exchange in
    record {
      own = all.own;
      filled = all.filled;
      hidden = all.hidden;
      vectors = all.vectors;
      sp = omega (arith, all.sp, c.begin_frame.ensures.sp, c.frame.ensures);
      others = own;
      preserved = preserved_same std g.met.A.Abi.agrees s sound (scribbled (length m.events) m) c.put_count.new.machine own;
      reserved = reserved_stays std g.met.A.Abi.agrees s sound (scribbled (length m.events) m) c.put_count.new.machine own (length m.events) m _ refl g.met.A.Abi.target_is c.requires.target;
      passed = all.others;
      free = λ at w k room none below.
          let there : d.sp + at + k ≡ o.sp + at + k = omega (arith, all.sp) in
          let within : at + k < c.frame.result = omega (arith, room, below, c.frame.ensures) in
          let back : o.sp + (at + k) ≡ o.sp + at + k = omega arith in
          ap (stack_byte d) there ∙ all.free at w none k below ∙ ap (stack_byte o) (sym back) ∙ c.begin_frame.ensures.filled (at + k) within;
      unused = subst (λ low. AllKeepUnused low (passing (with_frame (frame_of std s) m)) (passing d) s.arguments (plan_of std s).places) (sym all.sp) (subst (λ x. AllKeepUnused o.sp x (passing d) s.arguments (plan_of std s).places) (ap passing (c.begin_frame.ensures.opened ∙ ap (λ n. with_frame n m) c.frame.ensures)) all.unused);
      within = wrote;
    }
