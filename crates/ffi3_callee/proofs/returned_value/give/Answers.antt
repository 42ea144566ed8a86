use Rattle.std.specs.List.{AllByRecursion}
use Rattle.std.proofs.Common.{◌≡◌, ◌+◌, ◌≤◌, ap, subst, sym, ◌∙◌, arith}
use Rattle.ffi3_type_spec.specs.Layout.{size_of}
use Rattle.ffi3_type_spec.specs.Value.{value_in}
use Rattle.ffi3_type_spec.proofs.Placed.{faultless_is_plain}
use Rattle.ffi3_values.specs.ValueOf.{value_of}
use Rattle.ffi3_place_spec.specs.Standard.{plan_of}
use Rattle.ffi3_place_spec.proofs.OnMachine.{as_before}
use Rattle.ffi3_machine_spec.specs.State.{stack_at}
use Rattle.ffi3_type_spec.specs.declared.limits.TheConstants.{STACK_TOP}
use Rattle.ffi3_machine_transfer.specs.Passing.{passing}
use Rattle.ffi3_machine_transfer.specs.Standing.{PiecesStand}
use Rattle.ffi3_machine_transfer.specs.Stored.{KeepsPadding, KeepsUnused, WroteWithin}
use Rattle.ffi3_callee.specs.Given.{IsAddressOf}
use Rattle.ffi3_machine_transfer.proofs.Outcomes.{buffer_within}
use Rattle.ffi3_callee.proofs.Results.{direct_held, direct_places, direct_keeps, direct_registers, direct_within, direct_writes, hidden_held, hidden_keeps, hidden_writes, nothing_held, nothing_keeps}
use Rattle.ffi3_callee.proofs.returned_value.give.Goals as goal

pub give_buffer-requires-clause-high : goal.give_buffer-requires-clause-high
give_buffer-requires-clause-high g c =
    let std = g.A.Abi.standard in
    let s = c.args.cif.now in
    let type_is = c.ret-ty.ensures ∙ ap (λ r. r.result_type) c.checked_sig-sig.ensures.value in
    let is = sym c.result_place.ensures ∙ c.in-Hidden.is in
    let address_is = subst (IsAddressOf c.args.base c.args.address) is c.requires.address in
    subst (λ t. c.args.address + size_of t ≤ STACK_TOP) (sym type_is) (omega (arith, address_is, buffer_within std s c.in-Hidden.at c.in-Hidden.buffer is, c.requires.high))

pub store_pieces-requires-clause-registers : goal.store_pieces-requires-clause-registers
store_pieces-requires-clause-registers g c =
    let s = c.args.cif.now in
    direct_places g.A.Abi.standard s c.in-Direct.pieces (as_before g.A.Abi.standard s (g.met.A.Abi.sound s) (faultless_is_plain s c.checked_sig-sig.ensures.faultless)) (sym c.result_place.ensures ∙ c.in-Direct.is)

pub returns-in-Nothing-clause-holds : goal.returns-in-Nothing-clause-holds
returns-in-Nothing-clause-holds g c =
    nothing_held g.A.Abi.standard c.args.cif.now c.args.base (passing c.args.machine.now) (value_of c.args.value.now) c.address-at.ensures.low c.requires.high c.facts.ensures.stack (sym c.result_place.ensures ∙ c.in-Nothing.is) c.requires.fits

pub returns-in-Nothing-clause-unused : goal.returns-in-Nothing-clause-unused
returns-in-Nothing-clause-unused g c =
    nothing_keeps c.args.base c.args.cif.now.result_type (plan_of g.A.Abi.standard c.args.cif.now).res (passing c.args.machine.now) (passing c.args.machine.now) (sym c.result_place.ensures ∙ c.in-Nothing.is)

pub returns-in-Direct : goal.returns-in-Direct
returns-in-Direct g c =
    let std = g.A.Abi.standard in
    let s = c.args.cif.now in
    let pieces = c.in-Direct.pieces in
    let old = passing c.args.machine.now in
    let new = passing c.store_pieces.new.machine in
    let v = value_of c.args.value.now in
    let type_is = c.ret-ty.ensures ∙ ap (λ r. r.result_type) c.checked_sig-sig.ensures.value in
    let is = sym c.result_place.ensures ∙ c.in-Direct.is in
    let sound = as_before g.A.Abi.standard s (g.met.A.Abi.sound s) (faultless_is_plain s c.checked_sig-sig.ensures.faultless) in
    let within = direct_within std s c.args.base pieces old new sound is c.store_pieces.ensures.within in
    record {
      holds = direct_held std s c.args.base new v pieces sound c.address-at.ensures.low c.requires.high (within.size ∙ c.facts.ensures.stack) is c.requires.fits (subst (λ t. PiecesStand c.args.base new t v pieces) type_is c.store_pieces.ensures.stand);
      unused = direct_keeps c.args.base s.result_type (plan_of std s).res pieces old new is (subst (λ t. AllByRecursion (KeepsUnused c.args.base t old new) pieces) type_is c.store_pieces.ensures.unused);
      registers = direct_registers std c.args.base (plan_of std s).res pieces old new is c.store_pieces.ensures.stays;
      writes = direct_writes std s c.args.base s.result_type pieces old new sound is c.store_pieces.ensures.within;
      sp = c.store_pieces.ensures.stays.sp;
    }

pub returns-in-Hidden-clause-unused : goal.returns-in-Hidden-clause-unused
returns-in-Hidden-clause-unused g c =
    let s = c.args.cif.now in
    let type_is = c.ret-ty.ensures ∙ ap (λ r. r.result_type) c.checked_sig-sig.ensures.value in
    let is = sym c.result_place.ensures ∙ c.in-Hidden.is in
    let address_is = subst (IsAddressOf c.args.base c.args.address) is c.requires.address in
    hidden_keeps c.args.base c.args.address s.result_type (plan_of g.A.Abi.standard s).res c.in-Hidden.at c.in-Hidden.buffer (passing c.args.machine.now) (passing c.give_buffer.new.machine) (passing c.tell_address.new.machine) is address_is
    (subst (λ t. KeepsPadding c.args.address t (passing c.args.machine.now) (passing c.give_buffer.new.machine)) type_is c.give_buffer.ensures.unused) c.tell_address.ensures.within

pub returns-in-Hidden-clause-holds : goal.returns-in-Hidden-clause-holds
returns-in-Hidden-clause-holds g c =
    let std = g.A.Abi.standard in
    let s = c.args.cif.now in
    let type_is = c.ret-ty.ensures ∙ ap (λ r. r.result_type) c.checked_sig-sig.ensures.value in
    let is = sym c.result_place.ensures ∙ c.in-Hidden.is in
    let address_is = subst (IsAddressOf c.args.base c.args.address) is c.requires.address in
    let between = passing c.give_buffer.new.machine in
    let value = subst (λ t. value_in t (stack_at c.args.address (size_of t) between) ≡ value_of c.args.value.now) type_is c.give_buffer.ensures.reads in
    hidden_held std s c.args.base c.args.address c.args.machine.now.target between (passing c.tell_address.new.machine) (value_of c.args.value.now) c.in-Hidden.at c.in-Hidden.buffer c.args.returned c.address-at.ensures.low c.requires.high (c.give_buffer.ensures.only.within.size ∙ c.facts.ensures.stack) is address_is c.requires.fits c.requires.returned c.requires.returned_settable value c.tell_address.ensures.within c.tell_address.ensures.told

pub returns-in-Hidden-clause-writes : goal.returns-in-Hidden-clause-writes
returns-in-Hidden-clause-writes g c =
    let std = g.A.Abi.standard in
    let s = c.args.cif.now in
    let type_is = c.ret-ty.ensures ∙ ap (λ r. r.result_type) c.checked_sig-sig.ensures.value in
    let is = sym c.result_place.ensures ∙ c.in-Hidden.is in
    let address_is = subst (IsAddressOf c.args.base c.args.address) is c.requires.address in
    let between = passing c.give_buffer.new.machine in
    hidden_writes c.args.base c.args.address s.result_type (plan_of std s).res c.in-Hidden.at c.in-Hidden.buffer (passing c.args.machine.now) between (passing c.tell_address.new.machine) (omega (arith, address_is, buffer_within std s c.in-Hidden.at c.in-Hidden.buffer is, c.requires.high)) is address_is
    (subst (λ t. WroteWithin c.args.address (c.args.address + size_of t) (passing c.args.machine.now) between) type_is c.give_buffer.ensures.only.within) c.tell_address.ensures.within
