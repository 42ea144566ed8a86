use Rattle.std.proofs.Common.{◌≡◌, ◌-◌, Bool, true, false, ap, sym, ◌∙◌, arith}
use Rattle.ffi3_type_spec.specs.declared.limits.TheConstants.{STACK_TOP}
use Rattle.ffi3_type_spec.specs.TargetIsa.{isa_of}
use Rattle.ffi3_place_spec.specs.StubRegisters.{area_bytes}
use Rattle.ffi3_machine_spec.specs.State.{with_sp}
use Rattle.ffi3_machine_transfer.specs.Passing.{by_exchange}
use Rattle.ffi3_callee.specs.Entered.{entered_if}
use Rattle.ffi3_callee.specs.Saved.{with_saved}
use Rattle.ffi3_callee.proofs.ByStub.{entered_by_stub, entered_itself}
use Rattle.ffi3_callee.proofs.Entry.{all_saveable}
use Rattle.ffi3_callee.proofs.Laws.{words_saveable}
use Rattle.ffi3_machine_transfer.proofs.Passing.{laws_of}
use Rattle.ffi3_callee.proofs.prologue.enter.Goals as goal

pub enter_by_stub-requires-clause-low : goal.enter_by_stub-requires-clause-low
enter_by_stub-requires-clause-low g c =
    let std = g.A.Abi.standard in
    let m = c.args.machine.now in
    let e : by_exchange c.args.machine.now.target ≡ true = cc in
    let same : std.target ≡ m.target = g.met.A.Abi.target_is ∙ sym c.requires.target in
    let laws = laws_of std m.target g.met.A.Abi.by_stubs same e in
    let bytes : std.save ≡ area_bytes (isa_of m.target) = laws.area_size ∙ ap (λ k. area_bytes (isa_of k)) same in
    omega (arith, bytes, c.requires.room)

pub save_words-requires-clause-below : goal.save_words-requires-clause-below
save_words-requires-clause-below g c =
    omega (arith, g.met.A.Abi.agrees.area, g.met.A.Abi.save_is, c.SAVE.ensures, c.sp-sp.ensures.value, c.requires.room, c.requires.base)

pub save_words-requires-clause-lie : goal.save_words-requires-clause-lie
save_words-requires-clause-lie g c =
    all_saveable (STACK_TOP - c.args.base) g.A.Abi.standard.save_area (words_saveable g.A.Abi.standard g.met.A.Abi.agrees)

pub returns-then-exchanged : goal.returns-then-exchanged
returns-then-exchanged g c =
    let std = g.A.Abi.standard in
    let m = c.args.machine.now in
    let e : by_exchange c.args.machine.now.target ≡ true = cc in
    let same : std.target ≡ m.target = g.met.A.Abi.target_is ∙ sym c.requires.target in
    let laws = laws_of std m.target g.met.A.Abi.by_stubs same e in
    let stub = c.enter_by_stub.ensures in
    record {
      whole = stub.whole ∙ ap (λ (b : Bool). entered_if b std c.args.hidden c.args.block m) (sym e);
      entered = entered_by_stub std g.met.A.Abi.agrees laws c.args.base c.args.block c.args.hidden m c.enter_by_stub.new.machine c.sp-sp.ensures.machine same c.requires.base c.requires.room (omega (arith, c.requires.base, c.address-at.ensures.high)) c.requires.below (c.requires.hidden_saved e) e stub.says stub.counted;
    }

pub returns-else-exchanged : goal.returns-else-exchanged
returns-else-exchanged g c =
    let std = g.A.Abi.standard in
    let m = c.args.machine.now in
    let e : by_exchange c.args.machine.now.target ≡ false = cc in
    let from : c.sp-sp.result - c.SAVE.result ≡ m.sp - std.save = omega (arith, c.sp-sp.ensures.value, c.SAVE.ensures, g.met.A.Abi.save_is) in
    let saved = c.save_words.ensures in
    record {
      whole = c.set_sp.ensures ∙ ap (with_sp c.args.block) (saved.whole ∙ ap (λ n. with_saved n c.args.base c.args.hidden 0 std.save_area m) from ∙ ap (λ n. with_saved (m.sp - std.save) n c.args.hidden 0 std.save_area m) c.requires.base) ∙ ap (λ (b : Bool). entered_if b std c.args.hidden c.args.block m) (sym e);
      entered = entered_itself std g.met.A.Abi.agrees (c.sp-sp.result - c.SAVE.result) c.args.base c.args.block c.args.hidden m c.save_words.new.machine c.set_sp.new.self (g.met.A.Abi.target_is ∙ sym c.requires.target) from c.requires.base c.requires.room e saved.saved saved.only c.set_sp.ensures;
    }
