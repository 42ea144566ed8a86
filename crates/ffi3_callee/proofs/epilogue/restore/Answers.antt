use Rattle.std.specs.Prelude.{Option}
use Rattle.std.proofs.Common.{◌≡◌, ℕ, ◌-◌, ap, subst, sym, ◌∙◌, arith}
use Rattle.ffi3_type_spec.specs.declared.limits.TheConstants.{STACK_TOP}
use Rattle.ffi3_type_spec.proofs.Placed.{faultless_is_plain}
use Rattle.ffi3_place_spec.specs.declared.SaveWord.TheVariants.{Register}
use Rattle.ffi3_place_spec.specs.Agrees.{saved_registers}
use Rattle.ffi3_place_spec.proofs.OnMachine.{as_before}
use Rattle.ffi3_machine_transfer.specs.Stored.{word_in}
use Rattle.ffi3_place_spec.specs.declared.Loc.{Loc}
use Rattle.ffi3_machine_spec.specs.State.{State, with_sp}
use Rattle.ffi3_callee.specs.Saved.{AreGivenBack, AreSaved, with_given_back}
use Rattle.ffi3_callee.proofs.Keeping.{kept_return, reserved_not_saved, reserved_stay, reserved_then}
use Rattle.ffi3_callee.proofs.Laws.{result_apart, returned_apart, returned_settable, words_restorable_at}
use Rattle.ffi3_callee.proofs.Results.{registers_stay}
use Rattle.ffi3_callee.proofs.Return.{back_any_sp, registers_any_sp, within_any_sp, result_kept}
use Rattle.ffi3_callee.proofs.epilogue.restore.Goals as goal

pub at-area-requires-clause-low : goal.at-area-requires-clause-low
at-area-requires-clause-low g c =
    omega (arith, c.entry-entry.ensures, c.SAVE.ensures, g.met.A.Abi.save_is, c.requires.incoming.low, c.requires.incoming.entry)

pub at-area-requires-clause-high : goal.at-area-requires-clause-high
at-area-requires-clause-high g c =
    omega (arith, c.entry-entry.ensures, c.requires.incoming.high)

pub restore_words-requires-clause-high : goal.restore_words-requires-clause-high
restore_words-requires-clause-high g c =
    omega (arith, c.at-area.ensures, c.entry-entry.ensures, c.SAVE.ensures, g.met.A.Abi.save_is, g.met.A.Abi.agrees.area, c.requires.incoming.entry, c.requires.incoming.high)

pub restore_words-requires-clause-registers : goal.restore_words-requires-clause-registers
restore_words-requires-clause-registers g c =
    words_restorable_at g.A.Abi.standard c.args.machine.now.target g.A.Abi.TARGET g.met.A.Abi.agrees g.met.A.Abi.target_is c.requires.target

pub returns : goal.returns
returns g c =
    let std = g.A.Abi.standard in
    let s = c.args.cif.now in
    let agrees = g.met.A.Abi.agrees in
    let registers = saved_registers std.save_area in
    let sp = c.entry-entry.result in
    let a = c.args.machine.now in
    let b = c.restore_words.new.machine in
    let m = c.set_sp.new.self in
    let area : c.at-area.result ≡ c.args.incoming.entry - std.save = omega (arith, c.at-area.ensures, c.entry-entry.ensures, c.SAVE.ensures, g.met.A.Abi.save_is) in
    let back = λ (value : Loc → ℕ). back_any_sp c.at-area.result sp std.save_area value a b m c.set_sp.ensures (c.restore_words.ensures.given_back value) in
    let have = λ (base : ℕ) (hidden : Option Loc) (entry : State) (saved : AreSaved (c.args.incoming.entry - std.save) base hidden std.save_area entry a). let held = subst (λ n. AreSaved n base hidden std.save_area entry a) (sym area) saved in
    back (λ at. word_in base entry at) (λ i at below is. held i (Register at) below is) in
    let stay = registers_any_sp sp registers a b m c.set_sp.ensures (registers_stay STACK_TOP registers a b c.restore_words.ensures.stays) in
    let within = within_any_sp STACK_TOP STACK_TOP sp a b m c.set_sp.ensures c.restore_words.ensures.within in
    let target = ap (λ q. q.target) c.set_sp.ensures ∙ c.restore_words.ensures.within.target ∙ c.requires.target ∙ sym g.met.A.Abi.target_is in
    record {
      whole = c.set_sp.ensures ∙ ap (with_sp sp) (c.restore_words.ensures.whole ∙ ap (λ n. with_given_back n 0 std.save_area a) area) ∙ ap (λ n. with_sp n (with_given_back (c.args.incoming.entry - std.save) 0 std.save_area a)) c.entry-entry.ensures;
      given_back = λ value. subst (λ n. AreGivenBack n std.save_area value a m) area (back value);
      entry = have;
      others = stay;
      kept = λ base len room hidden entry sp_is saved reserved. kept_return std agrees base len room entry m target (ap (λ q. q.sp) c.set_sp.ensures ∙ c.entry-entry.ensures ∙ sym sp_is) (have base hidden entry saved) (reserved_then std entry a m reserved (reserved_stay std agrees registers a m (reserved_not_saved std agrees) stay));
      keeps = λ base v held. result_kept base registers a m stay within std s a.target v (as_before std s (g.met.A.Abi.sound s) (faultless_is_plain s c.sig-sig.ensures.faultless)) (result_apart std s agrees (g.met.A.Abi.sound s)) (returned_settable std a.target g.A.Abi.TARGET agrees g.met.A.Abi.target_is c.requires.target) (returned_apart std agrees) held;
      within = within;
      sp = ap (λ q. q.sp) c.set_sp.ensures ∙ c.entry-entry.ensures;
    }
