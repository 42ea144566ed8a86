use Rattle.std.specs.Prelude.{slice_index}
use Rattle.std.proofs.Common.{◌≡◌, Bool, refl, sym, subst, ◌∙◌, true, false}
use Rattle.ffi3_machine_transfer.specs.Passing.{by_exchange, passing_if}
use Rattle.ffi3_machine_transfer.proofs.Passing.{floating_read}
use Rattle.ffi3_machine_transfer.proofs.registers.passed_floating.Goals as goal

pub returns-then-exchanged : goal.returns-then-exchanged
returns-then-exchanged c =
    let e : by_exchange c.args.machine.now.target ≡ true = cc in
    c.x.ensures ∙ floating_read (by_exchange c.args.machine.now.target) c.args.k c.args.machine.now e c.requires

pub returns-else-exchanged : goal.returns-else-exchanged
returns-else-exchanged c =
    let e : by_exchange c.args.machine.now.target ≡ false = cc in
    c.f.ensures ∙ subst (λ (b : Bool). slice_index c.args.machine.now.floating c.args.k ≡ slice_index (passing_if b c.args.machine.now).floating c.args.k) (sym e) refl
