use Rattle.std.proofs.Common.{ℕ, ◌+◌, sym, subst}
use Rattle.std.specs.List.{AllByRecursion}
use Rattle.ffi3_place_spec.specs.declared.Res.{Res}
use Rattle.ffi3_place_spec.specs.Sound.{hidden_locs}
use Rattle.ffi3_machine_transfer.specs.Passing.{passing}
use Rattle.ffi3_machine_transfer.specs.Stored.{IsPlace, WroteWithin}
use Rattle.ffi3_machine_transfer.proofs.store_hidden.Goals as goal

pub returns-in-Hidden-clause-within : goal.returns-in-Hidden-clause-within
returns-in-Hidden-clause-within c =
    let P : Res → Type 0 = λ r. (room : ℕ) → AllByRecursion (IsPlace room) (hidden_locs r) → WroteWithin c.args.base (c.args.base + room) (passing c.args.machine.now) (passing c.put_word.new.machine) in
    subst P (sym c.in-Hidden.is) (λ room lies. c.put_word.ensures.within room lies.0)
