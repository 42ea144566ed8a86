use Rattle.std.proofs.Common.{ℕ, ◌+◌, sym, subst}
use Rattle.ffi3_place_spec.specs.declared.Place.{Place}
use Rattle.ffi3_cif.specs.Runs.{AreRunsOf, pieces_of}
use Rattle.ffi3_machine_transfer.specs.Passing.{passing}
use Rattle.ffi3_machine_transfer.specs.Stored.{WroteWithin}
use Rattle.ffi3_machine_transfer.specs.Standing.{PlaceKeepsUnused, PlaceLies}
use Rattle.ffi3_machine_transfer.proofs.store_place_by.Goals as goal

pub store_direct-requires-clause-runs : goal.store_direct-requires-clause-runs
store_direct-requires-clause-runs c = subst (λ p. AreRunsOf (pieces_of p) c.args.runs.now) c.in-Direct.is c.requires.runs

pub returns-in-Direct-clause-within : goal.returns-in-Direct-clause-within
returns-in-Direct-clause-within c =
    let P : Place → Type 0 = λ p. (room : ℕ) → PlaceLies room c.args.ty.now p → WroteWithin c.args.base (c.args.base + room) (passing c.args.machine.now) (passing c.store_direct.new.machine) in
    subst P (sym c.in-Direct.is) (λ room lies. c.store_direct.ensures.within room lies)

pub returns-in-Direct-clause-unused : goal.returns-in-Direct-clause-unused
returns-in-Direct-clause-unused c = subst (PlaceKeepsUnused c.args.base c.args.ty.now (passing c.args.machine.now) (passing c.store_direct.new.machine)) (sym c.in-Direct.is) c.store_direct.ensures.unused

pub returns-in-ByRef-clause-unused : goal.returns-in-ByRef-clause-unused
returns-in-ByRef-clause-unused c = subst (PlaceKeepsUnused c.args.base c.args.ty.now (passing c.args.machine.now) (passing c.store_copy.new.machine)) (sym c.in-ByRef.is) c.store_copy.ensures.unused

pub returns-in-ByRef-clause-within : goal.returns-in-ByRef-clause-within
returns-in-ByRef-clause-within c =
    let P : Place → Type 0 = λ p. (room : ℕ) → PlaceLies room c.args.ty.now p → WroteWithin c.args.base (c.args.base + room) (passing c.args.machine.now) (passing c.store_copy.new.machine) in
    subst P (sym c.in-ByRef.is) (λ room lies. c.store_copy.ensures.within room lies.0 lies.1)
