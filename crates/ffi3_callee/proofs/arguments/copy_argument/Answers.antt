use Rattle.std.proofs.Common.{◌+◌, ◌-◌, ◌≤◌, length, refl, ap, subst, sym, ◌∙◌, arith}
use Rattle.ffi3_type_spec.specs.Layout.{size_of}
use Rattle.ffi3_place_spec.specs.Sound.{PlaceHasAll}
use Rattle.ffi3_cif.specs.Runs.{AreRunsOf, pieces_of}
use Rattle.ffi3_type_spec.specs.declared.limits.TheConstants.{STACK, STACK_TOP}
use Rattle.ffi3_machine_spec.specs.State.{stack_at, stored}
use Rattle.ffi3_machine_transfer.specs.Passing.{passing}
use Rattle.ffi3_machine_transfer.specs.Stored.{IsPlace}
use Rattle.ffi3_machine_transfer.specs.Standing.{PlaceLies}
use Rattle.ffi3_machine_transfer.proofs.Composing.{only_then}
use Rattle.ffi3_machine_transfer.proofs.Runs.{runs_lie, runs_lie_wider}
use Rattle.ffi3_marshal.proofs.Stepping.{each_loc}
use Rattle.ffi3_callee.specs.Loaded.{IsFound, IsRead}
use Rattle.ffi3_callee.proofs.Moving.{copied_only, copied_there, direct_read, within_wider}
use Rattle.ffi3_callee.proofs.Placing.{copy_read, parts_within}
use Rattle.ffi3_callee.proofs.arguments.copy_argument.Goals as goal

pub copy_runs-requires-clause-lie : goal.copy_runs-requires-clause-lie
copy_runs-requires-clause-lie c =
    let t = c.args.ty.now in
    let room = STACK_TOP - c.args.base in
    let all = subst (PlaceHasAll t) c.in-Direct.is c.requires.has_all in
    let lie = subst (PlaceLies room t) c.in-Direct.is c.requires.lies in
    let are = subst (λ p. AreRunsOf (pieces_of p) c.args.runs.now) c.in-Direct.is c.requires.runs in
    runs_lie_wider room (size_of t) (c.args.base - c.args.to) c.args.runs.now (omega (arith, c.requires.below)) (runs_lie t room c.in-Direct.pieces c.args.runs.now all.each lie are)

pub copy_runs-requires-clause-rising : goal.copy_runs-requires-clause-rising
copy_runs-requires-clause-rising c =
    (subst (λ p. AreRunsOf (pieces_of p) c.args.runs.now) c.in-Direct.is c.requires.runs).rising

pub copy_registers-requires-clause-lie : goal.copy_registers-requires-clause-lie
copy_registers-requires-clause-lie c =
    each_loc (IsPlace (STACK_TOP - c.args.base)) c.in-Direct.pieces (subst (PlaceLies (STACK_TOP - c.args.base) c.args.ty.now) c.in-Direct.is c.requires.lies)

pub copy_registers-requires-clause-within : goal.copy_registers-requires-clause-within
copy_registers-requires-clause-within c =
    let t = c.args.ty.now in
    within_wider (size_of t) (c.args.base - c.args.to) c.in-Direct.pieces (omega (arith, c.requires.below)) (parts_within t c.in-Direct.pieces (size_of t) refl (subst (PlaceHasAll t) c.in-Direct.is c.requires.has_all))

pub copy_stack-requires : goal.copy_stack-requires
copy_stack-requires c =
    let found = subst (IsFound c.args.base (passing c.args.machine.now)) c.in-ByRef.is c.requires.found in
    let lies = subst (PlaceLies (STACK_TOP - c.args.base) c.args.ty.now) c.in-ByRef.is c.requires.lies in
    record {
      from_low = omega (arith, c.place_word-start.ensures, found, c.requires.low, c.requires.below);
      from_high = omega (arith, c.place_word-start.ensures, found, lies.1, c.address-at.ensures.high, c.size.ensures.value);
      to_low = c.requires.low;
      to_high = omega (arith, c.requires.below, c.address-at.ensures.high, c.size.ensures.value);
    }

pub returns-in-Direct : goal.returns-in-Direct
returns-in-Direct c =
    let t = c.args.ty.now in
    let room = STACK_TOP - c.args.base in
    let old = passing c.args.machine.now in
    let mid = passing c.copy_runs.new.machine in
    let new = passing c.copy_registers.new.machine in
    let all = subst (PlaceHasAll t) c.in-Direct.is c.requires.has_all in
    let lie = subst (PlaceLies room t) c.in-Direct.is c.requires.lies in
    let are = subst (λ p. AreRunsOf (pieces_of p) c.args.runs.now) c.in-Direct.is c.requires.runs in
    let first = c.copy_runs.ensures.only room (size_of t) (runs_lie t room c.in-Direct.pieces c.args.runs.now all.each lie are) in
    let second = c.copy_registers.ensures.only (size_of t) (parts_within t c.in-Direct.pieces (size_of t) refl all) in
    let fits : c.args.to - STACK + size_of t ≤ length c.copy_registers.new.machine.stack = omega (arith, first.within.size, second.within.size, c.requires.low, c.requires.below, c.address-at.ensures.high, c.facts.ensures.stack) in
    record {
      read = subst (λ p. IsRead c.args.base old t p (stack_at c.args.to (size_of t) new)) (sym c.in-Direct.is) (direct_read c.args.base c.args.to t c.in-Direct.pieces c.args.runs.now c.requires.low c.requires.below all.each are old mid new first c.copy_runs.ensures c.copy_registers.ensures fits all);
      only = only_then c.args.to (c.args.to + size_of t) old mid new first second;
    }

pub returns-in-ByRef : goal.returns-in-ByRef
returns-in-ByRef c =
    let t = c.args.ty.now in
    let m = passing c.args.machine.now in
    let new = passing c.copy_stack.new.self in
    let start = c.place_word-start.result in
    let found = subst (IsFound c.args.base m) c.in-ByRef.is c.requires.found in
    let lies = subst (PlaceLies (STACK_TOP - c.args.base) t) c.in-ByRef.is c.requires.lies in
    let is = (ap passing c.copy_stack.ensures) ∙ ap (λ n. stored c.args.to (stack_at start n m) m) c.size.ensures.value in
    let from : c.place_word-start.result - STACK + size_of c.args.ty.now ≤ length c.args.machine.now.stack = omega (arith, c.place_word-start.ensures, found, lies.1, c.requires.low, c.requires.below, c.address-at.ensures.high, c.facts.ensures.stack) in
    let into : c.args.to - STACK + size_of c.args.ty.now ≤ length c.args.machine.now.stack = omega (arith, c.requires.low, c.requires.below, c.address-at.ensures.high, c.facts.ensures.stack) in
    let there = copied_there c.args.to start (size_of t) m new c.requires.low from into is in
    record {
      read = subst (λ p. IsRead c.args.base m t p (stack_at c.args.to (size_of t) new)) (sym c.in-ByRef.is) (copy_read c.args.base m t c.in-ByRef.at c.in-ByRef.copy start (stack_at c.args.to (size_of t) new) (omega (arith, c.requires.low, c.requires.below)) c.place_word-start.ensures found there);
      only = copied_only c.args.to start (size_of t) m new c.requires.low from into is;
    }
