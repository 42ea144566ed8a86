use Rattle.std.proofs.Common.{◌+◌, ◌-◌, sym, subst}
use Rattle.std.specs.List.{AllByRecursion}
use Rattle.ffi3_type_spec.specs.Layout.{size_of}
use Rattle.ffi3_values.specs.ValueOf.{value_of}
use Rattle.ffi3_place_spec.specs.Sound.{piece_locs}
use Rattle.ffi3_type_spec.specs.declared.limits.TheConstants.{STACK_TOP}
use Rattle.ffi3_machine_transfer.specs.Passing.{passing}
use Rattle.ffi3_machine_transfer.specs.Stored.{IsWritable}
use Rattle.ffi3_machine_transfer.proofs.Composing.{wrote_then}
use Rattle.ffi3_machine_transfer.proofs.Runs.{all_clear_above, all_copied_by, runs_lie}
use Rattle.ffi3_machine_transfer.proofs.RunStoring.{each_by_run, each_kept, keeps_both, runs_stay, stays_twice}
use Rattle.ffi3_machine_transfer.proofs.store_direct.Goals as goal

pub store_runs-requires-clause-lie : goal.store_runs-requires-clause-lie
store_runs-requires-clause-lie c =
    runs_lie c.args.ty.now (STACK_TOP - c.args.base) c.args.pieces.now c.args.runs.now c.requires.parts c.requires.lie c.requires.runs

pub store_runs-requires-clause-rising : goal.store_runs-requires-clause-rising
store_runs-requires-clause-rising c = c.requires.runs.rising

pub store_each-requires-clause-writable : goal.store_each-requires-clause-writable
store_each-requires-clause-writable c =
    let room = STACK_TOP - c.args.base in
    let only = c.store_runs.ensures.stored.only room (size_of c.args.ty.now) (runs_lie c.args.ty.now room c.args.pieces.now c.args.runs.now c.requires.parts c.requires.lie c.requires.runs) in
    subst (λ g. AllByRecursion (IsWritable g) (piece_locs c.args.pieces.now)) (sym only.within.target) c.requires.writable

pub store_each-requires-clause-given : goal.store_each-requires-clause-given
store_each-requires-clause-given c =
    let t = c.args.ty.now in
    let room = STACK_TOP - c.args.base in
    let only = c.store_runs.ensures.stored.only room (size_of t) (runs_lie t room c.args.pieces.now c.args.runs.now c.requires.parts c.requires.lie c.requires.runs) in
    each_by_run c.args.base t (value_of c.args.value.now) c.address-at.ensures.low c.args.runs.now (c.args.base + room) (passing c.args.machine.now) (passing c.store_runs.new.machine) c.store_runs.ensures.stored only c.args.pieces.now (all_copied_by c.args.pieces.now c.args.runs.now c.requires.runs)

pub returns : goal.returns
returns c =
    let t = c.args.ty.now in
    let pieces = c.args.pieces.now in
    let runs = c.args.runs.now in
    let room = STACK_TOP - c.args.base in
    let old = passing c.args.machine.now in
    let mid = passing c.store_runs.new.machine in
    let new = passing c.store_each.new.machine in
    let only = c.store_runs.ensures.stored.only room (size_of t) (runs_lie t room pieces runs c.requires.parts c.requires.lie c.requires.runs) in
    let kept = each_kept c.args.base t (value_of c.args.value.now) c.address-at.ensures.low runs (c.args.base + room) old mid c.store_runs.ensures.stored only pieces (all_copied_by pieces runs c.requires.runs) (all_clear_above t pieces runs c.requires.parts c.requires.apart c.requires.runs) in
    let stay = runs_stay c.args.base t (value_of c.args.value.now) c.address-at.ensures.low pieces runs (c.args.base + room) old mid c.requires.parts c.requires.runs c.store_runs.ensures.stored only in
    record {
      stand = c.store_each.ensures.stand;
      unused = keeps_both c.args.base t old mid new pieces kept c.store_each.ensures.unused;
      stays = stays_twice c.args.base (piece_locs pieces) old mid new stay c.store_each.ensures.stays;
      within = λ n lies. wrote_then c.args.base (c.args.base + n) old mid new (c.store_runs.ensures.stored.only n (size_of t) (runs_lie t n pieces runs c.requires.parts lies c.requires.runs)).within (c.store_each.ensures.within n lies);
    }
