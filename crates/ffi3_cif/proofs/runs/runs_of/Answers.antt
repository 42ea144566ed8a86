use Rattle.std.proofs.Common.{◌<◌, ◌++◌, length, ap, sym, ◌∙◌, arith}
use Rattle.ffi3_type_spec.specs.declared.limits.TheConstants.{LARGEST_TYPE}
use Rattle.ffi3_cif.specs.Runs.{glued, stack_runs}
use Rattle.ffi3_cif.proofs.Gather.{first_run, piece_skipped, piece_taken, all_taken, run_ends}
use Rattle.ffi3_cif.proofs.runs.runs_of.Goals.{in-Some+in_ok-run, in_default}
use Rattle.ffi3_cif.proofs.runs.runs_of.Goals as goal

pub loop-i-init : goal.loop-i-init
loop-i-init c = ap (λ rs. rs ++ glued first_run (stack_runs c.args.pieces.now)) c.new-runs.ensures

pub with_next-requires : goal.with_next-requires
with_next-requires c =
    run_ends LARGEST_TYPE c.args.pieces.now c.loop-i.i c.get.result.now c.in-Some.next (omega (arith, c.loop-i-test.true, c.len-i-end.ensures)) c.get.ensures (sym c.run_at.ensures ∙ c.in-Some.is) c.requires.within

pub loop-i-preserved : goal.loop-i-preserved
loop-i-preserved c =
    let pieces = c.args.pieces.now in
    let inside : c.loop-i.i < length pieces = omega (arith, c.loop-i-test.true, c.len-i-end.ensures) in
    elim c.match-run_at.branch [
      | in-Some+in_ok-run w ↦
          piece_taken pieces c.loop-i.i c.get.result.now inside c.get.ensures c.loop-i.runs _ c.loop-i.run c.loop-i.invariant _ _ w.in-Some.next _ _ w.runs-is w.run-is (sym c.run_at.ensures ∙ w.in-Some.is) w.in_ok-run.ensures
      | in_default w ↦
          piece_skipped pieces c.loop-i.i c.get.result.now inside c.get.ensures c.loop-i.runs _ c.loop-i.run c.loop-i.invariant _ _ w.runs-is w.run-is (sym c.run_at.ensures ∙ w.in_default.is)
    ]

pub returns : goal.returns
returns c =
    all_taken c.args.pieces.now c.loop-i.i c.loop-i.runs _ c.loop-i.run c.requires.rising (omega (arith, c.loop-i-test.false, c.len-i-end.ensures)) c.loop-i.invariant c.in_ok-push.ensures.ok
