use Rattle.std.proofs.Common.{rules, ◌+◌, ◌<◌, ◌∙◌, ap}
use Rattle.std.specs.Prelude.{slice_range}
use Rattle.ffi3_types.specs.TreeOf.{tree_of}
use Rattle.ffi3_cdecl_spec.specs.Prototype.{behind_commas}
use Rattle.ffi3_cdecl.specs.Going.{going}
use Rattle.ffi3_cdecl.proofs.Writing.{next_behind}
use Rattle.ffi3_cdecl.proofs.text.Writer.put_more.Goals as goal

pub loop-i-preserved : goal.loop-i-preserved
loop-i-preserved c =
    let ts = c.args.args.now in
    let i = c.loop-i.i in
    let end = c.args.end in
    let below : i < end = search rules in
    λ rest. c.in_ok-put_parameter.ensures (behind_commas (slice_range ts (i + 1) end) rest) ∙ ap (going c.loop-i.self) (next_behind ts i end (tree_of c.get.result.now) below c.requires.within c.get.ensures.element rest) ∙ c.loop-i.invariant rest
