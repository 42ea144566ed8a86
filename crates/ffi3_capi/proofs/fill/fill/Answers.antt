use Rattle.std.proofs.Common.{◌<◌, length, arith}
use Rattle.ffi3_capi.proofs.Filling.{set_front}
use Rattle.ffi3_capi.proofs.fill.fill.Goals as goal

pub loop-i-preserved : goal.loop-i-preserved
loop-i-preserved g c =
    let below : c.loop-i.i < length c.args.items.now = omega (arith, c.loop-i-test.true, c.len-i-end.ensures) in
    let within : c.loop-i.i < length c.args.array.now = omega (arith, below, c.if-array-len.false, c.len.ensures) in
    set_front c.args.items.now c.args.array.now c.loop-i.array c.loop-i.i c.get.result.now below within c.loop-i.invariant c.get.ensures
