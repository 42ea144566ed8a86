use Rattle.std.proofs.Common.{◌≢◌, length, sym, arith}
use Rattle.ffi3_types.proofs.LongDoubles.{other_than_one}
use Rattle.ffi3_types.proofs.Fields.is_complex.Goals as goal

pub returns-then-len-ne1 : goal.returns-then-len-ne1
returns-then-len-ne1 c =
    let other : length c.args.self.now ≢ 1 = λ e. omega (arith, c.len.ensures.count, c.if-len-ne1.true, e) in
    sym (other_than_one c.args.self.now c.args.count other)
