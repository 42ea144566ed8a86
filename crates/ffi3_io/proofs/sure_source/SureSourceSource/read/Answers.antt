use Rattle.std.proofs.Common.{◌≡◌, ◌≤◌, ◌++◌, take, drop, length, arith}
use Rattle.std.proofs.lemmas.Grind.{common_steps}
use Rattle.ffi3_io.proofs.Giving.{Gives-front}
use Rattle.ffi3_io.proofs.sure_source.SureSourceSource.read.Goals as goal

pub returns-clause-gives : goal.returns-clause-gives
returns-clause-gives c =
    let n = c.copy_start-n.result in
    let left = c.args.self.now.left in
    let fits : n ≤ length left = grind (arith, common_steps) in
    let copied : c.copy_start-n.new.to ≡ take n left ++ drop n c.args.buf.now = grind (arith, common_steps) in
    Gives-front n left _ _ c.args.buf.now fits (grind (arith, common_steps)) copied
