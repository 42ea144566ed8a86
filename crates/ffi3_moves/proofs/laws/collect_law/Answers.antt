use Rattle.std.proofs.Common.{arith}
use Rattle.ffi3_moves.proofs.Returning.{collected}
use Rattle.ffi3_moves.proofs.laws.collect_law.Goals as goal

pub returns : goal.returns
returns g c vs own =
    let std = g.A.Abi.standard in
    let s = c.args.cif.now in
    collected std s (g.met.A.Abi.sound s) c.sig-sig.ensures.can_be g.met.A.Abi.agrees c.args._sp c.args._link.now c.requires.link c.args._exchange.now (λ k. omega (arith, c.type_inv._exchange k)) c.requires.room vs c.args._values.now c.requires.values own
