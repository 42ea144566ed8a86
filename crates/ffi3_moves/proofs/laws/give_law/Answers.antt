use Rattle.std.proofs.Common.{arith}
use Rattle.ffi3_moves.proofs.Returning.{returned}
use Rattle.ffi3_moves.proofs.laws.give_law.Goals as goal

pub returns : goal.returns
returns g c =
    let std = g.A.Abi.standard in
    let s = c.args.cif.now in
    returned std s (g.met.A.Abi.sound s) c.args._sp c.args._exchange.now (λ k. omega (arith, c.type_inv._exchange k)) c.requires.room c.sig-sig.ensures.can_be g.met.A.Abi.agrees c.args._result.now (λ k. omega (arith, c.type_inv._result k)) c.requires.result c.requires.high c.requires.in_buffer
