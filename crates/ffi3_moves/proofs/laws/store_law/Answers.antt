use Rattle.std.proofs.Common.{◌<◌, ◌^◌, arith}
use Rattle.ffi3_place_spec.specs.Standard.{plan_of}
use Rattle.ffi3_moves.proofs.Whole.{passed, passed_with}
use Rattle.ffi3_moves.proofs.laws.store_law.Goals as goal

pub returns-clause-passed : goal.returns-clause-passed
returns-clause-passed g c =
    let std = g.A.Abi.standard in
    let s = c.args.cif.now in
    let few : (plan_of g.A.Abi.standard c.args.cif.now).vectors < 2 ^ 64 = omega (arith, c.vectors-vectors.ensures) in
    passed std s (g.met.A.Abi.sound s) c.sig-sig.ensures.can_be g.met.A.Abi.agrees c.args._values.now (λ k. omega (arith, c.type_inv._values k)) c.requires.values c.args._sp c.args._link.now c.requires.link c.args._exchange.now (λ k. omega (arith, c.type_inv._exchange k)) c.requires.room c.requires.high few

pub returns-clause-own_buffer : goal.returns-clause-own_buffer
returns-clause-own_buffer g c =
    let std = g.A.Abi.standard in
    let s = c.args.cif.now in
    let few : (plan_of g.A.Abi.standard c.args.cif.now).vectors < 2 ^ 64 = omega (arith, c.vectors-vectors.ensures) in
    passed_with std s (g.met.A.Abi.sound s) c.sig-sig.ensures.can_be g.met.A.Abi.agrees c.args._values.now (λ k. omega (arith, c.type_inv._values k)) c.requires.values c.args._sp c.args._link.now c.requires.link c.args._exchange.now (λ k. omega (arith, c.type_inv._exchange k)) c.requires.room c.requires.high few c.args._buffer (omega arith)
