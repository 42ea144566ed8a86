use Rattle.std.proofs.Common.{◌≡◌, ◌+◌, ◌-◌, take, drop, subst, arith}
use Rattle.ffi3_marshal.specs.Stored.{IsPut}
use Rattle.ffi3_marshal.proofs.Puts.{piece_set}
use Rattle.ffi3_marshal.proofs.putting.set_piece.Goals as goal

pub returns-clause-set : goal.returns-clause-set
returns-clause-set g c =
    let old = g.W.ReadImage.image c.args.state.now in
    let new = g.W.ReadImage.image c.put.new.state in
    let many : c.args.piece.off + c.args.piece.len - c.args.piece.off ≡ c.args.piece.len = omega arith in
    piece_set c.args.base c.args.piece c.args.bytes.now old new c.requires.fits (subst (λ n. IsPut c.args.base c.args.piece.loc (take n (drop c.args.piece.off c.args.bytes.now)) old new) many c.put.ensures.put)
