use Rattle.std.proofs.Common.{◌≡◌, ◌+◌, ◌-◌, ◌<◌, length, subst, sym, arith, rules}
use Rattle.ffi3_place_spec.specs.Sound.{IsWithin}
use Rattle.ffi3_transfer.specs.Places.{CanBeRead}
use Rattle.ffi3_explain.proofs.Loops.{ArePiecesRead, each_from, one_more_read, all_read, none_read}
use Rattle.ffi3_transfer.specs.Stored.{image_in}
use Rattle.ffi3_transfer.proofs.Lent.{is_read}
use Rattle.ffi3_transfer.proofs.reading.read_pieces.Goals as goal

pub loop-j-init : goal.loop-j-init
loop-j-init c = none_read (image_in c.args.registers.now c.args.stack.now) c.args.base c.args.pieces.now (length c.args.out.now) c.len-j.result c.fill.new.self (search rules) (search rules)

pub read_piece-requires : goal.read_piece-requires
read_piece-requires c =
    let below : c.loop-j.j - 1 < length c.args.pieces.now = omega (arith, c.loop-j.invariant.few) in
    record {
      there = (each_from (CanBeRead (image_in c.args.registers.now c.args.stack.now) c.args.base) c.args.pieces.now (c.loop-j.j - 1) c.get.result.now below c.get.ensures c.requires.there).0;
      within = subst (λ n. IsWithin n c.get.result.now) (sym c.loop-j.invariant.sized)
          (each_from (IsWithin (length c.args.out.now)) c.args.pieces.now (c.loop-j.j - 1) c.get.result.now below c.get.ensures c.requires.within);
    }

pub loop-j-preserved : goal.loop-j-preserved
loop-j-preserved c =
    let m = image_in c.args.registers.now c.args.stack.now in
    let size = length c.args.out.now in
    let below : c.loop-j.j - 1 < length c.args.pieces.now = omega (arith, c.loop-j.invariant.few) in
    let back : c.loop-j.j ≡ c.loop-j.j - 1 + 1 = omega arith in
    let left = subst (λ n. ArePiecesRead (image_in c.args.registers.now c.args.stack.now) c.args.base c.args.pieces.now (length c.args.out.now) n c.loop-j.out) back c.loop-j.invariant in
    one_more_read m c.args.base c.args.pieces.now size (c.loop-j.j - 1) c.loop-j.out c.read_piece.new.out c.get.result.now below c.get.ensures left (is_read m c.args.base c.get.result.now c.loop-j.out c.read_piece.new.out c.read_piece.ensures)

pub returns : goal.returns
returns c =
    all_read (image_in c.args.registers.now c.args.stack.now) c.args.base c.args.pieces.now (length c.args.out.now) c.loop-j.j c.loop-j.out (omega arith) c.loop-j.invariant
