use Rattle.std.proofs.Common.{◌≡◌, ◌+◌, ◌-◌, length, sym, subst, arith}
use Rattle.ffi3_place_spec.specs.Sound.{IsPieceOf}
use Rattle.ffi3_marshal.specs.Stored.{IsPlaceIn, TakesAt}
use Rattle.ffi3_marshal.proofs.Stepping.{AreStored, each_loc, each_read, piece_step, none_stored, all_stored}
use Rattle.ffi3_marshal.proofs.Taking.{still_takes_at}
use Rattle.ffi3_marshal.proofs.storing.store_pieces.Goals as goal

pub loop-j-init : goal.loop-j-init
loop-j-init g c = (
  none_stored c.args.base c.args.ty.now c.args.bytes.now c.args.pieces.now c.len-j.result (g.W.ReadImage.image c.args.state.now) (omega arith),
  λ room lie. g.met.W.WriteImage.wrote_nothing c.args.base (c.args.base + room) c.args.state.now,
)

pub fill_piece-requires-clause-lies : goal.fill_piece-requires-clause-lies
fill_piece-requires-clause-lies g c =
    let old = g.W.ReadImage.image c.args.state.now in
    subst (λ n. IsPlaceIn g.W.ReadImage.floatings (n - c.args.base) c.get.result.now.loc) (sym c.loop-j.invariant.0.stays.size)
    (each_read (λ q. IsPlaceIn g.W.ReadImage.floatings (length old.stack - c.args.base) q.loc) c.args.pieces.now (c.loop-j.j - 1) c.get.result.now (omega arith) c.get.ensures (each_loc (IsPlaceIn g.W.ReadImage.floatings (length old.stack - c.args.base)) c.args.pieces.now c.requires.lie))

pub fill_piece-requires-clause-takes : goal.fill_piece-requires-clause-takes
fill_piece-requires-clause-takes g c =
    let takes = g.W.WriteImage.takes in
    let room = length (g.W.ReadImage.image c.args.state.now).stack - c.args.base in
    let wrote = c.loop-j.invariant.1 room c.requires.lie in
    still_takes_at (takes c.args.state.now) (takes c.loop-j.state) (λ k h. g.met.W.WriteImage.still_takes c.args.base (c.args.base + room) k c.args.state.now c.loop-j.state wrote h) c.get.result.now.loc
    (each_read (λ q. TakesAt (takes c.args.state.now) q.loc) c.args.pieces.now (c.loop-j.j - 1) c.get.result.now (omega arith) c.get.ensures (each_loc (TakesAt (takes c.args.state.now)) c.args.pieces.now c.requires.take))

pub fill_piece-requires-clause-part : goal.fill_piece-requires-clause-part
fill_piece-requires-clause-part g c =
    each_read (IsPieceOf c.args.ty.now) c.args.pieces.now (c.loop-j.j - 1) c.get.result.now (omega arith) c.get.ensures c.requires.parts

pub loop-j-preserved : goal.loop-j-preserved
loop-j-preserved g c =
    let first = g.W.ReadImage.image c.args.state.now in
    let before_image = g.W.ReadImage.image c.loop-j.state in
    let back : c.loop-j.j ≡ c.loop-j.j - 1 + 1 = omega arith in
    let before = subst (λ i. AreStored c.args.base c.args.ty.now c.args.bytes.now c.args.pieces.now i (g.W.ReadImage.image c.args.state.now) (g.W.ReadImage.image c.loop-j.state)) back c.loop-j.invariant.0 in (
      piece_step c.args.base c.args.ty.now c.args.bytes.now c.args.pieces.now (c.loop-j.j - 1) c.get.result.now first before_image (g.W.ReadImage.image c.fill_piece.new.state) (omega arith) c.get.ensures c.requires.parts c.requires.apart c.fill_piece.ensures.stored before,
      λ room lie. g.met.W.WriteImage.wrote_then c.args.base (c.args.base + room) c.args.state.now c.loop-j.state c.fill_piece.new.state (c.loop-j.invariant.1 room lie)
          (c.fill_piece.ensures.within room (each_read (λ q. IsPlaceIn g.W.ReadImage.floatings room q.loc) c.args.pieces.now (c.loop-j.j - 1) c.get.result.now (omega arith) c.get.ensures (each_loc (IsPlaceIn g.W.ReadImage.floatings room) c.args.pieces.now lie))),
    )

pub returns-clause-stand : goal.returns-clause-stand
returns-clause-stand g c =
    (all_stored c.args.base c.args.ty.now c.args.bytes.now c.args.pieces.now c.loop-j.j (g.W.ReadImage.image c.args.state.now) (g.W.ReadImage.image c.loop-j.state) (omega arith) c.loop-j.invariant.0).stand

pub returns-clause-kept : goal.returns-clause-kept
returns-clause-kept g c =
    (all_stored c.args.base c.args.ty.now c.args.bytes.now c.args.pieces.now c.loop-j.j (g.W.ReadImage.image c.args.state.now) (g.W.ReadImage.image c.loop-j.state) (omega arith) c.loop-j.invariant.0).kept

pub returns-clause-stays : goal.returns-clause-stays
returns-clause-stays g c =
    (all_stored c.args.base c.args.ty.now c.args.bytes.now c.args.pieces.now c.loop-j.j (g.W.ReadImage.image c.args.state.now) (g.W.ReadImage.image c.loop-j.state) (omega arith) c.loop-j.invariant.0).stays

pub returns-clause-within : goal.returns-clause-within
returns-clause-within g c = c.loop-j.invariant.1
