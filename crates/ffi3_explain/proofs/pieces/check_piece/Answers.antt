use Rattle.std.proofs.Common.{length, ap, ◌∙◌}
use Rattle.ffi3_types.specs.TreeOf.{tree_of}
use Rattle.ffi3_values.specs.ValueOf.{value_of}
use Rattle.ffi3_place_spec.specs.Sound.{IsPieceOf}
use Rattle.ffi3_explain_spec.specs.Explain.{check_of_piece}
use Rattle.ffi3_explain.specs.ImageOf.{image_of}
use Rattle.ffi3_explain.specs.Places.{CanBeRead}
use Rattle.ffi3_explain.proofs.Loops.{each_from, same_item}
use Rattle.ffi3_explain.proofs.Marks.{check_is, marked_word, part_within}
use Rattle.ffi3_explain.proofs.pieces.check_piece.Goals as goal

pub place_bytes-bytes-requires : goal.place_bytes-bytes-requires
place_bytes-bytes-requires c =
    (each_from (CanBeRead (image_of c.args.image.now) c.args.base) c.args.pieces.now c.args.j c.get-piece.result.now c.requires.below c.get-piece.ensures c.requires.there).0

pub wanted_word-word-requires : goal.wanted_word-word-requires
wanted_word-word-requires c =
    let of = each_from (IsPieceOf (tree_of c.args.ty.now)) c.args.pieces.now c.args.j c.get-piece.result.now c.requires.below c.get-piece.ensures c.requires.suits in
    record {
      eight = ap length c.place_bytes-bytes.ensures;
      low = part_within (tree_of c.args.ty.now) (length c.args.low.now) c.get-piece.result.now c.requires.marks.low_sized of;
      high = part_within (tree_of c.args.ty.now) (length c.args.high.now) c.get-piece.result.now c.requires.marks.high_sized of;
    }

pub place_word-requires : goal.place_word-requires
place_word-requires c =
    (each_from (CanBeRead (image_of c.args.image.now) c.args.base) c.args.pieces.now c.args.j c.get-piece.result.now c.requires.below c.get-piece.ensures c.requires.there).0

pub extended-requires-clause-suits : goal.extended-requires-clause-suits
extended-requires-clause-suits c =
    each_from (IsPieceOf (tree_of c.args.ty.now)) c.args.pieces.now c.args.j c.get-piece.result.now c.requires.below c.get-piece.ensures c.requires.suits

pub returns : goal.returns
returns c = λ p at. let m = image_of c.args.image.now in
    let t = tree_of c.args.ty.now in
    let pieces = c.args.pieces.now in
    let here = c.get-piece.result.now in
    let of = each_from (IsPieceOf (tree_of c.args.ty.now)) c.args.pieces.now c.args.j c.get-piece.result.now c.requires.below c.get-piece.ensures c.requires.suits in
    let word = c.wanted_word-word.ensures ∙ marked_word (image_of c.args.image.now) c.args.base (tree_of c.args.ty.now) c.args.pieces.now c.args.low.now c.args.high.now c.requires.marks c.get-piece.result.now of c.place_bytes-bytes.result c.place_bytes-bytes.ensures in
    let same = same_item c.args.pieces.now c.args.j c.get-piece.result.now p c.requires.below c.get-piece.ensures at in
    check_is m c.args.base c.args.i t pieces here (value_of c.args.value.now) c.place_word.result c.extended.result c.wanted_word-word.result c.place_word.ensures word c.requires.value c.extended.ensures ∙ ap (check_of_piece m c.args.base c.args.i t pieces) same
