use Rattle.std.proofs.Common.{◌≡◌, ℕ, ◌+◌, ◌-◌, List, ◌++◌, take, drop, length, ap, subst, sym, ◌∙◌, append_assoc, arith, rules}
use Rattle.std.proofs.lemmas.List.{drop-drop}
use Rattle.std.specs.List.{replace_range}
use borrow.Rule.Slice.PartMut.{put_mid}
use Rattle.ffi3_marshal.specs.Read.{IsPieceRead}
use Rattle.ffi3_marshal.proofs.Read.{piece_read}
use Rattle.ffi3_marshal.proofs.reading.read_piece.Goals as goal

-- a part that is written is a range that is replaced
put_is : (i n k : ℕ) (xs ys zs : List ℕ) → k ≡ n → ys ≡ zs → put_mid i k xs ys ≡ replace_range xs i (i + n) zs
put_is i n k xs ys zs few same =
    (λ j. take i xs ++ (same j ++ drop (few j) (drop i xs))) ∙ ap (λ rest. take i xs ++ (zs ++ rest)) (drop-drop n i xs) ∙ sym (append_assoc (take i xs) zs (drop (i + n) xs))

pub returns : goal.returns
returns g c =
    let m = g.R.ReadImage.image c.args.state.now in
    let p = c.args.piece.now in
    let few : c.args.piece.now.off + c.args.piece.now.len - c.args.piece.now.off ≡ c.args.piece.now.len = omega arith in
    let eight : length c.place_bytes-bytes.result ≡ 8 = search rules in
    subst (IsPieceRead c.args.base m p c.args.out.now) (sym (put_is p.off p.len _ c.args.out.now c.copy_from_slice.new.self (take p.len c.place_bytes-bytes.result) few c.copy_from_slice.ensures.after))
    (piece_read c.args.base m p c.place_bytes-bytes.result c.args.out.now c.place_bytes-bytes.ensures eight c.requires.within)
