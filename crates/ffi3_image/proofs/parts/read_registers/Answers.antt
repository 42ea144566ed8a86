use Rattle.std.proofs.Common.{◌≡◌, length, ap, arith}
use Rattle.ffi3_image.proofs.Words.{words_length}
use Rattle.ffi3_image.proofs.parts.read_registers.Goals as goal

pub copy_from_slice-requires : goal.copy_from_slice-requires
copy_from_slice-requires c =
    let counted = words_length c.in-Some.items c.args.at.now 0 c.in-Ok.words.items c.in-Ok.ensures.ok in
    let same : length c.as_slice.result.now ≡ length c.in-Ok.words.items = ap length c.as_slice.ensures.value in
    omega (arith, counted, same, c.len.ensures.count, c.if-len-ne32.false)
