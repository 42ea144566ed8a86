use Rattle.ffi3_closures.proofs.Bytes.{put_together}
use Rattle.ffi3_closures.proofs.live_slot.Goals as goal

pub returns : goal.returns
returns c =
    rw (c.put_word-3.ensures, c.put_word-2.ensures, c.put_word.ensures, c.from.ensures, c.from-2.ensures, c.copy_from_slice.ensures.after, c.slot_head.ensures) (put_together c.args.isa c.args.closure)
