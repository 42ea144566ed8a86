use Rattle.std.proofs.Common.{length, drop, ◌++◌, ◌∙◌, ap}
use Rattle.ffi3_marshal.proofs.Puts.{replaced_low}
use Rattle.ffi3_marshal.proofs.putting.with_low.Goals as goal

pub returns : goal.returns
returns c = replaced_low c.args.bytes.now c.args.word c.word_of.result c.copy_from_slice.new.self c.requires c.copy_from_slice.ensures.after (c.word_of.ensures ∙ ap (λ w. c.copy_from_slice.new.self ++ drop (length c.args.bytes.now) w) c.to_le_bytes-all.ensures) c.word_of.type_inv
