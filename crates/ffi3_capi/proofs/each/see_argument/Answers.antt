use Rattle.std.proofs.Common.{sym, ◌∙◌}
use Rattle.ffi3_transfer.specs.Stored.{image_in}
use Rattle.ffi3_transfer.proofs.Turns.{same_outside}
use Rattle.ffi3_capi.proofs.OneByOne.{seen_inside, seen_outside}
use Rattle.ffi3_capi.proofs.each.see_argument.Goals as goal

pub returns-in_ok-push_zeros-in-Some : goal.returns-in_ok-push_zeros-in-Some
returns-in_ok-push_zeros-in-Some c =
    seen_outside (image_in c.args.registers.now c.args.stack.now) c.args.base c.args.i c.args.ty.now c.args.place.now c.args.bytes.now c.push_zeros.new.bytes c.each_argument.result c.size-size.result c.len-at.result c.size-size.ensures.value c.len-at.ensures c.in-Some.outside c.round_up.result (sym c.outside_of.ensures ∙ c.in-Some.is) c.round_up.ensures.value c.each_argument.ensures c.in_ok-push_zeros-in-Some.ensures

pub push_argument-requires-clause-inside : goal.push_argument-requires-clause-inside
push_argument-requires-clause-inside c =
    same_outside (image_in c.args.registers.now c.args.stack.now) c.args.base c.args.i 0 c.args.ty.now c.args.place.now (sym c.outside_of.ensures ∙ c.in-None.is)

pub returns-in_ok-push_argument-in-None : goal.returns-in_ok-push_argument-in-None
returns-in_ok-push_argument-in-None c =
    seen_inside (image_in c.args.registers.now c.args.stack.now) c.args.base c.args.i c.args.ty.now c.args.place.now c.args.bytes.now c.push_argument.new.bytes c.each_argument-in-None.result c.size-size.result c.len-at.result c.size-size.ensures.value c.len-at.ensures (sym c.outside_of.ensures ∙ c.in-None.is) c.each_argument-in-None.ensures c.in_ok-push_argument-in-None.ensures
