use Rattle.std.proofs.Common.{arith}
use Rattle.ffi3_type_spec.proofs.ValueElements.{fitting_lengths, fitting_element}
use Rattle.ffi3_types.specs.TreeOf.{tree_of}
use Rattle.ffi3_values.specs.ValueOf.{value_of}
use Rattle.ffi3_image.proofs.ArgumentLines.{lines_turn, lines_end}
use Rattle.ffi3_image.proofs.lines.arguments_text.Goals as goal

pub get-requires : goal.get-requires
get-requires c =
    omega (arith, c.count-i-end.ensures, fitting_lengths c.args.sig.now.arguments c.args.values.now c.requires)

pub write_argument-requires : goal.write_argument-requires
write_argument-requires c =
    let fit = fitting_element c.args.sig.now.arguments c.args.values.now c.loop-i.i c.requires (omega (arith, c.count-i-end.ensures)) in
    rw (c.arg.ensures, c.get.ensures.element) fit

pub loop-i-preserved : goal.loop-i-preserved
loop-i-preserved c =
    let ts = c.args.sig.now.arguments in
    let vs = c.args.values.now in
    lines_turn ts vs (fitting_lengths ts vs c.requires) c.loop-i.i (tree_of c.arg.result.now) (value_of c.get.result.now) c.loop-i.text c.write_argument.new.text _ (omega (arith, c.count-i-end.ensures)) c.arg.ensures c.get.ensures.element c.loop-i.invariant c.in_ok-write_argument.ensures

pub returns : goal.returns
returns c =
    let ts = c.args.sig.now.arguments in
    let vs = c.args.values.now in
    lines_end ts vs (fitting_lengths ts vs c.requires) c.loop-i.i c.loop-i.text _ (omega (arith, c.count-i-end.ensures)) c.loop-i.invariant
