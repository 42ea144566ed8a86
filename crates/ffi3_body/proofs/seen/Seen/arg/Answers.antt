use Rattle.std.proofs.Common.{ap, sym, ◌∙◌}
use Rattle.ffi3_type_spec.specs.Layout.{size_of}
use Rattle.ffi3_body.proofs.Blocks.{argument_here}
use Rattle.ffi3_body.proofs.seen.Seen.arg.Goals as goal

pub value_from_bytes-requires-clause-sized : goal.value_from_bytes-requires-clause-sized
value_from_bytes-requires-clause-sized c =
    c.arg_bytes.ensures.count ∙ ap size_of (sym c.arg_type.ensures.is)

pub returns-clause-is : goal.returns-clause-is
returns-clause-is c =
    let here = argument_here c.args.self.now.signature.arguments c.args.self.now.block c.args.i c.requires in
    rw here (rw (c.arg_type.ensures.is, c.arg_bytes.ensures.are) at c.value_from_bytes.ensures.value)
