use Rattle.std.proofs.Common.{◌≡◌, ◌+◌, ◌++◌, length, refl, arith}
use Rattle.std.proofs.lemmas.Grind.{common_steps}
use Rattle.ffi3_machine.proofs.Recording.{entry_events-added}
use Rattle.ffi3_machine.proofs.journal.Journal.add.Goals as goal

pub returns : goal.returns
returns c =
    let bytes : c.extend_from_slice.new.self.items ≡ c.self.inside.bytes.items ++ c.args.stack.now = grind (arith, common_steps) in
    let from : c.len-from.result ≡ length c.self.inside.bytes.items = grind (arith, common_steps) in
    let to : c.len.result ≡ length c.self.inside.bytes.items + length c.args.stack.now = grind (arith, common_steps) in
    let events = entry_events-added c.self.inside.bytes.items c.args.stack.now c.self.inside.entries.items c.args.event c.len-from.result c.len.result from to c.self.invariant.0 in
    rw (c.push_reserved.ensures.items, bytes, events, ← c.self.view_is) refl
