use Rattle.std.proofs.Common.{◌≡◌, ◌<◌, ◌≤◌, ◌+◌, ◌++◌, length, take, refl, arith, length-take}
use Rattle.std.proofs.lemmas.Grind.{common_steps}
use Rattle.ffi3_io.proofs.source.read_on.Goals as goal

pub returns-clause-within : goal.returns-clause-within
returns-clause-within g c =
    let fits : length c.args.bytes.now.items + c.min-most.result ≤ c.args.limit = omega (arith, c.requires.wanted, c.min-most.ensures) in
    let room = length-take c.min-most.result c.args.buf.now in
    omega (arith, fits, room, c.in-Ok.ensures.within)

pub returns-then-is_err-clause-until : goal.returns-then-is_err-clause-until
returns-then-is_err-clause-until g c =
    let n = c.in-Ok.n in
    let before = c.args.bytes.now.items in
    let room = length (take c.min-most.result c.args.buf.now) in
    let piece = take n c.read.new.buf in
    let some : 0 < n = grind arith in
    let some_room : 0 < room = grind (arith, common_steps) in
    let within : length before + room ≤ c.args.limit = grind (arith, common_steps) in
    let count : length piece ≡ n = grind (arith, common_steps) in
    λ e. (n, some, before ++ piece, record { room = room; piece = piece; some_room = some_room; within = within; count = count; added = refl; gave = c.in-Ok.ensures.gave })
