use Rattle.std.proofs.Common.{◌≡◌, ◌-◌, ◌<◌, ◌^◌, length, ap, arith}
use Rattle.ffi3_body.specs.MoveOf.{move_of}
use Rattle.ffi3_script.specs.ScriptOf.{script_of}
use Rattle.ffi3_next_move.proofs.Asked.{mapped_below, handed_inside, handed_room, handed_asked}
use Rattle.ffi3_next_move.proofs.asking.ask_native.Goals as goal

pub native_at-native-requires : goal.native_at-native-requires
native_at-native-requires g c =
    omega (arith, mapped_below _ c.args.natives.now.items _ _ c.requires.stands.is.is, c.functions.ensures.are)

pub next_of-requires : goal.next_of-requires
next_of-requires g c =
    let j : c.args.number - c.functions.result ≡ c.args.number - length (script_of c.args.script.now).functions = omega (arith, c.functions.ensures.are) in
    let inside = handed_inside _ c.args.script.now c.args.number c.args.first c.args.seen.now c.requires.stands _ _ j c.native_at-native.ensures in
    record { own = inside.own; follow = inside.follow }

pub renumbered-requires : goal.renumbered-requires
renumbered-requires g c =
    let j : c.args.number - c.functions.result ≡ c.args.number - length (script_of c.args.script.now).functions = omega (arith, c.functions.ensures.are) in
    let few_own : length (script_of c.args.script.now).signatures < 2 ^ 31 = omega (arith, c.sigs.ensures.bound, ap length c.sigs.ensures.are) in
    handed_room _ c.args.script.now c.args.number c.args.first c.args.seen.now c.requires.stands _ _ j c.native_at-native.ensures (move_of c.in_ok-asked.asked) c.in_ok-asked.ensures.fits few_own c.requires.few_signatures (omega arith)

pub returns : goal.returns
returns g c std =
    let j : c.args.number - c.functions.result ≡ c.args.number - length (script_of c.args.script.now).functions = omega (arith, c.functions.ensures.are) in
    handed_asked _ c.args.script.now c.args.number c.args.first c.args.seen.now c.requires.stands _ _ j c.native_at-native.ensures std (move_of c.in_ok-asked.asked) (move_of c.renumbered.result) c.in_ok-asked.ensures.is c.in_ok-asked.ensures.fits c.renumbered.ensures
