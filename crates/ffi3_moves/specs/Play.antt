-- What moves do: bytes go from one memory to another, between the values of a call and an exchange, which has a place for each register and the frame's bytes behind them.
use Rattle.std.specs.Prelude.{ℕ, ◌+◌, ◌-◌, ◌*◌, ◌/◌, ◌&&◌, cond, nat_le, List, [], ◌∷◌, ◌++◌, take, drop, length, replicate, get_or}
use Rattle.std.specs.Int.{w64, to_le_bytes, from_le_bytes}
use Rattle.ffi3_type_spec.specs.Value.{part}
use Rattle.ffi3_moves.specs.declared.Kind.{Kind}
use Rattle.ffi3_moves.specs.declared.Kind.TheVariants.{Bytes, Zero, Sign, Ones, Number, Address, Behind}
use Rattle.ffi3_moves.specs.declared.Move.{Move}

-- where in an exchange the frame's bytes begin: behind those of the registers, and those in which stubs keep addresses, which end at 552, or the upper halves of AArch64's v0 to v7 stand; at a multiple of 64, so that the frame is aligned as the exchange is, up to that
abbrev pub frame_at : ℕ
frame_at = 576

-- where the words begin in which stubs keep addresses, or the upper halves of AArch64's v0 to v7 stand
abbrev pub addresses_at : ℕ
addresses_at = 512

-- the number that eight bytes make, from an offset on
abbrev pub word_from : List ℕ → ℕ → ℕ
word_from bytes at = from_le_bytes w64 (part bytes at 8)

-- the bytes, and above them one byte as often as makes eight
abbrev pub to_eight : ℕ → List ℕ → List ℕ
to_eight above bytes = bytes ++ replicate (8 - length bytes) above

-- the byte above a number that is extended by its sign: eight times its highest bit
abbrev pub sign_of : List ℕ → ℕ
sign_of bytes = get_or bytes (length bytes - 1) 0 / 128 * 255

-- n bytes from an address on, where they lie in the frame, which stands at an address of its own; else none: a copy that stands elsewhere is in no exchange, and whoever plays moves reads it from memory, of which nothing is said here
abbrev pub bytes_behind : ℕ → List ℕ → ℕ → ℕ → List ℕ
bytes_behind frame source address n =
    cond (nat_le frame address && nat_le (frame_at + (address - frame) + n) (length source)) (part source (frame_at + (address - frame)) n) []

-- the bytes that a move writes, where the frame stands at an address: n bytes of the source from an offset on, or these to eight, or a number, or the address of a place in the frame, or n bytes from the address on that stands in the source
abbrev pub moved : Kind → ℕ → List ℕ → ℕ → ℕ → List ℕ
moved Bytes frame source from n = part source from n
moved Zero frame source from n = to_eight 0 (part source from n)
moved Sign frame source from n = to_eight (sign_of (part source from n)) (part source from n)
moved Ones frame source from n = to_eight 255 (part source from n)
moved Number frame source from n = to_le_bytes w64 from
moved Address frame source from n = to_le_bytes w64 (frame + from)
moved Behind frame source from n = bytes_behind frame source (word_from source from) n

-- bytes are written over others from an offset on
abbrev pub written_over : ℕ → List ℕ → List ℕ → List ℕ
written_over at bytes old = take at old ++ (bytes ++ drop (length bytes) (drop at old))

-- A MOVE IS PLAYED
abbrev pub play_one : ℕ → Move → List ℕ → List ℕ → List ℕ
play_one frame m source target = written_over m.to (moved m.kind frame source m.from m.length) target

-- MOVES ARE PLAYED, one after another, from the source to the target
abbrev pub play : ℕ → List Move → List ℕ → List ℕ → List ℕ
play frame [] source target = target
play frame (m ∷ ms) source target = play frame ms source (play_one frame m source target)
