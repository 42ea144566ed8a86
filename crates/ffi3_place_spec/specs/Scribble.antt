-- What a register holds that carries nothing at an event. (This library's)
use Rattle.std.specs.Prelude.{ℕ, ◌+◌, ◌*◌, ◌%◌, ◌^◌}
use Rattle.ffi3_place_spec.specs.declared.Loc.{Loc}
use Rattle.ffi3_place_spec.specs.declared.Loc.TheVariants.{G, F, S}

-- at the event of number n, which is in it, so that callee-saved registers differ from call to call
abbrev pub scribble : ℕ → Loc → ℕ
scribble n (G k) = (0xA5A5000000000000 + 64 * n + k) % 2 ^ 64
scribble n (F k) = (0x5A5A000000000000 + 64 * n + k) % 2 ^ 64
scribble n (S k w) = 0
