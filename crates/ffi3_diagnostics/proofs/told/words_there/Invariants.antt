use Rattle.std.proofs.Common.{◌≡◌, drop}
use Rattle.ffi3_cdecl_spec.specs.Telling.{one_lives, specifier_words, reach, nothing_reached}
use Rattle.ffi3_cdecl.specs.TokenOf.{sign_of}
use Rattle.ffi3_diagnostics.proofs.told.words_there.Given as goal

abbrev pub invariant-loop-i : goal.invariant-loop-i
invariant-loop-i l =
    one_lives (reach (sign_of l.c) l.stop 0 nothing_reached l.bytes).state (drop l.i specifier_words) ≡ one_lives (reach (sign_of l.c) l.stop 0 nothing_reached l.bytes).state specifier_words
