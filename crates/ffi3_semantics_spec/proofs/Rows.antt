-- The script that makes a closure of an increment, calls it with 41 and prints the result, computed.
use Rattle.std.specs.Prelude.{◌≡◌, ℤ, pos, ◌+ℤ◌, [], ◌∷◌, refl, None, codes, ◌++◌}
use Rattle.std.specs.Int.{w64, from_le_bytes}
use Rattle.ffi3_type_spec.specs.Tree.{scalar, s32}
use Rattle.ffi3_type_spec.specs.Integer.{number_of, bytes_of_number}
use Rattle.ffi3_type_spec.specs.Value.{ValueTree, void_value, leaf_value, bytes_of}
use Rattle.ffi3_semantics_spec.specs.Move.{call, make, print, return, Behaviour}
use Rattle.ffi3_semantics_spec.specs.Meaning.{Program, meaning_of, act, act_within, returned}
use Rattle.ffi3_semantics_spec.specs.Trace.{trace_of}
use Rattle.ffi3_place_spec.specs.Scribble.{scribble}
use Rattle.ffi3_semantics_spec.specs.Lines.{untraced, traced, a_line, text_of_run}
use Rattle.ffi3_semantics_spec.specs.Journal.{events_in, stack_top}
use Rattle.ffi3_type_spec.specs.Layout.{least_multiple}
use Rattle.ffi3_semantics_spec.proofs.RowStandard.{in_registers}
use Rattle.std.specs.Fmt.{digits}

abbrev number_32 : ℤ → ValueTree
number_32 z = leaf_value (bytes_of_number s32 z)

abbrev increment : ℤ → Behaviour
increment z [] user results = return void_value
increment z (v ∷ vs) user results =
    return (number_32 (number_of s32 (bytes_of v) +ℤ z))

abbrev main_of : ℤ → Behaviour
main_of z args user [] = make 0 0
main_of z args user (p ∷ []) = call (from_le_bytes w64 (bytes_of p)) 0 (number_32 z ∷ [])
main_of z args user (p ∷ r ∷ []) = print (scalar s32) r
main_of z args user (p ∷ r ∷ v ∷ vs) = return void_value

abbrev program : Program
program = record {
  signatures = record { result_type = scalar s32; arguments = scalar s32 ∷ []; fixed = None } ∷ [];
  functions = record { behaviour = increment (pos 1); signature = 0 } ∷ [];
  main = main_of (pos 41);
  need = λ s. 80;
}

pub ended : (meaning_of program).end ≡ returned void_value
unfolding act act_within
ended = refl

pub text_is : text_of_run untraced program ≡ codes "42" ++ 10 ∷ []
unfolding act act_within digits
text_is = refl

pub two_events : events_in (trace_of program) ≡ 2
unfolding act act_within
two_events = refl

pub moves_left : (meaning_of program).moves ≡ 9995
unfolding act act_within
moves_left = refl

pub trace_is : text_of_run (traced in_registers stack_top scribble) program ≡ a_line (codes "enter 0x10000 sp 0x7ffefff8 (41)") ++ a_line (codes "keep a5a5000000000003 a5a5000000000005 a5a500000000000c a5a500000000000d a5a500000000000e a5a500000000000f") ++ a_line (codes "leave sp 0x7fff0000 42") ++ a_line (codes "keep a5a5000000000003 a5a5000000000005 a5a500000000000c a5a500000000000d a5a500000000000e a5a500000000000f") ++ a_line (codes "42")
unfolding act act_within digits least_multiple
trace_is = refl
