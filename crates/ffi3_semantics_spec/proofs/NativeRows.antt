-- Natives that call back: one that calls twice a closure, whose function calls on through another native.
use Rattle.std.proofs.Common.{◌≡◌, ℕ, [], ◌∷◌, refl}
use Rattle.std.specs.Prelude.{None, List, ◌++◌, pos, codes, take, length}
use Rattle.std.specs.Fmt.{digits}
use Rattle.std.specs.Int.{w64, from_le_bytes}
use Rattle.ffi3_type_spec.specs.Tree.{scalar, s64, pointer}
use Rattle.ffi3_type_spec.specs.Signature.{Signature}
use Rattle.ffi3_type_spec.specs.Integer.{bytes_of_number, sum_of}
use Rattle.ffi3_type_spec.specs.Value.{ValueTree, void_value, leaf_value, bytes_of}
use Rattle.ffi3_semantics_spec.specs.Move.{call, make, print, return, Behaviour}
use Rattle.ffi3_semantics_spec.specs.Meaning.{Program, with_natives, act, act_within, meaning_of}
use Rattle.ffi3_semantics_spec.specs.Peak.{peak_of}
use Rattle.ffi3_semantics_spec.specs.Trace.{trace_of}
use Rattle.ffi3_semantics_spec.specs.Journal.{events_in, stack_top}
use Rattle.ffi3_type_spec.specs.Layout.{least_multiple}
use Rattle.ffi3_semantics_spec.proofs.RowStandard.{in_registers}
use Rattle.ffi3_place_spec.specs.Scribble.{scribble}
use Rattle.ffi3_semantics_spec.specs.Lines.{untraced, traced, a_line, text_of_run}

-- 20: twice of a closure that calls apply on another
abbrev n64 : ℕ → ValueTree
n64 n = leaf_value (bytes_of_number s64 (pos n))

abbrev ptr : ℕ → ValueTree
ptr n = leaf_value (bytes_of_number pointer (pos n))

abbrev one : Signature
one = record { result_type = scalar s64; arguments = scalar s64 ∷ []; fixed = None }

abbrev two : Signature
two = record { result_type = scalar s64; arguments = scalar pointer ∷ scalar s64 ∷ []; fixed = None }

abbrev at : ValueTree → ℕ
at v = from_le_bytes w64 (bytes_of v)

abbrev apply_of : Behaviour
apply_of (p ∷ x ∷ []) user [] = call (at p) 1 (x ∷ [])
apply_of _ user (r ∷ _) = return r
apply_of _ user _ = return void_value

abbrev twice_of : Behaviour
twice_of (p ∷ x ∷ []) user [] = call (at p) 1 (x ∷ [])
twice_of (p ∷ x ∷ []) user (r ∷ []) = call (at p) 1 (r ∷ [])
twice_of _ user (_ ∷ r ∷ _) = return r
twice_of _ user _ = return void_value

abbrev h_of : Behaviour
h_of (x ∷ []) user results = return (leaf_value (sum_of s64 (bytes_of x) (bytes_of (n64 5))))
h_of _ user results = return void_value

abbrev g_of : Behaviour
g_of (x ∷ []) user [] = call 65600 1 (ptr 65536 ∷ x ∷ [])
g_of _ user (r ∷ _) = return r
g_of _ user _ = return void_value

abbrev main_of : Behaviour
main_of args user [] = make 0 0
main_of args user (_ ∷ []) = make 2 0
main_of args user (_ ∷ _ ∷ []) = make 1 0
main_of args user (_ ∷ _ ∷ _ ∷ []) = make 3 0
main_of args user (_ ∷ _ ∷ _ ∷ _ ∷ []) = call 65728 1 (ptr 65664 ∷ n64 10 ∷ [])
main_of args user (_ ∷ _ ∷ _ ∷ _ ∷ r ∷ []) = print (scalar s64) r
main_of args user _ = return void_value

abbrev pub program : Program
program = with_natives (record {
  signatures = one ∷ two ∷ [];
  functions = record { behaviour = h_of; signature = 0 } ∷ record { behaviour = g_of; signature = 0 } ∷ [];
  main = main_of;
  need = λ s. 80;
}) (record { behaviour = apply_of; signatures = two ∷ one ∷ [] } ∷ record { behaviour = twice_of; signatures = two ∷ one ∷ [] } ∷ [])

pub twenty : text_of_run untraced program ≡ codes "20" ++ 10 ∷ []
unfolding act act_within digits
twenty = refl

pub fourteen : events_in (trace_of program) ≡ 14
unfolding act act_within
fourteen = refl

pub twenty_moves : (meaning_of program).moves ≡ 9980
unfolding act act_within
twenty_moves = refl

pub peak : peak_of program (meaning_of program).call_tree ≡ 320
unfolding act act_within
peak = refl

-- four calls, each inside the one before, and the return of the innermost
abbrev four_calls : List ℕ
four_calls =
    a_line (codes "enter 0x100c0 sp 0x7ffefff8 (0x10080,10)") ++ a_line (codes "keep a5a5000000000003 a5a5000000000005 a5a500000000000c a5a500000000000d a5a500000000000e a5a500000000000f") ++ a_line (codes "enter 0x10080 sp 0x7ffeffa8 (10)") ++ a_line (codes "keep a5a5000000000043 a5a5000000000045 a5a500000000004c a5a500000000004d a5a500000000004e a5a500000000004f") ++ a_line (codes "enter 0x10040 sp 0x7ffeff58 (0x10000,10)") ++ a_line (codes "keep a5a5000000000083 a5a5000000000085 a5a500000000008c a5a500000000008d a5a500000000008e a5a500000000008f") ++ a_line (codes "enter 0x10000 sp 0x7ffeff08 (10)") ++ a_line (codes "keep a5a50000000000c3 a5a50000000000c5 a5a50000000000cc a5a50000000000cd a5a50000000000ce a5a50000000000cf") ++ a_line (codes "leave sp 0x7ffeff10 15") ++ a_line (codes "keep a5a50000000000c3 a5a50000000000c5 a5a50000000000cc a5a50000000000cd a5a50000000000ce a5a50000000000cf")

pub trace_begins : take (length four_calls) (text_of_run (traced in_registers stack_top scribble) program) ≡ four_calls
unfolding act act_within digits least_multiple
trace_begins = refl
