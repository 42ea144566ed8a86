-- A function that calls another one, computed: from main, from the inside, and served.
use Rattle.std.proofs.Common.{◌≡◌, ℕ, ◌-◌, [], ◌∷◌, refl}
use Rattle.std.specs.Prelude.{None, Some, pos}
use Rattle.ffi3_type_spec.specs.declared.limits.TheConstants.{STACK_BYTES}
use Rattle.ffi3_type_spec.specs.Tree.{scalar, s64}
use Rattle.ffi3_type_spec.specs.Signature.{Signature}
use Rattle.ffi3_type_spec.specs.Integer.{bytes_of_number}
use Rattle.ffi3_type_spec.specs.Value.{ValueTree, void_value, leaf_value}
use Rattle.ffi3_semantics_spec.specs.Closures.{Closures, no_closures, with_closure}
use Rattle.ffi3_semantics_spec.specs.Move.{call, make, print, return, Behaviour}
use Rattle.ffi3_semantics_spec.specs.Meaning.{Program, Activation, main, function, act, act_within, pointer_value}
use Rattle.ffi3_semantics_spec.specs.Trace.{Enter, Line, Leave, trace_of}
use Rattle.ffi3_small_step_spec.specs.Remainder.{as_main, served, rest, alone}
use Rattle.ffi3_small_step_spec.specs.Depth.{deepest}
use Rattle.ffi3_small_step_spec.specs.Nested.{depth_at}

abbrev n64 : ℕ → ValueTree
n64 n = leaf_value (bytes_of_number s64 (pos n))

abbrev one : Signature
one = record { result_type = scalar s64; arguments = scalar s64 ∷ []; fixed = None }

-- gives back its argument
abbrev same_of : Behaviour
same_of (x ∷ []) user results = return x
same_of _ user results = return void_value

-- calls the closure of the first slot
abbrev through_of : Behaviour
through_of args user [] = call 65536 0 args
through_of args user (r ∷ _) = return r

abbrev main_of : Behaviour
main_of args user [] = make 0 0
main_of args user (_ ∷ []) = make 1 0
main_of args user (_ ∷ _ ∷ []) = call 65600 0 (n64 7 ∷ [])
main_of args user (_ ∷ _ ∷ r ∷ []) = print (scalar s64) r
main_of args user _ = return void_value

abbrev program : Program
program = record {
  signatures = one ∷ [];
  functions = record { behaviour = same_of; signature = 0 } ∷ record { behaviour = through_of; signature = 0 } ∷ [];
  main = main_of;
  need = λ s. 80;
}

abbrev two_closures : Closures
two_closures = with_closure (with_closure no_closures 0 (Some (record { func = 0; sig = 0; user = 0 }))) 1 (Some (record { func = 1; sig = 0; user = 0 }))

abbrev in_same : Activation
in_same = record { who = function 0; arguments = n64 7 ∷ []; user = 0; left = STACK_BYTES - 160; results = [] }

abbrev in_through : Activation
in_through = record { who = function 1; arguments = n64 7 ∷ []; user = 0; left = STACK_BYTES - 80; results = [] }

abbrev in_main : Activation
in_main = record { who = main; arguments = []; user = 0; left = STACK_BYTES; results = pointer_value 65536 ∷ pointer_value 65600 ∷ [] }

pub from_main : trace_of program ≡ Enter 65600 0 (n64 7 ∷ []) ∷ Enter 65536 0 (n64 7 ∷ []) ∷ Leave 0 (n64 7) ∷ Leave 0 (n64 7) ∷ Line (scalar s64) (n64 7) ∷ []
unfolding act act_within
from_main = refl

pub from_inside : (rest program as_main (record { innermost = in_same; suspended = record { activation = in_through; signature = 0 } ∷ record { activation = in_main; signature = 0 } ∷ [] }) two_closures 10).trace ≡ Leave 0 (n64 7) ∷ Leave 0 (n64 7) ∷ Line (scalar s64) (n64 7) ∷ []
unfolding act act_within
from_inside = refl

pub from_serving : (rest program (served 0) (alone in_through) two_closures 10).trace ≡ Enter 65536 0 (n64 7 ∷ []) ∷ Leave 0 (n64 7) ∷ Leave 0 (n64 7) ∷ []
unfolding act act_within
from_serving = refl

pub peak : deepest program 0 (trace_of program) ≡ 160
unfolding act act_within
peak = refl

pub ends_level : depth_at program 0 (trace_of program) ≡ 0
unfolding act act_within
ends_level = refl
