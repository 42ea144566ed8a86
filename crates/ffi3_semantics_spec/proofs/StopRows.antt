-- A run whose closure frees itself and gives its slot to another function, and ends at a call by another signature; and calls that need the whole stack, or one byte more.
use Rattle.std.proofs.Common.{◌≡◌, ℕ, ◌+◌, [], ◌∷◌, refl}
use Rattle.std.specs.Prelude.{None, codes, ◌++◌, pos}
use Rattle.std.specs.Fmt.{digits}
use Rattle.ffi3_type_spec.specs.declared.limits.TheConstants.{STACK_BYTES}
use Rattle.ffi3_type_spec.specs.Tree.{scalar, s32, s64}
use Rattle.ffi3_type_spec.specs.Integer.{bytes_of_number}
use Rattle.ffi3_type_spec.specs.Signature.{Signature}
use Rattle.ffi3_type_spec.specs.Value.{void_value, leaf_value}
use Rattle.ffi3_semantics_spec.specs.Move.{call, make, free, print, return, Behaviour}
use Rattle.ffi3_semantics_spec.specs.declared.Stop.TheVariants.{WrongSig}
use Rattle.ffi3_semantics_spec.specs.Closures.{no_closures}
use Rattle.ffi3_semantics_spec.specs.Meaning.{Program, stopped, main_call, most_moves, act, act_within}
use Rattle.ffi3_semantics_spec.specs.MoreStack.{with_left}
use Rattle.ffi3_semantics_spec.specs.Trace.{trace_of}
use Rattle.ffi3_semantics_spec.specs.Journal.{events_in}
use Rattle.ffi3_semantics_spec.specs.Lines.{untraced, text_of_run}

-- a run with a wrong signature, after a closure freed itself
abbrev sig_s32 : Signature
sig_s32 = record { result_type = scalar s32; arguments = []; fixed = None }

abbrev sig_s64 : Signature
sig_s64 = record { result_type = scalar s64; arguments = []; fixed = None }

abbrev seven : Behaviour
seven args user [] = free 65536
seven args user (_ ∷ []) = make 1 0
seven args user (_ ∷ _ ∷ _) = return (leaf_value (bytes_of_number s32 (pos 7)))

abbrev main_of : Behaviour
main_of args user [] = make 0 0
main_of args user (_ ∷ []) = call 65536 0 []
main_of args user (_ ∷ a ∷ []) = print (scalar s32) a
main_of args user (_ ∷ a ∷ _ ∷ []) = call 65536 0 []
main_of args user (_ ∷ a ∷ _ ∷ b ∷ []) = print (scalar s32) b
main_of args user (_ ∷ a ∷ _ ∷ b ∷ _ ∷ []) = call 65536 1 []
main_of args user _ = return void_value

abbrev program : ℕ → Program
program n = record {
  signatures = sig_s32 ∷ sig_s64 ∷ [];
  functions = record { behaviour = seven; signature = 0 } ∷ record { behaviour = λ args user results. return (leaf_value (bytes_of_number s32 (pos 9))); signature = 0 } ∷ [];
  main = main_of;
  need = λ s. n;
}

pub stops_wrong : text_of_run untraced (program 64) ≡ codes "7" ++ 10 ∷ (codes "9" ++ 10 ∷ (codes "stop: wrong signature at 0x10000: called as sint64(), is sint32()" ++ 10 ∷ []))
unfolding act act_within digits
stops_wrong = refl

pub enters_full : events_in (trace_of (program STACK_BYTES)) ≡ 4
unfolding act act_within
enters_full = refl

pub stops_full : text_of_run untraced (program (STACK_BYTES + 1)) ≡ codes "stop: stack full: need 1048577, left 1048576" ++ 10 ∷ []
unfolding act act_within digits
stops_full = refl

-- the same calls with one byte more
pub enters_with_more : (act (program (STACK_BYTES + 1)) (with_left main_call (STACK_BYTES + 1)) no_closures most_moves).end ≡ stopped (WrongSig 65536 1 0)
unfolding act act_within
enters_with_more = refl
