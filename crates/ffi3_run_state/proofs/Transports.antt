-- The same by a standard, a signature or a machine that is equal.
use Rattle.std.proofs.Common.{◌≡◌, ℕ, List, sym, ap, ◌∙◌, subst}
use Rattle.std.specs.Prelude.{Bool}
use Rattle.ffi3_type_spec.specs.Signature.{Signature, signature_at}
use Rattle.ffi3_type_spec.specs.Value.{ValueTree}
use Rattle.ffi3_place_spec.specs.Event.{Event}
use Rattle.ffi3_place_spec.specs.Standard.{Standard, block_bytes}
use Rattle.ffi3_semantics_spec.specs.Meaning.{Program}
use Rattle.ffi3_machine_spec.specs.State.{State, stack_at}
use Rattle.ffi3_semantics_spec.specs.SeenActivation.{arguments_in}
use Rattle.ffi3_io_spec.specs.Sink.{SinkState}
use Rattle.ffi3_io_spec.specs.declared.IoError.{IoError}
use Rattle.ffi3_run_state.specs.TraceLines.{last_event, entry_lines, return_lines}
use Rattle.ffi3_io_spec.specs.Written.{LineInterrupted}

-- a signature by its number in the program, where the lists are the same
pub numbered : (p : Program) (ss : List Signature) (i : ℕ) (s : Signature) → p.signatures ≡ ss → s ≡ signature_at ss i → s ≡ signature_at p.signatures i
numbered p ss i s same is = is ∙ ap (λ (l : List Signature). signature_at l i) (sym same)

pub by_names : (P : Standard → Signature → Type 0) (std std' : Standard) (s s' : Signature) → std ≡ std' → s ≡ s' → P std s → P std' s'
by_names P std std' s s' a b h =
    subst (λ (x : Standard). P x s') a (subst (λ (x : Signature). P std x) b h)

-- what holds of a machine holds of it as it is left, where nothing was done to it since
pub as_left : (Q : State → Type 0) (m left : State) → Q m → left ≡ m → Q left
as_left Q m left h same = subst Q (sym same) h

-- what came of the lines of an entry
pub entry_told_as : (trace : Bool) (std std' : Standard) (s s' : Signature) (m : State) (lines : List ℕ) → std ≡ std' → s ≡ s' → entry_lines trace std' s' (last_event m.events) (arguments_in s'.arguments (stack_at m.sp (block_bytes s') m)) ≡ lines → entry_lines trace std s (last_event m.events) (arguments_in s.arguments (stack_at m.sp (block_bytes s) m)) ≡ lines
entry_told_as trace std std' s s' m lines a b is =
    ap (λ (x : Standard). entry_lines trace x s (last_event m.events) (arguments_in s.arguments (stack_at m.sp (block_bytes s) m))) a
    ∙ ap (λ (x : Signature). entry_lines trace std' x (last_event m.events) (arguments_in x.arguments (stack_at m.sp (block_bytes x) m))) b
    ∙ is

-- and of a return
pub return_told_as : (trace : Bool) (std std' : Standard) (s s' : Signature) (e : Event) (v : ValueTree) (lines : List ℕ) → std ≡ std' → s ≡ s' → return_lines trace std' s' e v ≡ lines → return_lines trace std s e v ≡ lines
return_told_as trace std std' s s' e v lines a b is =
    ap (λ (x : Standard). return_lines trace x s e v) a ∙ ap (λ (x : Signature). return_lines trace std' x e v) b ∙ is

-- what came of a line is what came of an equal one
pub cut_as : (line line' : List ℕ) (o o' : SinkState) (why : IoError) → line ≡ line' → LineInterrupted line o o' why → LineInterrupted line' o o' why
cut_as line line' o o' why is h = subst (λ (l : List ℕ). LineInterrupted l o o' why) is h
