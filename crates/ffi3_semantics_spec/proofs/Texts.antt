-- Texts of what happens in two parts, and where a run stands after a part.
use Rattle.std.proofs.Common.{◌≡◌, ℕ, List, [], ◌∷◌, ◌++◌, refl, ap, sym, ◌∙◌, append_assoc}
use Rattle.ffi3_type_spec.specs.Signature.{Signature}
use Rattle.ffi3_semantics_spec.specs.Trace.{TraceItem, Enter, Line, Leave, StopLine}
use Rattle.ffi3_semantics_spec.specs.Lines.{Point, past, Tracing, untraced, item_text, text}

-- after all of a part
abbrev pub past_all : List Signature → Point → List TraceItem → Point
past_all ss at [] = at
past_all ss at (h ∷ rest) = past_all ss (past ss at h) rest

pub text-append : (tracing : Tracing) (ss : List Signature) (at : Point) (a b : List TraceItem) → text tracing ss at (a ++ b) ≡ text tracing ss at a ++ text tracing ss (past_all ss at a) b
text-append tracing ss at [] b = refl
text-append tracing ss at (h ∷ a) b =
    ap (λ (l : List ℕ). item_text tracing ss at h ++ l) (text-append tracing ss (past ss at h) a b) ∙ sym (append_assoc (item_text tracing ss at h) (text tracing ss (past ss at h) a) (text tracing ss (past_all ss (past ss at h) a) b))

-- the text of a run that is not traced does not depend on where it stands
pub untraced_anywhere : (ss : List Signature) (at at' : Point) (hs : List TraceItem) → text untraced ss at hs ≡ text untraced ss at' hs
untraced_anywhere ss at at' [] = refl
untraced_anywhere ss at at' (Enter ptr sig args ∷ rest) =
    untraced_anywhere ss (past ss at (Enter ptr sig args)) (past ss at' (Enter ptr sig args)) rest
untraced_anywhere ss at at' (Leave sig r ∷ rest) =
    untraced_anywhere ss (past ss at (Leave sig r)) (past ss at' (Leave sig r)) rest
untraced_anywhere ss at at' (Line t v ∷ rest) =
    ap (λ (l : List ℕ). item_text untraced ss at (Line t v) ++ l) (untraced_anywhere ss at at' rest)
untraced_anywhere ss at at' (StopLine stop ∷ rest) =
    ap (λ (l : List ℕ). item_text untraced ss at (StopLine stop) ++ l) (untraced_anywhere ss at at' rest)

pub untraced-append : (ss : List Signature) (at : Point) (a b : List TraceItem) → text untraced ss at (a ++ b) ≡ text untraced ss at a ++ text untraced ss at b
untraced-append ss at a b =
    text-append untraced ss at a b ∙ ap (λ (l : List ℕ). text untraced ss at a ++ l) (untraced_anywhere ss (past_all ss at a) at b)
