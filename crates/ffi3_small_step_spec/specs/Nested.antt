-- The stack that is taken after a trace, and that the open calls of a run take, one inside the other.
use Rattle.std.specs.Prelude.{◌≡◌, ℕ, ◌+◌, List, [], ◌∷◌}
use Rattle.ffi3_semantics_spec.specs.Meaning.{Program, Activation, need_at}
use Rattle.ffi3_semantics_spec.specs.Trace.{TraceItem}
use Rattle.ffi3_small_step_spec.specs.Remainder.{Suspended}
use Rattle.ffi3_small_step_spec.specs.Depth.{depth_after}

-- the bytes that are taken after a trace
abbrev pub depth_at : Program → ℕ → List TraceItem → ℕ
depth_at p depth [] = depth
depth_at p depth (h ∷ later) = depth_at p (depth_after p depth h) later

-- the bytes that calls of these signatures take together
abbrev pub depth_of : Program → List ℕ → ℕ
depth_of p [] = 0
depth_of p (sig ∷ outer) = need_at p sig + depth_of p outer

-- each activation has left what its caller has but for the need of the call, and the outermost all
abbrev pub IsNested : Program → ℕ → Activation → List Suspended → Type 0
IsNested p room a [] = a.left ≡ room
IsNested p room a (s ∷ outer) =
    (a.left + need_at p s.signature ≡ s.activation.left) × IsNested p room s.activation outer
