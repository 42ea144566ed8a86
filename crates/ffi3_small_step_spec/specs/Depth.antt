-- The peak of a trace: the most stack that is taken at a time, by calls that are open together and by what was taken before.
use Rattle.std.specs.Prelude.{ℕ, ◌+◌, ◌-◌, max, List, [], ◌∷◌}
use Rattle.ffi3_semantics_spec.specs.Meaning.{Program, need_at}
use Rattle.ffi3_semantics_spec.specs.Trace.{TraceItem, Enter, Line, Leave, StopLine}

-- the bytes that are taken after one item more
abbrev pub depth_after : Program → ℕ → TraceItem → ℕ
depth_after p depth (Enter ptr sig args) = depth + need_at p sig
depth_after p depth (Line t v) = depth
depth_after p depth (Leave sig r) = depth - need_at p sig
depth_after p depth (StopLine stop) = depth

-- THE PEAK of a trace that starts at some depth
abbrev pub deepest : Program → ℕ → List TraceItem → ℕ
deepest p depth [] = depth
deepest p depth (h ∷ later) = max depth (deepest p (depth_after p depth h) later)
