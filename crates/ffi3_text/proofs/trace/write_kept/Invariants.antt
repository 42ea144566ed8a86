use Rattle.std.proofs.Common.{◌≡◌, ℕ, List, ◌++◌, map, take}
use Rattle.std.specs.List.{concat}
use Rattle.ffi3_machine.specs.Entries.{event_of}
use Rattle.ffi3_text.specs.TraceLines.{register_text}
use Rattle.ffi3_text.proofs.trace.write_kept.Given as goal

abbrev pub invariant-loop-k : goal.invariant-loop-k
invariant-loop-k g l =
    (stack : List ℕ) → l.text ≡ l.initial.text ++ concat (map (register_text (event_of l.event stack)) (take l.k g.A.Abi.standard.callee_saved))
