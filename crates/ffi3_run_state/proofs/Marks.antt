-- The mark's bound as calls begin and end, the results that there is room for, and texts of one item more.
use Rattle.std.proofs.Common.{◌≡◌, ℕ, suc, ◌+◌, ◌≤◌, min, max, inl, inr, List, [], ◌∷◌, ◌++◌, arith}
use Rattle.std.proofs.lemmas.Bool.{cases_lt}
use Rattle.ffi3_semantics_spec.specs.Lines.{Tracing, item_text}
use Rattle.ffi3_semantics_spec.specs.Meaning.{Program}
use Rattle.ffi3_semantics_spec.specs.Trace.{TraceItem}
use Rattle.ffi3_small_step_spec.specs.Remainder.{Suspended}
use Rattle.ffi3_small_step_spec.specs.SoFar.{Base, text_start, text_after}
use Rattle.ffi3_small_step_spec.proofs.Opens.{text_one}
use Rattle.ffi3_run_state.specs.Between.{IsMarkOf, ResultsWithinMoves, text_so_far}

pub mark_same : (top first deep deep' mark mark' : ℕ) → deep' ≡ deep → mark' ≡ mark → IsMarkOf top first deep mark → IsMarkOf top first deep' mark'
mark_same top first deep deep' mark mark' same is (inl h) = inl (omega (arith, is, h))
mark_same top first deep deep' mark mark' same is (inr h) = inr (omega (arith, is, same, h))

-- a call begins
pub mark_enter : (top first deep mark sp sp' mark' depth need deep' : ℕ) → sp' + need ≡ sp → sp + depth ≡ top → min mark sp' ≤ mark' → deep' ≡ max deep (depth + need) → IsMarkOf top first deep mark → IsMarkOf top first deep' mark'
mark_enter top first deep mark sp sp' mark' depth need deep' lower at low is (inl h) =
    elim (cases_lt mark sp') [
      | inl above ↦ inl (omega (arith, low, h, above))
      | inr below ↦ inr (omega (arith, low, lower, at, is, below))
    ]
mark_enter top first deep mark sp sp' mark' depth need deep' lower at low is (inr h) =
    elim (cases_lt mark sp') [
      | inl above ↦ inr (omega (arith, low, h, is, above))
      | inr below ↦ inr (omega (arith, low, lower, at, is, below))
    ]

-- a call ends
pub mark_leave : (top first deep deep' mark sp mark' depth : ℕ) → sp + depth ≡ top → depth ≤ deep → min mark sp ≤ mark' → deep' ≡ deep → IsMarkOf top first deep mark → IsMarkOf top first deep' mark'
mark_leave top first deep deep' mark sp mark' depth at within low same (inl h) =
    elim (cases_lt mark sp) [
      | inl above ↦ inl (omega (arith, low, h, above))
      | inr below ↦ inr (omega (arith, low, at, within, same, below))
    ]
mark_leave top first deep deep' mark sp mark' depth at within low same (inr h) =
    elim (cases_lt mark sp) [
      | inl above ↦ inr (omega (arith, low, h, same, above))
      | inr below ↦ inr (omega (arith, low, at, within, same, below))
    ]

-- ---- results

pub fewer : (moves : ℕ) (outer : List Suspended) → ResultsWithinMoves (suc moves) outer → ResultsWithinMoves moves outer
fewer moves [] h = tt
fewer moves (s ∷ outer) h = (omega (arith, h.0), fewer moves outer h.1)

-- ---- texts

pub text_then : (tracing : Tracing) (p : Program) (base : Base) (own : List TraceItem) (h : TraceItem) → text_so_far tracing p base (own ++ h ∷ []) ≡ text_so_far tracing p base own ++ item_text tracing p.signatures (text_after p base own) h
text_then tracing p base own h = text_one tracing p.signatures (text_start p base) own h
