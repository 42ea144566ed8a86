-- What the lines of a traced run say of the run's events.
use Rattle.std.specs.Prelude.{◌≡◌, ℕ, ◌+◌, ◌≤◌, ⊤, Bool, true, false, List, [], ◌∷◌}
use Rattle.std.specs.List.{AllByRecursion}
use Rattle.ffi3_place_spec.specs.declared.Loc.{Loc}
use Rattle.ffi3_place_spec.specs.Image.{register}
use Rattle.ffi3_place_spec.specs.Scribble.{scribble}
use Rattle.ffi3_place_spec.specs.Standard.{Standard, frame_of}
use Rattle.ffi3_semantics_spec.specs.Journal.{Entered, needs}
use Rattle.ffi3_semantics_spec.specs.Lines.{OpenCall, Tracing, untraced, traced}
use Rattle.ffi3_semantics_spec.specs.Meaning.{Program}
use Rattle.ffi3_small_step_spec.specs.SoFar.{Base, text_start, open_at}

-- An open call is told as its entry was: the stack pointer stood below the calls around it, and each callee-saved register had what the tracing says of the entry's number.
pub record IsTracedAsEntered (std : Standard) (top : ℕ) (leaves : ℕ → Loc → ℕ) (outer : List Entered) (e : Entered)
    (c : OpenCall) : Type 0 where
  pub signature : e.signature ≡ c.signature
  pub sp : e.event.image.sp + (std.link + frame_of std e.signature + needs std outer) ≡ top
  pub preserved : AllByRecursion (λ at. register e.event.image at ≡ leaves c.entry at) std.callee_saved

abbrev pub AreTracedAsEntered : Standard → (top : ℕ) → (leaves : ℕ → Loc → ℕ) → List Entered → List OpenCall → Type 0
AreTracedAsEntered std top leaves [] [] = ⊤
AreTracedAsEntered std top leaves (e ∷ es) (c ∷ cs) =
    IsTracedAsEntered std top leaves es e c × AreTracedAsEntered std top leaves es cs
AreTracedAsEntered std top leaves _ _ = ⊥

-- A run's callers leave what `scribble` leaves, each by its entry's number, and the calls that were open as it began are told as their entries were.
pub record IsTraced (p : Program) (b : Base) (leaves : ℕ → Loc → ℕ) : Type 0 where
  pub later : (n : ℕ) (at : Loc) → b.count ≤ n → leaves n at ≡ scribble n at
  pub open_calls : AreTracedAsEntered b.standard b.top leaves (open_at p b [] []) (text_start p b).calls

-- THE TRACING OF A RUN that is traced, or is not: by its standard, from the top of its stack.
abbrev pub IsTracingOf : Program → Base → (trace : Bool) → Tracing → Type 0
IsTracingOf p b false tracing = tracing ≡ untraced
IsTracingOf p b true tracing = (leaves : ℕ → Loc → ℕ) × (tracing ≡ traced b.standard b.top leaves) × IsTraced p b leaves
