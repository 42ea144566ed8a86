-- The bytes of an argument that stand on the stack, in as few runs as they make.
use Rattle.std.specs.Prelude.{◌≡◌, ℕ, ◌+◌, ◌<◌, ◌≤◌, ◌⊎◌, ⊤, Bool, ◌&&◌, ◌==◌, cond, nat_lt, List, [], ◌∷◌, ◌++◌}
use Rattle.std.specs.Prelude.{Option, Some, None}
use Rattle.std.specs.List.{AllByRecursion}
use Rattle.ffi3_place_spec.specs.declared.Loc.{Loc}
use Rattle.ffi3_place_spec.specs.declared.Loc.TheVariants.{G, F, S}
use Rattle.ffi3_place_spec.specs.declared.Piece.{Piece}
use Rattle.ffi3_place_spec.specs.declared.Place.{Place}
use Rattle.ffi3_place_spec.specs.declared.Place.TheVariants.{Direct, ByRef}
use Rattle.ffi3_cif.specs.declared.runs.Run.{Run}

-- the pieces of a place: one by reference has none
abbrev pub pieces_of : Place → List Piece
pieces_of (Direct pieces) = pieces
pieces_of (ByRef at copy) = []

-- a piece on the stack is a run of its own
abbrev pub run_at : Loc → Piece → Option Run
run_at (S start w) p = Some (record { at = start; off = p.off; len = p.len })
run_at (G r) p = None
run_at (F r) p = None

abbrev pub run_then : Option Run → List Run → List Run
run_then (Some r) rs = r ∷ rs
run_then None rs = rs

abbrev pub stack_runs : List Piece → List Run
stack_runs [] = []
stack_runs (p ∷ ps) = run_then (run_at p.loc p) (stack_runs ps)

-- by this run, byte `off` of the value stands at byte `at` of the stack arguments
pub record Copies (at off : ℕ) (r : Run) : Type 0 where
  pub from : r.at ≤ at
  pub to : at < r.at + r.len
  pub same : off + r.at ≡ r.off + at

-- by one of the runs
abbrev pub OneCopies : ℕ → ℕ → List Run → Type 0
OneCopies at off [] = ⊥
OneCopies at off (r ∷ rs) = Copies at off r ⊎ OneCopies at off rs

-- each two neighbours
abbrev pub Neighbours : (Run → Run → Type 0) → List Run → Type 0
Neighbours P [] = ⊤
Neighbours P (r ∷ []) = ⊤
Neighbours P (r ∷ n ∷ rs) = P r n × Neighbours P (n ∷ rs)

-- both places rise, and no byte stands in two runs
pub record Rises (r n : Run) : Type 0 where
  pub at : r.at + r.len ≤ n.at
  pub off : r.off + r.len ≤ n.off

-- the second goes on where the first ends, in the value and on the stack
pub record GoesOn (r n : Run) : Type 0 where
  pub at : r.at + r.len ≡ n.at
  pub off : r.off + r.len ≡ n.off

-- THE RUNS ARE THOSE OF THE PIECES ON THE STACK
pub record AreRunsOf (pieces : List Piece) (runs : List Run) : Type 0 where
  -- their bytes are exactly those of the pieces
  pub has_each : (at off : ℕ) → OneCopies at off (stack_runs pieces) → OneCopies at off runs
  pub has_no_other : (at off : ℕ) → OneCopies at off runs → OneCopies at off (stack_runs pieces)
  -- none is empty, and no two neighbours are one run
  pub some_bytes : AllByRecursion (λ r. 0 < r.len) runs
  pub whole : Neighbours (λ r n. (¬ GoesOn r n)) runs
  -- each next one stands higher and has later bytes
  pub rising : Neighbours Rises runs

-- nothing of it stands on the stack
abbrev pub HasNoRuns : Place → Type 0
HasNoRuns p = stack_runs (pieces_of p) ≡ []

-- the runs of each argument
abbrev pub PlacesHaveRuns : List Place → List (List Run) → Type 0
PlacesHaveRuns [] [] = ⊤
PlacesHaveRuns (p ∷ ps) (r ∷ rs) = AreRunsOf (pieces_of p) r × PlacesHaveRuns ps rs
PlacesHaveRuns _ _ = ⊥

-- ---- what preparation needs of the pieces

-- it ends within so many bytes of its value
abbrev pub EndsWithin : ℕ → Piece → Type 0
EndsWithin size p = p.off + p.len ≤ size

abbrev pub PlaceEndsWithin : ℕ → Place → Type 0
PlaceEndsWithin size p = AllByRecursion (EndsWithin size) (pieces_of p)

-- ---- how runs are gathered, one after another

abbrev pub goes_on : Run → Run → Bool
goes_on r n = (r.at + r.len == n.at) && (r.off + r.len == n.off)

abbrev pub longer : Run → Run → Run
longer r n = record { at = r.at; off = r.off; len = r.len + n.len }

-- the run, if it has bytes
abbrev pub some_run : Run → List Run
some_run r = cond (nat_lt 0 r.len) (r ∷ []) []

-- what goes on where the run ends makes it longer, and anything else ends it
abbrev pub glued : Run → List Run → List Run
glued r [] = some_run r
glued r (n ∷ ns) =
    cond (nat_lt 0 n.len) (cond (goes_on r n) (glued (longer r n) ns) (some_run r ++ glued n ns)) (glued r ns)
