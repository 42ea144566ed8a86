-- The bytes of a value that stand together on the stack, stored run by run.
use Rattle.std.specs.Prelude.{◌≡◌, ℕ, ◌+◌, ◌≤◌, Bool, true, false, List}
use Rattle.std.specs.List.{AllByRecursion}
use Rattle.ffi3_type_spec.specs.Tree.{Tree}
use Rattle.ffi3_type_spec.specs.Layout.{leaves_of}
use Rattle.ffi3_type_spec.specs.Value.{ValueTree, IsPadding}
use Rattle.ffi3_place_spec.specs.declared.Loc.{Loc}
use Rattle.ffi3_place_spec.specs.declared.Loc.TheVariants.{G, F, S}
use Rattle.ffi3_place_spec.specs.declared.Ext.{Ext}
use Rattle.ffi3_place_spec.specs.declared.Ext.TheVariants.{Free, Widen, Riscv, Boxed}
use Rattle.ffi3_place_spec.specs.Holds.{leaf_bytes}
use Rattle.ffi3_cif.specs.declared.runs.Run.{Run}
use Rattle.ffi3_cif.specs.Runs.{Copies, OneCopies}
use Rattle.ffi3_machine_spec.specs.State.{State}
use Rattle.ffi3_machine_transfer.specs.Stored.{IsByteOf, WroteOnly, stack_byte}

-- the run lies in so many bytes of the stack, and its bytes are of a value of so many
abbrev pub RunLies : ℕ → ℕ → Run → Type 0
RunLies room size r = (r.at + r.len ≤ room) × (r.off + r.len ≤ size)

-- a run of a value's bytes is stored: the leaves' bytes stand, padding keeps what stood there
pub record IsRunStored (base : ℕ) (t : Tree) (v : ValueTree) (r : Run) (old new : State) : Type 0 where
  pub stand : (at off : ℕ) → Copies at off r → IsByteOf (leaves_of t) (leaf_bytes v) off (stack_byte new (base + at))
  pub unused : (at off : ℕ) → Copies at off r → IsPadding t off
      → stack_byte new (base + at) ≡ stack_byte old (base + at)
  pub only : WroteOnly (base + r.at) (base + r.at + r.len) old new

-- THE RUNS OF A VALUE'S BYTES ARE STORED, and nothing beside them is written
pub record AreRunsStored (base : ℕ) (t : Tree) (v : ValueTree) (runs : List Run) (old new : State) : Type 0 where
  pub stand : (at off : ℕ) → OneCopies at off runs
      → IsByteOf (leaves_of t) (leaf_bytes v) off (stack_byte new (base + at))
  pub unused : (at off : ℕ) → OneCopies at off runs → IsPadding t off
      → stack_byte new (base + at) ≡ stack_byte old (base + at)
  pub others : (at : ℕ) → ((off : ℕ) → ¬ OneCopies at off runs)
      → stack_byte new (base + at) ≡ stack_byte old (base + at)
  pub only : (room size : ℕ) → AllByRecursion (RunLies room size) runs → WroteOnly base (base + room) old new

-- a piece is whole once runs are stored: it stands on the stack, and nothing fills the rest of its place
abbrev pub goes_by_run : Loc → Ext → Bool
goes_by_run (S n w) Free = true
goes_by_run (S n w) Widen = false
goes_by_run (S n w) Riscv = false
goes_by_run (S n w) Boxed = false
goes_by_run (G r) e = false
goes_by_run (F r) e = false
