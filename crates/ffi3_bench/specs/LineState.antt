-- A sink in memory for one line, as its callers see it.
use Rattle.std.specs.Prelude.{ℕ, List}

-- the bytes taken, and how many writes failed
pub record LineState : Type 0 where
  pub taken : List ℕ
  pub faults : ℕ
