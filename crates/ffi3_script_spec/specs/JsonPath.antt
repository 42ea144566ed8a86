-- A place in a JSON value: the keys and numbers from the root to it.
use Rattle.std.specs.Prelude.{ℕ, List}

pub data PathStep : Type 0 where
  key : List ℕ → PathStep
  number : ℕ → PathStep
