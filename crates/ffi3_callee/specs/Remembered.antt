-- What a callee remembers of its entry until it returns.
use Rattle.std.specs.Prelude.{ℕ}

-- the addresses of its copy of the arguments and of a hidden result's buffer, and the stack pointer
pub record Remembered : Type 0 where
  pub block : ℕ
  pub address : ℕ
  pub entry : ℕ
