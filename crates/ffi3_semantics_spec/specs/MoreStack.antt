-- More bytes of stack change nothing where the run did not stop for want of them.
use Rattle.std.specs.Prelude.{◌≡◌, ℕ, ◌≤◌}
use Rattle.ffi3_semantics_spec.specs.declared.Stop.TheVariants.{StackFull}
use Rattle.ffi3_semantics_spec.specs.Closures.{Closures}
use Rattle.ffi3_semantics_spec.specs.Meaning.{Program, Activation, End, stopped, act}

-- it ended at a call that needs more bytes of stack than were left
pub record StoppedForStack (end : End) : Type 0 where
  pub need : ℕ
  pub left : ℕ
  pub is : end ≡ stopped (StackFull need left)

-- an activation with another number of bytes of stack left
abbrev pub with_left : Activation → ℕ → Activation
with_left a more = record a { left = more }

-- Where an activation does not stop for want of stack, it acts the same with more of it: the same end, closures and moves left, and the same call tree, in which its lines are.
abbrev pub MoreStackIsTheSame : Program → Type 0
MoreStackIsTheSame p =
    (a : Activation) (closures : Closures) (moves more : ℕ)
    → a.left ≤ more → ¬ StoppedForStack (act p a closures moves).end
    → act p (with_left a more) closures moves ≡ act p a closures moves
