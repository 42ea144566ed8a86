-- The direct meaning is the plain recursion: where no move is left it stops for that, or else it is one move and all that follows. No depth is in it.
use Rattle.std.specs.Prelude.{◌≡◌, ℕ, suc, ◌≤◌}
use Rattle.ffi3_semantics_spec.specs.declared.Stop.TheVariants.{MoveLimit}
use Rattle.ffi3_semantics_spec.specs.Closures.{Closures}
use Rattle.ffi3_semantics_spec.specs.Meaning.{Program, Activation, effect_of, next_move, follows, stops_with, act}

pub record IsPlainRecursion (p : Program) : Type 0 where
  pub none_left : (a : Activation) (closures : Closures) → act p a closures 0 ≡ stops_with MoveLimit closures 0
  pub one_more : (a : Activation) (closures : Closures) (moves : ℕ)
      → act p a closures (suc moves) ≡ follows (act p) a closures moves (effect_of p a closures (next_move p a))
  -- no more moves are left after it than before
  pub never_rise : (a : Activation) (closures : Closures) (moves : ℕ) → (act p a closures moves).moves ≤ moves
