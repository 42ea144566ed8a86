-- What the code states of the program that clap reads, and of its parts.
use Rattle.std.specs.Prelude.{◌≡◌, ℕ, List}
use Rattle.std.specs.Borrow.{Bor}
use Rattle.clap.specs.Words.{App, Rule, Shape, Text}
use Rattle.clap.specs.declared.builder.value_parser.ValueParser.TheVariants as vp
use Rattle.ffi3_cli_spec.specs.WordCommands.{Addresses, one_of_words, target_rule, with_target, with_trace, program}

pub record IsProgram (a : App) : Type 0 where
  pub placing : Addresses
  pub running : Addresses
  pub same : a ≡ program placing running

pub record IsTargetRule (words : List (Bor Text)) (r : Rule) : Type 0 where
  pub list : ℕ × ℕ
  pub same : r ≡ target_rule (vp.Names (record { ref_ptr = list; now = words }))

pub record HasTarget (name : Text) (words : List Text) (s : Shape) : Type 0 where
  pub at : Addresses
  pub same : s ≡ with_target name (one_of_words at words)

pub record IsTraceable (name : Text) (words : List Text) (s : Shape) : Type 0 where
  pub at : Addresses
  pub same : s ≡ with_trace name (one_of_words at words)
