-- The program as clap reads it: its commands and their options, and what its matches ask for.
use Rattle.std.specs.Prelude.{◌≡◌, ℕ, suc, ◌^◌, ◌&&◌, nat_lt, nat_le, Bool, true, false, cond, List, [], ◌∷◌, codes}
use Rattle.std.specs.Prelude.{decimal, Option, Some, None}
use Rattle.std.specs.Option.{option_and_then, option_map}
use Rattle.std.specs.Str.{bytes_eq}
use Rattle.std.specs.Str.Parse.{digits_value}
use Rattle.std.specs.Borrow.{Bor}
use Rattle.clap.specs.Words.{App, Row, Rule, Shape, Text, first_of, new_app, new_rule, with_rule, with_subcommand}
use Rattle.clap.specs.declared.builder.action.ArgAction.TheVariants.{SetTrue}
use Rattle.clap.specs.declared.builder.value_parser.ValueParser.{ValueParser}
use Rattle.clap.specs.declared.builder.value_parser.ValueParser.TheVariants as vp
use Rattle.ffi3_type_spec.specs.declared.limits.TheConstants.{MOST_CALLS}
use Rattle.ffi3_type_spec.specs.declared.Target.{Target}
use Rattle.ffi3_type_spec.specs.declared.Target.TheVariants.{Amd64, Aapcs64, Riscv, Win64, Apple}
use Rattle.ffi3_cli_spec.specs.declared.words.InputCommand.{InputCommand}
use Rattle.ffi3_cli_spec.specs.declared.words.InputCommand.TheVariants.{Layout, Place, Run, Cdecl, Cplace, Explain, Arguments}
use Rattle.ffi3_cli_spec.specs.declared.words.Request.{Request}
use Rattle.ffi3_cli_spec.specs.declared.words.Request.TheVariants.{OnInput, Bench}

-- ---- the words of a target

abbrev pub targets : List Text
targets = codes "amd64" ∷ codes "aapcs64" ∷ codes "riscv" ∷ codes "win64" ∷ codes "apple" ∷ []

abbrev pub target_of : Text → Option Target
target_of word =
    cond (bytes_eq word (codes "amd64")) (Some Amd64)
    (cond (bytes_eq word (codes "aapcs64")) (Some Aapcs64)
    (cond (bytes_eq word (codes "riscv")) (Some Riscv)
    (cond (bytes_eq word (codes "win64")) (Some Win64)
    (cond (bytes_eq word (codes "apple")) (Some Apple) None))))

-- ---- the commands and their options

-- where texts lie in memory, which no answer depends on
abbrev pub Addresses : Type 0
Addresses = ℕ → ℕ × ℕ

abbrev pub after_first : Addresses → Addresses
after_first at = λ n. at (suc n)

abbrev pub lent : Addresses → List Text → List (Bor Text)
lent at [] = []
lent at (t ∷ ts) = record { ref_ptr = at 0; now = t } ∷ lent (after_first at) ts

-- one of these words
abbrev pub one_of_words : Addresses → List Text → ValueParser
one_of_words at words = vp.Names (record { ref_ptr = at 0; now = lent (after_first at) words })

-- `--target TARGET`, which is required
abbrev pub target_rule : ValueParser → Rule
target_rule parser = record (new_rule (codes "target")) {
  long = Some (codes "target");
  value_names = 1;
  required = true;
  parser = Some parser;
}

-- `--trace`, a flag
abbrev pub trace_rule : Rule
trace_rule =
    record (new_rule (codes "trace")) { long = Some (codes "trace"); action = Some SetTrue }

-- `--seed N` and `--calls M`, which are required, and whose values are any text to clap
abbrev pub number_rule : Text → Rule
number_rule name = record (new_rule name) { long = Some name; value_names = 1; required = true }

abbrev pub seed_rule : Rule
seed_rule = number_rule (codes "seed")

abbrev pub calls_rule : Rule
calls_rule = number_rule (codes "calls")

-- a command without options
abbrev pub plain_shape : Text → Shape
plain_shape name = (new_app name).top

abbrev pub layout_shape : Shape
layout_shape = plain_shape (codes "layout")

abbrev pub cdecl_shape : Shape
cdecl_shape = plain_shape (codes "cdecl")

abbrev pub cplace_shape : Shape
cplace_shape = plain_shape (codes "cplace")

abbrev pub explain_shape : Shape
explain_shape = plain_shape (codes "explain")

abbrev pub arguments_shape : Shape
arguments_shape = plain_shape (codes "arguments")

-- a command with a target
abbrev pub with_target : Text → ValueParser → Shape
with_target name parser = (with_rule (new_app name) (target_rule parser)).top

-- a command with a target and the flag
abbrev pub with_trace : Text → ValueParser → Shape
with_trace name parser =
    (with_rule (with_rule (new_app name) (target_rule parser)) trace_rule).top

-- a command with two numbers
abbrev pub bench_shape : Shape
bench_shape = (with_rule (with_rule (new_app (codes "bench")) seed_rule) calls_rule).top

-- the program alone: one of its commands is required
abbrev pub program_alone : App
program_alone = record {
  top = record (new_app (codes "ffi3")).top {
    has_version = true;
    subcommand_required = true;
    arg_required_else_help = true;
  };
  subs = [];
}

abbrev pub program_with : ValueParser → ValueParser → App
program_with placing running =
    with_subcommand
    (with_subcommand
    (with_subcommand
    (with_subcommand
    (with_subcommand
    (with_subcommand
    (with_subcommand
    (with_subcommand program_alone layout_shape)
    (with_target (codes "place") placing))
    (with_trace (codes "run") running))
    bench_shape)
    cdecl_shape)
    cplace_shape)
    explain_shape)
    arguments_shape

-- THE PROGRAM, with its texts at these addresses
abbrev pub program : Addresses → Addresses → App
program at at' = program_with (one_of_words at targets) (one_of_words at' targets)

-- ---- what is asked for

-- a command that reads the input
abbrev pub on_input : InputCommand → Option Request
on_input command = Some (OnInput command)

-- a command with the target that is named
abbrev pub with_target_of : Option Text → (Target → InputCommand) → Option Request
with_target_of target make =
    option_map (λ t. OnInput (make t)) (option_and_then target_of target)

-- the value of a flag
abbrev pub is_set : Option Text → Bool
is_set None = false
is_set (Some value) = bytes_eq value (codes "true")

-- the number of 32 bits whose decimal digits, with no sign and no leading zero, are this text
abbrev pub number_of : Text → Option ℕ
number_of word =
    let n = digits_value 10 word in
    cond (nat_lt n (2 ^ 32) && bytes_eq (decimal n) word) (Some n) None

abbrev pub with_calls : ℕ → ℕ → Option Request
with_calls seed calls =
    cond (nat_le 1 calls && nat_le calls MOST_CALLS) (Some (Bench seed calls)) None

-- what `bench` asks for: a seed of 32 bits, and 1 to 1000 calls
abbrev pub bench_of : Option Text → Option Text → Option Request
bench_of seed calls =
    option_and_then
    (λ n. option_and_then (with_calls n) (option_and_then number_of calls))
    (option_and_then number_of seed)

-- a command's name, its target, its flag and its numbers
abbrev pub request_of : Text → Option Text → Option Text → Option Text → Option Text → Option Request
request_of name target trace seed calls =
    cond (bytes_eq name (codes "layout")) (on_input Layout)
    (cond (bytes_eq name (codes "cdecl")) (on_input Cdecl)
    (cond (bytes_eq name (codes "cplace")) (on_input Cplace)
    (cond (bytes_eq name (codes "explain")) (on_input Explain)
    (cond (bytes_eq name (codes "arguments")) (on_input Arguments)
    (cond (bytes_eq name (codes "bench")) (bench_of seed calls)
    (cond (bytes_eq name (codes "place")) (with_target_of target (λ t. Place t))
    (cond (bytes_eq name (codes "run")) (with_target_of target (λ t. Run t (is_set trace))) None)))))))

-- the command that was met, with its rows
abbrev pub asked : Option (Text × List Row) → Option Request
asked =
    option_and_then
    (λ p. request_of p.0
    (first_of (codes "target") p.1) (first_of (codes "trace") p.1)
    (first_of (codes "seed") p.1) (first_of (codes "calls") p.1))

-- `bench` was met, and its values are no seed and number of calls
abbrev pub LacksNumbers : Option (Text × List Row) → Type 0
LacksNumbers None = ⊥
LacksNumbers (Some p) =
    (p.0 ≡ codes "bench") × (bench_of (first_of (codes "seed") p.1) (first_of (codes "calls") p.1) ≡ None)
