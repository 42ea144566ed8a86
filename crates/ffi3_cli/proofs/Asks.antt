-- From the matches to what they ask for.
use Rattle.std.proofs.Common.{◌≡◌, ◌∙◌, List, Option, Some, None, refl, ap, codes}
use Rattle.std.specs.Option.{option_map}
use Rattle.clap.specs.Words.{Row, Text, first_of, subcommand_name_of, subcommand_rows_of}
use Rattle.clap.specs.declared.parser.matches.ArgMatches.{ArgMatches}
use Rattle.clap.specs.declared.parser.matches.ArgMatches.TheViews.{out-ArgMatches}
use Rattle.ffi3_cli_spec.specs.WordCommands.{asked, request_of}

two_maps : {X Y Z : Type 0} (f : Y → Z) (g : X → Y) (o : Option X) → option_map f (option_map g o) ≡ option_map (λ x. f (g x)) o
two_maps f g None = refl
two_maps f g (Some x) = refl

-- the name of the command that was met
pub name_met : (m : ArgMatches) → option_map (λ p. p.0) (subcommand_rows_of m) ≡ subcommand_name_of m
name_met m = two_maps _ _ (out-ArgMatches m).subcommand

pub asks : (o : Option (Text × List Row)) (name : Text) (rows : List Row) (target trace seed calls : Option Text) → Some name ≡ option_map (λ p. p.0) o → Some rows ≡ option_map (λ p. p.1) o → target ≡ first_of (codes "target") rows → trace ≡ first_of (codes "trace") rows → seed ≡ first_of (codes "seed") rows → calls ≡ first_of (codes "calls") rows → request_of name target trace seed calls ≡ asked o
asks None name rows target trace seed calls named with_rows is_target is_trace is_seed is_calls = cc
asks (Some p) name rows target trace seed calls named with_rows is_target is_trace is_seed is_calls =
    let same_name : name ≡ p.0 = cc in
    let same_rows : rows ≡ p.1 = cc in
    let value = λ (word : Text). ap (first_of word) same_rows in
    λ i. request_of (same_name i) ((is_target ∙ value (codes "target")) i) ((is_trace ∙ value (codes "trace")) i) ((is_seed ∙ value (codes "seed")) i) ((is_calls ∙ value (codes "calls")) i)
