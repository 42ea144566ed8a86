use Rattle.std.proofs.Common.{◌≡◌, ◌∙◌, Some, option_map, sym, codes}
use Rattle.clap.specs.Words.{found_of, rows_of, subcommand_rows_of}
use Rattle.clap.proofs.WalkLemmas.{first_value-rows}
use Rattle.ffi3_cli.proofs.Asks.{asks, name_met}
use Rattle.ffi3_cli.proofs.words.asked.Goals as goal

pub returns : goal.returns
returns c =
    let m = c.args.matches.now in
    let named : Some c.in_ok-name.name.now ≡ option_map (λ p. p.0) (subcommand_rows_of m) = c.in_ok-name.ensures.name ∙ sym (name_met m) in
    let rows : Some (rows_of (found_of c.in_ok-name.options.now)) ≡ option_map (λ p. p.1) (subcommand_rows_of m) = c.in_ok-name.ensures.rows in
    c.request_of.ensures ∙ asks (subcommand_rows_of m) c.in_ok-name.name.now (rows_of (found_of c.in_ok-name.options.now)) _ _ _ _ named rows (c.get_str.ensures ∙ first_value-rows (found_of c.in_ok-name.options.now) (codes "target")) (c.get_str-2.ensures ∙ first_value-rows (found_of c.in_ok-name.options.now) (codes "trace")) (c.get_str-3.ensures ∙ first_value-rows (found_of c.in_ok-name.options.now) (codes "seed")) (c.get_str-4.ensures ∙ first_value-rows (found_of c.in_ok-name.options.now) (codes "calls"))
