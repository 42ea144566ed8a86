use Rattle.std.proofs.Common.{◌∙◌, ap₂}
use Rattle.std.proofs.lemmas.Result.{IfOk-weaker}
use Rattle.clap.specs.Words.{with_subcommand}
use Rattle.ffi3_cli.proofs.command.program.Goals as goal

pub returns : goal.returns
returns c =
    let first = c.in_ok-subcommand.ensures.shape c.layout.ensures.local ∙ ap₂ with_subcommand c.program_alone.ensures c.layout.ensures.shape in
    let second = c.in_ok-subcommand-2.ensures.shape c.in_ok-place.ensures.local ∙ ap₂ with_subcommand first c.in_ok-place.ensures.shape.same in
    let third = c.in_ok-subcommand-3.ensures.shape c.in_ok-run.ensures.local ∙ ap₂ with_subcommand second c.in_ok-run.ensures.shape.same in
    let fourth = c.in_ok-subcommand-4.ensures.shape c.in_ok-bench.ensures.local ∙ ap₂ with_subcommand third c.in_ok-bench.ensures.shape in
    let fifth = c.in_ok-subcommand-5.ensures.shape c.cdecl.ensures.local ∙ ap₂ with_subcommand fourth c.cdecl.ensures.shape in
    let sixth = c.in_ok-subcommand-6.ensures.shape c.cplace.ensures.local ∙ ap₂ with_subcommand fifth c.cplace.ensures.shape in
    let seventh = c.in_ok-subcommand-7.ensures.shape c.explain.ensures.local ∙ ap₂ with_subcommand sixth c.explain.ensures.shape in
    IfOk-weaker c.subcommand-8.result _ _ (λ m h. record { placing = c.in_ok-place.ensures.shape.at; running = c.in_ok-run.ensures.shape.at; same = h.shape c.arguments.ensures.local ∙ ap₂ with_subcommand seventh c.arguments.ensures.shape }) c.subcommand-8.ensures
