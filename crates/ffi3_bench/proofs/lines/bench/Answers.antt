use Rattle.std.proofs.Common.{rules, ◌≡◌}
use Rattle.std.specs.Prelude.{Err}
use Rattle.ffi3_amd64_spec.specs.Amd64.{amd64}
use Rattle.ffi3_aapcs64_spec.specs.Aapcs64.{aapcs64}
use Rattle.ffi3_riscv_spec.specs.Riscv.{riscv}
use Rattle.ffi3_io_spec.specs.declared.IoError.TheVariants.{NoMemory}
use Rattle.ffi3_script.specs.ScriptOf.{script_of}
use Rattle.ffi3_app_spec.specs.BenchText.{bench_text}
use Rattle.ffi3_bench.proofs.Needs.{amd64_needs_little, aapcs64_needs_little, riscv_needs_little}
use Rattle.ffi3_bench.proofs.ThreeLines.{it_returns, it_is_short, first_ended, second_ended, third_ended, none_written}
use Rattle.ffi3_bench.proofs.lines.bench.Goals as goal

pub returns-in_err-script-clause-wrote : goal.returns-in_err-script-clause-wrote
returns-in_err-script-clause-wrote g c =
    let ended : c.from_residual.result ≡ Err NoMemory = search rules in
    none_written (bench_text c.args.seed c.args.calls) (g.O.Sink.state c.args.output.now) c.from_residual.result ended

pub bench_by-requires-clause-returns : goal.bench_by-requires-clause-returns
bench_by-requires-clause-returns g c =
    it_returns amd64 c.args.seed c.args.calls c.requires (amd64_needs_little c.args.seed) (script_of c.in_ok-script.script) c.in_ok-script.ensures.is

pub bench_by-requires-clause-short : goal.bench_by-requires-clause-short
bench_by-requires-clause-short g c =
    it_is_short amd64 c.args.seed c.args.calls c.requires (amd64_needs_little c.args.seed) (script_of c.in_ok-script.script) c.in_ok-script.ensures.is

pub returns-in_err-bench_by-clause-wrote : goal.returns-in_err-bench_by-clause-wrote
returns-in_err-bench_by-clause-wrote g c =
    let ended : c.from_residual-in_err-bench_by.result ≡ Err c.in_err-bench_by.field-0.0 = search rules in
    first_ended c.args.seed c.args.calls (script_of c.in_ok-script.script) c.in_ok-script.ensures.is (g.O.Sink.state c.args.output.now) (g.O.Sink.state c.bench_by.new.output) c.in_err-bench_by.field-0.0 c.from_residual-in_err-bench_by.result c.in_err-bench_by.ensures.wrote ended

pub bench_by-requires-2-clause-returns : goal.bench_by-requires-2-clause-returns
bench_by-requires-2-clause-returns g c =
    it_returns aapcs64 c.args.seed c.args.calls c.requires (aapcs64_needs_little c.args.seed) (script_of c.in_ok-script.script) c.in_ok-script.ensures.is

pub bench_by-requires-2-clause-short : goal.bench_by-requires-2-clause-short
bench_by-requires-2-clause-short g c =
    it_is_short aapcs64 c.args.seed c.args.calls c.requires (aapcs64_needs_little c.args.seed) (script_of c.in_ok-script.script) c.in_ok-script.ensures.is

pub returns-in_err-bench_by-2-clause-wrote : goal.returns-in_err-bench_by-2-clause-wrote
returns-in_err-bench_by-2-clause-wrote g c =
    let ended : c.from_residual-in_err-bench_by-2.result ≡ Err c.in_err-bench_by-2.field-0.0 = search rules in
    second_ended c.args.seed c.args.calls (script_of c.in_ok-script.script) c.in_ok-script.ensures.is (g.O.Sink.state c.args.output.now) (g.O.Sink.state c.bench_by.new.output) (g.O.Sink.state c.bench_by-2.new.output) c.in_err-bench_by-2.field-0.0 c.from_residual-in_err-bench_by-2.result c.in_ok-bench_by.ensures.wrote c.in_err-bench_by-2.ensures.wrote ended

pub bench_by-requires-3-clause-returns : goal.bench_by-requires-3-clause-returns
bench_by-requires-3-clause-returns g c =
    it_returns riscv c.args.seed c.args.calls c.requires (riscv_needs_little c.args.seed) (script_of c.in_ok-script.script) c.in_ok-script.ensures.is

pub bench_by-requires-3-clause-short : goal.bench_by-requires-3-clause-short
bench_by-requires-3-clause-short g c =
    it_is_short riscv c.args.seed c.args.calls c.requires (riscv_needs_little c.args.seed) (script_of c.in_ok-script.script) c.in_ok-script.ensures.is

pub returns-clause-wrote : goal.returns-clause-wrote
returns-clause-wrote g c =
    third_ended c.args.seed c.args.calls (script_of c.in_ok-script.script) c.in_ok-script.ensures.is (g.O.Sink.state c.args.output.now) (g.O.Sink.state c.bench_by.new.output) (g.O.Sink.state c.bench_by-2.new.output) (g.O.Sink.state c.bench_by-3.new.output) c.bench_by-3.result c.in_ok-bench_by.ensures.wrote c.in_ok-bench_by-2.ensures.wrote c.bench_by-3.ensures.wrote
