use Rattle.std.proofs.Common.{rules, ◌≡◌, ◌++◌}
use Rattle.ffi3_script_spec.specs.Meaning.{program_of}
use Rattle.ffi3_script.specs.ScriptOf.{script_of}
use Rattle.ffi3_app_spec.specs.BenchText.{counts_text}
use Rattle.ffi3_bench.proofs.ThreeLines.{measured_line}
use Rattle.ffi3_bench.proofs.lines.bench_by.Goals as goal

pub returns-clause-wrote : goal.returns-clause-wrote
returns-clause-wrote g c =
    let m = c.in_ok-measured.measured in
    let is : c.as_slice.result.now ≡ (c.args.target.now ++ counts_text m.calls m.moves m.need) ++ m.line.taken = search rules in
    measured_line c.args.target.now (program_of g.A.Abi.standard (script_of c.args.script.now)) m.calls m.moves m.need m.line.taken c.as_slice.result.now is c.in_ok-measured.ensures.calls c.in_ok-measured.ensures.moves c.in_ok-measured.ensures.need c.in_ok-measured.ensures.line (g.O.Sink.state c.args.output.now) (g.O.Sink.state c.write_line.new.output) c.write_line.result c.write_line.ensures
