use Rattle.std.proofs.Common.{rules}
use Rattle.ffi3_capi.specs.Formats.{long_double_on}
use Rattle.ffi3_capi.proofs.ByNodes.{of_more_types, of_no_function}
use Rattle.ffi3_capi.proofs.whole.find_type_on.Goals as goal

pub returns-then-count-gt0-clause-err : goal.returns-then-count-gt0-clause-err
returns-then-count-gt0-clause-err c =
    of_more_types c.long_double_on.result (long_double_on c.args.target) c.args.nodes.now c.in-Ok.sig c.count-count.result c.fault_of_value.result c.long_double_on.ensures c.in-Ok.ensures.ok (search rules) c.if-count-gt0.true (search rules)

pub returns-in-Err-Some-clause-err : goal.returns-in-Err-Some-clause-err
returns-in-Err-Some-clause-err c =
    of_no_function c.long_double_on.result (long_double_on c.args.target) c.args.nodes.now c.in-Err-Some.fault c.long_double_on.ensures (c.in-Err-Some.ensures.err c.in-Err-Some.fault (search rules))
