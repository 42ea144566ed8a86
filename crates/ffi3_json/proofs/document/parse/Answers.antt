use Rattle.std.proofs.Common.{arith}
use Rattle.serde_json.specs.View.{view}
use Rattle.ffi3_json.proofs.Short.{within-read, short-within}
use Rattle.ffi3_json.proofs.document.parse.Goals as goal

pub returns-in-Ok-clause-short : goal.returns-in-Ok-clause-short
returns-in-Ok-clause-short c =
    short-within 1048577 (omega arith) (view c.in-Ok.value) (within-read 1048577 c.args.bytes.now (view c.in-Ok.value) (omega arith) c.in-Ok.ensures.ok.1)

pub returns-in-Ok-clause-few : goal.returns-in-Ok-clause-few
returns-in-Ok-clause-few c = within-read 1048577 c.args.bytes.now (view c.in-Ok.value) (omega arith) c.in-Ok.ensures.ok.1
