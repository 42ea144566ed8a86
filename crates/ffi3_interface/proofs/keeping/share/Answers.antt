use Rattle.std.proofs.Common.{rules}
use Rattle.ffi3_interface.specs.Keeping.{nothing, unshared}
use Rattle.ffi3_interface.proofs.Answering.{none_if, shared_as}
use Rattle.ffi3_interface.proofs.keeping.share.Goals as goal

pub returns-then-not-is_kept-clause-shared : goal.returns-then-not-is_kept-clause-shared
returns-then-not-is_kept-clause-shared c = nothing (none_if c.args.it.now.kept (search rules))

pub returns-in-Ok-clause-shared : goal.returns-in-Ok-clause-shared
returns-in-Ok-clause-shared c =
    shared_as c.value_mut-kept.result.now c.in-Ok.kept.value (search rules) c.in-Ok.ensures c.put.ensures

pub returns-in-Err-clause-shared : goal.returns-in-Err-clause-shared
returns-in-Err-clause-shared c = unshared c.value_mut-kept.result.now (search rules)
