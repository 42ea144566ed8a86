use Rattle.std.proofs.Common.{rules}
use Rattle.ffi3_interface.proofs.Answering.{none_if, no_sizes_as, sizes_as}
use Rattle.ffi3_interface.proofs.numbers.find_sizes.Goals as goal

pub returns-then-not-is_kept-clause-told : goal.returns-then-not-is_kept-clause-told
returns-then-not-is_kept-clause-told c =
    no_sizes_as c.no_sizes.result (none_if c.args.it.now.kept (search rules)) c.no_sizes.ensures

pub returns-clause-told : goal.returns-clause-told
returns-clause-told c =
    sizes_as c.value_mut-kept.result.now c.deref.result.now c.sizes_in.result (search rules) c.deref.ensures c.sizes_in.ensures
