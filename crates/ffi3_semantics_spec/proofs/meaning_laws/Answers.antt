use Rattle.ffi3_semantics_spec.proofs.Recursion.{is_plain_recursion}
use Rattle.ffi3_semantics_spec.proofs.MoreStack.{more_stack_is_the_same}
use Rattle.ffi3_semantics_spec.proofs.meaning_laws.Goals as goal

pub returns-clause-recursion : goal.returns-clause-recursion
returns-clause-recursion c = is_plain_recursion

pub returns-clause-more_stack : goal.returns-clause-more_stack
returns-clause-more_stack c = more_stack_is_the_same
