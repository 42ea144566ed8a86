use Rattle.ffi3_cli.proofs.Answering.{clauses}
use Rattle.ffi3_cli.proofs.Stated.{stated_is_taken}
use Rattle.ffi3_cli.proofs.words.read_words.Goals as goal

pub returns-clause-takes : goal.returns-clause-takes
returns-clause-takes c = (clauses _ _ c.answer.ensures).takes

pub returns-clause-in_range : goal.returns-clause-in_range
returns-clause-in_range c = (clauses _ _ c.answer.ensures).in_range

pub returns-clause-refused : goal.returns-clause-refused
returns-clause-refused c = (clauses _ _ c.answer.ensures).refused

pub returns-clause-one : goal.returns-clause-one
returns-clause-one c = (clauses _ _ c.answer.ensures).one

pub returns-clause-stated : goal.returns-clause-stated
returns-clause-stated c r stated =
    (clauses _ _ c.answer.ensures).one r (stated_is_taken _ r stated)
