use Rattle.ffi3_cli.proofs.Refusals.{one_request}
use Rattle.ffi3_app.proofs.Saying.{completes, two_asks_nothing, knows_words, read_count, write_count, tell_count}
use Rattle.ffi3_app.proofs.top.ffi3.Goals as goal

pub returns-clause-complete : goal.returns-clause-complete
returns-clause-complete g c =
    completes _ _ _ _ _ _ _ _ _ _ c.answer.result c.answer.ensures

pub returns-clause-knows_words : goal.returns-clause-knows_words
returns-clause-knows_words g c =
    knows_words _ _ _ _ _ _ _ _ _ _ c.answer.result c.answer.ensures

pub returns-clause-refused_ask_nothing : goal.returns-clause-refused_ask_nothing
returns-clause-refused_ask_nothing g c =
    two_asks_nothing _ _ _ _ _ _ _ _ _ _ c.answer.result c.answer.ensures

pub returns-clause-ask_one : goal.returns-clause-ask_one
returns-clause-ask_one g c = one_request _

pub returns-clause-read_counted : goal.returns-clause-read_counted
returns-clause-read_counted g c =
    read_count _ _ _ _ _ _ _ _ _ _ c.answer.result c.answer.ensures

pub returns-clause-write_counted : goal.returns-clause-write_counted
returns-clause-write_counted g c =
    write_count _ _ _ _ _ _ _ _ _ _ c.answer.result c.answer.ensures

pub returns-clause-telling_counted : goal.returns-clause-telling_counted
returns-clause-telling_counted g c =
    tell_count _ _ _ _ _ _ _ _ _ _ c.answer.result c.answer.ensures
