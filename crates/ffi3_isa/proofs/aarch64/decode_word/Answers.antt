use Rattle.ffi3_isa.specs.Aarch64.{trampoline}
use Rattle.ffi3_isa.proofs.Words.{first_only, second_listed}
use Rattle.ffi3_isa.proofs.aarch64.decode_word.Goals as goal

pub returns-in-Some-clause-listed : goal.returns-in-Some-clause-listed
returns-in-Some-clause-listed c = trampoline c.in-Some.ensures.listed

pub returns-in-Some-clause-only : goal.returns-in-Some-clause-only
returns-in-Some-clause-only c i is = first_only c.args.word i c.in-Some.instr c.in-Some.ensures.listed c.in-Some.ensures.only is

pub returns-clause-listed : goal.returns-clause-listed
returns-clause-listed c = second_listed c.args.word c.decode_stub.result c.decode_stub.ensures.listed
