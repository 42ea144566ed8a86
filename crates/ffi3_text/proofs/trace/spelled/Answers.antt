use Rattle.std.proofs.Common.{arith}
use Rattle.ffi3_text.proofs.Words.{spelled_as}
use Rattle.ffi3_text.proofs.trace.spelled.Goals as goal

pub returns : goal.returns
returns c =
    spelled_as c.args.word _ _ _ _ _ _ _ _ _ _ _ _ _ _ _ _ (omega (arith, c.ranges.word.fits)) c.last_digit.ensures c.last_digit-2.ensures c.last_digit-3.ensures c.last_digit-4.ensures c.last_digit-5.ensures c.last_digit-6.ensures c.last_digit-7.ensures c.last_digit-8.ensures c.last_digit-9.ensures c.last_digit-10.ensures c.last_digit-11.ensures c.last_digit-12.ensures c.last_digit-13.ensures c.last_digit-14.ensures c.last_digit-15.ensures c.last_digit-16.ensures
