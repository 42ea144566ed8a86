use Rattle.ffi3_cdecl.specs.TokenOf.{token_of}
use Rattle.ffi3_cdecl.specs.SaidOf.{kind_of}
use Rattle.ffi3_cdecl.specs.StateOf.{head_of, state_of}
use Rattle.ffi3_cdecl.proofs.Settling.{itself_some_open}
use Rattle.ffi3_cdecl.proofs.declarator.itself_or_bracket.Goals as goal

pub returns-else-n-eq0 : goal.returns-else-n-eq0
returns-else-n-eq0 c =
    itself_some_open (kind_of c.args.k) c.args.n (head_of c.args.head) c.args.types (token_of c.args.token) (state_of c.itself_in_bracket.result) c.if-n-eq0.false c.itself_in_bracket.ensures
