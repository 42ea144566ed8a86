use Rattle.ffi3_cdecl.specs.TokenOf.{token_of}
use Rattle.ffi3_cdecl.specs.StateOf.{state_of}
use Rattle.ffi3_diagnostics.proofs.Reaching.{kept_lives}
use Rattle.ffi3_diagnostics.proofs.told.lives.Goals as goal

pub returns : goal.returns
returns c =
    kept_lives (state_of c.args.state) (state_of c.in_ok-next.next) (token_of c.args.token) c.is_dead-dead.result c.in_ok-next.ensures c.is_dead-dead.ensures
