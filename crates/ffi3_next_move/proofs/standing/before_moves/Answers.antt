use Rattle.ffi3_script_body.specs.BodyOf.{signatures_of, meaning_of}
use Rattle.ffi3_next_move.proofs.Asked.{no_results_follow}
use Rattle.ffi3_next_move.proofs.standing.before_moves.Goals as goal

pub returns : goal.returns
returns c a own none =
    let b = c.args.body.now in
    record { own = own; follow = no_results_follow (signatures_of b) (meaning_of b) a none; agrees = c.cursor.ensures a own }
