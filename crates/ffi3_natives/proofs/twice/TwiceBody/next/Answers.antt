use Rattle.std.proofs.Common.{◌≡◌, ℕ, ◌≤◌, true, List, [], ◌∷◌, length, arith}
use Rattle.std.specs.Prelude.{slice_index_or}
use Rattle.ffi3_type_spec.specs.Tree.{scalar, s64}
use Rattle.ffi3_type_spec.specs.Value.{ValueTree, void_value, fits}
use Rattle.ffi3_semantics_spec.specs.SeenActivation.{arguments_of}
use Rattle.ffi3_semantics_spec.specs.Follow.{ResultsFollow}
use Rattle.ffi3_natives.specs.Natives.{calling_signatures, twice_behaviour}
use Rattle.ffi3_natives.proofs.twice.TwiceBody.next.Goals as goal

-- the second call's result has its type
second_fits : (arguments : List ValueTree) (user : ℕ) (rs : List ValueTree) → ResultsFollow calling_signatures twice_behaviour arguments user rs → 2 ≤ length rs → fits (scalar s64) (slice_index_or rs 1 void_value) ≡ true
second_fits arguments user [] follow two = absurd (omega arith)
second_fits arguments user (r ∷ []) follow two = absurd (omega arith)
second_fits arguments user (r ∷ s ∷ rs) follow two = follow 1 (omega arith)

pub return_result-requires-clause-number : goal.return_result-requires-clause-number
return_result-requires-clause-number c =
    second_fits (arguments_of c.args.seen.now) c.args.seen.now.user c.args.seen.now.results c.requires.follow (omega arith)
