use Rattle.std.proofs.Common.{length, ap, ◌∙◌}
use Rattle.std.proofs.lemmas.List.{length-map}
use Rattle.ffi3_place.specs.WithoutCopy.{without_copy}
use Rattle.ffi3_aapcs64_spec.specs.Aapcs64.{untouched}
use Rattle.ffi3_apple_spec.specs.Apple.{spots_after}
use Rattle.ffi3_apple_spec.proofs.Ends.{spots_length}
use Rattle.ffi3_apple.proofs.plan_of.Goals as goal

pub lay_copies-copies_end-requires-clause-one_each : goal.lay_copies-copies_end-requires-clause-one_each
lay_copies-copies_end-requires-clause-one_each c =
    let s = c.args.sig.now in
    ap length c.in_ok-places.ensures.places ∙ length-map (spots_after s.fixed untouched 0 s.arguments) without_copy ∙ spots_length s.fixed untouched 0 s.arguments

pub lay_copies-copies_end-requires-clause-unlaid : goal.lay_copies-copies_end-requires-clause-unlaid
lay_copies-copies_end-requires-clause-unlaid c =
    (spots_after c.args.sig.now.fixed untouched 0 c.args.sig.now.arguments, c.in_ok-places.ensures.places)
