use Rattle.std.proofs.Common.{length, ap, ◌∙◌}
use Rattle.std.proofs.lemmas.List.{length-map}
use Rattle.ffi3_place.specs.WithoutCopy.{without_copy}
use Rattle.ffi3_aapcs64_spec.specs.Aapcs64.{untouched, spots_after}
use Rattle.ffi3_aapcs64_spec.proofs.Ends.{spots_length}
use Rattle.ffi3_aapcs64.proofs.plan_of.Goals as goal

pub lay_copies-copies_end-requires-clause-one_each : goal.lay_copies-copies_end-requires-clause-one_each
lay_copies-copies_end-requires-clause-one_each c =
    let ts = c.args.sig.now.arguments in
    ap length c.in_ok-places.ensures.places ∙ length-map (spots_after untouched ts) without_copy ∙ spots_length untouched ts

pub lay_copies-copies_end-requires-clause-unlaid : goal.lay_copies-copies_end-requires-clause-unlaid
lay_copies-copies_end-requires-clause-unlaid c =
    (spots_after untouched c.args.sig.now.arguments, c.in_ok-places.ensures.places)
