use Rattle.std.proofs.Common.{length, ap, ◌∙◌}
use Rattle.std.proofs.lemmas.List.{length-map}
use Rattle.ffi3_place.specs.WithoutCopy.{without_copy}
use Rattle.ffi3_riscv_spec.specs.Riscv.{placing_of}
use Rattle.ffi3_riscv_spec.proofs.Ends.{one_each}
use Rattle.ffi3_riscv.proofs.plan_of.Goals as goal

pub lay_copies-copies_end-requires-clause-one_each : goal.lay_copies-copies_end-requires-clause-one_each
lay_copies-copies_end-requires-clause-one_each c =
    ap (λ ps. length ps) c.in_ok-places.ensures.places ∙ length-map (placing_of c.args.sig.now).arguments without_copy ∙ one_each c.args.sig.now

pub lay_copies-copies_end-requires-clause-unlaid : goal.lay_copies-copies_end-requires-clause-unlaid
lay_copies-copies_end-requires-clause-unlaid c =
    ((placing_of c.args.sig.now).arguments, c.in_ok-places.ensures.places)
