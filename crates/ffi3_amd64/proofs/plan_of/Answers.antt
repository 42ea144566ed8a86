use Rattle.std.proofs.Common.{ap, sym, ◌∙◌, refl}
use Rattle.ffi3_place_spec.specs.Standard.{result_at}
use Rattle.ffi3_place_spec.proofs.Planned.{planned_is}
use Rattle.ffi3_amd64_spec.specs.Amd64.{amd64, taken_at_first, result_spot_of}
use Rattle.ffi3_amd64_spec.proofs.Steps.{places_without_copies, ends_without_copies}
use Rattle.ffi3_amd64.proofs.plan_of.Goals as goal

pub returns : goal.returns
returns c =
    let s = c.args.sig.now in
    let first = taken_at_first s.result_type in
    let spot = result_spot_of s.result_type in
    let copied = c.round_up-copies_end.result in
    let placed = c.in_ok-all.ensures.places ∙ places_without_copies amd64.copy_start 0 copied first s.arguments in
    let copies = sym (ends_without_copies amd64.copy_start copied first s.arguments) in
    let returned = rw c.ret-2.ensures at c.in_ok-res.ensures in
    let before = returned ∙ ap (λ t. result_at amd64.copy_start copied t spot) (sym c.ret-3.ensures) in
    let ends = c.buffer_end-end.ensures.value amd64.copy_start spot before in
    c.planned.ensures s c.in_ok-all.ensures.sizes ∙ planned_is amd64 s _ copied _ copied _ _ _ _ (ap (λ a. a.stack) c.in_ok-all.ensures.taken) c.round_up-copies_end.ensures.value placed copies returned (rw c.ret-3.ensures at ends) refl (ap (λ a. a.vector) c.in_ok-all.ensures.taken)
