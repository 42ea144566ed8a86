use Rattle.std.proofs.Common.{ℕ, ◌+◌, List, ◌++◌, ap, ◌∙◌}
use Rattle.std.proofs.lemmas.List.{take-replicate}
use Rattle.ffi3_type_spec.specs.declared.limits.TheConstants.{LARGEST_TYPE}
use Rattle.ffi3_capi.proofs.each.push_zeros.Goals as goal

pub returns : goal.returns
returns c =
    c.in_ok-extend.ensures.ok ∙ ap (λ (z : List ℕ). c.args.bytes.now ++ z) (take-replicate c.args.n (LARGEST_TYPE + 8) 0 c.requires)
