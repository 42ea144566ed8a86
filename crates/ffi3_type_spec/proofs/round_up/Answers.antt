use Rattle.ffi3_type_spec.specs.Layout.{least_multiple}
use Rattle.ffi3_type_spec.proofs.LeastMultiples.{least_of}
use Rattle.ffi3_type_spec.proofs.round_up.Goals as goal

pub returns-clause-value : goal.returns-clause-value
unfolding least_multiple
returns-clause-value c = c.next_multiple_of.ensures.value

pub returns-clause-least : goal.returns-clause-least
returns-clause-least c =
    record { multiple = c.next_multiple_of.ensures.multiple; not_below = c.next_multiple_of.ensures.lower_bound; least = λ k k0 above. least_of _ _ _ k c.next_multiple_of.ensures.multiple c.next_multiple_of.ensures.upper_bound k0 above }
