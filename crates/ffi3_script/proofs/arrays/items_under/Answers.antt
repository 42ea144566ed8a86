use Rattle.ffi3_script.proofs.RootParts.{within-items}
use Rattle.ffi3_script.proofs.arrays.items_under.Goals as goal

pub returns-clause-within : goal.returns-clause-within
returns-clause-within c = λ n h.
    (within-items n c.args.name.now c.args.value.now c.in-Some.inside c.in-Some-items.items c.in-Some.ensures.value c.in-Some-items.ensures.value h).0
