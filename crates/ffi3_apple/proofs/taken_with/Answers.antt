use Rattle.ffi3_apple.proofs.taken_with.Goals as goal

pub returns-clause-value : goal.returns-clause-value
returns-clause-value c =
    let general = c.general_taken.ensures.value c.args.named in
    let vector = c.vector_taken.ensures.value c.args.named in
    λ i. record { general = general i; vector = vector i; stack = c.stack_taken.ensures.value i }
