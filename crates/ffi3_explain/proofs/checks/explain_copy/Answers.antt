use Rattle.std.specs.Prelude.{cond, ◌==◌, Option, None}
use Rattle.std.proofs.Common.{◌≡◌, ℕ, ◌+◌, ap, arith}
use Rattle.ffi3_place_spec.specs.Image.{word_at}
use Rattle.ffi3_explain_spec.specs.declared.Check.{Check}
use Rattle.ffi3_explain.specs.ImageOf.{image_of}
use Rattle.ffi3_explain.proofs.Loops.{is_same}
use Rattle.ffi3_explain.proofs.checks.explain_copy.Goals as goal

-- a place that holds what is wanted
not_broken : (found wants : ℕ) (broken : Option Check) → found ≡ wants → cond (found == wants) None broken ≡ None
not_broken found wants broken same =
    ap (λ b. cond b None broken) (is_same found wants same)

pub returns-clause-held : goal.returns-clause-held
returns-clause-held c =
    let found = word_at (image_of c.args.image.now) c.args.base c.args.at in
    let wants = c.args.image.now.sp + c.args.base + c.args.copy in
    let same : found ≡ wants = omega (arith, c.place_word.ensures) in
    not_broken found wants _ same
