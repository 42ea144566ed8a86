use Rattle.std.proofs.Common.{subst, sym}
use Rattle.ffi3_format_spec.specs.SigText.{FixesSome}
use Rattle.ffi3_app.proofs.Working.{some_are_fixed}
use Rattle.ffi3_app.proofs.cplace.told_line.Goals as goal

pub signature_text-requires : goal.signature_text-requires
signature_text-requires c =
    subst FixesSome (sym c.sig.ensures) (some_are_fixed c.args.declaration.now.signature c.requires)
