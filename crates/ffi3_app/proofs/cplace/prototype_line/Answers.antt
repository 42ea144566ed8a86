use Rattle.std.proofs.Common.{subst, sym}
use Rattle.ffi3_format_spec.specs.SigText.{FixesSome}
use Rattle.ffi3_app.proofs.Working.{some_are_fixed}
use Rattle.ffi3_app.proofs.cplace.prototype_line.Goals as goal

pub prototype_text-requires : goal.prototype_text-requires
prototype_text-requires c =
    subst FixesSome (sym c.sig.ensures) (some_are_fixed c.args.declaration.now.signature c.requires)
