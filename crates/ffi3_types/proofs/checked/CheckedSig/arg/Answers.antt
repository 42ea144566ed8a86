use Rattle.std.proofs.Common.{◌<◌, length, sym, subst}
use Rattle.ffi3_type_spec.specs.Signature.{Signature}
use Rattle.ffi3_type_spec.proofs.Right.{argument_is_laid_out}
use Rattle.ffi3_types.proofs.checked.CheckedSig.arg.Goals as goal

pub of-requires : goal.of-requires
of-requires c =
    let below = subst (λ (s : Signature). c.args.i < length s.arguments) (sym c.self.view_is) c.requires in
    rw c.arg.ensures (argument_is_laid_out c.self.inside.sig.now c.self.invariant c.args.i below)
