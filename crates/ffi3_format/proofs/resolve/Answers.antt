use Rattle.std.proofs.Common.{sym}
use Rattle.ffi3_format_spec.proofs.Resolving.{own_signature}
use Rattle.ffi3_format.proofs.resolve.Goals as goal

pub returns-then-not-signature_wants_format : goal.returns-then-not-signature_wants_format
returns-then-not-signature_wants_format c =
    sym (own_signature c.args.format c.args.sig (sym c.if-not-signature_wants_format.ensures))
