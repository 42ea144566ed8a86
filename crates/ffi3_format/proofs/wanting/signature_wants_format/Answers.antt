use Rattle.std.proofs.Common.{◌∙◌, ap}
use Rattle.std.specs.Prelude.{◌||◌}
use Rattle.std.specs.List.{list_any}
use Rattle.ffi3_type_spec.specs.Tree.{trees_of}
use Rattle.ffi3_format_spec.specs.Format.{wants_format, want_format}
use Rattle.ffi3_format.proofs.Wants.{of_list}
use Rattle.ffi3_format.proofs.wanting.signature_wants_format.Goals as goal

pub returns : goal.returns
returns c =
    c.want_format.ensures ∙ ap (λ ts. want_format (trees_of ts)) c.args-2.ensures ∙ of_list c.args.sig.now.arguments ∙ ap (λ b. b || list_any wants_format c.args.sig.now.arguments) (c.if-wants_format.ensures ∙ ap wants_format c.ret.ensures)
