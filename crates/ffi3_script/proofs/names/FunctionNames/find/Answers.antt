use Rattle.std.proofs.Common.{position, bytes_eq, ap, ◌∙◌}
use Rattle.ffi3_script_spec.specs.Values.{is_name_of}
use Rattle.ffi3_script.specs.Texts.{texts_of}
use Rattle.ffi3_script.proofs.Numbering.{named-position}
use Rattle.ffi3_script.proofs.names.FunctionNames.find.Goals as goal

pub returns : goal.returns
returns c =
    c.find.ensures ∙ ap (position (is_name_of c.args.name.now)) c.self.invariant ∙ named-position c.args.name.now (texts_of c.self.inside.index) ∙ ap (position (bytes_eq c.args.name.now)) c.self.view_is
