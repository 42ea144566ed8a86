use Rattle.std.proofs.Common.{position, ap, ◌∙◌}
use Rattle.ffi3_script_spec.specs.Values.{is_name_of}
use Rattle.ffi3_script.proofs.names.NameIndex.find.Goals as goal

pub returns : goal.returns
returns c =
    c.copied.ensures ∙ c.get.ensures.value ∙ c.self.invariant c.args.name.now ∙ ap (position (is_name_of c.args.name.now)) c.self.view_is
