use Rattle.std.proofs.Common.{ap, sym, ◌∙◌}
use Rattle.std.specs.Prelude.{◌++◌}
use Rattle.ffi3_type_spec.specs.Names.{type_beside, type_names, wide_names}
use Rattle.ffi3_type_spec.proofs.Names.{beside-later, named_in_1, named_later}
use Rattle.ffi3_types.proofs.FfiType.from_name.Goals as goal

pub returns-then-version-eq1 : goal.returns-then-version-eq1
returns-then-version-eq1 c =
    c.narrow.ensures ∙ sym (named_in_1 c.args.version c.args.name.now c.if-version-eq1.true)

pub returns-in-uint128 : goal.returns-in-uint128
returns-in-uint128 c =
    sym (named_later c.args.version c.args.name.now c.if-version-eq1.false ∙ ap (λ word. type_beside word (wide_names ++ type_names)) c.in-uint128.is)

pub returns-in-sint128 : goal.returns-in-sint128
returns-in-sint128 c =
    sym (named_later c.args.version c.args.name.now c.if-version-eq1.false ∙ ap (λ word. type_beside word (wide_names ++ type_names)) c.in-sint128.is)

pub returns-in_default : goal.returns-in_default
returns-in_default c =
    c.narrow-in_default.ensures ∙ sym (named_later c.args.version c.args.name.now c.if-version-eq1.false ∙ beside-later c.args.name.now wide_names type_names (c.in_default.not-uint128, (c.in_default.not-sint128, tt)))
