use Rattle.std.proofs.Common.{ap, sym, ◌∙◌, arith}
use Rattle.std.specs.Prelude.{length}
use Rattle.ffi3_type_spec.specs.Tree.{tree_at}
use Rattle.ffi3_type_spec.specs.Layout.{size_of}
use Rattle.ffi3_call_tests.proofs.slots.write_argument.Goals as goal

pub arg-ty-requires : goal.arg-ty-requires
arg-ty-requires g c =
    omega (arith, c.requires.within, ap (λ r. length r.arguments) c.checked_sig-sig.ensures.value)

pub write_value-requires : goal.write_value-requires
write_value-requires g c =
    c.arg-bytes.ensures.count ∙ ap size_of (sym (c.arg-ty.ensures ∙ ap (λ r. tree_at r.arguments c.args.i) c.checked_sig-sig.ensures.value))
