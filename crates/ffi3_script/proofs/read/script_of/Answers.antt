use Rattle.std.proofs.Common.{◌≡◌, ◌+◌, List, All, length, sym, ap, subst, true, ◌∙◌}
use Rattle.ffi3_type_spec.specs.Signature.{Signature}
use Rattle.ffi3_script_spec.specs.Typed.{function_is_typed}
use Rattle.ffi3_script.specs.PartsOf.{part_of}
use Rattle.ffi3_script.specs.declared.functions.FunctionPart.{FunctionPart}
use Rattle.ffi3_script.proofs.Making.{each-typed}
use Rattle.ffi3_script.proofs.read.script_of.Goals as goal

pub functions_of-requires-clause-typed : goal.functions_of-requires-clause-typed
functions_of-requires-clause-typed c =
    let p = c.args.parts in
    let count = c.len.result + c.args.natives in
    let counted : count ≡ length p.functions.items + c.args.natives = ap (λ n. n + c.args.natives) (c.len.ensures ∙ p.functions.ok.0) in
    subst (λ (ss : List Signature). All (λ (f : FunctionPart). function_is_typed ss count (part_of f) ≡ true) p.functions.items) (sym c.in_ok-sigs.ensures.ok)
    (each-typed p.version p.sigs c.args.natives p.functions.items p.main.items count counted c.requires.typed)
