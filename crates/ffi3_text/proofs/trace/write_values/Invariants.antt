use Rattle.std.proofs.Common.{◌≡◌, ◌++◌}
use Rattle.ffi3_type_spec.proofs.ValueTexts.{element_texts, joined}
use Rattle.ffi3_text.proofs.trace.write_values.Given as goal

abbrev pub invariant-loop-i : goal.invariant-loop-i
invariant-loop-i l = l.text ≡ l.initial.text ++ joined (element_texts l.types l.values) l.i
