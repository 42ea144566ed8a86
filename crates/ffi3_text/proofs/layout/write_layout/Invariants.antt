use Rattle.std.proofs.Common.{◌≡◌, ◌++◌, take}
use Rattle.ffi3_type_spec.specs.Layout.{leaves_of}
use Rattle.ffi3_text_spec.specs.LayoutLines.{leaf_texts}
use Rattle.ffi3_text.proofs.layout.write_layout.Given as goal

abbrev pub invariant-loop-i : goal.invariant-loop-i
invariant-loop-i l = l.text ≡ l.initial.text ++ leaf_texts (take l.i (leaves_of l.ty))
