-- Lines of a trace, as a recorded event tells them.
use Rattle.std.specs.Prelude.{ℕ, ◌<◌, List, ◌++◌, map, codes}
use Rattle.std.specs.List.{concat, join_with_byte}
use Rattle.ffi3_type_spec.specs.Tree.{trees_of}
use Rattle.ffi3_type_spec.specs.Signature.{Signature}
use Rattle.ffi3_type_spec.specs.Value.{ValueTree, values_of}
use Rattle.ffi3_type_spec.specs.ValueText.{value_text_of, value_texts_of}
use Rattle.ffi3_place_spec.specs.declared.Loc.{Loc}
use Rattle.ffi3_place_spec.specs.declared.Loc.TheVariants.{G, F, S}
use Rattle.ffi3_place_spec.specs.Image.{register}
use Rattle.ffi3_place_spec.specs.Standard.{Standard}
use Rattle.ffi3_place_spec.specs.Event.{Event}
use Rattle.ffi3_semantics_spec.specs.Lines.{a_line, address_text, word_text}

-- one of the machine's 32 general and 32 floating registers
abbrev pub IsRegister : Loc → Type 0
IsRegister (G k) = k < 32
IsRegister (F k) = k < 32
IsRegister (S n w) = ⊥

-- THE LINE OF AN ENTRY: the closure's address, the stack pointer, and the arguments
abbrev pub enter_text_of : Signature → Event → List ValueTree → List ℕ
enter_text_of s e args =
    a_line
    (codes "enter " ++ address_text e.closure ++ codes " sp " ++ address_text e.image.sp
    ++ codes " (" ++ join_with_byte 44 (value_texts_of (trees_of s.arguments) (values_of args)) ++ codes ")")

-- THE LINE OF A RETURN: the stack pointer, and the result
abbrev pub leave_text_of : Signature → Event → ValueTree → List ℕ
leave_text_of s e r =
    a_line (codes "leave sp " ++ address_text e.image.sp ++ codes " " ++ value_text_of s.result_type r)

-- what a register held, as 16 hexadecimal digits after a space
abbrev pub register_text : Event → Loc → List ℕ
register_text e at = codes " " ++ word_text (register e.image at)

-- THE LINE OF THE PRESERVED REGISTERS of an entry or a return, in the standard's order
abbrev pub keep_text_of : Standard → Event → List ℕ
keep_text_of std e =
    a_line (codes "keep" ++ concat (map (register_text e) std.callee_saved))
