-- How much of the stack an image has to have for a question.
use Rattle.std.specs.Prelude.{ℕ, ◌+◌, ◌^◌, cond, nat_le, nat_lt, length, codes, ⊤}
use Rattle.ffi3_type_spec.specs.Signature.{Signature}
use Rattle.ffi3_place_spec.specs.Image.{Image}
use Rattle.ffi3_place_spec.specs.Standard.{Standard, frame_of}
use Rattle.ffi3_script_spec.specs.Language.{under, out_of_range}
use Rattle.ffi3_explain_spec.specs.Arguments.{least_stack}
use Rattle.ffi3_image_spec.specs.declared.Question.{Question}
use Rattle.ffi3_image_spec.specs.declared.Question.TheVariants.{Explained, ByStandard}
use Rattle.ffi3_image_spec.specs.Object.{Read, read, fault, as_in_scripts, too_short, root}

-- so many bytes from the stack pointer on end below 2^64, and at least so many are there
abbrev pub check_room : ℕ → Image → Read ⊤
check_room least m =
    cond (nat_lt (m.sp + least) (2 ^ 64))
    (cond (nat_le least (length m.stack)) (read tt)
    (fault (under root (codes "stack")) (too_short (length m.stack) least)))
    (fault (under root (codes "sp")) (as_in_scripts out_of_range))

-- the return address and the whole frame
abbrev pub whole_call : Standard → Signature → ℕ
whole_call std s = std.link + frame_of std s

-- what a question needs: the whole frame, or as far as the places of the arguments reach, since a compiler's caller may have its copies elsewhere
abbrev pub least_for : Question → Standard → Signature → ℕ
least_for Explained std s = whole_call std s
least_for ByStandard std s = least_stack std s

-- THE IMAGE HAS ROOM for the question
abbrev pub check_room_for : Question → Standard → Signature → Image → Read ⊤
check_room_for question std s m = check_room (least_for question std s) m
