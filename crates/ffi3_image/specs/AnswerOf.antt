-- The answer that each Rust answer stands for, and what is answered about an image of which it is not known whether it has room.
use Rattle.std.specs.Prelude.{◌≡◌, ⊤}
use Rattle.ffi3_type_spec.specs.Signature.{Signature}
use Rattle.ffi3_place_spec.specs.Image.{Image}
use Rattle.ffi3_place_spec.specs.Standard.{Standard}
use Rattle.ffi3_image_spec.specs.declared.Question.{Question}
use Rattle.ffi3_image_spec.specs.Object.{Read, read, fault}
use Rattle.ffi3_image_spec.specs.Room.{check_room_for}
use Rattle.ffi3_image_spec.specs.Lines.{fault_line, too_long_line, not_json_line}
use Rattle.ffi3_image_spec.specs.Answer.{Answer, text, refusal, answer_by}
use Rattle.ffi3_image.specs.FaultOf.{reason_of}
use Rattle.ffi3_image.specs.declared.answers.Answer.{Answer as CodeAnswer}
use Rattle.ffi3_image.specs.declared.answers.Answer.TheVariants.{Text, Refusal}
use Rattle.ffi3_image.specs.declared.fault.ImageFault.{ImageFault}
use Rattle.ffi3_image.specs.declared.fault.ImageFault.TheVariants.{TooLong, BadJson, BadImage, NoMemory}

abbrev pub answer_of : CodeAnswer → Answer
answer_of (Text lines) = text lines
answer_of (Refusal line) = refusal line

-- an image without room is refused
abbrev pub answer_if_room : Question → Standard → Signature → Image → Read ⊤ → Answer
answer_if_room question std s m (read enough) = answer_by question std s m
answer_if_room question std s m (fault path reason) = refusal (fault_line path reason)

abbrev pub answer_about : Question → Standard → Signature → Image → Answer
answer_about question std s m =
    answer_if_room question std s m (check_room_for question std s m)

-- A fault is told as this refusal. Want of memory is told as none.
abbrev pub IsToldAs : ImageFault → Answer → Type 0
IsToldAs TooLong a = a ≡ refusal too_long_line
IsToldAs BadJson a = a ≡ refusal not_json_line
IsToldAs (BadImage path why) a = a ≡ refusal (fault_line path (reason_of why))
IsToldAs NoMemory a = ⊥
