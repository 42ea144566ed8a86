-- The reason that each Rust reason stands for, and the fault that stands for one of a script here.
use Rattle.ffi3_json.specs.ReasonOf as script
use Rattle.ffi3_json.specs.declared.fault.ScriptFault.{ScriptFault}
use Rattle.ffi3_json.specs.declared.fault.ScriptFault.TheVariants as scripts
use Rattle.ffi3_image_spec.specs.Object as object
use Rattle.ffi3_image.specs.declared.fault.ImageReason.{ImageReason}
use Rattle.ffi3_image.specs.declared.fault.ImageReason.TheVariants.{AsInScripts, UnknownTarget, BadNumber, TooShort}
use Rattle.ffi3_image.specs.declared.fault.ImageFault.{ImageFault}
use Rattle.ffi3_image.specs.declared.fault.ImageFault.TheVariants.{TooLong, BadJson, BadImage, NoMemory}

abbrev pub reason_of : ImageReason → object.Reason
reason_of (AsInScripts why) = object.as_in_scripts (script.reason_of why)
reason_of UnknownTarget = object.unknown_target
reason_of BadNumber = object.bad_number
reason_of (TooShort there wanted) = object.too_short there wanted

abbrev pub fault_of : ScriptFault → ImageFault
fault_of scripts.TooLong = TooLong
fault_of scripts.BadJson = BadJson
fault_of (scripts.BadScript path why) = BadImage path (AsInScripts why)
fault_of scripts.NoMemory = NoMemory
