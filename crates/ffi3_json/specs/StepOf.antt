-- The step of a place that each Rust step stands for.
use Rattle.std.specs.Prelude.{string_bytes}
use Rattle.ffi3_script_spec.specs.JsonPath.{PathStep, key, number}
use Rattle.ffi3_json.specs.declared.place.Step.{Step}
use Rattle.ffi3_json.specs.declared.place.Step.TheVariants.{Key, Number}
use Rattle.ffi3_json.specs.declared.json_path.BorrowedStep.{BorrowedStep}
use Rattle.ffi3_json.specs.declared.json_path.BorrowedStep.TheVariants as borrowed

abbrev pub step_of : Step → PathStep
step_of (Key k) = key (string_bytes k)
step_of (Number n) = number n

abbrev pub borrowed_step_of : BorrowedStep → PathStep
borrowed_step_of (borrowed.Key k) = key k.now
borrowed_step_of (borrowed.Number n) = number n
