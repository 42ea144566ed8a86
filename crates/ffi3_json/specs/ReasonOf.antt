-- The reason that each Rust reason stands for.
use Rattle.std.specs.Prelude.{string_bytes}
use Rattle.ffi3_script_spec.specs.Language as language
use Rattle.ffi3_json.specs.declared.reason.Reason.{Reason}
use Rattle.ffi3_json.specs.declared.reason.Reason.TheVariants.{NotAnObject, NotAnArray, UnknownKey, MissingKey}
use Rattle.ffi3_json.specs.declared.reason.Reason.TheVariants.{VersionNotKnown, NotAType, UnknownType, NotACount}
use Rattle.ffi3_json.specs.declared.reason.Reason.TheVariants.{BadTypedef, LeftOutLongDouble, LeftOutComplex}
use Rattle.ffi3_json.specs.declared.reason.Reason.TheVariants.{LeftOutVector, TooLarge, TooDeep, TooManyArguments}
use Rattle.ffi3_json.specs.declared.reason.Reason.TheVariants.{BadFixed, BadVariadicArgument, BadDeclaration, BadName}
use Rattle.ffi3_json.specs.declared.reason.Reason.TheVariants.{NameTwice, NoSuchSignature, NoSuchFunction, NotAMove}
use Rattle.ffi3_json.specs.declared.reason.Reason.TheVariants.{VoidResult, WrongCount, NotNull, NoReturnAtTheEnd}
use Rattle.ffi3_json.specs.declared.reason.Reason.TheVariants.{NotAnInteger, BadInteger, OutOfRange, BadBytes}
use Rattle.ffi3_json.specs.declared.reason.Reason.TheVariants.{WrongType, NotAValue, NoTypeOfItsOwn, NoSuchArgument}
use Rattle.ffi3_json.specs.declared.reason.Reason.TheVariants.{NoSuchResult, NoSuchField}

abbrev pub reason_of : Reason → language.Reason
reason_of NotAnObject = language.not_an_object
reason_of NotAnArray = language.not_an_array
reason_of UnknownKey = language.unknown_key
reason_of (MissingKey name) = language.missing_key (string_bytes name)
reason_of VersionNotKnown = language.version_not_known
reason_of NotAType = language.not_a_type
reason_of UnknownType = language.unknown_type
reason_of NotACount = language.not_a_count
reason_of BadTypedef = language.bad_typedef
reason_of LeftOutLongDouble = language.left_out_long_double
reason_of LeftOutComplex = language.left_out_complex
reason_of LeftOutVector = language.left_out_vector
reason_of (TooLarge size) = language.too_large size
reason_of TooDeep = language.too_deep
reason_of (TooManyArguments n) = language.too_many_arguments n
reason_of (BadFixed fixed n) = language.bad_fixed fixed n
reason_of BadVariadicArgument = language.bad_variadic_argument
reason_of (BadDeclaration at) = language.bad_declaration at
reason_of BadName = language.bad_name
reason_of NameTwice = language.name_twice
reason_of NoSuchSignature = language.no_such_signature
reason_of NoSuchFunction = language.no_such_function
reason_of NotAMove = language.not_a_move
reason_of VoidResult = language.void_result
reason_of WrongCount = language.wrong_count
reason_of NotNull = language.not_null
reason_of NoReturnAtTheEnd = language.no_return_at_the_end
reason_of NotAnInteger = language.not_an_integer
reason_of BadInteger = language.bad_integer
reason_of OutOfRange = language.out_of_range
reason_of BadBytes = language.bad_bytes
reason_of WrongType = language.wrong_type
reason_of NotAValue = language.not_a_value
reason_of NoTypeOfItsOwn = language.no_type_of_its_own
reason_of NoSuchArgument = language.no_such_argument
reason_of NoSuchResult = language.no_such_result
reason_of NoSuchField = language.no_such_field
