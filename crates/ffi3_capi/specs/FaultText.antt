-- The words of a fault: of a text as `cdecl` writes them behind the program's name.
use Rattle.std.specs.Prelude.{ℕ, List, [], ◌++◌, codes, Option, Some, None, slice_get}
use Rattle.std.specs.Fmt.{decimal}
use Rattle.ffi3_capi.specs.declared.fault.TextFault.{TextFault}
use Rattle.ffi3_capi.specs.declared.fault.FaultKind.{FaultKind}
use Rattle.ffi3_capi.specs.declared.fault.FaultKind.TheVariants.{NoFault, NotUtf8, BadToken, Unexpected, BadNumber}
use Rattle.ffi3_capi.specs.declared.fault.FaultKind.TheVariants.{BadTypedef, LeftOutLongDouble, LeftOutComplex}
use Rattle.ffi3_capi.specs.declared.fault.FaultKind.TheVariants.{LeftOutVector, TooLarge, TooDeep, TooMany, BadFixed}
use Rattle.ffi3_capi.specs.declared.fault.FaultKind.TheVariants.{BadVariadic, NodesEnded, UnknownKind, BadCount}
use Rattle.ffi3_capi.specs.declared.fault.FaultKind.TheVariants.{NodesTooDeep, TooManyNodes, NotOneType}
use Rattle.ffi3_capi.specs.declared.fault.FaultKind.TheVariants.{LaidOutOtherwise}
use Rattle.ffi3_capi.specs.Faults.{kinds}

abbrev pub kind_text : FaultKind → TextFault → List ℕ
kind_text NoFault f = []
kind_text NotUtf8 f = codes "not UTF-8"
kind_text BadToken f = codes "at " ++ (decimal f.offset ++ codes ": bad token")
kind_text Unexpected f = codes "at " ++ (decimal f.offset ++ codes ": unexpected")
kind_text BadNumber f = codes "at " ++ (decimal f.offset ++ codes ": bad number")
kind_text BadTypedef f = codes "bad typedef"
kind_text LeftOutLongDouble f = codes "left out: long double"
kind_text LeftOutComplex f = codes "left out: complex"
kind_text LeftOutVector f = codes "left out: vector"
kind_text TooLarge f = codes "too large: " ++ decimal f.number
kind_text TooDeep f = codes "too deep"
kind_text TooMany f = codes "too many arguments: " ++ decimal f.number
kind_text BadFixed f = codes "bad fixed: " ++ (decimal f.argument ++ (codes " of " ++ decimal f.number))
kind_text BadVariadic f = codes "bad variadic argument"
kind_text NodesEnded f = codes "at node " ++ (decimal f.offset ++ codes ": end")
kind_text UnknownKind f = codes "at node " ++ (decimal f.offset ++ codes ": unknown kind")
kind_text BadCount f = codes "at node " ++ (decimal f.offset ++ codes ": bad count")
kind_text NodesTooDeep f = codes "at node " ++ (decimal f.offset ++ codes ": too deep")
kind_text TooManyNodes f = codes "too many nodes: " ++ decimal f.number
kind_text NotOneType f = codes "not one type: " ++ decimal f.number
kind_text LaidOutOtherwise f = codes "laid out otherwise: member " ++ decimal f.number

-- what has no such kind has no words
abbrev pub text_by : Option FaultKind → TextFault → List ℕ
text_by None f = []
text_by (Some k) f = kind_text k f

abbrev pub fault_text : TextFault → List ℕ
fault_text f = text_by (slice_get kinds f.kind) f
