-- What a text or nodes declare, and why they declare nothing.
use Rattle.std.specs.Prelude.{ℕ}
use Rattle.ffi3_type_spec.specs.Signature.{Signature}
use Rattle.ffi3_cdecl_spec.specs.Tokens.{Sign}
use Rattle.ffi3_capi.specs.declared.declaration.Declaration.{Declaration}
use Rattle.ffi3_capi.specs.declared.declaration.Declaration.TheVariants.{Text, Nodes}
use Rattle.ffi3_capi.specs.declared.fault.TextFault.{TextFault}
use Rattle.ffi3_capi.specs.Chars.{char_sign}
use Rattle.ffi3_capi.specs.Formats.{long_double_on}
use Rattle.ffi3_capi.specs.Faults.{Declares, DeclaresIn, IsFaultOf, IsFaultIn}
use Rattle.ffi3_capi.specs.ByNodes.{AreNodesOf, AreNodesIn, IsFaultOfNodes, IsFaultOfNodesIn}

-- of no target, whose long doubles have no format
abbrev pub IsDeclaredBy : Sign → Declaration → Signature → Type 0
IsDeclaredBy c (Text text) = Declares c text.now
IsDeclaredBy c (Nodes nodes fixed) = AreNodesOf nodes.now fixed

abbrev pub IsFaultBy : Sign → Declaration → TextFault → Type 0
IsFaultBy c (Text text) = IsFaultOf c text.now
IsFaultBy c (Nodes nodes fixed) = IsFaultOfNodes nodes.now fixed

-- for calls on the target with this number
abbrev pub IsDeclaredOn : ℕ → Declaration → Signature → Type 0
IsDeclaredOn target (Text text) = DeclaresIn (long_double_on target) (char_sign target) text.now
IsDeclaredOn target (Nodes nodes fixed) = AreNodesIn (long_double_on target) nodes.now fixed

abbrev pub IsFaultOn : ℕ → Declaration → TextFault → Type 0
IsFaultOn target (Text text) = IsFaultIn (long_double_on target) (char_sign target) text.now
IsFaultOn target (Nodes nodes fixed) = IsFaultOfNodesIn (long_double_on target) nodes.now fixed
