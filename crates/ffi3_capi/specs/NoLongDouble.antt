-- Where no long double is told, a function is declared for calls on a target as it is for none. So what is answered for a target of such a declaration is what was answered before long doubles had formats.
use Rattle.std.specs.Prelude.{ℕ, List, None}
use Rattle.ffi3_type_spec.specs.Tree.{Tree}
use Rattle.ffi3_type_spec.specs.Signature.{Signature, HasNoLongDouble}
use Rattle.ffi3_format_theorem.specs.Laws.{TextTellsNoLongDouble, IsPlacedAsCalled}
use Rattle.ffi3_cdecl_spec.specs.Tokens.{Sign}
use Rattle.ffi3_nodes.specs.declared.Node.{Node}
use Rattle.ffi3_nodes.specs.Read.{TellNoLongDouble}
use Rattle.ffi3_capi.specs.declared.declaration.Declaration.{Declaration}
use Rattle.ffi3_capi.specs.declared.declaration.Declaration.TheVariants.{Text, Nodes}
use Rattle.ffi3_capi.specs.declared.fault.TextFault.{TextFault}
use Rattle.ffi3_capi.specs.ByNodes.{AreNodesOfType, AreNodesOfTypeIn, fixed_of}
use Rattle.ffi3_capi.specs.Chars.{char_sign}
use Rattle.ffi3_capi.specs.DeclaredBy.{IsDeclaredBy, IsDeclaredOn, IsFaultBy, IsFaultOn}
use Rattle.ffi3_capi.specs.Formats.{long_double_on}

-- text or nodes tell no long double
abbrev pub TellsNoLongDouble : Sign → Declaration → Type 0
TellsNoLongDouble c (Text text) = TextTellsNoLongDouble c text.now
TellsNoLongDouble c (Nodes nodes fixed) = TellNoLongDouble nodes.now (fixed_of fixed)

-- OF A DECLARATION: the target declares the same function, and has the same faults
pub record IsDeclaredTheSame (target : ℕ) (d : Declaration) : Type 0 where
  -- what can be called without formats is declared with them, whether the rest of the text tells one or not
  pub on_a_target : (s : Signature) → IsDeclaredBy (char_sign target) d s → IsDeclaredOn target d s
  pub on_none : TellsNoLongDouble (char_sign target) d → (s : Signature)
      → IsDeclaredOn target d s → IsDeclaredBy (char_sign target) d s
  pub fault_on_a_target : TellsNoLongDouble (char_sign target) d → (f : TextFault)
      → IsFaultBy (char_sign target) d f → IsFaultOn target d f
  pub fault_on_none : TellsNoLongDouble (char_sign target) d → (f : TextFault)
      → IsFaultOn target d f → IsFaultBy (char_sign target) d f

-- OF NODES THAT ARE A TYPE: they are the same type on the target
pub record IsTypeTheSame (target : ℕ) (ns : List Node) : Type 0 where
  pub on_a_target : (t : Tree) → AreNodesOfType ns t → AreNodesOfTypeIn (long_double_on target) ns t
  pub on_none : TellNoLongDouble ns None → (t : Tree)
      → AreNodesOfTypeIn (long_double_on target) ns t → AreNodesOfType ns t

pub record NoLongDoubleLaws : Type 0 where
  pub signatures : (s : Signature) → HasNoLongDouble s → IsPlacedAsCalled s
  pub declarations : (target : ℕ) (d : Declaration) → IsDeclaredTheSame target d
  pub types : (target : ℕ) (ns : List Node) → IsTypeTheSame target ns
