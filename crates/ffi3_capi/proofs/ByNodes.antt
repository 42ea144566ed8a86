-- What is told of nodes, and of those that declare no function or are no type.
use Rattle.std.proofs.Common.{◌≡◌, ℕ, ◌+◌, ◌<◌, List, length, ap, sym, subst, ◌∙◌, arith}
use Rattle.std.specs.Prelude.{Option, Some}
use Rattle.ffi3_type_spec.specs.Signature.{Signature, SignatureHasNoFault, SignatureIsPlaced}
use Rattle.ffi3_format_spec.specs.declared.Format.{Format}
use Rattle.ffi3_types.specs.FaultOf.{path_of, fault_of}
use Rattle.ffi3_types.specs.SignatureFaultOf.{signature_fault_of}
use Rattle.ffi3_nodes.specs.declared.Node.{Node}
use Rattle.ffi3_nodes.specs.Nodes.{IsSignatureOf}
use Rattle.ffi3_nodes.specs.Read.{node_fault_of, AreNodesOfTypes, IsRefused, IsUncallable, IsSignatureFor, IsRefusedFor, IsUnplaceable, IsRefusedType, IsOfNoResult, AreOfOthers, HasNoResultType}
use Rattle.ffi3_nodes.specs.declared.signature.Refused.{Refused}
use Rattle.ffi3_nodes.specs.declared.signature.Refused.TheVariants as of_nodes
use Rattle.ffi3_nodes.specs.declared.single.RefusedType.{RefusedType}
use Rattle.ffi3_nodes.specs.declared.single.RefusedType.TheVariants as of_type
use Rattle.ffi3_capi.specs.declared.codes.TheConstants.{NOT_VARIADIC}
use Rattle.ffi3_capi.specs.declared.fault.TextFault.{TextFault}
use Rattle.ffi3_capi.specs.declared.fault.FaultKind.TheVariants.{NotOneType}
use Rattle.ffi3_capi.specs.Faults.{fault_of_value}
use Rattle.ffi3_capi.specs.ByNodes.{fixed_of, AreNodesOf, AreNodesIn, IsFaultOfNodes, too_long, no_nodes, not_called, IsFaultOfNodesIn, so_many, no_signature, not_placed, IsFaultOfTypeIn, no_function, of_arguments, IsFaultOfType, too_many, no_types, several, no_result}
use Rattle.ffi3_capi.specs.Told.{nodes_told, type_told}

pub declared_nodes : (ns : List Node) (fixed : ℕ) (o : Option ℕ) (s : Signature) → o ≡ fixed_of fixed → IsSignatureOf ns o s → ((other : Signature) → IsSignatureOf ns o other → other ≡ s) → SignatureHasNoFault s → AreNodesOf ns fixed s
declared_nodes ns fixed o s is written only right = record {
  written = subst (λ (p : Option ℕ). IsSignatureOf ns p s) is written;
  only = λ other w. only other (subst (λ (p : Option ℕ). IsSignatureOf ns p other) (sym is) w);
  faultless = right;
}

some_same : (a b : TextFault) → Some a ≡ Some b → a ≡ b
some_same a b same = cc

pub is_nodes_fault : (ns : List Node) (fixed : ℕ) (o : Option ℕ) (r : Refused) (f : TextFault) → o ≡ fixed_of fixed → IsRefused ns o r → IsUncallable ns o r → nodes_told (length ns) r ≡ Some f → IsFaultOfNodes ns fixed f
is_nodes_fault ns fixed o of_nodes.TooLong f is why none told = subst (IsFaultOfNodes ns fixed) (some_same _ f told) (too_long why (λ s w. none s (subst (λ (p : Option ℕ). IsSignatureOf ns p s) (sym is) w)))
is_nodes_fault ns fixed o (of_nodes.Nodes e) f is why none told =
    subst (IsFaultOfNodes ns fixed) (some_same _ f told) (no_nodes (node_fault_of e) why.0 why.1 (λ s w. none s (subst (λ (p : Option ℕ). IsSignatureOf ns p s) (sym is) w)))
is_nodes_fault ns fixed o (of_nodes.Sig e) f is why none told =
    subst (IsFaultOfNodes ns fixed) (some_same _ f told) (not_called why.0 why.1.0 (signature_fault_of e) (subst (λ (p : Option ℕ). IsSignatureOf ns p why.1.0) is why.1.1) why.1.2 (λ s w. none s (subst (λ (p : Option ℕ). IsSignatureOf ns p s) (sym is) w)))
is_nodes_fault ns fixed o of_nodes.NoMemory f is why none told = cc

-- ---- the same where long doubles have a format

pub declared_nodes_in : (g : Format) (ns : List Node) (fixed : ℕ) (o : Option ℕ) (s : Signature) → o ≡ fixed_of fixed → IsSignatureFor g ns o s → ((other : Signature) → IsSignatureFor g ns o other → other ≡ s) → SignatureIsPlaced s → AreNodesIn g ns fixed s
declared_nodes_in g ns fixed o s is written only right = record {
  written = subst (λ (p : Option ℕ). IsSignatureFor g ns p s) is written;
  only = λ other w. only other (subst (λ (p : Option ℕ). IsSignatureFor g ns p other) (sym is) w);
  faultless = right;
}

-- by how many arguments are fixed as the nodes' own numbers say it
nodes_fault_in : (g : Format) (ns : List Node) (fixed : ℕ) (r : Refused) (f : TextFault) → IsRefusedFor g ns (fixed_of fixed) r → IsUnplaceable g ns (fixed_of fixed) r → nodes_told (length ns) r ≡ Some f → IsFaultOfNodesIn g ns fixed f
nodes_fault_in g ns fixed of_nodes.TooLong f why none told =
    subst (IsFaultOfNodesIn g ns fixed) (some_same _ f told) (so_many why none)
nodes_fault_in g ns fixed (of_nodes.Nodes e) f why none told =
    subst (IsFaultOfNodesIn g ns fixed) (some_same _ f told) (no_signature (node_fault_of e) why.0 why.1 none)
nodes_fault_in g ns fixed (of_nodes.Sig e) f why none told =
    subst (IsFaultOfNodesIn g ns fixed) (some_same _ f told) (not_placed why.0 why.1.0 (signature_fault_of e) why.1.1 why.1.2 none)
nodes_fault_in g ns fixed of_nodes.NoMemory f why none told = cc

pub is_nodes_fault_in : (g : Format) (ns : List Node) (fixed : ℕ) (o : Option ℕ) (r : Refused) (f : TextFault) → o ≡ fixed_of fixed → IsRefusedFor g ns o r → IsUnplaceable g ns o r → nodes_told (length ns) r ≡ Some f → IsFaultOfNodesIn g ns fixed f
is_nodes_fault_in g ns fixed o r f is why none told =
    nodes_fault_in g ns fixed r f (subst (λ (p : Option ℕ). IsRefusedFor g ns p r) is why) (subst (λ (p : Option ℕ). IsUnplaceable g ns p r) is none) told

-- those of a type: they declare a function, which has arguments, or none
pub of_more_types : (f g : Format) (ns : List Node) (s : Signature) (n : ℕ) (t : TextFault) → f ≡ g → AreNodesIn f ns NOT_VARIADIC s → n ≡ length s.arguments → 0 < n → t ≡ fault_of_value 0 NotOneType (n + 1) → IsFaultOfTypeIn g ns t
of_more_types f g ns s n t same declared counted more told =
    let all : fault_of_value 0 NotOneType (length s.arguments + 1) ≡ t = ap (λ (k : ℕ). fault_of_value 0 NotOneType (k + 1)) (sym counted) ∙ sym told in
    subst (IsFaultOfTypeIn g ns) all (of_arguments s (subst (λ (h : Format). AreNodesIn h ns NOT_VARIADIC s) same declared) (omega (arith, counted, more)))

pub of_no_function : (f g : Format) (ns : List Node) (t : TextFault) → f ≡ g → IsFaultOfNodesIn f ns NOT_VARIADIC t → IsFaultOfTypeIn g ns t
of_no_function f g ns t same fault =
    no_function t (subst (λ (h : Format). IsFaultOfNodesIn h ns NOT_VARIADIC t) same fault)

of_others : (ns : List Node) (count : ℕ) → AreNodesOfTypes ns → AreOfOthers ns count → HasNoResultType ns → IsFaultOfType ns (fault_of_value 0 NotOneType count)
of_others ns count sound are none =
    subst (λ (n : ℕ). IsFaultOfType ns (fault_of_value 0 NotOneType n)) (sym are.counted) (several sound are.types are.written (λ one. are.others (are.counted ∙ one)) none)

pub is_type_fault : (ns : List Node) (r : RefusedType) (f : TextFault) → IsRefusedType ns r → IsOfNoResult ns r → type_told (length ns) r ≡ Some f → IsFaultOfType ns f
is_type_fault ns of_type.TooLong f why none told = subst (IsFaultOfType ns) (some_same _ f told) (too_many why none)
is_type_fault ns (of_type.Nodes e) f why none told =
    subst (IsFaultOfType ns) (some_same _ f told) (no_types (node_fault_of e) why.0 why.1 none)
is_type_fault ns (of_type.NotOne count) f why none told =
    subst (IsFaultOfType ns) (some_same _ f told) (of_others ns count why.0 why.1 none)
is_type_fault ns (of_type.Fault e) f why none told =
    subst (IsFaultOfType ns) (some_same _ f told) (no_result why.0 why.1.0 (path_of e) (fault_of e) why.1.1 why.1.2 none)
is_type_fault ns of_type.NoMemory f why none told = cc
