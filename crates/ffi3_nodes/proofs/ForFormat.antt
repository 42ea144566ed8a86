-- Signatures whose long doubles have a format: what is told of nodes that are none, and of one that has a fault.
use Rattle.std.specs.List.{AllByRecursion}
use Rattle.std.specs.Prelude.{Option, Some, false, slice_get}
use Rattle.std.proofs.Common.{◌≡◌, ℕ, zero, suc, ◌<◌, List, [], ◌∷◌, length, refl, ap, sym, ◌∙◌, subst, arith}
use Rattle.ffi3_type_spec.specs.Tree.{Tree, tree_at, trees_of}
use Rattle.ffi3_type_spec.specs.Layout.{has_long_double, have_long_double}
use Rattle.ffi3_type_spec.specs.Signature.{Signature, SignatureHasNoFault, SignatureIsPlaced, HasNoLongDouble, IsFirstSignatureFault, IsFirstFaultFor, for_places}
use Rattle.ffi3_type_spec.proofs.Placed.{placed_is_faultless}
use Rattle.ffi3_types.specs.SignatureFaultOf.{signature_fault_of}
use Rattle.ffi3_format_spec.specs.declared.Format.{Format}
use Rattle.ffi3_format_spec.specs.Format.{resolved_signature}
use Rattle.ffi3_format_spec.proofs.Resolving.{callable_is_own, own_signature}
use Rattle.ffi3_format_spec.proofs.SameFaults.{same_first}
use Rattle.ffi3_nodes.specs.declared.Node.{Node}
use Rattle.ffi3_nodes.specs.declared.signature.Refused.{Refused}
use Rattle.ffi3_nodes.specs.declared.signature.Refused.TheVariants.{TooLong, Nodes, Sig, NoMemory}
use Rattle.ffi3_nodes.specs.Nodes.{leaves, IsWritten, leaf, structure, array, AreWritten, none, one_more, IsSignatureOf}
use Rattle.ffi3_nodes.specs.Read.{AreNodesOfTypes, IsRefused, IsOfNone, IsUncallable, IsSignatureFor, IsUnread, IsRefusedFor, IsUnplaceable, IsFaultOf, IsCallableWithout, IsRefusedWithout, TellNoLongDouble}
use Rattle.ffi3_nodes.proofs.Building.{of_none, one_signature}
use Rattle.ffi3_nodes.proofs.Few.{few_nodes, too_long, too_long_for}
use Rattle.ffi3_nodes.proofs.Shallow.{faultless_nodes, uncallable_nodes, unplaceable_nodes}

-- ---- nodes that are no signature

module _ (ns : List Node) (fixed : Option ℕ) where
  pub unread_none : (r : Refused) → IsUnread ns r → IsOfNone ns r
  unread_none (Nodes f) h = of_none ns f h.1
  unread_none (Sig f) h = absurd h
  unread_none _ h = tt

  pub unread_refused : (r : Refused) → IsUnread ns r → IsRefused ns fixed r
  unread_refused (Sig f) h = absurd h
  unread_refused NoMemory h = tt
  unread_refused _ h = h

  pub unread_uncallable : (r : Refused) → IsUnread ns r → IsUncallable ns fixed r
  unread_uncallable TooLong h = too_long ns fixed h
  unread_uncallable (Nodes f) h = uncallable_nodes ns fixed f h.1
  unread_uncallable (Sig f) h = absurd h
  unread_uncallable NoMemory h = tt

  pub unread_unplaceable : (format : Format) (r : Refused) → IsUnread ns r → IsUnplaceable format ns fixed r
  unread_unplaceable format TooLong h = too_long_for format ns fixed h
  unread_unplaceable format (Nodes f) h = unplaceable_nodes format ns fixed f h.1
  unread_unplaceable format (Sig f) h = absurd h
  unread_unplaceable format NoMemory h = tt

-- ---- no node is a long double of 16 bytes

abbrev Plain : Tree → Type 0
Plain t = has_long_double t ≡ false

got : (P : Tree → Type 0) (ts : List Tree) (k : ℕ) (t : Tree) → AllByRecursion P ts → slice_get ts k ≡ Some t → P t
got P [] k t all e = cc
got P (u ∷ ts) zero t all e =
    let same : u ≡ t = cc in
    subst P same all.0
got P (u ∷ ts) (suc k) t all e = got P ts k t all.1 e

leaves_plain : AllByRecursion Plain leaves
leaves_plain =
    (refl, (refl, (refl, (refl, (refl, (refl, (refl, (refl, (refl, (refl, (refl, (refl, (refl, (refl, (refl, (refl, (refl, (refl, (refl, tt)))))))))))))))))))

none_plain : (ts : List Tree) → AllByRecursion Plain ts → have_long_double (trees_of ts) ≡ false
none_plain [] all = refl
none_plain (t ∷ ts) all = rw all.0 (none_plain ts all.1)

mutual
  written_plain : (t : Tree) (ns : List Node) → IsWritten t ns → Plain t
  written_plain t ns (leaf k t' e) = got Plain leaves k t leaves_plain e
  written_plain t ns (structure ts ms w) = none_plain ts (all_plain ts ms w)
  written_plain t ns (array u n ms w) = none_plain (u ∷ []) (written_plain u ms w, tt)

  all_plain : (ts : List Tree) (ns : List Node) → AreWritten ts ns → AllByRecursion Plain ts
  all_plain ts ns none = tt
  all_plain ts ns (one_more t us ls ks all w ws e) =
      (written_plain t ls w, all_plain us ks ws)

plain_at : (ts : List Tree) (i : ℕ) → AllByRecursion Plain ts → i < length ts → Plain (tree_at ts i)
plain_at [] i all below = absurd (omega (arith, below))
plain_at (t ∷ ts) zero all below = all.0
plain_at (t ∷ ts) (suc i) all below = plain_at ts i all.1 (omega (arith, below))

pub told_is_plain : (ns : List Node) (fixed : Option ℕ) (s : Signature) → IsSignatureOf ns fixed s → HasNoLongDouble s
told_is_plain ns fixed s is =
    let all = all_plain (s.result_type ∷ s.arguments) ns is.written in
    record { result_type = all.0; arguments = λ i below. plain_at s.arguments i all.1 below }

-- ---- a signature without fault is its own in each format

pub callable_for : (format : Format) (ns : List Node) (fixed : Option ℕ) (s : Signature) → IsSignatureOf ns fixed s → SignatureHasNoFault s → IsSignatureFor format ns fixed s
callable_for format ns fixed s is right =
    record { told = s; written = is; by_format = sym (callable_is_own format s right) }

-- ---- one that was told, and is resolved

module _ (format : Format) (ns : List Node) (fixed : Option ℕ) (t s : Signature) (is : IsSignatureOf ns fixed t) (by_format : s ≡ resolved_signature format t) where
  pub one_signature_for : (other : Signature) → IsSignatureFor format ns fixed other → other ≡ s
  one_signature_for other o =
      o.by_format ∙ ap (resolved_signature format) (one_signature ns fixed t o.told is o.written) ∙ sym by_format

  -- where the nodes tell no long double it is what they tell
  same : TellNoLongDouble ns fixed → s ≡ t
  same without = by_format ∙ own_signature format t (without t is)

  pub callable_without : SignatureIsPlaced s → IsCallableWithout ns fixed s
  callable_without placed without =
      let e : s ≡ t = same without in (
        subst (IsSignatureOf ns fixed) (sym e) is,
        placed_is_faultless s placed (subst HasNoLongDouble (sym e) (told_is_plain ns fixed t is)),
      )

  -- ---- it has a first fault

  pub fault_refused : AreNodesOfTypes ns → (r : Refused) → IsFaultOf s r → IsRefusedFor format ns fixed r
  fault_refused types (Sig f) h = (types, (s, record { told = t; written = is; by_format = by_format }, h))
  fault_refused types NoMemory h = tt
  fault_refused types _ h = absurd h

  pub fault_of_none : (r : Refused) → IsFaultOf s r → IsOfNone ns r
  fault_of_none (Nodes f) h = absurd h
  fault_of_none _ h = tt

  pub fault_unplaceable : (r : Refused) → IsFaultOf s r → IsUnplaceable format ns fixed r
  fault_unplaceable (Sig f) h =
      λ other o. subst (λ x. IsFirstFaultFor for_places x (signature_fault_of f)) (sym (one_signature_for other o)) h
  fault_unplaceable NoMemory h = tt
  fault_unplaceable _ h = absurd h

  pub fault_without : AreNodesOfTypes ns → (r : Refused) → IsFaultOf s r → IsRefusedWithout ns fixed r
  fault_without types (Sig f) h without =
      let first : IsFirstSignatureFault t (signature_fault_of f) = same_first t (told_is_plain ns fixed t is) (signature_fault_of f) (subst (λ x. IsFirstFaultFor for_places x (signature_fault_of f)) (same without) h) in (
        (types, (t, is, first)),
        λ other o. subst (λ x. IsFirstSignatureFault x (signature_fault_of f)) (sym (one_signature ns fixed t other is o)) first,
      )
  fault_without types NoMemory h without = (tt, tt)
  fault_without types _ h without = absurd h

-- ---- nodes that are scalars and structs of them, whose signature has no fault

pub nodes_of_types : (ns : List Node) (fixed : Option ℕ) (s : Signature) → IsSignatureOf ns fixed s → SignatureHasNoFault s → AreNodesOfTypes ns
nodes_of_types ns fixed s is right = (few_nodes ns fixed s is right, faultless_nodes ns fixed s is right)
