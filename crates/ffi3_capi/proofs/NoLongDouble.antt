-- Where no long double is told, what is declared for a target is what is declared for none.
use Rattle.std.proofs.Common.{◌≡◌, arith, ℕ, ◌++◌, false, List, [], ◌∷◌, None, refl, ap, ◌∙◌, sym, subst}
use Rattle.ffi3_type_spec.specs.declared.Role.TheVariants.{AsResult, PlacedResult}
use Rattle.ffi3_type_spec.specs.Tree.{Tree, array}
use Rattle.ffi3_type_spec.specs.Fault.{IsResultType, takes}
use Rattle.ffi3_type_spec.specs.Signature.{Signature, SignatureIsPlaced, HasNoLongDouble, over_most, in_result, in_argument, fixed_outside, promoted, of_type, of_long_double}
use Rattle.ffi3_type_spec.proofs.Faults.{right_with_more}
use Rattle.ffi3_type_spec.proofs.Placed.{faultless_is_placed, placed_is_faultless}
use Rattle.ffi3_type_spec.proofs.Right.{result_is_right}
use Rattle.ffi3_format_spec.specs.declared.Format.{Format}
use Rattle.ffi3_format_spec.specs.Format.{resolved_signature, wants_format}
use Rattle.ffi3_format_spec.proofs.Resolving.{own_signature, own_type, callable_is_own, right_wants_none}
use Rattle.ffi3_format_spec.proofs.SameFaults.{same_first}
use Rattle.ffi3_format_theorem.specs.Laws.{TextTellsNoLongDouble}
use Rattle.ffi3_format_theorem.proofs.Readings.{first_for_places, declared_with, alike_with}
use Rattle.ffi3_format_theorem.proofs.Readings.{no_long_double_laws as no_long_double}
use Rattle.ffi3_cdecl_spec.specs.Reading.{Outcome, reads, IsReadingIn}
use Rattle.ffi3_cdecl_spec.specs.ReadingFor.{IsReadingFor}
use Rattle.ffi3_cdecl_spec.specs.Tokens.{wide, Sign}
use Rattle.ffi3_nodes.specs.declared.Node.{Node}
use Rattle.ffi3_nodes.specs.Nodes.{IsWritten, AreWritten, none, one_more, IsSignatureOf}
use Rattle.ffi3_nodes.specs.Read.{TellNoLongDouble, IsSignatureFor}
use Rattle.ffi3_nodes.proofs.Building.{one_signature}
use Rattle.ffi3_nodes.proofs.ForFormat.{told_is_plain, callable_for}
use Rattle.ffi3_capi.specs.declared.codes.TheConstants.{NOT_VARIADIC}
use Rattle.ffi3_capi.specs.declared.declaration.Declaration.{Declaration}
use Rattle.ffi3_capi.specs.declared.declaration.Declaration.TheVariants.{Text, Nodes}
use Rattle.ffi3_capi.specs.declared.fault.TextFault.{TextFault}
use Rattle.ffi3_capi.specs.ByNodes.{fixed_of, giving, AreNodesOf, AreNodesIn, AreNodesOfType, AreNodesOfTypeIn, IsFaultOfNodes, too_long, no_nodes, not_called, IsFaultOfNodesIn, so_many, no_signature, not_placed}
use Rattle.ffi3_capi.specs.Chars.{char_sign}
use Rattle.ffi3_capi.specs.Faults.{IsFaultOf, not_text, misread, IsFaultIn, no_text, misread_in}
use Rattle.ffi3_capi.specs.Formats.{long_double_on}
use Rattle.ffi3_capi.specs.NoLongDouble.{IsDeclaredTheSame, NoLongDoubleLaws}

-- ---- texts

module _ (f : Format) (c : Sign) (text : List ℕ) where
  module _ (without : TextTellsNoLongDouble c text) where
    outcome_on_a_target : (o : Outcome) → IsReadingIn wide c text o → IsReadingFor f c text o
    outcome_on_a_target = (alike_with f c text without).there

    outcome_on_none : (o : Outcome) → IsReadingFor f c text o → IsReadingIn wide c text o
    outcome_on_none = (alike_with f c text without).back

    text_fault_on_a_target : (g : TextFault) → IsFaultOf c text g → IsFaultIn f c text g
    text_fault_on_a_target _ (not_text bad) = no_text bad
    text_fault_on_a_target _ (misread o h utf8 is told) = misread_in o h utf8 (outcome_on_a_target o is) told

    text_fault_on_none : (g : TextFault) → IsFaultIn f c text g → IsFaultOf c text g
    text_fault_on_none _ (no_text bad) = not_text bad
    text_fault_on_none _ (misread_in o h utf8 is told) = misread o h utf8 (outcome_on_none o is) told

-- ---- nodes

module _ (f : Format) (ns : List Node) (fixed : ℕ) where
  nodes_on_a_target : (s : Signature) → AreNodesOf ns fixed s → AreNodesIn f ns fixed s
  nodes_on_a_target s are = record {
    written = callable_for f ns (fixed_of fixed) s are.written are.faultless;
    only = λ other o. o.by_format ∙ ap (resolved_signature f) (are.only o.told o.written) ∙ callable_is_own f s are.faultless;
    faultless = faultless_is_placed s are.faultless;
  }

  module _ (without : TellNoLongDouble ns (fixed_of fixed)) where
    -- what is told is its own resolution
    told_by : (s : Signature) → IsSignatureFor f ns (fixed_of fixed) s → IsSignatureOf ns (fixed_of fixed) s
    told_by s is =
        let own : resolved_signature f is.told ≡ is.told = own_signature f is.told (without is.told is.written) in
        subst (IsSignatureOf ns (fixed_of fixed)) (sym (is.by_format ∙ own)) is.written

    told_for : (s : Signature) → IsSignatureOf ns (fixed_of fixed) s → IsSignatureFor f ns (fixed_of fixed) s
    told_for s is = record { told = s; written = is; by_format = sym (own_signature f s (without s is)) }

    plain : (s : Signature) → IsSignatureOf ns (fixed_of fixed) s → HasNoLongDouble s
    plain s is = told_is_plain ns (fixed_of fixed) s is

    nodes_on_none : (s : Signature) → AreNodesIn f ns fixed s → AreNodesOf ns fixed s
    nodes_on_none s are =
        let is : IsSignatureOf ns (fixed_of fixed) s = told_by s are.written in
        record {
          written = is;
          only = λ other o. are.only other (told_for other o);
          faultless = placed_is_faultless s are.faultless (plain s is);
        }

    nodes_fault_on_a_target : (g : TextFault) → IsFaultOfNodes ns fixed g → IsFaultOfNodesIn f ns fixed g
    nodes_fault_on_a_target _ (too_long long nobody) =
        so_many long (λ s is placed. nobody s (told_by s is) (placed_is_faultless s placed (plain s (told_by s is))))
    nodes_fault_on_a_target _ (no_nodes e few first nobody) =
        no_signature e few first (λ s is placed. nobody s (told_by s is) (placed_is_faultless s placed (plain s (told_by s is))))
    nodes_fault_on_a_target _ (not_called are s e is first all) =
        not_placed are s e (told_for s is) (first_for_places s (plain s is) e first) (λ other o. first_for_places other (plain other (told_by other o)) e (all other (told_by other o)))

    nodes_fault_on_none : (g : TextFault) → IsFaultOfNodesIn f ns fixed g → IsFaultOfNodes ns fixed g
    nodes_fault_on_none _ (so_many long nobody) =
        too_long long (λ s is right. nobody s (told_for s is) (faultless_is_placed s right))
    nodes_fault_on_none _ (no_signature e few first nobody) =
        no_nodes e few first (λ s is right. nobody s (told_for s is) (faultless_is_placed s right))
    nodes_fault_on_none _ (not_placed are s e is first all) =
        not_called are s e (told_by s is) (same_first s (plain s (told_by s is)) e first) (λ other o. same_first other (plain other o) e (all other (told_for other o)))

-- ---- either

declared_the_same : (target : ℕ) (d : Declaration) → IsDeclaredTheSame target d
declared_the_same target (Text text) = record {
  on_a_target = λ s h. (h.0, h.1, declared_with (long_double_on target) (char_sign target) text.now (record { called = h.1; signature = s }) h.2);
  on_none = λ without s h. (h.0, h.1, outcome_on_none (long_double_on target) (char_sign target) text.now without (reads (record { called = h.1; signature = s })) h.2);
  fault_on_a_target = text_fault_on_a_target (long_double_on target) (char_sign target) text.now;
  fault_on_none = text_fault_on_none (long_double_on target) (char_sign target) text.now;
}
declared_the_same target (Nodes nodes fixed) = record {
  on_a_target = nodes_on_a_target (long_double_on target) nodes.now fixed;
  on_none = nodes_on_none (long_double_on target) nodes.now fixed;
  fault_on_a_target = nodes_fault_on_a_target (long_double_on target) nodes.now fixed;
  fault_on_none = nodes_fault_on_none (long_double_on target) nodes.now fixed;
}

-- ---- types

placed_results : (t : Tree) → takes PlacedResult t ≡ false → takes AsResult t ≡ false
placed_results (array ts n) e = refl
placed_results _ e = e

-- a function of no arguments can be placed where its result is one
giving_is_placed : (t : Tree) → IsResultType t → SignatureIsPlaced (giving t)
giving_is_placed t right f (over_most over) = absurd (omega (arith, over))
giving_is_placed t right f (in_result {path = p} {fault = g} (of_type first)) =
    right_with_more PlacedResult AsResult placed_results 0 t right p g first.is_there
giving_is_placed t right f (in_result (of_long_double calls own long)) = cc
giving_is_placed t right f (in_argument below found) = absurd (omega (arith, below))
giving_is_placed t right f (fixed_outside is outside) = cc
giving_is_placed t right f (promoted is from below bad) = cc

append_none : (ns : List Node) → ns ++ [] ≡ ns
append_none [] = refl
append_none (n ∷ ns) = ap (λ (ms : List Node). n ∷ ms) (append_none ns)

one_written : (t : Tree) (ns : List Node) → IsWritten t ns → AreWritten (t ∷ []) ns
one_written t ns is = one_more t [] ns [] ns is none (sym (append_none ns))

is_written : (t : Tree) (ns : List Node) → AreWritten (t ∷ []) ns → IsWritten t ns
is_written _ _ (one_more t [] ms (m ∷ more) ns is rest all) = elim rest [ ]
is_written _ _ (one_more t [] ms [] ns is rest all) = subst (IsWritten t) (sym (all ∙ append_none ms)) is

own_giving : (f : Format) (t : Tree) → wants_format t ≡ false → resolved_signature f (giving t) ≡ giving t
own_giving f t e = λ i. record { result_type = own_type f t e i; arguments = []; fixed = None }

type_of_giving : (t u : Tree) → giving t ≡ giving u → t ≡ u
type_of_giving t u e = ap (λ (s : Signature). s.result_type) e

module _ (f : Format) (ns : List Node) where
  type_on_a_target : (t : Tree) → AreNodesOfType ns t → AreNodesOfTypeIn f ns t
  type_on_a_target t are =
      let own : resolved_signature f (giving t) ≡ giving t = own_giving f t (right_wants_none 0 AsResult t are.faultless) in
      let is : IsSignatureOf ns None (giving t) = record { written = one_written t ns are.written; fixed_is = refl } in
      record {
        written = record { told = giving t; written = is; by_format = sym own };
        only = λ other o. o.by_format ∙ ap (resolved_signature f) (one_signature ns None (giving t) o.told is o.written) ∙ own;
        faultless = giving_is_placed t are.faultless;
      }

  type_on_none : TellNoLongDouble ns None → (t : Tree) → AreNodesOfTypeIn f ns t → AreNodesOfType ns t
  type_on_none without t are =
      let all : AreNodesOf ns NOT_VARIADIC (giving t) = nodes_on_none f ns NOT_VARIADIC without (giving t) are in
      record {
        written = is_written t ns all.written.written;
        only = λ other w. type_of_giving other t (all.only (giving other) (record { written = one_written other ns w; fixed_is = refl }));
        faultless = result_is_right (giving t) all.faultless;
      }

pub no_long_double_laws : NoLongDoubleLaws
no_long_double_laws = record {
  signatures = no_long_double.signatures;
  declarations = declared_the_same;
  types = λ target ns. record {
    on_a_target = type_on_a_target (long_double_on target) ns;
    on_none = type_on_none (long_double_on target) ns;
  };
}
