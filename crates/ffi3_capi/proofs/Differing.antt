-- The first item at which two lists differ, and what is told of a layout.
use Rattle.std.proofs.Common.{◌≡◌, ℕ, ◌+◌, ◌<◌, ◌≤◌, List, [], ◌∷◌, ◌++◌, length, get_or, take, ap, sym, subst, ◌∙◌, refl, arith}
use Rattle.std.specs.Prelude.{Option, Some, None, slice_get}
use Rattle.std.proofs.lemmas.List.{take_all, take_more}
use Rattle.std.proofs.lemmas.Option.{slice_get_past, slice_get_read, slice_get-get_or}
use Rattle.ffi3_type_spec.specs.Tree.{Tree}
use Rattle.ffi3_type_spec.specs.Layout.{size_of, align_of}
use Rattle.ffi3_nodes.specs.declared.Node.{Node}
use Rattle.ffi3_capi.specs.declared.codes.TheConstants.{DONE, NOT_DECLARED}
use Rattle.ffi3_capi.specs.declared.fault.TextFault.{TextFault}
use Rattle.ffi3_capi.specs.declared.fault.FaultKind.TheVariants.{NoFault, LaidOutOtherwise}
use Rattle.ffi3_capi.specs.declared.status.Refusal.{Refusal}
use Rattle.ffi3_capi.specs.declared.status.Refusal.TheVariants.{NoSuchTarget}
use Rattle.ffi3_format_spec.specs.declared.Format.{Format}
use Rattle.ffi3_capi.specs.Faults.{fault_with, fault_of_value}
use Rattle.ffi3_capi.specs.Placed.{targets}
use Rattle.ffi3_capi.specs.Refused.{status_of, fault_in}
use Rattle.ffi3_capi.specs.WholeType.{offsets_of, AreNodesOfTypeBy, IsTypeRefusal}
use Rattle.ffi3_capi.specs.NaturalLayout.{DifferFirst, IsNatural, IsAnother, member, whole, ChecksType, ChecksLayoutFor, unknown, natural, another, refused}

some_same : (a b : ℕ) → Some a ≡ Some b → a ≡ b
some_same a b e = cc

none_some : (a : ℕ) → Some a ≡ None → ⊥
none_some a e = cc

-- item i of a list
there : (xs : List ℕ) (i x : ℕ) → i < length xs → x ≡ get_or xs i x → slice_get xs i ≡ Some x
there xs i x below is = slice_get_read xs (length xs) i x refl below is

-- the first list has an item there, and the second has ended
pub first_goes_on : (xs ys : List ℕ) (i : ℕ) → i < length xs → length ys ≤ i → take i xs ≡ take i ys → DifferFirst xs ys i
first_goes_on xs ys i below ended same = record {
  alike = same;
  here = λ e. none_some (get_or xs i 0) (sym (slice_get-get_or xs i 0 below) ∙ e ∙ slice_get_past ys i ended);
}

-- the first has ended
pub first_ended : (xs ys : List ℕ) (i n : ℕ) → n ≡ length xs → n < length ys → length xs ≤ i → i ≤ n → take i xs ≡ take i ys → DifferFirst xs ys n
first_ended xs ys i n counted below past within same =
    let at_end : i ≡ n = omega (arith, counted, past, within) in
    record {
      alike = subst (λ (k : ℕ). take k xs ≡ take k ys) at_end same;
      here = λ e. none_some (get_or ys n 0) (sym (slice_get-get_or ys n 0 below) ∙ sym e ∙ slice_get_past xs n (omega (arith, counted)));
    }

pub other_items : (xs ys : List ℕ) (i x y : ℕ) → i < length xs → i < length ys → take i xs ≡ take i ys → x ≡ get_or xs i x → y ≡ get_or ys i y → (x ≡ y → ⊥) → DifferFirst xs ys i
other_items xs ys i x y in_xs in_ys same x_is y_is differ = record {
  alike = same;
  here = λ e. differ (some_same x y (sym (there xs i x in_xs x_is) ∙ e ∙ there ys i y in_ys y_is));
}

pub one_more_alike : (xs ys : List ℕ) (i x y : ℕ) → i < length xs → i < length ys → take i xs ≡ take i ys → x ≡ get_or xs i x → y ≡ get_or ys i y → x ≡ y → take (i + 1) xs ≡ take (i + 1) ys
one_more_alike xs ys i x y in_xs in_ys same x_is y_is alike =
    take_more xs i x in_xs ∙ ap (λ (l : List ℕ). l ++ get_or xs i x ∷ []) same
    ∙ ap (λ (z : ℕ). take i ys ++ z ∷ []) (sym x_is ∙ alike ∙ y_is) ∙ sym (take_more ys i y in_ys)

pub all_alike : (xs ys : List ℕ) (i : ℕ) → length xs ≤ i → length ys ≤ i → take i xs ≡ take i ys → xs ≡ ys
all_alike xs ys i past_xs past_ys same =
    sym (take_all i xs past_xs) ∙ same ∙ take_all i ys past_ys

-- ---- another layout

pub another_member : (t : Tree) (size align : ℕ) (offsets own : List ℕ) (i j : ℕ) → own ≡ offsets_of t → DifferFirst offsets own i → Some i ≡ Some j → IsAnother t size align offsets j
another_member t size align offsets own i j all first same =
    let here : DifferFirst offsets (offsets_of t) i = subst (λ (l : List ℕ). DifferFirst offsets l i) all first in
    subst (λ (k : ℕ). IsAnother t size align offsets k) (some_same i j same) (member i here)

pub another_whole : (t : Tree) (size align : ℕ) (offsets own : List ℕ) (j : ℕ) → own ≡ offsets_of t → offsets ≡ own → (size ≡ size_of t → align ≡ align_of t → ⊥) → Some (length offsets) ≡ Some j → IsAnother t size align offsets j
another_whole t size align offsets own j all alike other same =
    subst (λ (k : ℕ). IsAnother t size align offsets k) (some_same (length offsets) j same) (whole (alike ∙ all) other)

-- ---- what is told

pub checks_natural : (o : Option Format) (ns : List Node) (t : Tree) (size align : ℕ) (offsets : List ℕ) (fault : TextFault) → AreNodesOfTypeBy o ns t → IsNatural t size align offsets → fault ≡ fault_with NoFault → ChecksType o ns size align offsets DONE fault
checks_natural o ns t size align offsets fault is right told =
    subst (λ (f : TextFault). ChecksType o ns size align offsets DONE f) (sym told) (natural t is right)

pub checks_another : (o : Option Format) (ns : List Node) (t : Tree) (size align : ℕ) (offsets : List ℕ) (i : ℕ) (fault : TextFault) → AreNodesOfTypeBy o ns t → IsAnother t size align offsets i → fault ≡ fault_of_value 0 LaidOutOtherwise i → ChecksType o ns size align offsets NOT_DECLARED fault
checks_another o ns t size align offsets i fault is wrong told =
    subst (λ (f : TextFault). ChecksType o ns size align offsets NOT_DECLARED f) (sym told) (another t i is wrong)

pub checks_none : (o : Option Format) (ns : List Node) (size align : ℕ) (offsets : List ℕ) (r : Refusal) (fault : TextFault) (status : ℕ) → IsTypeRefusal o ns r → fault ≡ fault_in r → status ≡ status_of r → ChecksType o ns size align offsets status fault
checks_none o ns size align offsets r fault status is why answered =
    subst (λ (n : ℕ). ChecksType o ns size align offsets n fault) (sym answered) (subst (λ (f : TextFault). ChecksType o ns size align offsets (status_of r) f) (sym why) (refused r is))

pub checks_on_no_target : (target : ℕ) (ns : List Node) (size align : ℕ) (offsets : List ℕ) (fault : TextFault) (status : ℕ) → slice_get targets target ≡ None → status ≡ status_of NoSuchTarget → fault ≡ fault_in NoSuchTarget → ChecksLayoutFor target ns size align offsets status fault
checks_on_no_target target ns size align offsets fault status none answered why =
    subst (λ (n : ℕ). ChecksLayoutFor target ns size align offsets n fault) (sym answered) (subst (λ (f : TextFault). ChecksLayoutFor target ns size align offsets (status_of NoSuchTarget) f) (sym why) (unknown none))
