-- A text is one prototype, and its canonical text is read as it.
use Rattle.std.proofs.Common.{◌≡◌, ◌∙◌, ◌⊎◌, ◌&&◌, ℕ, Bool, true, false, List, [], ◌∷◌, Option, Some, None, inl, inr, refl, sym, ap, subst}
use Rattle.std.specs.Prelude.{bytes_eq}
use Rattle.std.proofs.lemmas.Bool.{eqb-true, eq-eqb, true≢false}
use Rattle.std.proofs.lemmas.Slice.Eq.{bytes_eq-Decides}
use Rattle.ffi3_type_spec.specs.Tree.{Tree}
use Rattle.ffi3_type_spec.specs.Signature.{Signature}
use Rattle.ffi3_type_spec.specs.Same.{same_tree, same_list, same_fixed, same_signature}
use Rattle.ffi3_type_spec.proofs.Tests.{and_left, and_right, both, types_are_same, type_is_itself, types_are_themselves}
use Rattle.ffi3_cdecl_spec.specs.Tokens.{wide, Sign, signed, unsigned}
use Rattle.ffi3_cdecl_spec.specs.Grammar.{Declaration}
use Rattle.ffi3_cdecl_spec.specs.Machine.{read_in}
use Rattle.ffi3_cdecl_spec.specs.Canonical.{FixesAll}
use Rattle.ffi3_cdecl_spec.specs.Reading.{Outcome, reads, IsReadingIn, IsReading}
use Rattle.ffi3_cdecl_spec.specs.Prototype.{Prototype, read_as, sign_unsaid, first_other, IsFault, IsPrototypeBy, IsPrototype, reads_alike, reads_by_sign, has_fault, has_fault_unsigned, prototype_text, PrototypeLaws}
use Rattle.ffi3_cdecl_spec.proofs.Readings.{reading_in, one_reading_in}
use Rattle.ffi3_cdecl_spec.proofs.SpokenTexts.{text_reads}
use Rattle.ffi3_cdecl_spec.proofs.WideNames.{wide_identifier, wide_name_stays, wide_right}
use Rattle.ffi3_cdecl_spec.proofs.PrototypeTexts.{prototype_reads, written_alike}

-- ---- declarations are the same or not

list_is_same : (ts us : List Tree) → same_list ts us ≡ true → ts ≡ us
list_is_same [] [] h = refl
list_is_same (t ∷ ts) (u ∷ us) h =
    ap (λ v. v ∷ ts) (types_are_same t u (and_left (same_tree t u) (same_list ts us) h)) ∙ ap (λ l. u ∷ l) (list_is_same ts us (and_right (same_tree t u) (same_list ts us) h))
list_is_same _ _ h = cc

fixed_is_same : (m n : Option ℕ) → same_fixed m n ≡ true → m ≡ n
fixed_is_same None None h = refl
fixed_is_same (Some m) (Some n) h = ap Some (eqb-true m n h)
fixed_is_same _ _ h = cc

fixed_is_itself : (m : Option ℕ) → same_fixed m m ≡ true
fixed_is_itself None = refl
fixed_is_itself (Some m) = eq-eqb m m refl

signature_is_same : (s r : Signature) → same_signature s r ≡ true → s ≡ r
signature_is_same s r h =
    let first = and_left (same_tree s.result_type r.result_type && same_list s.arguments r.arguments) (same_fixed s.fixed r.fixed) h in
    let a = types_are_same s.result_type r.result_type (and_left (same_tree s.result_type r.result_type) _ first) in
    let b = list_is_same s.arguments r.arguments (and_right (same_tree s.result_type r.result_type) _ first) in
    let c = fixed_is_same s.fixed r.fixed (and_right (same_tree s.result_type r.result_type && same_list s.arguments r.arguments) _ h) in
    λ i. record { result_type = a i; arguments = b i; fixed = c i }

signature_is_itself : (s : Signature) → same_signature s s ≡ true
signature_is_itself s =
    both (same_tree s.result_type s.result_type && same_list s.arguments s.arguments) (same_fixed s.fixed s.fixed)
    (both (same_tree s.result_type s.result_type) (same_list s.arguments s.arguments) (type_is_itself s.result_type) (types_are_themselves s.arguments))
    (fixed_is_itself s.fixed)

same_or_not : (d e : Declaration) → (d ≡ e) ⊎ ¬ (d ≡ e)
same_or_not d e =
    by_name (bytes_eq d.called e.called) refl
  where
    by_signature : (b : Bool) → d.called ≡ e.called → same_signature d.signature e.signature ≡ b → (d ≡ e) ⊎ ¬ (d ≡ e)
    by_signature true p h =
        let q = signature_is_same d.signature e.signature h in
        inl (λ i. record { called = p i; signature = q i })
    by_signature false p h =
        inr (λ same. true≢false (sym (signature_is_itself d.signature) ∙ ap (λ x. same_signature d.signature x.signature) same ∙ h))

    by_name : (b : Bool) → bytes_eq d.called e.called ≡ b → (d ≡ e) ⊎ ¬ (d ≡ e)
    by_name true h =
        by_signature (same_signature d.signature e.signature) ((bytes_eq-Decides d.called e.called).0 h) refl
    by_name false h =
        inr (λ same. true≢false (sym ((bytes_eq-Decides d.called e.called).1 (ap (λ x. x.called) same)) ∙ h))

-- ---- each text is one prototype

no_function : (o : Outcome) → ((d : Declaration) × (o ≡ reads d)) ⊎ IsFault o
no_function (reads d) = inl (d, refl)
no_function _ = inr (λ d e. cc)

pub alike_by : (IsRead : Sign → Outcome → Type 0) (d : Declaration) → IsRead signed (reads d) → IsRead unsigned (reads d) → (c : Sign) → IsRead c (reads d)
alike_by IsRead d p q signed = p
alike_by IsRead d p q unsigned = q

-- of two readings that each have one outcome, which is computed
module _ (IsRead : Sign → Outcome → Type 0) (read : Sign → Outcome) (reading : (c : Sign) → IsRead c (read c)) (one_reading : (c : Sign) (o : Outcome) → IsRead c o → o ≡ read c) where
  abbrev Some' : Type 0
  Some' = (p : Prototype) × IsPrototypeBy IsRead p

  by_both : (d e : Declaration) → IsRead signed (reads d) → IsRead unsigned (reads e) → (d ≡ e) ⊎ ¬ (d ≡ e) → Some'
  by_both d e p q (inl same) =
      (read_as (reads d), reads_alike (alike_by IsRead d p (subst (λ x. IsRead unsigned (reads x)) (sym same) q)))
  by_both d e p q (inr other) =
      (sign_unsaid (first_other d.signature e.signature), reads_by_sign p q other)

  by_unsigned : (d : Declaration) (o : Outcome) → IsRead signed (reads d) → IsRead unsigned o → ((e : Declaration) × (o ≡ reads e)) ⊎ IsFault o → Some'
  by_unsigned d o p q (inl (e, is)) =
      by_both d e p (subst (λ x. IsRead unsigned x) is q) (same_or_not d e)
  by_unsigned d o p q (inr fault) =
      (read_as o, has_fault_unsigned p q fault)

  by_signed : (o : Outcome) → IsRead signed o → ((d : Declaration) × (o ≡ reads d)) ⊎ IsFault o → Some'
  by_signed o p (inl (d, is)) =
      by_unsigned d (read unsigned) (subst (λ x. IsRead signed x) is p) (reading unsigned) (no_function (read unsigned))
  by_signed o p (inr fault) = (read_as o, has_fault p fault)

  pub some_prototype_by : (p : Prototype) × IsPrototypeBy IsRead p
  some_prototype_by =
      by_signed (read signed) (reading signed) (no_function (read signed))

  same_read : (c : Sign) (o q : Outcome) → IsRead c o → IsRead c q → o ≡ q
  same_read c o q p r =
      one_reading c o p ∙ sym (one_reading c q r)

  reads_same : (d e : Declaration) → reads d ≡ reads e → d ≡ e
  reads_same d e h = cc

  pub one_prototype_by : (p q : Prototype) → IsPrototypeBy IsRead p → IsPrototypeBy IsRead q → p ≡ q
  one_prototype_by _ _ (reads_alike {d = d} p) (reads_alike {d = e} q) =
      ap read_as (same_read signed (reads d) (reads e) (p signed) (q signed))
  one_prototype_by _ _ (reads_alike {d = d} p) (reads_by_sign {d = e} {e = f} q r other) =
      absurd (other (reads_same e f (same_read signed (reads e) (reads d) q (p signed) ∙ same_read unsigned (reads d) (reads f) (p unsigned) r)))
  one_prototype_by _ _ (reads_alike {d = d} p) (has_fault {o = o} q fault) =
      absurd (fault d (same_read signed o (reads d) q (p signed)))
  one_prototype_by _ _ (reads_alike {d = d} p) (has_fault_unsigned {o = o} q r fault) =
      absurd (fault d (same_read unsigned o (reads d) r (p unsigned)))
  one_prototype_by _ _ (reads_by_sign {d = e} {e = f} q r other) (reads_alike {d = d} p) =
      absurd (other (reads_same e f (same_read signed (reads e) (reads d) q (p signed) ∙ same_read unsigned (reads d) (reads f) (p unsigned) r)))
  one_prototype_by _ _ (reads_by_sign {d = d} {e = e} p q other) (reads_by_sign {d = f} {e = g} r s others) =
      let a = reads_same d f (same_read signed (reads d) (reads f) p r) in
      let b = reads_same e g (same_read unsigned (reads e) (reads g) q s) in
      λ i. sign_unsaid (first_other (a i).signature (b i).signature)
  one_prototype_by _ _ (reads_by_sign {d = d} p q other) (has_fault {o = o} r fault) =
      absurd (fault d (same_read signed o (reads d) r p))
  one_prototype_by _ _ (reads_by_sign {e = e} p q other) (has_fault_unsigned {o = o} r s fault) =
      absurd (fault e (same_read unsigned o (reads e) s q))
  one_prototype_by _ _ (has_fault {o = o} q fault) (reads_alike {d = d} p) =
      absurd (fault d (same_read signed o (reads d) q (p signed)))
  one_prototype_by _ _ (has_fault {o = o} r fault) (reads_by_sign {d = d} p q other) =
      absurd (fault d (same_read signed o (reads d) r p))
  one_prototype_by _ _ (has_fault {o = o} p fault) (has_fault {o = q} r other) =
      ap read_as (same_read signed o q p r)
  one_prototype_by _ _ (has_fault {o = o} p fault) (has_fault_unsigned {d = d} r s other) =
      absurd (fault d (same_read signed o (reads d) p r))
  one_prototype_by _ _ (has_fault_unsigned {o = o} q r fault) (reads_alike {d = d} p) =
      absurd (fault d (same_read unsigned o (reads d) r (p unsigned)))
  one_prototype_by _ _ (has_fault_unsigned {o = o} r s fault) (reads_by_sign {e = e} p q other) =
      absurd (fault e (same_read unsigned o (reads e) s q))
  one_prototype_by _ _ (has_fault_unsigned {d = d} r s other) (has_fault {o = o} p fault) =
      absurd (fault d (same_read signed o (reads d) p r))
  one_prototype_by _ _ (has_fault_unsigned {o = o} p q fault) (has_fault_unsigned {o = x} r s other) =
      ap read_as (same_read unsigned o x q s)

-- what is read, is read whether `char` is signed or not
pub read_either : (IsRead : Sign → Outcome → Type 0) (d : Declaration) → IsPrototypeBy IsRead (read_as (reads d)) → (c : Sign) → IsRead c (reads d)
read_either IsRead d p = reads_of (read_as (reads d)) p refl
  where
    same_outcome : (o : Outcome) → read_as o ≡ read_as (reads d) → o ≡ reads d
    same_outcome o e = cc

    reads_of : (q : Prototype) → IsPrototypeBy IsRead q → q ≡ read_as (reads d) → (c : Sign) → IsRead c (reads d)
    reads_of _ (reads_alike {d = e} p) is =
        λ c. subst (λ o. IsRead c o) (same_outcome (reads e) is) (p c)
    reads_of _ (reads_by_sign p q other) is = λ c. absurd (cc)
    reads_of _ (has_fault {o = o} p fault) is =
        absurd (fault d (same_outcome o is))
    reads_of _ (has_fault_unsigned {o = o} p q fault) is =
        absurd (fault d (same_outcome o is))

pub some_prototype : (text : List ℕ) → (p : Prototype) × IsPrototype text p
some_prototype text =
    some_prototype_by (λ c o. IsReadingIn wide c text o) (λ c. read_in wide c text) (λ c. reading_in wide c text) (λ c o is. one_reading_in wide c text o is)

pub one_prototype : (text : List ℕ) (p q : Prototype) → IsPrototype text p → IsPrototype text q → p ≡ q
one_prototype text =
    one_prototype_by (λ c o. IsReadingIn wide c text o) (λ c. read_in wide c text) (λ c. reading_in wide c text) (λ c o is. one_reading_in wide c text o is)

-- ---- and is written again

written_again : (text : List ℕ) (d : Declaration) → IsPrototype text (read_as (reads d)) → IsPrototype (prototype_text d.called d.signature) (read_as (reads d))
written_again text d p =
    let r = read_either (λ c o. IsReadingIn wide c text o) d p signed in
    reads_alike (λ c. prototype_reads c d.called d.signature (wide_identifier signed text d r) (wide_name_stays signed text d r) (wide_right signed text d r))

written_plainly : (text : List ℕ) (d : Declaration) → IsPrototype text (read_as (reads d)) → FixesAll d.signature → IsReading (prototype_text d.called d.signature) (reads d)
written_plainly text d p all =
    let r = read_either (λ c o. IsReadingIn wide c text o) d p signed in
    subst (λ t. IsReading t (reads d)) (sym (written_alike d.called d.signature (wide_right signed text d r) all)) (text_reads d.called d.signature (wide_identifier signed text d r) (wide_right signed text d r) all)

pub prototype_laws : PrototypeLaws
prototype_laws =
    record { some_prototype = some_prototype; one_prototype = one_prototype; written_again = written_again; written_plainly = written_plainly }
