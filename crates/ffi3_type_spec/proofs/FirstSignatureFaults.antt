-- The first fault of a signature that is computed is the first in the order of faults, and it is there wherever one is.
use Rattle.std.proofs.Common.{◌≡◌, ℕ, suc, ◌+◌, ◌-◌, ◌<◌, ◌≤◌, ◌⊎◌, inl, inr, Bool, true, false, List, [], ◌∷◌, length, drop, Option, Some, None, option_map, refl, ap, sym, ◌∙◌, subst, cond, nat_lt, ◌||◌, ◌==◌, arith, ◌&&◌}
use Rattle.std.proofs.lemmas.Bool.{cases_order, ltb-true, ltb-false, eqb-true, eqb-false, or_cases, or_parts}
use Rattle.std.proofs.lemmas.List.{get_or-drop, length-drop}
use Rattle.ffi3_type_spec.specs.declared.limits.TheConstants.{MOST_ARGUMENTS}
use Rattle.ffi3_type_spec.specs.declared.Role.{Role}
use Rattle.ffi3_type_spec.specs.Layout.{has_long_double}
use Rattle.ffi3_type_spec.specs.Tree.{Tree, void, tree_at, left_out, long_double}
use Rattle.ffi3_type_spec.specs.Fault.{Fault, left_out_type}
use Rattle.ffi3_type_spec.specs.Signature.{Signature, SignatureFault, too_many, bad_type, bad_fixed, bad_argument_type, at_result, at_argument, is_promoted, over_most, in_result, in_argument, fixed_outside, promoted, kind_rank, argument_number, SignatureFaultBefore, SignatureHasNoFault, IsFirstSignatureFault, Purpose, for_calls, is_for_calls, result_role, argument_role, IsFoundFault, of_type, of_long_double, IsFaultFor, HasNoFaultFor, IsFirstFaultFor}
use Rattle.ffi3_type_spec.proofs.Signatures.{IsSuited, first_too_many, first_in_result, first_in_argument, first_bad_fixed, right_with_no_fixed, right_with_fixed}
use Rattle.ffi3_type_spec.proofs.Signatures as known
use Rattle.ffi3_type_spec.specs.FirstFault.{Found, or_else, at_position, first_fault, found_fault, first_in_arguments, first_promoted, first_in_fixed, first_fault_for, first_signature_fault}
use Rattle.ffi3_type_spec.proofs.FirstFaults.{in_front_of, Answers, answers, one_first_fault}
use Rattle.ffi3_type_spec.proofs.Tests.{and_left, and_right}

-- ---- what the computed fault says

abbrev pub SignatureAnswers : Purpose → Signature → Option SignatureFault → Type 0
SignatureAnswers purpose s None = HasNoFaultFor purpose s
SignatureAnswers purpose s (Some f) = IsFirstFaultFor purpose s f

-- what is found of a type
abbrev FoundAnswers : Purpose → Role → Tree → Option Found → Type 0
FoundAnswers purpose role t None = IsSuited purpose role t
FoundAnswers purpose role t (Some f) = IsFoundFault purpose role t f.0 f.1

found_by : (purpose : Purpose) (role : Role) (t : Tree) (f : Option Found) → Answers 0 role t f → (b : Bool) → (is_for_calls purpose && has_long_double t) ≡ b → FoundAnswers purpose role t (or_else f (cond b (Some ([], left_out_type (left_out long_double))) None))
found_by purpose role t (Some f) first b e = of_type first
found_by purpose role t None right true e =
    of_long_double (and_left (is_for_calls purpose) (has_long_double t) e) right (and_right (is_for_calls purpose) (has_long_double t) e)
found_by purpose role t None right false e = record { right = right; plain = plain }
  where
    plain : is_for_calls purpose ≡ true → has_long_double t ≡ false
    plain is = sym (ap (λ c. c && has_long_double t) is) ∙ e

found_answers : (purpose : Purpose) (role : Role) (t : Tree) → FoundAnswers purpose role t (found_fault purpose role t)
found_answers purpose role t =
    found_by purpose role t (first_fault 0 role t) (answers 0 role t) (is_for_calls purpose && has_long_double t) refl

-- the arguments before one have no fault, and it has a first one
record FirstArgument (purpose : Purpose) (i : ℕ) (ts : List Tree) (f : SignatureFault) : Type 0 where
  pub number : ℕ
  pub way : List ℕ
  pub fault : Fault
  pub leads : f ≡ bad_type (at_argument (i + number)) way fault
  pub there : number < length ts
  pub right_before : (j : ℕ) → j < number → IsSuited purpose (argument_role purpose) (tree_at ts j)
  pub first : IsFoundFault purpose (argument_role purpose) (tree_at ts number) way fault

-- of arguments, the first of them number i
abbrev ArgumentsAnswer : Purpose → ℕ → List Tree → Option SignatureFault → Type 0
ArgumentsAnswer purpose i ts None =
    (j : ℕ) → j < length ts → IsSuited purpose (argument_role purpose) (tree_at ts j)
ArgumentsAnswer purpose i ts (Some f) = FirstArgument purpose i ts f

argument_in_front : (purpose : Purpose) (i : ℕ) (t : Tree) (ts : List Tree) (f : Option Found) (g : Option SignatureFault) → FoundAnswers purpose (argument_role purpose) t f → ArgumentsAnswer purpose (i + 1) ts g → ArgumentsAnswer purpose i (t ∷ ts) (or_else (option_map (at_position (at_argument i)) f) g)
argument_in_front purpose i t ts (Some f) g first others =
    record { number = 0; way = f.0; fault = f.1; leads = ap (λ n. bad_type (at_argument n) f.0 f.1) (omega arith); there = omega arith; right_before = λ j h. absurd (omega arith); first = first }
argument_in_front purpose i t ts None None right rights = in_front_of (IsSuited purpose (argument_role purpose)) t ts (length ts) right rights
argument_in_front purpose i t ts None (Some g) right first =
    record { number = suc first.number; way = first.way; fault = first.fault; leads = first.leads ∙ ap (λ n. bad_type (at_argument n) first.way first.fault) (omega arith); there = omega (arith, first.there); right_before = in_front_of (IsSuited purpose (argument_role purpose)) t ts first.number right first.right_before; first = first.first }

arguments_answer : (purpose : Purpose) (i : ℕ) (ts : List Tree) → ArgumentsAnswer purpose i ts (first_in_arguments purpose i ts)
arguments_answer purpose i [] = λ j h. absurd (omega arith)
arguments_answer purpose i (t ∷ ts) =
    argument_in_front purpose i t ts (found_fault purpose (argument_role purpose) t) (first_in_arguments purpose (i + 1) ts) (found_answers purpose (argument_role purpose) t) (arguments_answer purpose (i + 1) ts)

-- one of them is promoted, and none before it
record FirstPromoted (i : ℕ) (ts : List Tree) (f : SignatureFault) : Type 0 where
  pub number : ℕ
  pub leads : f ≡ bad_argument_type (i + number)
  pub there : number < length ts
  pub bad : is_promoted (tree_at ts number) ≡ true
  pub right_before : (j : ℕ) → j < number → is_promoted (tree_at ts j) ≡ false

abbrev PromotedAnswer : ℕ → List Tree → Option SignatureFault → Type 0
PromotedAnswer i ts None = (j : ℕ) → j < length ts → is_promoted (tree_at ts j) ≡ false
PromotedAnswer i ts (Some f) = FirstPromoted i ts f

promoted_in_front : (i : ℕ) (t : Tree) (ts : List Tree) (b : Bool) (g : Option SignatureFault) → is_promoted t ≡ b → PromotedAnswer (i + 1) ts g → PromotedAnswer i (t ∷ ts) (cond b (Some (bad_argument_type i)) g)
promoted_in_front i t ts true g bad others =
    record { number = 0; leads = ap bad_argument_type (omega arith); there = omega arith; bad = bad; right_before = λ j h. absurd (omega arith) }
promoted_in_front i t ts false None right rights = in_front_of (λ u. is_promoted u ≡ false) t ts (length ts) right rights
promoted_in_front i t ts false (Some g) right first =
    record { number = suc first.number; leads = first.leads ∙ ap bad_argument_type (omega arith); there = omega (arith, first.there); bad = first.bad; right_before = in_front_of (λ u. is_promoted u ≡ false) t ts first.number right first.right_before }

promoted_answer : (i : ℕ) (ts : List Tree) → PromotedAnswer i ts (first_promoted i ts)
promoted_answer i [] = λ j h. absurd (omega arith)
promoted_answer i (t ∷ ts) =
    promoted_in_front i t ts (is_promoted t) (first_promoted (i + 1) ts) refl (promoted_answer (i + 1) ts)

after_drop : (n : ℕ) (ts : List Tree) (i : ℕ) → tree_at (drop n ts) i ≡ tree_at ts (n + i)
after_drop n ts i = get_or-drop n ts i void

behind_drop : (n : ℕ) (ts : List Tree) (j : ℕ) → n ≤ j → is_promoted (tree_at (drop n ts) (j - n)) ≡ false → is_promoted (tree_at ts j) ≡ false
behind_drop n ts j from e =
    let same : n + (j - n) ≡ j = omega arith in
    ap (λ k. is_promoted (tree_at ts k)) (sym same) ∙ ap is_promoted (sym (after_drop n ts (j - n))) ∙ e

-- the kinds of faults, one after another
module _ (purpose : Purpose) (s : Signature) (few : length s.arguments ≤ MOST_ARGUMENTS) where
  module _ (result_right : IsSuited purpose (result_role purpose) s.result_type) where
    module _ (right : (j : ℕ) → j < length s.arguments → IsSuited purpose (argument_role purpose) (tree_at s.arguments j)) where
      by_promoted : (n : ℕ) → s.fixed ≡ Some n → 0 < n → n ≤ length s.arguments → (f : Option SignatureFault) → PromotedAnswer n (drop n s.arguments) f → SignatureAnswers purpose s f
      by_promoted n is some within None none = right_with_fixed s few result_right right n is some within (λ j from below. behind_drop n s.arguments j from (none (j - n) (omega (arith, length-drop n s.arguments))))
      by_promoted n is some within (Some f) p =
          subst (IsFirstFaultFor purpose s) (sym p.leads) (known.first_promoted s few result_right right n is some within (n + p.number) (omega arith) (omega (arith, p.there, length-drop n s.arguments)) (ap is_promoted (sym (after_drop n s.arguments p.number)) ∙ p.bad) (λ j from below. behind_drop n s.arguments j from (p.right_before (j - n) (omega arith))))

      by_number : (n : ℕ) → s.fixed ≡ Some n → (b : Bool) → ((n == 0) || nat_lt (length s.arguments) n) ≡ b → SignatureAnswers purpose s (cond b (Some (bad_fixed n (length s.arguments))) (first_promoted n (drop n s.arguments)))
      by_number n is true e =
          first_bad_fixed s few result_right right n is (elim (or_cases (n == 0) (nat_lt (length s.arguments) n) e) [
            | inl none ↦ inl (eqb-true n 0 none)
            | inr over ↦ inr (ltb-true (length s.arguments) n over)
          ])
      by_number n is false e =
          let within = or_parts (n == 0) (nat_lt (length s.arguments) n) e in
          let not_none : n ≡ 0 → ⊥ = eqb-false n 0 within.0 in
          by_promoted n is (omega arith) (ltb-false (length s.arguments) n within.1) (first_promoted n (drop n s.arguments)) (promoted_answer n (drop n s.arguments))

      by_fixed : (fixed : Option ℕ) → s.fixed ≡ fixed → SignatureAnswers purpose s (first_in_fixed fixed s.arguments)
      by_fixed None is = right_with_no_fixed s few result_right right is
      by_fixed (Some n) is = by_number n is ((n == 0) || nat_lt (length s.arguments) n) refl

    by_arguments : (f : Option SignatureFault) → ArgumentsAnswer purpose 0 s.arguments f → SignatureAnswers purpose s (or_else f (first_in_fixed s.fixed s.arguments))
    by_arguments None right = by_fixed right s.fixed refl
    by_arguments (Some f) a =
        let leads : bad_type (at_argument a.number) a.way a.fault ≡ f = ap (λ n. bad_type (at_argument n) a.way a.fault) (omega arith) ∙ sym a.leads in
        subst (IsFirstFaultFor purpose s) leads (first_in_argument s few result_right a.number a.way a.fault a.there a.right_before a.first)

  by_result : (f : Option Found) → FoundAnswers purpose (result_role purpose) s.result_type f → SignatureAnswers purpose s (or_else (option_map (at_position at_result) f) (or_else (first_in_arguments purpose 0 s.arguments) (first_in_fixed s.fixed s.arguments)))
  by_result None right =
      by_arguments right (first_in_arguments purpose 0 s.arguments) (arguments_answer purpose 0 s.arguments)
  by_result (Some f) first = first_in_result s few f.0 f.1 first

by_count : (purpose : Purpose) (s : Signature) (b : Bool) → nat_lt MOST_ARGUMENTS (length s.arguments) ≡ b → SignatureAnswers purpose s (cond b (Some (too_many (length s.arguments))) (or_else (option_map (at_position at_result) (found_fault purpose (result_role purpose) s.result_type)) (or_else (first_in_arguments purpose 0 s.arguments) (first_in_fixed s.fixed s.arguments))))
by_count purpose s true e = first_too_many s (ltb-true MOST_ARGUMENTS (length s.arguments) e)
by_count purpose s false e =
    by_result purpose s (ltb-false MOST_ARGUMENTS (length s.arguments) e) (found_fault purpose (result_role purpose) s.result_type) (found_answers purpose (result_role purpose) s.result_type)

pub signature_answers : (purpose : Purpose) (s : Signature) → SignatureAnswers purpose s (first_fault_for purpose s)
signature_answers purpose s = by_count purpose s (nat_lt MOST_ARGUMENTS (length s.arguments)) refl

pub signature_right_by_none : (s : Signature) → first_signature_fault s ≡ None → SignatureHasNoFault s
signature_right_by_none s e = subst (SignatureAnswers for_calls s) e (signature_answers for_calls s)

-- ---- no other fault is the first

-- of one type one fault is found
one_found_fault : {purpose : Purpose} {role : Role} {t : Tree} (p : List ℕ) (f : Fault) (q : List ℕ) (g : Fault) → IsFoundFault purpose role t p f → IsFoundFault purpose role t q g → (p ≡ q) × (f ≡ g)
one_found_fault p f q g (of_type a) (of_type b) = one_first_fault p f q g a b
one_found_fault p f q g (of_type a) (of_long_double calls right long) = absurd (right p f a.is_there)
one_found_fault p f q g (of_long_double calls right long) (of_type b) = absurd (right q g b.is_there)
one_found_fault p f q g (of_long_double calls right long) (of_long_double calls' right' long') = (refl, refl)

-- two faults of one kind and of one argument, of which each is the first there, are the same
same_by_kind : (purpose : Purpose) (s : Signature) (f g : SignatureFault) → IsFaultFor purpose s f → IsFaultFor purpose s g → kind_rank f ≡ kind_rank g → argument_number f ≡ argument_number g → f ≡ g
same_by_kind purpose s f g (over_most a) (over_most b) kind number = refl
same_by_kind purpose s f g (in_result {path = p} {fault = x} a) (in_result {path = q} {fault = y} b) kind number =
    let same = one_found_fault p x q y a b in
    λ i. bad_type at_result (same.0 i) (same.1 i)
same_by_kind purpose s f g (in_argument {i = n} {path = p} {fault = x} low a) (in_argument {i = m} {path = q} {fault = y} below b) kind number =
    let same = one_found_fault p x q y a (subst (λ k. IsFoundFault purpose (argument_role purpose) (tree_at s.arguments k) q y) (sym number) b) in
    λ i. bad_type (at_argument (number i)) (same.0 i) (same.1 i)
same_by_kind purpose s f g (fixed_outside {n = n} is a) (fixed_outside {n = m} has b) kind number =
    let same : n ≡ m = cc in
    ap (λ k. bad_fixed k (length s.arguments)) same
same_by_kind purpose s f g (promoted is since low a) (promoted has from below b) kind number = ap bad_argument_type number
same_by_kind purpose s f g _ _ kind number = absurd (omega arith)

abbrev OrderedFaults : SignatureFault → SignatureFault → Type 0
OrderedFaults f g = SignatureFaultBefore f g ⊎ (SignatureFaultBefore g f ⊎ (f ≡ g))

ordered_faults : (f g : SignatureFault) → (kind_rank f ≡ kind_rank g → argument_number f ≡ argument_number g → f ≡ g) → OrderedFaults f g
ordered_faults f g same =
    elim (cases_order (kind_rank f) (kind_rank g)) [
      | inl kind ↦ elim (cases_order (argument_number f) (argument_number g)) [
        | inl number ↦ inr (inr (same kind number))
        | inr other ↦ elim other [ inl less ↦ inl (inr (kind, less)) | inr more ↦ inr (inl (inr (sym kind, more))) ]
      ]
      | inr other ↦ elim other [ inl less ↦ inl (inl less) | inr more ↦ inr (inl (inl more)) ]
    ]

module _ {purpose : Purpose} (s : Signature) where
  pub one_first_signature_fault : (f g : SignatureFault) → IsFirstFaultFor purpose s f → IsFirstFaultFor purpose s g → f ≡ g
  one_first_signature_fault f g a b =
      elim (ordered_faults f g (same_by_kind purpose s f g a.is_there b.is_there)) [
        | inl before ↦ absurd (b.none_before f a.is_there before)
        | inr rest ↦ elim rest [ inl after ↦ absurd (a.none_before g b.is_there after) | inr same ↦ same ]
      ]

  some_by_first : (f : SignatureFault) → IsFirstFaultFor purpose s f → (found : Option SignatureFault) → SignatureAnswers purpose s found → found ≡ Some f
  some_by_first f first None right = absurd (right f first.is_there)
  some_by_first f first (Some g) other = ap Some (one_first_signature_fault g f other first)

  none_by_right : HasNoFaultFor purpose s → (found : Option SignatureFault) → SignatureAnswers purpose s found → found ≡ None
  none_by_right right None e = refl
  none_by_right right (Some g) first = absurd (right g first.is_there)

pub signature_found_by_first : (s : Signature) (f : SignatureFault) → IsFirstSignatureFault s f → first_signature_fault s ≡ Some f
signature_found_by_first s f first = some_by_first s f first (first_signature_fault s) (signature_answers for_calls s)

pub signature_none_found : (s : Signature) → SignatureHasNoFault s → first_signature_fault s ≡ None
signature_none_found s right = none_by_right s right (first_signature_fault s) (signature_answers for_calls s)
