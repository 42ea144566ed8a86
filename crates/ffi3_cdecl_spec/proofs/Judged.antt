-- Declarations whose types are alike have the same first fault, and are the same where there is none.
use Rattle.std.proofs.Common.{◌≡◌, ℕ, suc, ◌+◌, ◌<◌, Bool, true, false, cond, ◌&&◌, nat_lt, List, [], ◌∷◌, length, map, Option, Some, None, option_map, refl, ap, sym, ◌∙◌}
use Rattle.ffi3_type_spec.specs.declared.limits.TheConstants.{MOST_ARGUMENTS}
use Rattle.ffi3_type_spec.specs.declared.Role.{Role}
use Rattle.ffi3_type_spec.specs.Tree.{Tree, long_double, left_out}
use Rattle.ffi3_type_spec.specs.Layout.{has_long_double}
use Rattle.ffi3_type_spec.specs.Fault.{left_out_type}
use Rattle.ffi3_type_spec.specs.Signature.{Signature, SignatureFault, too_many, at_result, at_argument, Purpose, for_calls, is_for_calls, result_role, argument_role}
use Rattle.ffi3_type_spec.specs.FirstFault.{Found, or_else, at_position, first_fault, found_fault, first_in_arguments, first_in_fixed, first_fault_for, first_signature_fault}
use Rattle.ffi3_cdecl_spec.specs.Tokens.{TOO_GREAT}
use Rattle.ffi3_cdecl_spec.specs.Grammar.{Declaration}
use Rattle.ffi3_cdecl_spec.specs.Machine.{with_signature, judged}
use Rattle.ffi3_cdecl_spec.proofs.Alike.{View, as_they_are, Alike, AllSame, no_types, one_type, or_else_same, or_else_none, mapped_none, Kept}
use Rattle.ffi3_cdecl_spec.proofs.Kept.{SameDeclaration}

abbrev pub IsSmall : ℕ → Type 0
IsSmall n = n < TOO_GREAT

-- a signature whose types are seen so
abbrev pub seen_signature : View → Signature → Signature
seen_signature v s =
    record { result_type = v.seen s.result_type; arguments = map v.seen s.arguments; fixed = s.fixed }

-- of a signature that is looked at for this
module _ (purpose : Purpose) (v : View) where
  -- ---- one type of a signature

  abbrev long_in : Tree → Option Found
  long_in t =
      cond (is_for_calls purpose && has_long_double t) (Some ([], left_out_type (left_out long_double))) None

  found_same : (role : Role) (t u : Tree) → Alike v t u → found_fault purpose role (v.seen t) ≡ found_fault purpose role (v.seen u)
  found_same role t u s =
      or_else_same (first_fault 0 role (v.seen t)) (first_fault 0 role (v.seen u)) (long_in (v.seen t)) (long_in (v.seen u)) (s.same_fault 0 role) (λ e. ap (λ x. long_in (v.seen x)) (s.same_type 0 role e))

  found_type : (role : Role) (t u : Tree) → Alike v t u → found_fault purpose role (v.seen t) ≡ None → t ≡ u
  found_type role t u s e =
      s.same_type 0 role (or_else_none (first_fault 0 role (v.seen t)) (long_in (v.seen t)) e).0

  -- ---- arguments

  arguments_same : {ts us : List Tree} → AllSame (Alike v) ts us → (i : ℕ) → first_in_arguments purpose i (map v.seen ts) ≡ first_in_arguments purpose i (map v.seen us)
  arguments_same no_types i = refl
  arguments_same (one_type {t = t} {u = u} {ts = ts} {us = us} s rest) i =
      ap (λ x. or_else (option_map (at_position (at_argument i)) x) (first_in_arguments purpose (i + 1) (map v.seen ts))) (found_same (argument_role purpose) t u s) ∙ ap (λ x. or_else (option_map (at_position (at_argument i)) (found_fault purpose (argument_role purpose) (v.seen u))) x) (arguments_same rest (i + 1))

  arguments_none : {ts us : List Tree} → AllSame (Alike v) ts us → (i : ℕ) → first_in_arguments purpose i (map v.seen ts) ≡ None → ts ≡ us
  arguments_none no_types i e = refl
  arguments_none (one_type {t = t} {u = u} {ts = ts} {us = us} s rest) i e =
      let parts = or_else_none (option_map (at_position (at_argument i)) (found_fault purpose (argument_role purpose) (v.seen t))) (first_in_arguments purpose (i + 1) (map v.seen ts)) e in
      let first : t ≡ u = found_type (argument_role purpose) t u s (mapped_none (at_position (at_argument i)) (found_fault purpose (argument_role purpose) (v.seen t)) parts.0) in
      let others : ts ≡ us = arguments_none rest (i + 1) parts.1 in
      λ k. first k ∷ others k

  length-seen : {ts us : List Tree} → AllSame (Alike v) ts us → length (map v.seen ts) ≡ length (map v.seen us)
  length-seen no_types = refl
  length-seen (one_type s rest) = ap suc (length-seen rest)

  -- ---- signatures

  abbrev after_count : Tree → List Tree → Option ℕ → Option SignatureFault
  after_count t ts o =
      or_else (option_map (at_position at_result) (found_fault purpose (result_role purpose) (v.seen t))) (or_else (first_in_arguments purpose 0 (map v.seen ts)) (first_in_fixed o (map v.seen ts)))

  abbrev by_count : ℕ → Option SignatureFault → Option SignatureFault
  by_count n x = cond (nat_lt MOST_ARGUMENTS n) (Some (too_many n)) x

  else_none : (b : Bool) (x : SignatureFault) (other : Option SignatureFault) → cond b (Some x) other ≡ None → other ≡ None
  else_none true x other e = absurd (cc)
  else_none false x other e = e

  after_count_same : (t u : Tree) (ts us : List Tree) (o : Option ℕ) → Alike v t u → AllSame (Alike v) ts us → after_count t ts o ≡ after_count u us o
  after_count_same t u ts us o s all =
      ap (λ x. or_else (option_map (at_position at_result) x) (or_else (first_in_arguments purpose 0 (map v.seen ts)) (first_in_fixed o (map v.seen ts)))) (found_same (result_role purpose) t u s) ∙ ap (λ x. or_else (option_map (at_position at_result) (found_fault purpose (result_role purpose) (v.seen u))) x) (or_else_same (first_in_arguments purpose 0 (map v.seen ts)) (first_in_arguments purpose 0 (map v.seen us)) (first_in_fixed o (map v.seen ts)) (first_in_fixed o (map v.seen us)) (arguments_same all 0) (λ e. ap (λ vs. first_in_fixed o (map v.seen vs)) (arguments_none all 0 e)))

  abbrev pub AlikeDeclarations : Declaration → Declaration → Type 0
  AlikeDeclarations d e = SameDeclaration IsSmall (Alike v) (Kept v) d e

  pub fault_same : (d e : Declaration) → AlikeDeclarations d e → first_fault_for purpose (seen_signature v d.signature) ≡ first_fault_for purpose (seen_signature v e.signature)
  fault_same d e same =
      ap (λ n. by_count n (after_count d.signature.result_type d.signature.arguments d.signature.fixed)) (length-seen same.same_arguments) ∙ ap (by_count (length (map v.seen e.signature.arguments))) (ap (after_count d.signature.result_type d.signature.arguments) same.same_fixed ∙ after_count_same d.signature.result_type e.signature.result_type d.signature.arguments e.signature.arguments e.signature.fixed same.same_type same.same_arguments)

  pub none_same : (d e : Declaration) → AlikeDeclarations d e → first_fault_for purpose (seen_signature v d.signature) ≡ None → d ≡ e
  none_same d e same none =
      let after = else_none (nat_lt MOST_ARGUMENTS (length (map v.seen d.signature.arguments))) (too_many (length (map v.seen d.signature.arguments))) (after_count d.signature.result_type d.signature.arguments d.signature.fixed) none in
      let parts = or_else_none (option_map (at_position at_result) (found_fault purpose (result_role purpose) (v.seen d.signature.result_type))) (or_else (first_in_arguments purpose 0 (map v.seen d.signature.arguments)) (first_in_fixed d.signature.fixed (map v.seen d.signature.arguments))) after in
      let result : d.signature.result_type ≡ e.signature.result_type = found_type (result_role purpose) d.signature.result_type e.signature.result_type same.same_type (mapped_none (at_position at_result) (found_fault purpose (result_role purpose) (v.seen d.signature.result_type)) parts.0) in
      let arguments : d.signature.arguments ≡ e.signature.arguments = arguments_none same.same_arguments 0 (or_else_none (first_in_arguments purpose 0 (map v.seen d.signature.arguments)) (first_in_fixed d.signature.fixed (map v.seen d.signature.arguments)) parts.1).0 in
      λ i. record { called = same.same_called i; signature = record { result_type = result i; arguments = arguments i; fixed = same.same_fixed i } }

-- ---- as they stand

types_themselves : (ts : List Tree) → map (λ t. t) ts ≡ ts
types_themselves [] = refl
types_themselves (t ∷ ts) = ap (λ us. t ∷ us) (types_themselves ts)

fault_itself : (s : Signature) → first_fault_for for_calls (seen_signature as_they_are s) ≡ first_signature_fault s
fault_itself s =
    ap (λ ts. first_signature_fault (record { result_type = s.result_type; arguments = ts; fixed = s.fixed })) (types_themselves s.arguments)

module _ (d e : Declaration) (same : AlikeDeclarations for_calls as_they_are d e) where
  judged_by : (f : Option SignatureFault) → first_signature_fault d.signature ≡ f → with_signature d f ≡ with_signature e f
  judged_by None none =
      ap (λ c. with_signature c None) (none_same for_calls as_they_are d e same (fault_itself d.signature ∙ none))
  judged_by (Some f) there = refl

  pub judged_same : judged d ≡ judged e
  judged_same =
      judged_by (first_signature_fault d.signature) refl ∙ ap (with_signature e) (sym (fault_itself d.signature) ∙ fault_same for_calls as_they_are d e same ∙ fault_itself e.signature)
