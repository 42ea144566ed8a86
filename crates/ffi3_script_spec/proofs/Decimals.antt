-- 128-bit integers as texts: what their digits write, and which are in range.
use Rattle.std.proofs.Common.{◌≡◌, ◌⊎◌, inl, inr, ℕ, zero, suc, ◌*◌, ◌-◌, ◌^◌, ◌<◌, ◌≤◌, Bool, true, false, List, [], ◌∷◌, length, drop, Some, Result, Ok, Err, ℤ, pos, codes, bytes_eq, refl, sym, ap, subst, ◌∙◌, arith}
use Rattle.std.specs.Prelude.{◌%◌, ◌&&◌, ◌||◌, ◌==◌, neg_ℤ, nat_lt, nat_le, slice_index}
use Rattle.std.specs.Int.{w128, to_le_bytes}
use Rattle.std.specs.Result.{OkIff}
use Rattle.std.specs.Str.{all_ascii_digits}
use Rattle.std.specs.Str.Parse.{ParsesUnsigned, ParsesSigned, starts_with_minus}
use Rattle.std.proofs.lemmas.Bool.{leb-true, le-leb, lt-ltb, ltb-true, eqb-true}
use Rattle.std.proofs.lemmas.Str.Parse.{WeighsDigits, IsNumeralModel, numerals_by_weight, tells_all_ascii_digits, parse_digits, parse_signed_minus}
use Rattle.ffi3_type_spec.specs.Tree.{Tree, scalar, u128, s128}
use Rattle.ffi3_type_spec.specs.Integer.{scalar_of, is_signed, width_of, bit_count, bytes_of_number}
use Rattle.ffi3_script_spec.specs.Language.{JsonPath, read, fault, out_of_range}
use Rattle.ffi3_script_spec.specs.Script.{constant}
use Rattle.ffi3_script_spec.specs.Values.{is_counting, is_plain_number, is_negative_number, number_written, in_range, read_integer, is_wide_type}
use Rattle.ffi3_script_spec.proofs.Tests.{and_left, and_right, both, if_true, if_false}

-- ---- digits

weighs : WeighsDigits number_written
weighs = record { empty = refl; more = λ c cs k. refl }

abbrev AreDigits : List ℕ → Type 0
AreDigits ds = all_ascii_digits ds ≡ true

-- digits and the number that they write, in the words of `parse`
numerals : IsNumeralModel AreDigits number_written
numerals = numerals_by_weight AreDigits tells_all_ascii_digits number_written weighs

positive : (c n : ℕ) → 49 ≤ c → 0 < n → 0 < (c - 48) * n
positive c (suc n) low some = omega arith
positive c zero low some = absurd (omega arith)

ten_positive : (k : ℕ) → 0 < 10 ^ k
ten_positive zero = omega arith
ten_positive (suc k) = omega (arith, ten_positive k)

-- digits that don't begin with 0 write a number that is not 0
pub counting : (ds : List ℕ) → is_counting ds ≡ true → (all_ascii_digits ds ≡ true) × (0 < length ds) × (0 < number_written ds)
counting [] h = absurd (cc)
counting (c ∷ cs) h =
    let rest = and_right (nat_le 49 c) _ h in
    let low = leb-true 49 c (and_left (nat_le 49 c) _ h) in
    let high = and_left (nat_le c 57) _ rest in
    let first : (nat_le 48 c && nat_le c 57) ≡ true = both (nat_le 48 c) (nat_le c 57) (le-leb 48 c (omega (arith, low))) high in
    (both (nat_le 48 c && nat_le c 57) (all_ascii_digits cs) first (and_right (nat_le c 57) _ rest), omega arith, omega (arith, positive c (10 ^ length cs) low (ten_positive (length cs))))

or_cases : (a b : Bool) → (a || b) ≡ true → (a ≡ true) ⊎ (b ≡ true)
or_cases true b h = inl refl
or_cases false b h = inr h

zero_alone : (text : List ℕ) → bytes_eq text (codes "0") ≡ true → (all_ascii_digits text ≡ true) × (0 < length text)
zero_alone [] h = absurd (cc)
zero_alone (c ∷ []) h =
    let is : c ≡ 48 = eqb-true c 48 (and_left (c == 48) true h) in
    (ap (λ d. all_ascii_digits (d ∷ [])) is, omega arith)
zero_alone (c ∷ d ∷ cs) h = let wrong : false ≡ true = and_right (c == 48) false h in absurd (cc)

plain_cases : (text : List ℕ) → (bytes_eq text (codes "0") ≡ true) ⊎ (is_counting text ≡ true) → (all_ascii_digits text ≡ true) × (0 < length text)
plain_cases text (inl h) = zero_alone text h
plain_cases text (inr h) = let k = counting text h in (k.0, k.1)

pub plain_digits : (text : List ℕ) → is_plain_number text ≡ true → (all_ascii_digits text ≡ true) × (0 < length text)
plain_digits text h =
    plain_cases text (or_cases (bytes_eq text (codes "0")) (is_counting text) h)

-- ---- ranges

test_by : (a b : ℕ) (t : Bool) → nat_lt a b ≡ t → (a < b → ⊥) → t ≡ false
test_by a b true e never = absurd (never (ltb-true a b e))
test_by a b false e never = refl

not_below : (a b : ℕ) → (a < b → ⊥) → nat_lt a b ≡ false
not_below a b never = test_by a b (nat_lt a b) refl never

plain_above : (t : Tree) (m : ℕ) → is_wide_type t ≡ true → (m < 2 ^ 128 → ⊥) → in_range (scalar_of t) (pos m) ≡ false
plain_above (scalar u128) m wide never = not_below m (2 ^ 128) never
plain_above (scalar s128) m wide never = not_below m (2 ^ 127) (λ h. never (omega (arith, h)))
plain_above _ m wide never = cc

negative_unsigned : (t : Tree) (m : ℕ) → is_wide_type t ≡ true → is_signed (scalar_of t) ≡ false → 0 < m → in_range (scalar_of t) (neg_ℤ (pos m)) ≡ false
negative_unsigned (scalar u128) (suc m) wide unsigned some = refl
negative_unsigned (scalar u128) zero wide unsigned some = absurd (omega arith)
negative_unsigned _ m wide unsigned some = cc

negative_beyond : (t : Tree) (m : ℕ) → is_wide_type t ≡ true → 0 < m → (m ≤ 2 ^ 127 → ⊥) → in_range (scalar_of t) (neg_ℤ (pos m)) ≡ false
negative_beyond (scalar u128) (suc m) wide some never = refl
negative_beyond (scalar s128) (suc m) wide some never =
    not_below m (2 ^ 127) (λ h. never (omega (arith, h)))
negative_beyond (scalar u128) zero wide some never = absurd (omega arith)
negative_beyond (scalar s128) zero wide some never = absurd (omega arith)
negative_beyond _ m wide some never = cc

negative_within : (t : Tree) (m : ℕ) → is_wide_type t ≡ true → is_signed (scalar_of t) ≡ true → 0 < m → m ≤ 2 ^ 127 → in_range (scalar_of t) (neg_ℤ (pos m)) ≡ true
negative_within (scalar s128) (suc m) wide signed some h =
    lt-ltb m (2 ^ 127) (omega (arith, h))
negative_within (scalar s128) zero wide signed some h = absurd (omega arith)
negative_within _ m wide signed some h = cc

-- ---- what is read

-- a number that is not in range
out : (t : Tree) (z : ℤ) (path : JsonPath) → in_range (scalar_of t) z ≡ false → read_integer (scalar_of t) (Some z) path ≡ fault path out_of_range
out t z path h =
    if_false (in_range (scalar_of t) z) (read (constant (bytes_of_number (scalar_of t) z))) (fault path out_of_range) h

within : (t : Tree) (z : ℤ) (path : JsonPath) → in_range (scalar_of t) z ≡ true → read_integer (scalar_of t) (Some z) path ≡ read (constant (bytes_of_number (scalar_of t) z))
within t z path h =
    if_true (in_range (scalar_of t) z) (read (constant (bytes_of_number (scalar_of t) z))) (fault path out_of_range) h

module _ {E : Type 0} (t : Tree) (text : List ℕ) (path : JsonPath) (wide : is_wide_type t ≡ true) (digits : all_ascii_digits text ≡ true) (some : 0 < length text) (r : Result ℕ E) (parses : ParsesUnsigned 128 10 text r) where
  given : OkIff r ((0 < length text) × (number_written text < 2 ^ 128)) (number_written text)
  given = parse_digits numerals 128 text r parses digits

  -- what `parse` refuses is too great
  pub plain_refused : (e : E) → r ≡ Err e → read_integer (scalar_of t) (Some (pos (number_written text))) path ≡ fault path out_of_range
  plain_refused e is =
      let never = subst (λ s. OkIff s ((0 < length text) × (number_written text < 2 ^ 128)) (number_written text)) is given in
      out t (pos (number_written text)) path (plain_above t (number_written text) wide (λ h. never (some, h)))

  module _ (n : ℕ) (is : r ≡ Ok n) where
    number_is : n ≡ number_written text
    number_is = (subst (λ s. OkIff s ((0 < length text) × (number_written text < 2 ^ 128)) (number_written text)) is given).1

    pub plain_out : in_range (scalar_of t) (pos n) ≡ false → read_integer (scalar_of t) (Some (pos (number_written text))) path ≡ fault path out_of_range
    plain_out h =
        out t (pos (number_written text)) path (subst (λ m. in_range (scalar_of t) (pos m) ≡ false) number_is h)

    pub plain_within : in_range (scalar_of t) (pos n) ≡ true → read_integer (scalar_of t) (Some (pos (number_written text))) path ≡ read (constant (to_le_bytes (width_of (scalar_of t)) (n % 2 ^ bit_count (width_of (scalar_of t)))))
    plain_within h =
        ap (λ m. read_integer (scalar_of t) (Some (pos m)) path) (sym number_is) ∙ within t (pos n) path h

module _ (t : Tree) (text : List ℕ) (path : JsonPath) (wide : is_wide_type t ≡ true) (negative : is_negative_number text ≡ true) where
  abbrev below : ℤ
  below = neg_ℤ (pos (number_written (drop 1 text)))

  below_counting : (all_ascii_digits (drop 1 text) ≡ true) × (0 < length (drop 1 text)) × (0 < number_written (drop 1 text))
  below_counting = counting (drop 1 text) (and_right (starts_with_minus text) _ negative)

  -- no number below 0
  pub negative_refused : is_signed (scalar_of t) ≡ false → read_integer (scalar_of t) (Some below) path ≡ fault path out_of_range
  negative_refused unsigned =
      out t below path (negative_unsigned t (number_written (drop 1 text)) wide unsigned below_counting.2)

  module _ {E : Type 0} (r : Result ℤ E) (parses : ParsesSigned w128 10 text r) where
    signed_given : OkIff r (AreDigits (drop 1 text) × (0 < length (drop 1 text)) × (number_written (drop 1 text) ≤ 2 ^ 127)) below
    signed_given =
        parse_signed_minus numerals w128 text r parses (eqb-true (slice_index text 0) 45 (and_left (starts_with_minus text) _ negative))

    pub negative_too_far : (e : E) → r ≡ Err e → read_integer (scalar_of t) (Some below) path ≡ fault path out_of_range
    negative_too_far e is =
        let never = subst (λ s. OkIff s (AreDigits (drop 1 text) × (0 < length (drop 1 text)) × (number_written (drop 1 text) ≤ 2 ^ 127)) below) is signed_given in
        out t below path (negative_beyond t (number_written (drop 1 text)) wide below_counting.2 (λ h. never (below_counting.0, below_counting.1, h)))

    pub negative_read : (n : ℤ) → r ≡ Ok n → is_signed (scalar_of t) ≡ true → read_integer (scalar_of t) (Some below) path ≡ read (constant (bytes_of_number (scalar_of t) n))
    negative_read n is signed =
        let held = subst (λ s. OkIff s (AreDigits (drop 1 text) × (0 < length (drop 1 text)) × (number_written (drop 1 text) ≤ 2 ^ 127)) below) is signed_given in
        within t below path (negative_within t (number_written (drop 1 text)) wide signed below_counting.2 held.0.2) ∙ ap (λ z. read (constant (bytes_of_number (scalar_of t) z))) (sym held.1)
