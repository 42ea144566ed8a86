-- Numbers as their decimal digits, with no sign and no leading zero.
use Rattle.std.proofs.Common.{◌≡◌, ◌≢◌, ◌∙◌, ◌&&◌, ◌==◌, ◌<◌, ◌^◌, ℕ, Bool, true, false, cond, [], ◌∷◌, Option, Some, None, nat_lt, decimal, get_or, arith, refl, sym, ap, subst, lt-ltb, ltb-true, ne_eqb, true≢false}
use Rattle.std.specs.Cmp.{first_so, second_so}
use Rattle.std.specs.Cmp.Derive.{both_true}
use Rattle.std.specs.Option.{option_and_then}
use Rattle.std.specs.Str.{bytes_eq}
use Rattle.std.specs.Str.Parse.{AllDigits, IsNumeral, digits_value, without_leading_plus}
use Rattle.std.proofs.lemmas.Slice.Eq.{bytes_eq-Decides}
use Rattle.std.proofs.lemmas.Str.Parse.{digit_from_value, without_leading_plus_none}
use Rattle.std.proofs.lemmas.Fmt.{decimal_is_IsNumeral}
use Rattle.clap.specs.Lexer.{long_of, long_of_rest, short_of, short_of_rest, strip_byte}
use Rattle.clap.specs.Words.{Text}
use Rattle.ffi3_cli_spec.specs.WordCommands.{number_of}

-- ---- the number that a text writes

none_where : (b : Bool) (n : ℕ) → (b ≡ true → ⊥) → None ≡ cond b (Some n) None
none_where true n never = absurd (never refl)
none_where false n never = refl

not_plus : (word : Text) → AllDigits 10 word → get_or word 0 0 ≢ 43
not_plus [] digits e = omega arith
not_plus (c ∷ cs) digits e = omega (arith, digit_from_value c digits.0)

abbrev number_if : Text → ℕ → Option ℕ
number_if word n = cond (nat_lt n (2 ^ 32) && bytes_eq (decimal n) word) (Some n) None

-- the decimal digits of a number write it
pub written : (n : ℕ) → n < 2 ^ 32 → number_of (decimal n) ≡ Some n
written n small =
    let value : digits_value 10 (decimal n) ≡ n = (decimal_is_IsNumeral n (omega (arith, small))).1 in
    let same : bytes_eq (decimal n) (decimal n) ≡ true = (bytes_eq-Decides (decimal n) (decimal n)).1 refl in
    ap (number_if (decimal n)) value ∙ ap (λ (b : Bool). cond b (Some n) None) (both_true (lt-ltb n (2 ^ 32) small) same)

pub written_as : (word : Text) (n : ℕ) → n < 2 ^ 32 → bytes_eq (decimal n) word ≡ true → Some n ≡ number_of word
written_as word n small is =
    subst (λ (w : Text). Some n ≡ number_of w) ((bytes_eq-Decides (decimal n) word).0 is) (sym (written n small))

-- what the text of a number is
record Reads (word : Text) (n : ℕ) : Type 0 where
  numeral : IsNumeral 10 word
  whole : without_leading_plus word ≡ word
  value : digits_value 10 word ≡ n
  small : n < 2 ^ 32

reads : (n : ℕ) → n < 2 ^ 32 → Reads (decimal n) n
reads n few =
    let is = decimal_is_IsNumeral n (omega (arith, few)) in
    record {
      numeral = is.0;
      whole = without_leading_plus_none (decimal n) (not_plus (decimal n) is.0.1);
      value = is.1;
      small = few;
    }

-- no number of 32 bits is written as the word
pub not_written : (word : Text) → ((n : ℕ) → n < 2 ^ 32 → bytes_eq (decimal n) word ≡ true → ⊥) → None ≡ number_of word
not_written word unlike =
    let n = digits_value 10 word in
    none_where (nat_lt n (2 ^ 32) && bytes_eq (decimal n) word) n (λ e. unlike n (ltb-true n (2 ^ 32) (first_so (nat_lt n (2 ^ 32)) _ e)) (second_so (nat_lt n (2 ^ 32)) _ e))

-- the digits after any plus are no numeral of 32 bits
pub no_numeral : (word : Text) → (IsNumeral 10 (without_leading_plus word) × (digits_value 10 (without_leading_plus word) < 2 ^ 32) → ⊥) → None ≡ number_of word
no_numeral word none =
    not_written word (λ n small is. let r = subst (λ (w : Text). Reads w n) ((bytes_eq-Decides (decimal n) word).0 is) (reads n small) in
    none (subst (IsNumeral 10) (sym r.whole) r.numeral, omega (arith, r.small, ap (digits_value 10) r.whole ∙ r.value)))

-- the number that they write is written otherwise
pub other_text : (word : Text) (m : ℕ) → m ≡ digits_value 10 (without_leading_plus word) → bytes_eq (decimal m) word ≡ false → None ≡ number_of word
other_text word m is other =
    not_written word (λ n small same. let r = subst (λ (w : Text). Reads w n) ((bytes_eq-Decides (decimal n) word).0 same) (reads n small) in
    let one : m ≡ n = is ∙ (ap (digits_value 10) r.whole ∙ r.value) in
    true≢false (sym same ∙ (ap (λ (k : ℕ). bytes_eq (decimal k) word) (sym one) ∙ other)))

-- ---- the digits as a word of the call

-- the word is neither `--`, nor does it begin like a flag
pub record IsPlainWord (word : Text) : Type 0 where
  pub no_dashes : bytes_eq word (45 ∷ 45 ∷ []) ≡ false
  pub no_long : long_of word ≡ None
  pub no_short : short_of word ≡ None

plain_digits : (word : Text) → AllDigits 10 word → IsPlainWord word
plain_digits [] digits = record { no_dashes = refl; no_long = refl; no_short = refl }
plain_digits (c ∷ cs) digits =
    let e : (c == 45) ≡ false = ne_eqb c 45 (λ same. omega (arith, digit_from_value c digits.0)) in
    record {
      no_dashes = ap (λ (b : Bool). b && bytes_eq cs (45 ∷ [])) e;
      no_long = ap (λ (b : Bool). option_and_then long_of_rest (option_and_then (strip_byte 45) (cond b (Some cs) None))) e;
      no_short = ap (λ (b : Bool). option_and_then short_of_rest (cond b (Some cs) None)) e;
    }

pub plain_decimal : (n : ℕ) → n < 2 ^ 32 → IsPlainWord (decimal n)
plain_decimal n small =
    plain_digits (decimal n) (decimal_is_IsNumeral n (omega (arith, small))).0.1
