-- The kinds of token that could stand behind a beginning are computed.
use Rattle.std.proofs.Common.{◌≡◌, ℕ, ◌<◌, Bool, true, false, List, [], ◌∷◌, ◌++◌, inl, inr, Option, Some, None, refl, ap, sym, ◌∙◌, true≢false, arith, lt-ltb}
use Rattle.std.specs.Prelude.{⊤, cond, not, is_some}
use Rattle.ffi3_type_spec.specs.Tree.{float, double}
use Rattle.ffi3_cdecl_spec.specs.Tokens.{wide, signed, unsigned, Token, type_word, sign_word, const_word, short_word, int_word, long_word, int128_word, char_word, void_word, struct_word, union_word, enum_word, complex_word, attribute_word, other_keyword, name, number, open_round, close_round, open_curly, close_curly, open_square, close_square, comma, semicolon, star, dots}
use Rattle.ffi3_cdecl_spec.specs.Grammar.{specifier_number}
use Rattle.ffi3_cdecl_spec.specs.Reading.{IsViableIn}
use Rattle.ffi3_cdecl_spec.specs.Machine.{State, step, after, finish, begun, is_dead}
use Rattle.ffi3_cdecl_spec.specs.Expected.{Expected, a_type, a_name, a_number, closing_round, a_comma, a_semicolon, the_end, a_star, closing_square, closing_curly, opening_curly, opening_round, opening_square, the_dots, a_word, every_kind, sample, is_of, CouldStand, AreThose, no_kinds, one_could, one_could_not, AreExpected}
use Rattle.ffi3_cdecl_spec.specs.Telling.{lives, wants_a_type, specifier_words, one_lives, could, those, expected}
use Rattle.std.proofs.lemmas.Bool.{and_parts, and_from, or_cases, or_left, or_right, not-true}
use Rattle.ffi3_cdecl_spec.proofs.Saying.{IsAmong, at_front, further, specifier_among}
use Rattle.ffi3_cdecl_spec.proofs.Completes.{accepted}
use Rattle.ffi3_cdecl_spec.proofs.Sound.{declaration_of}
use Rattle.ffi3_cdecl_spec.proofs.Ways.{after-append}
use Rattle.ffi3_cdecl_spec.proofs.Readings.{viable_lives, lives_viable}
use Rattle.ffi3_cdecl_spec.proofs.Followed.{IsQuiet, quiet_dead, attribute_dead, keyword_dead, void_lives, void_dead, numbers_alike, names_alike, by_wanted}

-- ---- truth values

some_of : {A : Type 0} (o : Option A) → is_some o ≡ true → (a : A) × (o ≡ Some a)
some_of None e = absurd (true≢false (sym e))
some_of (Some a) e = (a, refl)

-- ---- words of lists

abbrev AllWords : List Token → Type 0
AllWords [] = ⊤
AllWords (x ∷ xs) = (0 < specifier_number x) × AllWords xs

all_words : AllWords specifier_words
all_words =
    (omega (arith), (omega (arith), (omega (arith), (omega (arith), (omega (arith), (omega (arith), (omega (arith), (omega (arith), (omega (arith), (omega (arith), (omega (arith), tt)))))))))))

a_word_lives : (s : State) (xs : List Token) → AllWords xs → one_lives s xs ≡ true → (x : Token) × (0 < specifier_number x) × (lives s x ≡ true)
a_word_lives s [] all e = absurd (true≢false (sym e))
a_word_lives s (x ∷ xs) all e =
    elim (or_cases (lives s x) (one_lives s xs) e) [ inl f ↦ (x, all.0, f) | inr f ↦ a_word_lives s xs all.1 f ]

among_lives : {x : Token} {xs : List Token} (s : State) → IsAmong x xs → lives s x ≡ true → one_lives s xs ≡ true
among_lives {x = x} s (at_front {xs = xs}) e = or_left (lives s x) (one_lives s xs) e
among_lives s (further {y = y} {xs = xs} i) e =
    or_right (lives s y) (one_lives s xs) (among_lives s i e)

module _ (start : List Token) where
  abbrev pub here : State
  here = after wide begun start

  pub viable_as : (x : Token) → lives here x ≡ true → IsViableIn wide (start ++ x ∷ [])
  viable_as x e =
      lives_viable wide signed (start ++ x ∷ []) (ap is_dead (after-append wide begun start (x ∷ [])) ∙ not-true (is_dead (step wide here x)) e)

  pub lives_as : (x : Token) → IsViableIn wide (start ++ x ∷ []) → lives here x ≡ true
  lives_as x v =
      ap not (ap is_dead (sym (after-append wide begun start (x ∷ []))) ∙ viable_lives wide signed (start ++ x ∷ []) v)

  -- ---- a type, or none

  type_could : wants_a_type here ≡ true → IsViableIn wide (start ++ void_word ∷ [])
  type_could e = viable_as void_word (ap not (void_lives here e))

  no_type : wants_a_type here ≡ false → ¬ IsViableIn wide (start ++ void_word ∷ [])
  no_type e v =
      true≢false (sym (lives_as void_word v) ∙ ap not (void_dead here e))

  type_is_wanted : IsViableIn wide (start ++ void_word ∷ []) → wants_a_type here ≡ true
  type_is_wanted v =
      by_wanted (wants_a_type here) (λ e. e) (λ e. absurd (no_type e v))

  none_is_wanted : ¬ IsViableIn wide (start ++ void_word ∷ []) → not (wants_a_type here) ≡ true
  none_is_wanted isnt =
      by_wanted (wants_a_type here) (λ e. absurd (isnt (type_could e))) (λ e. ap not e)

  -- ---- what could is what is computed

  is_could : (k : Expected) → could here k ≡ true → CouldStand wide start k
  is_could a_type e = type_could e
  is_could a_name e =
      (([], viable_as (name []) (and_parts (lives here (name [])) (not (wants_a_type here)) e).0), no_type (not-true (wants_a_type here) (and_parts (lives here (name [])) (not (wants_a_type here)) e).1))
  is_could a_number e = (0, viable_as (number 0) e)
  is_could the_end e =
      let some = some_of (finish here) e in
      (some.0, declaration_of wide some.0 start some.1)
  is_could a_word e =
      let some = a_word_lives here specifier_words all_words (and_parts (one_lives here specifier_words) (not (wants_a_type here)) e).0 in
      ((some.0, some.1, viable_as some.0 some.2), no_type (not-true (wants_a_type here) (and_parts (one_lives here specifier_words) (not (wants_a_type here)) e).1))
  is_could k e = viable_as (sample k) e

  could_is : (k : Expected) → CouldStand wide start k → could here k ≡ true
  could_is a_type v = type_is_wanted v
  could_is a_name (some, isnt) =
      and_from (lives here (name [])) (not (wants_a_type here)) (ap not (names_alike [] some.0 here) ∙ lives_as (name some.0) some.1) (none_is_wanted isnt)
  could_is a_number (n, v) =
      ap not (numbers_alike here 0 n) ∙ lives_as (number n) v
  could_is the_end (d, p) = ap is_some (accepted wide p)
  could_is a_word (some, isnt) =
      and_from (one_lives here specifier_words) (not (wants_a_type here)) (among_lives here (specifier_among some.0 some.1) (lives_as some.0 some.2)) (none_is_wanted isnt)
  could_is k v = lives_as (sample k) v

  those_by : (k : Expected) (ks : List Expected) (b : Bool) → could here k ≡ b → AreThose wide start ks (those here ks) → AreThose wide start (k ∷ ks) (cond b (k ∷ those here ks) (those here ks))
  those_by k ks true e more = one_could (is_could k e) more
  those_by k ks false e more =
      one_could_not (λ c. true≢false (sym (could_is k c) ∙ e)) more

  are_those : (ks : List Expected) → AreThose wide start ks (those here ks)
  are_those [] = no_kinds
  are_those (k ∷ ks) = those_by k ks (could here k) refl (are_those ks)

  pub are_expected : AreExpected wide start (expected here)
  are_expected =
      record { every = those here every_kind; those = are_those every_kind; first = refl }

  -- ---- no kind is left out

  abbrev IsOfKind : Token → Type 0
  IsOfKind x = (k : Expected) × (is_of k x ≡ true) × CouldStand wide start k

  lives_dead : {A : Type 0} (x : Token) → IsViableIn wide (start ++ x ∷ []) → is_dead (step wide here x) ≡ true → A
  lives_dead x v e = absurd (true≢false (sym (lives_as x v) ∙ ap not e))

  -- a word of no list, where it could stand
  quiet_type : (x : Token) → IsQuiet x → IsViableIn wide (start ++ x ∷ []) → CouldStand wide start a_type
  quiet_type x q v =
      by_wanted (wants_a_type here) type_could (λ e. lives_dead x v (ap is_dead (quiet_dead here e x q)))

  word_kind : (x : Token) → 0 < specifier_number x → is_of a_type x ≡ true → IsViableIn wide (start ++ x ∷ []) → IsOfKind x
  word_kind x h t v =
      by_wanted (wants_a_type here) (λ e. (a_type, t, type_could e)) (λ e. (a_word, lt-ltb 0 (specifier_number x) h, ((x, h, v), no_type e)))

  name_kind : (called : List ℕ) → IsViableIn wide (start ++ name called ∷ []) → IsOfKind (name called)
  name_kind called v =
      by_wanted (wants_a_type here) (λ e. (a_type, refl, type_could e)) (λ e. (a_name, refl, ((called, v), no_type e)))

  pub of_a_kind : (x : Token) → IsViableIn wide (start ++ x ∷ []) → IsOfKind x
  of_a_kind (type_word float) v = word_kind (type_word float) (omega arith) refl v
  of_a_kind (type_word double) v = word_kind (type_word double) (omega arith) refl v
  of_a_kind (type_word s) v = (a_type, refl, quiet_type (type_word s) tt v)
  of_a_kind (sign_word signed) v = word_kind (sign_word signed) (omega arith) refl v
  of_a_kind (sign_word unsigned) v = word_kind (sign_word unsigned) (omega arith) refl v
  of_a_kind const_word v = (a_type, refl, quiet_type const_word tt v)
  of_a_kind short_word v = word_kind short_word (omega arith) refl v
  of_a_kind int_word v = word_kind int_word (omega arith) refl v
  of_a_kind long_word v = word_kind long_word (omega arith) refl v
  of_a_kind int128_word v = word_kind int128_word (omega arith) refl v
  of_a_kind (char_word signed) v = word_kind (char_word signed) (omega arith) refl v
  of_a_kind (char_word unsigned) v = word_kind (char_word unsigned) (omega arith) refl v
  of_a_kind void_word v = (a_type, refl, v)
  of_a_kind struct_word v = (a_type, refl, quiet_type struct_word tt v)
  of_a_kind union_word v = (a_type, refl, quiet_type union_word tt v)
  of_a_kind enum_word v = (a_type, refl, quiet_type enum_word tt v)
  of_a_kind complex_word v = word_kind complex_word (omega arith) refl v
  of_a_kind attribute_word v =
      lives_dead attribute_word v (ap is_dead (attribute_dead here))
  of_a_kind other_keyword v =
      lives_dead other_keyword v (ap is_dead (keyword_dead here))
  of_a_kind (name called) v = name_kind called v
  of_a_kind (number n) v = (a_number, refl, (n, v))
  of_a_kind open_round v = (opening_round, refl, v)
  of_a_kind close_round v = (closing_round, refl, v)
  of_a_kind open_curly v = (opening_curly, refl, v)
  of_a_kind close_curly v = (closing_curly, refl, v)
  of_a_kind open_square v = (opening_square, refl, v)
  of_a_kind close_square v = (closing_square, refl, v)
  of_a_kind comma v = (a_comma, refl, v)
  of_a_kind semicolon v = (a_semicolon, refl, v)
  of_a_kind star v = (a_star, refl, v)
  of_a_kind dots v = (the_dots, refl, v)
