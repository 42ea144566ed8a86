-- What holds of each token: of those behind a part of a declaration, and of those that are found in a text.
use Rattle.std.proofs.Common.{◌≡◌, ◌+◌, ℕ, zero, suc, Bool, true, false, cond, List, [], ◌∷◌, length, refl, sym, subst}
use Rattle.std.specs.Prelude.{⊤, ◌==◌}
use Rattle.ffi3_type_spec.specs.Tree.{Tree, Scalar}
use Rattle.ffi3_cdecl_spec.specs.Tokens.{Dialect, Token, Sign, number, dots, word_of, is_blank, is_letter, is_digit, goes_on_word, front, with_digits, Found, blank, skipped, nothing_known, found, number_at, dots_at, marks, mark_among, found_at, found_in, Cut, tokens, bad_at, before, bytes_more, cut_from}
use Rattle.ffi3_cdecl_spec.specs.Grammar.{Kind, Shape, Naming, IsIntOrNot, no_int, with_int, IsLongTail, one_long, two_longs, IsSized, a_short, a_long, IsSigned, sign_alone, sign_of_char, sign_of_size, IsStars, one_star, more_stars, IsCounts, no_count, a_count, AreSpecifiers, no_more_words, a_word, IsBase, by_size, by_sign, by_specifiers, a_tag, a_union, an_enum, a_struct, a_tagged_struct, IsQualified, unqualified, constant, IsType, itself, pointer_to, IsSuffixes, no_suffix, known_array, open_array, named_array, a_list, IsDeclarator, a_pointer, a_named, unnamed, in_round, IsInner, inner_of, IsInners, last_inner, inner_dots, next_inner, IsInnerList, no_inners, inner_void, some_inners, a_member, AreDeclared, one_declared, then_members, then_declared, IsMembers, last_member, next_member, of_a_base}
use Rattle.ffi3_cdecl_spec.specs.Reading.{tokens_of}

module _ (P : Token → Type 0) where
  abbrev pub All : List Token → Type 0
  All [] = ⊤
  All (x ∷ xs) = P x × All xs

  -- ---- behind a part of a declaration

  behind_int : {before after : List Token} → IsIntOrNot before after → All before → All after
  behind_int no_int all = all
  behind_int with_int all = all.1

  behind_long : {before after : List Token} → IsLongTail before after → All before → All after
  behind_long (one_long i) all = behind_int i all
  behind_long (two_longs i) all = behind_int i all.1

  behind_sized : {g : Sign} {before after : List Token} {s : Scalar} → IsSized g before after s → All before → All after
  behind_sized (a_short i) all = behind_int i all.1
  behind_sized (a_long l) all = behind_long l all.1
  behind_sized _ all = all.1

  behind_signed : {g : Sign} {before after : List Token} {s : Scalar} → IsSigned g before after s → All before → All after
  behind_signed sign_alone all = all
  behind_signed sign_of_char all = all.1
  behind_signed (sign_of_size z) all = behind_sized z all

  behind_stars : {before after : List Token} → IsStars before after → All before → All after
  behind_stars one_star all = all.1
  behind_stars (more_stars s) all = behind_stars s all.1

  behind_counts : {t u : Tree} {before after : List Token} → IsCounts t before after u → All before → All after
  behind_counts no_count all = all.1
  behind_counts (a_count c) (opens, (count, (closes, all))) = behind_counts c all

  behind_words : {before after ws : List Token} → AreSpecifiers before after ws → All before → All after
  behind_words no_more_words all = all
  behind_words (a_word some ws) all = behind_words ws all.1

  module _ {r : Dialect} where
    mutual
      behind_base : {d : ℕ} {before after : List Token} {k : Kind} → IsBase r d before after k → All before → All after
      behind_base (by_size p z) all = behind_sized z all
      behind_base (by_sign p z) all = behind_signed z all.1
      behind_base (by_specifiers p ws is) all = behind_words ws all
      behind_base a_tag (word, (tag, all)) = all
      behind_base (a_union p) (word, (tag, all)) = all
      behind_base (an_enum p) (word, (tag, all)) = all
      behind_base (a_struct few ms) (word, (opens, all)) = behind_members ms all
      behind_base (a_tagged_struct p few ms) (word, (tag, (opens, all))) =
          behind_members ms all
      behind_base _ all = all.1

      pub behind_qualified : {d : ℕ} {before after : List Token} {k : Kind} → IsQualified r d before after k → All before → All after
      behind_qualified (unqualified b) all = behind_base b all
      behind_qualified (constant b) all = behind_base b all.1

      pub behind_type : {d : ℕ} {before after : List Token} {t : Tree} → IsType r d before after t → All before → All after
      behind_type (itself q) all = behind_qualified q all
      behind_type (pointer_to q stars) all = behind_stars stars (behind_qualified q all)

      behind_suffixes : {d : ℕ} {before after : List Token} {s t : Shape} → IsSuffixes r d before after s t → All before → All after
      behind_suffixes no_suffix all = all
      behind_suffixes (known_array more is) (opens, (count, (closes, all))) =
          behind_suffixes more all
      behind_suffixes (open_array more) (opens, (closes, all)) =
          behind_suffixes more all
      behind_suffixes (named_array is more) (opens, (bound, (closes, all))) =
          behind_suffixes more all
      behind_suffixes (a_list few list more) all =
          behind_suffixes more (behind_list list all.1)

      behind_declarator : {m : Naming} {d : ℕ} {before after : List Token} {s t : Shape} → IsDeclarator r m d before after s t → All before → All after
      behind_declarator (a_pointer p) all = behind_declarator p all.1
      behind_declarator (a_named more) all = behind_suffixes more all.1
      behind_declarator (unnamed isnt more) all = behind_suffixes more all
      behind_declarator (in_round begins few p more) all =
          behind_suffixes more (behind_declarator p all.1).1

      behind_inner : {d : ℕ} {before after : List Token} → IsInner r d before after → All before → All after
      behind_inner (inner_of q p isnt) all =
          behind_declarator p (behind_qualified q all)

      behind_inners : {d : ℕ} {before after : List Token} → IsInners r d before after → All before → All after
      behind_inners (last_inner p) all = (behind_inner p all).1
      behind_inners (inner_dots p) all = (behind_inner p all).1.1.1
      behind_inners (next_inner p ps) all = behind_inners ps (behind_inner p all).1

      behind_list : {d : ℕ} {before after : List Token} → IsInnerList r d before after → All before → All after
      behind_list no_inners all = all.1
      behind_list inner_void all = all.1.1
      behind_list (some_inners ps) all = behind_inners ps all

      behind_declared : {d : ℕ} {k : Kind} {before after : List Token} {ts : List Tree} → AreDeclared r d k before after ts → All before → All after
      behind_declared (one_declared p is) all = (behind_declarator p all).1.1
      behind_declared (then_members p is ms) all =
          behind_members ms (behind_declarator p all).1
      behind_declared (then_declared p is more) all =
          behind_declared more (behind_declarator p all).1

      behind_members : {d : ℕ} {before after : List Token} {ts : List Tree} → IsMembers r d before after ts → All before → All after
      behind_members (last_member (a_member p t counts)) all =
          (behind_counts counts (behind_type t all).1).1
      behind_members (next_member (a_member p t counts) ms) all =
          behind_members ms (behind_counts counts (behind_type t all).1)
      behind_members (of_a_base p q more) all =
          behind_declared more (behind_qualified q all)

  -- ---- what is found in a text

  abbrev pub OfFound : Found → Type 0
  OfFound (found x more) = P x
  OfFound f = ⊤

  pub found_if : (b : Bool) (x y : Found) → (b ≡ true → OfFound x) → (b ≡ false → OfFound y) → OfFound (cond b x y)
  found_if true x y this other = this refl
  found_if false x y this other = other refl

  abbrev pub AllMarks : List (ℕ × Token) → Type 0
  AllMarks [] = ⊤
  AllMarks (mark ∷ rest) = P mark.1 × AllMarks rest

  mark_found : (b : ℕ) (entries : List (ℕ × Token)) → AllMarks entries → OfFound (mark_among b entries)
  mark_found b [] all = tt
  mark_found b (mark ∷ rest) all =
      found_if (b == mark.0) (found mark.1 0) (mark_among b rest) (λ is. all.0) (λ isnt. mark_found b rest all.1)

  module _ (numbers : (n : ℕ) → P (number n)) (three : P dots) (all_marks : AllMarks marks) where
    number_found : (zero_first alone : Bool) (n more : ℕ) → OfFound (cond zero_first (cond alone (found (number 0) 0) nothing_known) (found (number n) more))
    number_found true true n more = numbers 0
    number_found true false n more = tt
    number_found false alone n more = numbers n

    dots_found : (bs : List ℕ) → OfFound (dots_at bs)
    dots_found (b ∷ c ∷ bs) =
        found_if _ (found dots 2) nothing_known (λ is. three) (λ isnt. tt)
    dots_found _ = tt

    -- what begins with no letter, and is no blank
    pub no_letter : (b : ℕ) (bs : List ℕ) → OfFound (cond (is_digit b) (number_at b (front is_digit bs)) (cond (b == 46) (dots_at bs) (mark_among b marks)))
    no_letter b bs =
        let digits = front is_digit bs in
        found_if (is_digit b) (number_at b digits) _ (λ is. number_found (b == 48) (length digits == 0) (with_digits 0 (b ∷ digits)) (length digits)) (λ isnt. found_if (b == 46) (dots_at bs) (mark_among b marks) (λ is. dots_found bs) (λ isnt. mark_found b marks all_marks))

    pub unlettered : (b : ℕ) (bs : List ℕ) → is_letter b ≡ false → OfFound (found_at b bs)
    unlettered b bs isnt =
        found_if (is_blank b) blank _ (λ is. tt) (λ isnt_blank. subst (λ l. OfFound (cond l (found (word_of (b ∷ front goes_on_word bs)) (length (front goes_on_word bs))) (cond (is_digit b) (number_at b (front is_digit bs)) (cond (b == 46) (dots_at bs) (mark_among b marks))))) (sym isnt) (no_letter b bs))

  abbrev pub OfCut : Cut → Type 0
  OfCut (tokens ps) = All (tokens_of ps)
  OfCut (bad_at at) = ⊤

  before_all : (f : Found) (at : ℕ) (c : Cut) → OfFound f → OfCut c → OfCut (before f at c)
  before_all blank at c this rest = rest
  before_all (skipped more) at c this rest = rest
  before_all (found x more) at (tokens ps) this rest = (this, rest)
  before_all _ at _ this rest = tt

  pub cut_all : (r : Dialect) (c : Sign) → ((b : ℕ) (bs : List ℕ) → OfFound (found_in r c b bs)) → (at inside : ℕ) (bs : List ℕ) → OfCut (cut_from r c at inside bs)
  cut_all r c all at inside [] = tt
  cut_all r c all at zero (b ∷ bs) =
      before_all (found_in r c b bs) at (cut_from r c (at + 1) (bytes_more (found_in r c b bs)) bs) (all b bs) (cut_all r c all (at + 1) (bytes_more (found_in r c b bs)) bs)
  cut_all r c all at (suc inside) (b ∷ bs) = cut_all r c all (at + 1) inside bs
