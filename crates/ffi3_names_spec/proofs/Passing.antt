-- What stands between brackets is passed over: a pass comes out of it where the grammar does.
use Rattle.std.proofs.Common.{◌≡◌, ◌∙◌, ℕ, suc, ◌<◌, true, List, ◌∷◌, refl, arith}
use Rattle.ffi3_type_spec.specs.Tree.{Tree}
use Rattle.ffi3_cdecl_spec.specs.Tokens.{plain, wide, Token, type_word, const_word, void_word, struct_word, union_word, enum_word, name, number, open_round, close_round, open_curly, close_curly, open_square, close_square, comma, semicolon, star, dots}
use Rattle.ffi3_cdecl_spec.specs.Grammar.{Kind, Shape, Naming, specifier_number, is_named_bound, AreSpecifiers, no_more_words, a_word, IsBase, by_word, by_size, by_sign, a_char, by_specifiers, a_void, a_tag, a_union, an_enum, a_name, a_struct, a_tagged_struct, IsQualified, unqualified, constant, IsSuffixes, no_suffix, known_array, open_array, named_array, a_list, IsDeclarator, a_pointer, a_named, unnamed, in_round, IsInner, inner_of, IsInners, last_inner, inner_dots, next_inner, IsInnerList, no_inners, inner_void, some_inners, IsMember, a_member, AreDeclared, one_declared, then_members, then_declared, IsMembers, last_member, next_member, of_a_base}
use Rattle.ffi3_names_spec.specs.Scan.{Spot, opens, closes, neither, bracket, names_from}

pub isnt_plain : wide ≡ plain → ⊥
isnt_plain e = cc

-- a word of a type is no bracket
pub word_is_neither : (x : Token) → 0 < specifier_number x → bracket x ≡ neither
word_is_neither x some = grind arith

pub bound_is_neither : (x : Token) → is_named_bound x ≡ true → bracket x ≡ neither
bound_is_neither x is = grind arith

no_member : {d : ℕ} {before after : List Token} {m : Tree} → IsMember wide d before after m → ⊥
no_member (a_member e type counts) = isnt_plain e

-- A pass that goes by brackets alone: inside so many of them.
module _ (at : ℕ → Spot) (opening : (n : ℕ) (x : Token) (xs : List Token) → bracket x ≡ opens → names_from (at (suc n)) (x ∷ xs) ≡ names_from (at (suc (suc n))) xs) (closing : (n : ℕ) (x : Token) (xs : List Token) → bracket x ≡ closes → names_from (at (suc n)) (x ∷ xs) ≡ names_from (at n) xs) (passing : (n : ℕ) (x : Token) (xs : List Token) → bracket x ≡ neither → names_from (at (suc n)) (x ∷ xs) ≡ names_from (at (suc n)) xs) where
  -- it passes over this, so deep
  abbrev Passes : ℕ → List Token → List Token → Type 0
  Passes n before after = names_from (at (suc n)) before ≡ names_from (at (suc n)) after

  -- and out of one bracket
  abbrev Leaves : ℕ → List Token → List Token → Type 0
  Leaves n before after = names_from (at (suc n)) before ≡ names_from (at n) after

  words_pass : {before after ws : List Token} → AreSpecifiers before after ws → (n : ℕ) → Passes n before after
  words_pass no_more_words n = refl
  words_pass (a_word {x = x} some more) n =
      passing n x _ (word_is_neither x some) ∙ words_pass more n

  mutual
    base_passes : {d : ℕ} {before after : List Token} {k : Kind} → IsBase wide d before after k → (n : ℕ) → Passes n before after
    base_passes (by_word {s = s}) n = passing n (type_word s) _ refl
    base_passes (by_size e is) n = absurd (isnt_plain e)
    base_passes (by_sign e is) n = absurd (isnt_plain e)
    base_passes (a_char e) n = absurd (isnt_plain e)
    base_passes (by_specifiers r words is) n = words_pass words n
    base_passes a_void n = passing n void_word _ refl
    base_passes (a_tag {after = xs} {tag = tag}) n =
        passing n struct_word (name tag ∷ xs) refl ∙ passing n (name tag) xs refl
    base_passes (a_union {after = xs} {tag = tag} r) n =
        passing n union_word (name tag ∷ xs) refl ∙ passing n (name tag) xs refl
    base_passes (an_enum {after = xs} {tag = tag} r) n =
        passing n enum_word (name tag ∷ xs) refl ∙ passing n (name tag) xs refl
    base_passes (a_name {called = called} r is) n = passing n (name called) _ refl
    base_passes (a_struct {before = xs} room ms) n =
        passing n struct_word (open_curly ∷ xs) refl ∙ opening n open_curly xs refl ∙ members_leave ms (suc n)
    base_passes (a_tagged_struct {before = xs} {tag = tag} r room ms) n =
        passing n struct_word (name tag ∷ open_curly ∷ xs) refl ∙ passing n (name tag) (open_curly ∷ xs) refl ∙ opening n open_curly xs refl ∙ members_leave ms (suc n)

    qualified_passes : {d : ℕ} {before after : List Token} {k : Kind} → IsQualified wide d before after k → (n : ℕ) → Passes n before after
    qualified_passes (unqualified b) n = base_passes b n
    qualified_passes (constant b) n = passing n const_word _ refl ∙ base_passes b n

    suffixes_pass : {d : ℕ} {before after : List Token} {s t : Shape} → IsSuffixes wide d before after s t → (n : ℕ) → Passes n before after
    suffixes_pass no_suffix n = refl
    suffixes_pass (known_array {before = xs} {n = m} more is) n =
        opening n open_square (number m ∷ close_square ∷ xs) refl ∙ passing (suc n) (number m) (close_square ∷ xs) refl ∙ closing (suc n) close_square xs refl ∙ suffixes_pass more n
    suffixes_pass (open_array {before = xs} more) n =
        opening n open_square (close_square ∷ xs) refl ∙ closing (suc n) close_square xs refl ∙ suffixes_pass more n
    suffixes_pass (named_array {before = xs} {x = x} is more) n =
        opening n open_square (x ∷ close_square ∷ xs) refl ∙ passing (suc n) x (close_square ∷ xs) (bound_is_neither x is) ∙ closing (suc n) close_square xs refl ∙ suffixes_pass more n
    suffixes_pass (a_list room list more) n =
        opening n open_round _ refl ∙ list_leaves list (suc n) ∙ suffixes_pass more n

    declarator_passes : {m : Naming} {d : ℕ} {before after : List Token} {s t : Shape} → IsDeclarator wide m d before after s t → (n : ℕ) → Passes n before after
    declarator_passes (a_pointer inner) n =
        passing n star _ refl ∙ declarator_passes inner n
    declarator_passes (a_named {called = called} more) n =
        passing n (name called) _ refl ∙ suffixes_pass more n
    declarator_passes (unnamed is more) n = suffixes_pass more n
    declarator_passes (in_round begins room inner more) n =
        opening n open_round _ refl ∙ declarator_passes inner (suc n) ∙ closing (suc n) close_round _ refl ∙ suffixes_pass more n

    inner_passes : {d : ℕ} {before after : List Token} → IsInner wide d before after → (n : ℕ) → Passes n before after
    inner_passes (inner_of base declarator is) n =
        qualified_passes base n ∙ declarator_passes declarator n

    inners_leave : {d : ℕ} {before after : List Token} → IsInners wide d before after → (n : ℕ) → Leaves n before after
    inners_leave (last_inner p) n = inner_passes p n ∙ closing n close_round _ refl
    inners_leave (inner_dots {after = xs} p) n =
        inner_passes p n ∙ passing n comma (dots ∷ close_round ∷ xs) refl ∙ passing n dots (close_round ∷ xs) refl ∙ closing n close_round xs refl
    inners_leave (next_inner p ps) n =
        inner_passes p n ∙ passing n comma _ refl ∙ inners_leave ps n

    list_leaves : {d : ℕ} {before after : List Token} → IsInnerList wide d before after → (n : ℕ) → Leaves n before after
    list_leaves no_inners n = closing n close_round _ refl
    list_leaves (inner_void {after = xs}) n =
        passing n void_word (close_round ∷ xs) refl ∙ closing n close_round xs refl
    list_leaves (some_inners ps) n = inners_leave ps n

    declared_leave : {d : ℕ} {k : Kind} {before after : List Token} {ts : List Tree} → AreDeclared wide d k before after ts → (n : ℕ) → Leaves n before after
    declared_leave (one_declared {after = xs} p is) n =
        declarator_passes p n ∙ passing n semicolon (close_curly ∷ xs) refl ∙ closing n close_curly xs refl
    declared_leave (then_members p is ms) n =
        declarator_passes p n ∙ passing n semicolon _ refl ∙ members_leave ms n
    declared_leave (then_declared p is ps) n =
        declarator_passes p n ∙ passing n comma _ refl ∙ declared_leave ps n

    members_leave : {d : ℕ} {before after : List Token} {ts : List Tree} → IsMembers wide d before after ts → (n : ℕ) → Leaves n before after
    members_leave (last_member m) n = absurd (no_member m)
    members_leave (next_member m ms) n = absurd (no_member m)
    members_leave (of_a_base r base ps) n =
        qualified_passes base n ∙ declared_leave ps n

  pub members_are_left : {d : ℕ} {before after : List Token} {ts : List Tree} → IsMembers wide d before after ts → (n : ℕ) → Leaves n before after
  members_are_left ms n = members_leave ms n

  pub suffixes_are_passed : {d : ℕ} {before after : List Token} {s t : Shape} → IsSuffixes wide d before after s t → (n : ℕ) → Passes n before after
  suffixes_are_passed more n = suffixes_pass more n

  pub list_is_left : {d : ℕ} {before after : List Token} → IsInnerList wide d before after → (n : ℕ) → Leaves n before after
  list_is_left list n = list_leaves list n
