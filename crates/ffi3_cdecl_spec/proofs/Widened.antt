-- What the plain reading reads, the wide one reads alike: without `const`, with `char` signed or not, and with the words of an integer as a list.
use Rattle.std.proofs.Common.{◌≡◌, Option, ℕ, zero, suc, ◌+◌, Bool, true, false, cond, List, [], ◌∷◌, length, drop, Some, None, true≢false, ap, sym, subst, refl, ◌∙◌, arith}
use Rattle.std.specs.Prelude.{⊤, ◌==◌, bytes_eq}
use Rattle.std.proofs.lemmas.Bool.{eqb-true}
use Rattle.std.proofs.lemmas.Slice.Eq.{bytes_eq-Decides}
use Rattle.ffi3_type_spec.specs.Tree.{Scalar, Tree, void, scalar, array_of}
use Rattle.ffi3_cdecl_spec.specs.Tokens.{plain, wide, Token, Sign, signed, unsigned, sign_word, const_word, short_word, int_word, long_word, int128_word, char_word, semicolon, name, open_round, words, blank_words, word_among, word_of, is_among, is_letter, is_digit, goes_on_word, front, Found, blank, skipped, nothing_known, found, number_at, dots_at, marks, mark_among, comment_at, found_at, wide_found_at, Placed, Cut, tokens, bad_at, before, bytes_more, cut_from, wide_words, close_curly, attribute_word, attribute_words, assembler_words, attribute_at, are_silent, begins_string, wide_word_at}
use Rattle.ffi3_cdecl_spec.specs.Grammar.{Kind, whole, bare, nothing, pointer_type, no_int, with_int, one_long, two_longs, IsSized, a_short, an_int, a_long, an_int128, IsSigned, sign_alone, sign_of_char, sign_of_size, IsStars, one_star, more_stars, IsCounts, no_count, a_count, named_by, AreSpecifiers, no_more_words, a_word, Shape, a_value, pointer_shape, array_shape, member_type, Naming, opens_round, the_name, IsBase, by_word, by_size, by_sign, a_char, by_specifiers, a_void, a_tag, a_union, an_enum, a_name, a_struct, a_tagged_struct, IsQualified, unqualified, constant, itself, pointer_to, IsSuffixes, no_suffix, known_array, IsDeclarator, a_pointer, a_named, unnamed, a_member, one_declared, then_members, IsMembers, last_member, next_member, of_a_base, IsParameter, without_name, with_name, a_declared_one, IsParameters, last_parameter, last_before_dots, before_types, next_parameter, IsParameterList, no_parameters, only_void, some_parameters, IsResult, a_result, no_result, Function, IsFunction, returns_pointer, a_function_here, IsEnd, no_semicolon, one_semicolon, Declaration, IsDeclarationIn, declares, declares_by, char_of, must_be_named, may_be_named, declared}
use Rattle.ffi3_cdecl_spec.specs.Reading.{tokens_of, is_too_great, first_too_great, IsReadingIn, reads, is_read, StaysName, NamesStay, UsesNoKeyword}
use Rattle.ffi3_cdecl_spec.proofs.Tokenwise.{OfFound, unlettered}
use Rattle.ffi3_cdecl_spec.proofs.Saying.{sign_number, char_number}
use Rattle.ffi3_cdecl_spec.proofs.Spoken.{letter_no_blank}

module _ (char_sign : Sign) where
  -- ---- tokens without `const`, where `char` is signed or not

  abbrev pub is_const : Token → Bool
  is_const const_word = true
  is_const x = false

  abbrev pub as_wide : Token → Token
  as_wide (char_word g) = char_word char_sign
  as_wide x = x

  abbrev pub without_const : List Token → List Token
  without_const [] = []
  without_const (x ∷ xs) =
      cond (is_const x) (without_const xs) (as_wide x ∷ without_const xs)

  abbrev pub place_as_wide : Placed → Placed
  place_as_wide p = record { at = p.at; token = as_wide p.token }

  abbrev pub places_without_const : List Placed → List Placed
  places_without_const [] = []
  places_without_const (p ∷ ps) =
      cond (is_const p.token) (places_without_const ps) (place_as_wide p ∷ places_without_const ps)

  without_first : (b : Bool) (p : Placed) (ps : List Placed) (xs : List Token) → tokens_of ps ≡ xs → tokens_of (cond b ps (p ∷ ps)) ≡ cond b xs (p.token ∷ xs)
  without_first true p ps xs e = e
  without_first false p ps xs e = ap (λ ts. p.token ∷ ts) e

  pub same_tokens : (ps : List Placed) → tokens_of (places_without_const ps) ≡ without_const (tokens_of ps)
  same_tokens [] = refl
  same_tokens (p ∷ ps) =
      without_first (is_const p.token) (place_as_wide p) (places_without_const ps) (without_const (tokens_of ps)) (same_tokens ps)

  as_great : (x : Token) → is_too_great (as_wide x) ≡ is_too_great x
  as_great (char_word g) = refl
  as_great x = refl

  few_first : (great const' : Bool) (at : ℕ) (p : Placed) (qs : List Placed) → is_too_great p.token ≡ great → great ≡ false → first_too_great qs ≡ None → first_too_great (cond const' qs (p ∷ qs)) ≡ None
  few_first true const' at p qs g e rest = absurd (true≢false e)
  few_first false true at p qs g e rest = rest
  few_first false false at p qs g e rest = rw g rest

  first_few : (great : Bool) (at : ℕ) (rest : Option ℕ) → cond great (Some at) rest ≡ None → (great ≡ false) × (rest ≡ None)
  first_few true at rest e = absurd (cc)
  first_few false at rest e = (refl, e)

  pub few : (ps : List Placed) → first_too_great ps ≡ None → first_too_great (places_without_const ps) ≡ None
  few [] e = refl
  few (p ∷ ps) e =
      let parts = first_few (is_too_great p.token) p.at (first_too_great ps) e in
      few_first (is_too_great p.token) (is_const p.token) p.at (place_as_wide p) (places_without_const ps) (as_great p.token) parts.0 (few ps parts.1)

  -- ---- what stands at a byte

  pub data Wider : Found → Found → Type 0 where
    same_blank : Wider blank blank
    same_skipped : {n : ℕ} → Wider (skipped n) (skipped n)
    same_token : {x : Token} {n : ℕ} → is_const x ≡ false → Wider (found x n) (found (as_wide x) n)
    const_skipped : {n : ℕ} → Wider (found const_word n) (skipped n)

  abbrev StaysFound : Found → Type 0
  StaysFound blank = ⊤
  StaysFound (skipped n) = ⊤
  StaysFound nothing_known = ⊥
  StaysFound (found x n) = StaysName x

  -- what is found that is no word is the same in both readings
  abbrev IsSame : Token → Type 0
  IsSame x = (is_const x ≡ false) × (x ≡ as_wide x)

  token_itself : (x y : Token) (n : ℕ) → is_const x ≡ false → y ≡ as_wide x → Wider (found x n) (found y n)
  token_itself x y n isnt same =
      subst (λ z. Wider (found x n) (found z n)) (sym same) (same_token isnt)

  itself_wider : (f : Found) → OfFound IsSame f → StaysFound f → Wider f f
  itself_wider blank isnt stays = same_blank
  itself_wider (skipped n) isnt stays = same_skipped
  itself_wider nothing_known isnt stays = absurd stays
  itself_wider (found x n) isnt stays =
      token_itself x x n isnt.0 isnt.1

  no_const_other : (b : ℕ) (bs : List ℕ) → is_letter b ≡ false → OfFound IsSame (found_at b bs)
  no_const_other b bs e =
      unlettered IsSame (λ n. (refl, refl)) (refl, refl) ((refl, refl), ((refl, refl), ((refl, refl), ((refl, refl), ((refl, refl), ((refl, refl), ((refl, refl), ((refl, refl), ((refl, refl), tt))))))))) b bs e

  -- a word
  abbrev IsWider : List ℕ → Token → Type 0
  IsWider word x =
      (n : ℕ) (bs : List ℕ) → Wider (found x n) (wide_word_at char_sign word n bs)

  abbrev AllWider : List (List ℕ × Token) → Type 0
  AllWider [] = ⊤
  AllWider (entry ∷ entries) = IsWider entry.0 entry.1 × AllWider entries

  words_wider : AllWider words
  words_wider =
      (λ n bs. same_token refl, (λ n bs. same_token refl, (λ n bs. same_token refl, (λ n bs. same_token refl, (λ n bs. same_token refl, (λ n bs. same_token refl, (λ n bs. same_token refl, (λ n bs. same_token refl, (λ n bs. same_token refl, (λ n bs. same_token refl, (λ n bs. same_token refl, (λ n bs. same_token refl, (λ n bs. same_token refl, (λ n bs. same_token refl, (λ n bs. same_token refl, (λ n bs. const_skipped, (λ n bs. same_token refl, (λ n bs. same_token refl, (λ n bs. same_token refl, (λ n bs. same_token refl, (λ n bs. same_token refl, (λ n bs. same_token refl, (λ n bs. same_token refl, tt)))))))))))))))))))))))

  name_stays : (word : List ℕ) (x : Token) (n : ℕ) (bs : List ℕ) (b d e : Bool) → cond b (found attribute_word 0) (cond d (found attribute_word 0) (cond e (skipped 0) (found x 0))) ≡ found (name word) 0 → Wider (found (name word) n) (cond b (attribute_at are_silent n bs) (cond d (attribute_at begins_string n bs) (cond e (skipped n) (found x n))))
  name_stays word x n bs false false false same =
      let it : x ≡ name word = cc in
      subst (λ y. Wider (found (name word) n) (found y n)) (sym it) (same_token refl)
  name_stays word x n bs _ _ _ same = absurd (cc)

  word_wider : (word : List ℕ) (entries : List (List ℕ × Token)) → AllWider entries → (n : ℕ) (bs : List ℕ) → StaysName (word_among word entries) → Wider (found (word_among word entries) n) (wide_word_at char_sign word n bs)
  word_wider word [] all n bs stays =
      name_stays word (word_among word (wide_words char_sign)) n bs (is_among word attribute_words) (is_among word assembler_words) (is_among word blank_words) (stays char_sign)
  word_wider word (entry ∷ entries) all n bs stays =
      by_test (bytes_eq word entry.0) refl stays (word_wider word entries all.1 n bs)
    where
      by_test : (b : Bool) → bytes_eq word entry.0 ≡ b → StaysName (cond b entry.1 (word_among word entries)) → (StaysName (word_among word entries) → Wider (found (word_among word entries) n) (wide_word_at char_sign word n bs)) → Wider (found (cond b entry.1 (word_among word entries)) n) (wide_word_at char_sign word n bs)
      by_test true e stays rest =
          subst (λ w. Wider (found entry.1 n) (wide_word_at char_sign w n bs)) (sym ((bytes_eq-Decides word entry.0).0 e)) (all.0 n bs)
      by_test false e stays rest = rest stays

  abbrev a_word_at : ℕ → List ℕ → Found
  a_word_at b bs =
      found (word_of (b ∷ front goes_on_word bs)) (length (front goes_on_word bs))

  abbrev no_word_at : ℕ → List ℕ → Found
  no_word_at b bs =
      cond (is_digit b) (number_at b (front is_digit bs)) (cond (b == 46) (dots_at bs) (mark_among b marks))

  letter_found : (b : ℕ) (bs : List ℕ) → is_letter b ≡ true → found_at b bs ≡ a_word_at b bs
  letter_found b bs l =
      ap (λ t. cond t blank (cond (is_letter b) (a_word_at b bs) (no_word_at b bs))) (letter_no_blank b l) ∙ ap (λ t. cond t (a_word_at b bs) (no_word_at b bs)) l

  slash_unknown : (b : ℕ) (bs : List ℕ) → b ≡ 47 → found_at b bs ≡ nothing_known
  slash_unknown b bs e = ap (λ c. found_at c bs) e

  found_wider : (b : ℕ) (bs : List ℕ) → StaysFound (found_at b bs) → Wider (found_at b bs) (wide_found_at char_sign b bs)
  found_wider b bs stays =
      by_letter (is_letter b) refl
    where
      by_slash : (s : Bool) → (b == 47) ≡ s → is_letter b ≡ false → Wider (found_at b bs) (cond s (comment_at bs) (found_at b bs))
      by_slash true e l =
          absurd (subst StaysFound (slash_unknown b bs (eqb-true b 47 e)) stays)
      by_slash false e l =
          itself_wider (found_at b bs) (no_const_other b bs l) stays

      by_letter : (l : Bool) → is_letter b ≡ l → Wider (found_at b bs) (cond l (wide_word_at char_sign (b ∷ front goes_on_word bs) (length (front goes_on_word bs)) (drop (length (front goes_on_word bs)) bs)) (cond (b == 47) (comment_at bs) (found_at b bs)))
      by_letter true e =
          subst (λ f. Wider f (wide_word_at char_sign (b ∷ front goes_on_word bs) (length (front goes_on_word bs)) (drop (length (front goes_on_word bs)) bs))) (sym (letter_found b bs e)) (word_wider (b ∷ front goes_on_word bs) words words_wider (length (front goes_on_word bs)) (drop (length (front goes_on_word bs)) bs) (subst StaysFound (letter_found b bs e) stays))
      by_letter false e = by_slash (b == 47) refl e

  -- ---- the tokens of a text

  abbrev pub wider_cut : Cut → Cut
  wider_cut (tokens ps) = tokens (places_without_const ps)
  wider_cut (bad_at at) = bad_at at

  abbrev pub IsFine : Cut → Type 0
  IsFine (tokens ps) = NamesStay (tokens_of ps)
  IsFine (bad_at at) = ⊥

  before_wider : (f g : Found) (at : ℕ) (c : Cut) → Wider f g → before g at (wider_cut c) ≡ wider_cut (before f at c)
  before_wider _ _ at c same_blank = refl
  before_wider _ _ at c same_skipped = refl
  before_wider _ _ at (tokens ps) (same_token {x = x} {n = n} isnt) =
      ap (λ b. tokens (cond b (places_without_const ps) (record { at = at; token = as_wide x } ∷ places_without_const ps))) (sym isnt)
  before_wider _ _ at (bad_at there) (same_token isnt) = refl
  before_wider _ _ at (tokens ps) const_skipped = refl
  before_wider _ _ at (bad_at there) const_skipped = refl

  as_many_bytes : (f g : Found) → Wider f g → bytes_more g ≡ bytes_more f
  as_many_bytes _ _ same_blank = refl
  as_many_bytes _ _ same_skipped = refl
  as_many_bytes _ _ (same_token isnt) = refl
  as_many_bytes _ _ const_skipped = refl

  fine_behind : (f : Found) (at : ℕ) (c : Cut) → IsFine (before f at c) → StaysFound f × IsFine c
  fine_behind blank at c fine = (tt, fine)
  fine_behind (skipped n) at c fine = (tt, fine)
  fine_behind (found x n) at (tokens ps) fine = fine
  fine_behind _ at _ fine = absurd fine

  pub cut_wider : (at inside : ℕ) (bs : List ℕ) → IsFine (cut_from plain signed at inside bs) → cut_from wide char_sign at inside bs ≡ wider_cut (cut_from plain signed at inside bs)
  cut_wider at inside [] fine = refl
  cut_wider at zero (b ∷ bs) fine =
      let f : Found = found_at b bs in
      let g : Found = wide_found_at char_sign b bs in
      let parts : StaysFound f × IsFine (cut_from plain signed (at + 1) (bytes_more f) bs) = fine_behind (found_at b bs) at (cut_from plain signed (at + 1) (bytes_more (found_at b bs)) bs) fine in
      let w : Wider f g = found_wider b bs parts.0 in
      ap (λ n. before (wide_found_at char_sign b bs) at (cut_from wide char_sign (at + 1) n bs)) (as_many_bytes f g w) ∙ ap (λ c. before (wide_found_at char_sign b bs) at c) (cut_wider (at + 1) (bytes_more (found_at b bs)) bs parts.1) ∙ before_wider f g at (cut_from plain signed (at + 1) (bytes_more (found_at b bs)) bs) w
  cut_wider at (suc inside) (b ∷ bs) fine = cut_wider (at + 1) inside bs fine

  -- ---- the grammar

  abbrev Plainly : Sign → List Token → Scalar → Type 0
  Plainly signed ws s = named_by ws ≡ Some (whole (scalar s))
  Plainly unsigned ws s = ⊤

  abbrev Sized : Sign → List Token → List Token → Scalar → Type 0
  Sized g before after s =
      (ws : List Token) × AreSpecifiers before after ws × (named_by (sign_word g ∷ ws) ≡ Some (whole (scalar s))) × Plainly g ws s

  sized_wider : {before after : List Token} {s : Scalar} (g : Sign) → IsSized g before after s → Sized g (without_const before) (without_const after) s
  sized_wider signed (a_short no_int) = (short_word ∷ [], a_word (omega arith) no_more_words, refl, refl)
  sized_wider signed (a_short with_int) = (short_word ∷ int_word ∷ [], a_word (omega arith) (a_word (omega arith) no_more_words), refl, refl)
  sized_wider signed an_int = (int_word ∷ [], a_word (omega arith) no_more_words, refl, refl)
  sized_wider signed (a_long (one_long no_int)) = (long_word ∷ [], a_word (omega arith) no_more_words, refl, refl)
  sized_wider signed (a_long (one_long with_int)) = (long_word ∷ int_word ∷ [], a_word (omega arith) (a_word (omega arith) no_more_words), refl, refl)
  sized_wider signed (a_long (two_longs no_int)) = (long_word ∷ long_word ∷ [], a_word (omega arith) (a_word (omega arith) no_more_words), refl, refl)
  sized_wider signed (a_long (two_longs with_int)) = (long_word ∷ long_word ∷ int_word ∷ [], a_word (omega arith) (a_word (omega arith) (a_word (omega arith) no_more_words)), refl, refl)
  sized_wider signed an_int128 = (int128_word ∷ [], a_word (omega arith) no_more_words, refl, refl)
  sized_wider unsigned (a_short no_int) = (short_word ∷ [], a_word (omega arith) no_more_words, refl, tt)
  sized_wider unsigned (a_short with_int) = (short_word ∷ int_word ∷ [], a_word (omega arith) (a_word (omega arith) no_more_words), refl, tt)
  sized_wider unsigned an_int = (int_word ∷ [], a_word (omega arith) no_more_words, refl, tt)
  sized_wider unsigned (a_long (one_long no_int)) = (long_word ∷ [], a_word (omega arith) no_more_words, refl, tt)
  sized_wider unsigned (a_long (one_long with_int)) = (long_word ∷ int_word ∷ [], a_word (omega arith) (a_word (omega arith) no_more_words), refl, tt)
  sized_wider unsigned (a_long (two_longs no_int)) = (long_word ∷ long_word ∷ [], a_word (omega arith) (a_word (omega arith) no_more_words), refl, tt)
  sized_wider unsigned (a_long (two_longs with_int)) = (long_word ∷ long_word ∷ int_word ∷ [], a_word (omega arith) (a_word (omega arith) (a_word (omega arith) no_more_words)), refl, tt)
  sized_wider unsigned an_int128 = (int128_word ∷ [], a_word (omega arith) no_more_words, refl, tt)

  char_by_sign : (g c : Sign) → named_by (sign_word g ∷ char_word c ∷ []) ≡ Some (whole (scalar (char_of g)))
  char_by_sign signed signed = refl
  char_by_sign unsigned signed = refl
  char_by_sign _ _ = refl

  char_alone : (c : Sign) → named_by (char_word c ∷ []) ≡ Some (whole (scalar (char_of c)))
  char_alone signed = refl
  char_alone unsigned = refl

  abbrev Signed : Sign → List Token → List Token → Scalar → Type 0
  Signed g before after s =
      (ws : List Token) × AreSpecifiers before after ws × (named_by (sign_word g ∷ ws) ≡ Some (whole (scalar s)))

  signed_wider : {before after : List Token} {s : Scalar} (g : Sign) → IsSigned g before after s → Signed g (without_const before) (without_const after) s
  signed_wider signed sign_alone = ([], no_more_words, refl)
  signed_wider unsigned sign_alone = ([], no_more_words, refl)
  signed_wider g sign_of_char =
      (char_word char_sign ∷ [], a_word (char_number char_sign) no_more_words, char_by_sign g char_sign)
  signed_wider g (sign_of_size z) =
      let w = sized_wider g z in
      (w.0, w.1, w.2)

  -- stars before a declarator
  stars_before : {m : Naming} {d : ℕ} {before after behind : List Token} {s t : Shape} → IsStars before after → IsDeclarator wide m d (without_const after) behind pointer_shape t → IsDeclarator wide m d (without_const before) behind s t
  stars_before one_star q = a_pointer q
  stars_before (more_stars s) q = a_pointer (stars_before s q)

  stars_function : {f : Function} {d : ℕ} {before after behind : List Token} {s : Shape} → IsStars before after → IsFunction wide f d (without_const after) behind pointer_shape → IsFunction wide f d (without_const before) behind s
  stars_function one_star q = returns_pointer q
  stars_function (more_stars s) q = returns_pointer (stars_function s q)

  array_member : (s : Shape) (t : Tree) (n : ℕ) → member_type s ≡ Some t → member_type (array_shape s n) ≡ Some (array_of t n)
  array_member (a_value (whole u)) t n e = cc
  array_member s t n e = cc

  -- the counts of a member, with its semicolon
  abbrev Counted : ℕ → List Token → List Token → Shape → Tree → Type 0
  Counted d before after s m =
      (t : Shape) × IsSuffixes wide d before (semicolon ∷ after) s t × (member_type t ≡ Some m)

  counts_wider : {t m : Tree} {before after : List Token} (d : ℕ) (s : Shape) → member_type s ≡ Some t → IsCounts t before after m → Counted d (without_const before) (without_const after) s m
  counts_wider d s e no_count = (s, no_suffix, e)
  counts_wider d s e (a_count {n = n} {inner = u} c) =
      let q = counts_wider d s e c in
      (array_shape q.0 n, known_array q.1 refl, array_member q.0 u n q.2)

  plain_is_not_wide : plain ≡ wide → ⊥
  plain_is_not_wide e = cc

  -- the kind of a base in the wide reading: of `char`, which needs a star in the plain one, a type
  pub data WiderKind : Kind → Kind → Type 0 where
    same_kind : {k : Kind} → WiderKind k k
    char_kind : {t : Tree} → WiderKind bare (whole t)

  pub data Qualified (d : ℕ) (k : Kind) (before after : List Token) : Type 0 where
    qualified : {l : Kind} → WiderKind k l → IsQualified wide d before after l → Qualified d k before after

  pub data Based (d : ℕ) (k : Kind) (before after : List Token) : Type 0 where
    based_on : {l : Kind} → WiderKind k l → IsBase wide d before after l → Based d k before after

  as_qualified : {d : ℕ} {k : Kind} {before after : List Token} → Based d k before after → Qualified d k before after
  as_qualified (based_on w b) = qualified w (unqualified b)

  whole_wider : {d : ℕ} {t : Tree} {before after : List Token} → Qualified d (whole t) before after → IsQualified wide d before after (whole t)
  whole_wider (qualified same_kind q) = q

  nothing_wider : {d : ℕ} {before after : List Token} → Qualified d nothing before after → IsQualified wide d before after nothing
  nothing_wider (qualified same_kind q) = q

  -- what is made of a base by stars, whatever its kind
  last_member_of : {d : ℕ} {k : Kind} {before mid after : List Token} {m : Tree} {t : Shape} → Qualified d k before mid → ((l : Kind) → IsDeclarator wide must_be_named d mid (semicolon ∷ close_curly ∷ after) (a_value l) t) → member_type t ≡ Some m → IsMembers wide d before after (m ∷ [])
  last_member_of (qualified {l = l} w q) p is =
      of_a_base refl q (one_declared (p l) is)

  next_member_of : {d : ℕ} {k : Kind} {before mid behind after : List Token} {m : Tree} {ms : List Tree} {t : Shape} → Qualified d k before mid → ((l : Kind) → IsDeclarator wide must_be_named d mid (semicolon ∷ behind) (a_value l) t) → member_type t ≡ Some m → IsMembers wide d behind after ms → IsMembers wide d before after (m ∷ ms)
  next_member_of (qualified {l = l} w q) p is ms =
      of_a_base refl q (then_members (p l) is ms)

  parameter_of : {k : Kind} {before mid after : List Token} → Qualified 0 k before mid → ((l : Kind) → IsDeclarator wide may_be_named 0 mid after (a_value l) pointer_shape) → IsParameter wide before after pointer_type
  parameter_of (qualified {l = l} w q) p = a_declared_one refl q (p l) refl

  function_by : {k : Kind} {f : Function} {before mid after : List Token} → Qualified 0 k before mid → ((l : Kind) → IsFunction wide f 0 mid after (a_value l)) → IsEnd after → IsDeclarationIn wide before (declared f.called f.result_type f.parameters f.fixed)
  function_by (qualified {l = l} w q) p e = declares_by refl q (p l) e

  mutual
    base_wider : {d : ℕ} {before after : List Token} {k : Kind} → IsBase plain d before after k → Based d k (without_const before) (without_const after)
    base_wider by_word = based_on same_kind by_word
    base_wider (by_size p z) =
        let w = sized_wider signed z in
        based_on same_kind (by_specifiers refl w.1 w.3)
    base_wider (by_sign {g = g} p z) =
        let w = signed_wider g z in
        based_on same_kind (by_specifiers refl (a_word (sign_number g) w.1) w.2)
    base_wider (a_char p) =
        based_on char_kind (by_specifiers refl (a_word (char_number char_sign) no_more_words) (char_alone char_sign))
    base_wider (by_specifiers p ws named) = absurd (plain_is_not_wide p)
    base_wider a_void = based_on same_kind a_void
    base_wider a_tag = based_on same_kind a_tag
    base_wider (a_union p) = absurd (plain_is_not_wide p)
    base_wider (an_enum p) = absurd (plain_is_not_wide p)
    base_wider (a_name p named) = absurd (plain_is_not_wide p)
    base_wider (a_struct room ms) =
        based_on same_kind (a_struct room (members_wider ms))
    base_wider (a_tagged_struct p room ms) = absurd (plain_is_not_wide p)

    qualified_wider : {d : ℕ} {before after : List Token} {k : Kind} → IsQualified plain d before after k → Qualified d k (without_const before) (without_const after)
    qualified_wider (unqualified b) = as_qualified (base_wider b)
    qualified_wider (constant b) = as_qualified (base_wider b)

    members_wider : {d : ℕ} {before after : List Token} {ms : List Tree} → IsMembers plain d before after ms → IsMembers wide d (without_const before) (without_const after) ms
    members_wider {d = d} (last_member (a_member {t = t} p (itself q) c)) =
        let w = counts_wider d (a_value (whole t)) refl c in
        of_a_base refl (whole_wider (qualified_wider q)) (one_declared (a_named w.1) w.2)
    members_wider {d = d} (last_member (a_member p (pointer_to q s) c)) =
        let w = counts_wider d pointer_shape refl c in
        last_member_of (qualified_wider q) (λ l. stars_before s (a_named w.1)) w.2
    members_wider {d = d} (next_member (a_member {t = t} p (itself q) c) ms) =
        let w = counts_wider d (a_value (whole t)) refl c in
        of_a_base refl (whole_wider (qualified_wider q)) (then_members (a_named w.1) w.2 (members_wider ms))
    members_wider {d = d} (next_member (a_member p (pointer_to q s) c) ms) =
        let w = counts_wider d pointer_shape refl c in
        next_member_of (qualified_wider q) (λ l. stars_before s (a_named w.1)) w.2 (members_wider ms)
    members_wider (of_a_base p q ms) = absurd (plain_is_not_wide p)

  pub parameter_wider : {before after : List Token} {t : Tree} → opens_round (without_const after) ≡ false → IsParameter plain before after t → IsParameter wide (without_const before) (without_const after) t
  parameter_wider e (without_name p (itself q)) =
      a_declared_one refl (whole_wider (qualified_wider q)) (unnamed e no_suffix) refl
  parameter_wider e (without_name p (pointer_to q s)) =
      parameter_of (qualified_wider q) (λ l. stars_before s (unnamed e no_suffix))
  parameter_wider e (with_name p (itself q)) =
      a_declared_one refl (whole_wider (qualified_wider q)) (a_named no_suffix) refl
  parameter_wider e (with_name p (pointer_to q s)) =
      parameter_of (qualified_wider q) (λ l. stars_before s (a_named no_suffix))
  parameter_wider e (a_declared_one p q f is) = absurd (plain_is_not_wide p)

  parameters_wider : {before after : List Token} {ts : List Tree} {f : Option ℕ} → IsParameters plain before after ts f → IsParameters wide (without_const before) (without_const after) ts f
  parameters_wider (last_parameter p) = last_parameter (parameter_wider refl p)
  parameters_wider (last_before_dots p) =
      last_before_dots (parameter_wider refl p)
  parameters_wider (before_types p q ps) = absurd (plain_is_not_wide p)
  parameters_wider (next_parameter p ps) =
      next_parameter (parameter_wider refl p) (parameters_wider ps)

  pub list_wider : {before after : List Token} {ts : List Tree} {f : Option ℕ} → IsParameterList plain before after ts f → IsParameterList wide (without_const before) (without_const after) ts f
  list_wider no_parameters = no_parameters
  list_wider only_void = only_void
  list_wider (some_parameters ps) = some_parameters (parameters_wider ps)

  end_wider : {after : List Token} → IsEnd after → IsEnd (without_const after)
  end_wider no_semicolon = no_semicolon
  end_wider one_semicolon = one_semicolon

  abbrev function_of : List ℕ → Tree → List Tree → Option ℕ → Function
  function_of called t ts f =
      record { called = called; result_type = t; parameters = ts; fixed = f }

  -- a result of the plain reading, before parameters of the wide one
  pub function_wider : {before middle after : List Token} {called : List ℕ} {t : Tree} {us : List Tree} {f : Option ℕ} → IsResult plain before (name called ∷ open_round ∷ middle) t → IsParameterList wide (without_const middle) after us f → IsEnd after → IsDeclarationIn wide (without_const before) (declared called t us f)
  function_wider {called = called} {t = t} {us = us} {f = f} (a_result (itself q)) l e =
      declares_by {f = function_of called t us f} refl (whole_wider (qualified_wider q)) (a_function_here the_name refl l) e
  function_wider {called = called} {us = us} {f = f} (a_result (pointer_to q s)) l e =
      function_by {f = function_of called pointer_type us f} (qualified_wider q) (λ k. stars_function s (a_function_here the_name refl l)) e
  function_wider {called = called} {us = us} {f = f} (no_result q) l e =
      declares_by {f = function_of called void us f} refl (nothing_wider (qualified_wider q)) (a_function_here the_name refl l) e

  declaration_wider : {ts : List Token} {d : Declaration} → IsDeclarationIn plain ts d → IsDeclarationIn wide (without_const ts) d
  declaration_wider (declares p result l e) =
      function_wider result (list_wider l) (end_wider e)
  declaration_wider (declares_by p q f e) = absurd (plain_is_not_wide p)

  -- WHAT IS READ IN THE PLAIN READING IS READ ALIKE IN THE WIDE ONE
  pub widened : (text : List ℕ) (d : Declaration) → UsesNoKeyword text → IsReadingIn plain signed text (reads d) → IsReadingIn wide char_sign text (reads d)
  widened text d uses (is_read {ps = ps} is declared few_great right) =
      is_read {ps = places_without_const ps} (cut_wider 0 0 text (subst IsFine (sym is) (uses ps is)) ∙ ap wider_cut is) (subst (λ ts. IsDeclarationIn wide ts d) (sym (same_tokens ps)) (declaration_wider declared)) (few ps few_great) right
