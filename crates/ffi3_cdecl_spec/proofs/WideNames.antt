-- What the wide reading reads has a name that is an identifier, and that is no word of that reading.
use Rattle.std.proofs.Common.{◌≡◌, ◌∙◌, ◌+◌, ℕ, suc, Bool, true, false, cond, List, [], ◌∷◌, ◌++◌, length, drop, Option, Some, None, refl, ap, subst}
use Rattle.std.specs.Prelude.{⊤, ◌==◌, ◌&&◌, not, bytes_eq, codes, take}
use Rattle.std.proofs.lemmas.Bool.{and_parts}
use Rattle.ffi3_type_spec.specs.Signature.{SignatureHasNoFault}
use Rattle.ffi3_cdecl_spec.specs.Tokens.{plain, wide, Token, Sign, name, char_word, attribute_word, words, more_words, wide_words, blank_words, attribute_words, assembler_words, is_among, word_among, word_of, is_blank, is_letter, goes_on_word, front, skipped, nothing_known, found, in_comment, comment_length, passed_over, line_length, comment_at, found_at, begins_with, unquoted, bracket_length, with_bracket, attribute_at, are_silent, begins_string, wide_word, wide_word_at, wide_found_at, before}
use Rattle.ffi3_cdecl_spec.specs.Grammar.{Shape, IsCalled, the_name, in_brackets, Function, IsFunction, returns_pointer, a_function_here, a_function_inside, Declaration, IsDeclarationIn, declares, declares_by}
use Rattle.ffi3_cdecl_spec.specs.Canonical.{IsIdentifier}
use Rattle.ffi3_cdecl_spec.specs.Reading.{IsReadingIn, reads, is_read, StaysName}
use Rattle.ffi3_cdecl_spec.proofs.Tokenwise.{All, behind_qualified, OfFound, found_if, unlettered, OfCut, cut_all}
use Rattle.ffi3_cdecl_spec.proofs.Identifiers.{front_passes}

-- a token that is a name is an identifier in both readings
abbrev IsNamed : Token → Type 0
IsNamed (name word) = IsIdentifier word × StaysName (name word)
IsNamed x = ⊤

wide_is_not_plain : wide ≡ plain → ⊥
wide_is_not_plain e = cc

-- ---- behind a part of a declaration

called_named : {d : ℕ} {before after : List Token} {called : List ℕ} → IsCalled d before after called → All IsNamed before → IsNamed (name called)
called_named the_name all = all.0
called_named (in_brackets few c) all = called_named c all.1

function_named : {f : Function} {d : ℕ} {before after : List Token} {s : Shape} → IsFunction wide f d before after s → All IsNamed before → IsNamed (name f.called)
function_named (returns_pointer p) all = function_named p all.1
function_named (a_function_here c is list) all = called_named c all
function_named (a_function_inside few p more) all = function_named p all.1

declaration_named : {ts : List Token} {d : Declaration} → IsDeclarationIn wide ts d → All IsNamed ts → IsNamed (name d.called)
declaration_named (declares p result list end) all =
    absurd (wide_is_not_plain p)
declaration_named (declares_by p q f end) all =
    function_named f (behind_qualified IsNamed q all)

-- ---- what is found in a text

-- no token of these is a name
abbrev IsNoName : Token → Type 0
IsNoName (name word) = ⊥
IsNoName x = ⊤

abbrev NoNames : List (List ℕ × Token) → Type 0
NoNames [] = ⊤
NoNames (entry ∷ entries) = IsNoName entry.1 × NoNames entries

-- as a test that computes
abbrev is_name : Token → Bool
is_name (name word) = true
is_name x = false

abbrev none_named : List (List ℕ × Token) → Bool
none_named [] = true
none_named (entry ∷ entries) = not (is_name entry.1) && none_named entries

no_name_by : (x : Token) → not (is_name x) ≡ true → IsNoName x
no_name_by (name word) h = cc
no_name_by x h = tt

no_names_by : (entries : List (List ℕ × Token)) → none_named entries ≡ true → NoNames entries
no_names_by [] h = tt
no_names_by (entry ∷ entries) h =
    let parts = and_parts (not (is_name entry.1)) (none_named entries) h in
    (no_name_by entry.1 parts.0, no_names_by entries parts.1)

others_unnamed : NoNames (more_words ++ words)
others_unnamed = no_names_by (more_words ++ words) refl

more_unnamed : NoNames more_words
more_unnamed = no_names_by more_words refl

no_name_is : (x : Token) (word : List ℕ) → IsNoName x → x ≡ name word → ⊥
no_name_is x word isnt_name e = subst IsNoName e isnt_name

-- a token that is no name is named as it may be
unnamed_is_named : (x : Token) → IsNoName x → IsNamed x
unnamed_is_named (name word) isnt_name = absurd isnt_name
unnamed_is_named x isnt_name = tt

-- a word that is no entry's, or its entry's token
pub data IsWord (word : List ℕ) : Token → Type 0 where
  an_entry : {x : Token} → IsNoName x → IsWord word x
  no_entry : IsWord word (name word)

word_if : (word : List ℕ) (b : Bool) (x y : Token) → IsNoName x → IsWord word y → IsWord word (cond b x y)
word_if word true x y isnt_name rest = an_entry isnt_name
word_if word false x y isnt_name rest = rest

which_word : (word : List ℕ) (entries : List (List ℕ × Token)) → NoNames entries → IsWord word (word_among word entries)
which_word word [] all = no_entry
which_word word (entry ∷ entries) all =
    word_if word (bytes_eq word entry.0) entry.1 (word_among word entries) all.0 (which_word word entries all.1)

-- a word of none of two lists is none of the second
behind_first : (word : List ℕ) (b : Bool) (x y : Token) → IsNoName x → cond b x y ≡ name word → y ≡ name word
behind_first word true x y isnt_name e = absurd (no_name_is x word isnt_name e)
behind_first word false x y isnt_name e = e

none_of_both : (word : List ℕ) (firsts entries : List (List ℕ × Token)) → NoNames firsts → word_among word (firsts ++ entries) ≡ name word → word_among word entries ≡ name word
none_of_both word [] entries all e = e
none_of_both word (first ∷ firsts) entries all e =
    none_of_both word firsts entries all.1 (behind_first word (bytes_eq word first.0) first.1 (word_among word (firsts ++ entries)) all.0 e)

-- whether `char` is signed or not, a word that is not spelled so is the same
first_not : (word : List ℕ) (b : Bool) (x y : Token) → IsNoName x → cond b x y ≡ name word → b ≡ false
first_not word true x y isnt_name e = absurd (no_name_is x word isnt_name e)
first_not word false x y isnt_name e = refl

by_either_sign : (word : List ℕ) (c g : Sign) → word_among word (wide_words c) ≡ name word → word_among word (wide_words g) ≡ name word
by_either_sign word c g e =
    let isnt = first_not word (bytes_eq word (codes "char")) (char_word c) (word_among word (more_words ++ words)) tt e in
    let rest = behind_first word (bytes_eq word (codes "char")) (char_word c) (word_among word (more_words ++ words)) tt e in
    ap (λ b. cond b (char_word g) (word_among word (more_words ++ words))) isnt ∙ rest

plain_word : (word : List ℕ) (c : Sign) → word_among word (wide_words c) ≡ name word → word_of word ≡ name word
plain_word word c e =
    none_of_both word more_words words more_unnamed (behind_first word (bytes_eq word (codes "char")) (char_word c) (word_among word (more_words ++ words)) tt e)

stays_if : (word : List ℕ) (g : Sign) (a b d : Bool) → a ≡ false → b ≡ false → d ≡ false → word_among word (wide_words g) ≡ name word → cond a (attribute_at are_silent 0 []) (cond b (attribute_at begins_string 0 []) (cond d (skipped 0) (found (word_among word (wide_words g)) 0))) ≡ found (name word) 0
stays_if word g a b d p q r e =
    ap (λ x. cond x (attribute_at are_silent 0 []) (cond b (attribute_at begins_string 0 []) (cond d (skipped 0) (found (word_among word (wide_words g)) 0)))) p ∙ ap (λ x. cond x (attribute_at begins_string 0 []) (cond d (skipped 0) (found (word_among word (wide_words g)) 0))) q ∙ ap (λ x. cond x (skipped 0) (found (word_among word (wide_words g)) 0)) r ∙ ap (λ x. found x 0) e

bracket_named : (silent : List ℕ → Bool) (more : ℕ) (bs : List ℕ) (o : Option ℕ) → OfFound IsNamed (with_bracket silent more bs o)
bracket_named silent more bs None = tt
bracket_named silent more bs (Some n) =
    found_if IsNamed (silent (take n bs)) (skipped (more + n)) (found attribute_word (more + n)) (λ is. tt) (λ isnt. tt)

attribute_named : (silent : List ℕ → Bool) (more : ℕ) (bs : List ℕ) → OfFound IsNamed (attribute_at silent more bs)
attribute_named silent more bs =
    let rest = drop (length (front is_blank bs)) bs in
    found_if IsNamed (begins_with 40 rest) (with_bracket silent (more + length (front is_blank bs)) rest (bracket_length unquoted 0 rest)) (found attribute_word more) (λ is. bracket_named silent (more + length (front is_blank bs)) rest (bracket_length unquoted 0 rest)) (λ isnt. tt)

module _ (c : Sign) where
  word_named : (word : List ℕ) → (word_of word ≡ name word → IsIdentifier word) → is_among word attribute_words ≡ false → is_among word assembler_words ≡ false → is_among word blank_words ≡ false → (x : Token) → word_among word (wide_words c) ≡ x → IsWord word x → IsNamed x
  word_named word spelled p q r x e (an_entry isnt_name) = unnamed_is_named x isnt_name
  word_named word spelled p q r _ e no_entry =
      (spelled (plain_word word c e), λ g. stays_if word g (is_among word attribute_words) (is_among word assembler_words) (is_among word blank_words) p q r (by_either_sign word c g e))

  wide_words_unnamed : NoNames (wide_words c)
  wide_words_unnamed = (tt, others_unnamed)

  word_at_named : (word : List ℕ) (more : ℕ) (bs : List ℕ) → (word_of word ≡ name word → IsIdentifier word) → OfFound IsNamed (wide_word_at c word more bs)
  word_at_named word more bs spelled =
      found_if IsNamed (is_among word attribute_words) (attribute_at are_silent more bs) _ (λ is. attribute_named are_silent more bs) (λ p. found_if IsNamed (is_among word assembler_words) (attribute_at begins_string more bs) (wide_word c word more) (λ is. attribute_named begins_string more bs) (λ q. found_if IsNamed (is_among word blank_words) (skipped more) (found (word_among word (wide_words c)) more) (λ is. tt) (λ r. word_named word spelled p q r (word_among word (wide_words c)) refl (which_word word (wide_words c) wide_words_unnamed))))

  passed_named : (o : Option ℕ) → OfFound IsNamed (passed_over o)
  passed_named None = tt
  passed_named (Some n) = tt

  comment_named : (bs : List ℕ) → OfFound IsNamed (comment_at bs)
  comment_named [] = tt
  comment_named (b ∷ bs) =
      found_if IsNamed (b == 42) (passed_over (comment_length in_comment bs)) _ (λ is. passed_named (comment_length in_comment bs)) (λ isnt. found_if IsNamed (b == 47) (skipped (suc (line_length false bs))) nothing_known (λ is. tt) (λ isnt. tt))

  found_named : (b : ℕ) (bs : List ℕ) → OfFound IsNamed (wide_found_at c b bs)
  found_named b bs =
      let fronts = front goes_on_word bs in
      found_if IsNamed (is_letter b) (wide_word_at c (b ∷ fronts) (length fronts) (drop (length fronts) bs)) _ (λ is. word_at_named (b ∷ fronts) (length fronts) (drop (length fronts) bs) (λ e. (is, front_passes goes_on_word bs, e))) (λ isnt. found_if IsNamed (b == 47) (comment_at bs) (found_at b bs) (λ slash. comment_named bs) (λ no_slash. unlettered IsNamed (λ n. tt) tt (tt, (tt, (tt, (tt, (tt, (tt, (tt, (tt, (tt, tt))))))))) b bs isnt))

  -- THE NAME of what is read IS AN IDENTIFIER, and no word of the wide reading
  named_read : (text : List ℕ) (d : Declaration) → IsReadingIn wide c text (reads d) → IsNamed (name d.called)
  named_read text d (is_read {ps = ps} is declared few right) =
      declaration_named declared (subst (OfCut IsNamed) is (cut_all IsNamed wide c found_named 0 0 text))

  pub wide_identifier : (text : List ℕ) (d : Declaration) → IsReadingIn wide c text (reads d) → IsIdentifier d.called
  wide_identifier text d read = (named_read text d read).0

  pub wide_name_stays : (text : List ℕ) (d : Declaration) → IsReadingIn wide c text (reads d) → StaysName (name d.called)
  wide_name_stays text d read = (named_read text d read).1

  -- and the signature has no fault
  pub wide_right : (text : List ℕ) (d : Declaration) → IsReadingIn wide c text (reads d) → SignatureHasNoFault d.signature
  wide_right text d (is_read is declared few right) = right
