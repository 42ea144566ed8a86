-- What is read has a canonical text: its name is an identifier, and dots stand behind the last of its parameters.
use Rattle.std.proofs.Common.{◌≡◌, ◌∙◌, ◌⊎◌, ◌&&◌, ℕ, suc, Bool, true, false, cond, List, [], ◌∷◌, length, Option, Some, None, inl, inr, refl, sym, ap, subst}
use Rattle.std.specs.Prelude.{⊤, bytes_eq}
use Rattle.ffi3_type_spec.specs.Signature.{SignatureHasNoFault}
use Rattle.ffi3_type_spec.specs.Tree.{Tree}
use Rattle.ffi3_cdecl_spec.specs.Tokens.{plain, signed, wide, Token, name, words, word_among, word_of, is_blank, is_letter, goes_on_word, front, blank, found, found_at, before}
use Rattle.ffi3_cdecl_spec.specs.Grammar.{IsParameters, last_parameter, last_before_dots, before_types, next_parameter, IsParameterList, some_parameters, IsResult, a_result, no_result, Declaration, IsDeclarationIn, declares, declares_by}
use Rattle.ffi3_cdecl_spec.specs.Canonical.{FixesAll, IsIdentifier, passes}
use Rattle.ffi3_cdecl_spec.proofs.Tokenwise.{All, behind_type, behind_qualified, OfFound, found_if, no_letter, OfCut, cut_all}
use Rattle.ffi3_cdecl_spec.specs.Reading.{tokens_of, IsReadingIn, reads, is_read}

-- a token that is a name is an identifier
abbrev IsSpelled : Token → Type 0
IsSpelled (name word) = IsIdentifier word
IsSpelled x = ⊤

isnt_wide : plain ≡ wide → ⊥
isnt_wide e = cc

behind_result : {before after : List Token} {t : Tree} → IsResult plain before after t → All IsSpelled before → All IsSpelled after
behind_result (a_result t) all = behind_type IsSpelled t all
behind_result (no_result q) all = behind_qualified IsSpelled q all

-- ---- what is found in a text

abbrev AreSpelledWords : List (List ℕ × Token) → Type 0
AreSpelledWords [] = ⊤
AreSpelledWords (entry ∷ entries) = IsSpelled entry.1 × AreSpelledWords entries

word_if : (word : List ℕ) (b : Bool) (x y : Token) → IsSpelled x → (y ≡ name word) ⊎ IsSpelled y → (cond b x y ≡ name word) ⊎ IsSpelled (cond b x y)
word_if word true x y this other = inr this
word_if word false x y this other = other

word_spelled : (word : List ℕ) (entries : List (List ℕ × Token)) → AreSpelledWords entries → (word_among word entries ≡ name word) ⊎ IsSpelled (word_among word entries)
word_spelled word [] all = inl refl
word_spelled word (entry ∷ entries) all =
    word_if word (bytes_eq word entry.0) entry.1 (word_among word entries) all.0 (word_spelled word entries all.1)

words_spelled : AreSpelledWords words
words_spelled =
    (tt, (tt, (tt, (tt, (tt, (tt, (tt, (tt, (tt, (tt, (tt, (tt, (tt, (tt, (tt, (tt, (tt, (tt, (tt, (tt, (tt, (tt, (tt, tt)))))))))))))))))))))))

passes_if : (test : ℕ → Bool) (b : ℕ) (bs : List ℕ) (is : Bool) → test b ≡ is → passes test bs ≡ true → passes test (cond is (b ∷ bs) []) ≡ true
passes_if test b bs true same rest = ap (λ (x : Bool). x && passes test bs) same ∙ rest
passes_if test b bs false same rest = refl

pub front_passes : (test : ℕ → Bool) (bs : List ℕ) → passes test (front test bs) ≡ true
front_passes test [] = refl
front_passes test (b ∷ bs) = passes_if test b (front test bs) (test b) refl (front_passes test bs)

named : (b : ℕ) (bs : List ℕ) → is_letter b ≡ true → (word_of (b ∷ front goes_on_word bs) ≡ name (b ∷ front goes_on_word bs)) ⊎ IsSpelled (word_of (b ∷ front goes_on_word bs)) → IsSpelled (word_of (b ∷ front goes_on_word bs))
named b bs letter (inl is) = subst IsSpelled (sym is) (letter, front_passes goes_on_word bs, is)
named b bs letter (inr spelled) = spelled

found_spelled : (b : ℕ) (bs : List ℕ) → OfFound IsSpelled (found_at b bs)
found_spelled b bs =
    let a_word = λ (letter : is_letter b ≡ true). named b bs letter (word_spelled (b ∷ front goes_on_word bs) words words_spelled) in
    let a_mark = no_letter IsSpelled (λ n. tt) tt (tt, (tt, (tt, (tt, (tt, (tt, (tt, (tt, (tt, tt))))))))) b bs in
    found_if IsSpelled (is_blank b) blank _ (λ is. tt) (λ isnt. found_if IsSpelled (is_letter b) (found (word_of (b ∷ front goes_on_word bs)) (length (front goes_on_word bs))) _ a_word (λ isnt. a_mark))

-- ---- what is declared

some_is : (x y : ℕ) → Some x ≡ Some y → x ≡ y
some_is x y e = cc

none_is_some : (x : ℕ) → None ≡ Some x → ⊥
none_is_some x e = cc

dots_last : {before after : List Token} {ts : List Tree} {f : Option ℕ} (n : ℕ) → IsParameters plain before after ts f → f ≡ Some n → n ≡ length ts
dots_last n (last_parameter p) is = absurd (none_is_some n is)
dots_last n (last_before_dots p) is = sym (some_is 1 n is)
dots_last n (before_types p q ps) is = absurd (isnt_wide p)
dots_last n (next_parameter {fixed = None} p ps) is = absurd (none_is_some n is)
dots_last n (next_parameter {fixed = Some i} p ps) is =
    sym (some_is (suc i) n is) ∙ ap suc (dots_last i ps refl)

list_fixes : {before after : List Token} {ts : List Tree} {f : Option ℕ} (n : ℕ) → IsParameterList plain before after ts f → f ≡ Some n → n ≡ length ts
list_fixes n (some_parameters ps) is = dots_last n ps is
list_fixes n _ is = absurd (none_is_some n is)

declared_fixes : (ts : List Token) (d : Declaration) → IsDeclarationIn plain ts d → FixesAll d.signature
declared_fixes ts _ (declares p result all end) = λ n is. list_fixes n all is
declared_fixes ts _ (declares_by p result all end) = absurd (isnt_wide p)

declared_named : (ts : List Token) (d : Declaration) → IsDeclarationIn plain ts d → All IsSpelled ts → IsIdentifier d.called
declared_named ts _ (declares p result list end) all = (behind_result result all).0
declared_named ts _ (declares_by p result list end) all = absurd (isnt_wide p)

-- THE NAME of what is read IS AN IDENTIFIER
pub identifier_read : (text : List ℕ) (d : Declaration) → IsReadingIn plain signed text (reads d) → IsIdentifier d.called
identifier_read text d (is_read {ps = ps} is declared few right) =
    declared_named (tokens_of ps) d declared (subst (OfCut IsSpelled) is (cut_all IsSpelled plain signed found_spelled 0 0 text))

-- dots stand behind the last parameter
pub all_fixed_read : (text : List ℕ) (d : Declaration) → IsReadingIn plain signed text (reads d) → FixesAll d.signature
all_fixed_read text d (is_read {ps = ps} is declared few right) = declared_fixes (tokens_of ps) d declared

-- and the signature has no fault
pub right_read : (text : List ℕ) (d : Declaration) → IsReadingIn plain signed text (reads d) → SignatureHasNoFault d.signature
right_read text d (is_read is declared few right) = right
