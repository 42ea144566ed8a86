-- The canonical text of a declaration reads as it.
use Rattle.std.proofs.Common.{◌≡◌, ℕ, suc, ◌+◌, Bool, true, false, List, [], ◌∷◌, ap, sym, subst, refl, ◌∙◌, lit<}
use Rattle.std.specs.Prelude.{is_some}
use Rattle.ffi3_type_spec.specs.Tree.{Scalar, u8, s8, u16, s16, u32, s32, u64, s64, u128, s128, float, double, pointer, Tree, Trees, void, scalar, left_out, structure, array, no_trees, tree}
use Rattle.ffi3_cdecl_spec.specs.Tokens.{Token, unsigned, type_word, sign_word, int128_word, void_word, struct_word, name, open_round, close_round, open_curly, close_curly, open_square, close_square, comma, semicolon, star, dots, word_of}
use Rattle.ffi3_cdecl_spec.specs.Grammar.{IsDeclaration}
use Rattle.ffi3_cdecl_spec.specs.Reading.{IsReading, is_read, reads}
use Rattle.ffi3_cdecl_spec.specs.Canonical.{IsIdentifierOf, IsIdentifier, scalar_tokens, count_tokens, first_count_tokens, type_tokens, first_type_tokens, member_tokens, end_tokens, more_parameter_tokens, parameter_tokens, declaration_tokens, declaration_text, FixesAll}
use Rattle.ffi3_cdecl_spec.proofs.Spellable.{IsSpellableMember, IsSpellableElement, AreSpellableMembers, AreMoreSpellable, IsSpellableValue, IsSpellableResult, AreSpellableValues, spellable_result, spellable_arguments}
use Rattle.ffi3_type_spec.specs.Signature.{Signature, SignatureHasNoFault}
use Rattle.ffi3_cdecl_spec.proofs.Spoken.{Spoken, AllSpoken, Cuts, cuts_text, none_great, word_spoken}
use Rattle.ffi3_cdecl_spec.proofs.SpokenNumbers.{number_spoken, member_name_spoken}
use Rattle.ffi3_cdecl_spec.proofs.Written.{declaration_written}

-- ---- each token

pub open_round_spoken : Spoken open_round
open_round_spoken =
    record { first = 40; more = []; spelt = refl; alone = λ rest apart. refl; small = refl }

pub close_round_spoken : Spoken close_round
close_round_spoken =
    record { first = 41; more = []; spelt = refl; alone = λ rest apart. refl; small = refl }

open_curly_spoken : Spoken open_curly
open_curly_spoken =
    record { first = 123; more = []; spelt = refl; alone = λ rest apart. refl; small = refl }

close_curly_spoken : Spoken close_curly
close_curly_spoken =
    record { first = 125; more = []; spelt = refl; alone = λ rest apart. refl; small = refl }

open_square_spoken : Spoken open_square
open_square_spoken =
    record { first = 91; more = []; spelt = refl; alone = λ rest apart. refl; small = refl }

close_square_spoken : Spoken close_square
close_square_spoken =
    record { first = 93; more = []; spelt = refl; alone = λ rest apart. refl; small = refl }

pub comma_spoken : Spoken comma
comma_spoken =
    record { first = 44; more = []; spelt = refl; alone = λ rest apart. refl; small = refl }

pub semicolon_spoken : Spoken semicolon
semicolon_spoken =
    record { first = 59; more = []; spelt = refl; alone = λ rest apart. refl; small = refl }

star_spoken : Spoken star
star_spoken =
    record { first = 42; more = []; spelt = refl; alone = λ rest apart. refl; small = refl }

pub dots_spoken : Spoken dots
dots_spoken =
    record { first = 46; more = 46 ∷ 46 ∷ []; spelt = refl; alone = λ rest apart. refl; small = refl }

unsigned_spoken : Spoken (sign_word unsigned)
unsigned_spoken =
    word_spoken (sign_word unsigned) 117 (110 ∷ 115 ∷ 105 ∷ 103 ∷ 110 ∷ 101 ∷ 100 ∷ []) refl refl refl refl refl refl

int128_spoken : Spoken int128_word
int128_spoken =
    word_spoken int128_word 95 (95 ∷ 105 ∷ 110 ∷ 116 ∷ 49 ∷ 50 ∷ 56 ∷ []) refl refl refl refl refl refl

void_spoken : Spoken void_word
void_spoken =
    word_spoken void_word 118 (111 ∷ 105 ∷ 100 ∷ []) refl refl refl refl refl refl

struct_spoken : Spoken struct_word
struct_spoken =
    word_spoken struct_word 115 (116 ∷ 114 ∷ 117 ∷ 99 ∷ 116 ∷ []) refl refl refl refl refl refl

u8_spoken : Spoken (type_word u8)
u8_spoken =
    word_spoken (type_word u8) 117 (105 ∷ 110 ∷ 116 ∷ 56 ∷ 95 ∷ 116 ∷ []) refl refl refl refl refl refl

s8_spoken : Spoken (type_word s8)
s8_spoken =
    word_spoken (type_word s8) 105 (110 ∷ 116 ∷ 56 ∷ 95 ∷ 116 ∷ []) refl refl refl refl refl refl

u16_spoken : Spoken (type_word u16)
u16_spoken =
    word_spoken (type_word u16) 117 (105 ∷ 110 ∷ 116 ∷ 49 ∷ 54 ∷ 95 ∷ 116 ∷ []) refl refl refl refl refl refl

s16_spoken : Spoken (type_word s16)
s16_spoken =
    word_spoken (type_word s16) 105 (110 ∷ 116 ∷ 49 ∷ 54 ∷ 95 ∷ 116 ∷ []) refl refl refl refl refl refl

u32_spoken : Spoken (type_word u32)
u32_spoken =
    word_spoken (type_word u32) 117 (105 ∷ 110 ∷ 116 ∷ 51 ∷ 50 ∷ 95 ∷ 116 ∷ []) refl refl refl refl refl refl

s32_spoken : Spoken (type_word s32)
s32_spoken =
    word_spoken (type_word s32) 105 (110 ∷ 116 ∷ 51 ∷ 50 ∷ 95 ∷ 116 ∷ []) refl refl refl refl refl refl

u64_spoken : Spoken (type_word u64)
u64_spoken =
    word_spoken (type_word u64) 117 (105 ∷ 110 ∷ 116 ∷ 54 ∷ 52 ∷ 95 ∷ 116 ∷ []) refl refl refl refl refl refl

s64_spoken : Spoken (type_word s64)
s64_spoken =
    word_spoken (type_word s64) 105 (110 ∷ 116 ∷ 54 ∷ 52 ∷ 95 ∷ 116 ∷ []) refl refl refl refl refl refl

float_spoken : Spoken (type_word float)
float_spoken =
    word_spoken (type_word float) 102 (108 ∷ 111 ∷ 97 ∷ 116 ∷ []) refl refl refl refl refl refl

double_spoken : Spoken (type_word double)
double_spoken =
    word_spoken (type_word double) 100 (111 ∷ 117 ∷ 98 ∷ 108 ∷ 101 ∷ []) refl refl refl refl refl refl

scalar_spoken : (s : Scalar) (rest : List Token) → AllSpoken rest → AllSpoken (scalar_tokens s rest)
scalar_spoken u8 rest h = (u8_spoken, h)
scalar_spoken s8 rest h = (s8_spoken, h)
scalar_spoken u16 rest h = (u16_spoken, h)
scalar_spoken s16 rest h = (s16_spoken, h)
scalar_spoken u32 rest h = (u32_spoken, h)
scalar_spoken s32 rest h = (s32_spoken, h)
scalar_spoken u64 rest h = (u64_spoken, h)
scalar_spoken s64 rest h = (s64_spoken, h)
scalar_spoken u128 rest h = (unsigned_spoken, (int128_spoken, h))
scalar_spoken s128 rest h = (int128_spoken, h)
scalar_spoken float rest h = (float_spoken, h)
scalar_spoken double rest h = (double_spoken, h)
scalar_spoken pointer rest h = (void_spoken, (star_spoken, h))
scalar_spoken _ rest h = h

pub identifier_of : (word bytes : List ℕ) → word ≡ bytes → IsIdentifierOf word bytes → Spoken (name word)
identifier_of word [] e h = absurd h
identifier_of word (b ∷ bs) e h =
    word_spoken (name word) b bs e h.0 h.1 (ap word_of (sym e) ∙ h.2) refl refl

-- ---- types

mutual
  counts_spoken : (d : ℕ) (t : Tree) → IsSpellableMember d t → (rest : List Token) → AllSpoken rest → AllSpoken (count_tokens t rest)
  counts_spoken d void h rest r = absurd h
  counts_spoken d (left_out k) h rest r = absurd h
  counts_spoken d (array ts n) h rest r =
      (open_square_spoken, (number_spoken n h.0, (close_square_spoken, element_counts_spoken d ts h.1 rest r)))
  counts_spoken d _ h rest r = r

  element_counts_spoken : (d : ℕ) (ts : Trees) → IsSpellableElement d ts → (rest : List Token) → AllSpoken rest → AllSpoken (first_count_tokens ts rest)
  element_counts_spoken d no_trees h rest r = absurd h
  element_counts_spoken d (tree t ts) h rest r = counts_spoken d t h.0 rest r

mutual
  type_spoken : (d : ℕ) (t : Tree) → IsSpellableMember d t → (rest : List Token) → AllSpoken rest → AllSpoken (type_tokens t rest)
  type_spoken d (scalar s) h rest r = scalar_spoken s rest r
  type_spoken d (structure ts) h rest r =
      (struct_spoken, (open_curly_spoken, members_spoken (suc d) ts h.1 (close_curly ∷ rest) (close_curly_spoken, r)))
  type_spoken d (array ts n) h rest r = element_spoken d ts h.1 rest r
  type_spoken d _ h rest r = absurd h

  element_spoken : (d : ℕ) (ts : Trees) → IsSpellableElement d ts → (rest : List Token) → AllSpoken rest → AllSpoken (first_type_tokens ts rest)
  element_spoken d no_trees h rest r = absurd h
  element_spoken d (tree t ts) h rest r = type_spoken d t h.0 rest r

  members_spoken : (d : ℕ) (ts : Trees) → AreSpellableMembers d ts → (rest : List Token) → AllSpoken rest → AllSpoken (member_tokens 0 ts rest)
  members_spoken d no_trees h rest r = absurd h
  members_spoken d (tree t ts) h rest r =
      type_spoken d t h.0 _ (member_name_spoken 0 (lit< tt), counts_spoken d t h.0 _ (semicolon_spoken, more_members_spoken d 1 ts h.1 rest r))

  more_members_spoken : (d i : ℕ) (ts : Trees) → AreMoreSpellable d i ts → (rest : List Token) → AllSpoken rest → AllSpoken (member_tokens i ts rest)
  more_members_spoken d i no_trees h rest r = r
  more_members_spoken d i (tree t ts) h rest r =
      type_spoken d t h.1 _ (member_name_spoken i h.0, counts_spoken d t h.1 _ (semicolon_spoken, more_members_spoken d (i + 1) ts h.2 rest r))

pub value_spoken : (t : Tree) → IsSpellableValue t → (rest : List Token) → AllSpoken rest → AllSpoken (type_tokens t rest)
value_spoken (scalar s) h rest r = scalar_spoken s rest r
value_spoken (structure ts) h rest r = type_spoken 0 (structure ts) h rest r
value_spoken _ h rest r = absurd h

pub result_spoken : (t : Tree) → IsSpellableResult t → (rest : List Token) → AllSpoken rest → AllSpoken (type_tokens t rest)
result_spoken void h rest r = (void_spoken, r)
result_spoken (scalar s) h rest r = scalar_spoken s rest r
result_spoken (structure ts) h rest r = type_spoken 0 (structure ts) h rest r
result_spoken _ h rest r = absurd h

end_spoken : (variadic : Bool) (rest : List Token) → AllSpoken rest → AllSpoken (end_tokens variadic rest)
end_spoken true rest r =
    (comma_spoken, (dots_spoken, (close_round_spoken, r)))
end_spoken false rest r = (close_round_spoken, r)

more_spoken : (ts : List Tree) (variadic : Bool) (rest : List Token) → AreSpellableValues ts → AllSpoken rest → AllSpoken (more_parameter_tokens ts variadic rest)
more_spoken [] variadic rest h r = end_spoken variadic rest r
more_spoken (t ∷ ts) variadic rest h r =
    (comma_spoken, value_spoken t h.0 _ (more_spoken ts variadic rest h.1 r))

pub list_spoken : (ts : List Tree) (variadic : Bool) (rest : List Token) → AreSpellableValues ts → AllSpoken rest → AllSpoken (parameter_tokens ts variadic rest)
list_spoken [] variadic rest h r = (void_spoken, (close_round_spoken, r))
list_spoken (t ∷ ts) variadic rest h r =
    value_spoken t h.0 _ (more_spoken ts variadic rest h.1 r)

declaration_spoken : (called : List ℕ) (s : Signature) → IsIdentifier called → SignatureHasNoFault s → FixesAll s → AllSpoken (declaration_tokens called s)
declaration_spoken called s word right all =
    result_spoken s.result_type (spellable_result s right) _ (identifier_of called called refl word, (open_round_spoken, list_spoken s.arguments (is_some s.fixed) (semicolon ∷ []) (spellable_arguments s right) (semicolon_spoken, tt)))

-- ---- the whole

pub text_reads : (called : List ℕ) (s : Signature) → IsIdentifier called → SignatureHasNoFault s → FixesAll s → IsReading (declaration_text called s) (reads (record { called = called; signature = s }))
text_reads called s word right all =
    let xs : List Token = declaration_tokens called s in
    let spoken : AllSpoken xs = declaration_spoken called s word right all in
    let c : Cuts 0 (declaration_text called s) xs = cuts_text xs spoken true 0 in
    is_read c.1 (subst (λ ys. IsDeclaration ys (record { called = called; signature = s })) (sym c.2) (declaration_written called s right all)) (none_great c.0 (subst AllSpoken (sym c.2) spoken)) right
