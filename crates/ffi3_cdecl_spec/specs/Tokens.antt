-- The words and marks of a C declaration, and how bytes are cut into them. (C11 6.4: keywords 6.4.1, identifiers 6.4.2.1, decimal constants 6.4.4.1, punctuators 6.4.6; names of types that headers give, C11 7.19 and 7.20.1, are words here, where a long has 64 bits)
use Rattle.std.specs.Prelude.{ℕ, zero, suc, ◌+◌, ◌-◌, ◌*◌, min, Bool, cond, ◌&&◌, ◌||◌, ◌==◌, List, [], ◌∷◌, length}
use Rattle.std.specs.Prelude.{nat_le, codes, bytes_eq, true, false, not, Option, Some, None, option_map, ◌++◌, map, drop, take}
use Rattle.ffi3_type_spec.specs.Tree.{Scalar, u8, s8, u16, s16, u32, s32, u64, s64, float, double}

-- The two readings of a text: the plain one, of `cdecl` and of scripts, and the wide one, of prototypes as people write them.
pub data Dialect : Type 0 where
  plain : Dialect
  wide : Dialect

pub data Sign : Type 0 where
  signed : Sign
  unsigned : Sign

pub data Token : Type 0 where
  -- a word that names a type alone
  type_word : Scalar → Token
  sign_word : Sign → Token
  const_word : Token
  short_word : Token
  int_word : Token
  long_word : Token
  int128_word : Token
  -- `char`, and whether it is signed where no word says so, which the machine decides (C11 6.2.5 paragraph 15)
  char_word : Sign → Token
  void_word : Token
  struct_word : Token
  union_word : Token
  enum_word : Token
  complex_word : Token
  -- an attribute, and a keyword that no declaration here has (C11 6.4.1)
  attribute_word : Token
  other_keyword : Token
  -- an identifier, which is no word of the grammar
  name : List ℕ → Token
  number : ℕ → Token
  open_round : Token
  close_round : Token
  open_curly : Token
  close_curly : Token
  open_square : Token
  close_square : Token
  comma : Token
  semicolon : Token
  star : Token
  dots : Token

-- the words of the grammar; the plain reading takes no `char` without a word of sign, so that the sign is said as it may be
abbrev pub words : List (List ℕ × Token)
words =
    (codes "float", type_word float) ∷ (codes "double", type_word double) ∷ (codes "int8_t", type_word s8)
    ∷ (codes "int16_t", type_word s16) ∷ (codes "int32_t", type_word s32) ∷ (codes "int64_t", type_word s64)
    ∷ (codes "uint8_t", type_word u8) ∷ (codes "uint16_t", type_word u16) ∷ (codes "uint32_t", type_word u32)
    ∷ (codes "uint64_t", type_word u64) ∷ (codes "size_t", type_word u64) ∷ (codes "uintptr_t", type_word u64)
    ∷ (codes "intptr_t", type_word s64) ∷ (codes "signed", sign_word signed) ∷ (codes "unsigned", sign_word unsigned)
    ∷ (codes "const", const_word) ∷ (codes "short", short_word) ∷ (codes "int", int_word) ∷ (codes "long", long_word)
    ∷ (codes "__int128", int128_word) ∷ (codes "char", char_word signed) ∷ (codes "void", void_word)
    ∷ (codes "struct", struct_word) ∷ []

abbrev pub word_among : List ℕ → List (List ℕ × Token) → Token
word_among bytes [] = name bytes
word_among bytes (entry ∷ entries) =
    cond (bytes_eq bytes entry.0) entry.1 (word_among bytes entries)

-- the word of the grammar that these bytes spell, else an identifier
abbrev pub word_of : List ℕ → Token
word_of bytes = word_among bytes words

abbrev between : ℕ → ℕ → ℕ → Bool
between low high b = nat_le low b && nat_le b high

-- space, tab, newline, return
abbrev pub is_blank : ℕ → Bool
is_blank b = (b == 32) || (b == 9) || (b == 10) || (b == 13)

abbrev pub is_digit : ℕ → Bool
is_digit b = between 48 57 b

-- A to Z, a to z, and the low line
abbrev pub is_letter : ℕ → Bool
is_letter b = between 65 90 b || between 97 122 b || (b == 95)

abbrev pub goes_on_word : ℕ → Bool
goes_on_word b = is_letter b || is_digit b

-- the bytes at the front that pass the test
abbrev pub front : (ℕ → Bool) → List ℕ → List ℕ
front test [] = []
front test (b ∷ bs) = cond (test b) (b ∷ front test bs) []

-- stands for every number that is too great
abbrev pub TOO_GREAT : ℕ
TOO_GREAT = 4294967296

-- the number that digits behind a number make of it
abbrev pub with_digits : ℕ → List ℕ → ℕ
with_digits n [] = n
with_digits n (b ∷ bs) = with_digits (min (10 * n + (b - 48)) TOO_GREAT) bs

-- What stands at a byte: a blank, nothing that is known, what is passed over or a token, and how many bytes more these take.
pub data Found : Type 0 where
  blank : Found
  skipped : ℕ → Found
  nothing_known : Found
  found : Token → ℕ → Found

-- a number with a 0 in front is none
abbrev pub number_at : ℕ → List ℕ → Found
number_at b digits =
    cond (b == 48)
    (cond (length digits == 0) (found (number 0) 0) nothing_known)
    (found (number (with_digits 0 (b ∷ digits))) (length digits))

-- three dots, where these bytes stand behind the first
abbrev pub dots_at : List ℕ → Found
dots_at [] = nothing_known
dots_at (b ∷ []) = nothing_known
dots_at (b ∷ c ∷ bs) = cond ((b == 46) && (c == 46)) (found dots 2) nothing_known

-- the marks of one byte
abbrev pub marks : List (ℕ × Token)
marks =
    (40, open_round) ∷ (41, close_round) ∷ (123, open_curly) ∷ (125, close_curly) ∷ (91, open_square)
    ∷ (93, close_square) ∷ (44, comma) ∷ (59, semicolon) ∷ (42, star) ∷ []

abbrev pub mark_among : ℕ → List (ℕ × Token) → Found
mark_among b [] = nothing_known
mark_among b (mark ∷ rest) = cond (b == mark.0) (found mark.1 0) (mark_among b rest)

-- the longest token at the front of a byte and those behind it
abbrev pub found_at : ℕ → List ℕ → Found
found_at b bs =
    cond (is_blank b) blank
    (cond (is_letter b)
    (found (word_of (b ∷ front goes_on_word bs)) (length (front goes_on_word bs)))
    (cond (is_digit b) (number_at b (front is_digit bs))
    (cond (b == 46) (dots_at bs) (mark_among b marks))))

-- ---- the wide reading

-- words that say nothing of where a value stands: qualifiers, storage classes and function specifiers (C11 6.7.1, 6.7.3, 6.7.4), and GNU C's spellings of them (GCC manual, "Alternate Keywords")
abbrev pub blank_words : List (List ℕ)
blank_words =
    codes "const" ∷ codes "volatile" ∷ codes "restrict" ∷ codes "__restrict" ∷ codes "__restrict__" ∷ codes "extern"
    ∷ codes "static" ∷ codes "inline" ∷ codes "__inline" ∷ codes "register" ∷ codes "_Noreturn"
    ∷ codes "__extension__" ∷ codes "__inline__" ∷ codes "__const" ∷ codes "__const__" ∷ codes "__volatile"
    ∷ codes "__volatile__" ∷ []

-- Words that the plain reading takes for identifiers: types, words that add attributes, C11's other keywords, and those of GNU C, Clang, C23, ISO/IEC TR 18037 and Microsoft C that stand in a type. `complex` is the macro of complex.h (C11 7.3.1).
abbrev pub more_words : List (List ℕ × Token)
more_words =
    (codes "_Bool", type_word u8) ∷ (codes "_Complex", complex_word) ∷ (codes "union", union_word)
    ∷ (codes "enum", enum_word) ∷ (codes "__declspec", attribute_word) ∷ (codes "_Alignas", attribute_word)
    ∷ (codes "auto", other_keyword)
    ∷ (codes "break", other_keyword) ∷ (codes "case", other_keyword) ∷ (codes "continue", other_keyword)
    ∷ (codes "default", other_keyword) ∷ (codes "do", other_keyword) ∷ (codes "else", other_keyword)
    ∷ (codes "for", other_keyword) ∷ (codes "goto", other_keyword) ∷ (codes "if", other_keyword)
    ∷ (codes "return", other_keyword) ∷ (codes "sizeof", other_keyword) ∷ (codes "switch", other_keyword)
    ∷ (codes "typedef", other_keyword) ∷ (codes "while", other_keyword) ∷ (codes "_Alignof", other_keyword)
    ∷ (codes "_Atomic", other_keyword) ∷ (codes "_Generic", other_keyword) ∷ (codes "_Imaginary", other_keyword)
    ∷ (codes "_Static_assert", other_keyword) ∷ (codes "_Thread_local", other_keyword) ∷ (codes "complex", complex_word)
    ∷ (codes "__complex", complex_word) ∷ (codes "__complex__", complex_word) ∷ (codes "__signed", sign_word signed)
    ∷ (codes "__signed__", sign_word signed) ∷ (codes "typeof", other_keyword) ∷ (codes "__typeof", other_keyword)
    ∷ (codes "__typeof__", other_keyword) ∷ (codes "typeof_unqual", other_keyword)
    ∷ (codes "__alignof__", other_keyword) ∷ (codes "__auto_type", other_keyword) ∷ (codes "_BitInt", other_keyword)
    ∷ (codes "__int8", other_keyword) ∷ (codes "__int16", other_keyword) ∷ (codes "__int32", other_keyword)
    ∷ (codes "__int64", other_keyword) ∷ (codes "__ptr32", other_keyword) ∷ (codes "__int128__", int128_word)
    ∷ (codes "_int8", other_keyword) ∷ (codes "_int16", other_keyword) ∷ (codes "_int32", other_keyword)
    ∷ (codes "_int64", other_keyword) ∷ (codes "_ptr32", other_keyword) ∷ (codes "_ExtInt", other_keyword)
    ∷ (codes "_Fract", other_keyword) ∷ (codes "_Accum", other_keyword) ∷ (codes "_Sat", other_keyword) ∷ []

abbrev pub is_among : List ℕ → List (List ℕ) → Bool
is_among bytes [] = false
is_among bytes (word ∷ words) = bytes_eq bytes word || is_among bytes words

-- the words of the wide reading, where `char` is signed or not (signed by the psABI AMD64 3.1.2, on Microsoft x64 and by Apple for arm64; unsigned by AAPCS64 "Arithmetic types" and the RISC-V psABI "C/C++ type representations")
abbrev pub wide_words : Sign → List (List ℕ × Token)
wide_words c = (codes "char", char_word c) ∷ (more_words ++ words)

-- a word and how many bytes stand behind its first
abbrev pub wide_word : Sign → List ℕ → ℕ → Found
wide_word c bytes more =
    cond (is_among bytes blank_words) (skipped more) (found (word_among bytes (wide_words c)) more)

abbrev pub begins_with : ℕ → List ℕ → Bool
begins_with c [] = false
begins_with c (b ∷ bs) = b == c

-- The end of a line is taken away with a "\" before it (C11 5.1.1.2, phase 2), where blanks may stand between, as GNU C has it: whether one stands before, once this byte is read.
abbrev pub is_spliced_behind : Bool → ℕ → Bool
is_spliced_behind spliced b =
    (b == 92) || (spliced && (is_blank b && not (b == 10)))

abbrev pub ends_line : Bool → ℕ → Bool
ends_line spliced b = (b == 10) && not spliced

-- how many bytes a comment takes behind its "//", up to the end of its line, where the end that is next may be spliced (C11 6.4.9)
abbrev pub line_length : Bool → List ℕ → ℕ
line_length spliced [] = 0
line_length spliced (b ∷ bs) =
    cond (ends_line spliced b) 0 (suc (line_length (is_spliced_behind spliced b) bs))

-- what stands before a byte of a comment that a "*/" closes: a "*", that and a "\" that may splice a line, or neither
pub data CommentPlace : Type 0 where
  in_comment : CommentPlace
  behind_star : CommentPlace
  behind_splice : CommentPlace

abbrev pub splice_goes_on : ℕ → CommentPlace
splice_goes_on b =
    cond (b == 10) behind_star (cond (is_blank b) behind_splice in_comment)

abbrev pub place_behind : CommentPlace → ℕ → CommentPlace
place_behind in_comment b = cond (b == 42) behind_star in_comment
place_behind behind_star b =
    cond (b == 42) behind_star (cond (b == 92) behind_splice in_comment)
place_behind behind_splice b = cond (b == 42) behind_star (splice_goes_on b)

abbrev pub closes_comment : CommentPlace → ℕ → Bool
closes_comment in_comment b = false
closes_comment behind_star b = b == 47
closes_comment behind_splice b = false

-- how many bytes a comment takes behind its "/*", with its "*/" (C11 6.4.9)
abbrev pub comment_length : CommentPlace → List ℕ → Option ℕ
comment_length p [] = None
comment_length p (b ∷ bs) =
    cond (closes_comment p b) (Some 1) (option_map suc (comment_length (place_behind p b) bs))

abbrev pub passed_over : Option ℕ → Found
passed_over None = nothing_known
passed_over (Some n) = skipped (suc n)

-- what stands at a "/" that these bytes follow
abbrev pub comment_at : List ℕ → Found
comment_at [] = nothing_known
comment_at (b ∷ bs) =
    cond (b == 42) (passed_over (comment_length in_comment bs))
    (cond (b == 47) (skipped (suc (line_length false bs))) nothing_known)

-- ---- GNU C's attributes, and names for the assembler

abbrev pub attribute_words : List (List ℕ)
attribute_words = codes "__attribute__" ∷ codes "__attribute" ∷ []

abbrev pub assembler_words : List (List ℕ)
assembler_words = codes "__asm__" ∷ codes "__asm" ∷ codes "asm" ∷ []

-- attributes that say nothing of where a value stands (GCC manual, "Declaring Attributes of Functions")
abbrev pub silent_attributes : List (List ℕ)
silent_attributes =
    codes "nothrow" ∷ codes "leaf" ∷ codes "pure" ∷ codes "const" ∷ codes "nonnull" ∷ codes "malloc" ∷ codes "format"
    ∷ codes "format_arg" ∷ codes "warn_unused_result" ∷ codes "deprecated" ∷ codes "noreturn" ∷ codes "visibility"
    ∷ codes "alloc_size" ∷ codes "alloc_align" ∷ codes "access" ∷ codes "returns_nonnull" ∷ codes "returns_twice"
    ∷ codes "sentinel" ∷ codes "unused" ∷ codes "weak" ∷ codes "cold" ∷ codes "hot" ∷ codes "always_inline"
    ∷ codes "noinline" ∷ codes "warning" ∷ codes "error" ∷ []

-- each may have two low lines at both its ends
abbrev pub with_lines : List ℕ → List ℕ
with_lines word = codes "__" ++ (word ++ codes "__")

abbrev pub is_silent : List ℕ → Bool
is_silent word =
    is_among word silent_attributes || is_among word (map with_lines silent_attributes)

-- where a byte of a bracket stands: outside of quotes, between them, or there behind a "\"
pub data Quoted : Type 0 where
  unquoted : Quoted
  in_quotes : Quoted
  escaped : Quoted

abbrev pub quoted_behind : Quoted → ℕ → Quoted
quoted_behind unquoted b = cond (b == 34) in_quotes unquoted
quoted_behind in_quotes b = cond (b == 34) unquoted (cond (b == 92) escaped in_quotes)
quoted_behind escaped b = in_quotes

-- the brackets that are open behind a byte, where so many are before it
abbrev pub open_behind : Quoted → ℕ → ℕ → ℕ
open_behind unquoted b n = cond (b == 40) (n + 1) (cond (b == 41) (n - 1) n)
open_behind q b n = n

-- A byte that may hide brackets or quotes: of a comment, of a character in quotes, of a line that is spliced, or the "R" of a raw string (GNU C). A bracket with one is not read.
abbrev pub hides : Quoted → ℕ → Bool
hides unquoted b = (b == 47) || (b == 39) || (b == 92) || (b == 82)
hides q b = b == 10

-- how many bytes stand up to where all brackets are closed, the last ")" among them
abbrev pub bracket_length : Quoted → ℕ → List ℕ → Option ℕ
bracket_length q n [] = None
bracket_length q n (b ∷ bs) =
    cond (hides q b) None
    (cond (open_behind q b n == 0) (Some 1)
    (option_map suc (bracket_length (quoted_behind q b) (open_behind q b n) bs)))

-- a word that begins here is an attribute, or stands where one should
abbrev pub is_attribute_at : Quoted → ℕ → ℕ → Bool
is_attribute_at unquoted b n = is_letter b && nat_le n 2
is_attribute_at q b n = false

-- All attributes inside two brackets are silent, and inside one alone are none; so many bytes at the front are of a word already.
abbrev pub all_silent : Quoted → ℕ → ℕ → List ℕ → Bool
all_silent q n inside [] = true
all_silent q n zero (b ∷ bs) =
    cond (is_attribute_at q b n)
    ((n == 2) && (is_silent (b ∷ front goes_on_word bs) && all_silent q n (length (front goes_on_word bs)) bs))
    (all_silent (quoted_behind q b) (open_behind q b n) 0 bs)
all_silent q n (suc inside) (b ∷ bs) = all_silent q n inside bs

abbrev pub are_silent : List ℕ → Bool
are_silent bracket = all_silent unquoted 0 0 bracket

-- a string stands behind the "(" of a bracket, as a name for the assembler has it (GCC manual, "Controlling Names Used in Assembler Code")
abbrev pub begins_string : List ℕ → Bool
begins_string bracket =
    begins_with 34 (drop (length (front is_blank (drop 1 bracket))) (drop 1 bracket))

-- a word and its bracket of so many bytes, where it has an end
abbrev pub with_bracket : (List ℕ → Bool) → ℕ → List ℕ → Option ℕ → Found
with_bracket silent more bs None = nothing_known
with_bracket silent more bs (Some n) =
    cond (silent (take n bs)) (skipped (more + n)) (found attribute_word (more + n))

-- A word and its bracket, where it has one, behind blanks: a blank where what is in it is silent, else an attribute.
abbrev pub attribute_at : (List ℕ → Bool) → ℕ → List ℕ → Found
attribute_at silent more bs =
    cond (begins_with 40 (drop (length (front is_blank bs)) bs))
    (with_bracket silent (more + length (front is_blank bs)) (drop (length (front is_blank bs)) bs)
    (bracket_length unquoted 0 (drop (length (front is_blank bs)) bs)))
    (found attribute_word more)

-- a word, how many bytes stand behind its first, and the bytes behind it
abbrev pub wide_word_at : Sign → List ℕ → ℕ → List ℕ → Found
wide_word_at c word more bs =
    cond (is_among word attribute_words) (attribute_at are_silent more bs)
    (cond (is_among word assembler_words) (attribute_at begins_string more bs) (wide_word c word more))

abbrev pub wide_found_at : Sign → ℕ → List ℕ → Found
wide_found_at c b bs =
    cond (is_letter b)
    (wide_word_at c (b ∷ front goes_on_word bs) (length (front goes_on_word bs))
    (drop (length (front goes_on_word bs)) bs))
    (cond (b == 47) (comment_at bs) (found_at b bs))

-- what stands at a byte, in each reading, where `char` is signed or not
abbrev pub found_in : Dialect → Sign → ℕ → List ℕ → Found
found_in plain c b bs = found_at b bs
found_in wide c b bs = wide_found_at c b bs

-- a token and the offset of its first byte
pub record Placed : Type 0 where
  pub at : ℕ
  pub token : Token

-- the tokens of a text, or the offset of the first byte of none
pub data Cut : Type 0 where
  tokens : List Placed → Cut
  bad_at : ℕ → Cut

abbrev pub before : Found → ℕ → Cut → Cut
before blank at behind = behind
before (skipped more) at behind = behind
before nothing_known at behind = bad_at at
before (found t more) at (tokens ts) = tokens (record { at = at; token = t } ∷ ts)
before (found t more) at (bad_at there) = bad_at there

abbrev pub bytes_more : Found → ℕ
bytes_more blank = 0
bytes_more (skipped more) = more
bytes_more nothing_known = 0
bytes_more (found t more) = more

-- The tokens of bytes that stand at an offset, where so many bytes at the front are of a token already.
abbrev pub cut_from : Dialect → Sign → ℕ → ℕ → List ℕ → Cut
cut_from r c at inside [] = tokens []
cut_from r c at zero (b ∷ bs) =
    before (found_in r c b bs) at (cut_from r c (at + 1) (bytes_more (found_in r c b bs)) bs)
cut_from r c at (suc inside) (b ∷ bs) = cut_from r c (at + 1) inside bs

abbrev pub cut_in : Dialect → Sign → List ℕ → Cut
cut_in r c text = cut_from r c 0 0 text

abbrev pub cut : List ℕ → Cut
cut text = cut_in plain signed text
