-- The grammar of the C declarations that are read, as relations: from a list of tokens to what its front is and to the tokens after that. (C11 6.7.2 "Type specifiers", 6.7.2.1 "Structure and union specifiers", 6.7.3 "Type qualifiers", 6.7.6.1 to 6.7.6.3 for pointers, arrays and functions; a signature by its parameters' types alone)
use Rattle.std.specs.Prelude.{◌≡◌, refl, ℕ, suc, ◌<◌, ◌==◌, Bool, true, false, cond, List, [], ◌∷◌, Some}
use Rattle.std.specs.Prelude.{None, Option, option_map, codes, bytes_eq}
use Rattle.std.specs.Coded.{Coded, code_by, coded×, coded_list, coded_ℕ}
use Rattle.ffi3_type_spec.specs.Tree.{Scalar, u8, s8, u16, s16, u32, s32, u64, s64, u128, s128, float, double, pointer}
use Rattle.ffi3_type_spec.specs.Tree.{Tree, void, scalar, left_out, long_double, complex, struct_of, array_of}
use Rattle.ffi3_type_spec.specs.Signature.{Signature, signature_code}
use Rattle.ffi3_cdecl_spec.specs.Tokens.{Dialect, plain, wide, Token, Sign, signed, unsigned, type_word, sign_word}
use Rattle.ffi3_cdecl_spec.specs.Tokens.{const_word, short_word, int_word, long_word, int128_word, char_word}
use Rattle.ffi3_cdecl_spec.specs.Tokens.{void_word, struct_word, union_word, enum_word}
use Rattle.ffi3_cdecl_spec.specs.Tokens.{complex_word, name, number, open_round}
use Rattle.ffi3_cdecl_spec.specs.Tokens.{close_round, open_curly, close_curly, open_square, close_square, comma}
use Rattle.ffi3_cdecl_spec.specs.Tokens.{semicolon, star, dots}

-- at most so many structs are open at once
abbrev pub MOST_OPEN : ℕ
MOST_OPEN = 16

abbrev pub pointer_type : Tree
pointer_type = scalar pointer

-- the integers of C, where an int has 32 bits and a long 64 (psABI AMD64 3.1.2, AAPCS64 and RISC-V LP64 alike)
abbrev pub char_of : Sign → Scalar
char_of signed = s8
char_of unsigned = u8

abbrev pub short_of : Sign → Scalar
short_of signed = s16
short_of unsigned = u16

abbrev pub int_of : Sign → Scalar
int_of signed = s32
int_of unsigned = u32

abbrev pub long_of : Sign → Scalar
long_of signed = s64
long_of unsigned = u64

abbrev pub int128_of : Sign → Scalar
int128_of signed = s128
int128_of unsigned = u128

-- C11 6.7.2: which words name an integer

-- ["int"]
pub data IsIntOrNot : List Token → List Token → Type 0 where
  no_int : {after : List Token} → IsIntOrNot after after
  with_int : {after : List Token} → IsIntOrNot (int_word ∷ after) after

-- ["long"] ["int"]
pub data IsLongTail : List Token → List Token → Type 0 where
  one_long : {before after : List Token} → IsIntOrNot before after → IsLongTail before after
  two_longs : {before after : List Token} → IsIntOrNot before after → IsLongTail (long_word ∷ before) after

-- "short" ["int"], "int", "long" ["long"] ["int"] or "__int128", by this sign
pub data IsSized (g : Sign) : List Token → List Token → Scalar → Type 0 where
  a_short : {before after : List Token} → IsIntOrNot before after → IsSized g (short_word ∷ before) after (short_of g)
  an_int : {after : List Token} → IsSized g (int_word ∷ after) after (int_of g)
  a_long : {before after : List Token} → IsLongTail before after → IsSized g (long_word ∷ before) after (long_of g)
  an_int128 : {after : List Token} → IsSized g (int128_word ∷ after) after (int128_of g)

-- what stands behind a word of sign
pub data IsSigned (g : Sign) : List Token → List Token → Scalar → Type 0 where
  sign_alone : {after : List Token} → IsSigned g after after (int_of g)
  sign_of_char : {after : List Token} {c : Sign} → IsSigned g (char_word c ∷ after) after (char_of g)
  sign_of_size : {before after : List Token} {s : Scalar} → IsSized g before after s → IsSigned g before after s

-- {"*"}, one at least
pub data IsStars : List Token → List Token → Type 0 where
  one_star : {after : List Token} → IsStars (star ∷ after) after
  more_stars : {before after : List Token} → IsStars before after → IsStars (star ∷ before) after

-- {"[" number "]"} ";" behind a member's name; the first bracket is the outermost array (C11 6.7.6.2)
pub data IsCounts (t : Tree) : List Token → List Token → Tree → Type 0 where
  no_count : {after : List Token} → IsCounts t (semicolon ∷ after) after t
  a_count : {before after : List Token} {n : ℕ} {inner : Tree} → IsCounts t before after inner
      → IsCounts t (open_square ∷ number n ∷ close_square ∷ before) after (array_of inner n)

-- What a base is: a type, what needs a star, or `void`.
pub data Kind : Type 0 where
  whole : Tree → Kind
  bare : Kind
  nothing : Kind

-- ---- types of the wide reading

-- C11 6.7.2: the words of which a list names a type, by a number
abbrev pub specifier_number : Token → ℕ
specifier_number (sign_word signed) = 1
specifier_number (sign_word unsigned) = 2
specifier_number (char_word signed) = 3
specifier_number short_word = 4
specifier_number int_word = 5
specifier_number long_word = 6
specifier_number int128_word = 7
specifier_number (type_word float) = 8
specifier_number (type_word double) = 9
specifier_number complex_word = 10
specifier_number (char_word unsigned) = 11
specifier_number x = 0

-- how often the word of this number stands among these
abbrev pub times : ℕ → List Token → ℕ
times n [] = 0
times n (x ∷ xs) = cond (specifier_number x == n) (suc (times n xs)) (times n xs)

-- how often each word stands among these: two lists of words name one type where this is the same
abbrev pub counted : List Token → List ℕ
counted xs =
    times 1 xs ∷ times 2 xs ∷ times 3 xs ∷ times 4 xs ∷ times 5 xs ∷ times 6 xs ∷ times 7 xs ∷ times 8 xs
    ∷ times 9 xs ∷ times 10 xs ∷ times 11 xs ∷ []

-- a complex number is passed as a struct of its two reals (psABI AMD64 3.2.3; AAPCS64 "Arithmetic types"; RISC-V "Hardware Floating-point Calling Convention"; on Microsoft x64 as `_Fcomplex` and `_Dcomplex`, which are structs)
abbrev pub complex_of : Scalar → Tree
complex_of s = struct_of (scalar s ∷ scalar s ∷ [])

-- C11 6.7.2 paragraph 2: the lists of words, each once, and what they name; the words of a list stand in any order. `__int128` is GNU C's.
abbrev pub type_specifiers : List (List Token × Kind)
type_specifiers =
    (char_word signed ∷ [], whole (scalar s8))
    ∷ (char_word unsigned ∷ [], whole (scalar u8))
    ∷ (sign_word signed ∷ char_word signed ∷ [], whole (scalar s8))
    ∷ (sign_word signed ∷ char_word unsigned ∷ [], whole (scalar s8))
    ∷ (sign_word unsigned ∷ char_word signed ∷ [], whole (scalar u8))
    ∷ (sign_word unsigned ∷ char_word unsigned ∷ [], whole (scalar u8))
    ∷ (short_word ∷ [], whole (scalar s16))
    ∷ (sign_word signed ∷ short_word ∷ [], whole (scalar s16))
    ∷ (short_word ∷ int_word ∷ [], whole (scalar s16))
    ∷ (sign_word signed ∷ short_word ∷ int_word ∷ [], whole (scalar s16))
    ∷ (sign_word unsigned ∷ short_word ∷ [], whole (scalar u16))
    ∷ (sign_word unsigned ∷ short_word ∷ int_word ∷ [], whole (scalar u16))
    ∷ (int_word ∷ [], whole (scalar s32))
    ∷ (sign_word signed ∷ [], whole (scalar s32))
    ∷ (sign_word signed ∷ int_word ∷ [], whole (scalar s32))
    ∷ (sign_word unsigned ∷ [], whole (scalar u32))
    ∷ (sign_word unsigned ∷ int_word ∷ [], whole (scalar u32))
    ∷ (long_word ∷ [], whole (scalar s64))
    ∷ (sign_word signed ∷ long_word ∷ [], whole (scalar s64))
    ∷ (long_word ∷ int_word ∷ [], whole (scalar s64))
    ∷ (sign_word signed ∷ long_word ∷ int_word ∷ [], whole (scalar s64))
    ∷ (sign_word unsigned ∷ long_word ∷ [], whole (scalar u64))
    ∷ (sign_word unsigned ∷ long_word ∷ int_word ∷ [], whole (scalar u64))
    ∷ (long_word ∷ long_word ∷ [], whole (scalar s64))
    ∷ (sign_word signed ∷ long_word ∷ long_word ∷ [], whole (scalar s64))
    ∷ (long_word ∷ long_word ∷ int_word ∷ [], whole (scalar s64))
    ∷ (sign_word signed ∷ long_word ∷ long_word ∷ int_word ∷ [], whole (scalar s64))
    ∷ (sign_word unsigned ∷ long_word ∷ long_word ∷ [], whole (scalar u64))
    ∷ (sign_word unsigned ∷ long_word ∷ long_word ∷ int_word ∷ [], whole (scalar u64))
    ∷ (int128_word ∷ [], whole (scalar s128))
    ∷ (sign_word signed ∷ int128_word ∷ [], whole (scalar s128))
    ∷ (sign_word unsigned ∷ int128_word ∷ [], whole (scalar u128))
    ∷ (type_word float ∷ [], whole (scalar float))
    ∷ (type_word double ∷ [], whole (scalar double))
    ∷ (long_word ∷ type_word double ∷ [], whole (left_out long_double))
    ∷ (type_word float ∷ complex_word ∷ [], whole (complex_of float))
    ∷ (type_word double ∷ complex_word ∷ [], whole (complex_of double))
    ∷ (long_word ∷ type_word double ∷ complex_word ∷ [], whole (left_out complex))
    ∷ []

abbrev pub kind_among : List (List Token × Kind) → List ℕ → Option Kind
kind_among [] n = None
kind_among (row ∷ rows) n = cond (bytes_eq n (counted row.0)) (Some row.1) (kind_among rows n)

-- what these words name, in any order
abbrev pub named_by : List Token → Option Kind
named_by ws = kind_among type_specifiers (counted ws)

-- words at the front of tokens
pub data AreSpecifiers : List Token → List Token → List Token → Type 0 where
  no_more_words : {after : List Token} → AreSpecifiers after after []
  a_word : {before after ws : List Token} {x : Token} → 0 < specifier_number x → AreSpecifiers before after ws
      → AreSpecifiers (x ∷ before) after (x ∷ ws)

-- types that headers name (C11 7.18, 7.19, 7.20.1.2, 7.20.1.5; POSIX sys/types.h), where a long has 64 bits
abbrev pub header_types : List (List ℕ × Scalar)
header_types =
    (codes "bool", u8) ∷ (codes "ssize_t", s64) ∷ (codes "ptrdiff_t", s64) ∷ (codes "intmax_t", s64)
    ∷ (codes "uintmax_t", u64) ∷ (codes "int_least8_t", s8) ∷ (codes "int_least16_t", s16)
    ∷ (codes "int_least32_t", s32) ∷ (codes "int_least64_t", s64) ∷ (codes "uint_least8_t", u8)
    ∷ (codes "uint_least16_t", u16) ∷ (codes "uint_least32_t", u32) ∷ (codes "uint_least64_t", u64) ∷ []

abbrev pub kind_of_name_among : List ℕ → List (List ℕ × Scalar) → Kind
kind_of_name_among called [] = bare
kind_of_name_among called (entry ∷ entries) =
    cond (bytes_eq called entry.0) (whole (scalar entry.1)) (kind_of_name_among called entries)

-- what a name means where a type stands: one of these types, or any type, which needs a star
abbrev pub kind_of_name : List ℕ → Kind
kind_of_name called = kind_of_name_among called header_types

-- ---- declarators of the wide reading (C11 6.7.6 and 6.7.7)

-- What a name is, or what stands where one is left out: a value of the base's kind, an array whose elements and number are known, or what is handed as a pointer alone: a function, and any other array (C11 6.7.6.3 paragraphs 7 and 8).
pub data Shape : Type 0 where
  a_value : Kind → Shape
  an_array : Tree → Shape
  handed : Shape

abbrev pub pointer_shape : Shape
pointer_shape = a_value (whole pointer_type)

-- so many of it
abbrev pub array_shape : Shape → ℕ → Shape
array_shape (a_value (whole t)) n = an_array (array_of t n)
array_shape (an_array t) n = an_array (array_of t n)
array_shape s n = handed

-- the type of a parameter, of a member and of a result
abbrev pub passed : Shape → Option Tree
passed (a_value (whole t)) = Some t
passed (a_value k) = None
passed (an_array t) = Some pointer_type
passed handed = Some pointer_type

abbrev pub member_type : Shape → Option Tree
member_type (a_value (whole t)) = Some t
member_type (an_array t) = Some t
member_type s = None

abbrev pub returned : Shape → Option Tree
returned (a_value (whole t)) = Some t
returned (a_value nothing) = Some void
returned s = None

-- Whether a name must be there, as of a member, or may be left out, as of a parameter.
pub data Naming : Type 0 where
  must_be_named : Naming
  may_be_named : Naming

-- Where a name may be left out, brackets begin with a star: a name alone in them might be that of a type (C11 6.7.6.3 paragraph 11), and where it is left out the type of a function is not written.
abbrev pub may_begin : Naming → List Token → Bool
may_begin must_be_named xs = true
may_begin may_be_named (star ∷ xs) = true
may_begin may_be_named (open_round ∷ xs) = true
may_begin may_be_named xs = false

abbrev pub opens_round : List Token → Bool
opens_round (open_round ∷ xs) = true
opens_round xs = false

-- the number of an array by a name, or left open by a "*" (C11 6.7.6.2 paragraph 4)
abbrev pub is_named_bound : Token → Bool
is_named_bound star = true
is_named_bound (name called) = true
is_named_bound x = false

-- the name of a function, in brackets or not, inside so many
pub data IsCalled : ℕ → List Token → List Token → List ℕ → Type 0 where
  the_name : {d : ℕ} {after : List Token} {called : List ℕ} → IsCalled d (name called ∷ after) after called
  in_brackets : {d : ℕ} {before after : List Token} {called : List ℕ} → d < MOST_OPEN
      → IsCalled (suc d) before (close_round ∷ after) called
      → IsCalled d (open_round ∷ before) after called

mutual
  -- a base inside so many open structs, brackets and lists
  pub data IsBase (r : Dialect) : ℕ → List Token → List Token → Kind → Type 0 where
    by_word : {d : ℕ} {after : List Token} {s : Scalar} → IsBase r d (type_word s ∷ after) after (whole (scalar s))
    -- the plain reading wants the words of an integer in their order
    by_size : {d : ℕ} {before after : List Token} {s : Scalar} → r ≡ plain → IsSized signed before after s
        → IsBase r d before after (whole (scalar s))
    by_sign : {d : ℕ} {before after : List Token} {g : Sign} {s : Scalar} → r ≡ plain → IsSigned g before after s
        → IsBase r d (sign_word g ∷ before) after (whole (scalar s))
    a_char : {d : ℕ} {after : List Token} {c : Sign} → r ≡ plain → IsBase r d (char_word c ∷ after) after bare
    -- the wide one takes them in any
    by_specifiers : {d : ℕ} {before after ws : List Token} {k : Kind} → r ≡ wide → AreSpecifiers before after ws
        → named_by ws ≡ Some k
        → IsBase r d before after k
    a_void : {d : ℕ} {after : List Token} → IsBase r d (void_word ∷ after) after nothing
    a_tag : {d : ℕ} {after : List Token} {tag : List ℕ} → IsBase r d (struct_word ∷ name tag ∷ after) after bare
    a_union : {d : ℕ} {after : List Token} {tag : List ℕ} → r ≡ wide
        → IsBase r d (union_word ∷ name tag ∷ after) after bare
    an_enum : {d : ℕ} {after : List Token} {tag : List ℕ} → r ≡ wide
        → IsBase r d (enum_word ∷ name tag ∷ after) after bare
    a_name : {d : ℕ} {after : List Token} {called : List ℕ} {k : Kind} → r ≡ wide → kind_of_name called ≡ k
        → IsBase r d (name called ∷ after) after k
    a_struct : {d : ℕ} {before after : List Token} {ts : List Tree} → d < MOST_OPEN
        → IsMembers r (suc d) before after ts
        → IsBase r d (struct_word ∷ open_curly ∷ before) after (whole (struct_of ts))
    a_tagged_struct : {d : ℕ} {before after : List Token} {tag : List ℕ} {ts : List Tree} → r ≡ wide → d < MOST_OPEN
        → IsMembers r (suc d) before after ts
        → IsBase r d (struct_word ∷ name tag ∷ open_curly ∷ before) after (whole (struct_of ts))

  -- ["const"] base
  pub data IsQualified (r : Dialect) : ℕ → List Token → List Token → Kind → Type 0 where
    unqualified : {d : ℕ} {before after : List Token} {k : Kind} → IsBase r d before after k
        → IsQualified r d before after k
    constant : {d : ℕ} {before after : List Token} {k : Kind} → IsBase r d before after k
        → IsQualified r d (const_word ∷ before) after k

  -- ["const"] base {"*"}
  pub data IsType (r : Dialect) : ℕ → List Token → List Token → Tree → Type 0 where
    itself : {d : ℕ} {before after : List Token} {t : Tree} → IsQualified r d before after (whole t)
        → IsType r d before after t
    pointer_to : {d : ℕ} {before middle after : List Token} {k : Kind}
        → IsQualified r d before middle k → IsStars middle after
        → IsType r d before after pointer_type

  -- {"[" [number | "*" | ident] "]" | "(" parameters ")"} behind a name or a bracket: from the shape outside to that of the name. The first bracket is the outermost array. That no array is of functions and no function returns an array (C11 6.7.6.2 and 6.7.6.3, paragraph 1) is not asked: what is read has a pointer there in any case.
  pub data IsSuffixes (r : Dialect) : ℕ → List Token → List Token → Shape → Shape → Type 0 where
    no_suffix : {d : ℕ} {after : List Token} {s : Shape} → IsSuffixes r d after after s s
    known_array : {d : ℕ} {before after : List Token} {n : ℕ} {s e t : Shape} → IsSuffixes r d before after s e
        → array_shape e n ≡ t
        → IsSuffixes r d (open_square ∷ number n ∷ close_square ∷ before) after s t
    open_array : {d : ℕ} {before after : List Token} {s e : Shape} → IsSuffixes r d before after s e
        → IsSuffixes r d (open_square ∷ close_square ∷ before) after s handed
    named_array : {d : ℕ} {before after : List Token} {x : Token} {s e : Shape} → is_named_bound x ≡ true
        → IsSuffixes r d before after s e
        → IsSuffixes r d (open_square ∷ x ∷ close_square ∷ before) after s handed
    a_list : {d : ℕ} {before middle after : List Token} {s e : Shape} → d < MOST_OPEN
        → IsInnerList r (suc d) before middle → IsSuffixes r d middle after s e
        → IsSuffixes r d (open_round ∷ before) after s handed

  -- {"*"} [ident | "(" declarator ")"] suffixes: in "T D", from the shape of T to that of the name
  pub data IsDeclarator (r : Dialect) : Naming → ℕ → List Token → List Token → Shape → Shape → Type 0 where
    a_pointer : {m : Naming} {d : ℕ} {before after : List Token} {s t : Shape}
        → IsDeclarator r m d before after pointer_shape t
        → IsDeclarator r m d (star ∷ before) after s t
    a_named : {m : Naming} {d : ℕ} {before after : List Token} {called : List ℕ} {s t : Shape}
        → IsSuffixes r d before after s t
        → IsDeclarator r m d (name called ∷ before) after s t
    unnamed : {d : ℕ} {before after : List Token} {s t : Shape} → opens_round before ≡ false
        → IsSuffixes r d before after s t
        → IsDeclarator r may_be_named d before after s t
    in_round : {m : Naming} {d : ℕ} {before middle after : List Token} {s e t : Shape} → may_begin m before ≡ true
        → d < MOST_OPEN → IsDeclarator r m (suc d) before (close_round ∷ middle) e t → IsSuffixes r d middle after s e
        → IsDeclarator r m d (open_round ∷ before) after s t

  -- a parameter of a function that is only pointed to or handed: any type but `void`
  pub data IsInner (r : Dialect) : ℕ → List Token → List Token → Type 0 where
    inner_of : {d : ℕ} {before middle after : List Token} {k : Kind} {s : Shape} → IsQualified r d before middle k
        → IsDeclarator r may_be_named d middle after (a_value k) s → (s ≡ a_value nothing → ⊥)
        → IsInner r d before after

  pub data IsInners (r : Dialect) : ℕ → List Token → List Token → Type 0 where
    last_inner : {d : ℕ} {before after : List Token} → IsInner r d before (close_round ∷ after)
        → IsInners r d before after
    inner_dots : {d : ℕ} {before after : List Token} → IsInner r d before (comma ∷ dots ∷ close_round ∷ after)
        → IsInners r d before after
    next_inner : {d : ℕ} {before middle after : List Token} → IsInner r d before (comma ∷ middle)
        → IsInners r d middle after → IsInners r d before after

  pub data IsInnerList (r : Dialect) : ℕ → List Token → List Token → Type 0 where
    no_inners : {d : ℕ} {after : List Token} → IsInnerList r d (close_round ∷ after) after
    inner_void : {d : ℕ} {after : List Token} → IsInnerList r d (void_word ∷ close_round ∷ after) after
    some_inners : {d : ℕ} {before after : List Token} → IsInners r d before after → IsInnerList r d before after

  -- type ident {"[" number "]"} ";"
  pub data IsMember (r : Dialect) : ℕ → List Token → List Token → Tree → Type 0 where
    a_member : {d : ℕ} {before middle after : List Token} {called : List ℕ} {t m : Tree} → r ≡ plain
        → IsType r d before (name called ∷ middle) t → IsCounts t middle after m
        → IsMember r d before after m

  -- declarators of one base, with commas between and ";" behind; then further members, and "}" (C11 6.7.2.1)
  pub data AreDeclared (r : Dialect) : ℕ → Kind → List Token → List Token → List Tree → Type 0 where
    one_declared : {d : ℕ} {k : Kind} {before after : List Token} {s : Shape} {t : Tree}
        → IsDeclarator r must_be_named d before (semicolon ∷ close_curly ∷ after) (a_value k) s → member_type s ≡ Some t
        → AreDeclared r d k before after (t ∷ [])
    then_members : {d : ℕ} {k : Kind} {before middle after : List Token} {s : Shape} {t : Tree} {ts : List Tree}
        → IsDeclarator r must_be_named d before (semicolon ∷ middle) (a_value k) s → member_type s ≡ Some t
        → IsMembers r d middle after ts
        → AreDeclared r d k before after (t ∷ ts)
    then_declared : {d : ℕ} {k : Kind} {before middle after : List Token} {s : Shape} {t : Tree} {ts : List Tree}
        → IsDeclarator r must_be_named d before (comma ∷ middle) (a_value k) s → member_type s ≡ Some t
        → AreDeclared r d k middle after ts
        → AreDeclared r d k before after (t ∷ ts)

  -- member {member} "}"
  pub data IsMembers (r : Dialect) : ℕ → List Token → List Token → List Tree → Type 0 where
    last_member : {d : ℕ} {before after : List Token} {m : Tree} → IsMember r d before (close_curly ∷ after) m
        → IsMembers r d before after (m ∷ [])
    next_member : {d : ℕ} {before middle after : List Token} {m : Tree} {ms : List Tree}
        → IsMember r d before middle m → IsMembers r d middle after ms
        → IsMembers r d before after (m ∷ ms)
    of_a_base : {d : ℕ} {before middle after : List Token} {k : Kind} {ms : List Tree} → r ≡ wide
        → IsQualified r d before middle k → AreDeclared r d k middle after ms
        → IsMembers r d before after ms

-- type [ident]; in the wide reading a declarator, whose name may be left out, and an array or a function is handed as a pointer
pub data IsParameter (r : Dialect) : List Token → List Token → Tree → Type 0 where
  without_name : {before after : List Token} {t : Tree} → r ≡ plain → IsType r 0 before after t
      → IsParameter r before after t
  with_name : {before after : List Token} {called : List ℕ} {t : Tree} → r ≡ plain
      → IsType r 0 before (name called ∷ after) t
      → IsParameter r before after t
  a_declared_one : {before middle after : List Token} {k : Kind} {s : Shape} {t : Tree} → r ≡ wide
      → IsQualified r 0 before middle k → IsDeclarator r may_be_named 0 middle after (a_value k) s → passed s ≡ Some t
      → IsParameter r before after t

-- Parameters and ")", and how many stand before the dots, where there are any (C11 6.7.6.3). In the wide reading types may stand behind the dots, which is no C: those that a call passes there.
pub data IsParameters (r : Dialect) : List Token → List Token → List Tree → Option ℕ → Type 0 where
  last_parameter : {before after : List Token} {t : Tree} → IsParameter r before (close_round ∷ after) t
      → IsParameters r before after (t ∷ []) None
  last_before_dots : {before after : List Token} {t : Tree}
      → IsParameter r before (comma ∷ dots ∷ close_round ∷ after) t
      → IsParameters r before after (t ∷ []) (Some 1)
  before_types : {before middle after : List Token} {t : Tree} {ts : List Tree} → r ≡ wide
      → IsParameter r before (comma ∷ dots ∷ comma ∷ middle) t → IsParameters r middle after ts None
      → IsParameters r before after (t ∷ ts) (Some 1)
  next_parameter : {before middle after : List Token} {t : Tree} {ts : List Tree} {fixed : Option ℕ}
      → IsParameter r before (comma ∷ middle) t → IsParameters r middle after ts fixed
      → IsParameters r before after (t ∷ ts) (option_map suc fixed)

-- what stands behind "("
pub data IsParameterList (r : Dialect) : List Token → List Token → List Tree → Option ℕ → Type 0 where
  no_parameters : {after : List Token} → IsParameterList r (close_round ∷ after) after [] None
  only_void : {after : List Token} → IsParameterList r (void_word ∷ close_round ∷ after) after [] None
  some_parameters : {before after : List Token} {ts : List Tree} {fixed : Option ℕ}
      → IsParameters r before after ts fixed
      → IsParameterList r before after ts fixed

-- a type, or `void`
pub data IsResult (r : Dialect) : List Token → List Token → Tree → Type 0 where
  a_result : {before after : List Token} {t : Tree} → IsType r 0 before after t → IsResult r before after t
  no_result : {before after : List Token} → IsQualified r 0 before after nothing → IsResult r before after void

-- what a function's declarator says of it
pub record Function : Type 0 where
  pub called : List ℕ
  pub result_type : Tree
  pub parameters : List Tree
  pub fixed : Option ℕ

-- The declarator of a function: its name and its parameters, and round them what its result is (C11 6.7.6.3); of a base or of what stands outside of this shape.
pub data IsFunction (r : Dialect) (f : Function) : ℕ → List Token → List Token → Shape → Type 0 where
  returns_pointer : {d : ℕ} {before after : List Token} {s : Shape} → IsFunction r f d before after pointer_shape
      → IsFunction r f d (star ∷ before) after s
  a_function_here : {d : ℕ} {before middle after : List Token} {s : Shape}
      → IsCalled d before (open_round ∷ middle) f.called → returned s ≡ Some f.result_type
      → IsParameterList r middle after f.parameters f.fixed
      → IsFunction r f d before after s
  a_function_inside : {d : ℕ} {before middle after : List Token} {s e : Shape} → d < MOST_OPEN
      → IsFunction r f (suc d) before (close_round ∷ middle) e → IsSuffixes r d middle after s e
      → IsFunction r f d (open_round ∷ before) after s

-- [";"]
pub data IsEnd : List Token → Type 0 where
  no_semicolon : IsEnd []
  one_semicolon : IsEnd (semicolon ∷ [])

-- a function's name and its signature
pub record Declaration : Type 0 where
  pub called : List ℕ
  pub signature : Signature

abbrev pub declaration_code : Coded Declaration
declaration_code =
    code_by (List ℕ × Signature)
    (coded× (coded_list coded_ℕ) signature_code)
    (λ d. (d.called, d.signature))
    (λ p. record { called = p.0; signature = p.1 })
    (λ _. refl)

abbrev pub declared : List ℕ → Tree → List Tree → Option ℕ → Declaration
declared called result ts fixed =
    record { called = called; signature = record { result_type = result; arguments = ts; fixed = fixed } }

-- the tokens declare a function, in this reading
pub data IsDeclarationIn (r : Dialect) : List Token → Declaration → Type 0 where
  declares : {before middle after : List Token} {called : List ℕ} {result : Tree} {ts : List Tree} {fixed : Option ℕ}
      → r ≡ plain → IsResult r before (name called ∷ open_round ∷ middle) result
      → IsParameterList r middle after ts fixed → IsEnd after
      → IsDeclarationIn r before (declared called result ts fixed)
  declares_by : {before middle after : List Token} {k : Kind} {f : Function} → r ≡ wide
      → IsQualified r 0 before middle k → IsFunction r f 0 middle after (a_value k) → IsEnd after
      → IsDeclarationIn r before (declared f.called f.result_type f.parameters f.fixed)

abbrev pub IsDeclaration : List Token → Declaration → Type 0
IsDeclaration ts d = IsDeclarationIn plain ts d
