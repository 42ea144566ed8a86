-- What is told of texts that are no declarations of the wide reading, in words.
use Rattle.std.proofs.Common.{◌≡◌, refl}
use Rattle.std.specs.Prelude.{codes, [], ◌∷◌, ◌++◌}
use Rattle.ffi3_cdecl_spec.specs.Tokens.{signed}
use Rattle.ffi3_cdecl_spec.specs.Telling.{tell}
use Rattle.ffi3_diagnostics_spec.specs.ToldText.{told_words, lines_at}

a_file : told_words (codes "int f(FILE x)") 12 (tell signed (codes "int f(FILE x)") 12) ≡ codes "unexpected ')': FILE is no type that is known here: write the type that it stands for, or a pointer"
a_file = refl

a_wide_character : told_words (codes "wchar_t f(void)") 8 (tell signed (codes "wchar_t f(void)") 8) ≡ codes "unexpected 'f': wchar_t is another type on each machine: write int, unsigned int or unsigned short"
a_wide_character = refl

an_attribute : told_words (codes "int f(int) __attribute__((ms_abi));") 11 (tell signed (codes "int f(int) __attribute__((ms_abi));") 11) ≡ codes "unexpected '__attribute__((ms_abi))': an attribute that may change how a value is passed"
an_attribute = refl

an_attribute_of_47_bytes : told_words (codes "int f(int) __attribute__((ms_abi, ms_abi, ms_abi, ms_abi))") 11 (tell signed (codes "int f(int) __attribute__((ms_abi, ms_abi, ms_abi, ms_abi))") 11) ≡ codes "unexpected '__attribute__((ms_abi, ms_abi, ms_abi, m': an attribute that may change how a value is passed"
an_attribute_of_47_bytes = refl

a_keyword : told_words (codes "typedef int f(void)") 0 (tell signed (codes "typedef int f(void)") 0) ≡ codes "unexpected 'typedef': a keyword that is not read here"
a_keyword = refl

a_struct : told_words (codes "int f(struct point p)") 20 (tell signed (codes "int f(struct point p)") 20) ≡ codes "unexpected ')': struct point has no members here: write them behind the tag, in { }, or a pointer"
a_struct = refl

a_union : told_words (codes "int f(union u x)") 15 (tell signed (codes "int f(union u x)") 15) ≡ codes "unexpected ')': union u by value is not read"
a_union = refl

an_enum : told_words (codes "int f(enum e x)") 14 (tell signed (codes "int f(enum e x)") 14) ≡ codes "unexpected ')': enum e is the type that its compiler chose: write int or unsigned int"
an_enum = refl

a_word_more : told_words (codes "_Complex f(void)") 9 (tell signed (codes "_Complex f(void)") 9) ≡ codes "unexpected 'f', expected a further word of the type"
a_word_more = refl

in_a_struct : told_words (codes "struct { int a; ,") 16 (tell signed (codes "struct { int a; ,") 16) ≡ codes "unexpected ',', expected a type or '}'"
in_a_struct = refl

no_reason : told_words (codes "int f(,)") 6 (tell signed (codes "int f(,)") 6) ≡ codes "unexpected ',', expected a type or ')'"
no_reason = refl

too_short : told_words (codes "int f(int x") 11 (tell signed (codes "int f(int x") 11) ≡ codes "unexpected end, expected ')', ',', '(' or '['"
too_short = refl

nothing_at_all : told_words (codes "") 0 (tell signed (codes "") 0) ≡ codes "unexpected end, expected a type"
nothing_at_all = refl

-- ---- lines

in_one_line : lines_at (codes "int f(FILE x)") 12 ≡ codes "int f(FILE x)\n            ^\n"
in_one_line = refl

in_the_second : lines_at (codes "int f(int a,\n\tFILE b)\n;") 20 ≡ codes " FILE b)\n       ^\n"
in_the_second = refl

-- behind what stands before the blanks at the end
at_the_end : lines_at (codes "int f(int\n\n") 11 ≡ codes "int f(int\n         ^\n"
at_the_end = refl

-- a character of UTF-8 has one blank below it
of_two_bytes : lines_at (codes "/*" ++ (195 ∷ 169 ∷ codes "*/ f(,)")) 9 ≡ codes "/*" ++ (195 ∷ 169 ∷ codes "*/ f(,)\n        ^\n")
of_two_bytes = refl

-- a carriage return, and the last control character of ASCII
of_a_carriage_return : lines_at (codes "f(,)" ++ (13 ∷ 10 ∷ [])) 2 ≡ codes "f(,) \n  ^\n"
of_a_carriage_return = refl

of_a_control_character : lines_at (127 ∷ codes "f") 1 ≡ codes " f\n ^\n"
of_a_control_character = refl

of_nothing : lines_at (codes "\n") 1 ≡ codes "\n^\n"
of_nothing = refl
