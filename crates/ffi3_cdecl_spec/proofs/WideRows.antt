-- What texts are read as in the wide reading, where `char` is signed or not.
use Rattle.std.proofs.Common.{◌≡◌, [], ◌∷◌, ◌++◌, Some, None, refl}
use Rattle.std.specs.Prelude.{codes}
use Rattle.ffi3_type_spec.specs.Layout.{least_multiple}
use Rattle.ffi3_type_spec.specs.Tree.{u8, s8, s32, s64, u64, u128, float, double, pointer, void, scalar, struct_of, array_of}
use Rattle.ffi3_cdecl_spec.specs.Tokens.{wide, signed, unsigned}
use Rattle.ffi3_cdecl_spec.specs.Reading.{reads, bad_token, unexpected}
use Rattle.ffi3_cdecl_spec.specs.Machine.{read_in}

read_call : read_in wide signed (codes "ssize_t read(int fd, void *buf, size_t count);") ≡ reads (record { called = codes "read"; signature = record { result_type = scalar s64; arguments = scalar s32 ∷ scalar pointer ∷ scalar u64 ∷ []; fixed = None } })
read_call = refl

fopen : read_in wide signed (codes "FILE *fopen(const char *restrict path, const char *restrict mode);") ≡ reads (record { called = codes "fopen"; signature = record { result_type = scalar pointer; arguments = scalar pointer ∷ scalar pointer ∷ []; fixed = None } })
fopen = refl

qsort : read_in wide signed (codes "void qsort(void *base, size_t n, size_t size, int (*compare)(const void *, const void *));") ≡ reads (record { called = codes "qsort"; signature = record { result_type = void; arguments = scalar pointer ∷ scalar u64 ∷ scalar u64 ∷ scalar pointer ∷ []; fixed = None } })
qsort = refl

pthread_create : read_in wide signed (codes "int pthread_create(pthread_t *restrict thread, const pthread_attr_t *restrict attr, void *(*start)(void *), void *restrict arg);") ≡ reads (record { called = codes "pthread_create"; signature = record { result_type = scalar s32; arguments = scalar pointer ∷ scalar pointer ∷ scalar pointer ∷ scalar pointer ∷ []; fixed = None } })
pthread_create = refl

signal : read_in wide signed (codes "void (*signal(int sig, void (*func)(int)))(int);") ≡ reads (record { called = codes "signal"; signature = record { result_type = scalar pointer; arguments = scalar s32 ∷ scalar pointer ∷ []; fixed = None } })
signal = refl

cabs : read_in wide signed (codes "double cabs(double _Complex z)") ≡ reads (record { called = codes "cabs"; signature = record { result_type = scalar double; arguments = struct_of (scalar double ∷ scalar double ∷ []) ∷ []; fixed = None } })
unfolding least_multiple
cabs = refl

types_behind_dots : read_in wide signed (codes "int printf(const char *, ..., int, double)") ≡ reads (record { called = codes "printf"; signature = record { result_type = scalar s32; arguments = scalar pointer ∷ scalar s32 ∷ scalar double ∷ []; fixed = Some 1 } })
types_behind_dots = refl

signed_char : read_in wide signed (codes "char f(char c, unsigned char d)") ≡ reads (record { called = codes "f"; signature = record { result_type = scalar s8; arguments = scalar s8 ∷ scalar u8 ∷ []; fixed = None } })
signed_char = refl

unsigned_char : read_in wide unsigned (codes "char f(char c, char signed d)") ≡ reads (record { called = codes "f"; signature = record { result_type = scalar u8; arguments = scalar u8 ∷ scalar s8 ∷ []; fixed = None } })
unsigned_char = refl

members : read_in wide signed (codes "void g(struct point { float x, *y, z[2]; } p);") ≡ reads (record { called = codes "g"; signature = record { result_type = void; arguments = struct_of (scalar float ∷ scalar pointer ∷ array_of (scalar float) 2 ∷ []) ∷ []; fixed = None } })
unfolding least_multiple
members = refl

handed_as_pointers : read_in wide signed (codes "int f(int a[], char (*)[3], double m[3][3], int b[static 4], void cb(int))") ≡ reads (record { called = codes "f"; signature = record { result_type = scalar s32; arguments = scalar pointer ∷ scalar pointer ∷ scalar pointer ∷ scalar pointer ∷ scalar pointer ∷ []; fixed = None } })
handed_as_pointers = refl

in_brackets : read_in wide signed (codes "long unsigned (f)(int (*x)); // a name in brackets") ≡ reads (record { called = codes "f"; signature = record { result_type = scalar u64; arguments = scalar pointer ∷ []; fixed = None } })
in_brackets = refl

keyword : read_in wide signed (codes "int f(int while)") ≡ unexpected 10
keyword = refl

named_void : read_in wide signed (codes "int f(void x)") ≡ unexpected 12
named_void = refl

attributes : read_in wide signed (codes "int f(int x) __attribute__ ((__nothrow__, nonnull (1, 2))) __asm__(" ++ (34 ∷ (codes "g(" ++ (34 ∷ codes ");")))) ≡ reads (record { called = codes "f"; signature = record { result_type = scalar s32; arguments = scalar s32 ∷ []; fixed = None } })
attributes = refl

telling_attribute : read_in wide signed (codes "int f(int x) __attribute__((pure, ms_abi));") ≡ unexpected 13
telling_attribute = refl

-- GNU C's spellings
gnu_spellings : read_in wide signed (codes "__extension__ __inline__ __const char *f(__volatile__ int, __signed char, char __signed__, const char *__restrict__)") ≡ reads (record { called = codes "f"; signature = record { result_type = scalar pointer; arguments = scalar s32 ∷ scalar s8 ∷ scalar s8 ∷ scalar pointer ∷ []; fixed = None } })
gnu_spellings = refl

gnu_complex : read_in wide signed (codes "double f(__complex__ float, double __complex)") ≡ reads (record { called = codes "f"; signature = record { result_type = scalar double; arguments = struct_of (scalar float ∷ scalar float ∷ []) ∷ struct_of (scalar double ∷ scalar double ∷ []) ∷ []; fixed = None } })
unfolding least_multiple
gnu_complex = refl

-- the macro of complex.h
complex_of_the_header : read_in wide signed (codes "double cabs(double complex z)") ≡ reads (record { called = codes "cabs"; signature = record { result_type = scalar double; arguments = struct_of (scalar double ∷ scalar double ∷ []) ∷ []; fixed = None } })
unfolding least_multiple
complex_of_the_header = refl

-- words that stand in a type are never names
type_of : read_in wide signed (codes "int f(typeof(*x))") ≡ unexpected 6
type_of = refl

gnu_type_of : read_in wide signed (codes "int f(__typeof__(*x))") ≡ unexpected 6
gnu_type_of = refl

bit_int : read_in wide signed (codes "int f(unsigned _BitInt(n))") ≡ unexpected 15
bit_int = refl

microsofts_int64 : read_in wide signed (codes "int f(unsigned __int64)") ≡ unexpected 15
microsofts_int64 = refl

atomic : read_in wide signed (codes "int f(_Atomic(int) x)") ≡ unexpected 6
atomic = refl

alignas_in_a_parameter : read_in wide signed (codes "int f(_Alignas(8) int x)") ≡ unexpected 6
alignas_in_a_parameter = refl

assembler_without_bracket : read_in wide signed (codes "int f(int __asm__)") ≡ unexpected 10
assembler_without_bracket = refl

assembler_and_qualifier : read_in wide signed (codes "__asm__ volatile (" ++ (34 ∷ (codes "nop" ++ (34 ∷ (codes ");"))))) ≡ bad_token 18
assembler_and_qualifier = refl

-- a line that ends in a backslash goes on in the next
spliced_line : read_in wide signed (codes "int f(int); // not " ++ (92 ∷ (10 ∷ (codes " g(int);" ++ (10 ∷ (codes " ")))))) ≡ reads (record { called = codes "f"; signature = record { result_type = scalar s32; arguments = scalar s32 ∷ []; fixed = None } })
spliced_line = refl

spliced_with_blanks : read_in wide signed (codes "int f( // a " ++ (92 ∷ (32 ∷ (13 ∷ (10 ∷ (codes " long" ++ (10 ∷ (codes " int)")))))))) ≡ reads (record { called = codes "f"; signature = record { result_type = scalar s32; arguments = scalar s32 ∷ []; fixed = None } })
spliced_with_blanks = refl

line_that_ends : read_in wide signed (codes "int f( // a " ++ (92 ∷ (codes " b" ++ (10 ∷ (codes " int)"))))) ≡ reads (record { called = codes "f"; signature = record { result_type = scalar s32; arguments = scalar s32 ∷ []; fixed = None } })
line_that_ends = refl

-- the mark that closes a comment may be spliced
spliced_mark : read_in wide signed (codes "int f(/* a *" ++ (92 ∷ (10 ∷ (92 ∷ (32 ∷ (10 ∷ (codes "/ int)"))))))) ≡ reads (record { called = codes "f"; signature = record { result_type = scalar s32; arguments = scalar s32 ∷ []; fixed = None } })
spliced_mark = refl

no_mark : read_in wide signed (codes "int f(/* a *" ++ (92 ∷ (codes " / int)"))) ≡ bad_token 6
no_mark = refl

-- elsewhere a line is not spliced
spliced_elsewhere : read_in wide signed (codes "int " ++ (92 ∷ (10 ∷ (codes " f(int)")))) ≡ bad_token 4
spliced_elsewhere = refl

-- a bracket that may hide another is not read
comment_in_an_attribute : read_in wide signed (codes "int __attribute__((nothrow /* )) *//**/ )) f(int)") ≡ bad_token 4
comment_in_an_attribute = refl

quote_in_an_attribute : read_in wide signed (codes "int f(int) __asm__(" ++ (34 ∷ (codes "g" ++ (34 ∷ (codes " '(' );"))))) ≡ bad_token 11
quote_in_an_attribute = refl

line_in_quotes : read_in wide signed (codes "int f(int) __asm__(" ++ (34 ∷ (codes "g" ++ (92 ∷ (92 ∷ (10 ∷ (34 ∷ (codes ");")))))))) ≡ bad_token 11
line_in_quotes = refl

-- numbers of arrays that are names, or open
numbers_of_arrays : read_in wide signed (codes "void f(int n, int a[n], int [*], int b[static n], int c[restrict 3], int d[const *], int e[n][3])") ≡ reads (record { called = codes "f"; signature = record { result_type = void; arguments = scalar s32 ∷ scalar pointer ∷ scalar pointer ∷ scalar pointer ∷ scalar pointer ∷ scalar pointer ∷ scalar pointer ∷ []; fixed = None } })
numbers_of_arrays = refl

sum_as_a_number : read_in wide signed (codes "void f(int a[n + 1])") ≡ bad_token 15
sum_as_a_number = refl

product_as_a_number : read_in wide signed (codes "void f(int a[2 * n])") ≡ unexpected 15
product_as_a_number = refl

-- a member's number is told
number_of_a_member : read_in wide signed (codes "void f(struct { int a[n]; } *p)") ≡ unexpected 22
number_of_a_member = refl

member_that_points : read_in wide signed (codes "void f(struct { int (*a)[n]; } p)") ≡ reads (record { called = codes "f"; signature = record { result_type = void; arguments = struct_of (scalar pointer ∷ []) ∷ []; fixed = None } })
unfolding least_multiple
member_that_points = refl

-- brackets in a parameter begin with a star
types_in_brackets : read_in wide signed (codes "int f(int (x))") ≡ unexpected 11
types_in_brackets = refl

type_and_star_in_brackets : read_in wide signed (codes "int f(int (T *))") ≡ unexpected 11
type_and_star_in_brackets = refl

bracket_in_a_bracket : read_in wide signed (codes "int f(int (*(x)))") ≡ unexpected 13
bracket_in_a_bracket = refl

list_behind_brackets : read_in wide signed (codes "int f(int (*)(x), int (*g)(T *))") ≡ reads (record { called = codes "f"; signature = record { result_type = scalar s32; arguments = scalar pointer ∷ scalar pointer ∷ []; fixed = None } })
list_behind_brackets = refl

name_and_a_list : read_in wide signed (codes "int f(T (x))") ≡ unexpected 9
name_and_a_list = refl

-- words that name no type together
complex_alone : read_in wide signed (codes "double f(_Complex z)") ≡ unexpected 18
complex_alone = refl

long_long_double : read_in wide signed (codes "int f(long long double x)") ≡ unexpected 16
long_long_double = refl

short_char : read_in wide signed (codes "int f(short char x)") ≡ unexpected 12
short_char = refl

comment_in_quotes : read_in wide signed (codes "int f(int) __asm__(" ++ (34 ∷ (codes "a" ++ (34 ∷ (codes " /* " ++ (34 ∷ (codes " */)"))))))) ≡ bad_token 11
comment_in_quotes = refl

bracket_in_a_comment : read_in wide signed (codes "int f(int) __attribute__((nonnull /* ) */))") ≡ bad_token 11
bracket_in_a_comment = refl

character_in_quotes : read_in wide signed (codes "int f(int) __attribute__((deprecated(')')))") ≡ bad_token 11
character_in_quotes = refl

gnu_int128 : read_in wide signed (codes "int f(unsigned __int128__)") ≡ reads (record { called = codes "f"; signature = record { result_type = scalar s32; arguments = scalar u128 ∷ []; fixed = None } })
gnu_int128 = refl

microsofts_other_int64 : read_in wide signed (codes "int f(unsigned _int64)") ≡ unexpected 15
microsofts_other_int64 = refl

fixed_point : read_in wide signed (codes "int f(unsigned long _Accum)") ≡ unexpected 20
fixed_point = refl

-- a name for the assembler is a string
assembler_as_a_name : read_in wide signed (codes "int f(int asm(int))") ≡ unexpected 10
assembler_as_a_name = refl

raw_name : read_in wide signed (codes "int f(int) __asm__(R" ++ (34 ∷ (codes "(g)" ++ (34 ∷ (codes ")"))))) ≡ bad_token 11
raw_name = refl

raw_behind_a_name : read_in wide signed (codes "int f(int) __asm__( " ++ (34 ∷ (codes "g" ++ (34 ∷ (codes " R" ++ (34 ∷ (codes "(g)" ++ (34 ∷ (codes ")"))))))))) ≡ bad_token 11
raw_behind_a_name = refl
