-- What texts are read as.
use Rattle.std.proofs.Common.{◌≡◌, [], ◌∷◌, Some, None, refl}
use Rattle.std.specs.Prelude.{codes}
use Rattle.ffi3_type_spec.specs.Layout.{least_multiple}
use Rattle.ffi3_type_spec.specs.Fault.{bad_typedef, too_large, too_deep}
use Rattle.ffi3_type_spec.specs.Signature.{bad_type, at_argument, at_result, too_many}
use Rattle.ffi3_type_spec.specs.Tree.{u8, s8, s32, s64, u128, float, pointer, void, scalar, struct_of, array_of}
use Rattle.ffi3_cdecl_spec.specs.Reading.{reads, bad_token, unexpected, bad_number, bad_signature}
use Rattle.ffi3_cdecl_spec.specs.Machine.{read}
use Rattle.std.specs.Fmt.{digits}
use Rattle.ffi3_cdecl_spec.specs.Canonical.{declaration_text}

printf : read (codes "int printf(const char *fmt, ...);") ≡ reads (record { called = codes "printf"; signature = record { result_type = scalar s32; arguments = scalar pointer ∷ []; fixed = Some 1 } })
printf = refl

struct_argument : read (codes "void g(struct { unsigned char a[3]; float b; } s)") ≡ reads (record { called = codes "g"; signature = record { result_type = void; arguments = struct_of (array_of (scalar u8) 3 ∷ scalar float ∷ []) ∷ []; fixed = None } })
unfolding least_multiple
struct_argument = refl

lone_char : read (codes "int f(char);") ≡ unexpected 10
lone_char = refl

empty : read [] ≡ unexpected 0
empty = refl

behind_void : read (codes "int f(void, int)") ≡ unexpected 10
behind_void = refl

behind_comma : read (codes "int f(int,)") ≡ unexpected 10
behind_comma = refl

not_closed : read (codes "int f(void") ≡ unexpected 10
not_closed = refl

array_parameter : read (codes "int f(int[3])") ≡ unexpected 9
array_parameter = refl

dots_alone : read (codes "int f(...)") ≡ unexpected 6
dots_alone = refl

void_named : read (codes "void f(void x)") ≡ unexpected 12
void_named = refl

two_semicolons : read (codes "int f(void);;") ≡ unexpected 12
two_semicolons = refl

void_second : read (codes "int f(int, void)") ≡ unexpected 15
void_second = refl

token_first : read (codes "int int $") ≡ bad_token 8
token_first = refl

great_number : read (codes "void f(struct { int8_t a[4294967296]; } s);") ≡ bad_number 25
great_number = refl

great_number-open : read (codes "void f(struct { int8_t a[4294967296]; } s") ≡ unexpected 41
great_number-open = refl

long_long : read (codes "long long int f()") ≡ reads (record { called = codes "f"; signature = record { result_type = scalar s64; arguments = []; fixed = None } })
long_long = refl

unsigned_int128 : read (codes "unsigned __int128 f(void)") ≡ reads (record { called = codes "f"; signature = record { result_type = scalar u128; arguments = []; fixed = None } })
unsigned_int128 = refl

struct_pointer : read (codes "struct s *f(const char *, ...)") ≡ reads (record { called = codes "f"; signature = record { result_type = scalar pointer; arguments = scalar pointer ∷ []; fixed = Some 1 } })
struct_pointer = refl

outermost_first : read (codes "void f(struct{int8_t a[2][3];}s)") ≡ reads (record { called = codes "f"; signature = record { result_type = void; arguments = struct_of (array_of (array_of (scalar s8) 3) 2 ∷ []) ∷ []; fixed = None } })
unfolding least_multiple
outermost_first = refl

const_void_argument : read (codes "f(const void)") ≡ unexpected 0
const_void_argument = refl

const_void : read (codes "void f(const void)") ≡ unexpected 17
const_void = refl

const_void_result : read (codes "const void f()") ≡ reads (record { called = codes "f"; signature = record { result_type = void; arguments = []; fixed = None } })
const_void_result = refl

octal : read (codes "void f(struct { char *a[012]; } s)") ≡ bad_token 24
octal = refl

four_dots : read (codes "void f(int, ....)") ≡ bad_token 15
four_dots = refl

-- 16 open structs are taken, and no more
sixteen : read (codes "void f(struct{struct{struct{struct{struct{struct{struct{struct{struct{struct{struct{struct{struct{struct{struct{struct{struct{") ≡ unexpected 125
sixteen = refl

declaration_and_half : read (codes "int f(void); int g") ≡ unexpected 13
declaration_and_half = refl

-- ---- faults of the signature, behind all that is wrong with tokens and numbers

char_member : read (codes "void f(struct{char a[0];}s)") ≡ unexpected 19
char_member = refl

count_of_none : read (codes "void f(struct{int8_t a[0];}s)") ≡ bad_signature (bad_type (at_argument 0) (0 ∷ []) bad_typedef)
count_of_none = refl

large_struct : read (codes "struct{int8_t a; int8_t b[4096];} f()") ≡ bad_signature (bad_type at_result [] (too_large 4097))
unfolding least_multiple
large_struct = refl

-- arrays count here, and not where structs are open
seventeen_levels : read (codes "void f(int, struct{int8_t a[1][1][1][1][1][1][1][1][1][1][1][1][1][1][1][1];}s)") ≡ bad_signature (bad_type (at_argument 1) (0 ∷ 0 ∷ 0 ∷ 0 ∷ 0 ∷ 0 ∷ 0 ∷ 0 ∷ 0 ∷ 0 ∷ 0 ∷ 0 ∷ 0 ∷ 0 ∷ 0 ∷ 0 ∷ []) too_deep)
seventeen_levels = refl

many_parameters : read (codes "void f(int,int,int,int,int,int,int,int,int,int,int,int,int,int,int,int,int,int,int,int,int,int,int,int,int,int,int,int,int,int,int,int,int,int,int,int,int,int,int,int,int,int,int,int,int,int,int,int,int,int,int,int,int,int,int,int,int,int,int,int,int,int,int,int,int)") ≡ bad_signature (too_many 65)
many_parameters = refl

number_before_signature : read (codes "void f(struct{int8_t a[0]; int8_t b[4294967296];}s)") ≡ bad_number 36
number_before_signature = refl

-- ---- canonical texts

printf-text : declaration_text (codes "printf") (record { result_type = scalar s32; arguments = scalar pointer ∷ []; fixed = Some 1 }) ≡ codes "int32_t printf(void *, ...);"
printf-text = refl

pointer_result-text : declaration_text (codes "f") (record { result_type = scalar pointer; arguments = []; fixed = None }) ≡ codes "void * f(void);"
pointer_result-text = refl

struct-text : declaration_text (codes "g") (record { result_type = void; arguments = struct_of (array_of (scalar u8) 3 ∷ scalar float ∷ []) ∷ []; fixed = None }) ≡ codes "void g(struct { uint8_t m0[3]; float m1; });"
unfolding digits
struct-text = refl

wide-text : declaration_text (codes "f") (record { result_type = scalar u128; arguments = struct_of (array_of (array_of (scalar s8) 3) 2 ∷ []) ∷ []; fixed = None }) ≡ codes "unsigned __int128 f(struct { int8_t m0[2][3]; });"
unfolding digits
wide-text = refl
