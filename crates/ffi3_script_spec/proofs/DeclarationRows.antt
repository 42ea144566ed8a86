-- C declarations in place of signatures, which version 2 of the language has: what they are read as, and why not.
use Rattle.std.specs.Prelude.{◌≡◌, ℕ, List, [], codes, refl}
use Rattle.ffi3_type_spec.specs.Signature.{signature_at}
use Rattle.ffi3_type_spec.specs.Text.{signature_text}
use Rattle.ffi3_script_spec.proofs.RowForms.{scripts_on_literals, last, reads, script_in, versioned_text, of_signature, of_signature_in_2}

-- the text of the first signature of a script of version 2
abbrev is_signature_in_2 : List ℕ → List ℕ
is_signature_in_2 signature =
    signature_text (signature_at (script_in (reads (versioned_text (codes "2") signature [] last))).signatures 0)

-- ---- what is read

variadic : is_signature_in_2 (codes "'int printf(const char *fmt, ...);'") ≡ codes "sint32(pointer;)"
unfolding scripts_on_literals
variadic = refl

struct-argument : is_signature_in_2 (codes "'void g(struct { unsigned char a[3]; float b; } s)'") ≡ codes "void(struct{uint8[3],float})"
unfolding scripts_on_literals
struct-argument = refl

wide : is_signature_in_2 (codes "'unsigned __int128 f(void)'") ≡ codes "uint128()"
unfolding scripts_on_literals
wide = refl

beside-an-object : of_signature_in_2 (codes "'int f(void)',{'ret':'int','args':[]}") ≡ codes "/signatures/1/ret: unknown type"
unfolding scripts_on_literals
beside-an-object = refl

-- ---- version 1 has none

in-version-1 : of_signature (codes "'int f(void);'") ≡ codes "/signatures/0: not an object"
unfolding scripts_on_literals
in-version-1 = refl

faulty-in-version-1 : of_signature (codes "'$'") ≡ codes "/signatures/0: not an object"
unfolding scripts_on_literals
faulty-in-version-1 = refl

not-a-text : of_signature_in_2 (codes "['int f(void);']") ≡ codes "/signatures/0: not an object"
unfolding scripts_on_literals
not-a-text = refl

-- ---- faults of token, grammar and number

empty : of_signature_in_2 (codes "''") ≡ codes "/signatures/0: bad declaration at 0"
unfolding scripts_on_literals
empty = refl

bad-token : of_signature_in_2 (codes "'int int $'") ≡ codes "/signatures/0: bad declaration at 8"
unfolding scripts_on_literals
bad-token = refl

unexpected : of_signature_in_2 (codes "'int f(char);'") ≡ codes "/signatures/0: bad declaration at 10"
unfolding scripts_on_literals
unexpected = refl

not-closed : of_signature_in_2 (codes "'int f(void'") ≡ codes "/signatures/0: bad declaration at 10"
unfolding scripts_on_literals
not-closed = refl

bad-number : of_signature_in_2 (codes "'void f(struct { int8_t a[4294967296]; } s);'") ≡ codes "/signatures/0: bad declaration at 25"
unfolding scripts_on_literals
bad-number = refl

-- an escape of JSON is the byte that it stands for
escaped : of_signature_in_2 (codes "'int\\u0020f(char);'") ≡ codes "/signatures/0: bad declaration at 10"
unfolding scripts_on_literals
escaped = refl

name-of-a-type : of_signature_in_2 (codes "'sint32'") ≡ codes "/signatures/0: bad declaration at 0"
unfolding scripts_on_literals
name-of-a-type = refl

-- ---- faults of the signature, behind these

count-of-none : of_signature_in_2 (codes "'void f(struct{int8_t a[0];}s)'") ≡ codes "/signatures/0: bad typedef"
unfolding scripts_on_literals
count-of-none = refl

large : of_signature_in_2 (codes "'struct{int8_t a; int8_t b[4096];} f()'") ≡ codes "/signatures/0: too large: 4097"
unfolding scripts_on_literals
large = refl

dots-behind-none : of_signature_in_2 (codes "'int f(...)'") ≡ codes "/signatures/0: bad declaration at 6"
unfolding scripts_on_literals
dots-behind-none = refl

second : of_signature_in_2 (codes "'int f(void)','int f(char)'") ≡ codes "/signatures/1: bad declaration at 10"
unfolding scripts_on_literals
second = refl
