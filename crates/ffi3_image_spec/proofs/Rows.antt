-- What inputs are answered with, computed from their JSON text. An apostrophe stands for a quotation mark.
use Rattle.std.specs.Prelude.{◌≡◌, ℕ, zero, suc, ◌==◌, List, [], ◌++◌, Option, Some, None, cond, map, codes, refl, ⊤}
use Rattle.std.specs.Fmt.{digits}
use Rattle.hex.proofs.OnLiterals.{hex_on_literals}
use Rattle.serde_json.proofs.OnLiterals.{serde_json_on_literals}
use Rattle.serde_json.specs.Data.{Data}
use Rattle.serde_json.specs.Read as json
use Rattle.ffi3_type_spec.specs.Layout.{least_multiple}
use Rattle.ffi3_type_spec.specs.Names.{type_named}
use Rattle.ffi3_semantics_spec.specs.Lines.{a_line}
use Rattle.ffi3_image_spec.specs.declared.Question.{Question}
use Rattle.ffi3_image_spec.specs.declared.Question.TheVariants.{Explained, ByStandard}
use Rattle.ffi3_image_spec.specs.Input.{Input, not_json, read_for}
use Rattle.ffi3_image_spec.specs.Answer.{Answer, text, refusal, answer_to}
use Rattle.ffi3_image_spec.proofs.Inputs.{input_of}

-- what a row unfolds to compute an answer
unfoldable images_on_literals : ⊤
unfolding serde_json_on_literals hex_on_literals digits type_named least_multiple
images_on_literals = tt

abbrev quoted : List ℕ → List ℕ
quoted written = map (λ b. cond (b == 39) 34 b) written

abbrev input_by : Question → Option Data → Input
input_by question (Some d) = input_of (read_for question d)
input_by question None = not_json

abbrev answers : Question → List ℕ → Answer
answers question written = answer_to question (input_by question (json.read (quoted written)))

abbrev says : List ℕ → Answer
says line = text (a_line line)

abbrev refuses : List ℕ → Answer
refuses line = refusal (a_line (codes "ffi3: " ++ line))

-- ---- objects

abbrev zeros : ℕ → List ℕ
zeros zero = []
zeros (suc n) = codes ",'0000000000000000'" ++ zeros n

-- 32 registers, which are 0 but for one
abbrev registers : (before : ℕ) → (one : List ℕ) → (after : ℕ) → List ℕ
registers before one after =
    codes "['0000000000000000'" ++ zeros before ++ codes ",'" ++ one ++ codes "'" ++ zeros after ++ codes "]"

abbrev all_zeros : List ℕ
all_zeros = codes "['0000000000000000'" ++ zeros 31 ++ codes "]"

abbrev object : (target sig sp general floating stack : List ℕ) → List ℕ
object target sig sp general floating stack =
    codes "{'target':'" ++ target ++ codes "','sig':" ++ sig ++ codes ",'sp':" ++ sp ++ codes ",'general':" ++ general ++ codes ",'floating':" ++ floating ++ codes ",'stack':" ++ stack ++ codes "}"

abbrev no_sp : List ℕ
no_sp = codes "'0000000000000000'"

-- ---- riscv, an unsigned integer of 32 bits in a0

abbrev one_uint32 : (a0 : List ℕ) → List ℕ
one_uint32 a0 =
    object (codes "riscv") (codes "{'ret':'void','args':['uint32']}") no_sp (registers 9 a0 21) all_zeros (codes "''")

zero_extended : answers Explained (one_uint32 (codes "0000000080000000")) ≡ refuses (codes "arg 0: a0 holds 0000000080000000, wants ffffffff80000000")
unfolding images_on_literals
zero_extended = refl

sign_extended : answers Explained (one_uint32 (codes "FFFFFFFF80000000")) ≡ says (codes "arg 0 2147483648")
unfolding images_on_literals
sign_extended = refl

-- what fills the rest of the place is not judged by the standard alone
by_standard_alone : answers ByStandard (one_uint32 (codes "0000000080000000")) ≡ says (codes "arg 0 2147483648")
unfolding images_on_literals
by_standard_alone = refl

-- ---- amd64, a struct in rdi

abbrev one_pair : (rax sp stack : List ℕ) → List ℕ
one_pair rax sp stack =
    object (codes "amd64") (codes "'void f(struct { int i; float x; } s);'") sp (codes "['" ++ rax ++ codes "'" ++ zeros 6 ++ codes ",'3f80000000000007'" ++ zeros 24 ++ codes "]") all_zeros stack

a_pair : answers Explained (one_pair (codes "0000000000000000") no_sp (codes "'0000000000000000'")) ≡ says (codes "arg 0 {7,0000803f}")
unfolding images_on_literals
a_pair = refl

one_byte_short : answers Explained (one_pair (codes "0000000000000000") no_sp (codes "'00000000000000'")) ≡ refuses (codes "/stack: too short: 7 of 8")
unfolding images_on_literals
one_byte_short = refl

another_count : answers Explained (one_pair (codes "0000000000000001") no_sp (codes "'0000000000000000'")) ≡ refuses (codes "count: rax holds 0000000000000001, wants 0000000000000000")
unfolding images_on_literals
another_count = refl

no_count_asked : answers ByStandard (one_pair (codes "0000000000000001") no_sp (codes "'0000000000000000'")) ≡ says (codes "arg 0 {7,0000803f}")
unfolding images_on_literals
no_count_asked = refl

-- the range of sp is judged before the length of the stack
past_the_end : answers Explained (one_pair (codes "0000000000000000") (codes "'fffffffffffffff8'") (codes "''")) ≡ refuses (codes "/sp: out of range")
unfolding images_on_literals
past_the_end = refl

just_below_the_end : answers Explained (one_pair (codes "0000000000000000") (codes "'fffffffffffffff7'") (codes "'0000000000000000'")) ≡ says (codes "arg 0 {7,0000803f}")
unfolding images_on_literals
just_below_the_end = refl

-- ---- amd64, a hidden result in memory: its address in rdi

abbrev hidden_result : (rdi : List ℕ) → List ℕ
hidden_result rdi =
    object (codes "amd64") (codes "{'ret':{'struct':['uint64','uint64','uint64']},'args':[]}") (codes "'0000000000001000'") (registers 6 rdi 24) all_zeros (codes "'" ++ bytes 40 ++ codes "'")
  where
    bytes : ℕ → List ℕ
    bytes zero = []
    bytes (suc n) = codes "00" ++ bytes n

hidden : answers Explained (hidden_result (codes "0000000000001008")) ≡ says (codes "hidden 0x1008")
unfolding images_on_literals
hidden = refl

another_hidden : answers Explained (hidden_result (codes "0000000000001010")) ≡ refuses (codes "hidden: rdi holds 0000000000001010, wants 0000000000001008")
unfolding images_on_literals
another_hidden = refl

no_hidden_line : answers ByStandard (hidden_result (codes "0000000000001010")) ≡ text []
unfolding images_on_literals
no_hidden_line = refl

-- ---- win64, a struct of three bytes by reference, from rcx

abbrev by_reference : (rcx stack : List ℕ) → List ℕ
by_reference rcx stack =
    object (codes "win64") (codes "{'ret':'void','args':[{'array':['uint8',3]}]}") (codes "'0000000000001000'") (registers 0 rcx 30) all_zeros stack

array_as_argument : answers ByStandard (by_reference (codes "0000000000001009") (codes "''")) ≡ refuses (codes "/sig/args/0: bad typedef")
unfolding images_on_literals
array_as_argument = refl

abbrev triple : (rcx stack : List ℕ) → List ℕ
triple rcx stack =
    object (codes "win64") (codes "{'ret':'void','args':[{'struct':[{'array':['uint8',3]}]}]}") (codes "'0000000000001000'") (registers 0 rcx 30) all_zeros stack

elsewhere : answers ByStandard (triple (codes "0000000000001009") (codes "'000000000000000001020304'")) ≡ says (codes "arg 0 {[2,3,4]}")
unfolding images_on_literals
elsewhere = refl

outside : answers ByStandard (triple (codes "000000000000100a") (codes "'000000000000000001020304'")) ≡ refuses (codes "arg 0: 0x100a is not in the image")
unfolding images_on_literals
outside = refl

no_return_address : answers ByStandard (triple (codes "0000000000001009") (codes "'00000000000000'")) ≡ refuses (codes "/stack: too short: 7 of 8")
unfolding images_on_literals
no_return_address = refl

-- ---- faults, in the order of reading

no_object : answers Explained (codes "[]") ≡ refuses (codes "/: not an object")
unfolding images_on_literals
no_object = refl

no_value : answers Explained (codes "{") ≡ refuses (codes "not JSON")
unfolding images_on_literals
no_value = refl

unknown : answers Explained (codes "{'target':0,'name':0}") ≡ refuses (codes "/: unknown key")
unfolding images_on_literals
unknown = refl

missing : answers Explained (codes "{'stack':0,'target':0,'sig':0,'floating':0}") ≡ refuses (codes "/: missing key sp")
unfolding images_on_literals
missing = refl

target : answers Explained (object (codes "x86") (codes "0") (codes "0") (codes "0") (codes "0") (codes "0")) ≡ refuses (codes "/target: unknown target")
unfolding images_on_literals
target = refl

signature : answers Explained (object (codes "amd64") (codes "0") (codes "0") (codes "0") (codes "0") (codes "0")) ≡ refuses (codes "/sig: not an object")
unfolding images_on_literals
signature = refl

declaration : answers Explained (object (codes "amd64") (codes "'int f(void'") (codes "0") (codes "0") (codes "0") (codes "0")) ≡ refuses (codes "/sig: bad declaration at 10")
unfolding images_on_literals
declaration = refl

abbrev leaf : (sp general floating stack : List ℕ) → Answer
leaf sp general floating stack =
    answers Explained (object (codes "aapcs64") (codes "'void f(void)'") sp general floating stack)

sp_of_15 : leaf (codes "'000000000000000'") (codes "0") (codes "0") (codes "0") ≡ refuses (codes "/sp: bad number")
unfolding images_on_literals
sp_of_15 = refl

sp_of_17 : leaf (codes "'00000000000000000'") (codes "0") (codes "0") (codes "0") ≡ refuses (codes "/sp: bad number")
unfolding images_on_literals
sp_of_17 = refl

sp_no_text : leaf (codes "0") (codes "0") (codes "0") (codes "0") ≡ refuses (codes "/sp: bad number")
unfolding images_on_literals
sp_no_text = refl

no_array : leaf no_sp (codes "0") (codes "0") (codes "0") ≡ refuses (codes "/general: not an array")
unfolding images_on_literals
no_array = refl

of_31 : leaf no_sp (codes "['0000000000000000'" ++ zeros 30 ++ codes "]") (codes "0") (codes "0") ≡ refuses (codes "/general: wrong count")
unfolding images_on_literals
of_31 = refl

-- the number of items comes before the items
of_33 : leaf no_sp (codes "[0" ++ zeros 32 ++ codes "]") (codes "0") (codes "0") ≡ refuses (codes "/general: wrong count")
unfolding images_on_literals
of_33 = refl

entry : leaf no_sp all_zeros (registers 2 (codes "000000000000000g") 28) (codes "0") ≡ refuses (codes "/floating/3: bad number")
unfolding images_on_literals
entry = refl

odd : leaf no_sp all_zeros all_zeros (codes "'000'") ≡ refuses (codes "/stack: bad bytes")
unfolding images_on_literals
odd = refl

no_bytes : leaf no_sp all_zeros all_zeros (codes "[]") ≡ refuses (codes "/stack: bad bytes")
unfolding images_on_literals
no_bytes = refl

empty : leaf no_sp all_zeros all_zeros (codes "''") ≡ text []
unfolding images_on_literals
empty = refl
