-- Faults of scripts, of each reason and in the order of reading: the whole, signatures, functions and moves. Of values they stand in `ValueRows`.
use Rattle.std.specs.Prelude.{◌≡◌, ℕ, zero, suc, List, [], ◌++◌, codes, refl}
use Rattle.ffi3_script_spec.proofs.RowForms.{scripts_on_literals, tells, of_signature}

abbrev times : ℕ → List ℕ → List ℕ
times zero text = []
times (suc n) text = text ++ times n text

-- ---- the whole

root : tells (codes "[]") ≡ codes "/: not an object"
unfolding scripts_on_literals
root = refl

root-unknown : tells (codes "{'version':2,'name':1}") ≡ codes "/: unknown key"
unfolding scripts_on_literals
root-unknown = refl

root-missing : tells (codes "{'version':2,'main':[]}") ≡ codes "/: missing key signatures"
unfolding scripts_on_literals
root-missing = refl

version : tells (codes "{'main':0,'functions':0,'signatures':0,'version':1.0}") ≡ codes "/version: version not known"
unfolding scripts_on_literals
version = refl

signatures : tells (codes "{'main':0,'functions':0,'signatures':0,'version':1}") ≡ codes "/signatures: not an array"
unfolding scripts_on_literals
signatures = refl

signatures-before-functions : tells (codes "{'version':1,'signatures':[0],'functions':0,'main':0}") ≡ codes "/signatures/0: not an object"
unfolding scripts_on_literals
signatures-before-functions = refl

functions : tells (codes "{'version':1,'signatures':[],'functions':{},'main':0}") ≡ codes "/functions: not an array"
unfolding scripts_on_literals
functions = refl

main : tells (codes "{'version':1,'signatures':[],'functions':[],'main':{}}") ≡ codes "/main: not an array"
unfolding scripts_on_literals
main = refl

last-of-a-key : tells (codes "{'main':0,'version':1,'signatures':[],'functions':[],'main':[{'return':null}]}") ≡ codes "read"
unfolding scripts_on_literals
last-of-a-key = refl

-- ---- signatures and types

signature-key : of_signature (codes "{'ret':0,'arg':0}") ≡ codes "/signatures/0: unknown key"
unfolding scripts_on_literals
signature-key = refl

signature-missing : of_signature (codes "{'args':0,'fixed':0}") ≡ codes "/signatures/0: missing key ret"
unfolding scripts_on_literals
signature-missing = refl

ret : of_signature (codes "{'ret':null,'args':0}") ≡ codes "/signatures/0/ret: not a type"
unfolding scripts_on_literals
ret = refl

two-keys : of_signature (codes "{'ret':{'struct':0,'name':0},'args':0}") ≡ codes "/signatures/0/ret: not a type"
unfolding scripts_on_literals
two-keys = refl

struct : of_signature (codes "{'ret':{'struct':'void'},'args':0}") ≡ codes "/signatures/0/ret/struct: not an array"
unfolding scripts_on_literals
struct = refl

args : of_signature (codes "{'ret':'longdouble','args':{},'fixed':-1}") ≡ codes "/signatures/0/args: not an array"
unfolding scripts_on_literals
args = refl

shapes-first : of_signature (codes "{'ret':{'struct':[]},'args':['int'],'fixed':-1}") ≡ codes "/signatures/0/args/0: unknown type"
unfolding scripts_on_literals
shapes-first = refl

fixed : of_signature (codes "{'ret':{'struct':[]},'args':[],'fixed':4294967296}") ≡ codes "/signatures/0/fixed: not a count"
unfolding scripts_on_literals
fixed = refl

fixed-null : of_signature (codes "{'ret':'void','args':[],'fixed':null}") ≡ codes "/signatures/0/fixed: not a count"
unfolding scripts_on_literals
fixed-null = refl

ret-before-args : of_signature (codes "{'ret':{'struct':['uint8',{'struct':['void']}]},'args':['void'],'fixed':9}") ≡ codes "/signatures/0/ret/struct/1/struct/0: bad typedef"
unfolding scripts_on_literals
ret-before-args = refl

long-double : of_signature (codes "{'ret':'void','args':['sint8','longdouble','void'],'fixed':0}") ≡ codes "/signatures/0/args/1: left out: long double"
unfolding scripts_on_literals
long-double = refl

complex : of_signature (codes "{'ret':'complex_double','args':[]}") ≡ codes "/signatures/0/ret: left out: complex"
unfolding scripts_on_literals
complex = refl

vector : of_signature (codes "{'ret':'vector','args':[]}") ≡ codes "/signatures/0/ret: left out: vector"
unfolding scripts_on_literals
vector = refl

large : of_signature (codes "{'ret':{'struct':[" ++ times 512 (codes "'slong',") ++ codes "'schar']},'args':[]}") ≡ codes "/signatures/0/ret: too large: 4104"
unfolding scripts_on_literals
large = refl

deep : of_signature (codes "{'ret':" ++ times 16 (codes "{'struct':[") ++ codes "{'struct':[]}" ++ times 16 (codes "]}") ++ codes ",'args':[]}") ≡ codes "/signatures/0/ret" ++ times 16 (codes "/struct/0") ++ codes ": too deep"
unfolding scripts_on_literals
deep = refl

many : of_signature (codes "{'ret':'vector','args':[" ++ times 64 (codes "'float',") ++ codes "'float'],'fixed':1}") ≡ codes "/signatures/0/args: too many arguments: 65"
unfolding scripts_on_literals
many = refl

fixed-many : of_signature (codes "{'ret':'void','args':['float'],'fixed':2}") ≡ codes "/signatures/0/fixed: bad fixed: 2 of 1"
unfolding scripts_on_literals
fixed-many = refl

fixed-none : of_signature (codes "{'ret':'void','args':['float'],'fixed':0}") ≡ codes "/signatures/0/fixed: bad fixed: 0 of 1"
unfolding scripts_on_literals
fixed-none = refl

variadic : of_signature (codes "{'ret':'void','args':['float','sint32','ushort','float'],'fixed':1}") ≡ codes "/signatures/0/args/2: bad variadic argument"
unfolding scripts_on_literals
variadic = refl
