-- Faults of scripts, of each reason and in the order of reading: functions, moves and bodies.
use Rattle.std.specs.Prelude.{◌≡◌, codes, refl}
use Rattle.ffi3_script_spec.proofs.RowForms.{scripts_on_literals, of_functions, in_main, in_body}

-- ---- names and signatures of functions

function : of_functions (codes "1") ≡ codes "/functions/0: not an object"
unfolding scripts_on_literals
function = refl

function-missing : of_functions (codes "{'name':'-','sig':9}") ≡ codes "/functions/0: missing key body"
unfolding scripts_on_literals
function-missing = refl

name-of-text : of_functions (codes "{'name':0,'sig':9,'body':0}") ≡ codes "/functions/0/name: bad name"
unfolding scripts_on_literals
name-of-text = refl

name-empty : of_functions (codes "{'name':'','sig':9,'body':0}") ≡ codes "/functions/0/name: bad name"
unfolding scripts_on_literals
name-empty = refl

name-long : of_functions (codes "{'name':'a23456789_123456789_123456789_123','sig':0,'body':0}") ≡ codes "/functions/0/name: bad name"
unfolding scripts_on_literals
name-long = refl

name-longest : of_functions (codes "{'name':'a23456789_123456789_123456789_12','sig':2,'body':0}") ≡ codes "/functions/0/sig: no such signature"
unfolding scripts_on_literals
name-longest = refl

sig-of-number : of_functions (codes "{'name':'f','sig':1.0,'body':0}") ≡ codes "/functions/0/sig: no such signature"
unfolding scripts_on_literals
sig-of-number = refl

names-before-bodies : of_functions (codes "{'name':'f','sig':0,'body':0},{'name':'f','sig':9,'body':0}") ≡ codes "/functions/1/name: name twice"
unfolding scripts_on_literals
names-before-bodies = refl

body : of_functions (codes "{'name':'f','sig':0,'body':{}},{'name':'g','sig':0,'body':0}") ≡ codes "/functions/0/body: not an array"
unfolding scripts_on_literals
body = refl

-- ---- the kind and the keys of a move

move-of-object : in_main (codes "'call'") ≡ codes "/main/0: not a move"
unfolding scripts_on_literals
move-of-object = refl

move-of-no-kind : in_main (codes "{'when':null,'sig':0,'jump':0}") ≡ codes "/main/0: not a move"
unfolding scripts_on_literals
move-of-no-kind = refl

two-kinds : in_main (codes "{'make':'f','call':0}") ≡ codes "/main/0: unknown key"
unfolding scripts_on_literals
two-kinds = refl

call-missing : in_main (codes "{'args':0,'call':null,'when':null}") ≡ codes "/main/0: missing key sig"
unfolding scripts_on_literals
call-missing = refl

return-as : in_main (codes "{'return':null,'as':'r'}") ≡ codes "/main/0: unknown key"
unfolding scripts_on_literals
return-as = refl

-- ---- conditions

when-first : in_main (codes "{'when':1,'call':null,'sig':9,'args':0,'as':0}") ≡ codes "/main/0/when: no type of its own"
unfolding scripts_on_literals
when-first = refl

when-float : in_main (codes "{'when':{'of':['float','00000000']},'print':null}") ≡ codes "/main/0/when: wrong type"
unfolding scripts_on_literals
when-float = refl

-- ---- calls

call : in_main (codes "{'call':null,'sig':9,'args':0,'as':0}") ≡ codes "/main/0/call: not a value"
unfolding scripts_on_literals
call = refl

sig-before-args : in_main (codes "{'call':65536,'sig':2,'args':0,'as':0}") ≡ codes "/main/0/sig: no such signature"
unfolding scripts_on_literals
sig-before-args = refl

args : in_main (codes "{'call':65536,'sig':0,'args':0,'as':0}") ≡ codes "/main/0/args: not an array"
unfolding scripts_on_literals
args = refl

args-count : in_main (codes "{'call':65536,'sig':0,'args':[null,null],'as':0}") ≡ codes "/main/0/args: wrong count"
unfolding scripts_on_literals
args-count = refl

args-of-type : in_main (codes "{'call':65536,'sig':0,'args':[-128,-1,[null]],'as':0}") ≡ codes "/main/0/args/1: out of range"
unfolding scripts_on_literals
args-of-type = refl

args-before-as : in_main (codes "{'call':65536,'sig':0,'args':[127,0,[null]],'as':0}") ≡ codes "/main/0/args/2: wrong count"
unfolding scripts_on_literals
args-before-as = refl

as-bad : in_main (codes "{'call':65536,'sig':1,'args':[],'as':'a-b'}") ≡ codes "/main/0/as: bad name"
unfolding scripts_on_literals
as-bad = refl

as-twice : in_main (codes "{'make':'f','as':'a'},{'call':65536,'sig':1,'args':[],'as':'a'}") ≡ codes "/main/1/as: name twice"
unfolding scripts_on_literals
as-twice = refl

as-void : in_main (codes "{'make':'f','as':'a'},{'call':65536,'sig':1,'args':[],'as':'b'}") ≡ codes "/main/1/as: void result"
unfolding scripts_on_literals
as-void = refl

-- ---- other moves

make : in_main (codes "{'make':'g','user':null,'as':0}") ≡ codes "/main/0/make: no such function"
unfolding scripts_on_literals
make = refl

make-of-text : in_main (codes "{'make':0}") ≡ codes "/main/0/make: no such function"
unfolding scripts_on_literals
make-of-text = refl

user : in_main (codes "{'make':'f','user':-1,'as':0}") ≡ codes "/main/0/user: out of range"
unfolding scripts_on_literals
user = refl

own-name : in_main (codes "{'make':'f','user':{'res':'a'},'as':'a'}") ≡ codes "/main/0/user: no such result"
unfolding scripts_on_literals
own-name = refl

make-of-later : of_functions (codes "{'name':'f','sig':1,'body':[{'make':'g'},{'return':null}]},{'name':'g','sig':1,'body':[{'return':null}]}") ≡ codes "read"
unfolding scripts_on_literals
make-of-later = refl

free : in_main (codes "{'free':[0]}") ≡ codes "/main/0/free: wrong type"
unfolding scripts_on_literals
free = refl

print : in_main (codes "{'print':'00000000'}") ≡ codes "/main/0/print: no type of its own"
unfolding scripts_on_literals
print = refl

return-null : in_main (codes "{'return':0}") ≡ codes "/main/0/return: not null"
unfolding scripts_on_literals
return-null = refl

return-value : in_body (codes "{'return':null}") ≡ codes "/functions/0/body/0/return: not a value"
unfolding scripts_on_literals
return-value = refl

-- ---- ends of bodies

no-move : of_functions (codes "{'name':'f','sig':0,'body':[]},{'name':'g','sig':0,'body':0}") ≡ codes "/functions/0/body: no return at the end"
unfolding scripts_on_literals
no-move = refl

last-with-condition : in_body (codes "{'return':0},{'when':{'arg':0},'return':0}") ≡ codes "/functions/0/body: no return at the end"
unfolding scripts_on_literals
last-with-condition = refl

end-after-moves : in_main (codes "{'free':0},{'print':0}") ≡ codes "/main/1/print: no type of its own"
unfolding scripts_on_literals
end-after-moves = refl

after-a-return : in_main (codes "{'return':null},{'free':null},{'return':null}") ≡ codes "/main/1/free: not a value"
unfolding scripts_on_literals
after-a-return = refl
