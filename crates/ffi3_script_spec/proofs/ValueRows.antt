-- Faults of values in scripts, of each reason and in the order of reading.
use Rattle.std.specs.Prelude.{◌≡◌, ℕ, List, ◌++◌, codes, refl}
use Rattle.ffi3_script_spec.proofs.RowForms.{scripts_on_literals, in_body}

-- a value with a type of its own, in a function of signature 0
abbrev printed : List ℕ → List ℕ
printed value = in_body (codes "{'print':" ++ value ++ codes "},{'return':0}")

-- a value of a type
abbrev of_type : (type value : List ℕ) → List ℕ
of_type type value = printed (codes "{'of':[" ++ type ++ codes "," ++ value ++ codes "]}")

abbrev at_print : List ℕ → List ℕ
at_print place = codes "/functions/0/body/0/print" ++ place

-- a value of the function's result, sint32
abbrev returned : List ℕ → List ℕ
returned value = in_body (codes "{'return':" ++ value ++ codes "}")

abbrev at_return : List ℕ → List ℕ
at_return place = codes "/functions/0/body/0/return" ++ place

-- ---- numbers

float-number : returned (codes "1.0") ≡ at_return (codes ": not an integer")
unfolding scripts_on_literals
float-number = refl

minus-zero : returned (codes "-0") ≡ at_return (codes ": not an integer")
unfolding scripts_on_literals
minus-zero = refl

beyond-64-bits : of_type (codes "'pointer'") (codes "18446744073709551616") ≡ at_print (codes "/of/1: not an integer")
unfolding scripts_on_literals
beyond-64-bits = refl

greatest-pointer : of_type (codes "'pointer'") (codes "18446744073709551615") ≡ codes "read"
unfolding scripts_on_literals
greatest-pointer = refl

negative-pointer : of_type (codes "'pointer'") (codes "-1") ≡ at_print (codes "/of/1: out of range")
unfolding scripts_on_literals
negative-pointer = refl

least-sint8 : of_type (codes "'sint8'") (codes "-128") ≡ codes "read"
unfolding scripts_on_literals
least-sint8 = refl

below-sint8 : of_type (codes "'sint8'") (codes "-129") ≡ at_print (codes "/of/1: out of range")
unfolding scripts_on_literals
below-sint8 = refl

above-uint8 : of_type (codes "'uint8'") (codes "256") ≡ at_print (codes "/of/1: out of range")
unfolding scripts_on_literals
above-uint8 = refl

number-of-float : of_type (codes "'float'") (codes "1.0") ≡ at_print (codes "/of/1: wrong type")
unfolding scripts_on_literals
number-of-float = refl

-- ---- texts and arrays

float-text : of_type (codes "'float'") (codes "'0000C03f'") ≡ codes "read"
unfolding scripts_on_literals
float-text = refl

double-of-four : of_type (codes "'double'") (codes "'0000c03f'") ≡ at_print (codes "/of/1: bad bytes")
unfolding scripts_on_literals
double-of-four = refl

bad-digit : of_type (codes "'float'") (codes "'0000c03g'") ≡ at_print (codes "/of/1: bad bytes")
unfolding scripts_on_literals
bad-digit = refl

text-of-integer : of_type (codes "'uint32'") (codes "'0000c03f'") ≡ at_print (codes "/of/1: wrong type")
unfolding scripts_on_literals
text-of-integer = refl

array-of-integer : of_type (codes "'uint32'") (codes "[null]") ≡ at_print (codes "/of/1: wrong type")
unfolding scripts_on_literals
array-of-integer = refl

array-count : of_type (codes "{'struct':['uint8','uint8']}") (codes "[null]") ≡ at_print (codes "/of/1: wrong count")
unfolding scripts_on_literals
array-count = refl

element : of_type (codes "{'struct':['uint8',{'struct':['uint8']}]}") (codes "[1,[256]]") ≡ at_print (codes "/of/1/1/0: out of range")
unfolding scripts_on_literals
element = refl

-- ---- what is no value

no-value : returned (codes "true") ≡ at_return (codes ": not a value")
unfolding scripts_on_literals
no-value = refl

no-key : returned (codes "{}") ≡ at_return (codes ": not a value")
unfolding scripts_on_literals
no-key = refl

two-keys : returned (codes "{'add':0,'arg':0}") ≡ at_return (codes ": not a value")
unfolding scripts_on_literals
two-keys = refl

unknown-form : printed (codes "{'mul':[1,2]}") ≡ at_print (codes ": not a value")
unfolding scripts_on_literals
unknown-form = refl

user-false : returned (codes "{'user':false}") ≡ at_return (codes ": not a value")
unfolding scripts_on_literals
user-false = refl

user-type : returned (codes "{'user':true}") ≡ at_return (codes ": wrong type")
unfolding scripts_on_literals
user-type = refl

-- ---- typed values

parts-not-read : printed (codes "{'add':[null,null]}") ≡ at_print (codes ": no type of its own")
unfolding scripts_on_literals
parts-not-read = refl

argument : returned (codes "{'arg':3}") ≡ at_return (codes ": no such argument")
unfolding scripts_on_literals
argument = refl

argument-of-text : returned (codes "{'arg':'0'}") ≡ at_return (codes ": no such argument")
unfolding scripts_on_literals
argument-of-text = refl

argument-type : returned (codes "{'arg':0}") ≡ at_return (codes ": wrong type")
unfolding scripts_on_literals
argument-type = refl

result : returned (codes "{'res':'r'}") ≡ at_return (codes ": no such result")
unfolding scripts_on_literals
result = refl

result-type : in_body (codes "{'make':'f','as':'p'},{'return':{'res':'p'}}") ≡ codes "/functions/0/body/1/return: wrong type"
unfolding scripts_on_literals
result-type = refl

field-pair : printed (codes "{'field':[null]}") ≡ at_print (codes "/field: wrong count")
unfolding scripts_on_literals
field-pair = refl

field-parts : printed (codes "{'field':[[1],null]}") ≡ at_print (codes "/field/0: no type of its own")
unfolding scripts_on_literals
field-parts = refl

field-of-struct : printed (codes "{'field':[{'arg':1},null]}") ≡ at_print (codes "/field/0: wrong type")
unfolding scripts_on_literals
field-of-struct = refl

field-number : returned (codes "{'field':[{'arg':2},2]}") ≡ at_return (codes ": no such field")
unfolding scripts_on_literals
field-number = refl

field-type : returned (codes "{'field':[{'arg':2},1]}") ≡ at_return (codes ": wrong type")
unfolding scripts_on_literals
field-type = refl

of-pair : returned (codes "{'of':['sint32',1,2]}") ≡ at_return (codes "/of: wrong count")
unfolding scripts_on_literals
of-pair = refl

of-shape : returned (codes "{'of':[{'struct':[{'struct':[]},'int']},null]}") ≡ at_return (codes "/of/0/struct/1: unknown type")
unfolding scripts_on_literals
of-shape = refl

of-void : returned (codes "{'of':['void',null]}") ≡ at_return (codes "/of/0: bad typedef")
unfolding scripts_on_literals
of-void = refl

of-type-last : returned (codes "{'of':['uint8',256]}") ≡ at_return (codes "/of/1: out of range")
unfolding scripts_on_literals
of-type-last = refl

of-type : returned (codes "{'of':['uint8',255]}") ≡ at_return (codes ": wrong type")
unfolding scripts_on_literals
of-type = refl

-- ---- sums, differences and casts

sum-type-first : of_type (codes "'pointer'") (codes "{'add':5}") ≡ at_print (codes "/of/1: wrong type")
unfolding scripts_on_literals
sum-type-first = refl

sum-pair : returned (codes "{'add':5}") ≡ at_return (codes "/add: wrong count")
unfolding scripts_on_literals
sum-pair = refl

sum-parts : returned (codes "{'add':[1,2147483648]}") ≡ at_return (codes "/add/1: out of range")
unfolding scripts_on_literals
sum-parts = refl

difference-parts : returned (codes "{'sub':['1',null]}") ≡ at_return (codes "/sub/0: wrong type")
unfolding scripts_on_literals
difference-parts = refl

cast-type-first : of_type (codes "'double'") (codes "{'cast':null}") ≡ at_print (codes "/of/1: wrong type")
unfolding scripts_on_literals
cast-type-first = refl

cast-typed : returned (codes "{'cast':1}") ≡ at_return (codes "/cast: no type of its own")
unfolding scripts_on_literals
cast-typed = refl

cast-of-struct : returned (codes "{'cast':{'arg':2}}") ≡ at_return (codes "/cast: wrong type")
unfolding scripts_on_literals
cast-of-struct = refl

cast-of-pointer : returned (codes "{'cast':{'user':true}}") ≡ codes "read"
unfolding scripts_on_literals
cast-of-pointer = refl
