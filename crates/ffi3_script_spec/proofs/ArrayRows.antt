-- Arrays, which version 2 of the language has: what is none, faults of types in the order of faults, values and elements.
use Rattle.std.specs.Prelude.{◌≡◌, ℕ, zero, suc, List, [], ◌++◌, codes, refl}
use Rattle.ffi3_place_spec.specs.Standard.{Standard}
use Rattle.ffi3_script_spec.proofs.RowForms.{scripts_on_literals, tells, last, versioned_text, of_signature, of_signature_in_2, in_main, print_of, with_main_in_2, in_2, is_in_2, printed_in_2, shows_in_2, main_of, shown}

abbrev times : ℕ → List ℕ → List ℕ
times zero text = []
times (suc n) text = text ++ times n text

-- a signature with a result of a type
abbrev returning : List ℕ → List ℕ
returning type = codes "{'ret':" ++ type ++ codes ",'args':[]}"

abbrev at_ret : List ℕ → List ℕ
at_ret place = codes "/signatures/0/ret" ++ place

-- ---- shapes

array : of_signature_in_2 (returning (codes "{'struct':[{'array':['uint8',3]},{'array':['uint32',2]}]}")) ≡ codes "read"
unfolding scripts_on_literals
array = refl

in-version-1 : of_signature (returning (codes "{'struct':[{'array':['uint8',3]}]}")) ≡ at_ret (codes "/struct/0: not a type")
unfolding scripts_on_literals
in-version-1 = refl

in-version-1-no-array : of_signature (returning (codes "{'array':0}")) ≡ at_ret (codes ": not a type")
unfolding scripts_on_literals
in-version-1-no-array = refl

no-entry : of_signature_in_2 (returning (codes "{'array':[]}")) ≡ at_ret (codes ": not a type")
unfolding scripts_on_literals
no-entry = refl

one-entry : of_signature_in_2 (returning (codes "{'array':['uint8']}")) ≡ at_ret (codes ": not a type")
unfolding scripts_on_literals
one-entry = refl

three-entries : of_signature_in_2 (returning (codes "{'array':['int',1,1]}")) ≡ at_ret (codes ": not a type")
unfolding scripts_on_literals
three-entries = refl

no-array : of_signature_in_2 (returning (codes "{'array':{}}")) ≡ at_ret (codes ": not a type")
unfolding scripts_on_literals
no-array = refl

two-keys : of_signature_in_2 (returning (codes "{'array':['uint8',1],'struct':['uint8']}")) ≡ at_ret (codes ": not a type")
unfolding scripts_on_literals
two-keys = refl

another-key : of_signature_in_2 (returning (codes "{'Array':['uint8',1]}")) ≡ at_ret (codes ": not a type")
unfolding scripts_on_literals
another-key = refl

type-before-count : of_signature_in_2 (returning (codes "{'array':['int',-1]}")) ≡ at_ret (codes "/array/0: unknown type")
unfolding scripts_on_literals
type-before-count = refl

type-in-type : of_signature_in_2 (returning (codes "{'array':[{'struct':[{'array':[null,0]}]},-1]}")) ≡ at_ret (codes "/array/0/struct/0/array/0: not a type")
unfolding scripts_on_literals
type-in-type = refl

count-below-0 : of_signature_in_2 (returning (codes "{'array':['uint8',-1]}")) ≡ at_ret (codes "/array/1: not a count")
unfolding scripts_on_literals
count-below-0 = refl

count-past-32-bits : of_signature_in_2 (returning (codes "{'array':['uint8',4294967296]}")) ≡ at_ret (codes "/array/1: not a count")
unfolding scripts_on_literals
count-past-32-bits = refl

count-with-a-point : of_signature_in_2 (returning (codes "{'array':['uint8',1.0]}")) ≡ at_ret (codes "/array/1: not a count")
unfolding scripts_on_literals
count-with-a-point = refl

count-by-a-text : of_signature_in_2 (returning (codes "{'array':['uint8','1']}")) ≡ at_ret (codes "/array/1: not a count")
unfolding scripts_on_literals
count-by-a-text = refl

shapes-first : of_signature_in_2 (codes "{'ret':{'array':['void',0]},'args':[{'array':['uint8',null]}]}") ≡ codes "/signatures/0/args/0/array/1: not a count"
unfolding scripts_on_literals
shapes-first = refl

-- ---- faults

result : of_signature_in_2 (returning (codes "{'array':['uint8',3]}")) ≡ at_ret (codes ": bad typedef")
unfolding scripts_on_literals
result = refl

argument : of_signature_in_2 (codes "{'ret':'void','args':['uint8',{'array':['longdouble',3]}]}") ≡ codes "/signatures/0/args/1: bad typedef"
unfolding scripts_on_literals
argument = refl

count-0 : of_signature_in_2 (returning (codes "{'struct':['uint8',{'array':['void',0]}]}")) ≡ at_ret (codes "/struct/1: bad typedef")
unfolding scripts_on_literals
count-0 = refl

element-void : of_signature_in_2 (returning (codes "{'struct':[{'array':['void',4294967295]}]}")) ≡ at_ret (codes "/struct/0/array/0: bad typedef")
unfolding scripts_on_literals
element-void = refl

element-left-out : of_signature_in_2 (returning (codes "{'struct':['uint8',{'array':[{'struct':[{'array':['longdouble',2]}]},2]}]}")) ≡ at_ret (codes "/struct/1/array/0/struct/0/array/0: left out: long double")
unfolding scripts_on_literals
element-left-out = refl

largest : of_signature_in_2 (returning (codes "{'struct':[{'array':['uint8',4096]}]}")) ≡ codes "read"
unfolding scripts_on_literals
largest = refl

too-large : of_signature_in_2 (returning (codes "{'struct':[{'array':['uint8',4097]},'void']}")) ≡ at_ret (codes "/struct/0: too large: 4097")
unfolding scripts_on_literals
too-large = refl

too-large-with-a-byte : of_signature_in_2 (returning (codes "{'struct':[{'array':['uint8',4096]},'uint8']}")) ≡ at_ret (codes ": too large: 4097")
unfolding scripts_on_literals
too-large-with-a-byte = refl

too-large-by-far : of_signature_in_2 (returning (codes "{'struct':[{'array':[{'struct':[{'array':['uint64',512]}]},4294967295]}]}")) ≡ at_ret (codes "/struct/0: too large: 17592186040320")
unfolding scripts_on_literals
too-large-by-far = refl

too-large-inside : of_signature_in_2 (returning (codes "{'struct':[{'array':[{'array':[{'array':['uint16',4294967295]},4294967295]},4294967295]}]}")) ≡ at_ret (codes "/struct/0/array/0/array/0: too large: 8589934590")
unfolding scripts_on_literals
too-large-inside = refl

deepest : of_signature_in_2 (returning (codes "{'struct':[" ++ times 15 (codes "{'array':[") ++ codes "'uint8'" ++ times 15 (codes ",1]}") ++ codes "]}")) ≡ codes "read"
unfolding scripts_on_literals
deepest = refl

deep : of_signature_in_2 (returning (codes "{'struct':[" ++ times 16 (codes "{'array':[") ++ codes "'void'" ++ times 16 (codes ",0]}") ++ codes "]}")) ≡ at_ret (codes "/struct/0: bad typedef")
unfolding scripts_on_literals
deep = refl

too-deep : of_signature_in_2 (returning (codes "{'struct':[" ++ times 16 (codes "{'array':[") ++ codes "'void'" ++ times 16 (codes ",1]}") ++ codes "]}")) ≡ at_ret (codes "/struct/0" ++ times 15 (codes "/array/0") ++ codes ": too deep")
unfolding scripts_on_literals
too-deep = refl

-- ---- values

of-array : in_2 (codes "{'array':['uint8',2]}") (codes "[1,2]") ≡ codes "/main/0/print/of/0: bad typedef"
unfolding scripts_on_literals
of-array = refl

of-in-version-1 : in_main (print_of (codes "{'struct':[{'array':['uint8',2]}]}") (codes "[[1,2]]")) ≡ codes "/main/0/print/of/0/struct/0: not a type"
unfolding scripts_on_literals
of-in-version-1 = refl

of-fault-inside : in_2 (codes "{'struct':[{'array':['void',2]}]}") (codes "null") ≡ codes "/main/0/print/of/0/struct/0/array/0: bad typedef"
unfolding scripts_on_literals
of-fault-inside = refl

too-few : in_2 (codes "{'struct':['uint8',{'array':['uint8',3]}]}") (codes "[0,[1,2]]") ≡ codes "/main/0/print/of/1/1: wrong count"
unfolding scripts_on_literals
too-few = refl

too-many : in_2 (codes "{'struct':[{'array':['uint8',3]}]}") (codes "[[1,2,3,null]]") ≡ codes "/main/0/print/of/1/0: wrong count"
unfolding scripts_on_literals
too-many = refl

no-list : in_2 (codes "{'struct':[{'array':['uint8',3]}]}") (codes "[1]") ≡ codes "/main/0/print/of/1/0: wrong type"
unfolding scripts_on_literals
no-list = refl

element-of-list : in_2 (codes "{'struct':[{'array':['uint8',3]}]}") (codes "[[1,256,null]]") ≡ codes "/main/0/print/of/1/0/1: out of range"
unfolding scripts_on_literals
element-of-list = refl

field-past-the-end : printed_in_2 (codes "{'field':[{'field':[{'of':[{'struct':[{'array':['uint8',3]}]},[[1,2,3]]]},0]},3]}") ≡ codes "/main/0/print: no such field"
unfolding scripts_on_literals
field-past-the-end = refl

field-of-an-element : printed_in_2 (codes "{'field':[{'field':[{'field':[{'of':[{'struct':[{'array':['uint8',3]}]},[[1,2,3]]]},0]},2]},0]}") ≡ codes "/main/0/print/field/0: wrong type"
unfolding scripts_on_literals
field-of-an-element = refl

condition : tells (with_main_in_2 (codes "{'when':{'field':[{'of':[{'struct':[{'array':['uint8',3]}]},[[1,2,3]]]},0]},'return':null}")) ≡ codes "/main/0/when: wrong type"
unfolding scripts_on_literals
condition = refl

other-array : printed_in_2 (codes "{'of':[{'struct':[{'array':['uint8',2]}]},[{'field':[{'of':[{'struct':[{'array':['uint8',3]}]},[[1,2,3]]]},0]}]]}") ≡ codes "/main/0/print/of/1/0: wrong type"
unfolding scripts_on_literals
other-array = refl

module _ (standard : Standard) where
  shown-array : is_in_2 standard (codes "{'struct':[{'array':['uint8',3]},'sint8']}") (codes "[[1,2,3],-1]") ≡ codes "{[1,2,3],-1}"
  unfolding scripts_on_literals
  shown-array = refl

  array-of-arrays : is_in_2 standard (codes "{'struct':[{'array':[{'array':['sint8',3]},2]}]}") (codes "[[[1,2,3],[4,5,-6]]]") ≡ codes "{[[1,2,3],[4,5,-6]]}"
  unfolding scripts_on_literals
  array-of-arrays = refl

  array-of-structs : is_in_2 standard (codes "{'struct':[{'array':[{'struct':['pointer','float']},2]}]}") (codes "[[[1,'0000c03f'],[255,'00000000']]]") ≡ codes "{[{0x1,0000c03f},{0xff,00000000}]}"
  unfolding scripts_on_literals
  array-of-structs = refl

  -- a whole array is printed, and an element of one
  field-array : shows_in_2 standard (codes "{'field':[{'of':[{'struct':['uint8',{'array':['uint8',3]}]},[0,[1,2,3]]]},1]}") ≡ codes "[1,2,3]"
  unfolding scripts_on_literals
  field-array = refl

  field-element : shows_in_2 standard (codes "{'field':[{'field':[{'of':[{'struct':['uint8',{'array':['uint8',3]}]},[0,[1,2,3]]]},1]},2]}") ≡ codes "3"
  unfolding scripts_on_literals
  field-element = refl

  -- where an array is asked for, a value with that type is one
  array-by-field : is_in_2 standard (codes "{'struct':[{'array':['uint8',2]}]}") (codes "[{'field':[{'of':[{'struct':[{'array':['uint8',2]}]},[[7,9]]]},0]}]") ≡ codes "{[7,9]}"
  unfolding scripts_on_literals
  array-by-field = refl

  zero-of-array : shown (main_of standard (versioned_text (codes "2") (codes "{'ret':{'struct':['uint8',{'array':['float',2]}]},'args':[]}") [] (codes "{'when':{'of':['sint32',0]},'call':0,'sig':0,'args':[],'as':'r'},{'print':{'field':[{'res':'r'},1]}}," ++ last)) []) ≡ codes "[00000000,00000000]"
  unfolding scripts_on_literals
  zero-of-array = refl
