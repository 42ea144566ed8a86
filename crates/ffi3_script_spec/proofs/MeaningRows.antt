-- What scripts mean, computed: the moves of bodies, and whole runs.
use Rattle.std.specs.Prelude.{◌≡◌, List, ℕ, [], ◌∷◌, ◌++◌, codes, refl}
use Rattle.ffi3_type_spec.specs.Value.{void_value, leaf_value}
use Rattle.ffi3_place_spec.specs.Standard.{Standard}
use Rattle.ffi3_semantics_spec.specs.Move.{call, make, free, return}
use Rattle.ffi3_semantics_spec.specs.Meaning.{act, act_within}
use Rattle.ffi3_semantics_spec.specs.Lines.{a_line}
use Rattle.ffi3_script_spec.proofs.RowForms.{scripts_on_literals, script_text, two_signatures, last, program_in, main_of, function_of, shown, with_main, prints, run_text}

-- a function that makes a closure of an increment, calls it and prints the result
abbrev increment : List ℕ
increment =
    codes "{'version':1,'signatures':[{'ret':'sint32','args':['sint32']}],'functions':[{'name':'inc','sig':0,'body':[{'return':{'add':[{'arg':0},1]}}]}],'main':[{'make':'inc','as':'f'},{'call':{'res':'f'},'sig':0,'args':[41],'as':'r'},{'print':{'res':'r'}},{'return':null}]}"

-- a closure that frees itself and gives its slot to another function, and then a call by another signature
abbrev replaced : List ℕ
replaced =
    codes "{'version':1,'signatures':[{'ret':'sint32','args':[]},{'ret':'sint64','args':[]}],'functions':[{'name':'f','sig':0,'body':[{'free':65536},{'make':'g'},{'return':7}]},{'name':'g','sig':0,'body':[{'return':9}]}],'main':[{'make':'f','as':'p'},{'call':{'res':'p'},'sig':0,'args':[],'as':'a'},{'print':{'res':'a'}},{'call':{'res':'p'},'sig':0,'args':[],'as':'b'},{'print':{'res':'b'}},{'call':{'res':'p'},'sig':1,'args':[]},{'return':null}]}"

-- a closure that calls itself, without end
abbrev endless : List ℕ
endless =
    codes "{'version':1,'signatures':[{'ret':'void','args':[]}],'functions':[{'name':'f','sig':0,'body':[{'call':65536,'sig':0,'args':[]},{'return':null}]}],'main':[{'make':'f','as':'p'},{'call':{'res':'p'},'sig':0,'args':[]},{'return':null}]}"

-- 1 where the argument is not 0
abbrev is_not_zero : List ℕ
is_not_zero =
    script_text (codes "{'ret':'uint8','args':['sint8']}") (codes "{'name':'f','sig':0,'body':[{'when':{'arg':0},'return':1},{'return':2}]}") last

module _ (standard : Standard) where
  -- ---- moves

  makes : main_of standard increment [] ≡ make 0 0
  unfolding scripts_on_literals
  makes = refl

  calls : main_of standard increment (leaf_value (0x40 ∷ 0 ∷ 1 ∷ 0 ∷ 0 ∷ 0 ∷ 0 ∷ 0 ∷ []) ∷ []) ≡ call 0x10040 0 (leaf_value (41 ∷ 0 ∷ 0 ∷ 0 ∷ []) ∷ [])
  unfolding scripts_on_literals
  calls = refl

  prints_result : shown (main_of standard increment (leaf_value (0 ∷ 0 ∷ 1 ∷ 0 ∷ 0 ∷ 0 ∷ 0 ∷ 0 ∷ []) ∷ leaf_value (42 ∷ 0 ∷ 0 ∷ 0 ∷ []) ∷ [])) ≡ codes "42"
  unfolding scripts_on_literals
  prints_result = refl

  returns : main_of standard increment (leaf_value (0 ∷ 0 ∷ 1 ∷ 0 ∷ 0 ∷ 0 ∷ 0 ∷ 0 ∷ []) ∷ leaf_value (42 ∷ 0 ∷ 0 ∷ 0 ∷ []) ∷ void_value ∷ []) ≡ return void_value
  unfolding scripts_on_literals
  returns = refl

  adds : function_of standard increment (leaf_value (0xFF ∷ 0xFF ∷ 0xFF ∷ 0x7F ∷ []) ∷ []) 0 [] ≡ return (leaf_value (0 ∷ 0 ∷ 0 ∷ 0x80 ∷ []))
  unfolding scripts_on_literals
  adds = refl

  -- ---- whole runs

  run_of_increment : run_text (program_in standard [] increment) ≡ a_line (codes "42")
  unfolding scripts_on_literals act act_within
  run_of_increment = refl

  run_of_replaced : run_text (program_in standard [] replaced) ≡ a_line (codes "7") ++ a_line (codes "9") ++ a_line (codes "stop: wrong signature at 0x10000: called as sint64(), is sint32()")
  unfolding scripts_on_literals act act_within
  run_of_replaced = refl

  -- by a standard by which each call needs 1,280 bytes
  run_of_endless : run_text (record (program_in standard [] endless) { need = λ s. 1280 }) ≡ a_line (codes "stop: stack full: need 1280, left 256")
  unfolding scripts_on_literals act act_within
  run_of_endless = refl

  -- ---- moves that are not done

  not_done : prints standard (codes "{'when':{'of':['uint8',0]},'make':'f','as':'p'},{'print':{'res':'p'}}") ≡ codes "0x0"
  unfolding scripts_on_literals
  not_done = refl

  done : main_of standard (with_main (codes "{'when':{'of':['sint8',-1]},'make':'f','as':'p'}," ++ last)) [] ≡ make 0 0
  unfolding scripts_on_literals
  done = refl

  -- main has no user data
  not_done_by_pointer : main_of standard (with_main (codes "{'when':{'user':true},'make':'f','as':'p'}," ++ last)) [] ≡ return void_value
  unfolding scripts_on_literals
  not_done_by_pointer = refl

  zero_of_struct : shown (main_of standard (script_text (codes "{'ret':{'struct':['uint8','float']},'args':[]}") [] (codes "{'when':{'of':['sint32',0]},'call':0,'sig':0,'args':[],'as':'r'},{'print':{'res':'r'}}," ++ last)) []) ≡ codes "{0,00000000}"
  unfolding scripts_on_literals
  zero_of_struct = refl

  -- what is not done has no result, and the names of the others stay theirs
  result_after_not_done : shown (main_of standard (with_main (codes "{'when':{'of':['uint8',0]},'make':'f','as':'p'},{'make':'f','as':'q'},{'print':{'res':'q'}}," ++ last)) (leaf_value (0x40 ∷ 0 ∷ 1 ∷ 0 ∷ 0 ∷ 0 ∷ 0 ∷ 0 ∷ []) ∷ [])) ≡ codes "0x10040"
  unfolding scripts_on_literals
  result_after_not_done = refl

  -- a return that is not done, and one that is
  return_not_done : function_of standard is_not_zero (leaf_value (0 ∷ []) ∷ []) 0 [] ≡ return (leaf_value (2 ∷ []))
  unfolding scripts_on_literals
  return_not_done = refl

  return_done : function_of standard is_not_zero (leaf_value (0x80 ∷ []) ∷ []) 0 [] ≡ return (leaf_value (1 ∷ []))
  unfolding scripts_on_literals
  return_done = refl

  -- ---- functions and user data

  user_absent : main_of standard (with_main (codes "{'make':'f'}," ++ last)) [] ≡ make 0 0
  unfolding scripts_on_literals
  user_absent = refl

  user_passed : function_of standard (script_text two_signatures (codes "{'name':'f','sig':1,'body':[{'make':'g','user':{'user':true}},{'return':null}]},{'name':'g','sig':1,'body':[{'return':null}]}") last) [] 0x1122 [] ≡ make 1 0x1122
  unfolding scripts_on_literals
  user_passed = refl

  frees : main_of standard (with_main (codes "{'free':65600}," ++ last)) [] ≡ free 65600
  unfolding scripts_on_literals
  frees = refl

  -- natives come after the script's functions, the first of a name counts
  native : (program_in standard (codes "f" ∷ codes "sum" ∷ codes "sum" ∷ []) (with_main (codes "{'make':'sum'}," ++ last))).main [] 0 [] ≡ make 2 0
  unfolding scripts_on_literals
  native = refl

  native_hidden : (program_in standard (codes "f" ∷ codes "sum" ∷ codes "sum" ∷ []) (with_main (codes "{'make':'f'}," ++ last))).main [] 0 [] ≡ make 0 0
  unfolding scripts_on_literals
  native_hidden = refl
