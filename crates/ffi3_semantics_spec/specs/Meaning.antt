-- The direct meaning of a program, its big-step semantics: a recursion on values, without registers, frames or addresses of the stack. Its one number of the machine is the bytes of stack that are left.
use Rattle.std.specs.Prelude.{ℕ, zero, suc, ◌+◌, ◌-◌, List, [], ◌∷◌, ◌++◌, length, slice_index_or, Option, Some, None}
use Rattle.std.specs.Prelude.{if◌then◌else◌, nat_lt}
use Rattle.ffi3_type_spec.specs.Tree.{Tree}
use Rattle.ffi3_type_spec.specs.Signature.{Signature, signature_at}
use Rattle.ffi3_type_spec.specs.Same.{same_signature}
use Rattle.ffi3_type_spec.specs.Value.{ValueTree, void_value, leaf_value}
use Rattle.std.specs.Int.{w64, to_le_bytes}
use Rattle.ffi3_type_spec.specs.declared.limits.TheConstants.{STACK_BYTES, MOST_MOVES}
use Rattle.ffi3_semantics_spec.specs.declared.Closure.{Closure}
use Rattle.ffi3_semantics_spec.specs.declared.Stop.{Stop}
use Rattle.ffi3_semantics_spec.specs.declared.Stop.TheVariants.{NoClosure, WrongSig, TableFull, StackFull, MoveLimit}
use Rattle.ffi3_semantics_spec.specs.Move.{Move, call, make, free, print, return, Behaviour}
use Rattle.ffi3_semantics_spec.specs.Closures.{Closures, no_closures, slots, slot_address, closure_at, first_free}
use Rattle.ffi3_semantics_spec.specs.Closures.{with_closure, freed}

-- a function: what it does, and the number of its signature
pub record Function : Type 0 where
  pub behaviour : Behaviour
  pub signature : ℕ

-- the signatures and functions by number, main, and the bytes of stack that a call of a signature needs
pub record Program : Type 0 where
  pub signatures : List Signature
  pub functions : List Function
  pub main : Behaviour
  pub need : Signature → ℕ

abbrev pub stack_size : ℕ
stack_size = STACK_BYTES

abbrev pub most_moves : ℕ
most_moves = MOST_MOVES

-- a function that returns at once
abbrev pub idle : Function
idle = record { behaviour = λ args user results. return void_value; signature = 0 }

abbrev pub function_at : Program → ℕ → Function
function_at p k = slice_index_or p.functions k idle

abbrev pub need_at : Program → ℕ → ℕ
need_at p sig = p.need (signature_at p.signatures sig)

-- whose body an activation runs
pub data Who : Type 0 where
  main : Who
  function : ℕ → Who

abbrev pub behaviour_of : Program → Who → Behaviour
behaviour_of p main = p.main
behaviour_of p (function k) = (function_at p k).behaviour

-- an activation: whose, with which arguments and user data, the bytes of stack left below it, and the results of its moves so far
pub record Activation : Type 0 where
  pub who : Who
  pub arguments : List ValueTree
  pub user : ℕ
  pub left : ℕ
  pub results : List ValueTree

abbrev pub with_result : Activation → ValueTree → Activation
with_result a r = record a { results = a.results ++ r ∷ [] }

abbrev pub next_move : Program → Activation → Move
next_move p a = behaviour_of p a.who a.arguments a.user a.results

-- a pointer as a value
abbrev pub pointer_value : ℕ → ValueTree
pointer_value address = leaf_value (to_le_bytes w64 address)

-- The call tree of an activation: its lines and its calls in order, and last the line of a stop. A call has the call tree of its function inside it, and its result, or none where the run stopped in it.
mutual
  pub data TreeNode : Type 0 where
    line : Tree → ValueTree → TreeNode
    called : (pointer signature : ℕ) → (arguments : List ValueTree) → (inside : CallTree)
        → (result : Option ValueTree) → TreeNode
    stop_line : Stop → TreeNode

  pub data CallTree : Type 0 where
    no_nodes : CallTree
    node : TreeNode → CallTree → CallTree

-- what a move does at once: it ends the activation, or stops the run, or goes on with a result, or enters a function
pub data Effect : Type 0 where
  ends : ValueTree → Effect
  stops : Stop → Effect
  prints : Tree → ValueTree → Effect
  goes_on : (result : ValueTree) → Closures → Effect
  enters : (pointer signature : ℕ) → Activation → Effect

abbrev pub at_closure : Option Closure → ℕ → (Closure → Effect) → Effect
at_closure None ptr go = stops (NoClosure ptr)
at_closure (Some closure) ptr go = go closure

-- the activation that a call of a closure starts
abbrev pub callee_of : Program → Activation → ℕ → List ValueTree → Closure → Activation
callee_of p a sig args closure = record {
  who = function closure.func;
  arguments = args;
  user = closure.user;
  left = a.left - need_at p sig;
  results = [];
}

-- a call enters a live closure of its own signature, where the stack suffices
abbrev pub call_of : Program → Activation → ℕ → ℕ → List ValueTree → Closure → Effect
call_of p a ptr sig args closure =
    if same_signature (signature_at p.signatures sig) (signature_at p.signatures closure.sig)
    then (if nat_lt a.left (need_at p sig)
    then stops (StackFull (need_at p sig) a.left)
    else enters ptr sig (callee_of p a sig args closure))
    else stops (WrongSig ptr sig closure.sig)

abbrev pub effect_of : Program → Activation → Closures → Move → Effect
effect_of p a closures (return v) = ends v
effect_of p a closures (print t v) = prints t v
effect_of p a closures (make func user) =
    if nat_lt (first_free closures) slots
    then goes_on (pointer_value (slot_address (first_free closures)))
    (with_closure closures (first_free closures)
    (Some (record { func = func; sig = (function_at p func).signature; user = user })))
    else stops TableFull
effect_of p a closures (free ptr) =
    at_closure (closure_at closures ptr) ptr (λ closure. goes_on void_value (freed closures ptr))
effect_of p a closures (call ptr sig args) =
    at_closure (closure_at closures ptr) ptr (call_of p a ptr sig args)

pub data End : Type 0 where
  returned : ValueTree → End
  stopped : Stop → End

-- how an activation ended, the closures and moves that are left, and its call tree
pub record Outcome : Type 0 where
  pub end : End
  pub closures : Closures
  pub moves : ℕ
  pub call_tree : CallTree

abbrev pub after : TreeNode → Outcome → Outcome
after d o = record o { call_tree = node d o.call_tree }

abbrev pub stops_with : Stop → Closures → ℕ → Outcome
stops_with stop closures moves =
    record { end = stopped stop; closures = closures; moves = moves; call_tree = node (stop_line stop) no_nodes }

-- what follows where closures and moves left are given
abbrev pub Acts : Type 0
Acts = Activation → Closures → ℕ → Outcome

-- an activation goes on once the function that it called has ended; where the run stopped in that, its call tree ends there
abbrev pub resumed : Acts → Activation → ℕ → ℕ → List ValueTree → Outcome → End → Outcome
resumed acts a ptr sig args o (stopped stop) =
    record o { call_tree = node (called ptr sig args o.call_tree None) no_nodes }
resumed acts a ptr sig args o (returned r) =
    after (called ptr sig args o.call_tree (Some r)) (acts (with_result a r) o.closures o.moves)

abbrev pub resumed_after : Acts → Activation → ℕ → ℕ → List ValueTree → Outcome → Outcome
resumed_after acts a ptr sig args o = resumed acts a ptr sig args o o.end

-- one move and all that follows it; `moves` are left after it
abbrev pub follows : Acts → Activation → Closures → ℕ → Effect → Outcome
follows acts a closures moves (ends v) =
    record { end = returned v; closures = closures; moves = moves; call_tree = no_nodes }
follows acts a closures moves (stops stop) = stops_with stop closures moves
follows acts a closures moves (prints t v) =
    after (line t v) (acts (with_result a void_value) closures moves)
follows acts a closures moves (goes_on r closures') = acts (with_result a r) closures' moves
follows acts a closures moves (enters ptr sig callee) =
    resumed_after acts a ptr sig callee.arguments (acts callee closures moves)

-- ---- as far as a depth of `fuel` moves
unfoldable pub act_within : Program → ℕ → Activation → Closures → ℕ → Outcome
act_within p zero a closures moves = stops_with MoveLimit closures 0
act_within p (suc fuel) a closures zero = stops_with MoveLimit closures 0
act_within p (suc fuel) a closures (suc moves) =
    follows (act_within p fuel) a closures moves (effect_of p a closures (next_move p a))

-- How an activation acts. A move is counted before it is done, and none is asked for where none is left; so no depth is greater than the moves left, which are fuel enough: `Recursion.antt` has this recursion without fuel.
unfoldable pub act : Program → Activation → Closures → ℕ → Outcome
act p a closures moves = act_within p moves a closures moves

abbrev pub main_call : Activation
main_call = record { who = main; arguments = []; user = 0; left = stack_size; results = [] }

-- THE DIRECT MEANING OF A PROGRAM: main acts, with the whole stack, no closures and all moves left.
abbrev pub meaning_of : Program → Outcome
meaning_of p = act p main_call no_closures most_moves

-- ---- natives

-- A native: what it does, and the signatures that its calls' numbers count in; number 0 is its own. The one function that it makes is itself, number 0.
pub record Native : Type 0 where
  pub behaviour : Behaviour
  pub signatures : List Signature

-- a native's move by the numbers of the run, where its signatures begin at `first` and it is function `own`
abbrev pub renumbered : (first own : ℕ) → Move → Move
renumbered first own (call ptr sig args) = call ptr (first + sig) args
renumbered first own (make func user) = make (own + func) user
renumbered first own move = move

abbrev pub function_of : (first own : ℕ) → Native → Function
function_of first own n =
    record { behaviour = λ args user results. renumbered first own (n.behaviour args user results); signature = first }

abbrev pub functions_from : (first own : ℕ) → List Native → List Function
functions_from first own [] = []
functions_from first own (n ∷ ns) =
    function_of first own n ∷ functions_from (first + length n.signatures) (own + 1) ns

abbrev pub all_signatures : List Native → List Signature
all_signatures [] = []
all_signatures (n ∷ ns) = n.signatures ++ all_signatures ns

-- A program together with natives: their functions are numbered after the program's own, and each one's signatures after those before it.
abbrev pub with_natives : Program → List Native → Program
with_natives p natives = record p {
  signatures = p.signatures ++ all_signatures natives;
  functions = p.functions ++ functions_from (length p.signatures) (length p.functions) natives;
}
