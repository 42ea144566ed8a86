-- The stack that each activation of a call stack has left.
use Rattle.std.proofs.Common.{◌≡◌, ℕ, zero, suc, ◌+◌, ◌-◌, ◌≤◌, Bool, true, false, List, [], ◌∷◌, Option, Some, None, refl, ap, nat_lt, if◌then◌else◌, ltb-false, arith}
use Rattle.std.specs.Prelude.{map}
use Rattle.ffi3_type_spec.specs.Signature.{Signature, signature_at}
use Rattle.ffi3_type_spec.specs.Same.{same_signature}
use Rattle.ffi3_type_spec.specs.Value.{ValueTree, void_value}
use Rattle.ffi3_place_spec.specs.Standard.{Standard, need_of, needs_of}
use Rattle.ffi3_semantics_spec.specs.declared.Closure.{Closure}
use Rattle.ffi3_semantics_spec.specs.declared.Stop.TheVariants.{TableFull, StackFull, WrongSig}
use Rattle.ffi3_semantics_spec.specs.Closures.{Closures, no_closures, closure_at, slots, first_free, slot_address, with_closure, freed}
use Rattle.ffi3_semantics_spec.specs.Move.{Move, call, make, free, print, return}
use Rattle.ffi3_semantics_spec.specs.Meaning.{Program, Activation, Acts, Effect, ends, prints, enters, stops, goes_on, End, returned, stopped, Outcome, follows, resumed, act, act_within, next_move, meaning_of, main_call, most_moves, stack_size, at_closure, call_of, callee_of, with_result, effect_of, need_at, function_at, pointer_value}
use Rattle.ffi3_semantics_spec.specs.Peak.{peak_of}
use Rattle.ffi3_small_step_spec.specs.Remainder.{Suspended}
use Rattle.ffi3_small_step_spec.specs.Nested.{depth_of, IsNested}

-- a result leaves the stack as it is
pub nested_on : (p : Program) (room : ℕ) (a : Activation) (r : ValueTree) (outer : List Suspended) → IsNested p room a outer → IsNested p room (with_result a r) outer
nested_on p room a r [] h = h
nested_on p room a r (s ∷ outer) h = h

-- calls of signatures take what they need by the standard
pub depth_is_needs : (p : Program) (std : Standard) → p.need ≡ need_of std → (sigs : List ℕ) → depth_of p sigs ≡ needs_of std (map (signature_at p.signatures) sigs)
depth_is_needs p std same [] = refl
depth_is_needs p std same (sig ∷ outer) =
    let here : need_at p sig ≡ need_of std (signature_at p.signatures sig) = ap (λ (f : Signature → ℕ). f (signature_at p.signatures sig)) same in
    omega (arith, here, depth_is_needs p std same outer)

-- ---- an entry takes the need of its signature

module _ (p : Program) (a : Activation) (ptr sig : ℕ) (callee : Activation) where
  abbrev takes : Type 0
  takes = callee.left + need_at p sig ≡ a.left

  where_room : (ptr' sig' : ℕ) (args : List ValueTree) (closure : Closure) (full : Bool) → nat_lt a.left (need_at p sig') ≡ full → (if full then stops (StackFull (need_at p sig') a.left) else enters ptr' sig' (callee_of p a sig' args closure)) ≡ enters ptr sig callee → takes
  where_room ptr' sig' args closure true room is = cc
  where_room ptr' sig' args closure false room is =
      let there : callee_of p a sig' args closure ≡ callee = cc in
      let same : sig' ≡ sig = cc in
      let left : a.left - need_at p sig' ≡ callee.left = ap (λ (c : Activation). c.left) there in
      let need : need_at p sig' ≡ need_at p sig = ap (need_at p) same in
      let fits : need_at p sig' ≤ a.left = ltb-false a.left (need_at p sig') room in
      omega (arith, left, need, fits)

  where_right : (ptr' sig' : ℕ) (args : List ValueTree) (closure : Closure) (right : Bool) → (if right then (if nat_lt a.left (need_at p sig') then stops (StackFull (need_at p sig') a.left) else enters ptr' sig' (callee_of p a sig' args closure)) else stops (WrongSig ptr' sig' closure.sig)) ≡ enters ptr sig callee → takes
  where_right ptr' sig' args closure true is = where_room ptr' sig' args closure (nat_lt a.left (need_at p sig')) refl is
  where_right ptr' sig' args closure false is = cc

  where_found : (ptr' sig' : ℕ) (args : List ValueTree) (found : Option Closure) → at_closure found ptr' (call_of p a ptr' sig' args) ≡ enters ptr sig callee → takes
  where_found ptr' sig' args None is = cc
  where_found ptr' sig' args (Some closure) is =
      where_right ptr' sig' args closure (same_signature (signature_at p.signatures sig') (signature_at p.signatures closure.sig)) is

  where_freed : (r : ValueTree) (closures : Closures) (ptr' : ℕ) (found : Option Closure) → at_closure found ptr' (λ closure. goes_on r closures) ≡ enters ptr sig callee → takes
  where_freed r closures ptr' None is = cc
  where_freed r closures ptr' (Some closure) is = cc

  where_made : (r : ValueTree) (closures : Closures) (room : Bool) → (if room then goes_on r closures else stops TableFull) ≡ enters ptr sig callee → takes
  where_made r closures true is = cc
  where_made r closures false is = cc

pub enters_left : (p : Program) (a : Activation) (closures : Closures) (m : Move) (ptr sig : ℕ) (callee : Activation) → effect_of p a closures m ≡ enters ptr sig callee → callee.left + need_at p sig ≡ a.left
enters_left p a closures (return v) ptr sig callee is = cc
enters_left p a closures (print t v) ptr sig callee is = cc
enters_left p a closures (make func user) ptr sig callee is =
    where_made p a ptr sig callee (pointer_value (slot_address (first_free closures))) (with_closure closures (first_free closures) (Some (record { func = func; sig = (function_at p func).signature; user = user }))) (nat_lt (first_free closures) slots) is
enters_left p a closures (free ptr') ptr sig callee is =
    where_freed p a ptr sig callee void_value (freed closures ptr') ptr' (closure_at closures ptr') is
enters_left p a closures (call ptr' sig' args) ptr sig callee is =
    where_found p a ptr sig callee ptr' sig' args (closure_at closures ptr') is

-- ---- no activation takes more stack than it has left

abbrev AllFit : Program → Acts → Type 0
AllFit p acts = (a : Activation) (c : Closures) (m : ℕ) → peak_of p (acts a c m).call_tree ≤ a.left

resumed_fits : (p : Program) (acts : Acts) → AllFit p acts → (a : Activation) (ptr sig : ℕ) (args : List ValueTree) (o : Outcome) (e : End) → need_at p sig + peak_of p o.call_tree ≤ a.left → peak_of p (resumed acts a ptr sig args o e).call_tree ≤ a.left
resumed_fits p acts all a ptr sig args o (stopped stop) h = omega (arith, h)
resumed_fits p acts all a ptr sig args o (returned r) h =
    let k : peak_of p (acts (with_result a r) o.closures o.moves).call_tree ≤ a.left = all (with_result a r) o.closures o.moves in
    omega (arith, h, k)

follows_fits : (p : Program) (acts : Acts) → AllFit p acts → (a : Activation) (c : Closures) (m : ℕ) (d : Effect) → effect_of p a c (next_move p a) ≡ d → peak_of p (follows acts a c m d).call_tree ≤ a.left
follows_fits p acts all a c m (ends v) is = omega arith
follows_fits p acts all a c m (stops stop) is = omega arith
follows_fits p acts all a c m (prints t v) is =
    let k : peak_of p (acts (with_result a void_value) c m).call_tree ≤ a.left = all (with_result a void_value) c m in
    omega (arith, k)
follows_fits p acts all a c m (goes_on r c') is = all (with_result a r) c' m
follows_fits p acts all a c m (enters ptr sig callee) is =
    let o = acts callee c m in
    let inside : peak_of p (acts callee c m).call_tree ≤ callee.left = all callee c m in
    let taken : callee.left + need_at p sig ≡ a.left = enters_left p a c (next_move p a) ptr sig callee is in
    let both : need_at p sig + peak_of p (acts callee c m).call_tree ≤ a.left = omega (arith, inside, taken) in
    resumed_fits p acts all a ptr sig callee.arguments o o.end both

within_fits : (p : Program) (fuel : ℕ) → AllFit p (act_within p fuel)
unfolding act_within
within_fits p zero a c m = omega arith
within_fits p (suc fuel) a c zero = omega arith
within_fits p (suc fuel) a c (suc m) =
    follows_fits p (act_within p fuel) (within_fits p fuel) a c m (effect_of p a c (next_move p a)) refl

act_fits : (p : Program) → AllFit p (act p)
unfolding act
act_fits p a c m = within_fits p m a c m

pub peak_fits : (p : Program) → peak_of p (meaning_of p).call_tree ≤ stack_size
peak_fits p = act_fits p main_call no_closures most_moves
