-- With more bytes of stack an activation that did not stop for want of them acts the same, by induction on the depth.
use Rattle.std.proofs.Common.{◌≡◌, ℕ, zero, suc, ◌-◌, ◌≤◌, Bool, true, false, List, refl, ap, sym, ◌∙◌, arith}
use Rattle.std.specs.Prelude.{Option, Some, None, if◌then◌else◌, nat_lt}
use Rattle.std.proofs.lemmas.Bool.Decides.{nat_tests}
use Rattle.ffi3_type_spec.specs.Signature.{signature_at}
use Rattle.ffi3_type_spec.specs.Same.{same_signature}
use Rattle.ffi3_type_spec.specs.Value.{ValueTree, void_value}
use Rattle.ffi3_semantics_spec.specs.declared.Closure.{Closure}
use Rattle.ffi3_semantics_spec.specs.declared.Stop.TheVariants.{StackFull, WrongSig}
use Rattle.ffi3_semantics_spec.specs.Move.{Move, call, make, free, print, return}
use Rattle.ffi3_semantics_spec.specs.Closures.{Closures, closure_at}
use Rattle.ffi3_semantics_spec.specs.Meaning.{Program, Activation, Acts, Effect, ends, stops, prints, goes_on, enters, End, returned, stopped, Outcome, follows, resumed, resumed_after, with_result, effect_of, at_closure, call_of, callee_of, need_at, next_move, after, called, line, act, act_within}
use Rattle.ffi3_semantics_spec.specs.MoreStack.{StoppedForStack, with_left, MoreStackIsTheSame}

abbrev IsSameWithMore : Acts → Type 0
IsSameWithMore f =
    (a : Activation) (c : Closures) (m more : ℕ) → a.left ≤ more → ¬ StoppedForStack (f a c m).end → f (with_left a more) c m ≡ f a c m

-- a call that ended in this way did not stop for want of stack, if what follows it does not
inside_other : (f : Acts) (a : Activation) (ptr sig : ℕ) (args : List ValueTree) (o : Outcome) (e : End) → o.end ≡ e → ¬ StoppedForStack (resumed f a ptr sig args o e).end → ¬ StoppedForStack o.end
inside_other f a ptr sig args o (stopped stop) is other full = other full
inside_other f a ptr sig args o (returned r) is other full =
    let e : returned r ≡ stopped (StackFull full.need full.left) = sym is ∙ full.is in cc

-- one move, where all that follows it is the same with more
module _ (f : Acts) (same : IsSameWithMore f) (a : Activation) (more : ℕ) (enough : a.left ≤ more) where
  resumed_same : (ptr sig : ℕ) (args : List ValueTree) (o : Outcome) (e : End) → ¬ StoppedForStack (resumed f a ptr sig args o e).end → resumed f (with_left a more) ptr sig args o e ≡ resumed f a ptr sig args o e
  resumed_same ptr sig args o (stopped stop) other = refl
  resumed_same ptr sig args o (returned r) other =
      ap (after (called ptr sig args o.call_tree (Some r))) (same (with_result a r) o.closures o.moves more enough other)

  -- an effect that does not depend on the stack
  follows_same : (c : Closures) (m : ℕ) (d : Effect) → ¬ StoppedForStack (follows f a c m d).end → follows f (with_left a more) c m d ≡ follows f a c m d
  follows_same c m (ends v) other = refl
  follows_same c m (stops stop) other = refl
  follows_same c m (prints t v) other =
      ap (after (line t v)) (same (with_result a void_value) c m more enough other)
  follows_same c m (goes_on r c') other = same (with_result a r) c' m more enough other
  follows_same c m (enters ptr sig callee) other =
      let o = f callee c m in resumed_same ptr sig callee.arguments o o.end other

  module _ (p : Program) (c : Closures) (m ptr sig : ℕ) (args : List ValueTree) where
    -- a call of a live closure: `full` and `full'` say whether the stack is too small for it
    abbrev by_room : Activation → Closure → Bool → Effect
    by_room b closure full =
        if full
        then stops (StackFull (need_at p sig) b.left)
        else enters ptr sig (callee_of p b sig args closure)

    room_same : (closure : Closure) (full full' : Bool) → nat_lt a.left (need_at p sig) ≡ full → nat_lt more (need_at p sig) ≡ full' → ¬ StoppedForStack (follows f a c m (by_room a closure full)).end → follows f (with_left a more) c m (by_room (with_left a more) closure full') ≡ follows f a c m (by_room a closure full)
    room_same closure true full' e e' other =
        absurd (other (record { need = need_at p sig; left = a.left; is = refl }))
    room_same closure false true e e' other = absurd (grind (arith, nat_tests, e, e', enough))
    room_same closure false false e e' other =
        let callee = callee_of p a sig args closure in
        let o = f callee c m in
        let less : a.left - need_at p sig ≤ more - need_at p sig = omega (arith, enough) in
        ap (resumed_after f (with_left a more) ptr sig args) (same callee c m (more - need_at p sig) less (inside_other f a ptr sig args o o.end refl other))
        ∙ resumed_same ptr sig args o o.end other

    abbrev by_signature : Activation → Closure → Bool → Effect
    by_signature b closure right =
        if right
        then by_room b closure (nat_lt b.left (need_at p sig))
        else stops (WrongSig ptr sig closure.sig)

    signature_same : (closure : Closure) (right : Bool) → ¬ StoppedForStack (follows f a c m (by_signature a closure right)).end → follows f (with_left a more) c m (by_signature (with_left a more) closure right) ≡ follows f a c m (by_signature a closure right)
    signature_same closure false other = refl
    signature_same closure true other =
        room_same closure (nat_lt a.left (need_at p sig)) (nat_lt more (need_at p sig)) refl refl other

    call_same : (o : Option Closure) → ¬ StoppedForStack (follows f a c m (at_closure o ptr (call_of p a ptr sig args))).end → follows f (with_left a more) c m (at_closure o ptr (call_of p (with_left a more) ptr sig args)) ≡ follows f a c m (at_closure o ptr (call_of p a ptr sig args))
    call_same None other = refl
    call_same (Some closure) other =
        signature_same closure (same_signature (signature_at p.signatures sig) (signature_at p.signatures closure.sig)) other

  move_same : (p : Program) (c : Closures) (m : ℕ) (move : Move) → ¬ StoppedForStack (follows f a c m (effect_of p a c move)).end → follows f (with_left a more) c m (effect_of p (with_left a more) c move) ≡ follows f a c m (effect_of p a c move)
  move_same p c m (return v) other = refl
  move_same p c m (print t v) other = follows_same c m (prints t v) other
  move_same p c m (make func user) other =
      follows_same c m (effect_of p a c (make func user)) other
  move_same p c m (free ptr) other = follows_same c m (effect_of p a c (free ptr)) other
  move_same p c m (call ptr sig args) other =
      call_same p c m ptr sig args (closure_at c ptr) other

same_within_more : (p : Program) (fuel : ℕ) → IsSameWithMore (act_within p fuel)
unfolding act_within
same_within_more p zero a c m more enough other = refl
same_within_more p (suc fuel) a c zero more enough other = refl
same_within_more p (suc fuel) a c (suc m) more enough other =
    move_same (act_within p fuel) (same_within_more p fuel) a more enough p c m (next_move p a) other

pub more_stack_is_the_same : (p : Program) → MoreStackIsTheSame p
unfolding act
more_stack_is_the_same p a c m more enough other =
    same_within_more p m a c m more enough other
