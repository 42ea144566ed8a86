-- The direct meaning is the plain recursion: fuel beyond the moves left changes nothing.
use Rattle.std.proofs.Common.{◌≡◌, ℕ, zero, suc, ◌≤◌, List, refl, ap, sym, ◌∙◌, arith}
use Rattle.std.specs.Prelude.{Some}
use Rattle.ffi3_type_spec.specs.Value.{ValueTree, void_value}
use Rattle.ffi3_semantics_spec.specs.declared.Stop.TheVariants.{MoveLimit}
use Rattle.ffi3_semantics_spec.specs.Closures.{Closures}
use Rattle.ffi3_semantics_spec.specs.Recursion.{IsPlainRecursion}
use Rattle.ffi3_semantics_spec.specs.Meaning.{Program, Activation, Acts, Effect, ends, stops, prints, goes_on, enters, End, returned, stopped, Outcome, stops_with, follows, resumed, resumed_after, with_result, effect_of, next_move, after, called, line, act, act_within}

-- the moves never rise, and fuel beyond the moves left changes nothing
abbrev NeverRises : Acts → Type 0
NeverRises acts = (a : Activation) (c : Closures) (m : ℕ) → (acts a c m).moves ≤ m

falls_resumed : (acts : Acts) → NeverRises acts → (a : Activation) (ptr sig : ℕ) (args : List ValueTree) (o : Outcome) (e : End) (m : ℕ) → o.moves ≤ m → (resumed acts a ptr sig args o e).moves ≤ m
falls_resumed acts h a ptr sig args o (stopped stop) m l = l
falls_resumed acts h a ptr sig args o (returned r) m l = let k = h (with_result a r) o.closures o.moves in omega (arith, k, l)

falls_follows : (acts : Acts) → NeverRises acts → (a : Activation) (c : Closures) (m : ℕ) (d : Effect) → (follows acts a c m d).moves ≤ m
falls_follows acts h a c m (ends v) = omega arith
falls_follows acts h a c m (stops stop) = omega arith
falls_follows acts h a c m (prints t v) = h (with_result a void_value) c m
falls_follows acts h a c m (goes_on r c') = h (with_result a r) c' m
falls_follows acts h a c m (enters ptr sig callee) =
    let o = acts callee c m in falls_resumed acts h a ptr sig callee.arguments o o.end m (h callee c m)

pub falls : (p : Program) (fuel : ℕ) → NeverRises (act_within p fuel)
unfolding act_within
falls p zero a c m = omega arith
falls p (suc fuel) a c zero = omega arith
falls p (suc fuel) a c (suc m) =
    let k = falls_follows (act_within p fuel) (falls p fuel) a c m (effect_of p a c (next_move p a)) in omega (arith, k)

abbrev Agree : Acts → Acts → ℕ → Type 0
Agree f g m = (a : Activation) (c : Closures) (n : ℕ) → n ≤ m → f a c n ≡ g a c n

agree_resumed : (f g : Acts) (m : ℕ) → Agree f g m → (a : Activation) (ptr sig : ℕ) (args : List ValueTree) (o : Outcome) (e : End) → o.moves ≤ m → resumed f a ptr sig args o e ≡ resumed g a ptr sig args o e
agree_resumed f g m h a ptr sig args o (stopped stop) l = refl
agree_resumed f g m h a ptr sig args o (returned r) l =
    ap (after (called ptr sig args o.call_tree (Some r))) (h (with_result a r) o.closures o.moves l)

agree_follows : (f g : Acts) → NeverRises g → (a : Activation) (c : Closures) (m : ℕ) (d : Effect) → Agree f g m → follows f a c m d ≡ follows g a c m d
agree_follows f g l a c m (ends v) h = refl
agree_follows f g l a c m (stops stop) h = refl
agree_follows f g l a c m (prints t v) h = ap (after (line t v)) (h (with_result a void_value) c m (omega arith))
agree_follows f g l a c m (goes_on r c') h = h (with_result a r) c' m (omega arith)
agree_follows f g l a c m (enters ptr sig callee) h =
    ap (resumed_after f a ptr sig callee.arguments) (h callee c m (omega arith))
    ∙ (let o = g callee c m in agree_resumed f g m h a ptr sig callee.arguments o o.end (l callee c m))

at_limit : (p : Program) (fuel : ℕ) (a : Activation) (c : Closures) → act_within p fuel a c 0 ≡ stops_with MoveLimit c 0
unfolding act_within
at_limit p zero a c = refl
at_limit p (suc fuel) a c = refl

pub same_within : (p : Program) (fuel fuel' : ℕ) (a : Activation) (c : Closures) (m : ℕ) → m ≤ fuel → m ≤ fuel' → act_within p fuel a c m ≡ act_within p fuel' a c m
unfolding act_within
same_within p f g a c zero l l' = at_limit p f a c ∙ sym (at_limit p g a c)
same_within p zero g a c (suc m) l l' = absurd (omega (arith, l))
same_within p (suc f) zero a c (suc m) l l' = absurd (omega (arith, l'))
same_within p (suc f) (suc g) a c (suc m) l l' =
    agree_follows (act_within p f) (act_within p g) (falls p g) a c m (effect_of p a c (next_move p a)) (λ b d n k. same_within p f g b d n (omega (arith, k, l)) (omega (arith, k, l')))

-- THE RECURSION, without fuel
pub act-is : (p : Program) (a : Activation) (c : Closures) (m : ℕ) → act p a c (suc m) ≡ follows (act p) a c m (effect_of p a c (next_move p a))
unfolding act act_within
act-is p a c m =
    agree_follows (act_within p m) (act p) (λ b d n. falls p n b d n) a c m (effect_of p a c (next_move p a)) (λ b d n k. same_within p m n b d n k (omega arith))

pub is_plain_recursion : (p : Program) → IsPlainRecursion p
unfolding act act_within
is_plain_recursion p = record {
  none_left = λ a c. refl;
  one_more = act-is p;
  never_rise = λ a c m. falls p m a c m;
}
