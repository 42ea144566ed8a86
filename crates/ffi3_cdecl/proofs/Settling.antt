-- What ends a bracket or a declarator, by the number of brackets that are open.
use Rattle.std.proofs.Common.{◌≡◌, ℕ, zero, suc, ◌+◌, ◌-◌, Bool, true, false, cond, ltb, Option, Some, None, option_map, ap, sym, refl, ◌∙◌, arith, List}
use Rattle.ffi3_type_spec.specs.Tree.{Tree}
use Rattle.ffi3_cdecl_spec.specs.Tokens.{Token, close_round}
use Rattle.ffi3_cdecl_spec.specs.Grammar.{Kind}
use Rattle.ffi3_cdecl_spec.specs.Machine.{Where, depth, Head, Settled, the_function, State, settled, settled_ends, bracket_or_end, itself_or_bracket, nothing_or_bracket, dead}
use Rattle.ffi3_cdecl_spec.specs.Machine.{Round, unstarred, starred, brackets, bracket_inside, round_opened, open_bracket, function_named, step_function_named, step_round_closing, closing, finish, plain_member, starred_member, step_member_at}
use Rattle.ffi3_cdecl_spec.specs.Grammar.{Declaration}
use Rattle.ffi3_cdecl.specs.declared.round.Round.{Round as CodeRound}
use Rattle.ffi3_cdecl.specs.RoundOf.{round_of, bracket_closed}

one_at_least : (n : ℕ) → (n ≡ 0 → ⊥) → suc (n - 1) ≡ n
one_at_least zero some = absurd (some refl)
one_at_least (suc n) some = omega arith

pub none_open : (n k : ℕ) (u : Settled) (x : Token) (s : State) → n ≡ k → n ≡ 0 → s ≡ settled_ends u x → s ≡ bracket_or_end k u x
none_open n k u x s same none e =
    e ∙ ap (λ i. bracket_or_end i u x) (sym none ∙ same)

pub some_open : (n k : ℕ) (u : Settled) (x : Token) (s : State) → n ≡ k → (n ≡ 0 → ⊥) → s ≡ bracket_or_end (suc (n - 1)) u x → s ≡ bracket_or_end k u x
some_open n k u x s same some e =
    e ∙ ap (λ i. bracket_or_end i u x) (one_at_least n some ∙ same)

pub itself_none_open : (k : Kind) (n : ℕ) (head : Head) (ts : List Tree) (x : Token) (s : State) → n ≡ 0 → s ≡ itself_or_bracket k 0 head ts x → s ≡ itself_or_bracket k n head ts x
itself_none_open k n head ts x s none e =
    e ∙ ap (λ i. itself_or_bracket k i head ts x) (sym none)

pub itself_some_open : (k : Kind) (n : ℕ) (head : Head) (ts : List Tree) (x : Token) (s : State) → (n ≡ 0 → ⊥) → s ≡ itself_or_bracket k (suc (n - 1)) head ts x → s ≡ itself_or_bracket k n head ts x
itself_some_open k n head ts x s some e =
    e ∙ ap (λ i. itself_or_bracket k i head ts x) (one_at_least n some)

nothing_dead : (u : Settled) (x : Token) → dead ≡ nothing_or_bracket 0 u x
nothing_dead u x = refl

pub nothing_none_open : (n : ℕ) (u : Settled) (x : Token) → n ≡ 0 → dead ≡ nothing_or_bracket n u x
nothing_none_open n u x none =
    nothing_dead u x ∙ ap (λ i. nothing_or_bracket i u x) (sym none)

pub nothing_some_open : (n : ℕ) (u : Settled) (x : Token) (s : State) → (n ≡ 0 → ⊥) → s ≡ nothing_or_bracket (suc (n - 1)) u x → s ≡ nothing_or_bracket n u x
nothing_some_open n u x s some e =
    e ∙ ap (λ i. nothing_or_bracket i u x) (one_at_least n some)

-- ---- a bracket, where it has room

pub bracket_opens : (k : Kind) (o p : Round) (w : Where) (n : ℕ) (b : Bool) → n ≡ brackets o → b ≡ ltb (depth w + n) 16 → b ≡ true → p ≡ bracket_inside o → round_opened k p w ≡ open_bracket k o w
bracket_opens k o p w n b en eb fits ep =
    let room : ltb (depth w + brackets o) 16 ≡ true = ap (λ i. ltb (depth w + i) 16) (sym en) ∙ sym eb ∙ fits in
    ap (λ q. round_opened k q w) ep ∙ ap (λ t. cond {A = State} t (round_opened k (bracket_inside o) w) dead) (sym room)

pub bracket_refused : (k : Kind) (o : Round) (w : Where) (n : ℕ) (b : Bool) → n ≡ brackets o → b ≡ ltb (depth w + n) 16 → b ≡ false → dead ≡ open_bracket k o w
bracket_refused k o w n b en eb no_room =
    let room : ltb (depth w + brackets o) 16 ≡ false = ap (λ i. ltb (depth w + i) 16) (sym en) ∙ sym eb ∙ no_room in
    ap (λ t. cond {A = State} t (round_opened k (bracket_inside o) w) dead) (sym room)

-- ---- a ")" behind the function's name

pub unstarred_none : (n : ℕ) → n ≡ 0 → None ≡ bracket_closed (unstarred n)
unstarred_none n e = ap (λ i. bracket_closed (unstarred i)) (sym e)

pub unstarred_less : (n : ℕ) → (n ≡ 0 → ⊥) → Some (unstarred (n - 1)) ≡ bracket_closed (unstarred n)
unstarred_less n some =
    ap (λ i. bracket_closed (unstarred i)) (one_at_least n some)

pub starred_none : (n m : ℕ) → n ≡ 0 → None ≡ bracket_closed (starred n m)
starred_none n m e = ap (λ i. bracket_closed (starred i m)) (sym e)

pub starred_less : (n m : ℕ) → (n ≡ 0 → ⊥) → Some (starred (n - 1) m) ≡ bracket_closed (starred n m)
starred_less n m some =
    ap (λ i. bracket_closed (starred i m)) (one_at_least n some)

-- the state behind it
abbrev named_closed : List ℕ → Tree → Option Round → State
named_closed called t None = dead
named_closed called t (Some o) = function_named called t o

named_closed_is : (called : List ℕ) (t : Tree) (o : Round) → named_closed called t (bracket_closed o) ≡ step_function_named called t o close_round
named_closed_is called t (unstarred zero) = refl
named_closed_is called t (unstarred (suc n)) = refl
named_closed_is called t (starred zero m) = refl
named_closed_is called t (starred (suc n) m) = refl

pub name_closed : (called : List ℕ) (t : Tree) (o : Round) (q : Option CodeRound) (p : CodeRound) → option_map round_of q ≡ bracket_closed o → q ≡ Some p → function_named called t (round_of p) ≡ step_function_named called t o close_round
name_closed called t o q p e is =
    ap (λ r. named_closed called t (option_map round_of r)) (sym is) ∙ ap (named_closed called t) e ∙ named_closed_is called t o

pub name_not_closed : (called : List ℕ) (t : Tree) (o : Round) (q : Option CodeRound) → option_map round_of q ≡ bracket_closed o → q ≡ None → dead ≡ step_function_named called t o close_round
name_not_closed called t o q e is =
    ap (λ r. named_closed called t (option_map round_of r)) (sym is) ∙ ap (named_closed called t) e ∙ named_closed_is called t o

-- ---- behind the function's parameters

pub closing_none : (d : Declaration) (x : Token) (n : ℕ) (s : State) → n ≡ 0 → s ≡ step_round_closing (unstarred 0) d x → s ≡ step_round_closing (unstarred n) d x
closing_none d x n s none e = e ∙ ap (λ i. step_round_closing (unstarred i) d x) (sym none)

pub closing_some : (d : Declaration) (x : Token) (n : ℕ) (s : State) → (n ≡ 0 → ⊥) → s ≡ step_round_closing (unstarred (suc (n - 1))) d x → s ≡ step_round_closing (unstarred n) d x
closing_some d x n s some e = e ∙ ap (λ i. step_round_closing (unstarred i) d x) (one_at_least n some)

pub closing_star_none : (d : Declaration) (x : Token) (n m : ℕ) (s : State) → n ≡ 0 → m ≡ 0 → s ≡ step_round_closing (starred 0 0) d x → s ≡ step_round_closing (starred n m) d x
closing_star_none d x n m s en em e =
    e ∙ ap (λ i. step_round_closing (starred 0 i) d x) (sym em) ∙ ap (λ i. step_round_closing (starred i m) d x) (sym en)

pub closing_star_outside : (d : Declaration) (x : Token) (n m : ℕ) (s : State) → n ≡ 0 → (m ≡ 0 → ⊥) → s ≡ step_round_closing (starred 0 (suc (m - 1))) d x → s ≡ step_round_closing (starred n m) d x
closing_star_outside d x n m s en some e =
    e ∙ ap (λ i. step_round_closing (starred 0 i) d x) (one_at_least m some) ∙ ap (λ i. step_round_closing (starred i m) d x) (sym en)

pub closing_star_inside : (d : Declaration) (x : Token) (n m : ℕ) (s : State) → (n ≡ 0 → ⊥) → s ≡ step_round_closing (starred (suc (n - 1)) m) d x → s ≡ step_round_closing (starred n m) d x
closing_star_inside d x n m s some e =
    e ∙ ap (λ i. step_round_closing (starred i m) d x) (one_at_least n some)

-- ---- what is declared there

pub finish_none : (d : Declaration) (n : ℕ) → n ≡ 0 → Some d ≡ finish (closing (unstarred n) d)
finish_none d n e = ap (λ i. finish (closing (unstarred i) d)) (sym e)

pub finish_some : (d : Declaration) (n : ℕ) → (n ≡ 0 → ⊥) → None ≡ finish (closing (unstarred n) d)
finish_some d n some =
    ap (λ i. finish (closing (unstarred i) d)) (one_at_least n some)

pub finish_star_none : (d : Declaration) (n m : ℕ) → n ≡ 0 → m ≡ 0 → Some d ≡ finish (closing (starred n m) d)
finish_star_none d n m en em =
    ap (λ i. finish (closing (starred 0 i) d)) (sym em) ∙ ap (λ i. finish (closing (starred i m) d)) (sym en)

pub finish_star_outside : (d : Declaration) (n m : ℕ) → n ≡ 0 → (m ≡ 0 → ⊥) → None ≡ finish (closing (starred n m) d)
finish_star_outside d n m en some =
    ap (λ i. finish (closing (starred 0 i) d)) (one_at_least m some) ∙ ap (λ i. finish (closing (starred i m) d)) (sym en)

finish_deep : (d : Declaration) (n m : ℕ) → None ≡ finish (closing (starred (suc n) m) d)
finish_deep d n zero = refl
finish_deep d n (suc m) = refl

pub finish_star_inside : (d : Declaration) (n m : ℕ) → (n ≡ 0 → ⊥) → None ≡ finish (closing (starred n m) d)
finish_star_inside d n m some =
    finish_deep d (n - 1) m ∙ ap (λ i. finish (closing (starred i m) d)) (one_at_least n some)

pub settled_none : (d : Declaration) (n : ℕ) → n ≡ 0 → Some d ≡ finish (settled (the_function d n))
settled_none d n e = ap (λ i. finish (settled (the_function d i))) (sym e)

pub settled_some : (d : Declaration) (n : ℕ) → (n ≡ 0 → ⊥) → None ≡ finish (settled (the_function d n))
settled_some d n some =
    ap (λ i. finish (settled (the_function d i))) (one_at_least n some)

-- ---- behind a member's name

pub plain_none : (t : Tree) (ns : List ℕ) (ts : List Tree) (w : Where) (x : Token) (n : ℕ) (s : State) → n ≡ 0 → s ≡ step_member_at (plain_member t ns 0) ts w x → s ≡ step_member_at (plain_member t ns n) ts w x
plain_none t ns ts w x n s none e = e ∙ ap (λ i. step_member_at (plain_member t ns i) ts w x) (sym none)

pub plain_some : (t : Tree) (ns : List ℕ) (ts : List Tree) (w : Where) (x : Token) (n : ℕ) (s : State) → (n ≡ 0 → ⊥) → s ≡ step_member_at (plain_member t ns (suc (n - 1))) ts w x → s ≡ step_member_at (plain_member t ns n) ts w x
plain_some t ns ts w x n s some e = e ∙ ap (λ i. step_member_at (plain_member t ns i) ts w x) (one_at_least n some)

pub starred_member_none : (k : Kind) (ns : List ℕ) (ts : List Tree) (w : Where) (x : Token) (n m : ℕ) (s : State) → n ≡ 0 → m ≡ 0 → s ≡ step_member_at (starred_member k ns 0 0) ts w x → s ≡ step_member_at (starred_member k ns n m) ts w x
starred_member_none k ns ts w x n m s en em e =
    e ∙ ap (λ i. step_member_at (starred_member k ns 0 i) ts w x) (sym em) ∙ ap (λ i. step_member_at (starred_member k ns i m) ts w x) (sym en)

pub starred_member_outside : (k : Kind) (ns : List ℕ) (ts : List Tree) (w : Where) (x : Token) (n m : ℕ) (s : State) → n ≡ 0 → (m ≡ 0 → ⊥) → s ≡ step_member_at (starred_member k ns 0 (suc (m - 1))) ts w x → s ≡ step_member_at (starred_member k ns n m) ts w x
starred_member_outside k ns ts w x n m s en some e =
    e ∙ ap (λ i. step_member_at (starred_member k ns 0 i) ts w x) (one_at_least m some) ∙ ap (λ i. step_member_at (starred_member k ns i m) ts w x) (sym en)

pub starred_member_inside : (k : Kind) (ns : List ℕ) (ts : List Tree) (w : Where) (x : Token) (n m : ℕ) (s : State) → (n ≡ 0 → ⊥) → s ≡ step_member_at (starred_member k ns (suc (n - 1)) m) ts w x → s ≡ step_member_at (starred_member k ns n m) ts w x
starred_member_inside k ns ts w x n m s some e =
    e ∙ ap (λ i. step_member_at (starred_member k ns i m) ts w x) (one_at_least n some)
