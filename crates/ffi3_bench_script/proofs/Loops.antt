-- One turn of each loop, over plain variables.
use Rattle.std.proofs.Common.{◌≡◌, ℕ, zero, suc, ◌+◌, ◌-◌, ◌*◌, ◌<◌, ◌≤◌, List, [], ◌∷◌, ◌++◌, map, sym, ap, ◌∙◌, append_assoc, append-nil, arith}
use Rattle.std.proofs.lemmas.List.{map-append}
use Rattle.ffi3_type_spec.specs.Tree.{Tree, scalar, u64}
use Rattle.ffi3_script_spec.specs.Script.{Expression, outcome, sum, return, print, return_void}
use Rattle.ffi3_script_spec.specs.Script as script
use Rattle.ffi3_script_spec.specs.Made.{next_state, drawn, made_type, drawn_types, state_after, types_at, with_arguments, own_total, does, made_call, made_body, total_of, made_calls}
use Rattle.ffi3_script_body.specs.ExprOf.{script_move_of, script_moves_of}
use Rattle.ffi3_script_body.specs.declared.moves.ScriptMove.{ScriptMove}
use Rattle.ffi3_bench_script.specs.KindOf.{type_of, types_of}
use Rattle.ffi3_bench_script.specs.declared.kinds.Kind.{Kind}

-- one more at the end, before a rest
more-then : {X Y : Type 0} (f : X → Y) (xs more : List X) (x : X) (y : Y) (rest : List Y) → more ≡ xs ++ x ∷ [] → f x ≡ y → map f more ++ rest ≡ map f xs ++ y ∷ rest
more-then f xs more x y rest pushed is =
    ap (λ us. map f us ++ rest) pushed ∙ ap (λ us. us ++ rest) (map-append f xs (x ∷ [])) ∙ append_assoc (map f xs) (f x ∷ []) rest ∙ ap (λ u. map f xs ++ u ∷ rest) is

-- one fewer is left
one-less : (count counter : ℕ) → counter < count → count - counter ≡ suc (count - (counter + 1))
one-less count counter below = omega (arith, below)

-- ---- draws of kinds

pub draws-turn : (kinds more : List Kind) (kind : Kind) (count counter x y number : ℕ) (ts : List Tree) → types_of kinds ++ drawn_types (count - counter) x ≡ ts → more ≡ kinds ++ kind ∷ [] → counter < count → y ≡ next_state x → number ≡ drawn 8 y → type_of kind ≡ made_type number → types_of more ++ drawn_types (count - (counter + 1)) y ≡ ts
draws-turn kinds more kind count counter x y number ts so_far pushed below moved is same =
    let rest : List Tree = drawn_types (count - (counter + 1)) y in
    let here : type_of kind ≡ made_type (drawn 8 (next_state x)) = same ∙ ap made_type is ∙ ap (λ z. made_type (drawn 8 z)) moved in
    more-then type_of kinds more kind (made_type (drawn 8 (next_state x))) rest pushed here
    ∙ ap (λ z. types_of kinds ++ made_type (drawn 8 (next_state x)) ∷ drawn_types (count - (counter + 1)) z) moved
    ∙ ap (λ n. types_of kinds ++ drawn_types n x) (sym (one-less count counter below))
    ∙ so_far

pub state-turn : (count counter x y s : ℕ) → state_after (count - counter) x ≡ s → counter < count → y ≡ next_state x → state_after (count - (counter + 1)) y ≡ s
state-turn count counter x y s so_far below moved =
    ap (state_after (count - (counter + 1))) moved ∙ ap (λ n. state_after n x) (sym (one-less count counter below)) ∙ so_far

-- ---- bodies

pub body-first : (types : List (List Tree)) (s : ℕ) (moves : List ScriptMove) (one : ScriptMove) (start value : Expression) → s ≤ 0 → moves ≡ one ∷ [] → script_move_of one ≡ does (return value) → value ≡ with_arguments start 0 (types_at types s) → start ≡ own_total (types_at types s) → script_moves_of moves ≡ made_body types s
body-first types zero moves one start value low are is value_is start_is =
    ap script_moves_of are ∙ ap (λ m. m ∷ []) (is ∙ ap (λ e. does (return e)) (value_is ∙ ap (λ e. with_arguments e 0 (types_at types 0)) start_is))
body-first types (suc s) moves one start value low are is value_is start_is = absurd (omega (arith, low))

pub body-later : (types : List (List Tree)) (s : ℕ) (moves : List ScriptMove) (call one : ScriptMove) (start value : Expression) → 0 < s → moves ≡ call ∷ one ∷ [] → script_move_of call ≡ made_call types (s - 1) 0 (own_total (types_at types s)) → script_move_of one ≡ does (return value) → value ≡ with_arguments start 0 (types_at types s) → start ≡ sum u64 (own_total (types_at types s)) (outcome 0) → script_moves_of moves ≡ made_body types s
body-later types zero moves call one start value some are call_is is value_is start_is = absurd (omega (arith, some))
body-later types (suc s) moves call one start value some are call_is is value_is start_is =
    let before : suc s - 1 ≡ s = omega arith in
    let ts : List Tree = types_at types (suc s) in
    let returned : script_move_of one ≡ does (return (with_arguments (sum u64 (own_total ts) (outcome 0)) 0 ts)) = is ∙ ap (λ e. does (return e)) (value_is ∙ ap (λ e. with_arguments e 0 ts) start_is) in
    let called : script_move_of call ≡ made_call types s 0 (own_total ts) = call_is ∙ ap (λ r. made_call types r 0 (own_total ts)) before in
    ap script_moves_of are ∙ ap (λ m. m ∷ script_move_of one ∷ []) called ∙ ap (λ m. made_call types s 0 (own_total ts) ∷ m ∷ []) returned

-- ---- main

pub calls-turn : (types : List (List Tree)) (moves more : List ScriptMove) (one : ScriptMove) (calls j x x' x'' s v : ℕ) (total : Expression) (whole : List script.ScriptMove) → script_moves_of moves ++ made_calls types (calls - j) j x ≡ whole → j < calls → x' ≡ next_state x → s ≡ drawn 4 x' → x'' ≡ next_state x' → v ≡ drawn 100 x'' → total ≡ total_of j → script_move_of one ≡ made_call types s v total → more ≡ moves ++ one ∷ []
    → script_moves_of more ++ made_calls types (calls - (j + 1)) (j + 1) x'' ≡ whole
calls-turn types moves more one calls j x x' x'' s v total whole so_far below first s_is second v_is total_is is pushed =
    let n = calls - (j + 1) in
    let y' = next_state x in
    let y'' = next_state y' in
    let x_is : x'' ≡ y'' = second ∙ ap next_state first in
    let s_there : s ≡ drawn 4 y' = s_is ∙ ap (drawn 4) first in
    let v_there : v ≡ drawn 100 y'' = v_is ∙ ap (drawn 100) x_is in
    let called : script_move_of one ≡ made_call types (drawn 4 y') (drawn 100 y'') (total_of j) = is ∙ ap (λ r. made_call types r v total) s_there ∙ ap (λ w. made_call types (drawn 4 y') w total) v_there ∙ ap (made_call types (drawn 4 y') (drawn 100 y'')) total_is in
    let next : j + 1 ≡ suc j = omega arith in
    more-then script_move_of moves more one (made_call types (drawn 4 y') (drawn 100 y'') (total_of j)) (made_calls types n (j + 1) x'') pushed called
    ∙ ap (λ i. script_moves_of moves ++ made_call types (drawn 4 y') (drawn 100 y'') (total_of j) ∷ made_calls types n i x'') next
    ∙ ap (λ z. script_moves_of moves ++ made_call types (drawn 4 y') (drawn 100 y'') (total_of j) ∷ made_calls types n (suc j) z) x_is
    ∙ ap (λ m. script_moves_of moves ++ made_calls types m j x) (sym (one-less calls j below))
    ∙ so_far

pub calls-end : (types : List (List Tree)) (moves printed more : List ScriptMove) (one last : ScriptMove) (calls j x : ℕ) (total : Expression) (whole : List script.ScriptMove) → script_moves_of moves ++ made_calls types (calls - j) j x ≡ whole → j ≡ calls → total ≡ total_of calls → script_move_of one ≡ does (print (record { type = scalar u64; value = total })) → script_move_of last ≡ does return_void → printed ≡ moves ++ one ∷ [] → more ≡ printed ++ last ∷ []
    → script_moves_of more ≡ whole
calls-end types moves printed more one last calls j x total whole so_far at total_is one_is last_is pushed then_pushed =
    let none : calls - j ≡ 0 = omega (arith, at) in
    let print_is : script_move_of one ≡ does (print (record { type = scalar u64; value = total_of j })) = one_is ∙ ap (λ e. does (print (record { type = scalar u64; value = e }))) (total_is ∙ ap total_of (sym at)) in
    sym (append-nil (script_moves_of more))
    ∙ more-then script_move_of printed more last (does return_void) [] then_pushed last_is
    ∙ more-then script_move_of moves printed one (does (print (record { type = scalar u64; value = total_of j }))) (does return_void ∷ []) pushed print_is
    ∙ ap (λ n. script_moves_of moves ++ made_calls types n j x) (sym none)
    ∙ so_far

-- each call moves the state on twice
pub calls-state-turn : (calls j x x' x'' s : ℕ) → state_after (2 * (calls - j)) x ≡ s → j < calls → x' ≡ next_state x → x'' ≡ next_state x' → state_after (2 * (calls - (j + 1))) x'' ≡ s
calls-state-turn calls j x x' x'' s so_far below first second =
    let n = 2 * (calls - (j + 1)) in
    let two : 2 * (calls - j) ≡ suc (suc n) = omega (arith, below) in
    ap (state_after n) (second ∙ ap next_state first) ∙ ap (λ k. state_after k x) (sym two) ∙ so_far

pub calls-state-end : (calls j x s : ℕ) → state_after (2 * (calls - j)) x ≡ s → j ≡ calls → x ≡ s
calls-state-end calls j x s so_far at =
    let none : 2 * (calls - j) ≡ 0 = omega (arith, at) in
    ap (λ k. state_after k x) (sym none) ∙ so_far
