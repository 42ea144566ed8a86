-- One move of the innermost activation, and what is left of the run after it.
use Rattle.std.proofs.Common.{◌≡◌, ℕ, suc, List, [], ◌∷◌, ◌++◌, refl, sym, ap, ◌∙◌, append_assoc, append-nil}
use Rattle.ffi3_type_spec.specs.Tree.{Tree}
use Rattle.ffi3_type_spec.specs.Value.{ValueTree, void_value}
use Rattle.ffi3_semantics_spec.specs.declared.Stop.{Stop}
use Rattle.ffi3_semantics_spec.specs.declared.Stop.TheVariants.{MoveLimit}
use Rattle.ffi3_semantics_spec.specs.Closures.{Closures, no_closures}
use Rattle.ffi3_semantics_spec.specs.Meaning.{Program, Activation, Effect, ends, stops, prints, goes_on, enters, End, returned, stopped, Outcome, follows, resumed, with_result, effect_of, next_move, act, act_within, called, main_call, most_moves, meaning_of}
use Rattle.ffi3_semantics_spec.specs.Trace.{TraceItem, Enter, Line, Leave, written_out, written_out_one}
use Rattle.ffi3_semantics_spec.proofs.Recursion.{act-is}
use Rattle.ffi3_small_step_spec.specs.Remainder.{Remainder, remainder_of, before, only, only_stops, Suspended, Bottom, as_main, served, CallStack, resumed_at, left_at, finished, through, rest, alone, inside}
use Rattle.ffi3_small_step_spec.specs.SmallStep.{step_of, left_before}
use Rattle.ffi3_small_step_spec.specs.Path.{Position, IsOnPath, path_begins, path_goes_on}
use Rattle.ffi3_small_step_spec.specs.Laws.{GoesByStep, PathFollows, ServesAlike, result_of}

-- ---- what happens before may be set before all that is left

pub before-before : (a b : List TraceItem) (l : Remainder) → before a (before b l) ≡ before (a ++ b) l
before-before a b l =
    ap (λ (h : List TraceItem). record l { trace = h }) (sym (append_assoc a b l.trace))

resumed-before : (p : Program) (s : Suspended) (own : List TraceItem) (l : Remainder) (e : End) → resumed_at p s (before own l) e ≡ before own (resumed_at p s l e)
resumed-before p s own l (stopped stop) = refl
resumed-before p s own l (returned r) =
    let next = remainder_of (act p (with_result s.activation r) l.closures l.moves) in
    ap (λ (h : List TraceItem). before h next) (append_assoc own l.trace (Leave s.signature r ∷ []))
    ∙ sym (before-before own (l.trace ++ Leave s.signature r ∷ []) next)

left-before : (sig : ℕ) (own : List TraceItem) (l : Remainder) (e : End) → left_at sig (before own l) e ≡ before own (left_at sig l e)
left-before sig own l (stopped stop) = refl
left-before sig own l (returned r) =
    ap (λ (h : List TraceItem). record l { trace = h }) (append_assoc own l.trace (Leave sig r ∷ []))

finished-before : (bottom : Bottom) (own : List TraceItem) (l : Remainder) → finished bottom (before own l) ≡ before own (finished bottom l)
finished-before as_main own l = refl
finished-before (served sig) own l = left-before sig own l l.end

pub through-before : (p : Program) (bottom : Bottom) (outer : List Suspended) (own : List TraceItem) (l : Remainder) → through p bottom outer (before own l) ≡ before own (through p bottom outer l)
through-before p bottom [] own l = finished-before bottom own l
through-before p bottom (s ∷ outer) own l =
    ap (through p bottom outer) (resumed-before p s own l l.end) ∙ through-before p bottom outer own (resumed_at p s l l.end)

-- a stop ends all
pub through_stops : (p : Program) (bottom : Bottom) (outer : List Suspended) (stop : Stop) (closures : Closures) (moves : ℕ) → through p bottom outer (only_stops stop closures moves) ≡ only_stops stop closures moves
through_stops p as_main [] stop closures moves = refl
through_stops p (served sig) [] stop closures moves = refl
through_stops p bottom (s ∷ outer) stop closures moves = through_stops p bottom outer stop closures moves

-- a call written out: its entry, and what is left of its caller's call stack
entered_at : (p : Program) (a : Activation) (ptr sig : ℕ) (args : List ValueTree) (o : Outcome) (e : End) → remainder_of (resumed (act p) a ptr sig args o e) ≡ before (Enter ptr sig args ∷ []) (resumed_at p (record { activation = a; signature = sig }) (remainder_of o) e)
entered_at p a ptr sig args o (stopped stop) =
    ap (λ (h : List TraceItem). only (Enter ptr sig args ∷ h) o.end o.closures o.moves) (append-nil (written_out o.call_tree ++ []) ∙ append-nil (written_out o.call_tree))
entered_at p a ptr sig args o (returned r) = refl

-- ---- the moves

-- no move is left
pub rest_at_limit : (p : Program) (bottom : Bottom) (call_stack : CallStack) (closures : Closures) → rest p bottom call_stack closures 0 ≡ only_stops MoveLimit closures 0
unfolding act act_within
rest_at_limit p bottom call_stack closures = through_stops p bottom call_stack.suspended MoveLimit closures 0

module _ (p : Program) (bottom : Bottom) (a : Activation) (outer : List Suspended) (closures : Closures) (moves : ℕ) where
  -- where the activation stands
  abbrev standing : List Suspended → CallStack
  standing around = record { innermost = a; suspended = around }

  by_effect : (d : Effect) → effect_of p a closures (next_move p a) ≡ d → (around : List Suspended) → rest p bottom (standing around) closures (suc moves) ≡ through p bottom around (remainder_of (follows (act p) a closures moves d))
  by_effect d is around =
      ap (λ (o : Outcome). through p bottom around (remainder_of o)) (act-is p a closures moves ∙ ap (follows (act p) a closures moves) is)

  pub rest_stops : (stop : Stop) → effect_of p a closures (next_move p a) ≡ stops stop → rest p bottom (standing outer) closures (suc moves) ≡ only_stops stop closures moves
  rest_stops stop is = by_effect (stops stop) is outer ∙ through_stops p bottom outer stop closures moves

  pub rest_prints : (t : Tree) (v : ValueTree) → effect_of p a closures (next_move p a) ≡ prints t v → rest p bottom (standing outer) closures (suc moves) ≡ before (Line t v ∷ []) (rest p bottom (record { innermost = with_result a void_value; suspended = outer }) closures moves)
  rest_prints t v is =
      by_effect (prints t v) is outer ∙ through-before p bottom outer (Line t v ∷ []) (remainder_of (act p (with_result a void_value) closures moves))

  pub rest_goes_on : (r : ValueTree) (closures' : Closures) → effect_of p a closures (next_move p a) ≡ goes_on r closures' → rest p bottom (standing outer) closures (suc moves) ≡ rest p bottom (record { innermost = with_result a r; suspended = outer }) closures' moves
  rest_goes_on r closures' is = by_effect (goes_on r closures') is outer

  pub rest_enters : (ptr sig : ℕ) (callee : Activation) → effect_of p a closures (next_move p a) ≡ enters ptr sig callee → rest p bottom (standing outer) closures (suc moves) ≡ before (Enter ptr sig callee.arguments ∷ []) (rest p bottom (inside callee sig a outer) closures moves)
  rest_enters ptr sig callee is =
      let o = act p callee closures moves in
      by_effect (enters ptr sig callee) is outer
      ∙ ap (through p bottom outer) (entered_at p a ptr sig callee.arguments o o.end)
      ∙ through-before p bottom outer (Enter ptr sig callee.arguments ∷ []) (resumed_at p (record { activation = a; signature = sig }) (remainder_of o) o.end)

  -- a return, to the activation that waits for it
  pub rest_returns : (s : Suspended) (v : ValueTree) → effect_of p a closures (next_move p a) ≡ ends v → rest p bottom (standing (s ∷ outer)) closures (suc moves) ≡ before (Leave s.signature v ∷ []) (rest p bottom (record { innermost = with_result s.activation v; suspended = outer }) closures moves)
  rest_returns s v is =
      by_effect (ends v) is (s ∷ outer) ∙ through-before p bottom outer (Leave s.signature v ∷ []) (remainder_of (act p (with_result s.activation v) closures moves))

-- main returns
pub rest_ends : (p : Program) (a : Activation) (closures : Closures) (moves : ℕ) (v : ValueTree) → effect_of p a closures (next_move p a) ≡ ends v → rest p as_main (alone a) closures (suc moves) ≡ only [] (returned v) closures moves
rest_ends p a closures moves v is = by_effect p as_main a [] closures moves (ends v) is []

-- a served call returns
pub rest_leaves : (p : Program) (a : Activation) (sig : ℕ) (closures : Closures) (moves : ℕ) (v : ValueTree) → effect_of p a closures (next_move p a) ≡ ends v → rest p (served sig) (alone a) closures (suc moves) ≡ only (Leave sig v ∷ []) (returned v) closures moves
rest_leaves p a sig closures moves v is = by_effect p (served sig) a [] closures moves (ends v) is []

-- ---- a whole run

-- THE MEANING OF A PROGRAM IS WHAT IS LEFT AT MAIN, with no closures and all moves
pub meaning_is_rest : (p : Program) → remainder_of (meaning_of p) ≡ rest p as_main (alone main_call) no_closures most_moves
meaning_is_rest p = refl

-- A CALL IS ITS ENTRY AND WHAT IS LEFT WHERE IT IS SERVED
served_at : (ptr sig : ℕ) (args : List ValueTree) (o : Outcome) (e : End) → written_out_one (called ptr sig args o.call_tree (result_of e)) ≡ Enter ptr sig args ∷ (left_at sig (remainder_of o) e).trace
served_at ptr sig args o (returned r) = refl
served_at ptr sig args o (stopped stop) = ap (λ (h : List TraceItem). Enter ptr sig args ∷ h) (append-nil (written_out o.call_tree))

pub served_is_rest : (p : Program) → ServesAlike p
served_is_rest p = λ ptr sig callee closures moves.
    let o = act p callee closures moves in served_at ptr sig callee.arguments o o.end

-- ---- the step of a call stack, whatever it does

by_step : (p : Program) (bottom : Bottom) (a : Activation) (outer : List Suspended) (closures : Closures) (moves : ℕ) (d : Effect) → effect_of p a closures (next_move p a) ≡ d → rest p bottom (record { innermost = a; suspended = outer }) closures (suc moves) ≡ left_before p bottom moves (step_of bottom a outer closures d)
by_step p as_main a [] closures moves (ends v) is = rest_ends p a closures moves v is
by_step p (served sig) a [] closures moves (ends v) is = rest_leaves p a sig closures moves v is
by_step p bottom a (s ∷ outer) closures moves (ends v) is = rest_returns p bottom a outer closures moves s v is
by_step p bottom a outer closures moves (stops stop) is = rest_stops p bottom a outer closures moves stop is
by_step p bottom a outer closures moves (prints t v) is = rest_prints p bottom a outer closures moves t v is
by_step p bottom a outer closures moves (goes_on r closures') is = rest_goes_on p bottom a outer closures moves r closures' is
by_step p bottom a outer closures moves (enters ptr sig callee) is = rest_enters p bottom a outer closures moves ptr sig callee is

pub goes_by_step : (p : Program) → GoesByStep p
goes_by_step p = record {
  whole = meaning_is_rest p;
  one = λ bottom call_stack closures moves. by_step p bottom call_stack.innermost call_stack.suspended closures moves (effect_of p call_stack.innermost closures (next_move p call_stack.innermost)) refl;
  none = rest_at_limit p;
}

-- what follows, and then what follows after that
pub follows_then : (first mid last : Remainder) (a b : List TraceItem) → first ≡ before a mid → mid ≡ before b last → first ≡ before (a ++ b) last
follows_then first mid last a b one two = one ∙ ap (before a) two ∙ before-before a b last

-- ALONG A PATH what happened and what is left make all of it
path_follows : (p : Program) (bottom : Bottom) (start : Position) (own : List TraceItem) (x : Position) → IsOnPath p bottom start own x → rest p bottom start.call_stack start.closures start.moves ≡ before own (rest p bottom x.call_stack x.closures x.moves)
path_follows p bottom start own x path_begins = refl
path_follows p bottom start all_done there (path_goes_on own more x call_stack closures moves earlier counted leads) =
    let one = ap (λ (n : ℕ). rest p bottom x.call_stack x.closures n) counted ∙ (goes_by_step p).one bottom x.call_stack x.closures moves ∙ ap (left_before p bottom moves) leads in
    follows_then (rest p bottom start.call_stack start.closures start.moves) (rest p bottom x.call_stack x.closures x.moves) (rest p bottom call_stack closures moves) own more (path_follows p bottom start own x earlier) one

pub paths_follow : (p : Program) → PathFollows p
paths_follow p = λ bottom start own x path. path_follows p bottom start own x path
