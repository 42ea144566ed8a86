-- The peak of traces one after another, and of a whole run.
use Rattle.std.proofs.Common.{◌≡◌, ℕ, zero, suc, ◌+◌, ◌-◌, ◌≤◌, max, List, [], ◌∷◌, ◌++◌, refl, sym, ap, ◌∙◌, subst, append_assoc, append-nil, arith}
use Rattle.std.specs.Prelude.{⊤}
use Rattle.ffi3_type_spec.specs.Tree.{Tree}
use Rattle.ffi3_type_spec.specs.Value.{ValueTree, void_value}
use Rattle.ffi3_semantics_spec.specs.declared.Stop.{Stop}
use Rattle.ffi3_semantics_spec.specs.declared.Stop.TheVariants.{MoveLimit}
use Rattle.ffi3_semantics_spec.specs.Closures.{Closures, no_closures}
use Rattle.ffi3_semantics_spec.specs.Meaning.{Program, Activation, Acts, Effect, ends, stops, prints, goes_on, enters, End, returned, stopped, Outcome, follows, resumed, stops_with, with_result, effect_of, next_move, act, act_within, main_call, most_moves, meaning_of, need_at}
use Rattle.ffi3_semantics_spec.specs.Peak.{peak_of}
use Rattle.ffi3_semantics_spec.specs.Trace.{TraceItem, Enter, Line, Leave, written_out, trace_of}
use Rattle.ffi3_small_step_spec.specs.Depth.{depth_after, deepest}
use Rattle.ffi3_small_step_spec.specs.Nested.{depth_at}

-- ---- one after another

pub depth_at-append : (p : Program) (depth : ℕ) (a b : List TraceItem) → depth_at p depth (a ++ b) ≡ depth_at p (depth_at p depth a) b
depth_at-append p depth [] b = refl
depth_at-append p depth (h ∷ a) b = depth_at-append p (depth_after p depth h) a b

-- the start counts
pub starts_below : (p : Program) (depth : ℕ) (b : List TraceItem) → depth ≤ deepest p depth b
starts_below p depth [] = omega arith
starts_below p depth (h ∷ b) = omega arith

-- THE PEAK OF TWO PARTS is the greater of both
pub deepest-append : (p : Program) (depth : ℕ) (a b : List TraceItem) → deepest p depth (a ++ b) ≡ max (deepest p depth a) (deepest p (depth_at p depth a) b)
deepest-append p depth [] b = let k = starts_below p depth b in omega (arith, k)
deepest-append p depth (h ∷ a) b =
    let k : deepest p (depth_after p depth h) (a ++ b) ≡ max (deepest p (depth_after p depth h) a) (deepest p (depth_at p (depth_after p depth h) a) b) = deepest-append p (depth_after p depth h) a b in
    omega (arith, k)

-- the end counts
pub ends_below : (p : Program) (depth : ℕ) (a : List TraceItem) → depth_at p depth a ≤ deepest p depth a
ends_below p depth [] = omega arith
ends_below p depth (h ∷ a) = let k = ends_below p (depth_after p depth h) a in omega (arith, k)

-- ---- of a run

-- an activation that returns leaves the stack as it found it
abbrev pub IsLevel : Program → End → List TraceItem → Type 0
IsLevel p (returned v) trace = (depth : ℕ) → depth_at p depth trace ≡ depth
IsLevel p (stopped stop) trace = ⊤

pub record IsDeep (p : Program) (o : Outcome) : Type 0 where
  pub peak : (depth : ℕ) → deepest p depth (written_out o.call_tree) ≡ depth + peak_of p o.call_tree
  pub level : IsLevel p o.end (written_out o.call_tree)

abbrev pub AllDeep : Program → Acts → Type 0
AllDeep p acts = (a : Activation) (c : Closures) (m : ℕ) → IsDeep p (acts a c m)

stop_deep : (p : Program) (stop : Stop) (c : Closures) (m : ℕ) → IsDeep p (stops_with stop c m)
stop_deep p stop c m = record { peak = λ depth. omega arith; level = tt }

line_level : (p : Program) (t : Tree) (v : ValueTree) (e : End) (later : List TraceItem) → IsLevel p e later → IsLevel p e (Line t v ∷ later)
line_level p t v (returned r) later h = h
line_level p t v (stopped stop) later h = tt

module _ (p : Program) (ptr sig : ℕ) (args : List ValueTree) where
  -- a call that returned, and what comes later
  abbrev call_then : List TraceItem → ValueTree → List TraceItem → List TraceItem
  call_then inner r later = Enter ptr sig args ∷ ((inner ++ Leave sig r ∷ []) ++ later)

  call_level : (inner : List TraceItem) (r : ValueTree) (later : List TraceItem) → ((depth : ℕ) → depth_at p depth inner ≡ depth) → (depth : ℕ) → depth_at p depth (call_then inner r later) ≡ depth_at p depth later
  call_level inner r later level depth =
      let same : depth + need_at p sig - need_at p sig ≡ depth = omega arith in
      ap (depth_at p (depth + need_at p sig)) (append_assoc inner (Leave sig r ∷ []) later)
      ∙ depth_at-append p (depth + need_at p sig) inner (Leave sig r ∷ later)
      ∙ ap (λ (d : ℕ). depth_at p (d - need_at p sig) later) (level (depth + need_at p sig))
      ∙ ap (λ (d : ℕ). depth_at p d later) same

  call_peak : (inner : List TraceItem) (peak : ℕ) (r : ValueTree) (later : List TraceItem) → ((depth : ℕ) → depth_at p depth inner ≡ depth) → ((depth : ℕ) → deepest p depth inner ≡ depth + peak) → (depth : ℕ) → deepest p depth (call_then inner r later) ≡ max (depth + (need_at p sig + peak)) (deepest p depth later)
  call_peak inner peak r later level deep depth =
      let same : depth + need_at p sig - need_at p sig ≡ depth = omega arith in
      let split : deepest p (depth + need_at p sig) ((inner ++ Leave sig r ∷ []) ++ later) ≡ max (deepest p (depth + need_at p sig) inner) (deepest p (depth_at p (depth + need_at p sig) inner) (Leave sig r ∷ later)) =
      ap (deepest p (depth + need_at p sig)) (append_assoc inner (Leave sig r ∷ []) later) ∙ deepest-append p (depth + need_at p sig) inner (Leave sig r ∷ later) in
      let end : deepest p (depth_at p (depth + need_at p sig) inner) (Leave sig r ∷ later) ≡ max (depth + need_at p sig) (deepest p depth later) =
      ap (λ (d : ℕ). deepest p d (Leave sig r ∷ later)) (level (depth + need_at p sig)) ∙ ap (λ (d : ℕ). max (depth + need_at p sig) (deepest p d later)) same in
      let own : deepest p (depth + need_at p sig) inner ≡ depth + need_at p sig + peak = deep (depth + need_at p sig) in
      omega (arith, split, end, own)

  later_level : (inner : List TraceItem) (r : ValueTree) (e : End) (later : List TraceItem) → ((depth : ℕ) → depth_at p depth inner ≡ depth) → IsLevel p e later → IsLevel p e (call_then inner r later)
  later_level inner r (returned v) later level h = λ depth. call_level inner r later level depth ∙ h depth
  later_level inner r (stopped stop) later level h = tt

  -- a call in which the run stopped
  cut_peak : (inner : List TraceItem) (peak : ℕ) → ((depth : ℕ) → deepest p depth inner ≡ depth + peak) → (depth : ℕ) → deepest p depth (Enter ptr sig args ∷ ((inner ++ []) ++ [])) ≡ depth + max (need_at p sig + peak) 0
  cut_peak inner peak deep depth =
      let same : deepest p (depth + need_at p sig) ((inner ++ []) ++ []) ≡ depth + need_at p sig + peak =
      ap (deepest p (depth + need_at p sig)) (append-nil (inner ++ []) ∙ append-nil inner) ∙ deep (depth + need_at p sig) in
      omega (arith, same)

  resumed_deep : (acts : Acts) → AllDeep p acts → (a : Activation) (o : Outcome) (e : End) → ((depth : ℕ) → deepest p depth (written_out o.call_tree) ≡ depth + peak_of p o.call_tree) → IsLevel p e (written_out o.call_tree) → o.end ≡ e → IsDeep p (resumed acts a ptr sig args o e)
  resumed_deep acts all a o (stopped stop) peak level is = record {
    peak = cut_peak (written_out o.call_tree) (peak_of p o.call_tree) peak;
    level = subst (λ (x : End). IsLevel p x (Enter ptr sig args ∷ ((written_out o.call_tree ++ []) ++ []))) (sym is) tt;
  }
  resumed_deep acts all a o (returned r) peak level is =
      let next = acts (with_result a r) o.closures o.moves in
      let h = all (with_result a r) o.closures o.moves in
      record {
        peak = λ depth. let k = call_peak (written_out o.call_tree) (peak_of p o.call_tree) r (written_out next.call_tree) level peak depth in
            let l = h.peak depth in omega (arith, k, l);
        level = later_level (written_out o.call_tree) r next.end (written_out next.call_tree) level h.level;
      }

follows_deep : (p : Program) (acts : Acts) → AllDeep p acts → (a : Activation) (c : Closures) (m : ℕ) (d : Effect) → IsDeep p (follows acts a c m d)
follows_deep p acts all a c m (ends v) = record { peak = λ depth. omega arith; level = λ depth. refl }
follows_deep p acts all a c m (stops stop) = stop_deep p stop c m
follows_deep p acts all a c m (prints t v) =
    let o = acts (with_result a void_value) c m in
    let h = all (with_result a void_value) c m in
    record { peak = λ depth. let k = h.peak depth in omega (arith, k); level = line_level p t v o.end (written_out o.call_tree) h.level }
follows_deep p acts all a c m (goes_on r c') = all (with_result a r) c' m
follows_deep p acts all a c m (enters ptr sig callee) =
    let o = acts callee c m in
    let h = all callee c m in
    resumed_deep p ptr sig callee.arguments acts all a o o.end h.peak h.level refl

-- of any program, whatever needs are counted
within_deep : (p q : Program) (fuel : ℕ) → AllDeep q (act_within p fuel)
unfolding act_within
within_deep p q zero a c m = stop_deep q MoveLimit c 0
within_deep p q (suc fuel) a c zero = stop_deep q MoveLimit c 0
within_deep p q (suc fuel) a c (suc m) =
    follows_deep q (act_within p fuel) (within_deep p q fuel) a c m (effect_of p a c (next_move p a))

pub act_deep : (p q : Program) → AllDeep q (act p)
unfolding act
act_deep p q a c m = within_deep p q m a c m

-- THE PEAK OF A RUN is that of its trace
pub deepest_is_peak : (p : Program) → deepest p 0 (trace_of p) ≡ peak_of p (meaning_of p).call_tree
deepest_is_peak p =
    let none : 0 + peak_of p (meaning_of p).call_tree ≡ peak_of p (meaning_of p).call_tree = omega arith in
    (act_deep p p main_call no_closures most_moves).peak 0 ∙ none
