-- The count of steps along a trace: item after item, and as a sum.
use Rattle.std.proofs.Common.{◌≡◌, ℕ, ◌+◌, ◌*◌, ◌%◌, ◌^◌, ◌<◌, List, [], ◌∷◌, ◌++◌, refl, sym, ap, ◌∙◌, subst, arith, lit<}
use Rattle.std.proofs.Math.Nat.{mod-add-mod, mod-eq_of_lt, mul-suc, add-mul, mul-zero}
use Rattle.std.proofs.lemmas.Nat.{mod_below}
use Rattle.ffi3_type_spec.specs.declared.Target.{Target}
use Rattle.ffi3_type_spec.specs.declared.Target.TheVariants.{Amd64, Aapcs64, Riscv, Win64, Apple}
use Rattle.ffi3_type_spec.specs.TargetIsa.{isa_of}
use Rattle.ffi3_type_spec.specs.Value.{ValueTree}
use Rattle.ffi3_semantics_spec.specs.Meaning.{End, returned, stopped}
use Rattle.ffi3_semantics_spec.specs.Trace.{TraceItem, Enter, Line, Leave, StopLine}
use Rattle.ffi3_small_step_spec.specs.Remainder.{as_main}
use Rattle.ffi3_machine_spec.specs.Stubs.{Exit, Return}
use Rattle.ffi3_stubs.specs.Calls.{steps_of}
use Rattle.ffi3_machine_transfer.specs.Passing.{by_exchange, steps_if}
use Rattle.ffi3_invoke.specs.Calls.{begun_steps, ended_steps}
use Rattle.ffi3_run_spec.specs.CallSteps.{entry_steps, return_steps, call_steps, steps_of_item, steps_in, entries_in, returns_in}
use Rattle.ffi3_run_state.specs.Counted.{counted, steps_after, count_at_end}

-- ---- item after item

pub steps_then : (target : Target) (n : ℕ) (a b : List TraceItem) → steps_after target n (a ++ b) ≡ steps_after target (steps_after target n a) b
steps_then target n [] b = refl
steps_then target n (h ∷ a) b = steps_then target (counted target h n) a b

-- a machine for `at` whose count is that after a trace, where it begins or ends a call; and `at` is the run's target
module _ (target : Target) (first : ℕ) (own : List TraceItem) (at : Target) (same : at ≡ target) (n m : ℕ) (before : n ≡ steps_after target first own) where
  pub count_enter : (ptr sig : ℕ) (args : List ValueTree) → m ≡ begun_steps at n → m ≡ steps_after target first (own ++ Enter ptr sig args ∷ [])
  count_enter ptr sig args after =
      after
      ∙ ap (λ (t : Target). begun_steps t n) same
      ∙ ap (λ (k : ℕ). begun_steps target k) before
      ∙ sym (steps_then target first own (Enter ptr sig args ∷ []))

  pub count_leave : (sig : ℕ) (r : ValueTree) → m ≡ ended_steps at n → m ≡ steps_after target first (own ++ Leave sig r ∷ [])
  count_leave sig r after =
      after
      ∙ ap (λ (t : Target). ended_steps t n) same
      ∙ ap (λ (k : ℕ). ended_steps target k) before
      ∙ sym (steps_then target first own (Leave sig r ∷ []))

  -- a call that is served has returned, and its caller runs Return
  pub count_served : (sig : ℕ) (r : ValueTree) → m ≡ steps_if (by_exchange at) (steps_of (isa_of at) Exit) n → steps_if (by_exchange target) (steps_of (isa_of target) Return) m ≡ steps_after target first (own ++ Leave sig r ∷ [])
  count_served sig r after =
      let there : m ≡ steps_if (by_exchange target) (steps_of (isa_of target) Exit) (steps_after target first own) =
      after
      ∙ ap (λ (t : Target). steps_if (by_exchange t) (steps_of (isa_of t) Exit) n) same
      ∙ ap (λ (k : ℕ). steps_if (by_exchange target) (steps_of (isa_of target) Exit) k) before in
      ap (λ (k : ℕ). steps_if (by_exchange target) (steps_of (isa_of target) Return) k) there
      ∙ sym (steps_then target first own (Leave sig r ∷ []))

-- main has no caller
pub main_counts : (target : Target) (end : End) (n : ℕ) → count_at_end target as_main end n ≡ n
main_counts target (returned v) n = refl
main_counts target (stopped stop) n = refl

-- ---- as a sum

-- nothing is added
unmoved : (n : ℕ) → n < 2 ^ 64 → n ≡ (n + 0) % 2 ^ 64
unmoved n small =
    let same : n + 0 ≡ n = omega arith in
    sym (ap (λ (k : ℕ). k % 2 ^ 64) same ∙ mod-eq_of_lt small)

-- two numbers are added one after the other
both : (n a b : ℕ) → ((n + a) % 2 ^ 64 + b) % 2 ^ 64 ≡ (n + (a + b)) % 2 ^ 64
both n a b =
    let same : n + a + b ≡ n + (a + b) = omega arith in
    mod-add-mod (n + a) (2 ^ 64) b ∙ ap (λ (k : ℕ). k % 2 ^ 64) same

all_three : (n a b c : ℕ) → (((n + a) % 2 ^ 64 + b) % 2 ^ 64 + c) % 2 ^ 64 ≡ (n + (a + b + c)) % 2 ^ 64
all_three n a b c =
    let same : n + (a + b) + c ≡ n + (a + b + c) = omega arith in
    ap (λ (k : ℕ). (k + c) % 2 ^ 64) (both n a b)
    ∙ mod-add-mod (n + (a + b)) (2 ^ 64) c
    ∙ ap (λ (k : ℕ). k % 2 ^ 64) same

-- an entry adds what the stubs' tables and the trampoline say
one_entry : (target : Target) (n : ℕ) → begun_steps target n ≡ (n + entry_steps target) % 2 ^ 64
unfolding by_exchange
one_entry Amd64 n = all_three n 18 3 25
one_entry Aapcs64 n = all_three n 22 3 43
one_entry Riscv n = all_three n 21 3 47
one_entry Win64 n = refl
one_entry Apple n = all_three n 22 3 43

one_return : (target : Target) (n : ℕ) → n < 2 ^ 64 → ended_steps target n ≡ (n + return_steps target) % 2 ^ 64
unfolding by_exchange
one_return Amd64 n small = both n 14 6
one_return Aapcs64 n small = both n 31 9
one_return Riscv n small = both n 34 7
one_return Win64 n small = unmoved n small
one_return Apple n small = both n 31 9

one_item : (target : Target) (h : TraceItem) (n : ℕ) → n < 2 ^ 64 → counted target h n ≡ (n + steps_of_item target h) % 2 ^ 64
one_item target (Enter ptr sig args) n small = one_entry target n
one_item target (Line t v) n small = unmoved n small
one_item target (Leave sig r) n small = one_return target n small
one_item target (StopLine stop) n small = unmoved n small

-- THE COUNT AFTER A TRACE IS A SUM modulo 2^64
pub counts_all : (target : Target) (n : ℕ) (trace : List TraceItem) → n < 2 ^ 64 → steps_after target n trace ≡ (n + steps_in target trace) % 2 ^ 64
counts_all target n [] small = unmoved n small
counts_all target n (h ∷ later) small =
    let item = steps_of_item target h in
    let one = one_item target h n small in
    let below : counted target h n < 2 ^ 64 = subst (λ (k : ℕ). k < 2 ^ 64) (sym one) (mod_below (n + item) (2 ^ 64) (lit< tt)) in
    counts_all target (counted target h n) later below
    ∙ ap (λ (k : ℕ). (k + steps_in target later) % 2 ^ 64) one
    ∙ both n item (steps_in target later)

-- on a machine that begins
pub counts_from_none : (target : Target) (trace : List TraceItem) → steps_after target 0 trace ≡ steps_in target trace % 2 ^ 64
counts_from_none target trace =
    let none : 0 + steps_in target trace ≡ steps_in target trace = omega arith in
    counts_all target 0 trace (lit< tt) ∙ ap (λ (k : ℕ). k % 2 ^ 64) none

-- ---- by entries and returns

pub by_kind : (target : Target) (trace : List TraceItem) → steps_in target trace ≡ entry_steps target * entries_in trace + return_steps target * returns_in trace
by_kind target [] = omega (arith, mul-zero (entry_steps target), mul-zero (return_steps target))
by_kind target (Enter ptr sig args ∷ later) =
    omega (arith, by_kind target later, mul-suc (entry_steps target) (entries_in later))
by_kind target (Line t v ∷ later) = omega (arith, by_kind target later)
by_kind target (Leave sig r ∷ later) =
    omega (arith, by_kind target later, mul-suc (return_steps target) (returns_in later))
by_kind target (StopLine stop ∷ later) = omega (arith, by_kind target later)

-- WHERE EACH CALL HAS RETURNED, each takes the same
pub whole_calls : (target : Target) (trace : List TraceItem) → entries_in trace ≡ returns_in trace → steps_in target trace ≡ call_steps target * returns_in trace
whole_calls target trace all =
    by_kind target trace
    ∙ ap (λ (k : ℕ). entry_steps target * k + return_steps target * returns_in trace) all
    ∙ sym (add-mul (entry_steps target) (return_steps target) (returns_in trace))
