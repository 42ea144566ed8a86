-- The numbers of what the words ask for lie in their ranges.
use Rattle.std.proofs.Common.{◌≡◌, ◌&&◌, ℕ, Bool, true, false, cond, List, codes, Option, Some, None, nat_le, refl, subst, leb-true}
use Rattle.std.specs.Option.{option_and_then, option_map}
use Rattle.std.specs.Str.{bytes_eq}
use Rattle.clap.specs.Words.{Row, Text, first_of}
use Rattle.ffi3_type_spec.specs.declared.Target.{Target}
use Rattle.ffi3_cli_spec.specs.declared.words.Request.{Request}
use Rattle.ffi3_cli_spec.specs.declared.words.InputCommand.TheVariants.{Place, Run}
use Rattle.ffi3_cli_spec.specs.declared.words.Request.TheVariants.{OnInput, Bench}
use Rattle.ffi3_cli_spec.specs.WordCommands.{asked, is_set, number_of, target_of, with_calls}
use Rattle.ffi3_cli.specs.WordAnswers.{IsInRange}

abbrev IfInRange : Option Request → Type 0
IfInRange None = Unit {0}
IfInRange (Some r) = IsInRange r

calls_in : (seed calls : ℕ) (some not_many : Bool) → nat_le 1 calls ≡ some → nat_le calls 1000 ≡ not_many → IfInRange (cond (some && not_many) (Some (Bench seed calls)) None)
calls_in seed calls true true e1 e2 = (leb-true 1 calls e1, leb-true calls 1000 e2)
calls_in seed calls true false e1 e2 = tt
calls_in seed calls false not_many e1 e2 = tt

numbers_in : (seed calls : Option ℕ) → IfInRange (option_and_then (λ n. option_and_then (with_calls n) calls) seed)
numbers_in None calls = tt
numbers_in (Some seed) None = tt
numbers_in (Some seed) (Some calls) =
    calls_in seed calls (nat_le 1 calls) (nat_le calls 1000) refl refl

places_in : (t : Option Target) → IfInRange (option_map (λ x. OnInput (Place x)) t)
places_in None = tt
places_in (Some t) = tt

runs_in : (trace : Bool) (t : Option Target) → IfInRange (option_map (λ x. OnInput (Run x trace)) t)
runs_in trace None = tt
runs_in trace (Some t) = tt

either_in : (b : Bool) (o p : Option Request) → IfInRange o → IfInRange p → IfInRange (cond b o p)
either_in true o p first second = first
either_in false o p first second = second

asked_in : (met : Option (Text × List Row)) → IfInRange (asked met)
asked_in None = tt
asked_in (Some p) =
    let benches = numbers_in (option_and_then number_of (first_of (codes "seed") p.1)) (option_and_then number_of (first_of (codes "calls") p.1)) in
    let places = places_in (option_and_then target_of (first_of (codes "target") p.1)) in
    let runs = runs_in (is_set (first_of (codes "trace") p.1)) (option_and_then target_of (first_of (codes "target") p.1)) in
    let is = λ (w : Text). bytes_eq p.0 w in
    either_in (is (codes "layout")) _ _ tt (either_in (is (codes "cdecl")) _ _ tt (either_in (is (codes "cplace")) _ _ tt (either_in (is (codes "explain")) _ _ tt (either_in (is (codes "arguments")) _ _ tt (either_in (is (codes "bench")) _ _ benches (either_in (is (codes "place")) _ _ places (either_in (is (codes "run")) _ _ runs tt)))))))

pub in_range : (met : Option (Text × List Row)) (r : Request) → asked met ≡ Some r → IsInRange r
in_range met r is = subst IfInRange is (asked_in met)
