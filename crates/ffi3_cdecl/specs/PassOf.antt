-- The pass and the outcome that the Rust ones stand for.
use Rattle.std.specs.Prelude.{ℕ, zero, suc, ◌+◌, List, [], ◌∷◌, Option, Some, None, unwrap_or}
use Rattle.ffi3_cdecl_spec.specs.Grammar.{Declaration}
use Rattle.ffi3_cdecl_spec.specs.Machine.{finish}
use Rattle.ffi3_cdecl_spec.specs.Tokens.{Dialect, Sign, Found, blank, skipped, nothing_known, found, found_in}
use Rattle.ffi3_cdecl_spec.specs.Reading as reading
use Rattle.ffi3_cdecl_spec.specs.OnePass as pass
use Rattle.ffi3_cdecl.specs.StateOf.{state_of}
use Rattle.ffi3_cdecl.specs.declared.read.Pass.{Pass}
use Rattle.ffi3_cdecl.specs.declared.read.Outcome.{Outcome}
use Rattle.ffi3_cdecl.specs.declared.read.Outcome.TheVariants.{Reads, BadToken, Unexpected, BadNumber, BadSignature}
use Rattle.ffi3_types.specs.SignatureFaultOf.{signature_fault_of}

abbrev pub pass_of : Pass → pass.Pass
pass_of p =
    record { state = state_of p.state; died = p.died; great = p.great }

abbrev pub outcome_of : Outcome → reading.Outcome
outcome_of (Reads d) = reading.reads d
outcome_of (BadToken at) = reading.bad_token at
outcome_of (Unexpected at) = reading.unexpected at
outcome_of (BadNumber at) = reading.bad_number at
outcome_of (BadSignature f) = reading.bad_signature (signature_fault_of f)

-- what a pass comes to that stopped at a byte where no token begins, or was at the end
abbrev pub outcome_behind : Option ℕ → ℕ → pass.Pass → reading.Outcome
outcome_behind (Some at) end p = reading.bad_token at
outcome_behind None end p = pass.outcome_at end p

-- the same where no declaration is judged
abbrev pub unjudged : Declaration → Option ℕ → reading.Outcome
unjudged d None = reading.reads d
unjudged d (Some at) = reading.bad_number at

abbrev pub unjudged_by : ℕ → pass.Pass → Option Declaration → reading.Outcome
unjudged_by end p (Some d) = unjudged d p.great
unjudged_by end p None = reading.unexpected (unwrap_or p.died end)

abbrev pub unjudged_behind : Option ℕ → ℕ → pass.Pass → reading.Outcome
unjudged_behind (Some at) end p = reading.bad_token at
unjudged_behind None end p = unjudged_by end p (finish p.state)

-- and a declaration is judged so
abbrev pub judged_by : (Declaration → reading.Outcome) → reading.Outcome → reading.Outcome
judged_by judge (reading.reads d) = judge d
judged_by judge (reading.bad_token at) = reading.bad_token at
judged_by judge (reading.unexpected at) = reading.unexpected at
judged_by judge (reading.bad_number at) = reading.bad_number at
judged_by judge (reading.bad_signature f) = reading.bad_signature f

-- ---- a pass over bytes, and where it stopped

abbrev pub pass_on : Dialect → Found → ℕ → pass.Pass → (ℕ → pass.Pass → pass.Pass × Option ℕ) → pass.Pass × Option ℕ
pass_on r blank at p go = go 0 p
pass_on r (skipped more) at p go = go more p
pass_on r nothing_known at p go = (p, Some at)
pass_on r (found t more) at p go = go more (pass.taking r p at t)

-- from a byte on, with so many bytes left of a token that began before
abbrev pub pass_over : Dialect → Sign → ℕ → ℕ → pass.Pass → List ℕ → pass.Pass × Option ℕ
pass_over r c at inside p [] = (p, None)
pass_over r c at zero p (b ∷ bs) =
    pass_on r (found_in r c b bs) at p (λ inside q. pass_over r c (at + 1) inside q bs)
pass_over r c at (suc inside) p (b ∷ bs) = pass_over r c (at + 1) inside p bs
