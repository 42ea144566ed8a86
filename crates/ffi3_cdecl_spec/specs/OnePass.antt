-- The same reading in one pass over the bytes, without a list of tokens, and with few of the counts of an array.
use Rattle.std.specs.Prelude.{ℕ, zero, suc, ◌+◌, min, Bool, true, false, cond, ltb, List, [], ◌∷◌, length, Option, Some}
use Rattle.std.specs.Prelude.{None, unwrap_or}
use Rattle.ffi3_type_spec.specs.Tree.{Tree}
use Rattle.ffi3_cdecl_spec.specs.Tokens.{Dialect, Sign, Token, number, Found, blank, skipped, nothing_known, found, found_in}
use Rattle.ffi3_cdecl_spec.specs.Grammar.{Declaration}
use Rattle.ffi3_cdecl_spec.specs.Reading.{is_too_great, Outcome, bad_token, unexpected}
use Rattle.ffi3_cdecl_spec.specs.Machine.{Where, Member, plain_member, starred_member, State, wants_count, counted}
use Rattle.ffi3_cdecl_spec.specs.Machine.{member_bound, member_bounded, dead, step}
use Rattle.ffi3_cdecl_spec.specs.Machine.{is_dead, finish, begun, with_number}

-- So many counts of an array are kept, the outermost: with that many it is too deep, wherever it stands.
abbrev pub MOST_COUNTS : ℕ
MOST_COUNTS = 17

abbrev pub GREATEST_COUNT : ℕ
GREATEST_COUNT = 4294967295

-- one count more, where the last stands first
abbrev pub with_count : ℕ → List ℕ → List ℕ
with_count n ns =
    cond (ltb (length ns) MOST_COUNTS) (min n GREATEST_COUNT ∷ ns) ns

abbrev pub keep_count : Tree → List ℕ → List Tree → Where → Token → State
keep_count t ns ts w (number n) = counted t (with_count n ns) ts w
keep_count t ns ts w x = dead

-- the same of a member in the wide reading
abbrev pub few_bounds : Member → ℕ → Member
few_bounds (plain_member t ns n) i = plain_member t (with_count i ns) n
few_bounds (starred_member k ns n m) i = starred_member k (with_count i ns) n m

abbrev pub keep_bound : Member → List Tree → Where → Token → State
keep_bound b ts w (number n) = member_bounded (few_bounds b n) ts w
keep_bound b ts w x = dead

-- one token in each state, where few counts are kept
abbrev pub keeping : Dialect → State → Token → State
keeping r (wants_count t ns ts w) x = keep_count t ns ts w x
keeping r (member_bound b ts w) x = keep_bound b ts w x
keeping r s x = step r s x

-- The machine, where it died, and where the first number stands that is too great.
pub record Pass : Type 0 where
  pub state : State
  pub died : Option ℕ
  pub great : Option ℕ

abbrev pub kept : Option ℕ → Bool → ℕ → Option ℕ
kept (Some at) now here = Some at
kept None true here = Some here
kept None false here = None

-- one token at an offset
abbrev pub taking : Dialect → Pass → ℕ → Token → Pass
taking r p at t = record {
  state = keeping r p.state t;
  died = kept p.died (is_dead (keeping r p.state t)) at;
  great = kept p.great (is_too_great t) at;
}

abbrev pub outcome_by : ℕ → Pass → Option Declaration → Outcome
outcome_by end p (Some d) = with_number d p.great
outcome_by end p None = unexpected (unwrap_or p.died end)

-- at the end of the text
abbrev pub outcome_at : ℕ → Pass → Outcome
outcome_at end p = outcome_by end p (finish p.state)

abbrev pub pass_found : Dialect → Found → ℕ → Pass → (ℕ → Pass → Outcome) → Outcome
pass_found r blank at p go = go 0 p
pass_found r (skipped more) at p go = go more p
pass_found r nothing_known at p go = bad_token at
pass_found r (found t more) at p go = go more (taking r p at t)

abbrev pub pass_from : Dialect → Sign → ℕ → ℕ → Pass → List ℕ → Outcome
pass_from r c at inside p [] = outcome_at at p
pass_from r c at zero p (b ∷ bs) =
    pass_found r (found_in r c b bs) at p (λ inside q. pass_from r c (at + 1) inside q bs)
pass_from r c at (suc inside) p (b ∷ bs) = pass_from r c (at + 1) inside p bs

abbrev pub new_pass : Pass
new_pass = record { state = begun; died = None; great = None }
