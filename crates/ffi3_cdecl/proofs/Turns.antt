-- One byte of a pass.
use Rattle.std.proofs.Common.{◌≡◌, ℕ, zero, suc, ◌+◌, ◌-◌, ◌<◌, List, length, get_or, drop, Option, Some, None, ap, sym, subst, ◌∙◌, arith}
use Rattle.std.proofs.lemmas.List.{drop_more, drop_all}
use Rattle.ffi3_cdecl_spec.specs.Tokens.{Dialect, plain, wide, Sign, signed, Token, Found, blank, skipped, nothing_known, found, found_in}
use Rattle.ffi3_cdecl_spec.specs.Reading.{Outcome, IsReading, IsReadingIn}
use Rattle.ffi3_cdecl_spec.specs.Machine.{read, read_in}
use Rattle.ffi3_cdecl_spec.specs.OnePass.{Pass, taking}
use Rattle.ffi3_cdecl.specs.PassOf.{pass_on, pass_over}
use Rattle.ffi3_cdecl_spec.proofs.Readings.{reading_in}

pub turn_inside : (r : Dialect) (c : Sign) (bs : List ℕ) (at inside : ℕ) (p : Pass) → at < length bs → 0 < inside → pass_over r c at inside p (drop at bs) ≡ pass_over r c (at + 1) (inside - 1) p (drop (at + 1) bs)
turn_inside r c bs at zero p h some = absurd (omega arith)
turn_inside r c bs at (suc inside) p h some =
    let e : inside ≡ suc inside - 1 = omega arith in
    ap (λ cs. pass_over r c at (suc inside) p cs) (drop_more bs at 0 h) ∙ ap (λ n. pass_over r c (at + 1) n p (drop (at + 1) bs)) e

turn_found : (r : Dialect) (c : Sign) (bs : List ℕ) (at : ℕ) (p : Pass) (f : Found) → at < length bs → f ≡ found_in r c (get_or bs at 0) (drop (at + 1) bs) → pass_over r c at 0 p (drop at bs) ≡ pass_on r f at p (λ inside q. pass_over r c (at + 1) inside q (drop (at + 1) bs))
turn_found r c bs at p f h e =
    ap (λ cs. pass_over r c at 0 p cs) (drop_more bs at 0 h) ∙ ap (λ g. pass_on r g at p (λ inside q. pass_over r c (at + 1) inside q (drop (at + 1) bs))) (sym e)

pub turn_blank : (r : Dialect) (c : Sign) (bs : List ℕ) (at : ℕ) (p : Pass) → at < length bs → blank ≡ found_in r c (get_or bs at 0) (drop (at + 1) bs) → pass_over r c at 0 p (drop at bs) ≡ pass_over r c (at + 1) 0 p (drop (at + 1) bs)
turn_blank r c bs at p h e = turn_found r c bs at p blank h e

pub turn_nothing : (r : Dialect) (c : Sign) (bs : List ℕ) (at : ℕ) (p : Pass) → at < length bs → nothing_known ≡ found_in r c (get_or bs at 0) (drop (at + 1) bs) → pass_over r c at 0 p (drop at bs) ≡ (p, Some at)
turn_nothing r c bs at p h e = turn_found r c bs at p nothing_known h e

pub turn_token : (r : Dialect) (c : Sign) (bs : List ℕ) (at : ℕ) (p : Pass) (t : Token) (more : ℕ) → at < length bs → found t more ≡ found_in r c (get_or bs at 0) (drop (at + 1) bs) → pass_over r c at 0 p (drop at bs) ≡ pass_over r c (at + 1) more (taking r p at t) (drop (at + 1) bs)
turn_token r c bs at p t more h e = turn_found r c bs at p (found t more) h e

pub pass_end : (r : Dialect) (c : Sign) (bs : List ℕ) (at inside : ℕ) (p : Pass) → at ≡ length bs → pass_over r c at inside p (drop at bs) ≡ (p, None)
pass_end r c bs at inside p h =
    ap (λ cs. pass_over r c at inside p cs) (drop_all at bs (omega arith))

pub turn_skipped : (r : Dialect) (c : Sign) (bs : List ℕ) (at : ℕ) (p : Pass) (more : ℕ) → at < length bs → skipped more ≡ found_in r c (get_or bs at 0) (drop (at + 1) bs) → pass_over r c at 0 p (drop at bs) ≡ pass_over r c (at + 1) more p (drop (at + 1) bs)
turn_skipped r c bs at p more h e = turn_found r c bs at p (skipped more) h e

pub is_reading : (text : List ℕ) (o : Outcome) → o ≡ read text → IsReading text o
is_reading text o e = subst (IsReading text) (sym e) (reading_in plain signed text)

pub is_wide_reading : (c : Sign) (text : List ℕ) (o : Outcome) → o ≡ read_in wide c text → IsReadingIn wide c text o
is_wide_reading c text o e =
    subst (IsReadingIn wide c text) (sym e) (reading_in wide c text)
