-- Brackets that are open.
use Rattle.std.proofs.Common.{◌≡◌, ℕ, zero, suc, ◌+◌, ◌-◌, ◌<◌, ◌≤◌, Bool, true, false, ltb, ap, sym, refl, ◌∙◌, arith, lt-ltb, le-ltb}
use Rattle.std.proofs.lemmas.Bool.{ltb-true, ltb-false}
use Rattle.ffi3_cdecl_spec.specs.Machine.{and_more}
use Rattle.ffi3_cdecl_spec.specs.Grammar.{MOST_OPEN}

pub and_more_is : (n m : ℕ) → and_more n m ≡ n + m
and_more_is zero m = omega arith
and_more_is (suc n) m =
    let rest : and_more n m ≡ n + m = and_more_is n m in
    let more : suc (n + m) ≡ suc n + m = omega arith in
    ap suc rest ∙ more

-- ---- room for one more

pub too_many : (d n : ℕ) → 16 < n → false ≡ ltb (d + n) MOST_OPEN
too_many d n h = sym (le-ltb (d + n) 16 (omega (arith, h)))

same_room : (d n room b : ℕ) → (d < room → b + d < n) → (room ≤ d → n ≤ b + d) → ltb d room ≡ ltb (b + d) n
same_room d n room b less more = by_test (ltb d room) refl
  where
    by_test : (t : Bool) → ltb d room ≡ t → ltb d room ≡ ltb (b + d) n
    by_test true e = e ∙ sym (lt-ltb (b + d) n (less (ltb-true d room e)))
    by_test false e = e ∙ sym (le-ltb (b + d) n (more (ltb-false d room e)))

pub room_left : (d n : ℕ) → n ≤ 16 → ltb d (16 - n) ≡ ltb (d + n) MOST_OPEN
room_left d n h =
    let turn : n + d ≡ d + n = omega arith in
    same_room d 16 (16 - n) n (λ less. omega (arith, less, h)) (λ more. omega (arith, more, h)) ∙ ap (λ k. ltb k 16) turn

-- what lies deeper by one and so many brackets
pub no_deeper : (d n room : ℕ) → room ≤ n → false ≡ ltb (suc d + n) room
no_deeper d n room h = sym (le-ltb (suc d + n) room (omega (arith, h)))

pub deeper : (d n room : ℕ) → n < room → ltb d (room - n - 1) ≡ ltb (suc d + n) room
deeper d n room h =
    let turn : suc n + d ≡ suc d + n = omega arith in
    same_room d room (room - n - 1) (suc n) (λ less. omega (arith, less, h)) (λ more. omega (arith, more, h)) ∙ ap (λ k. ltb k room) turn
