-- Runs that are gathered one after another: what goes on where the last one ends makes it longer.
use Rattle.std.proofs.Common.{◌≡◌, ℕ, ◌+◌, ◌<◌, ◌≤◌, ◌⊎◌, inl, inr, Bool, true, false, ◌&&◌, cond, ltb, eqb, List, [], ◌∷◌, ◌++◌, refl, arith}
use Rattle.std.specs.List.{AllByRecursion}
use Rattle.std.proofs.lemmas.Bool.{cases_lt, ltb-true, ltb-false}
use Rattle.std.proofs.lemmas.Bool.Decides.{nat_tests}
use Rattle.ffi3_place_spec.proofs.Tests.{and_left, and_right}
use Rattle.ffi3_cif.specs.declared.runs.Run.{Run}
use Rattle.ffi3_cif.specs.Runs.{Copies, OneCopies, Neighbours, Rises, GoesOn, goes_on, longer, glued}

equal : (a b : ℕ) → eqb a b ≡ true → a ≡ b
equal a b h = grind (arith, nat_tests)

unequal : (a b : ℕ) → eqb a b ≡ false → a ≡ b → ⊥
unequal a b h e = grind (arith, nat_tests)

it_goes_on : (r n : Run) → goes_on r n ≡ true → GoesOn r n
it_goes_on r n h = record {
  at = equal (r.at + r.len) n.at (and_left (eqb (r.at + r.len) n.at) (eqb (r.off + r.len) n.off) h);
  off = equal (r.off + r.len) n.off (and_right (eqb (r.at + r.len) n.at) (eqb (r.off + r.len) n.off) h);
}

it_does_not : (r n : Run) → goes_on r n ≡ false → ¬ GoesOn r n
it_does_not r n h g = cases (eqb (r.at + r.len) n.at) (eqb (r.off + r.len) n.off) refl refl h
  where
    cases : (a b : Bool) → eqb (r.at + r.len) n.at ≡ a → eqb (r.off + r.len) n.off ≡ b → (a && b) ≡ false → ⊥
    cases true true e f k = cc
    cases true false e f k = unequal (r.off + r.len) n.off f g.off
    cases false b e f k = unequal (r.at + r.len) n.at e g.at

-- ---- what is kept

-- the first run begins where this one does
abbrev BeginsAt : Run → List Run → Type 0
BeginsAt r [] = ⊥
BeginsAt r (h ∷ hs) = (h.at ≡ r.at) × (h.off ≡ r.off)

-- the runs are those of the list, each with bytes and as long as can be
pub record AreGlued (parts runs : List Run) : Type 0 where
  pub has_each : (at off : ℕ) → OneCopies at off parts → OneCopies at off runs
  pub has_no_other : (at off : ℕ) → OneCopies at off runs → OneCopies at off parts
  pub some_bytes : AllByRecursion (λ r. 0 < r.len) runs
  pub whole : Neighbours (λ r n. (¬ GoesOn r n)) runs
  pub rising : Neighbours Rises parts → Neighbours Rises runs

no_bytes : (at off : ℕ) (r : Run) → r.len ≡ 0 → ¬ Copies at off r
no_bytes at off r e c = omega (arith, c.from, c.to, e)

-- ---- a part without bytes

rises_over : (r n : Run) (ns : List Run) → Neighbours Rises (r ∷ n ∷ ns) → Neighbours Rises (r ∷ ns)
rises_over r n [] h = tt
rises_over r n (m ∷ ms) h =
    (record { at = omega (arith, h.0.at, h.1.0.at); off = omega (arith, h.0.off, h.1.0.off) }, h.1.1)

without_empty : (r n : Run) (ns out : List Run) → n.len ≡ 0 → AreGlued (r ∷ ns) out → AreGlued (r ∷ n ∷ ns) out
without_empty r n ns out e g = record {
  has_each = each;
  has_no_other = no_other;
  some_bytes = g.some_bytes;
  whole = g.whole;
  rising = λ h. g.rising (rises_over r n ns h);
}
  where
    each : (at off : ℕ) → OneCopies at off (r ∷ n ∷ ns) → OneCopies at off out
    each at off (inl c) = g.has_each at off (inl c)
    each at off (inr (inl c)) = absurd (no_bytes at off n e c)
    each at off (inr (inr c)) = g.has_each at off (inr c)

    back : (at off : ℕ) → OneCopies at off (r ∷ ns) → OneCopies at off (r ∷ n ∷ ns)
    back at off (inl c) = inl c
    back at off (inr c) = inr (inr c)

    no_other : (at off : ℕ) → OneCopies at off out → OneCopies at off (r ∷ n ∷ ns)
    no_other at off c = back at off (g.has_no_other at off c)

-- ---- a part that goes on

longer_rises : (r n : Run) (ns : List Run) → GoesOn r n → Neighbours Rises (r ∷ n ∷ ns) → Neighbours Rises (longer r n ∷ ns)
longer_rises r n [] on h = tt
longer_rises r n (m ∷ ms) on h =
    (record { at = omega (arith, on.at, h.1.0.at); off = omega (arith, on.off, h.1.0.off) }, h.1.1)

with_longer : (r n : Run) (ns out : List Run) → GoesOn r n → AreGlued (longer r n ∷ ns) out → AreGlued (r ∷ n ∷ ns) out
with_longer r n ns out on g = record {
  has_each = each;
  has_no_other = no_other;
  some_bytes = g.some_bytes;
  whole = g.whole;
  rising = λ h. g.rising (longer_rises r n ns on h);
}
  where
    each : (at off : ℕ) → OneCopies at off (r ∷ n ∷ ns) → OneCopies at off out
    each at off (inl c) = g.has_each at off (inl (record { from = c.from; to = omega (arith, c.to); same = c.same }))
    each at off (inr (inl c)) =
        g.has_each at off (inl (record { from = omega (arith, c.from, on.at); to = omega (arith, c.to, on.at); same = omega (arith, c.same, on.at, on.off) }))
    each at off (inr (inr c)) = g.has_each at off (inr c)

    first_or_second : (at off : ℕ) → Copies at off (longer r n) → (at < r.at + r.len) ⊎ (r.at + r.len ≤ at) → OneCopies at off (r ∷ n ∷ ns)
    first_or_second at off c (inl below) = inl (record { from = c.from; to = below; same = c.same })
    first_or_second at off c (inr above) =
        inr (inl (record { from = omega (arith, above, on.at); to = omega (arith, c.to, on.at); same = omega (arith, c.same, on.at, on.off) }))

    back : (at off : ℕ) → OneCopies at off (longer r n ∷ ns) → OneCopies at off (r ∷ n ∷ ns)
    back at off (inl c) = first_or_second at off c (cases_lt at (r.at + r.len))
    back at off (inr c) = inr (inr c)

    no_other : (at off : ℕ) → OneCopies at off out → OneCopies at off (r ∷ n ∷ ns)
    no_other at off c = back at off (g.has_no_other at off c)

-- ---- a part that begins a run of its own

begins_rising : (r n : Run) (out : List Run) → BeginsAt n out → Rises r n → Neighbours Rises out → Neighbours Rises (r ∷ out)
begins_rising r n [] b h k = absurd b
begins_rising r n (o ∷ out) b h k =
    (record { at = omega (arith, h.at, b.0); off = omega (arith, h.off, b.1) }, k)

begins_whole : (r n : Run) (out : List Run) → BeginsAt n out → ¬ GoesOn r n → Neighbours (λ p q. (¬ GoesOn p q)) out → Neighbours (λ p q. (¬ GoesOn p q)) (r ∷ out)
begins_whole r n [] b h k = absurd b
begins_whole r n (o ∷ out) b h k =
    ((λ g. h (record { at = omega (arith, g.at, b.0); off = omega (arith, g.off, b.1) })), k)

with_next : (r n : Run) (ns out : List Run) → 0 < r.len → BeginsAt n out → ¬ GoesOn r n → AreGlued (n ∷ ns) out → AreGlued (r ∷ n ∷ ns) (r ∷ out)
with_next r n ns out some begins not g = record {
  has_each = each;
  has_no_other = no_other;
  some_bytes = (some, g.some_bytes);
  whole = begins_whole r n out begins not g.whole;
  rising = λ h. begins_rising r n out begins h.0 (g.rising h.1);
}
  where
    each : (at off : ℕ) → OneCopies at off (r ∷ n ∷ ns) → OneCopies at off (r ∷ out)
    each at off (inl c) = inl c
    each at off (inr c) = inr (g.has_each at off c)

    no_other : (at off : ℕ) → OneCopies at off (r ∷ out) → OneCopies at off (r ∷ n ∷ ns)
    no_other at off (inl c) = inl c
    no_other at off (inr c) = inr (g.has_no_other at off c)

after_empty : (r : Run) (parts out : List Run) → r.len ≡ 0 → AreGlued parts out → AreGlued (r ∷ parts) out
after_empty r parts out e g = record {
  has_each = each;
  has_no_other = λ at off c. inr (g.has_no_other at off c);
  some_bytes = g.some_bytes;
  whole = g.whole;
  rising = λ h. g.rising (rest parts h);
}
  where
    each : (at off : ℕ) → OneCopies at off (r ∷ parts) → OneCopies at off out
    each at off (inl c) = absurd (no_bytes at off r e c)
    each at off (inr c) = g.has_each at off c

    rest : (ps : List Run) → Neighbours Rises (r ∷ ps) → Neighbours Rises ps
    rest [] h = tt
    rest (p ∷ ps) h = h.1

-- ---- all of them

none : (n : ℕ) → ltb 0 n ≡ false → n ≡ 0
none n e = omega (arith, ltb-false 0 n e)

glued_begins : (r : Run) (ns : List Run) → 0 < r.len → BeginsAt r (glued r ns)
glued_begins r [] some = cases (ltb 0 r.len) refl
  where
    cases : (b : Bool) → ltb 0 r.len ≡ b → BeginsAt r (cond b (r ∷ []) [])
    cases true e = (refl, refl)
    cases false e = absurd (omega (arith, none r.len e, some))
glued_begins r (n ∷ ns) some =
    cases (ltb 0 n.len) (goes_on r n) (ltb 0 r.len) refl (glued_begins r ns some) (glued_begins (longer r n) ns (omega (arith, some)))
  where
    cases : (a b c : Bool) → ltb 0 r.len ≡ c → BeginsAt r (glued r ns) → BeginsAt r (glued (longer r n) ns) → BeginsAt r (cond a (cond b (glued (longer r n) ns) (cond c (r ∷ []) [] ++ glued n ns)) (glued r ns))
    cases false b c e same more = same
    cases true true c e same more = more
    cases true false true e same more = (refl, refl)
    cases true false false e same more = absurd (omega (arith, none r.len e, some))

pub are_glued : (r : Run) (ns : List Run) → AreGlued (r ∷ ns) (glued r ns)
are_glued r [] = cases (ltb 0 r.len) refl
  where
    cases : (b : Bool) → ltb 0 r.len ≡ b → AreGlued (r ∷ []) (cond b (r ∷ []) [])
    cases true e = record {
      has_each = λ at off c. c;
      has_no_other = λ at off c. c;
      some_bytes = (ltb-true 0 r.len e, tt);
      whole = tt;
      rising = λ h. h;
    }
    cases false e =
        after_empty r [] [] (none r.len e) (record { has_each = λ at off c. c; has_no_other = λ at off c. c; some_bytes = tt; whole = tt; rising = λ h. h })
are_glued r (n ∷ ns) =
    cases (ltb 0 n.len) (goes_on r n) (ltb 0 r.len) refl refl refl (are_glued r ns) (are_glued (longer r n) ns) (are_glued n ns)
  where
    cases : (a b c : Bool) → ltb 0 n.len ≡ a → goes_on r n ≡ b → ltb 0 r.len ≡ c → AreGlued (r ∷ ns) (glued r ns) → AreGlued (longer r n ∷ ns) (glued (longer r n) ns) → AreGlued (n ∷ ns) (glued n ns) → AreGlued (r ∷ n ∷ ns) (cond a (cond b (glued (longer r n) ns) (cond c (r ∷ []) [] ++ glued n ns)) (glued r ns))
    cases false b c d e f same more other = without_empty r n ns (glued r ns) (none n.len d) same
    cases true true c d e f same more other = with_longer r n ns (glued (longer r n) ns) (it_goes_on r n e) more
    cases true false true d e f same more other =
        with_next r n ns (glued n ns) (ltb-true 0 r.len f) (glued_begins n ns (ltb-true 0 n.len d)) (it_does_not r n e) other
    cases true false false d e f same more other =
        after_empty r (n ∷ ns) (glued n ns) (none r.len f) other
