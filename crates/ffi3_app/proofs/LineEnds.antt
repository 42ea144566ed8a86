-- A line that is looked at byte by byte.
use Rattle.std.proofs.Common.{◌≡◌, ℕ, ◌+◌, ◌<◌, ◌≤◌, List, length, get_or, drop, refl, arith, ne_eqb}
use Rattle.std.proofs.lemmas.List.{drop_more, drop_all}
use Rattle.ffi3_app.specs.LineEnds.{line_length}

pub line_more : (bs : List ℕ) (n : ℕ) → n < length bs → (get_or bs n 0 ≡ 10 → ⊥) → line_length (drop n bs) ≡ line_length (drop (n + 1) bs) + 1
line_more bs n h e = rw (drop_more bs n 0 h, ne_eqb (get_or bs n 0) 10 e) (omega arith)

pub line_stops : (bs : List ℕ) (n : ℕ) → n < length bs → get_or bs n 0 ≡ 10 → line_length (drop n bs) ≡ 1
line_stops bs n h e = rw (drop_more bs n 0 h, e) refl

pub line_ends : (bs : List ℕ) (n : ℕ) → length bs ≤ n → line_length (drop n bs) ≡ 0
line_ends bs n h = rw (drop_all n bs h) refl
