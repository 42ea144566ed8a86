-- Where one thing begins after another is never before it, and near behind it; and ends behind more things are no less.
use Rattle.std.proofs.Common.{ℕ, ◌+◌, ◌≤◌, max, Bool, true, false, cond, arith}
use Rattle.ffi3_type_spec.specs.declared.limits.TheConstants.{LARGEST_GAP}
use Rattle.ffi3_type_spec.specs.Tree.{Tree}
use Rattle.ffi3_type_spec.specs.Layout.{align_of, least_multiple}
use Rattle.ffi3_type_spec.proofs.Layouts.{rises, least_multiple-above, least_multiple-below, align_bounded}
use Rattle.ffi3_place_spec.specs.Standard.{start}
use Rattle.ffi3_place_spec.specs.Sums.{end_below}

-- ---- at a multiple of the alignment

pub start-behind : (end : ℕ) (t : Tree) → end ≤ start end t
start-behind end t = least_multiple-above (max 8 (align_of t)) end

pub start-near : (end : ℕ) (t : Tree) → start end t ≤ end + LARGEST_GAP
start-near end t =
    omega (arith, least_multiple-below (max 8 (align_of t)) end (omega arith), align_bounded t)

-- ---- at an even number, or at once

pub even-behind : (b : Bool) (end : ℕ) → end ≤ cond b (least_multiple 2 end) end
even-behind true end = least_multiple-above 2 end
even-behind false end = omega arith

pub even-near : (b : Bool) (end : ℕ) → cond b (least_multiple 2 end) end ≤ end + 1
even-near true end = omega (arith, least_multiple-below 2 end (omega arith))
even-near false end = omega arith

-- ---- ends behind more things

pub ends_rise : (step : ℕ → ℕ → ℕ) (from : ℕ) → ((i end : ℕ) → end ≤ step i end) → (i j : ℕ) → i ≤ j → end_below step from i ≤ end_below step from j
ends_rise step from behind = rises (end_below step from) (λ i. behind i (end_below step from i))
