-- Where a line ends.
use Rattle.std.specs.Prelude.{ℕ, suc, ◌==◌, cond, List, [], ◌∷◌}

-- how many bytes the first line of a text has, with its newline; the last may have none
abbrev pub line_length : List ℕ → ℕ
line_length [] = 0
line_length (b ∷ bs) = cond (b == 10) 1 (suc (line_length bs))
