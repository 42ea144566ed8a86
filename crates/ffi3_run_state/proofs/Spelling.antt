-- The words of a stop, part after part.
use Rattle.std.proofs.Common.{◌≡◌, ℕ, List, ◌++◌}

pub wrong_signature : (w0 w1 w2 w3 w4 a b1 s1 b2 s2 : List ℕ) → w0 ≡ a → w1 ≡ w0 ++ b1 → w2 ≡ w1 ++ s1 → w3 ≡ w2 ++ b2 → w4 ≡ w3 ++ s2 → w4 ≡ a ++ b1 ++ s1 ++ b2 ++ s2
wrong_signature w0 w1 w2 w3 w4 a b1 s1 b2 s2 e0 e1 e2 e3 e4 = cc
