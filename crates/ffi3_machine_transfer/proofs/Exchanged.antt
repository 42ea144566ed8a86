-- Words that are written into a list of bytes, and those around them.
use Rattle.std.proofs.Common.{◌≡◌, ℕ, ◌+◌, ◌≤◌, List, ◌++◌, length, take, drop, ap, ◌∙◌, arith, length-append}
use Rattle.std.specs.List.{replace_range}
use Rattle.std.proofs.lemmas.List.{length-take-le}
use Rattle.std.proofs.lemmas.Slice.{drop-append-drop}
use Rattle.ffi3_machine_spec.specs.Memory.{low_bytes}
use Rattle.ffi3_machine.proofs.Written.{range-written, above-written, below-written}

pub word_written : (xs : List ℕ) (at v : ℕ) → at + 8 ≤ length xs → take 8 (drop at (replace_range xs at (at + length (low_bytes 8 v)) (low_bytes 8 v))) ≡ low_bytes 8 v
word_written xs at v low = range-written xs (low_bytes 8 v) at (omega arith)

pub word_below : (xs : List ℕ) (n at v : ℕ) → n + 8 ≤ at → at + 8 ≤ length xs → take 8 (drop n (replace_range xs at (at + length (low_bytes 8 v)) (low_bytes 8 v))) ≡ take 8 (drop n xs)
word_below xs n at v near low = below-written xs (low_bytes 8 v) at 8 n (omega arith) (omega arith)

pub word_above : (xs : List ℕ) (n at v : ℕ) → at + 8 ≤ n → at + 8 ≤ length xs → take 8 (drop n (replace_range xs at (at + length (low_bytes 8 v)) (low_bytes 8 v))) ≡ take 8 (drop n xs)
word_above xs n at v far low = above-written xs (low_bytes 8 v) at 8 n (omega arith) (omega arith)

pub above_all : (xs : List ℕ) (at v n : ℕ) → at + 8 ≤ n → at + 8 ≤ length xs → drop n (replace_range xs at (at + length (low_bytes 8 v)) (low_bytes 8 v)) ≡ drop n xs
above_all xs at v n far low =
    drop-append-drop (at + 8) xs (take at xs ++ low_bytes 8 v) n far (length-append (take at xs) (low_bytes 8 v) ∙ ap (λ k. k + 8) (length-take-le at xs (omega arith)))
