-- At which value of a signature a fault is, in words: the result or an argument, as the lines of `place` name them.
use Rattle.std.specs.Prelude.{ℕ, List, ◌++◌, codes, decimal}
use Rattle.ffi3_type_spec.specs.Signature.{Position, at_result, at_argument, SignatureFault, too_many, bad_type}
use Rattle.ffi3_type_spec.specs.Signature.{bad_fixed, bad_argument_type}

-- the name of a value
abbrev pub position_name : Position → List ℕ
position_name at_result = codes "ret"
position_name (at_argument i) = codes "arg " ++ decimal i

-- what is told of a value, behind its name
abbrev pub words_at : Position → List ℕ → List ℕ
words_at position words = position_name position ++ (codes ": " ++ words)

-- What is told of a signature's fault, behind the name of the value that has it. How many arguments there are, and how many of them are fixed, is the fault of no value, and is told alone.
abbrev pub placed_words : SignatureFault → List ℕ → List ℕ
placed_words (too_many n) words = words
placed_words (bad_type position path fault) words = words_at position words
placed_words (bad_fixed fixed n) words = words
placed_words (bad_argument_type i) words = words_at (at_argument i) words
