-- What an exchange says of a machine: the registers are those words, and the stack is the return address and then the frame.
use Rattle.std.specs.Prelude.{ℕ, zero, suc, ◌+◌, ◌<◌, List, [], ◌∷◌, ◌++◌, drop, get_or}
use Rattle.ffi3_place_spec.specs.Image.{Image}
use Rattle.ffi3_moves.specs.Play.{frame_at, word_from}

-- each is a byte
abbrev pub AreBytes : List ℕ → Type 0
AreBytes bytes = (k : ℕ) → get_or bytes k 0 < 256

-- n words from an offset on
unfoldable pub words_from : ℕ → ℕ → List ℕ → List ℕ
words_from zero at bytes = []
words_from (suc n) at bytes = word_from bytes at ∷ words_from n (at + 8) bytes

-- THE IMAGE that an exchange is, whose floating file has 40 words, with this stack pointer and this return address on the stack: at an entry, or with none of it at a return
abbrev pub image_at : ℕ → List ℕ → List ℕ → Image
image_at sp link bytes = record {
  general = words_from 32 0 bytes;
  floating = words_from 40 256 bytes;
  sp = sp;
  stack = link ++ drop frame_at bytes;
}
