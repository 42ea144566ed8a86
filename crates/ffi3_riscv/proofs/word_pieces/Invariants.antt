use Rattle.std.proofs.Common.{◌≡◌, ◌+◌, ◌-◌, ◌++◌}
use Rattle.ffi3_type_spec.specs.Layout.{size_of}
use Rattle.ffi3_place_spec.specs.Doublewords.{doublewords_at}
use Rattle.ffi3_riscv_spec.specs.Riscv.{word, extension, word_pieces}
use Rattle.ffi3_riscv.proofs.word_pieces.Given as goal

abbrev pub invariant-loop-j : goal.invariant-loop-j
invariant-loop-j l = l.pieces ++ doublewords_at (λ k. word (l.first + k)) (size_of l.ty) (extension l.ty) l.j (l.count - l.j) ≡ word_pieces l.first l.ty l.count
