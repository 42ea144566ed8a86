-- What is found of a type is what the definitions say of it.
use Rattle.std.specs.Prelude.{◌≡◌}
use Rattle.ffi3_type_spec.specs.Tree.{Tree}
use Rattle.ffi3_type_spec.specs.Layout.{size_of, align_of}
use Rattle.ffi3_riscv_spec.specs.Riscv.{shape_of, integer_shape}
use Rattle.ffi3_riscv.specs.declared.Found.{Found}

pub record IsFound (t : Tree) (found : Found) : Type 0 where
  pub shape : found.shape ≡ shape_of t
  pub otherwise : found.otherwise ≡ integer_shape t
  pub size : found.size ≡ size_of t
  pub align : found.align ≡ align_of t
