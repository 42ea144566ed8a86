-- The bytes of the save area, on each instruction set.
use Rattle.std.specs.Prelude.{◌≡◌, refl}
use Rattle.ffi3_type_spec.specs.declared.Isa.TheVariants.{Amd64, Aarch64, Riscv}
use Rattle.ffi3_place_spec.specs.StubRegisters.{area_bytes}

-- rbx, rbp, r12 to r15, and the hidden argument
amd64_area : area_bytes Amd64 ≡ 56
amd64_area = refl

-- x19 to x30, v8 to v15, the result's address, and a spare word
aarch64_area : area_bytes Aarch64 ≡ 176
aarch64_area = refl

-- ra, s0 to s11, fs0 to fs11, and the hidden pointer
riscv_area : area_bytes Riscv ≡ 208
riscv_area = refl
