-- The name of a register, as C asks for it: by the numbers of a target, of a place and of the register.
use Rattle.std.specs.Prelude.{ℕ, cond, ◌==◌, List, [], ◌∷◌, codes, Option, Some, None, slice_get, slice_index_or}
use Rattle.ffi3_type_spec.specs.declared.Target.{Target}
use Rattle.ffi3_type_spec.specs.declared.Isa.{Isa}
use Rattle.ffi3_type_spec.specs.declared.Isa.TheVariants.{Amd64, Aarch64, Riscv}
use Rattle.ffi3_type_spec.specs.TargetIsa.{isa_of}
use Rattle.ffi3_place_spec.specs.RegisterNames.{general_names, floating_names}
use Rattle.ffi3_capi.specs.declared.codes.TheConstants.{IN_GENERAL, IN_FLOATING, IN_X87}
use Rattle.ffi3_capi.specs.Placed.{targets}

-- the x87 registers in which a result is given back (System V psABI AMD64 3.2.3, "Returning of Values", steps 6 to 8)
abbrev pub x87_names : Isa → List (List ℕ)
x87_names Amd64 = codes "st0" ∷ codes "st1" ∷ []
x87_names Aarch64 = []
x87_names Riscv = []

-- by the number of a place: general, floating or x87 registers
abbrev pub names_by : ℕ → Isa → List (List ℕ)
names_by place isa =
    cond (place == IN_GENERAL) (general_names isa)
    (cond (place == IN_FLOATING) (floating_names isa) (cond (place == IN_X87) (x87_names isa) []))

abbrev pub names_on : ℕ → Option Target → List (List ℕ)
names_on place None = []
names_on place (Some to) = names_by place (isa_of to)

-- THE NAME OF A REGISTER. What is no register has none.
abbrev pub register_name : ℕ → ℕ → ℕ → List ℕ
register_name target place number =
    slice_index_or (names_on place (slice_get targets target)) number []
