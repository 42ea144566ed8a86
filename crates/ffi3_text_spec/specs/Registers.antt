-- The text of a place: a register's name, or where it is on the stack. Where the names of all registers of a kind are a label and the number, as x7, any number is written so.
use Rattle.std.specs.Prelude.{ℕ, ◌-◌, ◌/◌, cond, nat_lt, List, [], ◌++◌, codes, slice_index_or}
use Rattle.std.specs.Fmt.{decimal}
use Rattle.ffi3_type_spec.specs.declared.Isa.{Isa}
use Rattle.ffi3_type_spec.specs.declared.Isa.TheVariants.{Amd64, Aarch64, Riscv}
use Rattle.ffi3_place_spec.specs.declared.Loc.{Loc}
use Rattle.ffi3_place_spec.specs.declared.Loc.TheVariants.{G, F, S}
use Rattle.ffi3_place_spec.specs.RegisterNames.{general_names, floating_names}

-- where there is no such label, a number past the last register has no name
abbrev pub general_text : Isa → ℕ → List ℕ
general_text Amd64 r = slice_index_or (general_names Amd64) r []
general_text Aarch64 r = codes "x" ++ decimal r
general_text Riscv r = slice_index_or (general_names Riscv) r []

-- a word of st(k) has the name st0 or st1
abbrev pub x87_text : ℕ → List ℕ
x87_text r = codes "st" ++ decimal ((r - 16) / 2)

-- behind xmm15 stand the words of st(0) and st(1)
abbrev pub floating_text : Isa → ℕ → List ℕ
floating_text Amd64 r = cond (nat_lt r 16) (codes "xmm" ++ decimal r) (x87_text r)
floating_text Aarch64 r = codes "v" ++ decimal r
floating_text Riscv r = slice_index_or (floating_names Riscv) r []

-- a register's name; of a place on the stack its offset in bytes from the first stack argument
abbrev pub loc_name : Isa → Loc → List ℕ
loc_name isa (G r) = general_text isa r
loc_name isa (F r) = floating_text isa r
loc_name isa (S n w) = codes "stack" ++ decimal n
