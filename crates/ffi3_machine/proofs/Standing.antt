-- What stands at pc, from the bytes there.
use Rattle.std.proofs.Common.{◌≡◌, ℕ, List, Option, Some, None, IfSome, subst, sym}
use Rattle.ffi3_type_spec.specs.declared.Isa.{Isa}
use Rattle.ffi3_type_spec.specs.TargetIsa.{isa_of}
use Rattle.ffi3_isa.specs.declared.Instr.{Instr}
use Rattle.ffi3_machine_spec.specs.State.{State}
use Rattle.ffi3_machine.specs.MachineStep.{IsListed, IsAligned, IsInstructionAt, bytes_from}

-- what stands at pc, the bytes begin with
pub listed-at : (s : State) (t : Isa) (bytes : List ℕ) (i : Instr) (n : ℕ) → isa_of s.target ≡ t → bytes ≡ bytes_from (isa_of s.target) s.pc s.code → IsInstructionAt (isa_of s.target) s i n → IsListed t bytes i n
listed-at s t bytes i n e b h =
    let P : Isa → Type 0 = λ x. IsListed x bytes i n in
    let Q : List ℕ → Type 0 = λ x. IsListed (isa_of s.target) x i n in
    subst P e (subst Q (sym b) h.listed)

-- what the bytes begin with, stands at pc
pub stands-at : (s : State) (t : Isa) (bytes : List ℕ) → isa_of s.target ≡ t → bytes ≡ bytes_from (isa_of s.target) s.pc s.code → IsAligned t s.pc → (r : Option (Instr × ℕ)) → IfSome r (λ p. IsListed t bytes p.0 p.1) → IfSome r (λ p. IsInstructionAt (isa_of s.target) s p.0 p.1)
stands-at s t bytes e b aligned None h = tt
stands-at s t bytes e b aligned (Some p) h =
    let P : Isa → Type 0 = λ x. IsListed x bytes p.0 p.1 in
    let Q : List ℕ → Type 0 = λ x. IsListed (isa_of s.target) x p.0 p.1 in
    let A : Isa → Type 0 = λ x. IsAligned x s.pc in
    record { aligned = subst A (sym e) aligned; listed = subst Q b (subst P (sym e) h) }

pub aligned-at : (s : State) (t : Isa) (i : Instr) (n : ℕ) → isa_of s.target ≡ t → IsInstructionAt (isa_of s.target) s i n → IsAligned t s.pc
aligned-at s t i n e h = let A : Isa → Type 0 = λ x. IsAligned x s.pc in subst A e h.aligned
