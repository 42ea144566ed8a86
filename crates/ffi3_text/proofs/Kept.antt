-- The words of registers, one after another.
use Rattle.std.proofs.Common.{◌≡◌, ℕ, zero, suc, ◌+◌, ◌<◌, ◌≤◌, List, [], ◌∷◌, ◌++◌, length, map, take, ap, sym, ◌∙◌, subst, arith, append_assoc, append-nil}
use Rattle.std.specs.Prelude.{slice_index_or}
use Rattle.std.specs.List.{AllByRecursion, concat}
use Rattle.std.proofs.lemmas.List.{take_all}
use Rattle.ffi3_type_spec.specs.declared.Isa.{Isa}
use Rattle.ffi3_type_spec.specs.declared.Isa.TheVariants.{Amd64, Aarch64, Riscv}
use Rattle.ffi3_place_spec.specs.declared.Loc.{Loc}
use Rattle.ffi3_place_spec.specs.declared.Loc.TheVariants.{G, F, S}
use Rattle.ffi3_place_spec.specs.Sound.{LiesIn}
use Rattle.ffi3_text.specs.TraceLines.{IsRegister}

-- a register of an instruction set is one of a machine's 32
machine_has : (isa : Isa) (l : Loc) → LiesIn isa 0 l → IsRegister l
machine_has Amd64 (G k) h = omega (arith, h)
machine_has Amd64 (F k) h = omega (arith, h)
machine_has Aarch64 (G k) h = omega (arith, h)
machine_has Aarch64 (F k) h = omega (arith, h)
machine_has Riscv (G k) h = omega (arith, h)
machine_has Riscv (F k) h = omega (arith, h)
machine_has isa (S n w) h = omega (arith, h.0, h.1)

-- number k of a list of such registers
pub is_register : (isa : Isa) (ls : List Loc) (k : ℕ) (at : Loc) → AllByRecursion (LiesIn isa 0) ls → k < length ls → at ≡ slice_index_or ls k at → IsRegister at
is_register isa [] k at lie below is = absurd (omega arith)
is_register isa (l ∷ ls) zero at lie below is = subst IsRegister (sym is) (machine_has isa l lie.0)
is_register isa (l ∷ ls) (suc k) at lie below is =
    is_register isa ls k at lie.1 (omega arith) is

module _ (text : Loc → List ℕ) where
  -- one more
  one_more : (ls : List Loc) (k : ℕ) (at : Loc) → k < length ls → at ≡ slice_index_or ls k at → concat (map text (take (suc k) ls)) ≡ concat (map text (take k ls)) ++ text at
  one_more [] k at below is = absurd (omega arith)
  one_more (l ∷ ls) zero at below is = append-nil (text l) ∙ ap text (sym is)
  one_more (l ∷ ls) (suc k) at below is =
      ap (λ more. text l ++ more) (one_more ls k at (omega arith) is) ∙ sym (append_assoc (text l) (concat (map text (take k ls))) (text at))

  pub texts_turn : (ls : List Loc) (k : ℕ) (at : Loc) (before now next : List ℕ) → k < length ls → at ≡ slice_index_or ls k at → now ≡ before ++ concat (map text (take k ls)) → next ≡ now ++ text at → next ≡ before ++ concat (map text (take (k + 1) ls))
  texts_turn ls k at before now next below is n wrote =
      let more : suc k ≡ k + 1 = omega arith in
      wrote ∙ ap (λ t. t ++ text at) n ∙ append_assoc before (concat (map text (take k ls))) (text at) ∙ ap (λ t. before ++ t) (sym (one_more ls k at below is)) ∙ ap (λ j. before ++ concat (map text (take j ls))) more

  pub texts_end : (ls : List Loc) (k : ℕ) (before now : List ℕ) → length ls ≤ k → now ≡ before ++ concat (map text (take k ls)) → now ≡ before ++ concat (map text ls)
  texts_end ls k before now past n =
      n ∙ ap (λ ms. before ++ concat (map text ms)) (take_all k ls past)
