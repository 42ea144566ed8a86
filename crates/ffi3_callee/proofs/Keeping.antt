-- The registers that a return keeps.
use Rattle.std.specs.Prelude.{Bool, true, false, if◌then◌else◌}
use Rattle.std.proofs.Common.{◌≡◌, ◌⊎◌, inl, inr, ℕ, suc, ◌+◌, ◌<◌, List, [], ◌∷◌, ◌++◌, get_or, length, refl, ap, sym, ◌∙◌, subst, arith}
use Rattle.std.specs.List.{AllByRecursion}
use Rattle.std.proofs.lemmas.Bool.Decides.{nat_tests}
use Rattle.std.proofs.lemmas.List.{ext_get_or}
use Rattle.ffi3_type_spec.specs.declared.limits.TheConstants.{STACK_TOP}
use Rattle.ffi3_type_spec.specs.declared.Isa.{Isa}
use Rattle.ffi3_type_spec.specs.declared.Isa.TheVariants.{Amd64, Aarch64, Riscv}
use Rattle.ffi3_type_spec.specs.TargetIsa.{isa_of}
use Rattle.ffi3_place_spec.specs.declared.Loc.{Loc}
use Rattle.ffi3_place_spec.specs.declared.Loc.TheVariants.{G}
use Rattle.ffi3_place_spec.specs.declared.Res.{Res}
use Rattle.ffi3_place_spec.specs.declared.Res.TheVariants.{Nothing, Direct as DirectRes, Hidden as HiddenRes}
use Rattle.ffi3_place_spec.specs.declared.SaveWord.{SaveWord}
use Rattle.ffi3_place_spec.specs.declared.SaveWord.TheVariants.{Register}
use Rattle.ffi3_place_spec.specs.Image.{register}
use Rattle.ffi3_place_spec.specs.MachineRegisters.{is_reserved, link_place, pushed_bytes, reserved_places, to_list}
use Rattle.ffi3_place_spec.specs.Standard.{Standard}
use Rattle.ffi3_place_spec.specs.Agrees.{AgreesWithMachine, given_back, saved_registers, special}
use Rattle.ffi3_place_spec.specs.Holds.{Kept, SameIn}
use Rattle.ffi3_place_spec.specs.Sound.{Apart, IsNoneOf, closed_to_results, piece_locs, result_locs}
use Rattle.ffi3_place_spec.proofs.Tests.{each_weaker}
use Rattle.ffi3_machine_spec.specs.State.{State, image_of, returned, scribble_general, scribbled, scribbled_general, scribbled_register}
use Rattle.ffi3_machine.specs.Scribbled.{get_or-scribbled_general, length-scribbled_general}
use Rattle.ffi3_machine_transfer.specs.Stored.{IsPlace, word_in}
use Rattle.ffi3_marshal.proofs.Lawful.{across_none, each_first, each_join, each_rest, machine_places}
use Rattle.ffi3_machine_transfer.proofs.Composing.{by_register}
use Rattle.ffi3_machine_transfer.proofs.Tables.{reserved_are_places, reserved_not_link}
use Rattle.ffi3_callee.specs.Given.{RegistersStay, ReservedStay, result_uses}
use Rattle.ffi3_callee.specs.Saved.{HaveRegisters}
use Rattle.ffi3_callee.proofs.Laws.{each_among, each_both, none_saved}

-- ---- reserved registers

pub reserved_there : (std : Standard) → AgreesWithMachine std → AllByRecursion (IsPlace 0) std.reserved
reserved_there std agrees =
    subst (AllByRecursion (IsPlace 0)) (sym agrees.reserved) (reserved_are_places (isa_of std.target))

-- none of them is saved
pub reserved_not_saved : (std : Standard) → AgreesWithMachine std → AllByRecursion (IsNoneOf (saved_registers std.save_area)) std.reserved
reserved_not_saved std agrees =
    each_both (IsNoneOf std.callee_saved) (IsNoneOf (to_list std.link_register)) (IsNoneOf (saved_registers std.save_area)) (λ l a b. none_saved std agrees l (each_join (Apart l) std.callee_saved (to_list std.link_register) a b)) std.reserved (across_none std.callee_saved std.reserved across) link
  where
    across : AllByRecursion (λ l. AllByRecursion (Apart l) std.reserved) std.callee_saved
    across = each_weaker (IsNoneOf (special std)) (λ l. AllByRecursion (Apart l) std.reserved) (λ l none. each_first (Apart l) std.reserved (to_list std.link_register ++ (std.trampoline_registers ++ (to_list std.vector_count ++ to_list std.returned_address))) none.1) std.callee_saved agrees.callee_saved_plain

    link : AllByRecursion (IsNoneOf (to_list std.link_register)) std.reserved
    link = subst (λ o. AllByRecursion (IsNoneOf (to_list o)) std.reserved) (sym agrees.link_register) (subst (AllByRecursion (IsNoneOf (to_list (link_place (isa_of std.target))))) (sym agrees.reserved) (reserved_not_link (isa_of std.target)))

-- none of them is used for a result
pub uses_clear : (std : Standard) → AgreesWithMachine std → (res : Res) → AllByRecursion (IsNoneOf (closed_to_results std)) (result_locs res) → AllByRecursion (IsNoneOf (result_uses std res)) std.reserved
uses_clear std agrees Nothing h =
    each_weaker (IsPlace 0) (IsNoneOf []) (λ l p. tt) std.reserved (reserved_there std agrees)
uses_clear std agrees (DirectRes pieces) h =
    across_none (piece_locs pieces) std.reserved (each_weaker (IsNoneOf (closed_to_results std)) (λ l. AllByRecursion (Apart l) std.reserved) (λ l none. each_first (Apart l) std.reserved (to_list std.link_register) (each_rest (Apart l) std.callee_saved (std.reserved ++ to_list std.link_register) none.1)) (piece_locs pieces) h)
uses_clear std agrees (HiddenRes at buffer) h =
    across_none (to_list std.returned_address) std.reserved (each_weaker (IsNoneOf (given_back std ++ std.reserved)) (λ l. AllByRecursion (Apart l) std.reserved) (λ l none. each_rest (Apart l) (given_back std) std.reserved none) (to_list std.returned_address) agrees.returned_plain)

pub reserved_stay : (std : Standard) → AgreesWithMachine std → (ls : List Loc) (a b : State) → AllByRecursion (IsNoneOf ls) std.reserved → RegistersStay ls a b → ReservedStay std a b
reserved_stay std agrees ls a b none stay =
    each_both (IsPlace 0) (IsNoneOf ls) (λ at. word_in STACK_TOP b at ≡ word_in STACK_TOP a at) (λ l lies clear. stay l lies clear) std.reserved (reserved_there std agrees) none

pub reserved_then : (std : Standard) (a b c : State) → ReservedStay std a b → ReservedStay std b c → ReservedStay std a c
reserved_then std a b c s t =
    each_both (λ at. word_in STACK_TOP b at ≡ word_in STACK_TOP a at) (λ at. word_in STACK_TOP c at ≡ word_in STACK_TOP b at) (λ at. word_in STACK_TOP c at ≡ word_in STACK_TOP a at) (λ l p q. q ∙ p) std.reserved s t

-- ---- a scribble leaves them

scribble_leaves : (isa : Isa) (n k : ℕ) (m : State) → isa_of m.target ≡ isa → k < 32 → is_reserved isa k ≡ true → word_in STACK_TOP (scribbled n m) (G k) ≡ word_in STACK_TOP m (G k)
scribble_leaves isa n k m is below reserved =
    get_or-scribbled_general (isa_of m.target) n m.general k below ∙ ap (λ q. scribbled_register q n k (get_or m.general k 0)) is ∙ ap (λ (b : Bool). if b then get_or m.general k 0 else scribble_general n k) reserved

pub scribble_keeps : (isa : Isa) (n : ℕ) (m : State) → isa_of m.target ≡ isa → AllByRecursion (λ at. word_in STACK_TOP (scribbled n m) at ≡ word_in STACK_TOP m at) (reserved_places isa)
scribble_keeps Amd64 n m is = tt
scribble_keeps Aarch64 n m is = (scribble_leaves Aarch64 n 18 m is (omega arith) refl, tt)
scribble_keeps Riscv n m is = (
  scribble_leaves Riscv n 0 m is (omega arith) refl,
  (scribble_leaves Riscv n 3 m is (omega arith) refl, (scribble_leaves Riscv n 4 m is (omega arith) refl, tt)),
)

-- none is lost where only the reserved ones are the same
kept_alike : (b : Bool) (x y new : ℕ) → (b ≡ true → x ≡ y) → (if b then x else new) ≡ (if b then y else new)
kept_alike true x y new same = same refl
kept_alike false x y new same = refl

reserved_number : (isa : Isa) (k : ℕ) (a b : State) → is_reserved isa k ≡ true → AllByRecursion (λ at. word_in STACK_TOP b at ≡ word_in STACK_TOP a at) (reserved_places isa) → get_or b.general k 0 ≡ get_or a.general k 0
reserved_number Amd64 k a b is all = absurd cc
reserved_number Aarch64 k a b is all =
    let at : k ≡ 18 = grind (arith, nat_tests) in
    ap (λ n. get_or b.general n 0) at ∙ all.0 ∙ ap (λ n. get_or a.general n 0) (sym at)
reserved_number Riscv k a b is all = elim (one_of_three k is) [
  | inl at ↦ ap (λ n. get_or b.general n 0) at ∙ all.0 ∙ ap (λ n. get_or a.general n 0) (sym at)
  | inr later ↦ elim later [
    | inl at ↦ ap (λ n. get_or b.general n 0) at ∙ all.1.0 ∙ ap (λ n. get_or a.general n 0) (sym at)
    | inr at ↦ ap (λ n. get_or b.general n 0) at ∙ all.1.1.0 ∙ ap (λ n. get_or a.general n 0) (sym at)
  ]
]
  where
    one_of_three : (k : ℕ) → is_reserved Riscv k ≡ true → (k ≡ 0) ⊎ ((k ≡ 3) ⊎ (k ≡ 4))
    one_of_three k h = grind (arith, nat_tests)

-- a scribble tells two machines apart by their reserved registers alone
pub scribbled_alike : (std : Standard) → AgreesWithMachine std → (n : ℕ) (a b : State) → a.target ≡ std.target → ReservedStay std a b → scribbled_general (isa_of a.target) n b.general ≡ scribbled_general (isa_of a.target) n a.general
scribbled_alike std agrees n a b target_is stay =
    let isa = isa_of a.target in
    let there = subst (AllByRecursion (λ at. word_in STACK_TOP b at ≡ word_in STACK_TOP a at)) (agrees.reserved ∙ ap (λ t. reserved_places (isa_of t)) (sym target_is)) stay in
    ext_get_or 0 (scribbled_general (isa_of a.target) n b.general) (scribbled_general (isa_of a.target) n a.general) (length-scribbled_general (isa_of a.target) n b.general ∙ sym (length-scribbled_general (isa_of a.target) n a.general)) (λ k h.
    let below : k < 32 = omega (arith, h, length-scribbled_general (isa_of a.target) n b.general) in
    get_or-scribbled_general (isa_of a.target) n b.general k below ∙ kept_alike (is_reserved (isa_of a.target) k) (get_or b.general k 0) (get_or a.general k 0) (scribble_general n k) (λ is. reserved_number (isa_of a.target) k a b is there) ∙ sym (get_or-scribbled_general (isa_of a.target) n a.general k below))

pub reserved_scribbled : (std : Standard) → AgreesWithMachine std → (n : ℕ) (c d : State) → c.target ≡ std.target → d ≡ scribbled n c → ReservedStay std c d
reserved_scribbled std agrees n c d target_is d_is =
    subst (ReservedStay std c) (sym d_is) (subst (AllByRecursion (λ at. word_in STACK_TOP (scribbled n c) at ≡ word_in STACK_TOP c at)) (sym agrees.reserved) (scribble_keeps (isa_of std.target) n c (ap isa_of target_is)))

-- ---- the image at a return

same_register : (base len room : ℕ) (entry m : State) (at : Loc) → IsPlace 0 at → word_in STACK_TOP m at ≡ word_in base entry at → register (image_of len entry) at ≡ register (image_of room (returned m)) at
same_register base len room entry m at lies =
    by_register (λ at. word_in STACK_TOP m at ≡ word_in base entry at → register (image_of len entry) at ≡ register (image_of room (returned m)) at) (λ r below h. sym h) (λ r below h. sym h) at lies

-- each register that is saved has its value again
pub all_back : (value : Loc → ℕ) (m : State) (ws : List SaveWord) → ((i : ℕ) (at : Loc) → i < length ws → Register at ≡ get_or ws i (Register at) → word_in STACK_TOP m at ≡ value at) → AllByRecursion (λ at. word_in STACK_TOP m at ≡ value at) (saved_registers ws)
all_back value m [] back = tt
all_back value m (Register at ∷ ws) back =
    (back 0 at (omega arith) refl, all_back value m ws (λ i l below is. back (suc i) l (omega (arith, below)) is))
all_back value m (_ ∷ ws) back = all_back value m ws (λ i l below is. back (suc i) l (omega (arith, below)) is)

pub kept_return : (std : Standard) → AgreesWithMachine std → (base len room : ℕ) (entry m : State) → m.target ≡ std.target → m.sp ≡ entry.sp → HaveRegisters std.save_area base entry m → ReservedStay std entry m → Kept std (image_of len entry) (image_of room (returned m))
kept_return std agrees base len room entry m target_is sp_is have stay =
    record { preserved = preserved; reserved = reserved; sp = sp }
  where
    given : AllByRecursion (λ at. word_in STACK_TOP m at ≡ word_in base entry at) (given_back std)
    given = each_among (λ at. word_in STACK_TOP m at ≡ word_in base entry at) (saved_registers std.save_area) (given_back std) agrees.saves_each (all_back (λ at. word_in base entry at) m std.save_area have)

    preserved : SameIn std.callee_saved (image_of len entry) (image_of room (returned m))
    preserved = each_both (IsPlace 0) (λ at. word_in STACK_TOP m at ≡ word_in base entry at) (λ at. register (image_of len entry) at ≡ register (image_of room (returned m)) at) (λ l lies h. same_register base len room entry m l lies h) std.callee_saved (machine_places (isa_of std.target) 0 std.callee_saved agrees.callee_saved_exist) (each_first (λ at. word_in STACK_TOP m at ≡ word_in base entry at) std.callee_saved (to_list std.link_register) given)

    reserved : SameIn std.reserved (image_of len entry) (image_of room (returned m))
    reserved = each_both (IsPlace 0) (λ at. word_in STACK_TOP m at ≡ word_in STACK_TOP entry at) (λ at. register (image_of len entry) at ≡ register (image_of room (returned m)) at) (λ l lies h. same_register STACK_TOP len room entry m l lies h) std.reserved (reserved_there std agrees) stay

    sp : m.sp + pushed_bytes (isa_of m.target) ≡ entry.sp + std.link
    sp = ap (λ t. m.sp + pushed_bytes (isa_of t)) target_is ∙ ap (λ n. m.sp + n) (sym agrees.link) ∙ ap (λ n. n + std.link) sp_is
