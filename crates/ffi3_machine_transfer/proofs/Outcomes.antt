-- A result that an image owns or holds stays, where another has the same stack and sp, and the same numbers in the registers of results.
use Rattle.std.specs.Prelude.{Option, Some, None}
use Rattle.std.proofs.Common.{◌≡◌, ℕ, ◌+◌, ◌≤◌, List, take, drop, length, ap, sym, ◌∙◌, subst, arith}
use Rattle.std.specs.List.{AllByRecursion}
use Rattle.ffi3_type_spec.specs.Tree.{Tree}
use Rattle.ffi3_type_spec.specs.Layout.{leaves_of, size_of}
use Rattle.ffi3_type_spec.specs.Signature.{Signature}
use Rattle.ffi3_type_spec.specs.Value.{ValueTree, value_in}
use Rattle.ffi3_type_spec.specs.TargetIsa.{isa_of}
use Rattle.ffi3_place_spec.specs.declared.Loc.{Loc}
use Rattle.ffi3_place_spec.specs.declared.Loc.TheVariants.{G, F}
use Rattle.ffi3_place_spec.specs.declared.Res.{Res}
use Rattle.ffi3_place_spec.specs.declared.Res.TheVariants.{Nothing, Direct, Hidden}
use Rattle.ffi3_place_spec.specs.Image.{Image, register}
use Rattle.ffi3_place_spec.specs.MachineRegisters.{to_list}
use Rattle.ffi3_place_spec.specs.Standard.{Standard, ResultSpot, no_result, in_result_pieces, in_buffer, plan_of, frame_of, result_at, buffer_end, frame_copies_end, round8}
use Rattle.ffi3_type_spec.proofs.Layouts.{least_multiple-above}
use Rattle.ffi3_place_spec.specs.Holds.{leaf_bytes, FillsResult, HoldsResult, OwnResult, OwnsResult, RegisterHolds}
use Rattle.ffi3_place_spec.specs.Sound.{result_locs}
use Rattle.ffi3_place_spec.proofs.OnMachine.{IsSoundOnMachine}
use Rattle.ffi3_machine_transfer.specs.Stored.{IsPlace}
use Rattle.ffi3_machine_transfer.proofs.Alike.{AreAlike, leaves_stand, pieces_filled}
use Rattle.ffi3_machine_transfer.proofs.Tables.{each_with}
use Rattle.ffi3_marshal.proofs.Lawful.{machine_places}

module _ (a b : Image) (IsKept : Loc → Type 0) (sp : b.sp ≡ a.sp) (stack : b.stack ≡ a.stack) (same : (l : Loc) → IsPlace 0 l → IsKept l → register b l ≡ register a l) where
  abbrev IsSame : Loc → Type 0
  IsSame l = IsPlace 0 l × IsKept l

  both : (ls : List Loc) → AllByRecursion (IsPlace 0) ls → AllByRecursion IsKept ls → AllByRecursion IsSame ls
  both = each_with (IsPlace 0) IsKept IsSame (λ l lies kept. (lies, kept))

  alike : AreAlike 0 0 IsSame a b
  alike = record {
    sp = ap (λ n. n + 0) sp;
    stack = ap (drop 0) stack;
    general = λ r kept. same (G r) kept.0 kept.1;
    floating = λ r kept. same (F r) kept.0 kept.1;
  }

  owns_kept : (t : Tree) (v : ValueTree) (res : Res) → AllByRecursion IsSame (result_locs res) → OwnsResult a t res v → OwnsResult b t res v
  owns_kept t v Nothing kept h = tt
  owns_kept t v (Direct pieces) kept h =
      leaves_stand 0 0 IsSame a b alike pieces (leaves_of t) (leaf_bytes v) kept h
  owns_kept t v (Hidden at buffer) kept h =
      ap (λ xs. value_in t (take (size_of t) (drop (0 + buffer) xs))) stack ∙ h

  tells_kept : (o : Option Loc) (n : ℕ) → AllByRecursion IsSame (to_list o) → RegisterHolds a o n → RegisterHolds b o n
  tells_kept (Some at) n kept h = same at kept.0.0 kept.0.1 ∙ h
  tells_kept None n kept h = tt

  fills_kept : (std : Standard) (t : Tree) (v : ValueTree) (res : Res) → AllByRecursion IsSame (result_locs res) → AllByRecursion IsSame (to_list std.returned_address) → FillsResult std a t res v → FillsResult std b t res v
  fills_kept std t v Nothing kept told h = tt
  fills_kept std t v (Direct pieces) kept told h = pieces_filled 0 0 IsSame a b alike t v pieces kept h
  fills_kept std t v (Hidden at buffer) kept told h =
      subst (λ q. RegisterHolds b std.returned_address (q + buffer)) (sym sp) (tells_kept std.returned_address (a.sp + buffer) told h)

  pub own_result_kept : (std : Standard) (s : Signature) (v : ValueTree) → IsSoundOnMachine std s → AllByRecursion IsKept (result_locs (plan_of std s).res) → OwnResult std s v a → OwnResult std s v b
  own_result_kept std s v sound kept own =
      let same_locs = both (result_locs (plan_of std s).res) (machine_places (isa_of std.target) 0 (result_locs (plan_of std s).res) sound.result_in_registers) kept in
      record {
        reaches = subst (λ xs. frame_of std s ≤ length xs) (sym stack) own.reaches;
        fitting = own.fitting;
        stands = owns_kept s.result_type v (plan_of std s).res same_locs own.stands;
      }

  pub result_kept : (std : Standard) (s : Signature) (v : ValueTree) → IsSoundOnMachine std s → AllByRecursion IsKept (result_locs (plan_of std s).res) → AllByRecursion (IsPlace 0) (to_list std.returned_address) → AllByRecursion IsKept (to_list std.returned_address) → HoldsResult std s v a → HoldsResult std s v b
  result_kept std s v sound kept there clear h =
      let same_locs = both (result_locs (plan_of std s).res) (machine_places (isa_of std.target) 0 (result_locs (plan_of std s).res) sound.result_in_registers) kept in
      record {
        own = own_result_kept std s v sound kept h.own;
        filled = fills_kept std s.result_type v (plan_of std s).res same_locs (both (to_list std.returned_address) there clear) h.filled;
      }

-- ---- a hidden result's buffer

buffer_is : (start : ℕ → Tree → ℕ) (end : ℕ) (t : Tree) (spot : ResultSpot) (at : Loc) (buffer : ℕ) → result_at start end t spot ≡ Hidden at buffer → buffer_end start end t spot ≡ buffer + round8 (size_of t)
buffer_is start end t no_result at buffer is = cc
buffer_is start end t (in_result_pieces pieces) at buffer is = cc
buffer_is start end t (in_buffer here) at buffer is =
    let same : start end t ≡ buffer = cc in
    ap (λ n. n + round8 (size_of t)) same

-- it lies in the frame
pub buffer_within : (std : Standard) (s : Signature) (at : Loc) (buffer : ℕ) → (plan_of std s).res ≡ Hidden at buffer → buffer + size_of s.result_type ≤ frame_of std s
buffer_within std s at buffer is =
    let p = std.placing s in
    let t = s.result_type in
    let ends = buffer_is std.copy_start (frame_copies_end std s) t p.result_spot at buffer is in
    omega (arith, ends, least_multiple-above 8 (size_of t), least_multiple-above 16 (buffer_end std.copy_start (frame_copies_end std s) t p.result_spot))
