-- A result that an image owns is what is loaded from it, in pieces or from the caller's buffer.
use Rattle.std.proofs.Common.{◌≡◌, ℕ, ◌+◌, ◌-◌, ◌≤◌, List, take, drop, length, ap, sym, ◌∙◌, subst, arith}
use Rattle.std.specs.List.{AllByRecursion}
use Rattle.std.proofs.lemmas.List.{drop-drop, drop-take, take-take}
use Rattle.ffi3_type_spec.specs.declared.Isa.{Isa}
use Rattle.ffi3_type_spec.specs.declared.limits.TheConstants.{STACK}
use Rattle.ffi3_type_spec.specs.TargetIsa.{isa_of}
use Rattle.ffi3_type_spec.specs.Tree.{Tree}
use Rattle.ffi3_type_spec.specs.Layout.{size_of, leaves_of}
use Rattle.ffi3_type_spec.specs.Signature.{Signature}
use Rattle.ffi3_type_spec.specs.Value.{ValueTree, value_in}
use Rattle.ffi3_type_spec.proofs.Layouts.{least_multiple-above}
use Rattle.ffi3_place_spec.specs.declared.Loc.{Loc}
use Rattle.ffi3_place_spec.specs.declared.Piece.{Piece}
use Rattle.ffi3_place_spec.specs.declared.Res.{Res}
use Rattle.ffi3_place_spec.specs.declared.Res.TheVariants.{Direct as DirectRes, Hidden}
use Rattle.ffi3_place_spec.specs.Standard.{Standard, plan_of, frame_of}
use Rattle.ffi3_place_spec.specs.Holds.{leaf_bytes, OwnResult, OwnsResult}
use Rattle.ffi3_place_spec.specs.Sound.{LiesIn, HaveAll, IsPieceOf, ResultHasAll, result_locs, IsWithin}
use Rattle.ffi3_place_spec.proofs.Tests.{each_weaker}
use Rattle.ffi3_machine_spec.specs.State.{State, image_of, stack_at}
use Rattle.ffi3_machine_transfer.specs.Stored.{IsPlace}
use Rattle.ffi3_marshal.proofs.Lawful.{machine_place}
use Rattle.ffi3_marshal.proofs.Stepping.{each_loc}
use Rattle.ffi3_machine_transfer.proofs.Outcomes.{buffer_within}
use Rattle.ffi3_machine_transfer.proofs.Owning.{part_of_frame}
use Rattle.ffi3_caller.specs.Loaded.{AreWithin, loaded}
use Rattle.ffi3_place_spec.proofs.Reading.{reads}
use Rattle.ffi3_place_spec.proofs.OnMachine.{IsSoundOnMachine}
use Rattle.ffi3_caller.proofs.Loading.{leaves_loaded}

-- the pieces of a result stand in registers
pub in_registers : (isa : Isa) (r : Res) (pieces : List Piece) → r ≡ DirectRes pieces → AllByRecursion (LiesIn isa 0) (result_locs r) → AllByRecursion (λ p. IsPlace 0 p.loc) pieces
in_registers isa r pieces is h =
    each_weaker (λ (p : Piece). LiesIn isa 0 p.loc) (λ (p : Piece). IsPlace 0 p.loc) (λ p k. machine_place isa 0 p.loc k) pieces (each_loc (LiesIn isa 0) pieces (subst (λ q. AllByRecursion (LiesIn isa 0) (result_locs q)) is h))

has_all : (t : Tree) (r : Res) (pieces : List Piece) → r ≡ DirectRes pieces → ResultHasAll t r → HaveAll t pieces
has_all t r pieces is h = subst (ResultHasAll t) is h

-- and lie in the value
pub are_within : (t : Tree) (r : Res) (pieces : List Piece) → r ≡ DirectRes pieces → ResultHasAll t r → AreWithin (size_of t) pieces
are_within t r pieces is h =
    each_weaker (IsPieceOf t) (IsWithin (size_of t)) (λ p k. (k.short, k.within, k.fits)) pieces (has_all t r pieces is h).each

pub direct_value : (m : State) (frame : ℕ) (std : Standard) (s : Signature) (pieces : List Piece) (old : List ℕ) (v : ValueTree) → IsSoundOnMachine std s → (plan_of std s).res ≡ DirectRes pieces → length old ≡ size_of s.result_type → length (loaded m pieces old) ≡ length old → OwnResult std s v (image_of frame m) → value_in s.result_type (loaded m pieces old) ≡ v
direct_value m frame std s pieces old v sound is sized still own =
    let t = s.result_type in
    let all = has_all t (plan_of std s).res pieces is sound.result_has_all in
    let within = are_within t (plan_of std s).res pieces is sound.result_has_all in
    let registers = in_registers (isa_of std.target) (plan_of std s).res pieces is sound.result_in_registers in
    let stand = subst (λ r. OwnsResult (image_of frame m) t r v) is own.stands in
    reads t v (loaded m pieces old) own.fitting (still ∙ sized) (leaves_loaded m frame (size_of t) pieces old (leaves_of t) (leaf_bytes v) sized within registers all.covered stand)

-- ---- a hidden result

pub hidden_value : (m : State) (std : Standard) (s : Signature) (at : Loc) (buffer start : ℕ) (v : ValueTree) → (plan_of std s).res ≡ Hidden at buffer → STACK ≤ m.sp → start ≡ m.sp + buffer → OwnResult std s v (image_of (frame_of std s) m) → value_in s.result_type (stack_at start (size_of s.result_type) m) ≡ v
hidden_value m std s at buffer start v is low starts own =
    let t = s.result_type in
    let frame = frame_of std s in
    let stand = subst (λ r. OwnsResult (image_of frame m) t r v) is own.stands in
    let plain : 0 + buffer ≡ buffer = omega arith in
    let there : (m.sp - STACK) + buffer ≡ start - STACK = omega (arith, starts, low) in
    let same = part_of_frame (drop (m.sp - STACK) m.stack) frame buffer (size_of t) (buffer_within std s at buffer is) ∙ ap (take (size_of t)) (drop-drop buffer (m.sp - STACK) m.stack ∙ ap (λ n. drop n m.stack) there) in
    ap (value_in t) (sym same ∙ ap (λ n. take (size_of t) (drop n (stack_at m.sp frame m))) (sym plain)) ∙ stand
