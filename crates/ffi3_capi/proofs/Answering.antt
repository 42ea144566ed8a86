-- What is answered to C.
use Rattle.std.specs.Prelude.{Some, None, Option, slice_get}
use Rattle.std.proofs.Common.{◌≡◌, ℕ, List, Bool, refl, sym, subst, ap, ◌∙◌}
use Rattle.ffi3_type_spec.specs.declared.Target.{Target}
use Rattle.ffi3_type_spec.specs.Tree.{Tree}
use Rattle.ffi3_type_spec.specs.Signature.{Signature}
use Rattle.ffi3_nodes.specs.declared.Node.{Node}
use Rattle.ffi3_place_spec.specs.Image.{Image}
use Rattle.ffi3_capi.specs.declared.fault.TextFault.{TextFault}
use Rattle.ffi3_capi.specs.declared.layouts.LaidLeaf.{LaidLeaf}
use Rattle.ffi3_capi.specs.declared.layouts.LaidType.{LaidType}
use Rattle.ffi3_capi.specs.declared.layouts.Laid.{Laid}
use Rattle.ffi3_capi.specs.declared.status.Refusal.{Refusal}
use Rattle.ffi3_capi.specs.declared.status.Refusal.TheVariants.{NoSuchTarget, NoMemory}
use Rattle.ffi3_capi.specs.declared.entry.Unread.{Unread}
use Rattle.ffi3_capi.specs.declared.entry.Unread.TheVariants.{Call}
use Rattle.ffi3_capi.specs.declared.whole.WholeType.{WholeType}
use Rattle.ffi3_capi.specs.WholeType.{whole_type, no_whole_type, AreNodesOfTypeBy, IsTypeRefusal, TellsType, told as told_type, refused as no_type_told}
use Rattle.ffi3_capi.specs.Filled.{has_room, filled, room_status}
use Rattle.ffi3_capi.specs.Refused.{status_of, fault_in, count_in}
use Rattle.ffi3_explain_spec.specs.Standards.{standard_of}
use Rattle.ffi3_capi.specs.Placed.{targets}
use Rattle.ffi3_capi.specs.OnTarget.{OnTarget, unknown}
use Rattle.ffi3_format_spec.specs.declared.Format.{Format}
use Rattle.ffi3_capi.specs.Laid.{IsLaid, IsLayoutRefusal, no_type, LaysOut, laid_out, refused as no_layout}
use Rattle.ffi3_capi.specs.Entry.{AreNotRead, AreNotReadBy}

-- the same, where the status, what is told and what is written are those of an answer that is given
pub answered : {A B : Type 0} (P : ℕ → A → B → Type 0) {n m : ℕ} {a b : A} {x y : B} → n ≡ m → a ≡ b → x ≡ y → P m b y → P n a x
answered {A = A} {B = B} P {n = n} {m = m} {a = a} {b = b} {x = x} status told wrote h =
    subst (λ (k : ℕ). P k a x) (sym status) (subst (λ (c : A). P m c x) (sym told) (subst (λ (z : B). P m b z) (sym wrote) h))

pub lays_out : (declares : Signature → Type 0) (is_fault : TextFault → Type 0) (value : ℕ) (old new : List LaidLeaf) (l : Laid) (fits : Bool) (status : ℕ) → IsLaid declares value l → fits ≡ has_room l.leaves old → status ≡ room_status fits → new ≡ filled l.leaves old → LaysOut declares is_fault value old status l.layout new
lays_out declares is_fault value old new l fits status is room told wrote =
    answered (LaysOut declares is_fault value old) (told ∙ ap room_status room) refl wrote (laid_out l is)

pub refuses_layout : (declares : Signature → Type 0) (is_fault : TextFault → Type 0) (value : ℕ) (old : List LaidLeaf) (r : Refusal) (layout : LaidType) (count : ℕ) (fault : TextFault) (status : ℕ) → IsLayoutRefusal declares is_fault value r → count ≡ count_in r → fault ≡ fault_in r → layout ≡ no_type count fault → status ≡ status_of r → LaysOut declares is_fault value old status layout old
refuses_layout declares is_fault value old r layout count fault status is counted why wrote told =
    answered (LaysOut declares is_fault value old) told (wrote ∙ ap (λ n. no_type n fault) counted ∙ ap (no_type (count_in r)) why) refl (no_layout r is)

-- ---- the type that nodes are

pub tells : {A : Type 0} (o : Option Format) (ns : List Node) (items : Tree → List A) (t : Tree) (old new got : List A) (whole : WholeType) (fits : Bool) (status : ℕ) → AreNodesOfTypeBy o ns t → got ≡ items t → whole ≡ whole_type t → fits ≡ has_room got old → status ≡ room_status fits → new ≡ filled got old → TellsType o ns items old status whole new
tells {A = A} o ns items t old new got whole fits status is all told room answered_is wrote =
    let number : status ≡ room_status (has_room (items t) old) = answered_is ∙ ap room_status room ∙ ap (λ (g : List A). room_status (has_room g old)) all in
    answered (TellsType o ns items old) number told (wrote ∙ ap (λ (g : List A). filled g old) all) (told_type t is)

pub tells_none : {A : Type 0} (o : Option Format) (ns : List Node) (items : Tree → List A) (old : List A) (r : Refusal) (whole : WholeType) (fault : TextFault) (status : ℕ) → IsTypeRefusal o ns r → fault ≡ fault_in r → whole ≡ no_whole_type fault → status ≡ status_of r → TellsType o ns items old status whole old
tells_none o ns items old r whole fault status is why wrote status_is =
    answered (TellsType o ns items old) status_is (wrote ∙ ap no_whole_type why) refl (no_type_told r is)

-- ---- for a target

-- no standard has the number
pub on_no_target : {A B : Type 0} (target : ℕ) (says : ℕ → A → B → Type 0) (nothing : A) (old : B) (status : ℕ) (whole : A) → slice_get targets target ≡ None → status ≡ status_of NoSuchTarget → whole ≡ nothing → OnTarget target says nothing old status whole old
on_no_target target says nothing old status whole none status_is wrote =
    answered (OnTarget target says nothing old) status_is wrote refl (unknown none)

-- ---- arguments

pub are_not_read : (declares : Signature → Type 0) (is_fault : TextFault → Type 0) (target : ℕ) (m : Image) (to : Target) (s : Signature) (u : Unread) → slice_get targets target ≡ Some to → declares s → AreNotReadBy (standard_of to) s m u → AreNotRead declares is_fault target m u
are_not_read declares is_fault target m to s (Call NoMemory) is declared why = tt
are_not_read declares is_fault target m to s (Call _) is declared why = absurd why
are_not_read declares is_fault target m to s _ is declared why = record {
  to = to;
  signature = s;
  call = record { to_is = is; declared = declared };
  unread = why;
}
