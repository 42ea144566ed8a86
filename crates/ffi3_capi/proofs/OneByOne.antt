-- The arguments, each by itself, as they are read one behind another; and what is answered to C.
use Rattle.std.specs.Prelude.{Some, None, Option, slice_get}
use Rattle.std.proofs.Common.{◌≡◌, ℕ, suc, ◌+◌, ◌≤◌, List, [], ◌∷◌, ◌++◌, drop, length, replicate, refl, ap, sym, ◌∙◌, subst, arith, append_assoc, append-nil}
use Rattle.std.proofs.lemmas.List.{drop_all}
use Rattle.ffi3_type_spec.specs.declared.Target.{Target}
use Rattle.ffi3_type_spec.specs.Tree.{Tree}
use Rattle.ffi3_type_spec.specs.Layout.{size_of}
use Rattle.ffi3_type_spec.specs.Signature.{Signature}
use Rattle.ffi3_type_spec.specs.Value.{ValueTree}
use Rattle.ffi3_place_spec.specs.declared.Place.{Place}
use Rattle.ffi3_place_spec.specs.Image.{Image}
use Rattle.ffi3_place_spec.specs.Standard.{Standard, plan_of, round8}
use Rattle.ffi3_place_spec.specs.Sound.{PlaceHasAll}
use Rattle.ffi3_explain_spec.specs.declared.Outside.{Outside}
use Rattle.ffi3_explain_spec.specs.Arguments.{first_outside, least_stack, or_later, outside_of, value_by_standard, values_by_standard}
use Rattle.ffi3_explain_spec.specs.Standards.{standard_of}
use Rattle.ffi3_transfer.specs.Places.{ArgumentIsThere, ArgumentsAreReady}
use Rattle.ffi3_explain.proofs.Standing.{told_values}
use Rattle.ffi3_capi.specs.declared.each.EachArgument.{EachArgument}
use Rattle.ffi3_capi.specs.declared.entry.Found.{Found}
use Rattle.ffi3_capi.specs.declared.entry.Unread.{Unread}
use Rattle.ffi3_capi.specs.declared.entry.Unread.TheVariants.{Call, ShortStack}
use Rattle.ffi3_capi.specs.declared.fault.TextFault.{TextFault}
use Rattle.ffi3_capi.specs.declared.fault.FaultKind.TheVariants.{NoFault}
use Rattle.ffi3_capi.specs.Faults.{fault_with}
use Rattle.ffi3_capi.specs.declared.status.Refusal.TheVariants.{NoMemory}
use Rattle.ffi3_capi.specs.Entry.{AreBytesOf, AreFoundBy, HasOneMore, arguments_of, filler, none as no_bytes, first_and as first_bytes_and}
use Rattle.ffi3_capi.specs.Placed.{targets}
use Rattle.ffi3_capi.specs.Each.{AreSeen, AreUnseen, AreUnseenBy, HasArgument, IsSeen, each_argument}

-- an argument whose address points outside, and one whose bytes are there
module _ (m : Image) (base i : ℕ) (t : Tree) (p : Place) (old new : List ℕ) (one : EachArgument) (size at : ℕ) (sized : size ≡ size_of t) (counted : at ≡ length old) where
  told_by : (x : Option Outside) → outside_of m base i t p ≡ x → one ≡ each_argument size at x → one ≡ each_argument (size_of t) (length old) (outside_of m base i t p)
  told_by x e is =
      is ∙ ap (λ (n : ℕ). each_argument n at x) sized ∙ ap (λ (n : ℕ). each_argument (size_of t) n x) counted ∙ ap (each_argument (size_of t) (length old)) (sym e)

  pub seen_outside : (o : Outside) (room : ℕ) → outside_of m base i t p ≡ Some o → room ≡ round8 size → one ≡ each_argument size at (Some o) → new ≡ old ++ replicate room 0 → IsSeen m base i t p old new one
  seen_outside o room e rounded is wrote = record {
    told = told_by (Some o) e is;
    bytes = subst (λ (x : Option Outside). HasArgument m base t p x old new) (sym e) (wrote ∙ ap (λ (n : ℕ). old ++ replicate {A = ℕ} n 0) (rounded ∙ ap round8 sized));
  }

  pub seen_inside : outside_of m base i t p ≡ None → one ≡ each_argument size at None → HasOneMore t (value_by_standard m base t p) old new → IsSeen m base i t p old new one
  seen_inside e is more = record {
    told = told_by None e is;
    bytes = subst (λ (x : Option Outside). HasArgument m base t p x old new) (sym e) more;
  }

-- the arguments before number i are seen
pub record AreFront (m : Image) (base : ℕ) (ts : List Tree) (ps : List Place) (i : ℕ) (bytes : List ℕ) (each : List EachArgument) : Type 0 where
  pub front : (new : List ℕ) (rest : List EachArgument) → AreSeen m base i (drop i ts) (drop i ps) bytes new rest → AreSeen m base 0 ts ps [] new (each ++ rest)
  pub ready : ArgumentsAreReady m base (drop i ts) (drop i ps)

pub none_seen : (m : Image) (base : ℕ) (ts : List Tree) (ps : List Place) (bytes : List ℕ) (each : List EachArgument) → bytes ≡ [] → each ≡ [] → ArgumentsAreReady m base ts ps → AreFront m base ts ps 0 bytes each
none_seen m base ts ps bytes each no_byte no_one ready = record {
  front = λ new rest more. subst (λ (l : List EachArgument). AreSeen m base 0 ts ps [] new (l ++ rest)) (sym no_one) (subst (λ (b : List ℕ). AreSeen m base 0 ts ps b new rest) no_byte more);
  ready = ready;
}

module _ (m : Image) (base : ℕ) (ts : List Tree) (ps : List Place) (i : ℕ) (t : Tree) (p : Place) (types : drop i ts ≡ t ∷ drop (i + 1) ts) (places : drop i ps ≡ p ∷ drop (i + 1) ps) (bytes : List ℕ) (each : List EachArgument) (left : AreFront m base ts ps i bytes each) where
  pub ready_here : ArgumentIsThere m base p × PlaceHasAll t p × ArgumentsAreReady m base (drop (i + 1) ts) (drop (i + 1) ps)
  ready_here =
      subst (ArgumentsAreReady m base (t ∷ drop (i + 1) ts)) places (subst (λ (us : List Tree). ArgumentsAreReady m base us (drop i ps)) types left.ready)

  module _ (next : List ℕ) (one : EachArgument) (more : List EachArgument) (here : IsSeen m base i t p bytes next one) (pushed : more ≡ each ++ one ∷ []) where
    further : (new : List ℕ) (rest : List EachArgument) → AreSeen m base (i + 1) (drop (i + 1) ts) (drop (i + 1) ps) next new rest → AreSeen m base 0 ts ps [] new (more ++ rest)
    further new rest later =
        let back : i + 1 ≡ suc i = omega arith in
        let behind : AreSeen m base (suc i) (drop (i + 1) ts) (drop (i + 1) ps) next new rest = subst (λ (n : ℕ). AreSeen m base n (drop (i + 1) ts) (drop (i + 1) ps) next new rest) back later in
        let both : AreSeen m base i (t ∷ drop (i + 1) ts) (p ∷ drop (i + 1) ps) bytes new (one ∷ rest) = (next, (here, behind)) in
        let by_places : AreSeen m base i (t ∷ drop (i + 1) ts) (drop i ps) bytes new (one ∷ rest) = subst (λ (qs : List Place). AreSeen m base i (t ∷ drop (i + 1) ts) qs bytes new (one ∷ rest)) (sym places) both in
        let whole : AreSeen m base i (drop i ts) (drop i ps) bytes new (one ∷ rest) = subst (λ (us : List Tree). AreSeen m base i us (drop i ps) bytes new (one ∷ rest)) (sym types) by_places in
        let same : more ++ rest ≡ each ++ (one ∷ rest) = ap (λ (l : List EachArgument). l ++ rest) pushed ∙ append_assoc each (one ∷ []) rest in
        subst (λ (l : List EachArgument). AreSeen m base 0 ts ps [] new l) (sym same) (left.front new (one ∷ rest) whole)

    pub one_seen : AreFront m base ts ps (i + 1) next more
    one_seen = record { front = further; ready = ready_here.2 }

no_places : (m : Image) (base : ℕ) (ps : List Place) → ArgumentsAreReady m base [] ps → ps ≡ []
no_places m base [] ready = refl
no_places m base (p ∷ ps) ready = absurd ready

pub all_seen : (m : Image) (base : ℕ) (ts : List Tree) (ps : List Place) (i : ℕ) (bytes : List ℕ) (each : List EachArgument) → length ts ≤ i → AreFront m base ts ps i bytes each → AreSeen m base 0 ts ps [] bytes each
all_seen m base ts ps i bytes each past left =
    let no_types : drop i ts ≡ [] = drop_all i ts past in
    let no_more : drop i ps ≡ [] = no_places m base (drop i ps) (subst (λ (us : List Tree). ArgumentsAreReady m base us (drop i ps)) no_types left.ready) in
    let nothing : AreSeen m base i [] [] bytes bytes [] = refl in
    let end : AreSeen m base i (drop i ts) (drop i ps) bytes bytes [] = subst (λ (us : List Tree). AreSeen m base i us (drop i ps) bytes bytes []) (sym no_types) (subst (λ (qs : List Place). AreSeen m base i [] qs bytes bytes []) (sym no_more) nothing) in
    subst (λ (l : List EachArgument). AreSeen m base 0 ts ps [] bytes l) (append-nil each) (left.front bytes [] end)

-- ---- where no address points outside, the bytes are those of the values

inside : (x y : Option Outside) → or_later x y ≡ None → (x ≡ None) × (y ≡ None)
inside None y e = (refl, e)
inside (Some o) y e = cc

pub record Behind (ts : List Tree) (vs : List ValueTree) (old new : List ℕ) : Type 0 where
  pub bytes : List ℕ
  pub are : AreBytesOf ts vs bytes
  pub is : new ≡ old ++ bytes

pub bytes_seen : (m : Image) (base i : ℕ) (ts : List Tree) (ps : List Place) (old new : List ℕ) (each : List EachArgument) → AreSeen m base i ts ps old new each → first_outside m base i ts ps ≡ None → Behind ts (values_by_standard m base ts ps) old new
bytes_seen m base i [] [] old new [] all inner =
    record { bytes = []; are = no_bytes; is = all ∙ sym (append-nil old) }
bytes_seen m base i (t ∷ ts) (p ∷ ps) old new (one ∷ each) all inner =
    let next = all.0 in
    let here : IsSeen m base i t p old next one = all.1.0 in
    let later : AreSeen m base (suc i) ts ps next new each = all.1.1 in
    let split = inside (outside_of m base i t p) (first_outside m base (suc i) ts ps) inner in
    let value : HasOneMore t (value_by_standard m base t p) old next = subst (λ (x : Option Outside). HasArgument m base t p x old next) split.0 here.bytes in
    let rest = bytes_seen m base (suc i) ts ps next new each later split.1 in
    let first : List ℕ = value.bytes ++ filler (size_of t) in
    record {
      bytes = first ++ rest.bytes;
      are = first_bytes_and t (value_by_standard m base t p) ts (values_by_standard m base ts ps) first rest.bytes (record { bytes = value.bytes; sized = value.sized; written = value.written; is = refl }) rest.are;
      is = rest.is ∙ ap (λ (b : List ℕ). b ++ rest.bytes) value.is ∙ append_assoc old first rest.bytes;
    }
bytes_seen m base i _ _ old new _ all inner = absurd all

-- the arguments, where no address points outside
found_same : (std : Standard) (s : Signature) (m : Image) (f : Found) (each : List EachArgument) → f.told ≡ arguments_of (length s.arguments) (length f.bytes) (least_stack std s) (fault_with NoFault) → least_stack std s ≤ length m.stack → AreSeen m std.link 0 s.arguments (plan_of std s).places [] f.bytes each → None ≡ first_outside m std.link 0 s.arguments (plan_of std s).places → AreFoundBy std s m f
found_same std s m f each told long all inner =
    let values = values_by_standard m std.link s.arguments (plan_of std s).places in
    let read = bytes_seen m std.link 0 s.arguments (plan_of std s).places [] f.bytes each all (sym inner) in
    record {
      long = long;
      values = values;
      held = told_values std s m std.link refl values refl (sym inner);
      bytes = subst (λ (b : List ℕ). AreBytesOf s.arguments values b) (sym read.is) read.are;
      told = told;
    }

pub found_by_each : (std : Standard) (cif s : Signature) (m : Image) (f : Found) (each : List EachArgument) → cif ≡ s → f.told ≡ arguments_of (length s.arguments) (length f.bytes) (least_stack std s) (fault_with NoFault) → least_stack std cif ≤ length m.stack → AreSeen m std.link 0 cif.arguments (plan_of std cif).places [] f.bytes each → None ≡ first_outside m std.link 0 cif.arguments (plan_of std cif).places → AreFoundBy std s m f
found_by_each std cif s m f each same told =
    subst (λ (r : Signature). least_stack std r ≤ length m.stack → AreSeen m std.link 0 r.arguments (plan_of std r).places [] f.bytes each → None ≡ first_outside m std.link 0 r.arguments (plan_of std r).places → AreFoundBy std s m f) (sym same) (found_same std s m f each told)

-- ---- what is answered

pub are_unseen : (declares : Signature → Type 0) (is_fault : TextFault → Type 0) (target : ℕ) (m : Image) (to : Target) (s : Signature) (u : Unread) → slice_get targets target ≡ Some to → declares s → AreUnseenBy (standard_of to) s m u → AreUnseen declares is_fault target m u
are_unseen declares is_fault target m to s (Call NoMemory) is declared why = tt
are_unseen declares is_fault target m to s (ShortStack count stack) is declared why = record {
  to = to;
  signature = s;
  call = record { to_is = is; declared = declared };
  unseen = why;
}
are_unseen declares is_fault target m to s _ is declared why = absurd why
