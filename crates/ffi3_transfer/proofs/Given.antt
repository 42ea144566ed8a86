-- A result that a callee gives, in registers or in the buffer whose address was passed.
use Rattle.std.specs.Prelude.{Option, Some, None, true, ◌^◌}
use Rattle.std.proofs.Common.{◌≡◌, ◌⊎◌, inl, inr, ℕ, ◌+◌, ◌-◌, ◌<◌, ◌≤◌, List, [], ◌∷◌, ◌++◌, take, drop, get_or, length, refl, ap, sym, ◌∙◌, subst, arith, length-drop}
use Rattle.std.specs.List.{AllByRecursion}
use Rattle.std.proofs.lemmas.Bool.{cases_lt}
use Rattle.std.proofs.lemmas.List.{ext_get_or, drop-drop}
use Rattle.ffi3_type_spec.specs.Tree.{Tree}
use Rattle.ffi3_type_spec.specs.Layout.{size_of}
use Rattle.ffi3_type_spec.specs.Signature.{Signature, SignatureIsPlaced}
use Rattle.ffi3_type_spec.specs.Value.{part, value_in}
use Rattle.ffi3_type_spec.specs.declared.Isa.{Isa}
use Rattle.ffi3_type_spec.specs.declared.Isa.TheVariants.{Amd64, Aarch64, Riscv}
use Rattle.ffi3_type_spec.specs.TargetIsa.{isa_of}
use Rattle.ffi3_type_spec.proofs.Fitting.{value_fits}
use Rattle.ffi3_type_spec.proofs.Placed.{placed_result_is_laid_out}
use Rattle.ffi3_place_spec.specs.declared.Loc.{Loc}
use Rattle.ffi3_place_spec.specs.declared.Loc.TheVariants.{S}
use Rattle.ffi3_place_spec.specs.declared.Piece.{Piece}
use Rattle.ffi3_place_spec.specs.declared.Res.{Res}
use Rattle.ffi3_place_spec.specs.declared.Res.TheVariants.{Nothing, Direct as DirectRes, Hidden}
use Rattle.ffi3_place_spec.specs.MachineRegisters.{to_list, reserved_places}
use Rattle.ffi3_place_spec.specs.Image.{Image, byte_at, word_at}
use Rattle.ffi3_place_spec.specs.Agrees.{AgreesWithMachine, given_back}
use Rattle.ffi3_place_spec.specs.Standard.{Standard, plan_of}
use Rattle.ffi3_place_spec.specs.Holds.{FillsAs, FillsResult, Kept, OwnsHidden, OwnsResult, RegisterHolds, SameIn}
use Rattle.ffi3_place_spec.specs.Sound.{Apart, IsNoneOf, IsSound, LiesIn, closed_to_results, piece_locs, result_locs}
use Rattle.ffi3_marshal.specs.Stored.{KeepsAbove, PieceStands, SameAt, Stays}
use Rattle.ffi3_transfer.specs.Places.{IsPlace}
use Rattle.ffi3_marshal.proofs.Composing.{same_word_at}
use Rattle.ffi3_marshal.proofs.Owning.{pieces_filled, pieces_stand}
use Rattle.ffi3_marshal.proofs.Lawful.{across_none, each_first, each_map, each_rest, any_places}
use Rattle.ffi3_explain_spec.specs.Arguments.{is_in_image}
use Rattle.ffi3_transfer.proofs.Ready.{registers_lie}
use Rattle.ffi3_transfer.specs.Calls.{IsBeside, IsGiven, IsGivenBy, ResultKeeps, at_return, given_locs, giving_bytes}

-- ---- registers alone

none_of_registers : (ls : List Loc) (n w : ℕ) → AllByRecursion (IsPlace 0) ls → IsNoneOf ls (S n w)
none_of_registers [] n w h = tt
none_of_registers (S k v ∷ ls) n w h = absurd (omega (arith, h.0.0, h.0.1))
none_of_registers (_ ∷ ls) n w h = (tt, none_of_registers ls n w h.1)

-- where registers alone are written the stack stays
pub stack_same : (base : ℕ) (ls : List Loc) (a b : Image) → AllByRecursion (IsPlace 0) ls → Stays base ls a b → b.stack ≡ a.stack
stack_same base ls a b registers s =
    ext_get_or 0 b.stack a.stack s.size (λ i h. each i)
  where
    each : (i : ℕ) → get_or b.stack i 0 ≡ get_or a.stack i 0
    each i =
        elim (cases_lt i base) [
          | inl low ↦ s.below i low
          | inr high ↦
              let there : base + (i - base) + 0 ≡ i = omega (arith, high) in
              subst (λ k. get_or b.stack k 0 ≡ get_or a.stack k 0) there (s.others (S (i - base) 1) (none_of_registers ls (i - base) 1 registers) 0 (omega arith))
        ]

-- a register is the same whatever the stack's places count from
register_same : (base : ℕ) (l : Loc) (a b : Image) → IsPlace 0 l → SameAt base l a b → SameAt 0 l a b
register_same base (S n w) a b h same = absurd (omega (arith, h.0, h.1))
register_same base _ a b h same = same

byte_moved : (std : Standard) (base : ℕ) (l : Loc) (m : Image) (k : ℕ) → IsPlace 0 l → byte_at (at_return std m) 0 l k ≡ byte_at m base l k
byte_moved std base (S n w) m k h = absurd (omega (arith, h.0, h.1))
byte_moved std base _ m k h = refl

word_moved : (std : Standard) (base : ℕ) (l : Loc) (m : Image) → IsPlace 0 l → word_at (at_return std m) 0 l ≡ word_at m base l
word_moved std base (S n w) m h = absurd (omega (arith, h.0, h.1))
word_moved std base _ m h = refl

pieces_moved : (std : Standard) (base : ℕ) (t : Tree) (bytes : List ℕ) (m : Image) (ps : List Piece) → AllByRecursion (IsPlace 0) (piece_locs ps) → AllByRecursion (PieceStands base m t bytes) ps → AllByRecursion (PieceStands 0 (at_return std m) t bytes) ps
pieces_moved std base t bytes m [] lie stand = tt
pieces_moved std base t bytes m (p ∷ ps) lie stand = (
  record {
    held = λ k h. byte_moved std base p.loc m k lie.0 ∙ stand.0.held k h;
    filled = subst (λ w. FillsAs p.ext w t (value_in t bytes)) (sym (word_moved std base p.loc m lie.0)) stand.0.filled;
  },
  pieces_moved std base t bytes m ps lie.1 stand.1,
)

-- what a register keeps, whatever the stack's places count from
from_base : (base : ℕ) (l : Loc) (m : Image) (k : ℕ) → IsPlace 0 l → byte_at m 0 l k ≡ byte_at m base l k
from_base base (S n w) m k h = absurd (omega (arith, h.0, h.1))
from_base base _ m k h = refl

keeps_moved : (base : ℕ) (old new : Image) (ps : List Piece) → AllByRecursion (IsPlace 0) (piece_locs ps) → AllByRecursion (KeepsAbove base old new) ps → AllByRecursion (KeepsAbove 0 old new) ps
keeps_moved base old new [] lie keep = tt
keeps_moved base old new (p ∷ ps) lie keep = (
  λ free k from below. from_base base p.loc new k lie.0 ∙ keep.0 free k from below ∙ sym (from_base base p.loc old k lie.0),
  keeps_moved base old new ps lie.1 keep.1,
)

told_moved : (std : Standard) (o : Option Loc) (n : ℕ) (m : Image) → AllByRecursion (IsPlace 0) (to_list o) → RegisterHolds m o n → RegisterHolds (at_return std m) o n
told_moved std None n m h told = tt
told_moved std (Some at) n m h told = word_moved std 0 at m h.0 ∙ told

-- ---- what a callee preserves

reserved_are_places : (isa : Isa) → AllByRecursion (IsPlace 0) (reserved_places isa)
reserved_are_places Amd64 = tt
reserved_are_places Aarch64 = (omega arith, tt)
reserved_are_places Riscv = (omega arith, (omega arith, (omega arith, tt)))

module _ (std : Standard) (agrees : AgreesWithMachine std) where
  reserved_lie : AllByRecursion (IsPlace 0) std.reserved
  reserved_lie =
      subst (AllByRecursion (IsPlace 0)) (sym agrees.reserved) (reserved_are_places (isa_of std.target))

  -- no result is given in a register that is preserved
  given_clear : (res : Res) → AllByRecursion (IsNoneOf (closed_to_results std)) (result_locs res) → AllByRecursion (IsNoneOf (given_locs std res)) std.callee_saved × AllByRecursion (IsNoneOf (given_locs std res)) std.reserved
  given_clear Nothing h = (
    each_map (LiesIn (isa_of std.target) 0) (IsNoneOf []) (λ l p. tt) std.callee_saved agrees.callee_saved_exist,
    each_map (IsPlace 0) (IsNoneOf []) (λ l p. tt) std.reserved reserved_lie,
  )
  given_clear (DirectRes pieces) h = (
    across_none (piece_locs pieces) std.callee_saved (each_map (IsNoneOf (closed_to_results std)) (λ l. AllByRecursion (Apart l) std.callee_saved) (λ l none. each_first (Apart l) std.callee_saved (std.reserved ++ to_list std.link_register) none.1) (piece_locs pieces) h),
    across_none (piece_locs pieces) std.reserved (each_map (IsNoneOf (closed_to_results std)) (λ l. AllByRecursion (Apart l) std.reserved) (λ l none. each_first (Apart l) std.reserved (to_list std.link_register) (each_rest (Apart l) std.callee_saved (std.reserved ++ to_list std.link_register) none.1)) (piece_locs pieces) h),
  )
  given_clear (Hidden at buffer) h = (
    across_none (to_list std.returned_address) std.callee_saved (each_map (IsNoneOf (given_back std ++ std.reserved)) (λ l. AllByRecursion (Apart l) std.callee_saved) (λ l none. each_first (Apart l) std.callee_saved (to_list std.link_register) (each_first (Apart l) (given_back std) std.reserved none)) (to_list std.returned_address) agrees.returned_plain),
    across_none (to_list std.returned_address) std.reserved (each_map (IsNoneOf (given_back std ++ std.reserved)) (λ l. AllByRecursion (Apart l) std.reserved) (λ l none. each_rest (Apart l) (given_back std) std.reserved none) (to_list std.returned_address) agrees.returned_plain),
  )

  module _ (res : Res) (old new : Image) (same : (l : Loc) → IsPlace 0 l → IsNoneOf (given_locs std res) l → SameAt 0 l old new) where
    each_same : (ls : List Loc) → AllByRecursion (IsPlace 0) ls → AllByRecursion (IsNoneOf (given_locs std res)) ls → SameIn ls old (at_return std new)
    each_same [] lie none = tt
    each_same (l ∷ ls) lie none =
        (sym (word_moved std 0 l new lie.0 ∙ same_word_at 0 l old new (same l lie.0 none.0)), each_same ls lie.1 none.1)

    preserved_all : AllByRecursion (IsNoneOf (closed_to_results std)) (result_locs res) → new.sp ≡ old.sp → Kept std old (at_return std new)
    preserved_all allowed sp =
        let clear = given_clear res allowed in record {
          preserved = each_same std.callee_saved (registers_lie (isa_of std.target) std.callee_saved agrees.callee_saved_exist) clear.0;
          reserved = each_same std.reserved reserved_lie clear.1;
          sp = ap (λ n. n + std.link) sp;
        }

module _ (std : Standard) (s : Signature) (sound : IsSound std s) (right : SignatureIsPlaced s) (agrees : AgreesWithMachine std) (bytes : List ℕ) (sized : length bytes ≡ size_of s.result_type) (old new : Image) where
  abbrev t : Tree
  t = s.result_type

  -- ---- no result

  same_at : (l : Loc) → SameAt 0 l old old
  same_at (S n w) = λ k few. refl
  same_at _ = refl

  pub nothing_given : giving_bytes std s ≤ length old.stack → old.sp + length old.stack < 2 ^ 64 → (plan_of std s).res ≡ Nothing → IsGiven std s bytes old old
  nothing_given room low is = record {
    given = subst (λ r. IsGivenBy std s.result_type r bytes old old) (sym is) tt;
    holds = λ long hidden. record {
      own = record {
        reaches = omega (arith, long, length-drop std.link old.stack);
        fitting = value_fits s.result_type bytes (placed_result_is_laid_out s right) sized;
        stands = subst (λ r. OwnsResult (at_return std old) s.result_type r (value_in s.result_type bytes)) (sym is) tt;
      };
      filled = subst (λ r. FillsResult std (at_return std old) s.result_type r (value_in s.result_type bytes)) (sym is) tt;
    };
    sp = refl;
    size = refl;
    registers = λ l place none. same_at l;
    kept = subst (ResultKeeps old old) (sym is) tt;
    preserved = preserved_all std agrees (plan_of std s).res old old (λ l place none. same_at l) sound.result_allowed refl;
    beside = λ i clear. refl;
    sized = sized;
    room = room;
    low = low;
  }

  -- ---- in registers

  module _ (pieces : List Piece) (is : (plan_of std s).res ≡ DirectRes pieces) where
    pub result_registers : AllByRecursion (IsPlace 0) (piece_locs pieces)
    result_registers =
        subst (λ r. AllByRecursion (IsPlace 0) (result_locs r)) is (any_places (isa_of std.target) 0 (result_locs (plan_of std s).res) sound.result_in_registers)

    pub direct_given : giving_bytes std s ≤ length old.stack → old.sp + length old.stack < 2 ^ 64 → (base : ℕ) → AllByRecursion (PieceStands base new s.result_type bytes) pieces → AllByRecursion (KeepsAbove base old new) pieces → Stays base (piece_locs pieces) old new → IsGiven std s bytes old new
    direct_given room low base stand keep stays =
        let moved = pieces_moved std base s.result_type bytes new pieces result_registers stand in
        let owns = pieces_stand 0 (at_return std new) s.result_type bytes pieces moved in
        let fills = pieces_filled 0 (at_return std new) s.result_type bytes pieces moved in
        let same = stack_same base (piece_locs pieces) old new result_registers stays in
        let others : (l : Loc) → IsPlace 0 l → IsNoneOf (given_locs std (plan_of std s).res) l → SameAt 0 l old new = λ l place none. register_same base l old new place (stays.others l (subst (λ r. IsNoneOf (given_locs std r) l) is none)) in
        record {
          given = subst (λ r. IsGivenBy std s.result_type r bytes old new) (sym is) (owns, fills);
          holds = λ long hidden. record {
            own = record {
              reaches = omega (arith, long, length-drop std.link new.stack, stays.size);
              fitting = value_fits s.result_type bytes (placed_result_is_laid_out s right) sized;
              stands = subst (λ r. OwnsResult (at_return std new) s.result_type r (value_in s.result_type bytes)) (sym is) owns;
            };
            filled = subst (λ r. FillsResult std (at_return std new) s.result_type r (value_in s.result_type bytes)) (sym is) fills;
          };
          sp = stays.sp;
          size = stays.size;
          registers = others;
          preserved = preserved_all std agrees (plan_of std s).res old new others sound.result_allowed stays.sp;
          kept = subst (ResultKeeps old new) (sym is) (keeps_moved base old new pieces result_registers keep);
          beside = λ i clear. ap (λ xs. get_or xs i 0) same;
          sized = sized;
          room = room;
          low = low;
        }

  -- ---- in the buffer

  module _ (at : Loc) (buffer : ℕ) (is : (plan_of std s).res ≡ Hidden at buffer) where
    pub hidden_given : giving_bytes std s ≤ length old.stack → old.sp + length old.stack < 2 ^ 64 → (base from address : ℕ) (mid : List ℕ) (returned : Option Loc)
        → AllByRecursion (IsPlace 0) (to_list std.returned_address) → returned ≡ std.returned_address → address ≡ word_at old std.link at → is_in_image old address (size_of s.result_type) ≡ true → from ≡ address - old.sp → old.sp ≤ address
        → part mid from (length bytes) ≡ bytes → length mid ≡ length old.stack → ((i : ℕ) → (i < from) ⊎ (from + length bytes ≤ i) → get_or mid i 0 ≡ get_or old.stack i 0)
        → RegisterHolds new returned address → Stays base (to_list returned) (record old { stack = mid }) new → new.stack ≡ mid → IsGiven std s bytes old new
    hidden_given room low base from address mid returned settable returned_is address_is inside from_is above there size beside told stays stack =
        let told_there = subst (λ o. RegisterHolds new o address) returned_is told in
        let moved = told_moved std std.returned_address address new settable told_there in
        let others : (l : Loc) → IsPlace 0 l → IsNoneOf (given_locs std (plan_of std s).res) l → SameAt 0 l old new = λ l place none. register_back l place (register_same base l (record old { stack = mid }) new place (stays.others l (subst (λ o. IsNoneOf (to_list o) l) (sym returned_is) (subst (λ r. IsNoneOf (given_locs std r) l) is none)))) in
        let has : part new.stack (address - old.sp) (size_of s.result_type) ≡ bytes = ap (λ xs. part xs (address - old.sp) (size_of s.result_type)) stack ∙ ap (λ n. part mid n (size_of s.result_type)) (sym from_is) ∙ subst (λ n. part mid from n ≡ bytes) sized there in
        record {
          given = subst (λ r. IsGivenBy std s.result_type r bytes old new) (sym is)
              (subst (λ a. (is_in_image old a (size_of s.result_type) ≡ true) × (part new.stack (a - old.sp) (size_of s.result_type) ≡ bytes) × RegisterHolds (at_return std new) std.returned_address a) address_is (inside, has, moved));
          holds = λ long hidden.
              let owned : word_at old std.link at ≡ old.sp + std.link + buffer = subst (OwnsHidden old std.link) is hidden in
              let offset : address - old.sp ≡ std.link + (0 + buffer) = omega (arith, owned, address_is) in
              let stands : value_in s.result_type (take (size_of s.result_type) (drop (0 + buffer) (drop std.link new.stack))) ≡ value_in s.result_type bytes = ap (λ xs. value_in s.result_type (take (size_of s.result_type) xs)) (drop-drop (0 + buffer) std.link new.stack) ∙ ap (λ n. value_in s.result_type (part new.stack n (size_of s.result_type))) (sym offset) ∙ ap (value_in s.result_type) has in
              let where_is : address ≡ new.sp + std.link + buffer = omega (arith, owned, address_is, stays.sp) in
              record {
                own = record {
                  reaches = omega (arith, long, length-drop std.link new.stack, ap length stack, size);
                  fitting = value_fits s.result_type bytes (placed_result_is_laid_out s right) sized;
                  stands = subst (λ r. OwnsResult (at_return std new) s.result_type r (value_in s.result_type bytes)) (sym is) stands;
                };
                filled = subst (λ r. FillsResult std (at_return std new) s.result_type r (value_in s.result_type bytes)) (sym is) (subst (RegisterHolds (at_return std new) std.returned_address) where_is moved);
              };
          sp = stays.sp;
          size = ap length stack ∙ size;
          registers = others;
          preserved = preserved_all std agrees (plan_of std s).res old new others sound.result_allowed stays.sp;
          kept = subst (ResultKeeps old new) (sym is) tt;
          beside = λ i clear. ap (λ xs. get_or xs i 0) stack ∙ beside i (apart i (subst (λ r. IsBeside std s.result_type r old i) is clear));
          sized = sized;
          room = room;
          low = low;
        }
      where
        register_back : (l : Loc) → IsPlace 0 l → SameAt 0 l (record old { stack = mid }) new → SameAt 0 l old new
        register_back (S n w) h same = absurd (omega (arith, h.0, h.1))
        register_back _ h same = same

        apart : (i : ℕ) → (old.sp + i < word_at old std.link at) ⊎ (word_at old std.link at + size_of s.result_type ≤ old.sp + i) → (i < from) ⊎ (from + length bytes ≤ i)
        apart i (inl below) = inl (omega (arith, below, address_is, from_is))
        apart i (inr high) = inr (omega (arith, high, address_is, from_is, above, sized))
