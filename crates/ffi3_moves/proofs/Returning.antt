-- The moves of a result, those of its caller and those of its callee; and those by which a callee has its arguments.
use Rattle.std.specs.Prelude.{Option, Some, None, option_map, true, ◌^◌}
use Rattle.std.proofs.Common.{◌≡◌, ℕ, ◌+◌, ◌-◌, ◌<◌, ◌≤◌, List, [], ◌∷◌, length, refl, ap, sym, ◌∙◌, subst, arith, length-drop}
use Rattle.std.specs.List.{AllByRecursion}
use Rattle.std.proofs.lemmas.List.{take_all}
use Rattle.ffi3_type_spec.specs.TargetIsa.{isa_of}
use Rattle.ffi3_type_spec.specs.Tree.{Tree, void}
use Rattle.ffi3_type_spec.specs.Layout.{size_of}
use Rattle.ffi3_type_spec.specs.Signature.{Signature, SignatureIsPlaced, HasNoLongDouble}
use Rattle.ffi3_type_spec.specs.Value.{ValueTree, void_value, value_in, fits, part}
use Rattle.ffi3_type_spec.proofs.Parts.{length_part}
use Rattle.ffi3_type_spec.proofs.Placed.{placed_result_is_laid_out}
use Rattle.ffi3_type_spec.proofs.Fitting.{value_fits}
use Rattle.ffi3_place_spec.specs.declared.Loc.{Loc}
use Rattle.ffi3_place_spec.specs.declared.Loc.TheVariants.{G, F, S}
use Rattle.ffi3_place_spec.specs.declared.Res.{Res}
use Rattle.ffi3_place_spec.specs.declared.Res.TheVariants.{Nothing, Direct as DirectRes, Hidden}
use Rattle.ffi3_place_spec.specs.Standard.{Standard, plan_of, frame_of}
use Rattle.ffi3_place_spec.specs.Agrees.{AgreesWithMachine}
use Rattle.ffi3_place_spec.specs.MachineRegisters.{to_list}
use Rattle.ffi3_place_spec.specs.Holds.{Own, OwnResult, OwnsResult, FillsResult, RegisterHolds}
use Rattle.ffi3_place_spec.specs.Sound.{AreApart, IsSound, LiesIn, StandsIn, ResultHasAll, piece_locs, result_locs}
use Rattle.ffi3_place_spec.proofs.Further.{each_stands}
use Rattle.ffi3_marshal.specs.Standing.{PiecesStand}
use Rattle.ffi3_marshal.specs.Stored.{Stays}
use Rattle.ffi3_marshal.proofs.Arguments.{any_ready_all}
use Rattle.ffi3_marshal.proofs.Composing.{stays_none}
use Rattle.ffi3_marshal.proofs.Owning.{pieces_filled, pieces_stand}
use Rattle.ffi3_marshal.proofs.Lawful.{any_places}
use Rattle.ffi3_transfer.specs.Places.{IsPlace}
use Rattle.ffi3_transfer.specs.Calls.{ResultKeeps}
use Rattle.ffi3_transfer.specs.Packed.{packed_size, values_packed}
use Rattle.ffi3_transfer.proofs.Given.{stack_same}
use Rattle.ffi3_transfer.proofs.Results.{buffer_within}
use Rattle.ffi3_moves.specs.Play.{frame_at, play, written_over}
use Rattle.ffi3_moves.specs.Moves.{collect_moves, exchange_at, give_moves, given_back_at, load_moves, result_in, result_out, returned_at}
use Rattle.ffi3_moves.specs.Exchange.{AreBytes, image_at}
use Rattle.ffi3_moves.specs.Laws.{IsInBuffer, IsReturned, address_of, returned_locs, with_returned}
use Rattle.ffi3_moves.proofs.Collecting.{arguments_read, part_there, pieces_read, whole_read}
use Rattle.ffi3_moves.proofs.Passing.{word_moved}
use Rattle.ffi3_moves.proofs.Storing.{StaysLong, keeps_none, pieces_played}
use Rattle.ffi3_moves.proofs.Stubs.{IsLow, all_low, stubs_kept}
use Rattle.ffi3_moves.proofs.Whole.{place_more, ready_more}

all_more : (n m : ℕ) → n ≤ m → (ls : List Loc) → AllByRecursion (IsPlace n) ls → AllByRecursion (IsPlace m) ls
all_more n m h [] all = tt
all_more n m h (l ∷ ls) all = (place_more n m h l all.0, all_more n m h ls all.1)

whole_part : (bytes : List ℕ) (n : ℕ) → length bytes ≡ n → part bytes 0 n ≡ bytes
whole_part bytes n is = take_all n bytes (omega (arith, is))

void_value_of : (v : ValueTree) (out : List ℕ) → fits void v ≡ true → value_in void out ≡ v
void_value_of void_value out f = refl
void_value_of _ out f = cc

no_value : (t : Tree) (v : ValueTree) (out : List ℕ) → t ≡ void → fits t v ≡ true → value_in t out ≡ v
no_value t v out e fit = subst (λ u. value_in u out ≡ v) (sym e) (void_value_of v out (subst (λ u. fits u v ≡ true) e fit))

module _ (std : Standard) (s : Signature) (sound : IsSound std s) (sp : ℕ) (x : List ℕ) (are : AreBytes x) (room : frame_at + frame_of std s ≤ length x) where
  long : frame_at ≤ length x
  long = omega (arith, room)

  no_link : length {A = ℕ} [] ≡ 0
  no_link = refl

  result_read : (r : Res) → r ≡ (plan_of std s).res → (v : ValueTree) (out : List ℕ) → length out ≡ size_of s.result_type → fits s.result_type v ≡ true → OwnsResult (image_at sp [] x) s.result_type r v → value_in s.result_type (play sp (result_out s.result_type r) x out) ≡ v
  result_read Nothing is v out sized fit owns = no_value s.result_type v out (subst (ResultHasAll s.result_type) (sym is) sound.result_has_all) fit
  result_read (DirectRes pieces) is v out sized fit owns =
      let has = subst (ResultHasAll s.result_type) (sym is) sound.result_has_all in
      let lie = subst (λ r. AllByRecursion (StandsIn (isa_of std.target) 0) (result_locs r)) (sym is) sound.result_in_registers in
      let places = all_more 0 (length x - frame_at) (omega arith) (piece_locs pieces) (any_places (isa_of std.target) 0 (piece_locs pieces) lie) in
      let all_room : 0 + size_of s.result_type ≤ length out = omega (arith, sized) in
      let read = pieces_read sp 0 [] no_link x long are sp 0 0 s.result_type pieces v out all_room has places fit owns in
      let new = play sp (result_out s.result_type (DirectRes pieces)) x out in
      ap (value_in s.result_type) (sym (whole_part new (size_of s.result_type) (read.within.size ∙ sized))) ∙ read.value
  result_read (Hidden at buffer) is v out sized fit owns =
      let inside = buffer_within std s at buffer (sym is) in
      let fits_there : frame_at + buffer + size_of s.result_type ≤ length x = omega (arith, inside, room) in
      let bytes = part x (frame_at + buffer) (size_of s.result_type) in
      let many = length_part x (frame_at + buffer) (size_of s.result_type) fits_there in
      let all_room : 0 + size_of s.result_type ≤ length out = omega (arith, sized) in
      let there = part_there sp 0 [] no_link x long are buffer (size_of s.result_type) fits_there in
      let read = whole_read sp 0 [] no_link x long are sp 0 0 s.result_type bytes v out many all_room (ap (value_in s.result_type) there ∙ owns) in
      let new = written_over 0 bytes out in
      ap (value_in s.result_type) (sym (whole_part new (size_of s.result_type) (read.within.size ∙ sized))) ∙ read.value

  pub loaded : (v : ValueTree) (out : List ℕ) → length out ≡ size_of s.result_type → OwnResult std s v (image_at sp [] x) → value_in s.result_type (play sp (load_moves std s) x out) ≡ v
  loaded v out sized own = result_read (plan_of std s).res refl v out sized own.fitting own.stands

  -- ---- what a callee gives

  module _ (right : SignatureIsPlaced s) (agrees : AgreesWithMachine std) (bytes : List ℕ) (bytes_are : AreBytes bytes) (sized : length bytes ≡ size_of s.result_type) (high : sp + (length x - frame_at) < 2 ^ 64) where
    fitting : fits s.result_type (value_in s.result_type bytes) ≡ true
    fitting = value_fits s.result_type bytes (placed_result_is_laid_out s right) sized

    stack_long : frame_of std s ≤ length (image_at sp [] x).stack
    stack_long = omega (arith, room, length-drop frame_at x)

    -- what is said of the result, by its place
    record IsReturnedIn (r : Res) (y : List ℕ) : Type 0 where
      stands : OwnsResult (image_at sp [] y) s.result_type r (value_in s.result_type bytes)
      fills : FillsResult std (image_at sp [] y) s.result_type r (value_in s.result_type bytes)
      kept : ResultKeeps (image_at sp [] x) (image_at sp [] y) r
      stays : Stays 0 (returned_locs r std.returned_address) (image_at sp [] x) (image_at sp [] y)
      keeps : StaysLong x y

    address_given : (l : Option Loc) → AllByRecursion (IsPlace 0) (to_list l) → (address : ℕ) → address < 2 ^ 64 → (RegisterHolds (image_at sp [] (with_returned address (option_map exchange_at l) x)) l address) × (Stays 0 (to_list l) (image_at sp [] x) (image_at sp [] (with_returned address (option_map exchange_at l) x))) × (StaysLong x (with_returned address (option_map exchange_at l) x))
    address_given None registers address small = (tt, stays_none 0 (image_at sp [] x), keeps_none x are)
    address_given (Some (G r)) registers address small =
        let word = word_moved sp 0 [] no_link x (G r) address long are registers.0 refl small in
        (word.put.word, word.put.stays, word.keeps)
    address_given (Some (F r)) registers address small =
        let word = word_moved sp 0 [] no_link x (F r) address long are registers.0 refl small in
        (word.put.word, word.put.stays, word.keeps)
    address_given (Some (S k w)) registers address small = absurd (omega (arith, registers.0.0, registers.0.1))

    result_given : (r : Res) → r ≡ (plan_of std s).res → IsInBuffer s.result_type r bytes x → IsReturnedIn r (with_returned (address_of sp r) (given_back_at r std.returned_address) (play sp (result_in s.result_type r) bytes x))
    result_given Nothing is in_buffer = record { stands = tt; fills = tt; kept = tt; stays = stays_none 0 (image_at sp [] x); keeps = keeps_none x are }
    result_given (DirectRes pieces) is in_buffer =
        let has = subst (ResultHasAll s.result_type) (sym is) sound.result_has_all in
        let lie = subst (λ r. AllByRecursion (StandsIn (isa_of std.target) 0) (result_locs r)) (sym is) sound.result_in_registers in
        let places = all_more 0 (length x - frame_at) (omega arith) (piece_locs pieces) (any_places (isa_of std.target) 0 (piece_locs pieces) lie) in
        let apart = subst (λ r. AreApart (result_locs r)) (sym is) sound.result_apart in
        let all_room : 0 + size_of s.result_type ≤ length bytes = omega (arith, sized) in
        let all = pieces_played sp 0 [] no_link sp bytes bytes_are 0 0 s.result_type all_room pieces x long are has.each places apart in
        let y = play sp (result_in s.result_type (DirectRes pieces)) bytes x in
        let stand = subst (λ v. PiecesStand 0 (image_at sp [] y) s.result_type v pieces) (whole_part bytes (size_of s.result_type) sized) all.stand in
        record {
          stands = pieces_stand 0 (image_at sp [] y) s.result_type bytes pieces stand;
          fills = pieces_filled 0 (image_at sp [] y) s.result_type bytes pieces stand;
          kept = all.kept;
          stays = all.stays;
          keeps = all.keeps;
        }
    result_given (Hidden at buffer) is in_buffer =
        let inside = buffer_within std s at buffer (sym is) in
        let registers = any_places (isa_of std.target) 0 (to_list std.returned_address) (each_stands (isa_of std.target) 0 (to_list std.returned_address) agrees.returned_exists) in
        let given = address_given std.returned_address registers (sp + buffer) (omega (arith, inside, room, high)) in
        let y = with_returned (sp + buffer) (option_map exchange_at std.returned_address) x in
        let same = stack_same 0 (to_list std.returned_address) (image_at sp [] x) (image_at sp [] y) registers given.1 in
        let fits_there : frame_at + buffer + size_of s.result_type ≤ length x = omega (arith, inside, room) in
        let there = part_there sp 0 [] no_link x long are buffer (size_of s.result_type) fits_there in
        record {
          stands = ap (λ xs. value_in s.result_type (part xs (0 + buffer) (size_of s.result_type))) same ∙ ap (value_in s.result_type) (sym there) ∙ ap (value_in s.result_type) in_buffer;
          fills = given.0;
          kept = tt;
          stays = given.1;
          keeps = given.2;
        }

    -- without long doubles it is in no word where stubs keep addresses
    returned_low : (r : Res) → r ≡ (plan_of std s).res → HasNoLongDouble s → AllByRecursion IsLow (returned_locs r std.returned_address)
    returned_low Nothing is plain = tt
    returned_low (DirectRes pieces) is plain =
        all_low (isa_of std.target) 0 (piece_locs pieces) (subst (λ r. AllByRecursion (LiesIn (isa_of std.target) 0) (result_locs r)) (sym is) (sound.on_machine plain).result_in_registers)
    returned_low (Hidden at buffer) is plain =
        all_low (isa_of std.target) 0 (to_list std.returned_address) agrees.returned_exists

    pub returned : IsInBuffer s.result_type (plan_of std s).res bytes x → IsReturned std s bytes sp x (with_returned (address_of sp (plan_of std s).res) (returned_at std s) (play sp (give_moves std s) bytes x))
    returned in_buffer =
        let all = result_given (plan_of std s).res refl in_buffer in
        record {
          holds = record {
            own = record { reaches = omega (arith, stack_long, all.stays.size); fitting = fitting; stands = all.stands };
            filled = all.fills;
          };
          kept = all.kept;
          stays = all.stays;
          keeps = stubs_kept sp 0 [] x (with_returned (address_of sp (plan_of std s).res) (returned_at std s) (play sp (give_moves std s) bytes x)) long are all.keeps (returned_locs (plan_of std s).res std.returned_address) all.stays s (returned_low (plan_of std s).res refl);
        }

module _ (std : Standard) (s : Signature) (sound : IsSound std s) (right : SignatureIsPlaced s) (agrees : AgreesWithMachine std) (sp : ℕ) (link : List ℕ) (linked : length link ≡ std.link) (x : List ℕ) (are : AreBytes x) (room : frame_at + frame_of std s ≤ length x) where
  pub collected : (vs : List ValueTree) (out : List ℕ) → length out ≡ packed_size s.arguments → Own std s vs (image_at sp link x) → values_packed s.arguments (play (sp + std.link) (collect_moves std s) x out) ≡ vs
  collected vs out sized own =
      let ready = ready_more std.target (frame_of std s) (length x - frame_at) (omega (arith, room)) s.arguments (plan_of std s).places (any_ready_all std s sound agrees right) in
      let all_room : 0 + packed_size s.arguments ≤ length out = omega (arith, sized) in
      let long_enough : frame_at ≤ length x = omega (arith, room) in
      (arguments_read sp std.link link linked x long_enough are std.target 0 0 s.arguments (plan_of std s).places vs out all_room ready own.arguments).values
