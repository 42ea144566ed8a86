-- The arguments of a call, then the number of vector registers, then the address of a hidden result.
use Rattle.std.specs.Prelude.{Option, Some, None, ◌^◌}
use Rattle.std.proofs.Common.{◌≡◌, ℕ, ◌+◌, ◌-◌, ◌<◌, ◌≤◌, List, [], ◌∷◌, ◌++◌, drop, length, refl, sym, ◌∙◌, subst, arith, length-drop}
use Rattle.std.proofs.lemmas.List.{length-append}
use Rattle.std.specs.List.{AllByRecursion, flat_map}
use Rattle.ffi3_type_spec.specs.declared.Target.{Target}
use Rattle.ffi3_type_spec.specs.TargetIsa.{isa_of}
use Rattle.ffi3_type_spec.specs.Tree.{Tree}
use Rattle.ffi3_type_spec.specs.Signature.{Signature, SignatureIsPlaced, HasNoLongDouble}
use Rattle.ffi3_type_spec.proofs.Placed.{placed_argument_is_laid_out}
use Rattle.ffi3_place_spec.specs.declared.Loc.{Loc}
use Rattle.ffi3_place_spec.specs.declared.Loc.TheVariants.{G, F, S}
use Rattle.ffi3_place_spec.specs.declared.Place.{Place}
use Rattle.ffi3_place_spec.specs.declared.Res.{Res}
use Rattle.ffi3_place_spec.specs.declared.Res.TheVariants.{Nothing, Hidden}
use Rattle.ffi3_place_spec.specs.MachineRegisters.{to_list}
use Rattle.ffi3_place_spec.specs.Image.{Image}
use Rattle.ffi3_place_spec.specs.Agrees.{AgreesWithMachine}
use Rattle.ffi3_place_spec.specs.Standard.{Standard, plan_of, frame_of}
use Rattle.ffi3_place_spec.specs.Holds.{OwnsHidden, RegisterHolds}
use Rattle.ffi3_place_spec.specs.Sound.{IsWhole, Apart, IsNoneOf, IsSound, argument_locs, buffer_locs, call_locs, copy_locs, hidden_locs, place_locs}
use Rattle.ffi3_marshal.specs.Standing.{AreReadyIn, all_uses}
use Rattle.ffi3_marshal.specs.Stored.{Stays}
use Rattle.ffi3_marshal.proofs.Arguments.{any_ready_all, lies_more_in, places_keep}
use Rattle.ffi3_marshal.proofs.Composing.{none_append, stays_none}
use Rattle.ffi3_marshal.proofs.Lawful.{across_none, all_apart, any_call_places, each_first, each_join, each_rest, uses_each}
use Rattle.ffi3_transfer.specs.Places.{IsPlace}
use Rattle.ffi3_transfer.specs.Packed.{packed_size}
use Rattle.ffi3_transfer.specs.Calls.{stored_locs}
use Rattle.ffi3_transfer.proofs.Arguments.{all_stay}
use Rattle.ffi3_transfer.proofs.Clear.{hidden_clear, count_clear, count_clear_of_hidden, count_is_register}
use Rattle.ffi3_transfer.proofs.Owning.{owned, filled}
use Rattle.ffi3_transfer.proofs.Results.{buffer_within}
use Rattle.ffi3_moves.specs.Play.{frame_at, play}
use Rattle.ffi3_moves.specs.Moves.{arguments_in, count_in, hidden_in, hidden_move, moves_of, store_moves}
use Rattle.ffi3_moves.specs.Exchange.{AreBytes, image_at}
use Rattle.ffi3_moves.specs.Laws.{ArePassed, ArePassedWith, HasAddress, address_of, with_address}
use Rattle.ffi3_moves.proofs.Storing.{StaysLong, keeps_both, keeps_none, stays_both}
use Rattle.ffi3_moves.proofs.Stubs.{IsLow, all_low, stubs_kept}
use Rattle.ffi3_moves.proofs.Passing.{arguments_played, play_append, word_moved}

-- ---- what is needed lies in a longer exchange

pub place_more : (n m : ℕ) → n ≤ m → (l : Loc) → IsPlace n l → IsPlace m l
place_more n m h (S k w) lies = (omega (arith, h, lies.0), lies.1, lies.2)
place_more n m h _ lies = lies

pub ready_more : (target : Target) (n m : ℕ) → n ≤ m → (ts : List Tree) (ps : List Place) → AreReadyIn 40 target n ts ps → AreReadyIn 40 target m ts ps
ready_more target n m h [] [] ready = tt
ready_more target n m h (t ∷ ts) (p ∷ ps) ready = (
  record { has_all = ready.0.has_all; lies = lies_more_in 40 n m t p h ready.0.lies; writable = ready.0.writable },
  ready_more target n m h ts ps ready.1,
)
ready_more target n m h _ _ ready = absurd ready

stays_as : (base : ℕ) (ls ks : List Loc) (a b : Image) → ((l : Loc) → IsNoneOf ks l → IsNoneOf ls l) → Stays base ls a b → Stays base ks a b
stays_as base ls ks a b has s = record { sp = s.sp; size = s.size; below = s.below; others = λ l none. s.others l (has l none) }

-- a register that holds a number still holds it
register_stays : (base : ℕ) (k : Option Loc) (n : ℕ) (ls : List Loc) (a b : Image) → AllByRecursion (IsPlace 0) (to_list k) → AllByRecursion (IsNoneOf ls) (to_list k) → Stays base ls a b → RegisterHolds a k n → RegisterHolds b k n
register_stays base None n ls a b registers none s holds = tt
register_stays base (Some (G r)) n ls a b registers none s holds = s.others (G r) none.0 ∙ holds
register_stays base (Some (F r)) n ls a b registers none s holds = s.others (F r) none.0 ∙ holds
register_stays base (Some (S k w)) n ls a b registers none s holds = absurd (omega (arith, registers.0.0, registers.0.1))

address_played : (frame : ℕ) (r : Res) (values x : List ℕ) → play frame (moves_of (hidden_in r)) values x ≡ with_address (address_of frame r) r x
address_played frame Nothing values x = refl
address_played frame _ values x = refl

hidden_owned : (base : ℕ) (m : Image) (r : Res) → HasAddress base m (address_of (m.sp + base) r) r → OwnsHidden m base r
hidden_owned base m (Hidden at buffer) h = h
hidden_owned base m _ h = tt

module _ (sp base : ℕ) (link : List ℕ) (linked : length link ≡ base) where
  record IsCountPlayed (k : Option Loc) (n : ℕ) (x y : List ℕ) : Type 0 where
    told : RegisterHolds (image_at sp link y) k n
    stays : Stays base (to_list k) (image_at sp link x) (image_at sp link y)
    keeps : StaysLong x y

  count_played : (frame : ℕ) (k : Option Loc) (n : ℕ) (values x : List ℕ) → n < 2 ^ 64 → frame_at ≤ length x → AreBytes x → AllByRecursion (IsPlace 0) (to_list k) → IsCountPlayed k n x (play frame (count_in k n) values x)
  count_played frame None n values x small long are registers = record { told = tt; stays = stays_none base (image_at sp link x); keeps = keeps_none x are }
  count_played frame (Some (G r)) n values x small long are registers =
      let word = word_moved sp base link linked x (G r) n long are registers.0 refl small in
      record { told = word.put.word; stays = word.put.stays; keeps = word.keeps }
  count_played frame (Some (F r)) n values x small long are registers =
      let word = word_moved sp base link linked x (F r) n long are registers.0 refl small in
      record { told = word.put.word; stays = word.put.stays; keeps = word.keeps }
  count_played frame (Some (S k w)) n values x small long are registers = absurd (omega (arith, registers.0.0, registers.0.1))

  record IsAddressPlayed (r : Res) (address : ℕ) (x y : List ℕ) : Type 0 where
    told : HasAddress base (image_at sp link y) address r
    stays : Stays base (hidden_locs r) (image_at sp link x) (image_at sp link y)
    keeps : StaysLong x y

  address_written : (r : Res) (address : ℕ) (x : List ℕ) → address < 2 ^ 64 → frame_at ≤ length x → AreBytes x → AllByRecursion (IsPlace (length x - frame_at)) (hidden_locs r) → AllByRecursion IsWhole (hidden_locs r) → IsAddressPlayed r address x (with_address address r x)
  address_written (Hidden at buffer) address x small long are lie wide =
      let word = word_moved sp base link linked x at address long are lie.0 wide.0 small in
      record { told = word.put.word; stays = word.put.stays; keeps = word.keeps }
  address_written _ address x small long are lie wide = record { told = tt; stays = stays_none base (image_at sp link x); keeps = keeps_none x are }

module _ (std : Standard) (s : Signature) (sound : IsSound std s) (right : SignatureIsPlaced s) (agrees : AgreesWithMachine std) where
  abbrev ts : List Tree
  ts = s.arguments

  abbrev ps : List Place
  ps = (plan_of std s).places

  abbrev res : Res
  res = (plan_of std s).res

  hidden_lies : (n : ℕ) → frame_of std s ≤ n → AllByRecursion (IsPlace n) (hidden_locs (plan_of std s).res)
  hidden_lies n room =
      let passed = each_first (IsPlace (frame_of std s)) (argument_locs (plan_of std s)) (copy_locs s.arguments (plan_of std s).places ++ buffer_locs s.result_type (plan_of std s).res) (any_call_places std s sound) in
      more (hidden_locs (plan_of std s).res) (each_first (IsPlace (frame_of std s)) (hidden_locs (plan_of std s).res) (flat_map place_locs (plan_of std s).places) passed)
    where
      more : (ls : List Loc) → AllByRecursion (IsPlace (frame_of std s)) ls → AllByRecursion (IsPlace n) ls
      more [] h = tt
      more (l ∷ ls) h = (place_more (frame_of std s) n room l h.0, more ls h.1)

  all_locs : (l : Loc) → IsNoneOf (stored_locs std s) l → IsNoneOf ((all_uses s.arguments (plan_of std s).places ++ to_list std.vector_count) ++ hidden_locs (plan_of std s).res) l
  all_locs l none =
      let uses = all_uses s.arguments (plan_of std s).places in
      let hidden = hidden_locs (plan_of std s).res in
      let count = to_list std.vector_count in
      let parts = none_append count (hidden ++ uses) l none in
      let rest = none_append hidden uses l parts.1 in
      each_join (Apart l) (uses ++ count) hidden (each_join (Apart l) uses count rest.1 parts.0) rest.0

  -- without long doubles none of them has a word where stubs keep addresses
  stored_low : HasNoLongDouble s → AllByRecursion IsLow (stored_locs std s)
  stored_low plain =
      let isa = isa_of std.target in
      let hidden = hidden_locs (plan_of std s).res in
      let flat = flat_map place_locs (plan_of std s).places in
      let copies = copy_locs s.arguments (plan_of std s).places in
      let buffer = buffer_locs s.result_type (plan_of std s).res in
      let count = to_list std.vector_count in
      let all = all_low isa (frame_of std s) (call_locs s (plan_of std s)) (sound.on_machine plain).in_frame in
      let passed = each_first IsLow (argument_locs (plan_of std s)) (copies ++ buffer) all in
      let copied = each_first IsLow copies buffer (each_rest IsLow (argument_locs (plan_of std s)) (copies ++ buffer) all) in
      let uses = uses_each IsLow s.arguments (plan_of std s).places sound.has_all (each_rest IsLow hidden flat passed) copied in
      let rest = each_join IsLow hidden (all_uses s.arguments (plan_of std s).places) (each_first IsLow hidden flat passed) uses in
      each_join IsLow count (hidden ++ all_uses s.arguments (plan_of std s).places) (all_low isa 0 count agrees.count_exists) rest

  module _ (values : List ℕ) (values_are : AreBytes values) (sized : length values ≡ packed_size s.arguments) (sp : ℕ) (link : List ℕ) (linked : length link ≡ std.link) (x : List ℕ) (are : AreBytes x) (room : frame_at + frame_of std s ≤ length x) (high : sp + std.link + (length x - frame_at) < 2 ^ 64) (few : (plan_of std s).vectors < 2 ^ 64) where
    abbrev frame : ℕ
    frame = sp + std.link

    abbrev first : List ℕ
    first = play frame (arguments_in 0 0 ts ps) values x

    abbrev second : List ℕ
    second = play frame (count_in std.vector_count (plan_of std s).vectors) values first

    stored_all : play frame (store_moves std s) values x ≡ second
    stored_all = play_append frame (arguments_in 0 0 ts ps) (count_in std.vector_count (plan_of std s).vectors) values x

    passed_to : (address : ℕ) → address < 2 ^ 64 → ArePassedWith std s values sp link address x (with_address address res second)
    passed_to address small =
        let long : frame_at ≤ length x = omega (arith, room) in
        let ready = any_ready_all std s sound agrees right in
        let ready_here = ready_more std.target (frame_of std s) (length x - frame_at) (omega (arith, room)) ts ps ready in
        let all_room : 0 + packed_size s.arguments ≤ length values = omega (arith, sized) in
        let one = arguments_played sp std.link link linked std.target values values_are 0 0 ts ps x all_room long are high ready_here (all_apart std s sound) in
        let a = first in
        let size_a : length (play frame (arguments_in 0 0 ts ps) values x) ≡ length x = one.keeps.size in
        let registers = count_is_register std agrees in
        let two = count_played sp std.link link linked frame std.vector_count (plan_of std s).vectors values a few (omega (arith, size_a, long)) one.keeps.are registers in
        let b = second in
        let size_b : length second ≡ length x = two.keeps.size ∙ one.keeps.size in
        let lie : AllByRecursion (IsPlace (length second - frame_at)) (hidden_locs (plan_of std s).res) = hidden_lies (length second - frame_at) (omega (arith, size_b, room)) in
        let three = address_written sp std.link link linked res address b small (omega (arith, size_b, long)) two.keeps.are lie sound.address in
        let d = with_address address res second in
        let stand_b = all_stay std.link std.target (frame_of std s) (to_list std.vector_count) (image_at sp link a) (image_at sp link b) ts ps values ready (count_clear std s sound registers) two.stays one.stand in
        let stand_d = all_stay std.link std.target (frame_of std s) (hidden_locs res) (image_at sp link b) (image_at sp link d) ts ps values ready (hidden_clear std s sound) three.stays stand_b in
        let kept_b = places_keep std.link (to_list std.vector_count) (image_at sp link x) (image_at sp link a) (image_at sp link b) ts ps (count_clear std s sound registers) two.stays one.kept in
        let kept_d = places_keep std.link (hidden_locs res) (image_at sp link x) (image_at sp link b) (image_at sp link d) ts ps (hidden_clear std s sound) three.stays kept_b in
        let both = stays_both std.link (all_uses ts ps) (to_list std.vector_count) (image_at sp link x) (image_at sp link a) (image_at sp link b) one.stays two.stays in
        let all = stays_both std.link (all_uses ts ps ++ to_list std.vector_count) (hidden_locs res) (image_at sp link x) (image_at sp link b) (image_at sp link d) both three.stays in
        let stays = stays_as std.link ((all_uses ts ps ++ to_list std.vector_count) ++ hidden_locs res) (stored_locs std s) (image_at sp link x) (image_at sp link d) all_locs all in
        let keeps = keeps_both x b d (keeps_both x a b one.keeps two.keeps) three.keeps in
        record {
          arguments = owned std.link (image_at sp link d) ts ps values (placed_argument_is_laid_out s right) (omega (arith, sized)) stand_d;
          filled = filled std.link (image_at sp link d) ts ps values stand_d;
          vectors = register_stays std.link std.vector_count (plan_of std s).vectors (hidden_locs res) (image_at sp link b) (image_at sp link d) registers (across_none (hidden_locs res) (to_list std.vector_count) (count_clear_of_hidden std s sound)) three.stays two.told;
          hidden = three.told;
          kept = kept_d;
          stays = stays;
          keeps = stubs_kept sp std.link link x d long are keeps (stored_locs std s) stays s stored_low;
        }

    pub passed_with : (address : ℕ) → address < 2 ^ 64 → ArePassedWith std s values sp link address x (with_address address (plan_of std s).res (play (sp + std.link) (store_moves std s) values x))
    passed_with address small =
        subst (λ y. ArePassedWith std s values sp link address x (with_address address (plan_of std s).res y)) (sym stored_all) (passed_to address small)

    address_small : (r : Res) → r ≡ (plan_of std s).res → address_of frame r < 2 ^ 64
    address_small (Hidden at buffer) is = omega (arith, high, room, buffer_within std s at buffer (sym is))
    address_small _ is = omega arith

    pub passed : ArePassed std s values sp link x (play (sp + std.link) (store_moves std s ++ moves_of (hidden_move std s)) values x)
    passed =
        let y = play frame (store_moves std s) values x in
        let played = passed_with (address_of frame res) (address_small res refl) in
        let z = with_address (address_of frame res) res y in
        let is : play frame (store_moves std s ++ moves_of (hidden_move std s)) values x ≡ z = play_append frame (store_moves std s) (moves_of (hidden_move std s)) values x ∙ address_played frame res values y in
        let reaches : std.link + frame_of std s ≤ length (image_at sp link x).stack = image_long in
        let low : sp + length (link ++ drop frame_at x) < 2 ^ 64 = image_low in
        let all : ArePassed std s values sp link x z = record {
          stored = record {
            holds = record {
              own = record {
                reaches = omega (arith, reaches, played.stays.size);
                arguments = played.arguments;
                hidden = hidden_owned std.link (image_at sp link z) res played.hidden;
              };
              filled = played.filled;
              vectors = played.vectors;
            };
            kept = played.kept;
            stays = played.stays;
            sized = sized;
            low = low;
          };
          keeps = played.keeps;
        } in
        subst (ArePassed std s values sp link x) (sym is) all
      where
        image_long : std.link + frame_of std s ≤ length (link ++ drop frame_at x)
        image_long = omega (arith, linked, room, length-append link (drop frame_at x), length-drop frame_at x)

        image_low : sp + length (link ++ drop frame_at x) < 2 ^ 64
        image_low = omega (arith, linked, high, length-append link (drop frame_at x), length-drop frame_at x)
