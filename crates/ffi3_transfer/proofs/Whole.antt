-- The arguments of a call, then the hidden result's address, then the number of vector registers.
use Rattle.std.specs.Prelude.{Option, ◌^◌}
use Rattle.std.proofs.Common.{◌≡◌, ℕ, ◌+◌, ◌<◌, ◌≤◌, List, ◌++◌, length, subst, ◌∙◌, arith}
use Rattle.std.specs.List.{AllByRecursion}
use Rattle.ffi3_type_spec.specs.Signature.{Signature, SignatureIsPlaced}
use Rattle.ffi3_type_spec.proofs.Placed.{placed_argument_is_laid_out}
use Rattle.ffi3_place_spec.specs.declared.Loc.{Loc}
use Rattle.ffi3_place_spec.specs.declared.Res.{Res}
use Rattle.ffi3_place_spec.specs.declared.Res.TheVariants.{Hidden}
use Rattle.ffi3_place_spec.specs.MachineRegisters.{to_list}
use Rattle.ffi3_place_spec.specs.Image.{Image}
use Rattle.ffi3_place_spec.specs.Agrees.{AgreesWithMachine}
use Rattle.ffi3_place_spec.specs.Standard.{Standard, plan_of, frame_of}
use Rattle.ffi3_place_spec.specs.Holds.{OwnsHidden, RegisterHolds}
use Rattle.ffi3_place_spec.specs.Sound.{IsNoneOf, IsSound, hidden_locs}
use Rattle.ffi3_marshal.specs.Standing.{PlacesKeep, all_uses}
use Rattle.ffi3_marshal.specs.Stored.{Stays}
use Rattle.ffi3_marshal.proofs.Arguments.{places_keep, any_ready_all}
use Rattle.ffi3_marshal.proofs.Composing.{same_word_at, stays_then}
use Rattle.ffi3_transfer.proofs.Clear.{hidden_clear, count_clear, count_clear_of_hidden, count_is_register}
use Rattle.ffi3_transfer.specs.Packed.{packed_size}
use Rattle.ffi3_transfer.specs.Standing.{AllStand}
use Rattle.ffi3_transfer.specs.Calls.{IsCallStored}
use Rattle.ffi3_transfer.proofs.Arguments.{all_stay}
use Rattle.ffi3_transfer.proofs.Owning.{owned, filled}

hidden_stays : (base : ℕ) (r : Res) (ls : List Loc) (a b : Image) → AllByRecursion (IsNoneOf ls) (hidden_locs r) → Stays base ls a b → OwnsHidden a base r → OwnsHidden b base r
hidden_stays base (Hidden at buffer) ls a b none s stands =
    let same_sp : a.sp + base + buffer ≡ b.sp + base + buffer = omega (arith, s.sp) in
    same_word_at base at a b (s.others at none.0) ∙ stands ∙ same_sp
hidden_stays base _ ls a b none s stands = tt

module _ (std : Standard) (s : Signature) (sound : IsSound std s) (right : SignatureIsPlaced s) (agrees : AgreesWithMachine std) (bytes : List ℕ) (o a b d : Image) where
  stored : length bytes ≡ packed_size s.arguments → std.link + frame_of std s ≤ length o.stack → o.sp + length o.stack < 2 ^ 64 → AllStand std.link a s.arguments (plan_of std s).places bytes → PlacesKeep std.link o a s.arguments (plan_of std s).places → Stays std.link (all_uses s.arguments (plan_of std s).places) o a → OwnsHidden b std.link (plan_of std s).res → Stays std.link (hidden_locs (plan_of std s).res) a b → RegisterHolds d std.vector_count (plan_of std s).vectors → Stays std.link (to_list std.vector_count) b d → IsCallStored std s bytes o d
  stored sized room low stand keep first hidden second told third =
      let ts = s.arguments in
      let ps = (plan_of std s).places in
      let ready = any_ready_all std s sound agrees right in
      let stand_b = all_stay std.link std.target (frame_of std s) (hidden_locs (plan_of std s).res) a b ts ps bytes ready (hidden_clear std s sound) second stand in
      let stand_d = all_stay std.link std.target (frame_of std s) (to_list std.vector_count) b d ts ps bytes ready (count_clear std s sound (count_is_register std agrees)) third stand_b in
      record {
        holds = record {
          own = record {
            reaches = omega (arith, room, first.size, second.size, third.size);
            arguments = owned std.link d ts ps bytes (placed_argument_is_laid_out s right) (omega (arith, sized)) stand_d;
            hidden = hidden_stays std.link (plan_of std s).res (to_list std.vector_count) b d (count_clear_of_hidden std s sound) third hidden;
          };
          filled = filled std.link d ts ps bytes stand_d;
          vectors = told;
        };
        stays = stays_then std.link (hidden_locs (plan_of std s).res ++ all_uses s.arguments (plan_of std s).places) (to_list std.vector_count) o b d (stays_then std.link (all_uses s.arguments (plan_of std s).places) (hidden_locs (plan_of std s).res) o a b first second) third;
        kept = places_keep std.link (to_list std.vector_count) o b d ts ps (count_clear std s sound (count_is_register std agrees)) third (places_keep std.link (hidden_locs (plan_of std s).res) o a b ts ps (hidden_clear std s sound) second keep);
        sized = sized;
        low = low;
      }

  pub call_stored : (base : ℕ) (r : Res) (k : Option Loc) (n : ℕ) → base ≡ std.link → r ≡ (plan_of std s).res → k ≡ std.vector_count → n ≡ (plan_of std s).vectors → length bytes ≡ packed_size s.arguments → std.link + frame_of std s ≤ length o.stack → o.sp + length o.stack < 2 ^ 64 → AllStand std.link a s.arguments (plan_of std s).places bytes → PlacesKeep std.link o a s.arguments (plan_of std s).places → Stays std.link (all_uses s.arguments (plan_of std s).places) o a → OwnsHidden b base r → Stays base (hidden_locs r) a b → RegisterHolds d k n → Stays base (to_list k) b d → IsCallStored std s bytes o d
  call_stored base r k n base_is res_is count_is number_is sized room low stand keep first hidden second told third =
      stored sized room low stand keep first
      (subst (λ x. OwnsHidden b std.link x) res_is (subst (λ x. OwnsHidden b x r) base_is hidden))
      (subst (λ x. Stays std.link (hidden_locs x) a b) res_is (subst (λ x. Stays x (hidden_locs r) a b) base_is second))
      (subst (λ x. RegisterHolds d std.vector_count x) number_is (subst (λ x. RegisterHolds d x n) count_is told))
      (subst (λ x. Stays std.link (to_list x) b d) count_is (subst (λ x. Stays x (to_list k) b d) base_is third))
