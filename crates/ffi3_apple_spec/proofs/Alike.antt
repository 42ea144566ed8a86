-- Structs of equal layout are placed alike.
use Rattle.std.proofs.Common.{◌≡◌, ℕ, ◌+◌, ◌-◌, ◌*◌, ◌/◌, min, Bool, false, ◌&&◌, ◌||◌, cond, List, ◌∷◌, refl, ap, ◌∙◌}
use Rattle.std.specs.Prelude.{max, Option, nat_le}
use Rattle.ffi3_type_spec.specs.Tree.{Tree}
use Rattle.ffi3_type_spec.specs.Layout.{Layout, least_multiple}
use Rattle.ffi3_type_spec.specs.Signature.{Signature}
use Rattle.ffi3_place_spec.specs.declared.Loc.TheVariants.{S}
use Rattle.ffi3_place_spec.specs.declared.Ext.TheVariants.{Free}
use Rattle.ffi3_place_spec.specs.declared.Taken.{Taken}
use Rattle.ffi3_place_spec.specs.Standard.{Spot, in_pieces, round8}
use Rattle.ffi3_place_spec.specs.Doublewords.{doublewords_at}
use Rattle.ffi3_place_spec.specs.Alike.{AreAlike, same_type, same_layout, AllAlike, SignaturesAreAlike, GoesByLayout}
use Rattle.ffi3_place_spec.proofs.Alike.{all_alike, plan_alike, start_alike}
use Rattle.ffi3_aapcs64_spec.specs.Aapcs64.{untouched}
use Rattle.ffi3_aapcs64_spec.proofs.Alike.{vectors_by, needed_by, register_spot_by, stack_spot_by, passed_size, passed_align, result_alike}
use Rattle.ffi3_apple_spec.specs.Apple.{apple, is_named, taken_with, spot_after, spots_after, taken_after, placing_of}

-- ---- one argument: a struct is told by its layout, and by size and alignment of what is passed for it

abbrev packed_by : Bool → Layout → Bool
packed_by named l = named && (vectors_by l || false)

abbrev end_by : Taken → Layout → ℕ → ℕ
end_by before l size = cond (vectors_by l) before.vector before.general + needed_by l size

abbrev at_by : Bool → Taken → Layout → ℕ → ℕ
at_by named before l align =
    cond (packed_by named l) (least_multiple l.align before.stack) (least_multiple (max 8 align) before.stack)

abbrev taken_by : Bool → Taken → Layout → ℕ → ℕ → Taken
taken_by named before l size align = record {
  general = cond (vectors_by l) before.general (end_by before l size);
  vector = cond (vectors_by l) (end_by before l size) before.vector;
  stack = cond (named && nat_le (end_by before l size) 8) before.stack (at_by named before l align + cond (packed_by named l) l.size (round8 size));
}

abbrev packed_spot_by : ℕ → Layout → Spot
packed_spot_by first l =
    in_pieces (doublewords_at (λ j. S (first + 8 * j) (min 8 (l.size - 8 * j))) l.size Free 0 ((l.size + 7) / 8))

abbrev spot_by : Bool → Taken → Layout → ℕ → ℕ → Spot
spot_by named before l size align =
    cond (named && nat_le (end_by before l size) 8) (register_spot_by (cond (vectors_by l) before.vector before.general) l)
    (cond (packed_by named l) (packed_spot_by (at_by named before l align) l) (stack_spot_by (at_by named before l align) l))

taken_alike : (named : Bool) (before : Taken) (t u : Tree) → AreAlike t u → taken_with named before t ≡ taken_with named before u
taken_alike named before t u same_type = refl
taken_alike named before t u (same_layout {ts = ts} {us = us} e) =
    λ i. taken_by named before (e i) (passed_size ts us e i) (passed_align ts us e i)

spot_alike : (named : Bool) (before : Taken) (t u : Tree) → AreAlike t u → spot_after named before t ≡ spot_after named before u
spot_alike named before t u same_type = refl
spot_alike named before t u (same_layout {ts = ts} {us = us} e) =
    λ i. spot_by named before (e i) (passed_size ts us e i) (passed_align ts us e i)

-- ---- all arguments

spots_alike : (fixed : Option ℕ) (ts us : List Tree) → AllAlike ts us → (before : Taken) (i : ℕ) → spots_after fixed before i ts ≡ spots_after fixed before i us
spots_alike fixed ts us h before i =
    all_alike (λ (ts : List Tree) (x : Taken × ℕ). spots_after fixed x.0 x.1 ts)
    (λ t u ts us here rest x. let named = is_named fixed x.1 in
    ap (λ s. s ∷ spots_after fixed (taken_with named x.0 t) (x.1 + 1) ts) (spot_alike named x.0 t u here) ∙ ap (λ b. spot_after named x.0 u ∷ spots_after fixed b (x.1 + 1) ts) (taken_alike named x.0 t u here) ∙ ap (λ ss. spot_after named x.0 u ∷ ss) (rest (taken_with named x.0 u, x.1 + 1))) ts us h (before, i)

all_taken_alike : (fixed : Option ℕ) (ts us : List Tree) → AllAlike ts us → (before : Taken) (i : ℕ) → taken_after fixed before i ts ≡ taken_after fixed before i us
all_taken_alike fixed ts us h before i =
    all_alike (λ (ts : List Tree) (x : Taken × ℕ). taken_after fixed x.0 x.1 ts)
    (λ t u ts us here rest x. let named = is_named fixed x.1 in
    ap (λ b. taken_after fixed b (x.1 + 1) ts) (taken_alike named x.0 t u here) ∙ rest (taken_with named x.0 u, x.1 + 1)) ts us h (before, i)

placing_alike : (s r : Signature) → SignaturesAreAlike s r → placing_of s ≡ placing_of r
placing_alike s r h =
    let spots = ap (λ n. spots_after n untouched 0 s.arguments) h.fixed ∙ spots_alike r.fixed s.arguments r.arguments h.arguments untouched 0 in
    let taken = ap (λ n. taken_after n untouched 0 s.arguments) h.fixed ∙ all_taken_alike r.fixed s.arguments r.arguments h.arguments untouched 0 in
    let spot = result_alike s.result_type r.result_type h.result_type in
    λ i. record {
      arguments = spots i;
      result_spot = spot i;
      stack_bytes = (taken i).stack;
      vector_registers = 0;
    }

pub goes_by_layout : GoesByLayout apple
goes_by_layout s r h = plan_alike apple start_alike s r h (placing_alike s r h)
