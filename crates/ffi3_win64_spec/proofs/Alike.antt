-- Structs of equal layout are placed alike.
use Rattle.std.proofs.Common.{◌≡◌, ℕ, suc, ◌+◌, Bool, List, [], ◌∷◌, cond, not, length, refl, ap, ◌∙◌}
use Rattle.std.specs.Prelude.{is_some}
use Rattle.ffi3_type_spec.specs.Tree.{Tree}
use Rattle.ffi3_type_spec.specs.Layout.{Layout}
use Rattle.ffi3_type_spec.specs.Signature.{Signature}
use Rattle.ffi3_place_spec.specs.declared.Loc.TheVariants.{G}
use Rattle.ffi3_place_spec.specs.declared.Ext.TheVariants.{Free}
use Rattle.ffi3_place_spec.specs.Standard.{in_pieces, by_reference, in_result_pieces, in_buffer}
use Rattle.ffi3_place_spec.specs.Alike.{AreAlike, same_type, same_layout, AllAlike, SignaturesAreAlike, GoesByLayout}
use Rattle.ffi3_place_spec.proofs.Alike.{all_alike, plan_alike}
use Rattle.ffi3_win64_spec.specs.Win64.{win64, is_whole_size, position_place, spot_at, spots_from, first_position, result_spot_of, stack_of, placing_of}

-- ---- one type

-- a struct is passed by its size alone
spot_alike : (variadic : Bool) (p : ℕ) (t u : Tree) → AreAlike t u → spot_at variadic p t ≡ spot_at variadic p u
spot_alike variadic p t u same_type = refl
spot_alike variadic p t u (same_layout e) =
    ap (λ (l : Layout). cond (not (is_whole_size l.size)) (by_reference (position_place p)) (in_pieces (record { loc = position_place p; off = 0; len = l.size; ext = Free } ∷ []))) e

first_alike : (t u : Tree) → AreAlike t u → first_position t ≡ first_position u
first_alike t u same_type = refl
first_alike t u (same_layout e) =
    ap (λ (l : Layout). cond (not (is_whole_size l.size)) 1 0) e

result_alike : (t u : Tree) → AreAlike t u → result_spot_of t ≡ result_spot_of u
result_alike t u same_type = refl
result_alike t u (same_layout e) =
    ap (λ (l : Layout). cond (not (is_whole_size l.size)) (in_buffer (position_place 0)) (in_result_pieces (record { loc = G 0; off = 0; len = l.size; ext = Free } ∷ []))) e

-- ---- all arguments

spots_alike : (variadic : Bool) (p : ℕ) (ts us : List Tree) → AllAlike ts us → spots_from variadic p ts ≡ spots_from variadic p us
spots_alike variadic p ts us h =
    all_alike (λ (ts : List Tree) (p : ℕ). spots_from variadic p ts)
    (λ t u ts us here rest p. ap (λ s. s ∷ spots_from variadic (p + 1) ts) (spot_alike variadic p t u here) ∙ ap (λ ss. spot_at variadic p u ∷ ss) (rest (p + 1))) ts us h p

length_alike : (ts us : List Tree) → AllAlike ts us → length ts ≡ length us
length_alike ts us h =
    all_alike (λ (ts : List Tree) (n : ℕ). length ts) (λ t u ts us here rest n. ap suc (rest n)) ts us h 0

placing_alike : (s r : Signature) → SignaturesAreAlike s r → placing_of s ≡ placing_of r
placing_alike s r h =
    let first = first_alike s.result_type r.result_type h.result_type in
    let spots : spots_from (is_some s.fixed) (first_position s.result_type) s.arguments ≡ spots_from (is_some r.fixed) (first_position r.result_type) r.arguments = ap (λ n. spots_from (is_some n) (first_position s.result_type) s.arguments) h.fixed ∙ ap (λ p. spots_from (is_some r.fixed) p s.arguments) first ∙ spots_alike (is_some r.fixed) (first_position r.result_type) s.arguments r.arguments h.arguments in
    let spot = result_alike s.result_type r.result_type h.result_type in
    let count : first_position s.result_type + length s.arguments ≡ first_position r.result_type + length r.arguments = ap (λ p. p + length s.arguments) first ∙ ap (λ n. first_position r.result_type + n) (length_alike s.arguments r.arguments h.arguments) in
    λ i. record {
      arguments = spots i;
      result_spot = spot i;
      stack_bytes = stack_of (count i);
      vector_registers = 0;
    }

pub goes_by_layout : GoesByLayout win64
goes_by_layout s r h = plan_alike win64 (λ end t u alike. refl) s r h (placing_alike s r h)
