use Rattle.std.proofs.Common.{◌≡◌, ℕ, ◌+◌, ◌-◌, ◌≤◌, List, ◌++◌, take, drop, get_or, length, inl, inr, ap, subst, sym, ◌∙◌, arith}
use Rattle.std.proofs.lemmas.Bool.{cases_lt}
use Rattle.std.proofs.lemmas.List.{ext_get_or, get_or-take, get_or-drop, get_or_append_left, get_or-append_right, length-append, length-take-le, length-drop}
use Rattle.ffi3_place_spec.specs.declared.Loc.TheVariants.{S}
use Rattle.ffi3_place_spec.specs.Image.{Image}
use Rattle.ffi3_explain_spec.specs.Explain.{eight, place_byte}
use Rattle.ffi3_explain_spec.proofs.Words.{index_eight, place_byte_is, place_byte_behind}
use Rattle.ffi3_explain.specs.ImageOf.{image_of}
use Rattle.ffi3_explain.specs.Places.{HasPlace}
use Rattle.ffi3_explain.proofs.Loops.{zeros, zeros_all}
use Rattle.ffi3_explain.proofs.places.place_bytes.Goals as goal

-- the bytes of a place on the stack, and zeros behind them
stack_eight : (m : Image) (base n w : ℕ) (part : List ℕ) → w ≤ 8 → base + n + w ≤ length m.stack → part ≡ take w (drop (base + n) m.stack) → part ++ drop w (zeros 8) ≡ eight (place_byte m base (S n w))
stack_eight m base n w part few room is =
    let long : length part ≡ w = ap length is ∙ length-take-le w (drop (base + n) m.stack) (omega (arith, length-drop (base + n) m.stack, room)) in
    let all : length (part ++ drop w (zeros 8)) ≡ 8 = omega (arith, length-append part (drop w (zeros 8)), long, length-drop w (zeros 8), few) in
    ext_get_or 0 (part ++ drop w (zeros 8)) (eight (place_byte m base (S n w))) all (λ k h. let of_place = sym (index_eight (place_byte m base (S n w)) k (omega (arith, h, all))) in
    elim (cases_lt k w) [
      | inl within ↦ get_or_append_left part (drop w (zeros 8)) 0 k (omega (arith, within, long)) ∙ ap (λ xs. get_or xs k 0) is ∙ get_or-take w (drop (base + n) m.stack) k 0 within ∙ get_or-drop (base + n) m.stack k 0 ∙ sym (place_byte_is m base (S n w) k within) ∙ of_place
      | inr past ↦ get_or-append_right part (drop w (zeros 8)) w k 0 long past ∙ get_or-drop w (zeros 8) (k - w) 0 ∙ zeros_all 8 (w + (k - w)) ∙ sym (place_byte_behind m base (S n w) k past) ∙ of_place
    ])

pub returns-in-S : goal.returns-in-S
returns-in-S c =
    let m = image_of c.args.image.now in
    let there = subst (HasPlace (image_of c.args.image.now) c.args.base) c.in-S.is c.requires in
    let whole : c.args.base + c.in-S.n + c.in-S.len - (c.args.base + c.in-S.n) ≡ c.in-S.len = omega arith in
    let read = c.copy_from_slice.ensures.after ∙ (λ j. take (whole j) (drop (c.args.base + c.in-S.n) (c.as_slice.ensures j))) in
    subst (λ at. c.copy_from_slice.new.self ++ drop c.in-S.len (zeros 8) ≡ eight (place_byte (image_of c.args.image.now) c.args.base at)) (sym c.in-S.is)
    (stack_eight m c.args.base c.in-S.n c.in-S.len c.copy_from_slice.new.self there.1 there.0 read)
