use Rattle.std.proofs.Common.{◌≡◌, ℕ, ◌+◌, [], ◌∷◌, refl, ap, ◌∙◌, add-zero}
use Rattle.std.specs.Prelude.{slice_index}
use Rattle.std.specs.List.{count_by}
use Rattle.std.proofs.lemmas.Result.{IfOk-weaker}
use Rattle.ffi3_place_spec.specs.Doublewords.{widening}
use Rattle.ffi3_amd64_spec.specs.declared.Class.{Class}
use Rattle.ffi3_amd64_spec.specs.declared.Class.TheVariants.{Integer, Sse}
use Rattle.ffi3_amd64_spec.specs.Amd64.{is_integer_class, is_sse_class, register_of, register_pieces}
use Rattle.ffi3_amd64.specs.Classes.{register_at}
use Rattle.ffi3_amd64.proofs.register_pieces.Goals as goal

first_at : (general : ℕ → ℕ) (g f : ℕ) (c : Class) → register_at general g f c ≡ register_of general g f [] c
first_at general g f Integer = rw add-zero refl
first_at general g f Sse = rw add-zero refl

second_at : (general : ℕ → ℕ) (g f : ℕ) (first c : Class) → register_at general (g + count_by is_integer_class (first ∷ [])) (f + count_by is_sse_class (first ∷ [])) c ≡ register_of general g f (first ∷ []) c
second_at general g f first Integer = refl
second_at general g f first Sse = refl

pub returns-in-Two : goal.returns-in-Two
returns-in-Two c =
    let general = slice_index c.args.registers.now in
    let size = c.requires.sized in
    let ext = c.widening-ext.ensures ∙ ap widening c.as_type-in-Two.ensures.value in
    let low = c.register-low.ensures ∙ first_at general c.args.general c.args.vector c.in-Two.first in
    let next = ap (λ n. register_at general (c.args.general + n) (c.args.vector + c.sses.result) c.in-Two.second) c.integers.ensures.value ∙ ap (λ n. register_at general (c.args.general + count_by is_integer_class (c.in-Two.first ∷ [])) (c.args.vector + n) c.in-Two.second) c.sses.ensures.value in
    let high = c.register-high.ensures ∙ next ∙ second_at general c.args.general c.args.vector c.in-Two.first c.in-Two.second in
    let first_is = rw (size, ext, low) at c.doubleword-first_piece.ensures in
    let second_is = rw (size, ext, high) at c.doubleword-second_piece.ensures in
    let classes_are = rw c.in-Two.is at c.requires.all in
    IfOk-weaker c.two_pieces.result _ _ (λ p is. is ∙ (λ i. first_is i ∷ second_is i ∷ []) ∙ ap (register_pieces general c.args.general c.args.vector c.args.ty.now []) classes_are) c.two_pieces.ensures
