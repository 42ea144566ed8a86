use Rattle.std.proofs.Common.{◌≡◌, ℕ, zero, suc, ◌<◌, ◌≤◌, List, [], ◌∷◌, length, map, refl, arith, Bor}
use Rattle.std.specs.Prelude.{slice_index_or}
use Rattle.ffi3_place.proofs.names.name_in.Goals as goal

text_at : (texts : List (Bor (List ℕ))) (r : ℕ) (d : Bor (List ℕ)) → r < length texts → (slice_index_or texts r d).now ≡ slice_index_or (map (λ t. t.now) texts) r []
text_at [] r d below = absurd (omega arith)
text_at (t ∷ texts) zero d below = refl
text_at (t ∷ texts) (suc r) d below = text_at texts r d (omega arith)

no_text : (texts : List (Bor (List ℕ))) (r : ℕ) → length texts ≤ r → [] ≡ slice_index_or (map (λ t. t.now) texts) r []
no_text [] r past = refl
no_text (t ∷ texts) zero past = absurd (omega arith)
no_text (t ∷ texts) (suc r) past = no_text texts r (omega arith)

pub returns-then-k-names : goal.returns-then-k-names
returns-then-k-names c = text_at c.args.names.now c.args.r _ c.if-k-names.true

pub returns-else-k-names : goal.returns-else-k-names
returns-else-k-names c = no_text c.args.names.now c.args.r c.if-k-names.false
