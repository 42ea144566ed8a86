-- Declarations are equal where their names and their signatures are.
use Rattle.std.proofs.Common.{◌≡◌, ◌∙◌, ℕ, Bool, false, List, sym, ap}
use Rattle.std.specs.Prelude.{◌↔◌, IsTrue}
use Rattle.std.proofs.lemmas.Bool.{false≢true}
use Rattle.ffi3_type_spec.specs.Signature.{Signature}
use Rattle.ffi3_cdecl_spec.specs.Grammar.{Declaration}

pub other_names : (a b : Declaration) (m n : List ℕ) → m ≡ a.called → n ≡ b.called → (m ≡ n → ⊥) → IsTrue false ↔ (a ≡ b)
other_names a b m n p q other =
    (λ h. absurd (false≢true h), λ same. absurd (other (p ∙ ap (λ d. d.called) same ∙ sym q)))

pub same_names : (a b : Declaration) (m n : List ℕ) (s t : Signature) (r : Bool) → m ≡ a.called → n ≡ b.called → m ≡ n → s ≡ a.signature → t ≡ b.signature → IsTrue r ↔ (s ≡ t) → IsTrue r ↔ (a ≡ b)
same_names a b m n s t r p q same u v (is, back) = (
  λ h. (λ i. record { called = (sym p ∙ same ∙ q) i; signature = (sym u ∙ is h ∙ v) i }),
  λ e. back (u ∙ ap (λ d. d.signature) e ∙ sym v),
)
