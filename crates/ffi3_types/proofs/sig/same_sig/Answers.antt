use Rattle.std.proofs.Common.{◌≡◌, ◌==◌, ℕ, List, Option, Some, None, true, refl, ap, sym, ◌∙◌}
use Rattle.std.specs.Option.{option_eq}
use Rattle.std.proofs.lemmas.Bool.{false≢true}
use Rattle.std.proofs.lemmas.Bool.Decides.{Decides-eqb}
use Rattle.ffi3_type_spec.specs.Tree.{Tree}
use Rattle.ffi3_type_spec.specs.Signature.{Signature}
use Rattle.ffi3_types.proofs.Trees.{tree_of-inj}
use Rattle.ffi3_types.specs.TreeOf.{tree_of}
use Rattle.ffi3_types.proofs.sig.same_sig.Goals as goal

same_option : (a b : Option ℕ) → option_eq (λ x y. x == y) a b ≡ true → a ≡ b
same_option None None h = refl
same_option None (Some y) h = absurd (false≢true h)
same_option (Some x) None h = absurd (false≢true h)
same_option (Some x) (Some y) h = ap Some ((Decides-eqb x y).0 h)

option_itself : (a : Option ℕ) → option_eq (λ x y. x == y) a a ≡ true
option_itself None = refl
option_itself (Some x) = (Decides-eqb x x).1 refl

same_parts : (a b : Signature) → a.result_type ≡ b.result_type → a.arguments ≡ b.arguments → a.fixed ≡ b.fixed → a ≡ b
same_parts a b r s f =
    let made : Tree → List Tree → Option ℕ → Signature = λ t ts n. record { result_type = t; arguments = ts; fixed = n } in
    ap (λ t. made t a.arguments a.fixed) r ∙ ap (λ ts. made b.result_type ts a.fixed) s ∙ ap (made b.result_type b.arguments) f

pub returns-then-not-same_type : goal.returns-then-not-same_type
returns-then-not-same_type c =
    let both : c.args.a.now ≡ c.args.b.now → c.ret.result.now ≡ c.ret-2.result.now = λ same. tree_of-inj _ _ (c.ret.ensures ∙ ap (λ s. s.result_type) same ∙ sym c.ret-2.ensures) in
    (λ h. absurd (false≢true h), λ same. sym c.if-not-same_type.true ∙ c.same_type.ensures.1 (both same))

pub returns : goal.returns
returns c =
    let result_type : c.args.a.now.result_type ≡ c.args.b.now.result_type = sym c.ret.ensures ∙ ap tree_of (c.if-not-same_type.ensures.0 refl) ∙ c.ret-2.ensures in
    let arguments : c.args.a.now.arguments ≡ c.args.b.now.arguments = sym c.args-2.ensures ∙ c.if-not-same_fields.ensures.0 refl ∙ c.args-3.ensures in
    let tested : c.eq.result ≡ option_eq (λ x y. x == y) c.args.a.now.fixed c.args.b.now.fixed = c.eq.ensures ∙ ap (λ o. option_eq (λ x y. x == y) o c.fixed-2.result) c.fixed.ensures ∙ ap (option_eq (λ x y. x == y) c.args.a.now.fixed) c.fixed-2.ensures in (
      λ h. same_parts c.args.a.now c.args.b.now result_type arguments (same_option c.args.a.now.fixed c.args.b.now.fixed (sym tested ∙ h)),
      λ same. tested ∙ ap (λ s. option_eq (λ x y. x == y) c.args.a.now.fixed s.fixed) (sym same) ∙ option_itself c.args.a.now.fixed,
    )
