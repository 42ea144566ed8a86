-- What stands under a key, targets, and places as text.
use Rattle.std.proofs.Common.{◌≡◌, ◌≢◌, ℕ, ◌+◌, ◌<◌, List, ◌++◌, length, drop, true, false, Bool, bytes_eq, cond, codes, refl, sym, ap, ◌∙◌, append_assoc, get_or, Some, None}
use Rattle.std.specs.Prelude.{slice_get, unwrap_or}
use Rattle.std.proofs.lemmas.List.{drop_more}
use Rattle.std.proofs.lemmas.Option.{get_or_from_slice_get}
use Rattle.std.proofs.lemmas.Slice.Eq.{bytes_eq-Decides}
use Rattle.serde_json.specs.Data.{Data, null}
use Rattle.serde_json.specs.Find.{get}
use Rattle.ffi3_type_spec.specs.declared.Target.TheVariants.{Amd64, Aapcs64, Riscv, Win64, Apple}
use Rattle.ffi3_script_spec.specs.JsonPath.{PathStep}
use Rattle.ffi3_script_spec.specs.Language.{JsonPath, value_under}
use Rattle.ffi3_script_spec.specs.ReasonText.{text_of_step, text_of_steps}
use Rattle.ffi3_image_spec.specs.Object.{target_named}

-- ---- what stands under a key

pub under-is : (name : List ℕ) (d inside : Data) → get name d ≡ Some inside → value_under name d ≡ inside
under-is name d inside e = ap (λ o. unwrap_or o null) e

pub under-none : (name : List ℕ) (d : Data) → get name d ≡ None → value_under name d ≡ null
under-none name d e = ap (λ o. unwrap_or o null) e

-- ---- targets

not_so : (b : Bool) → (b ≡ true → ⊥) → b ≡ false
not_so true h = absurd (h refl)
not_so false h = refl

not_named : (word name : List ℕ) → name ≢ word → bytes_eq word name ≡ false
not_named word name other =
    not_so (bytes_eq word name) (λ same. other (sym ((bytes_eq-Decides word name).0 same)))

five : (a b c d e : Bool) → a ≡ false → b ≡ false → c ≡ false → d ≡ false → e ≡ false → cond a (Some Amd64) (cond b (Some Aapcs64) (cond c (Some Riscv) (cond d (Some Win64) (cond e (Some Apple) None)))) ≡ None
five false false false false false ea eb ec ed ee = refl
five true b c d e ea eb ec ed ee = cc
five false true c d e ea eb ec ed ee = cc
five false false true d e ea eb ec ed ee = cc
five false false false true e ea eb ec ed ee = cc
five false false false false true ea eb ec ed ee = cc

pub no_target : (name : List ℕ) → name ≢ codes "amd64" → name ≢ codes "aapcs64" → name ≢ codes "riscv" → name ≢ codes "win64" → name ≢ codes "apple" → target_named name ≡ None
no_target name a b c d e =
    five _ _ _ _ _ (not_named (codes "amd64") name a) (not_named (codes "aapcs64") name b) (not_named (codes "riscv") name c) (not_named (codes "win64") name d) (not_named (codes "apple") name e)

-- ---- places

-- one step more of a path
pub step_on : (path : JsonPath) (i : ℕ) (s : PathStep) (text text' all : List ℕ) → i < length path → slice_get path i ≡ Some s → text ++ text_of_steps (drop i path) ≡ all → text' ≡ text ++ text_of_step s → text' ++ text_of_steps (drop (i + 1) path) ≡ all
step_on path i s text text' all below is before on =
    let there : s ≡ get_or path i s = sym (get_or_from_slice_get path i s s is) in
    let here : text_of_steps (drop i path) ≡ text_of_step s ++ text_of_steps (drop (i + 1) path) = ap text_of_steps (drop_more path i s below) ∙ ap (λ t. text_of_step t ++ text_of_steps (drop (i + 1) path)) (sym there) in
    ap (λ t. t ++ text_of_steps (drop (i + 1) path)) on ∙ append_assoc text (text_of_step s) (text_of_steps (drop (i + 1) path)) ∙ ap (λ t. text ++ t) (sym here) ∙ before

-- ---- a line in parts

pub joined-line : (h d k x t n l1 l2 l3 l4 : List ℕ) → l1 ≡ h ++ (d ++ k) → l2 ≡ l1 ++ x → l3 ≡ l2 ++ t → l4 ≡ l3 ++ n → l4 ≡ (h ++ (d ++ (k ++ (x ++ t)))) ++ n
joined-line h d k x t n l1 l2 l3 l4 e1 e2 e3 e4 =
    let three : l3 ≡ ((h ++ (d ++ k)) ++ x) ++ t = e3 ∙ ap (λ l. l ++ t) (e2 ∙ ap (λ l. l ++ x) e1) in
    e4 ∙ ap (λ l. l ++ n) (three ∙ append_assoc (h ++ (d ++ k)) x t ∙ append_assoc h (d ++ k) (x ++ t) ∙ ap (λ l. h ++ l) (append_assoc d k (x ++ t)))
