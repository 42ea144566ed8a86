-- Tokens that are written one by one.
use Rattle.std.proofs.Common.{◌≡◌, ℕ, zero, suc, ◌+◌, ◌<◌, ◌≤◌, Bool, true, false, ◌||◌, List, [], ◌∷◌, ◌++◌, length, drop, ap, sym, refl, ◌∙◌, arith, append_assoc, append-nil, true≢false}
use Rattle.std.proofs.lemmas.List.{drop_more, drop_all, take_rest}
use Rattle.ffi3_type_spec.specs.Tree.{Tree, trees_of, tree_at, void}
use Rattle.ffi3_cdecl_spec.specs.Tokens.{Token, name, open_round, close_round, comma, semicolon, dots}
use Rattle.ffi3_cdecl_spec.specs.Canonical.{hugs, holds, spaced, spelled, text_of, count_tokens, first_count_tokens, member_name, type_tokens, first_type_tokens, member_tokens, end_tokens, more_parameter_tokens, parameter_tokens, declaration_text}
use Rattle.std.specs.Prelude.{◌-◌, take, slice_range, Option, Some, is_some}
use Rattle.ffi3_cdecl_spec.specs.Prototype.{behind_commas, fixed_tokens, prototype_text}
use Rattle.ffi3_type_spec.specs.Signature.{Signature}
use Rattle.ffi3_cdecl.specs.Going.{going, Wrote, blank_before}
use Rattle.ffi3_cdecl.specs.declared.text.Writer.{Writer}

spaced_is : (tight : Bool) (text : List ℕ) → blank_before tight ++ text ≡ spaced tight text
spaced_is true text = refl
spaced_is false text = refl

-- one token
pub put_token : (text now new : List ℕ) (tight : Bool) (x : Token) → now ≡ text ++ blank_before (tight || hugs x) → new ≡ now ++ spelled x → (rest : List Token) → new ++ text_of (holds x) rest ≡ text ++ text_of tight (x ∷ rest)
put_token text now new tight x p q rest =
    let more : List ℕ = text_of (holds x) rest in
    let blank : List ℕ = blank_before (tight || hugs x) in
    ap (λ t. t ++ more) (q ∙ ap (λ t. t ++ spelled x) p) ∙ append_assoc (text ++ blank) (spelled x) more ∙ append_assoc text blank (spelled x ++ more) ∙ ap (λ t. text ++ t) (spaced_is (tight || hugs x) (spelled x ++ more))

-- tokens, and others behind them
pub wrote_then : (a b c : Writer) (f g : List Token → List Token) → Wrote a b f → Wrote b c g → Wrote a c (λ rest. f (g rest))
wrote_then a b c f g p q rest = q rest ∙ p (g rest)

-- ---- lists of types

pub first_type : (ts : List Tree) (t : Tree) → 0 < length ts → t ≡ tree_at ts 0 → (rest : List Token) → type_tokens t rest ≡ first_type_tokens (trees_of ts) rest
first_type [] t some e rest = absurd (omega arith)
first_type (u ∷ us) t some e rest = ap (λ v. type_tokens v rest) e

pub no_first_type : (ts : List Tree) → length ts ≡ 0 → (rest : List Token) → rest ≡ first_type_tokens (trees_of ts) rest
no_first_type [] e rest = refl
no_first_type (u ∷ us) e rest = absurd (omega (arith, e))

pub first_counts : (ts : List Tree) (t : Tree) → 0 < length ts → t ≡ tree_at ts 0 → (rest : List Token) → count_tokens t rest ≡ first_count_tokens (trees_of ts) rest
first_counts [] t some e rest = absurd (omega arith)
first_counts (u ∷ us) t some e rest = ap (λ v. count_tokens v rest) e

pub no_first_counts : (ts : List Tree) → length ts ≡ 0 → (rest : List Token) → rest ≡ first_count_tokens (trees_of ts) rest
no_first_counts [] e rest = refl
no_first_counts (u ∷ us) e rest = absurd (omega (arith, e))

pub next_member : (ts : List Tree) (i : ℕ) (t : Tree) → i < length ts → t ≡ tree_at ts i → (rest : List Token) → type_tokens t (member_name i ∷ count_tokens t (semicolon ∷ member_tokens (i + 1) (trees_of (drop (i + 1) ts)) rest)) ≡ member_tokens i (trees_of (drop i ts)) rest
next_member ts i t h e rest =
    ap (λ v. type_tokens v (member_name i ∷ count_tokens v (semicolon ∷ member_tokens (i + 1) (trees_of (drop (i + 1) ts)) rest))) e ∙ ap (λ us. member_tokens i (trees_of us) rest) (sym (drop_more ts i void h))

pub last_member : (ts : List Tree) (i : ℕ) → length ts ≤ i → (rest : List Token) → rest ≡ member_tokens i (trees_of (drop i ts)) rest
last_member ts i h rest =
    ap (λ us. member_tokens i (trees_of us) rest) (sym (drop_all i ts h))

pub first_parameter : (ts : List Tree) (t : Tree) (variadic : Bool) → 0 < length ts → t ≡ tree_at ts 0 → (rest : List Token) → type_tokens t (more_parameter_tokens (drop 1 ts) variadic rest) ≡ parameter_tokens ts variadic rest
first_parameter [] t variadic some e rest = absurd (omega arith)
first_parameter (u ∷ us) t variadic some e rest =
    ap (λ v. type_tokens v (more_parameter_tokens us variadic rest)) e

pub next_parameter : (ts : List Tree) (i : ℕ) (t : Tree) (variadic : Bool) → i < length ts → t ≡ tree_at ts i → (rest : List Token) → comma ∷ type_tokens t (more_parameter_tokens (drop (i + 1) ts) variadic rest) ≡ more_parameter_tokens (drop i ts) variadic rest
next_parameter ts i t variadic h e rest =
    ap (λ v. comma ∷ type_tokens v (more_parameter_tokens (drop (i + 1) ts) variadic rest)) e ∙ ap (λ us. more_parameter_tokens us variadic rest) (sym (drop_more ts i void h))

pub last_parameter : (ts : List Tree) (i : ℕ) (variadic : Bool) → length ts ≤ i → (rest : List Token) → end_tokens variadic rest ≡ more_parameter_tokens (drop i ts) variadic rest
last_parameter ts i variadic h rest =
    ap (λ us. more_parameter_tokens us variadic rest) (sym (drop_all i ts h))

-- ---- parameters of a prototype

slice_more : (ts : List Tree) (i end : ℕ) → i < end → end ≤ length ts → slice_range ts i end ≡ tree_at ts i ∷ slice_range ts (i + 1) end
slice_more ts i end h within =
    let count : end - i ≡ suc (end - (i + 1)) = omega (arith, h) in
    ap (λ us. take (end - i) us) (drop_more ts i void (omega (arith, h, within))) ∙ ap (λ n. take n (tree_at ts i ∷ drop (i + 1) ts)) count

pub next_behind : (ts : List Tree) (i end : ℕ) (t : Tree) → i < end → end ≤ length ts → t ≡ tree_at ts i → (rest : List Token) → comma ∷ type_tokens t (behind_commas (slice_range ts (i + 1) end) rest) ≡ behind_commas (slice_range ts i end) rest
next_behind ts i end t h within e rest =
    ap (λ v. comma ∷ type_tokens v (behind_commas (slice_range ts (i + 1) end) rest)) e ∙ ap (λ us. behind_commas us rest) (sym (slice_more ts i end h within))

pub last_behind : (ts : List Tree) (i end : ℕ) → end ≤ i → (rest : List Token) → rest ≡ behind_commas (slice_range ts i end) rest
last_behind ts i end h rest =
    let none : 0 ≡ end - i = omega (arith, h) in
    ap (λ n. behind_commas (take n (drop i ts)) rest) none

rest_is : (ts : List Tree) (n : ℕ) → slice_range ts n (length ts) ≡ drop n ts
rest_is ts n = take_rest ts n

-- the first, those behind it, the dots and the others
pub fixed_is : (ts : List Tree) (n m : ℕ) (t : Tree) → 0 < n → n ≤ length ts → t ≡ tree_at ts 0 → m ≡ length ts → (rest : List Token) → type_tokens t (behind_commas (slice_range ts 1 n) (comma ∷ dots ∷ behind_commas (slice_range ts n m) (close_round ∷ rest))) ≡ fixed_tokens ts (Some n) rest
fixed_is [] n m t some within e all rest = absurd (omega (arith, some, within))
fixed_is (u ∷ us) zero m t some within e all rest = absurd (omega (arith, some))
fixed_is (u ∷ us) (suc n) m t some within e all rest =
    let count : suc n - 1 ≡ n = omega arith in
    ap (λ k. type_tokens t (behind_commas (take k us) (comma ∷ dots ∷ behind_commas (slice_range (u ∷ us) (suc n) m) (close_round ∷ rest)))) count ∙ ap (λ v. type_tokens v (behind_commas (take n us) (comma ∷ dots ∷ behind_commas (slice_range (u ∷ us) (suc n) m) (close_round ∷ rest)))) e ∙ ap (λ k. type_tokens u (behind_commas (take n us) (comma ∷ dots ∷ behind_commas (slice_range (u ∷ us) (suc n) k) (close_round ∷ rest)))) all ∙ ap (λ vs. type_tokens u (behind_commas (take n us) (comma ∷ dots ∷ behind_commas vs (close_round ∷ rest)))) (rest_is (u ∷ us) (suc n))

-- the whole, from an empty text on
pub prototype_is : (text called : List ℕ) (s : Signature) (t : Tree) (ts : List Tree) (fixed : Option ℕ) → text ≡ [] → t ≡ s.result_type → ts ≡ s.arguments → fixed ≡ s.fixed → text ++ text_of true (type_tokens t (name called ∷ open_round ∷ fixed_tokens ts fixed (semicolon ∷ []))) ≡ prototype_text called s
prototype_is text called s t ts fixed p q r f =
    λ i. p i ++ text_of true (type_tokens (q i) (name called ∷ open_round ∷ fixed_tokens (r i) (f i) (semicolon ∷ [])))

-- dots stand before the closing mark
pub ends_with_dots : (a b : Writer) (variadic : Bool) → variadic ≡ true → Wrote a b (λ rest. comma ∷ dots ∷ close_round ∷ rest) → Wrote a b (end_tokens variadic)
ends_with_dots a b true e wrote = wrote
ends_with_dots a b false e wrote = absurd (true≢false (sym e))

-- nothing follows
pub all_written : (w : Writer) → going w [] ≡ w.text
all_written w = append-nil w.text

-- the whole, from an empty text on
pub declaration_is : (text called : List ℕ) (s : Signature) (t : Tree) (ts : List Tree) (variadic : Bool) (fixed : Option ℕ) → text ≡ [] → t ≡ s.result_type → ts ≡ s.arguments → variadic ≡ is_some fixed → fixed ≡ s.fixed → text ++ text_of true (type_tokens t (name called ∷ open_round ∷ parameter_tokens ts variadic (semicolon ∷ []))) ≡ declaration_text called s
declaration_is text called s t ts variadic fixed p q r v f =
    let w : variadic ≡ is_some s.fixed = v ∙ ap is_some f in
    λ i. p i ++ text_of true (type_tokens (q i) (name called ∷ open_round ∷ parameter_tokens (r i) (w i) (semicolon ∷ [])))
