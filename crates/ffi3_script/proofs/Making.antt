-- From the parts of a script to the script.
use Rattle.std.proofs.Common.{◌≡◌, ℕ, zero, suc, ◌+◌, ◌<◌, ◌≤◌, ◌^◌, ◌&&◌, true, List, [], ◌∷◌, ◌++◌, length, map, All, refl, sym, ap, subst, ◌∙◌, append_assoc, append-nil, arith}
use Rattle.std.specs.Prelude.{slice_index_or}
use Rattle.std.specs.List.{list_all}
use Rattle.std.proofs.lemmas.List.{length-map}
use Rattle.std.proofs.lemmas.List.Folds.{list_all-map}
use Rattle.std.proofs.lemmas.List.Sums.{AllPass-from_list_all}
use Rattle.ffi3_type_spec.specs.Signature.{Signature}
use Rattle.ffi3_semantics_spec.specs.Move.{no_signature}
use Rattle.ffi3_script_spec.specs.Script as script
use Rattle.ffi3_script_spec.specs.Typed.{script_is_typed, function_is_typed, body_is_typed, signature_is_right}
use Rattle.ffi3_script_spec.proofs.Tests.{and_left, and_right}
use Rattle.ffi3_script_body.specs.ExprOf.{script_move_of, script_moves_of}
use Rattle.ffi3_script.specs.FunctionOf.{function_of}
use Rattle.ffi3_script.specs.PartsOf.{part_of, script_in}
use Rattle.ffi3_script_body.specs.declared.moves.ScriptMove.{ScriptMove}
use Rattle.ffi3_script.specs.declared.functions.FunctionPart.{FunctionPart}
use Rattle.ffi3_script.specs.declared.script.ScriptFunction.{ScriptFunction}
use Rattle.ffi3_script.proofs.Loops.{mapped-more}
use Rattle.ffi3_script.proofs.Few.{IsFew, HasFewMoves}

-- ---- what is typed

module _ (version : ℕ) (ss : List Signature) (natives : ℕ) (fs : List FunctionPart) (main : List ScriptMove) (count : ℕ) (counted : count ≡ length fs + natives) (typed : script_is_typed natives (script_in version ss fs main) ≡ true) where
  abbrev all_functions : ℕ
  all_functions = length (map part_of fs) + natives

  same_count : all_functions ≡ count
  same_count = ap (λ n. n + natives) (length-map fs part_of) ∙ sym counted

  bodies : (list_all (function_is_typed ss all_functions) (map part_of fs) && body_is_typed ss all_functions no_signature (script_moves_of main)) ≡ true
  bodies = and_right (list_all signature_is_right ss) _ typed

  pub each-typed : All (λ f. function_is_typed ss count (part_of f) ≡ true) fs
  each-typed =
      let each : list_all (function_is_typed ss count) (map part_of fs) ≡ true = subst (λ n. list_all (function_is_typed ss n) (map part_of fs) ≡ true) same_count (and_left (list_all (function_is_typed ss all_functions) (map part_of fs)) _ bodies) in
      AllPass-from_list_all (λ f. function_is_typed ss count (part_of f)) fs (sym (list_all-map (function_is_typed ss count) part_of fs) ∙ each)

-- ---- few functions, of few moves

index-map : {X Y : Type 0} (f : X → Y) (xs : List X) (k : ℕ) (d : X) → slice_index_or (map f xs) k (f d) ≡ f (slice_index_or xs k d)
index-map f [] zero d = refl
index-map f [] (suc k) d = refl
index-map f (x ∷ xs) zero d = refl
index-map f (x ∷ xs) (suc k) d = index-map f xs k d

All-unmap : {X Y : Type 0} (P : Y → Type 0) (f : X → Y) (xs : List X) → All P (map f xs) → All (λ x. P (f x)) xs
All-unmap P f xs all = λ k d below. subst P (index-map f xs k d) (all k (f d) (omega (arith, length-map xs f)))

module _ (n : ℕ) (small : n < 2 ^ 31) (version : ℕ) (ss : List Signature) (fs : List FunctionPart) (main : List ScriptMove) (few : IsFew n (script_in version ss fs main)) where
  pub signatures-few : length ss < 2 ^ 31
  signatures-few = omega (arith, few.signatures)

  pub functions-few : length fs < 2 ^ 31
  functions-few = omega (arith, few.functions, length-map fs part_of)

  pub main-few : length main < 2 ^ 31
  main-few = omega (arith, few.main, length-map main script_move_of)

  pub each-few : All (λ f. length f.moves.items < 2 ^ 31) fs
  each-few = λ k d below.
      let f : FunctionPart = slice_index_or fs k d in
      let moves : length (script_moves_of f.moves.items) ≤ n = All-unmap (HasFewMoves n) part_of fs few.moves k d below in
      omega (arith, moves, length-map f.moves.items script_move_of)

-- ---- one function after another

pub all-first : {X : Type 0} (P : X → Type 0) (xs rest : List X) (x : X) → xs ≡ x ∷ rest → All P xs → P x
all-first P xs rest x e all = let first : All P (x ∷ rest) = subst (All P) e all in first 0 x (omega arith)

pub all-rest : {X : Type 0} (P : X → Type 0) (xs rest : List X) (x : X) → xs ≡ x ∷ rest → All P xs → All P rest
all-rest P xs rest x e all = let whole : All P (x ∷ rest) = subst (All P) e all in λ k d below. whole (suc k) d (omega arith)

pub making-turn : (fs more : List ScriptFunction) (one : ScriptFunction) (part : FunctionPart) (left rest : List FunctionPart) (whole : List script.ScriptFunction) → map function_of fs ++ map part_of left ≡ whole → left ≡ part ∷ rest → function_of one ≡ part_of part → more ≡ fs ++ one ∷ []
    → map function_of more ++ map part_of rest ≡ whole
making-turn fs more one part left rest whole so_far is same pushed =
    ap (λ gs. gs ++ map part_of rest) (mapped-more function_of fs one more pushed)
    ∙ append_assoc (map function_of fs) (function_of one ∷ []) (map part_of rest)
    ∙ ap (λ f. map function_of fs ++ f ∷ map part_of rest) same
    ∙ ap (λ gs. map function_of fs ++ map part_of gs) (sym is) ∙ so_far

none-of : {X : Type 0} (xs : List X) → length xs ≡ 0 → xs ≡ []
none-of [] e = refl
none-of (x ∷ xs) e = absurd (omega arith)

pub making-end : (fs : List ScriptFunction) (left : List FunctionPart) (whole : List script.ScriptFunction) → map function_of fs ++ map part_of left ≡ whole → length left ≡ 0 → map function_of fs ≡ whole
making-end fs left whole so_far end =
    sym (append-nil (map function_of fs)) ∙ ap (λ gs. map function_of fs ++ map part_of gs) (sym (none-of left end)) ∙ so_far
