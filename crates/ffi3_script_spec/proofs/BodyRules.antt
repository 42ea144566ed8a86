-- A walk along the moves of a body: what the moves that are left do after those before them.
use Rattle.std.proofs.Common.{◌≡◌, ℕ, zero, suc, ◌+◌, ◌<◌, true, false, List, [], ◌∷◌, ◌++◌, length, take, refl, ap, sym, ◌∙◌, subst, arith}
use Rattle.std.specs.Prelude.{slice_index_or, is_none}
use Rattle.ffi3_type_spec.specs.Value.{ValueTree, void_value, fits, zero_value}
use Rattle.ffi3_semantics_spec.specs.Move.{Move, result_type_of}
use Rattle.ffi3_script_spec.specs.Script.{ScriptMove}
use Rattle.ffi3_script_spec.specs.Bodies.{type_of_act, is_return, always_returns, ends}
use Rattle.ffi3_script_spec.specs.Meaning.{Known, move_of, is_done, next_by, next_of, knows_too}
use Rattle.ffi3_script_spec.specs.Typed.{Kinds, Setting, IsOfType, act_is_typed, moves_are_typed, is_condition, gives_too}
use Rattle.ffi3_script_spec.proofs.Tests.{and_left, and_right}
use Rattle.ffi3_script_spec.proofs.RightTypes.{is_none-none}
use Rattle.ffi3_script_spec.proofs.Fits.{result_fits, none_after_return}

-- one more result is taken
taken_suc : (results : List ValueTree) (taken : ℕ) (rest : List ValueTree) → taken < length results → take (suc taken) results ++ rest ≡ take taken results ++ slice_index_or results taken void_value ∷ rest
taken_suc [] taken rest below = absurd (omega arith)
taken_suc (r ∷ results) zero rest below = refl
taken_suc (r ∷ results) (suc taken) rest below =
    ap (λ rs. r ∷ rs) (taken_suc results taken rest (omega arith))

taken_next : (results : List ValueTree) (taken : ℕ) (rest : List ValueTree) → taken < length results → take (taken + 1) results ++ rest ≡ take taken results ++ slice_index_or results taken void_value ∷ rest
taken_next results taken rest below =
    let next : taken + 1 ≡ suc taken = omega arith in
    ap (λ n. take n results ++ rest) next ∙ taken_suc results taken rest below

-- all results are taken
taken_all : (results : List ValueTree) (taken : ℕ) → taken ≡ length results → take taken results ++ [] ≡ results
taken_all [] taken n = search
taken_all (r ∷ results) zero n = absurd (omega arith)
taken_all (r ∷ results) (suc taken) n =
    ap (λ rs. r ∷ rs) (taken_all results taken (omega arith))

taken_so_far : (rs : List ValueTree) → rs ≡ rs ++ []
taken_so_far [] = refl
taken_so_far (r ∷ rs) = ap (λ vs. r ∷ vs) (taken_so_far rs)

-- the last move is done, and is a return
last_returns : (k : Known) (m : ScriptMove) → always_returns m ≡ true → (is_done k m.condition ≡ true) × (is_return m.act ≡ true)
last_returns k m h =
    let is = is_none-none m.condition (and_left (is_none m.condition) _ h) in
    (ap (is_done k) is, and_right (is_none m.condition) _ h)

module _ (s : Setting) (next : List ValueTree → Move) (results : List ValueTree) where
  -- What is left to do, after moves that took so many results: whatever results follow these.
  abbrev pub IsLeft : ℕ → List ScriptMove → Known → Type 0
  IsLeft taken ms k =
      (rest : List ValueTree) → next (take taken results ++ rest) ≡ next_of s.signatures ms k rest

  -- a move that is done takes a result
  pub left_done : (taken : ℕ) (m : ScriptMove) (ms : List ScriptMove) (k : Known) → taken < length results → is_done k m.condition ≡ true → IsLeft taken (m ∷ ms) k → IsLeft (taken + 1) ms (knows_too k (slice_index_or results taken void_value))
  left_done taken m ms k below done left rest =
      let after : ValueTree → List ValueTree → Move = λ v vs. next_of s.signatures ms (knows_too k v) vs in
      ap next (taken_next results taken rest below) ∙ left (slice_index_or results taken void_value ∷ rest) ∙ ap (λ d. next_by d (move_of k m.act) (zero_value (type_of_act s.signatures m.act)) after (slice_index_or results taken void_value ∷ rest)) done

  -- a move that is not done takes none
  pub left_undone : (taken : ℕ) (m : ScriptMove) (ms : List ScriptMove) (k : Known) → is_done k m.condition ≡ false → IsLeft taken (m ∷ ms) k → IsLeft taken ms (knows_too k (zero_value (type_of_act s.signatures m.act)))
  left_undone taken m ms k undone left rest =
      let after : ValueTree → List ValueTree → Move = λ v vs. next_of s.signatures ms (knows_too k v) vs in
      left rest ∙ ap (λ d. next_by d (move_of k m.act) (zero_value (type_of_act s.signatures m.act)) after rest) undone

  -- the move that comes where no more results follow
  without_more : (taken : ℕ) (m : ScriptMove) (ms : List ScriptMove) (k : Known) → is_done k m.condition ≡ true → IsLeft taken (m ∷ ms) k → next (take taken results ++ []) ≡ move_of k m.act
  without_more taken m ms k done left =
      let after : ValueTree → List ValueTree → Move = λ v vs. next_of s.signatures ms (knows_too k v) vs in
      left [] ∙ ap (λ d. next_by d (move_of k m.act) (zero_value (type_of_act s.signatures m.act)) after []) done

  -- a move that is done is next, where all results are taken
  pub is_next : (taken : ℕ) (m : ScriptMove) (ms : List ScriptMove) (k : Known) → taken ≡ length results → is_done k m.condition ≡ true → IsLeft taken (m ∷ ms) k → next results ≡ move_of k m.act
  is_next taken m ms k all done left =
      ap next (sym (taken_all results taken all)) ∙ without_more taken m ms k done left

  -- the result that a move takes is one of its type
  taken_of_type : (taken : ℕ) (m : ScriptMove) (ms : List ScriptMove) (k : Known) → is_done k m.condition ≡ true → IsLeft taken (m ∷ ms) k → (r : ValueTree) → IsOfType r (result_type_of s.signatures (next (take taken results))) → IsOfType r (result_type_of s.signatures (move_of k m.act))
  taken_of_type taken m ms k done left r =
      subst (λ n. IsOfType r (result_type_of s.signatures n)) (ap next (taken_so_far (take taken results)) ∙ without_more taken m ms k done left)

  pub taken_fits : (taken : ℕ) (m : ScriptMove) (ms : List ScriptMove) (k : Known) → is_done k m.condition ≡ true → IsLeft taken (m ∷ ms) k → (r : ValueTree) → IsOfType r (result_type_of s.signatures (next (take taken results))) → fits (type_of_act s.signatures m.act) r ≡ true
  taken_fits taken m ms k done left r of_type =
      result_fits s.signatures k m.act r (taken_of_type taken m ms k done left r of_type)

  -- the last move takes none, so there is another
  pub ends_after_done : (taken : ℕ) (m : ScriptMove) (ms : List ScriptMove) (k : Known) → is_done k m.condition ≡ true → IsLeft taken (m ∷ ms) k → (r : ValueTree) → IsOfType r (result_type_of s.signatures (next (take taken results))) → ends (m ∷ ms) ≡ true → ends ms ≡ true
  ends_after_done taken m [] k done left r of_type ended =
      absurd (none_after_return s.signatures k m.act r (last_returns k m ended).1 (taken_of_type taken m [] k done left r of_type))
  ends_after_done taken m (n ∷ ms) k done left r of_type ended = ended

pub ends_after_undone : (m : ScriptMove) (ms : List ScriptMove) (k : Known) → is_done k m.condition ≡ false → ends (m ∷ ms) ≡ true → ends ms ≡ true
ends_after_undone m [] k undone ended =
    let done = (last_returns k m ended).0 in
    cc
ends_after_undone m (n ∷ ms) k undone ended = ended

-- ---- types

module _ (s : Setting) (k : Kinds) (m : ScriptMove) (ms : List ScriptMove) (typed : moves_are_typed s k (m ∷ ms) ≡ true) where
  pub condition_typed : is_condition k m.condition ≡ true
  condition_typed = and_left (is_condition k m.condition) _ typed

  pub act_typed : act_is_typed s k m.act ≡ true
  act_typed =
      and_left (act_is_typed s k m.act) _ (and_right (is_condition k m.condition) _ typed)

  pub later_typed : moves_are_typed s (gives_too k (type_of_act s.signatures m.act)) ms ≡ true
  later_typed =
      and_right (act_is_typed s k m.act) _ (and_right (is_condition k m.condition) _ typed)
