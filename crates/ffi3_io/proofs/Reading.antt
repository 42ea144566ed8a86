-- Reads of a source, one after another.
use Rattle.std.proofs.Common.{◌≡◌, ℕ, ◌<◌, List, [], ◌++◌, Option, Some, sym, ◌∙◌, ap, subst, arith, append-nil}
use Rattle.std.proofs.lemmas.List.{nil_from_length}
use Rattle.ffi3_io_spec.specs.Source.{HasRead, one_more, HasReadAll, at_end, HasFailed, at_fault, HasOneMore, FailsNext}

module _ {S : Type 0} (gives : S → ℕ → Option (List ℕ) → S → Type 0) (limit : ℕ) (from s t : S) (before after : List ℕ) (so_far : HasRead gives limit from before s) where
  pub one_more_read : (n : ℕ) → 0 < n → HasOneMore gives limit s before n after t → HasRead gives limit from after t
  one_more_read n some h =
      subst (λ l. HasRead gives limit from l t) (sym h.added) (one_more so_far h.within h.gave (omega (arith, h.count)))

  pub read_to_end : (n : ℕ) → n ≡ 0 → HasOneMore gives limit s before n after t → HasReadAll gives limit from after t
  read_to_end n zero h =
      let none : h.piece ≡ [] = nil_from_length h.piece (h.count ∙ zero) in
      let gave = subst (λ (p : List ℕ). gives s h.room (Some p) t) none h.gave in
      let same : before ≡ after = sym (h.added ∙ ap (λ (p : List ℕ). before ++ p) none ∙ append-nil before) in
      subst (λ l. HasReadAll gives limit from l t) same (at_end so_far h.some_room h.within gave)

pub read_failed : {S : Type 0} (gives : S → ℕ → Option (List ℕ) → S → Type 0) (limit : ℕ) (from s t : S) (before : List ℕ) → HasRead gives limit from before s → FailsNext gives limit s before t → HasFailed gives limit from t
read_failed gives limit from s t before so_far h = at_fault so_far h.some_room h.within h.gave

pub read_all_along : {S : Type 0} (gives : S → ℕ → Option (List ℕ) → S → Type 0) (limit : ℕ) (from s t : S) (xs ys : List ℕ) → ys ≡ xs → t ≡ s → HasReadAll gives limit from xs s → HasReadAll gives limit from ys t
read_all_along gives limit from s t xs ys same here h =
    let there = subst (λ u. HasReadAll gives limit from xs u) (sym here) h in
    subst (λ (l : List ℕ). HasReadAll gives limit from l t) (sym same) there
