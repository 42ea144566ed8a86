-- A type has no fault or a first one; so the types of a signature without fault have none.
use Rattle.std.proofs.Common.{ℕ, ◌<◌, ◌≤◌, inl, inr, List, length, Option, Some, None}
use Rattle.std.proofs.lemmas.Bool.{cases_lt}
use Rattle.ffi3_type_spec.specs.declared.Role.{Role}
use Rattle.ffi3_type_spec.specs.declared.Role.TheVariants.{AsResult, AsArgument}
use Rattle.ffi3_type_spec.specs.Tree.{Tree, tree_at}
use Rattle.ffi3_type_spec.specs.Fault.{Fault, HasNoFault, IsFirstFault, IsResultType, IsArgumentType, IsLaidOut}
use Rattle.ffi3_type_spec.specs.Signature.{Signature, SignatureHasNoFault, too_many, bad_type, at_result, at_argument, over_most, in_result, in_argument, of_type}
use Rattle.ffi3_type_spec.specs.FirstFault.{Found, first_fault}
use Rattle.ffi3_type_spec.proofs.Faults.{right_anywhere}
use Rattle.ffi3_type_spec.proofs.FirstFaults.{Answers, answers}

without : {role : Role} {t : Tree} (found : Option Found) → Answers 0 role t found → ((path : List ℕ) (f : Fault) → ¬ IsFirstFault 0 role t path f) → HasNoFault 0 role t
without None right none = right
without (Some f) first none = absurd (none f.0 f.1 first)

-- a type that has no first fault has none
pub right_without_first : (role : Role) (t : Tree) → ((path : List ℕ) (f : Fault) → ¬ IsFirstFault 0 role t path f) → HasNoFault 0 role t
right_without_first role t none = without (first_fault 0 role t) (answers 0 role t) none

module _ (s : Signature) (right : SignatureHasNoFault s) where
  pub few_arguments : length s.arguments ≤ 64
  few_arguments =
      elim (cases_lt 64 (length s.arguments)) [
        | inl over ↦ absurd (right (too_many (length s.arguments)) (over_most over))
        | inr few ↦ few
      ]

  pub result_is_right : IsResultType s.result_type
  result_is_right =
      right_without_first AsResult s.result_type (λ path f first. right (bad_type at_result path f) (in_result (of_type first)))

  pub argument_is_right : (i : ℕ) → i < length s.arguments → IsArgumentType (tree_at s.arguments i)
  argument_is_right i below =
      right_without_first AsArgument (tree_at s.arguments i) (λ path f first. right (bad_type (at_argument i) path f) (in_argument below (of_type first)))

  -- so each has a layout, and at most as many bytes as the largest struct
  pub argument_is_laid_out : (i : ℕ) → i < length s.arguments → IsLaidOut (tree_at s.arguments i)
  argument_is_laid_out i below = right_anywhere 0 AsArgument (tree_at s.arguments i) (argument_is_right i below)

  pub result_is_laid_out : IsLaidOut s.result_type
  result_is_laid_out = right_anywhere 0 AsResult s.result_type result_is_right
