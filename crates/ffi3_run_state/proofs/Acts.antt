-- What each kind of move leads to in the direct meaning.
use Rattle.std.proofs.Common.{◌≡◌, ℕ, true, false, List, Some, None, sym, ap, ◌∙◌}
use Rattle.std.specs.Prelude.{if◌then◌else◌, nat_lt}
use Rattle.ffi3_type_spec.specs.Signature.{signature_at}
use Rattle.ffi3_type_spec.specs.Same.{same_signature}
use Rattle.ffi3_type_spec.specs.Value.{ValueTree, void_value}
use Rattle.ffi3_type_spec.proofs.Tests.{if_true, if_false}
use Rattle.ffi3_semantics_spec.specs.declared.Closure.{Closure}
use Rattle.ffi3_semantics_spec.specs.declared.Stop.TheVariants.{NoClosure, WrongSig, TableFull, StackFull}
use Rattle.ffi3_semantics_spec.specs.Closures.{Closures, slots, slot_address, closure_at, first_free, with_closure, freed}
use Rattle.ffi3_semantics_spec.specs.Move.{call, make, free}
use Rattle.ffi3_semantics_spec.specs.Meaning.{Program, Activation, Effect, stops, goes_on, enters, at_closure, call_of, callee_of, effect_of, need_at, function_at, pointer_value}

module _ (p : Program) (a : Activation) (c : Closures) where
  -- ---- a call

  module _ (ptr sig : ℕ) (args : List ValueTree) (closure : Closure) (live : closure_at c ptr ≡ Some closure) where
    found : effect_of p a c (call ptr sig args) ≡ call_of p a ptr sig args closure
    found = ap (λ o. at_closure o ptr (call_of p a ptr sig args)) live

    abbrev by_room : Effect
    by_room =
        if nat_lt a.left (need_at p sig)
        then stops (StackFull (need_at p sig) a.left)
        else enters ptr sig (callee_of p a sig args closure)

    pub call_is_wrong : same_signature (signature_at p.signatures sig) (signature_at p.signatures closure.sig) ≡ false → effect_of p a c (call ptr sig args) ≡ stops (WrongSig ptr sig closure.sig)
    call_is_wrong other =
        found ∙ if_false (same_signature (signature_at p.signatures sig) (signature_at p.signatures closure.sig)) by_room (stops (WrongSig ptr sig closure.sig)) other

    is_right : same_signature (signature_at p.signatures sig) (signature_at p.signatures closure.sig) ≡ true → effect_of p a c (call ptr sig args) ≡ by_room
    is_right same =
        found ∙ if_true (same_signature (signature_at p.signatures sig) (signature_at p.signatures closure.sig)) by_room (stops (WrongSig ptr sig closure.sig)) same

    pub call_has_no_room : same_signature (signature_at p.signatures sig) (signature_at p.signatures closure.sig) ≡ true → nat_lt a.left (need_at p sig) ≡ true → effect_of p a c (call ptr sig args) ≡ stops (StackFull (need_at p sig) a.left)
    call_has_no_room same full =
        is_right same ∙ if_true (nat_lt a.left (need_at p sig)) (stops (StackFull (need_at p sig) a.left)) (enters ptr sig (callee_of p a sig args closure)) full

    pub call_enters : same_signature (signature_at p.signatures sig) (signature_at p.signatures closure.sig) ≡ true → nat_lt a.left (need_at p sig) ≡ false → effect_of p a c (call ptr sig args) ≡ enters ptr sig (callee_of p a sig args closure)
    call_enters same room =
        is_right same ∙ if_false (nat_lt a.left (need_at p sig)) (stops (StackFull (need_at p sig) a.left)) (enters ptr sig (callee_of p a sig args closure)) room

  -- ---- a make

  abbrev made : ℕ → ℕ → ℕ → Effect
  made func sig user =
      goes_on (pointer_value (slot_address (first_free c))) (with_closure c (first_free c) (Some (record { func = func; sig = sig; user = user })))

  pub make_is_full : (func user : ℕ) → nat_lt (first_free c) slots ≡ false → effect_of p a c (make func user) ≡ stops TableFull
  make_is_full func user full =
      if_false (nat_lt (first_free c) slots) (made func (function_at p func).signature user) (stops TableFull) full

  -- by a signature that is the function's
  pub make_goes_with : (func sig user : ℕ) → nat_lt (first_free c) slots ≡ true → sig ≡ (function_at p func).signature → effect_of p a c (make func user) ≡ made func sig user
  make_goes_with func sig user room is =
      if_true (nat_lt (first_free c) slots) (made func (function_at p func).signature user) (stops TableFull) room
      ∙ ap (λ (s : ℕ). made func s user) (sym is)

  -- ---- a free

  pub free_finds_none : (ptr : ℕ) → closure_at c ptr ≡ None → effect_of p a c (free ptr) ≡ stops (NoClosure ptr)
  free_finds_none ptr none =
      ap (λ o. at_closure o ptr (λ closure. goes_on void_value (freed c ptr))) none

  pub free_goes_on : (ptr : ℕ) (closure : Closure) → closure_at c ptr ≡ Some closure → effect_of p a c (free ptr) ≡ goes_on void_value (freed c ptr)
  free_goes_on ptr closure live =
      ap (λ o. at_closure o ptr (λ closure. goes_on void_value (freed c ptr))) live
