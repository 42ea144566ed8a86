-- What C is answered where an interface is prepared, shared or asked for its sizes, from what the calls say.
use Rattle.std.proofs.Common.{◌≡◌, ℕ, sym, subst, ap, ◌∙◌, Bool, true, false, refl, slice_get}
use Rattle.std.specs.Prelude.{Option, Some, None}
use Rattle.ffi3_type_spec.specs.declared.Target.{Target}
use Rattle.ffi3_type_spec.specs.Signature.{Signature}
use Rattle.ffi3_prepared.specs.declared.Prepared.{Prepared}
use Rattle.ffi3_prepared.specs.Prepared.{signature_in, target_in}
use Rattle.ffi3_handle.specs.declared.kept.Kept.{Kept}
use Rattle.ffi3_handle.specs.Kept.{is_kept}
use Rattle.ffi3_capi.specs.declared.fault.TextFault.{TextFault}
use Rattle.ffi3_capi.specs.declared.fault.FaultKind.TheVariants.{NoFault}
use Rattle.ffi3_capi.specs.declared.status.Refusal.{Refusal}
use Rattle.ffi3_capi.specs.Faults.{fault_with}
use Rattle.ffi3_capi.specs.Placed.{targets, IsPlaceRefusal}
use Rattle.ffi3_capi.specs.Refused.{status_of, fault_in}
use Rattle.ffi3_interface.specs.declared.numbers.InterfaceSizes.{InterfaceSizes}
use Rattle.ffi3_interface.specs.Keeping.{interface_in, KeepsOf, IsInterface, Prepares, prepared, refused, Shares, shared}
use Rattle.ffi3_interface.specs.Numbers.{no_sizes, sizes_in, TellsSizes, told, nothing}

pub kept_of : (to : Target) (s : Signature) (k : Kept) (p : Prepared) → interface_in k ≡ p → target_in p ≡ to → signature_in p ≡ s → KeepsOf to s k
kept_of to s k p same to_is signature =
    record { to_is = ap target_in same ∙ to_is; signature = ap signature_in same ∙ signature }

pub is_interface : (declares : Signature → Type 0) (target : ℕ) (to : Target) (s : Signature) (k : Kept) → slice_get targets target ≡ Some to → declares s → KeepsOf to s k → IsInterface declares target k
is_interface declares target to s k is declared keeps = record {
  to_is = is ∙ ap Some (sym keeps.to_is);
  declared = subst declares (sym keeps.signature) declared;
}

module _ (declares : Signature → Type 0) (is_fault : TextFault → Type 0) (target : ℕ) (old : Option Kept) where
  pub prepared_as : (k : Kept) (f : TextFault) (new : Option Kept) → IsInterface declares target k → f ≡ fault_with NoFault → new ≡ Some k → Prepares declares is_fault target old 0 f new
  prepared_as k f new is said now =
      subst (λ (n : Option Kept). Prepares declares is_fault target old 0 f n) (sym now) (subst (λ (g : TextFault). Prepares declares is_fault target old 0 g (Some k)) (sym said) (prepared k is))

  pub refused_as : (r : Refusal) (f : TextFault) (status : ℕ) → IsPlaceRefusal is_fault target r → f ≡ fault_in r → status ≡ status_of r → Prepares declares is_fault target old status f old
  refused_as r f status is said answered =
      subst (λ (n : ℕ). Prepares declares is_fault target old n f old) (sym answered) (subst (λ (g : TextFault). Prepares declares is_fault target old (status_of r) g old) (sym said) (refused r is))

abbrev IsTrue : Bool → Type 0
IsTrue true = Unit {0}
IsTrue false = ⊥

pub none_if : (k : Option Kept) → is_kept k ≡ false → k ≡ None
none_if None e = refl
none_if (Some k) e = absurd (subst IsTrue e tt)

module _ {it : Option Kept} where
  pub shared_as : {old new : Option Kept} (k b : Kept) → it ≡ Some k → interface_in b ≡ interface_in k → new ≡ Some b → Shares it old 0 new
  shared_as {old} k b is same now = subst (λ (n : Option Kept). Shares it old 0 n) (sym now) (shared k b is same)

  pub sizes_as : (k : Kept) (p : Prepared) (s : InterfaceSizes) → it ≡ Some k → p ≡ interface_in k → s ≡ sizes_in p → TellsSizes it 0 s
  sizes_as k p s is at are = subst (λ (z : InterfaceSizes). TellsSizes it 0 z) (sym (are ∙ ap sizes_in at)) (told k is)

  pub no_sizes_as : (s : InterfaceSizes) → it ≡ None → s ≡ no_sizes → TellsSizes it 10 s
  no_sizes_as s is are = subst (λ (z : InterfaceSizes). TellsSizes it 10 z) (sym are) (nothing is)
