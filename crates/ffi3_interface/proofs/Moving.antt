-- What C is answered where values go by an interface, from what the calls say.
use Rattle.std.proofs.Common.{◌≡◌, ℕ, List, sym, subst}
use Rattle.std.specs.Prelude.{Option, Some, None}
use Rattle.ffi3_place_spec.specs.Image.{Image}
use Rattle.ffi3_transfer.specs.declared.Registers.{Registers}
use Rattle.ffi3_transfer.specs.declared.Unstored.{Unstored}
use Rattle.ffi3_transfer.specs.declared.Uncollected.{Uncollected}
use Rattle.ffi3_transfer.specs.declared.Ungiven.{Ungiven}
use Rattle.ffi3_transfer.specs.Stored.{image_in}
use Rattle.ffi3_transfer.specs.Calls.{IsCallStored, IsNotStored, IsLoaded, IsNotLoaded, IsGiven, IsNotGiven}
use Rattle.ffi3_transfer.specs.Collected.{IsCollected, IsNotCollected}
use Rattle.ffi3_prepared.specs.declared.Prepared.{Prepared}
use Rattle.ffi3_prepared.specs.Prepared.{signature_in, standard_in}
use Rattle.ffi3_handle.specs.declared.kept.Kept.{Kept}
use Rattle.ffi3_interface.specs.declared.transfers.Reason.{Reason}
use Rattle.ffi3_interface.specs.Keeping.{interface_in}
use Rattle.ffi3_interface.specs.Transfers.{Stores, stored, unstored, Loads, loaded, unloaded, Collects, collected, uncollected, collects_nothing, Gives, given, ungiven, gives_nothing}
use Rattle.ffi3_interface.specs.Transfers.{unstored_status, no_reason, uncollected_status, uncollected_reason, ungiven_status, ungiven_reason}

-- what is not written makes the same image
pub same_image : (old new : Registers) (before after : List ℕ) → new ≡ old → after ≡ before → image_in new after ≡ image_in old before
same_image old new before after r s = λ i. image_in (r i) (s i)

module _ {it : Option Kept} (k : Kept) (is : it ≡ Some k) (p : Prepared) (at : p ≡ interface_in k) where
  pub stored_as : (values : List ℕ) (old new : Image) → IsCallStored (standard_in p) (signature_in p) values old new → Stores it values old 0 new
  stored_as values old new are =
      stored k new is (subst (λ (q : Prepared). IsCallStored (standard_in q) (signature_in q) values old new) at are)

  pub unstored_as : (values : List ℕ) (old new : Image) (f : Unstored) (status : ℕ) → IsNotStored (standard_in p) (signature_in p) values old f → status ≡ unstored_status f → new ≡ old → Stores it values old status new
  unstored_as values old new f status why answered same =
      let refused = unstored k f is (subst (λ (q : Prepared). IsNotStored (standard_in q) (signature_in q) values old f) at why) in
      subst (λ (m : Image). Stores it values old status m) (sym same) (subst (λ (n : ℕ). Stores it values old n old) (sym answered) refused)

  pub loaded_as : (m : Image) (old new : List ℕ) → IsLoaded (standard_in p) (signature_in p) m new → Loads it m old 0 new
  loaded_as m old new are =
      loaded k new is (subst (λ (q : Prepared). IsLoaded (standard_in q) (signature_in q) m new) at are)

  pub unloaded_as : (m : Image) (old new : List ℕ) (f : Unstored) (status : ℕ) → IsNotLoaded (standard_in p) (signature_in p) m old f → status ≡ unstored_status f → new ≡ old → Loads it m old status new
  unloaded_as m old new f status why answered same =
      let refused = unloaded k f is (subst (λ (q : Prepared). IsNotLoaded (standard_in q) (signature_in q) m old f) at why) in
      subst (λ (b : List ℕ). Loads it m old status b) (sym same) (subst (λ (n : ℕ). Loads it m old n old) (sym answered) refused)

  pub collected_as : (m : Image) (old new : List ℕ) (r : Reason) → r ≡ no_reason → IsCollected (standard_in p) (signature_in p) m new → Collects it m old 0 r new
  collected_as m old new r none are =
      let done = collected k new is (subst (λ (q : Prepared). IsCollected (standard_in q) (signature_in q) m new) at are) in
      subst (λ (x : Reason). Collects it m old 0 x new) (sym none) done

  pub uncollected_as : (m : Image) (old new : List ℕ) (f : Uncollected) (status : ℕ) (r : Reason) → IsNotCollected (standard_in p) (signature_in p) m old f → status ≡ uncollected_status f → r ≡ uncollected_reason f → new ≡ old → Collects it m old status r new
  uncollected_as m old new f status r why answered told same =
      let refused = uncollected k f is (subst (λ (q : Prepared). IsNotCollected (standard_in q) (signature_in q) m old f) at why) in
      let with_status = subst (λ (n : ℕ). Collects it m old n (uncollected_reason f) old) (sym answered) refused in
      subst (λ (b : List ℕ). Collects it m old status r b) (sym same) (subst (λ (x : Reason). Collects it m old status x old) (sym told) with_status)

  pub given_as : (value : List ℕ) (old new : Image) (r : Reason) → r ≡ no_reason → IsGiven (standard_in p) (signature_in p) value old new → Gives it value old 0 r new
  given_as value old new r none are =
      let done = given k new is (subst (λ (q : Prepared). IsGiven (standard_in q) (signature_in q) value old new) at are) in
      subst (λ (x : Reason). Gives it value old 0 x new) (sym none) done

  pub ungiven_as : (value : List ℕ) (old new : Image) (f : Ungiven) (status : ℕ) (r : Reason) → IsNotGiven (standard_in p) (signature_in p) value old f → status ≡ ungiven_status f → r ≡ ungiven_reason f → new ≡ old → Gives it value old status r new
  ungiven_as value old new f status r why answered told same =
      let refused = ungiven k f is (subst (λ (q : Prepared). IsNotGiven (standard_in q) (signature_in q) value old f) at why) in
      let with_status = subst (λ (n : ℕ). Gives it value old n (ungiven_reason f) old) (sym answered) refused in
      subst (λ (m : Image). Gives it value old status r m) (sym same) (subst (λ (x : Reason). Gives it value old status x old) (sym told) with_status)

module _ {it : Option Kept} (is : it ≡ None) where
  pub collects_of_none : (m : Image) (old : List ℕ) (r : Reason) → r ≡ no_reason → Collects it m old 10 r old
  collects_of_none m old r none = subst (λ (x : Reason). Collects it m old 10 x old) (sym none) (collects_nothing is)

  pub gives_of_none : (value : List ℕ) (old : Image) (r : Reason) → r ≡ no_reason → Gives it value old 10 r old
  gives_of_none value old r none = subst (λ (x : Reason). Gives it value old 10 x old) (sym none) (gives_nothing is)
