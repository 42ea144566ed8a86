-- How JSON data is stored where a ghost value holds one, and back.
use Rattle.std.specs.Prelude.{◌≡◌, ℕ, zero, suc, ℤ, pos, negsuc, Bool, true, false, Float, List, [], ◌∷◌, refl}
use Rattle.std.specs.Float.{nan, inf, fin}
use Rattle.std.specs.Coded.{Coded, code_by}
use Rattle.std.proofs.Common.{ap}
use Rattle.serde_json.specs.Data.{Num, unsigned, negative, float, Data, null, boolean, number, string, array, object}
use Rattle.serde_json.specs.Data.{Items, no_items, item, Members, no_members, member}
use denote.Struct.Codes.{itself}
use base.Stored.{Gv, gnil, gnum, gcons}

-- ---- numbers and texts

abbrev number_in : Gv → ℕ
number_in gnil = zero
number_in (gnum n) = n
number_in (gcons g h) = zero

abbrev stored_bool : Bool → Gv
stored_bool false = gnil
stored_bool true = gnum zero

abbrev restored_bool : Gv → Bool
restored_bool gnil = false
restored_bool (gnum n) = true
restored_bool (gcons g h) = true

restored_bool-stored_bool : (b : Bool) → restored_bool (stored_bool b) ≡ b
restored_bool-stored_bool false = refl
restored_bool-stored_bool true = refl

abbrev stored_integer : ℤ → Gv
stored_integer (pos n) = gnum n
stored_integer (negsuc n) = gcons (gnum n) gnil

abbrev restored_integer : Gv → ℤ
restored_integer gnil = pos zero
restored_integer (gnum n) = pos n
restored_integer (gcons g h) = negsuc (number_in g)

restored_integer-stored_integer : (z : ℤ) → restored_integer (stored_integer z) ≡ z
restored_integer-stored_integer (pos n) = refl
restored_integer-stored_integer (negsuc n) = refl

abbrev stored_finite : Bool → ℕ → ℤ → Gv
stored_finite b m z = gcons (gcons (stored_bool b) (gnum m)) (stored_integer z)

abbrev stored_float : Float → Gv
stored_float nan = gnil
stored_float (inf b) = gcons gnil (stored_bool b)
stored_float (fin b m z) = stored_finite b m z

abbrev restored_float : Gv → Float
restored_float gnil = nan
restored_float (gnum n) = nan
restored_float (gcons gnil h) = inf (restored_bool h)
restored_float (gcons (gnum n) h) = nan
restored_float (gcons (gcons f g) h) = fin (restored_bool f) (number_in g) (restored_integer h)

restored_float-stored_float : (x : Float) → restored_float (stored_float x) ≡ x
restored_float-stored_float nan = refl
restored_float-stored_float (inf b) = ap inf (restored_bool-stored_bool b)
restored_float-stored_float (fin b m z) =
    λ i. fin (restored_bool-stored_bool b i) m (restored_integer-stored_integer z i)

abbrev stored_num : Num → Gv
stored_num (unsigned n) = gnum n
stored_num (negative z) = gcons gnil (stored_integer z)
stored_num (float x) = gcons (gnum zero) (stored_float x)

abbrev restored_num : Gv → Num
restored_num gnil = unsigned zero
restored_num (gnum n) = unsigned n
restored_num (gcons gnil h) = negative (restored_integer h)
restored_num (gcons (gnum n) h) = float (restored_float h)
restored_num (gcons (gcons f g) h) = unsigned zero

restored_num-stored_num : (n : Num) → restored_num (stored_num n) ≡ n
restored_num-stored_num (unsigned n) = refl
restored_num-stored_num (negative z) = ap negative (restored_integer-stored_integer z)
restored_num-stored_num (float x) = ap float (restored_float-stored_float x)

abbrev stored_text : List ℕ → Gv
stored_text [] = gnil
stored_text (n ∷ ns) = gcons (gnum n) (stored_text ns)

abbrev restored_text : Gv → List ℕ
restored_text gnil = []
restored_text (gnum n) = []
restored_text (gcons g h) = number_in g ∷ restored_text h

restored_text-stored_text : (ns : List ℕ) → restored_text (stored_text ns) ≡ ns
restored_text-stored_text [] = refl
restored_text-stored_text (n ∷ ns) = ap (λ ms. n ∷ ms) (restored_text-stored_text ns)

-- ---- values

abbrev mutual
  stored : Data → Gv
  stored null = gnil
  stored (boolean false) = gnum 0
  stored (boolean true) = gnum 1
  stored (number n) = gcons gnil (stored_num n)
  stored (string s) = gcons (gnum 0) (stored_text s)
  stored (array ds) = gcons (gnum 1) (stored_items ds)
  stored (object ms) = gcons (gcons gnil gnil) (stored_members ms)

  stored_items : Items → Gv
  stored_items no_items = gnil
  stored_items (item d ds) = gcons (stored d) (stored_items ds)

  stored_members : Members → Gv
  stored_members no_members = gnil
  stored_members (member k d ms) = gcons (gcons (stored_text k) (stored d)) (stored_members ms)

abbrev mutual
  restored : Gv → Data
  restored gnil = null
  restored (gnum zero) = boolean false
  restored (gnum (suc n)) = boolean true
  restored (gcons gnil h) = number (restored_num h)
  restored (gcons (gnum zero) h) = string (restored_text h)
  restored (gcons (gnum (suc n)) h) = array (restored_items h)
  restored (gcons (gcons f g) h) = object (restored_members h)

  restored_items : Gv → Items
  restored_items gnil = no_items
  restored_items (gnum n) = no_items
  restored_items (gcons g h) = item (restored g) (restored_items h)

  restored_members : Gv → Members
  restored_members gnil = no_members
  restored_members (gnum n) = no_members
  restored_members (gcons gnil h) = no_members
  restored_members (gcons (gnum n) h) = no_members
  restored_members (gcons (gcons f g) h) = member (restored_text f) (restored g) (restored_members h)

mutual
  pub restored-stored : (d : Data) → restored (stored d) ≡ d
  restored-stored null = refl
  restored-stored (boolean false) = refl
  restored-stored (boolean true) = refl
  restored-stored (number n) = ap number (restored_num-stored_num n)
  restored-stored (string s) = ap string (restored_text-stored_text s)
  restored-stored (array ds) = ap array (restored_items-stored_items ds)
  restored-stored (object ms) = ap object (restored_members-stored_members ms)

  pub restored_items-stored_items : (ds : Items) → restored_items (stored_items ds) ≡ ds
  restored_items-stored_items no_items = refl
  restored_items-stored_items (item d ds) = λ i. item (restored-stored d i) (restored_items-stored_items ds i)

  pub restored_members-stored_members : (ms : Members) → restored_members (stored_members ms) ≡ ms
  restored_members-stored_members no_members = refl
  restored_members-stored_members (member k d ms) =
      λ i. member (restored_text-stored_text k i) (restored-stored d i) (restored_members-stored_members ms i)

abbrev pub data_code : Coded Data
data_code = code_by Gv itself stored restored restored-stored

abbrev pub items_code : Coded Items
items_code = code_by Gv itself stored_items restored_items restored_items-stored_items
