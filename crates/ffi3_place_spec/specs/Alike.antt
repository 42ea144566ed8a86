-- Types and signatures that a standard does not tell apart: a struct is placed by its layout, so that an array of one element or more in it stands as its elements would.
use Rattle.std.specs.Prelude.{◌≡◌, ℕ, ◌<◌, ⊤, List, [], ◌∷◌, ◌++◌, replicate}
use Rattle.ffi3_type_spec.specs.Tree.{Tree, structure, Trees, struct_of, array_of}
use Rattle.ffi3_type_spec.specs.Layout.{layout}
use Rattle.ffi3_type_spec.specs.Signature.{Signature}
use Rattle.ffi3_place_spec.specs.Standard.{Standard, plan_of}

-- equal types, or structs of equal layout
pub data AreAlike : Tree → Tree → Type 0 where
  same_type : {t : Tree} → AreAlike t t
  same_layout : {ts us : Trees} → layout (structure ts) ≡ layout (structure us) → AreAlike (structure ts) (structure us)

-- two lists of types, alike one by one
abbrev pub AllAlike : List Tree → List Tree → Type 0
AllAlike [] [] = ⊤
AllAlike (t ∷ ts) (u ∷ us) = AreAlike t u × AllAlike ts us
AllAlike _ _ = ⊥

-- two signatures whose types are alike one by one
pub record SignaturesAreAlike (s r : Signature) : Type 0 where
  pub result_type : AreAlike s.result_type r.result_type
  pub arguments : AllAlike s.arguments r.arguments
  pub fixed : s.fixed ≡ r.fixed

-- such signatures have equal plans
abbrev pub GoesByLayout : Standard → Type 0
GoesByLayout std =
    (s r : Signature) → SignaturesAreAlike s r → plan_of std s ≡ plan_of std r

-- ---- an array in a struct, and as many elements in its place

-- the second type is the first with an array's elements, one or more, in the array's place: in this struct, or inside one of its elements, or inside the element type of an array
pub data HasElementsForArray : Tree → Tree → Type 0 where
  in_place : (xs ys : List Tree) (t : Tree) (n : ℕ) → 0 < n
      → HasElementsForArray (struct_of (xs ++ array_of t n ∷ ys)) (struct_of (xs ++ (replicate n t ++ ys)))
  inside : (xs ys : List Tree) {t u : Tree} → HasElementsForArray t u
      → HasElementsForArray (struct_of (xs ++ t ∷ ys)) (struct_of (xs ++ u ∷ ys))
  inside_array : (n : ℕ) {t u : Tree} → HasElementsForArray t u → HasElementsForArray (array_of t n) (array_of u n)

-- equal types, or structs that differ in that alone
pub data AreAlikeButForArrays : Tree → Tree → Type 0 where
  no_difference : {t : Tree} → AreAlikeButForArrays t t
  elements_for_array : {ts us : Trees} → HasElementsForArray (structure ts) (structure us)
      → AreAlikeButForArrays (structure ts) (structure us)

-- two lists of types that differ in that alone, one by one
abbrev pub AllAlikeButForArrays : List Tree → List Tree → Type 0
AllAlikeButForArrays [] [] = ⊤
AllAlikeButForArrays (t ∷ ts) (u ∷ us) = AreAlikeButForArrays t u × AllAlikeButForArrays ts us
AllAlikeButForArrays _ _ = ⊥

-- two signatures whose types differ in that alone
pub record DifferInArrays (s r : Signature) : Type 0 where
  pub result_type : AreAlikeButForArrays s.result_type r.result_type
  pub arguments : AllAlikeButForArrays s.arguments r.arguments
  pub fixed : s.fixed ≡ r.fixed

-- AN ARRAY IN A STRUCT STANDS AS ITS ELEMENTS: signatures that differ in arrays alone have equal plans.
abbrev pub PlacesArraysAsElements : Standard → Type 0
PlacesArraysAsElements std =
    (s r : Signature) → DifferInArrays s r → plan_of std s ≡ plan_of std r
