-- An activation of a function: its arguments as they stand in the callee's block, its user data, and the results of its moves so far. (libffi manual, "The Closure API")
use Rattle.std.specs.Prelude.{ℕ, List, [], ◌∷◌, take, drop, refl}
use Rattle.std.specs.List.{sum_by}
use Rattle.std.specs.Coded.{Coded, code_by, coded×, coded_list, coded_ℕ}
use Rattle.ffi3_type_spec.specs.Tree.{Tree, tree_at}
use Rattle.ffi3_type_spec.specs.Layout.{size_of}
use Rattle.ffi3_type_spec.specs.Signature.{Signature, signature_code}
use Rattle.ffi3_type_spec.specs.Value.{ValueTree, value_in, part, value_list_code}
use Rattle.ffi3_place_spec.specs.Standard.{round8}

pub record SeenActivation : Type 0 where
  pub signature : Signature
  -- the callee's copy of its arguments
  pub block : List ℕ
  pub user : ℕ
  -- one for each move done: a call's result, a make's pointer, void after a free or a print
  pub results : List ValueTree

abbrev pub activation_code : Coded SeenActivation
activation_code =
    code_by
    (Signature × (List ℕ × (ℕ × List ValueTree)))
    (coded× signature_code (coded× (coded_list coded_ℕ) (coded× coded_ℕ value_list_code)))
    (λ a. (a.signature, (a.block, (a.user, a.results))))
    (λ p. record { signature = p.0; block = p.1.0; user = p.1.1.0; results = p.1.1.1 })
    (λ _. refl)

-- where argument i stands in the block: behind the arguments before it, each in whole doublewords
abbrev pub block_offset : List Tree → ℕ → ℕ
block_offset ts i = sum_by (λ t. round8 (size_of t)) (take i ts)

-- the bytes of argument i
abbrev pub argument_bytes : SeenActivation → ℕ → List ℕ
argument_bytes a i =
    part a.block (block_offset a.signature.arguments i) (size_of (tree_at a.signature.arguments i))

-- the values of arguments that stand in a block one behind the other, each in whole doublewords
abbrev pub arguments_in : List Tree → List ℕ → List ValueTree
arguments_in [] block = []
arguments_in (t ∷ ts) block =
    value_in t (take (size_of t) block) ∷ arguments_in ts (drop (round8 (size_of t)) block)

abbrev pub arguments_of : SeenActivation → List ValueTree
arguments_of a = arguments_in a.signature.arguments a.block
