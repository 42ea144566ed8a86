-- Natives that are handed in, and how their signatures are numbered.
use Rattle.std.specs.Prelude.{ℕ, ◌+◌, ◌^◌, ◌<◌, ⊤, List, map, length, take}
use Rattle.ffi3_type_spec.specs.Signature.{Signature}
use Rattle.ffi3_semantics_spec.specs.Move.{Behaviour, Move, call, make, free, print, return}
use Rattle.ffi3_semantics_spec.specs.Meaning.{Native, all_signatures}
use Rattle.ffi3_script_spec.specs.Natives.{NamedNative}

-- a native that is handed in: its name, what it does, and its signatures
abbrev pub handed_in : List ℕ → Behaviour → List Signature → NamedNative
handed_in name behaviour signatures =
    record { name = name; native = record { behaviour = behaviour; signatures = signatures } }

-- THE NATIVES THAT BOXES ARE, where these tell of each its name, what it does, and its signatures: of a list of boxes a
-- clause says `handed title meaning signatures`, by the members of their trait
abbrev pub handed : {A : Type 0} → (A → List ℕ) → (A → Behaviour) → (A → List Signature) → List A → List NamedNative
handed title meaning signatures bs = map (λ b. handed_in (title b) (meaning b) (signatures b)) bs

-- what they do
abbrev pub natives_in : List NamedNative → List Native
natives_in ns = map (λ n. n.native) ns

-- all their signatures, in the order of their numbers
abbrev pub signatures_in : List NamedNative → List Signature
signatures_in ns = all_signatures (natives_in ns)

-- there are fewer than 2^31 of them, and of their signatures in all
abbrev pub AreFew : {A : Type 0} → (A → List ℕ) → (A → Behaviour) → (A → List Signature) → List A → Type 0
AreFew title meaning signatures bs =
    (length bs < 2 ^ 31) × (length (signatures_in (handed title meaning signatures bs)) < 2 ^ 31)

-- how many signatures stand before those of native j
abbrev pub signatures_before : List Native → ℕ → ℕ
signatures_before ns j = length (all_signatures (take j ns))

-- a move's numbers have room, where a native's signatures begin at `first` and it is function `own`
abbrev pub HasRoom : (first own : ℕ) → Move → Type 0
HasRoom first own (call ptr sig args) = first + sig < 2 ^ 32
HasRoom first own (make func user) = own + func < 2 ^ 32
HasRoom first own (free ptr) = ⊤
HasRoom first own (print t v) = ⊤
HasRoom first own (return v) = ⊤
