-- What the places of a signature keep, whatever the standard: no two share anything, none is a forbidden register, and they have the whole value. (No standard states these laws: each follows from its rules, and is proved of them.)
use Rattle.std.specs.Prelude.{◌≡◌, ◌≢◌, ℕ, zero, suc, ◌+◌, ◌/◌, ◌%◌, ◌<◌, ◌≤◌, ◌⊎◌, ⊤, Bool, true, false, ◌&&◌, nat_lt}
use Rattle.std.specs.Prelude.{List, [], ◌∷◌, ◌++◌, Option, Some, None}
use Rattle.std.specs.List.{AllByRecursion, Any, flat_map}
use Rattle.ffi3_type_spec.specs.Tree.{Tree, void, scalar}
use Rattle.ffi3_type_spec.specs.Layout.{Leaf, leaves_of, size_of, scalar_size}
use Rattle.ffi3_type_spec.specs.Integer.{is_integer}
use Rattle.ffi3_type_spec.specs.Signature.{Signature, HasNoLongDouble}
use Rattle.ffi3_type_spec.specs.Value.{ValueTree}
use Rattle.ffi3_type_spec.specs.declared.Isa.{Isa}
use Rattle.ffi3_type_spec.specs.TargetIsa.{isa_of}
use Rattle.ffi3_place_spec.specs.MachineRegisters.{general_registers, floating_registers, to_list, is_further, word_below}
use Rattle.ffi3_place_spec.specs.MachineRegisters.{further_arguments}
use Rattle.ffi3_place_spec.specs.declared.Loc.{Loc}
use Rattle.ffi3_place_spec.specs.declared.Loc.TheVariants.{G, F, S}
use Rattle.ffi3_place_spec.specs.declared.Ext.{Ext}
use Rattle.ffi3_place_spec.specs.declared.Ext.TheVariants.{Free, Widen, Riscv, Boxed}
use Rattle.ffi3_place_spec.specs.declared.Piece.{Piece}
use Rattle.ffi3_place_spec.specs.declared.Place.{Place}
use Rattle.ffi3_place_spec.specs.declared.Place.TheVariants.{Direct, ByRef}
use Rattle.ffi3_place_spec.specs.declared.Res.{Res}
use Rattle.ffi3_place_spec.specs.declared.Res.TheVariants.{Nothing, Direct as DirectRes, Hidden}
use Rattle.ffi3_place_spec.specs.declared.Plan.{Plan}
pub use Rattle.ffi3_place_spec.specs.Locs.{place_size, IsWhole, piece_locs, place_locs}
use Rattle.ffi3_place_spec.specs.Standard.{Standard, frame_of, need_of, plan_of}
use Rattle.ffi3_place_spec.specs.Image.{Image}
use Rattle.ffi3_place_spec.specs.Holds.{Carries, Own, OwnResult}

-- ---- places that share nothing

-- two places share no register and no byte of the stack
abbrev pub Apart : Loc → Loc → Type 0
Apart (G a) (G b) = a ≢ b
Apart (F a) (F b) = a ≢ b
Apart (S a v) (S b w) = (a + v ≤ b) ⊎ (b + w ≤ a)
Apart _ _ = ⊤

-- any two of the list are apart
abbrev pub AreApart : List Loc → Type 0
AreApart [] = ⊤
AreApart (l ∷ ls) = AllByRecursion (Apart l) ls × AreApart ls

-- the place is none of the list
abbrev pub IsNoneOf : List Loc → Loc → Type 0
IsNoneOf others l = AllByRecursion (Apart l) others

-- the register is one that the instruction set has; the place on the stack lies in so many bytes, and has one to eight
abbrev pub LiesIn : Isa → ℕ → Loc → Type 0
LiesIn isa stack (G r) = r < general_registers isa
LiesIn isa stack (F r) = r < floating_registers isa
LiesIn isa stack (S n w) = (n + w ≤ stack) × (0 < w) × (w ≤ 8)

-- a further word of the floating file, which the modelled machine has not
abbrev pub IsFurther : Isa → Loc → Type 0
IsFurther isa (F r) = is_further isa r ≡ true
IsFurther isa (G r) = ⊥
IsFurther isa (S n w) = ⊥

-- the same of a place that may be such a word
abbrev pub StandsIn : Isa → ℕ → Loc → Type 0
StandsIn isa stack l = LiesIn isa stack l ⊎ IsFurther isa l

-- the place is one of the list
abbrev pub IsOneOf : List Loc → Loc → Type 0
IsOneOf places l = Any (λ at. at ≡ l) places

-- ---- the places of a call

-- the place of a hidden result's address
abbrev pub hidden_locs : Res → List Loc
hidden_locs (Hidden at buffer) = at ∷ []
hidden_locs _ = []

-- the places of a result that is passed in registers
abbrev pub result_locs : Res → List Loc
result_locs (DirectRes pieces) = piece_locs pieces
result_locs _ = []

-- what carries the arguments: the hidden result's address, pieces and references
abbrev pub argument_locs : Plan → List Loc
argument_locs p = hidden_locs p.res ++ flat_map place_locs p.places

-- so many stack places of eight bytes from an offset on
abbrev pub stack_words : ℕ → ℕ → List Loc
stack_words at zero = []
stack_words at (suc n) = S at 8 ∷ stack_words (at + 8) n

-- as many of them as a value of this type takes
abbrev pub stack_words_for : ℕ → Tree → List Loc
stack_words_for at t = stack_words at ((size_of t + 7) / 8)

-- the copies of arguments by reference
abbrev pub copy_locs : List Tree → List Place → List Loc
copy_locs (t ∷ ts) (ByRef at copy ∷ ps) = stack_words_for copy t ++ copy_locs ts ps
copy_locs (t ∷ ts) (Direct pieces ∷ ps) = copy_locs ts ps
copy_locs _ _ = []

-- the buffer of a hidden result
abbrev pub buffer_locs : Tree → Res → List Loc
buffer_locs t (Hidden at buffer) = stack_words_for buffer t
buffer_locs t _ = []

-- all that a call's registers and frame carry: places, copies and buffer
abbrev pub call_locs : Signature → Plan → List Loc
call_locs s p = argument_locs p ++ (copy_locs s.arguments p.places ++ buffer_locs s.result_type p.res)

-- ---- registers that carry nothing

-- no result stands in these: the stack pointer, the callee-saved, the reserved and the link register
abbrev pub closed_to_results : Standard → List Loc
closed_to_results std = std.stack_pointer ∷ (std.callee_saved ++ (std.reserved ++ to_list std.link_register))

-- no argument stands in these or in those that a call itself needs
abbrev pub closed_to_arguments : Standard → List Loc
closed_to_arguments std = closed_to_results std ++ (std.trampoline_registers ++ to_list std.vector_count)

-- a place on the stack, or one of these registers
abbrev pub IsOnStackOrIn : List Loc → Loc → Type 0
IsOnStackOrIn registers (G r) = IsOneOf registers (G r)
IsOnStackOrIn registers (F r) = IsOneOf registers (F r)
IsOnStackOrIn registers (S n w) = ⊤

-- ---- pieces that have the whole value

-- each byte of the leaf stands in a piece
abbrev pub CoversLeaf : List Piece → Leaf → Type 0
CoversLeaf pieces l = (k : ℕ) → k < scalar_size l.kind → Any (Carries (l.at + k)) pieces

-- a lone integer of fewer than eight bytes
abbrev pub is_narrow_integer : Tree → Bool
is_narrow_integer (scalar s) = is_integer s && nat_lt (scalar_size s) 8
is_narrow_integer _ = false

-- a floating register
abbrev pub is_floating_place : Loc → Bool
is_floating_place (F r) = true
is_floating_place (G r) = false
is_floating_place (S n w) = false

-- What fills the rest of a place suits its piece: an extended one is a whole narrow integer in a place of eight bytes, a boxed one has four bytes in a floating register.
abbrev pub IsExtended : Tree → Piece → Ext → Type 0
IsExtended t p Free = ⊤
IsExtended t p Boxed = (is_floating_place p.loc ≡ true) × (p.len ≡ 4)
IsExtended t p Widen = (is_narrow_integer t ≡ true) × (p.off ≡ 0) × (p.len ≡ size_of t) × IsWhole p.loc
IsExtended t p Riscv = (is_narrow_integer t ≡ true) × (p.off ≡ 0) × (p.len ≡ size_of t) × IsWhole p.loc

-- the piece lies in a value of so many bytes, and has at most eight, and no more than its place
abbrev pub IsWithin : ℕ → Piece → Type 0
IsWithin size p = (p.len ≤ 8) × (p.off + p.len ≤ size) × (p.len ≤ place_size p.loc)

-- a piece has at most eight bytes, all of them of the value, and no more than its place
pub record IsPieceOf (t : Tree) (p : Piece) : Type 0 where
  pub short : p.len ≤ 8
  pub within : p.off + p.len ≤ size_of t
  pub fits : p.len ≤ place_size p.loc
  pub extended : IsExtended t p p.ext

-- The other way round: a lone narrow integer fills its place as the standard says, where that is wider, and so does a float in a floating register. A place of fewer than eight bytes has its piece's bytes and no others.
pub record IsFilled (std : Standard) (t : Tree) (p : Piece) : Type 0 where
  pub narrow : is_narrow_integer t ≡ true → p.len < place_size p.loc → p.ext ≡ std.narrow
  pub single : is_floating_place p.loc ≡ true → p.len ≡ 4 → p.ext ≡ std.single
  pub narrow_place : place_size p.loc < 8 → p.len ≡ place_size p.loc

-- each piece of an argument is filled so; the address of a copy is a whole word
abbrev pub PlaceIsFilled : Standard → Tree → Place → Type 0
PlaceIsFilled std t (Direct pieces) = AllByRecursion (IsFilled std t) pieces
PlaceIsFilled std t (ByRef at copy) = ⊤

-- the same of all arguments
abbrev pub PlacesAreFilled : Standard → List Tree → List Place → Type 0
PlacesAreFilled std [] [] = ⊤
PlacesAreFilled std (t ∷ ts) (p ∷ ps) = PlaceIsFilled std t p × PlacesAreFilled std ts ps
PlacesAreFilled std _ _ = ⊥

-- the same of a result
abbrev pub ResultIsFilled : Standard → Tree → Res → Type 0
ResultIsFilled std t (DirectRes pieces) = AllByRecursion (IsFilled std t) pieces
ResultIsFilled std t Nothing = ⊤
ResultIsFilled std t (Hidden at buffer) = ⊤

-- the pieces have every byte of every leaf
pub record HaveAll (t : Tree) (pieces : List Piece) : Type 0 where
  pub each : AllByRecursion (IsPieceOf t) pieces
  pub covered : AllByRecursion (CoversLeaf pieces) (leaves_of t)

-- an argument is in pieces that have all of it, or its address has a whole word
abbrev pub PlaceHasAll : Tree → Place → Type 0
PlaceHasAll t (Direct pieces) = HaveAll t pieces
PlaceHasAll t (ByRef at copy) = IsWhole at

-- one place for each argument, and it has all of it, or its copy's address
abbrev pub PlacesHaveAll : List Tree → List Place → Type 0
PlacesHaveAll [] [] = ⊤
PlacesHaveAll (t ∷ ts) (p ∷ ps) = PlaceHasAll t p × PlacesHaveAll ts ps
PlacesHaveAll _ _ = ⊥

-- a result without a place is Void
abbrev pub ResultHasAll : Tree → Res → Type 0
ResultHasAll t Nothing = t ≡ void
ResultHasAll t (DirectRes pieces) = HaveAll t pieces
ResultHasAll t (Hidden at buffer) = ⊤

-- ---- registers of which the modelled machine has a part

-- what a word of a register has stands right behind what the word below it has
abbrev pub StandsAbove : List Piece → Piece → Option ℕ → Type 0
StandsAbove pieces p (Some r) = Any (λ q. (q.loc ≡ F r) × (q.len ≡ 8) × (q.off + 8 ≡ p.off)) pieces
StandsAbove pieces p None = ⊤

-- the word of the same register below a place, if the place is an upper word
abbrev pub word_below_place : Isa → Loc → Option ℕ
word_below_place isa (F r) = word_below isa r
word_below_place isa (G r) = None
word_below_place isa (S n w) = None

-- no value has an upper word of a register whose lower one it has not
abbrev pub HaveLowerWords : Isa → List Piece → Type 0
HaveLowerWords isa pieces =
    AllByRecursion (λ p. StandsAbove pieces p (word_below_place isa p.loc)) pieces

-- the same of an argument
abbrev pub PlaceHasLowerWords : Isa → Place → Type 0
PlaceHasLowerWords isa (Direct pieces) = HaveLowerWords isa pieces
PlaceHasLowerWords isa (ByRef at copy) = ⊤

-- the same of a result
abbrev pub ResultHasLowerWords : Isa → Res → Type 0
ResultHasLowerWords isa (DirectRes pieces) = HaveLowerWords isa pieces
ResultHasLowerWords isa Nothing = ⊤
ResultHasLowerWords isa (Hidden at buffer) = ⊤

-- ---- pieces on the stack

-- where both stand on the stack, the second stands higher and has later bytes of the value
abbrev pub RisesTo : Piece → Piece → Type 0
RisesTo p q =
    (low v high w : ℕ) → p.loc ≡ S low v → q.loc ≡ S high w → (low + p.len ≤ high) × (p.off + p.len ≤ q.off)

-- each to every later one
abbrev pub AreRising : List Piece → Type 0
AreRising [] = ⊤
AreRising (p ∷ ps) = AllByRecursion (RisesTo p) ps × AreRising ps

-- the same of an argument
abbrev pub PlaceRises : Place → Type 0
PlaceRises (Direct pieces) = AreRising pieces
PlaceRises (ByRef at copy) = ⊤

-- ---- all of it

-- what is so of a signature that can be called on the modelled machine: each register is one that it has
pub record IsOnMachine (std : Standard) (s : Signature) : Type 0 where
  pub in_frame : AllByRecursion (LiesIn (isa_of std.target) (plan_of std s).frame) (call_locs s (plan_of std s))
  pub on_stack : AllByRecursion (LiesIn (isa_of std.target) (std.placing s).stack_bytes) (argument_locs (plan_of std s))
  -- what is passed in a register is passed in an argument register
  pub passed : AllByRecursion (IsOnStackOrIn std.argument_registers) (argument_locs (plan_of std s))
  pub result_in_registers : AllByRecursion (LiesIn (isa_of std.target) 0) (result_locs (plan_of std s).res)

-- THE PLACES OF A SIGNATURE ARE SOUND
pub record IsSound (std : Standard) (s : Signature) : Type 0 where
  -- no two places, copies and buffer included, share a register or a byte of the stack
  pub apart : AreApart (call_locs s (plan_of std s))
  pub in_frame : AllByRecursion (StandsIn (isa_of std.target) (plan_of std s).frame) (call_locs s (plan_of std s))
  pub on_stack :
      AllByRecursion (StandsIn (isa_of std.target) (std.placing s).stack_bytes) (argument_locs (plan_of std s))
  pub allowed : AllByRecursion (IsNoneOf (closed_to_arguments std)) (argument_locs (plan_of std s))
  -- what is passed in a register is passed in an argument register, or in the upper half of one
  pub passed :
      AllByRecursion
      (IsOnStackOrIn (std.argument_registers ++ further_arguments (isa_of std.target)))
      (argument_locs (plan_of std s))
  -- where a value has an upper word of a register, it has the lower one too
  pub lower_words : AllByRecursion (PlaceHasLowerWords (isa_of std.target)) (plan_of std s).places
  pub has_all : PlacesHaveAll s.arguments (plan_of std s).places
  -- the address of a hidden result has eight bytes
  pub address : AllByRecursion IsWhole (hidden_locs (plan_of std s).res)
  pub filled : PlacesAreFilled std s.arguments (plan_of std s).places
  -- the pieces of one argument that stand on the stack rise, each by its place and by its bytes
  pub rising : AllByRecursion PlaceRises (plan_of std s).places
  -- the result's are registers
  pub result_apart : AreApart (result_locs (plan_of std s).res)
  pub result_in_registers : AllByRecursion (StandsIn (isa_of std.target) 0) (result_locs (plan_of std s).res)
  pub result_lower_words : ResultHasLowerWords (isa_of std.target) (plan_of std s).res
  pub result_allowed : AllByRecursion (IsNoneOf (closed_to_results std)) (result_locs (plan_of std s).res)
  pub result_has_all : ResultHasAll s.result_type (plan_of std s).res
  pub result_filled : ResultIsFilled std s.result_type (plan_of std s).res
  -- a call keeps the stack pointer at multiples of 16 (psABI AMD64 3.2.2 "The Stack Frame"; AAPCS64, "The Stack", by which Apple's goes too; RISC-V ELF psABI, "Integer Calling Convention"; Microsoft, "x64 stack usage", "Stack allocation")
  pub frame_aligned : frame_of std s % 16 ≡ 0
  pub need_aligned : need_of std s % 16 ≡ 0
  -- without a long double of 16 bytes all of it is what the modelled machine has
  pub on_machine : HasNoLongDouble s → IsOnMachine std s

-- AN IMAGE THAT OWNS VALUES DETERMINES THEM
pub record IsDetermined (std : Standard) (s : Signature) : Type 0 where
  pub arguments : (v w : List ValueTree) (m : Image) → Own std s v m → Own std s w m → v ≡ w
  pub result_value : (v w : ValueTree) (m : Image) → OwnResult std s v m → OwnResult std s w m → v ≡ w
