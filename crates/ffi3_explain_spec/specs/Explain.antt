-- What an image at an entry is explained as: the values that it holds, or the first place that holds another number than a call with the values that are read puts there. (System V psABI AMD64 3.2.3; Arm AAPCS64, "Parameter Passing"; RISC-V ELF psABI, "Integer Calling Convention" and "Hardware Floating-point Calling Convention"; Microsoft, "x64 calling convention"; Apple, "Writing ARM64 code for Apple platforms")
use Rattle.std.specs.Prelude.{ℕ, zero, suc, ◌+◌, ◌-◌, ◌*◌, ◌%◌, ◌^◌, Bool, false, cond, ◌&&◌, ◌||◌, ◌==◌, nat_le}
use Rattle.std.specs.Prelude.{nat_lt, List, [], ◌∷◌, ◌++◌, take, drop, Option, Some, None}
use Rattle.std.specs.Int.{w64, from_le_bytes}
use Rattle.ffi3_type_spec.specs.Tree.{Tree, scalar}
use Rattle.ffi3_type_spec.specs.Layout.{Leaf, leaves_of, size_of, scalar_size}
use Rattle.ffi3_type_spec.specs.Signature.{Signature}
use Rattle.ffi3_type_spec.specs.Value.{ValueTree, leaf_value, value_in}
use Rattle.ffi3_type_spec.specs.Integer.{widened, widened_from_32}
use Rattle.ffi3_place_spec.specs.declared.Loc.{Loc}
use Rattle.ffi3_place_spec.specs.declared.Ext.{Ext}
use Rattle.ffi3_place_spec.specs.declared.Ext.TheVariants.{Free, Widen, Riscv, Boxed}
use Rattle.ffi3_place_spec.specs.declared.Piece.{Piece}
use Rattle.ffi3_place_spec.specs.declared.Place.{Place}
use Rattle.ffi3_place_spec.specs.declared.Place.TheVariants.{Direct, ByRef}
use Rattle.ffi3_place_spec.specs.declared.Res.{Res}
use Rattle.ffi3_place_spec.specs.declared.Res.TheVariants.{Hidden as HiddenRes}
use Rattle.ffi3_place_spec.specs.Image.{Image, byte_at, word_at, register}
use Rattle.ffi3_place_spec.specs.Locs.{place_size}
use Rattle.ffi3_place_spec.specs.Standard.{Standard, plan_of}
use Rattle.ffi3_explain_spec.specs.declared.Part.{Part}
use Rattle.ffi3_explain_spec.specs.declared.Part.TheVariants.{Arg, Hidden, Count}
use Rattle.ffi3_explain_spec.specs.declared.Check.{Check}

-- ---- a value in pieces: the first piece that has a byte says what it is

abbrev pub carries : ℕ → Piece → Bool
carries o p = nat_le p.off o && nat_lt o (p.off + p.len)

-- byte o of the value
abbrev pub first_byte : Image → ℕ → List Piece → ℕ → ℕ
first_byte m base [] o = 0
first_byte m base (p ∷ ps) o =
    cond (carries o p) (byte_at m base p.loc (o - p.off)) (first_byte m base ps o)

-- n bytes of it from byte o on
abbrev pub first_bytes : Image → ℕ → List Piece → ℕ → ℕ → List ℕ
first_bytes m base ps o zero = []
first_bytes m base ps o (suc n) =
    first_byte m base ps o ∷ first_bytes m base ps (suc o) n

abbrev pub value_in_pieces : Image → ℕ → Tree → List Piece → ValueTree
value_in_pieces m base t ps = value_in t (first_bytes m base ps 0 (size_of t))

-- ---- what a piece's place holds where the value is held

-- byte o of a value lies in one of its leaves
abbrev pub in_leaf : List Leaf → ℕ → Bool
in_leaf [] o = false
in_leaf (l ∷ ls) o =
    (nat_le l.at o && nat_lt o (l.at + scalar_size l.kind)) || in_leaf ls o

-- byte k of the place as it is found, and 0 behind its end
abbrev pub place_byte : Image → ℕ → Loc → ℕ → ℕ
place_byte m base at k = cond (nat_lt k (place_size at)) (byte_at m base at k) 0

-- byte k of the place: a leaf's byte is the value's, and any other is as it is found
abbrev pub wanted_byte : Image → ℕ → Tree → List Piece → Piece → ℕ → ℕ
wanted_byte m base t all p k =
    cond (nat_lt k p.len && in_leaf (leaves_of t) (p.off + k))
    (first_byte m base all (p.off + k))
    (place_byte m base p.loc k)

abbrev pub eight : (ℕ → ℕ) → List ℕ
eight f = f 0 ∷ f 1 ∷ f 2 ∷ f 3 ∷ f 4 ∷ f 5 ∷ f 6 ∷ f 7 ∷ []

abbrev pub wanted_word : Image → ℕ → Tree → List Piece → Piece → ℕ
wanted_word m base t all p = from_le_bytes w64 (eight (wanted_byte m base t all p))

-- the word with the rest of the place filled as the standard says: a lone integer extended, a float in a wider register below ones
abbrev pub extended : Ext → Tree → ValueTree → ℕ → ℕ
extended Free t v word = word
extended Boxed t v word = (2 ^ 32 - 1) * 2 ^ 32 + word % 2 ^ 32
extended Widen (scalar s) (leaf_value bytes) word = widened s bytes
extended Widen _ _ word = word
extended Riscv (scalar s) (leaf_value bytes) word = widened_from_32 s bytes
extended Riscv _ _ word = word

abbrev pub wanted : Image → ℕ → Tree → List Piece → Piece → ℕ
wanted m base t all p =
    extended p.ext t (value_in_pieces m base t all) (wanted_word m base t all p)

-- ---- the places of a call, in order

abbrev pub check_of_piece : Image → ℕ → ℕ → Tree → List Piece → Piece → Check
check_of_piece m base i t all p =
    record { part = Arg i; place = p.loc; found = word_at m base p.loc; wants = wanted m base t all p }

abbrev pub checks_of_pieces : Image → ℕ → ℕ → Tree → List Piece → List Piece → List Check
checks_of_pieces m base i t all [] = []
checks_of_pieces m base i t all (p ∷ ps) =
    check_of_piece m base i t all p ∷ checks_of_pieces m base i t all ps

-- the place holds the address of the bytes so far from the frame's start
abbrev pub check_of_address : Image → ℕ → Part → Loc → ℕ → Check
check_of_address m base part at offset =
    record { part = part; place = at; found = word_at m base at; wants = m.sp + base + offset }

abbrev pub checks_of_place : Image → ℕ → ℕ → Tree → Place → List Check
checks_of_place m base i t (Direct pieces) = checks_of_pieces m base i t pieces pieces
checks_of_place m base i t (ByRef at copy) = check_of_address m base (Arg i) at copy ∷ []

-- those of the arguments from number i on
abbrev pub checks_of_arguments : Image → ℕ → ℕ → List Tree → List Place → List Check
checks_of_arguments m base i (t ∷ ts) (p ∷ ps) =
    checks_of_place m base i t p ++ checks_of_arguments m base (suc i) ts ps
checks_of_arguments m base i _ _ = []

abbrev pub checks_of_hidden : Image → ℕ → Res → List Check
checks_of_hidden m base (HiddenRes at buffer) = check_of_address m base Hidden at buffer ∷ []
checks_of_hidden m base _ = []

abbrev pub checks_of_count : Image → Option Loc → ℕ → List Check
checks_of_count m (Some at) n =
    record { part = Count; place = at; found = register m at; wants = n } ∷ []
checks_of_count m None n = []

-- arguments from the left, then the hidden result's address, then the number of vector registers
abbrev pub checks : Standard → Signature → Image → List Check
checks std s m =
    checks_of_arguments m std.link 0 s.arguments (plan_of std s).places
    ++ (checks_of_hidden m std.link (plan_of std s).res ++ checks_of_count m std.vector_count (plan_of std s).vectors)

-- ---- the explanation

abbrev pub value_at_place : Image → ℕ → Tree → Place → ValueTree
value_at_place m base t (Direct pieces) = value_in_pieces m base t pieces
value_at_place m base t (ByRef at copy) = value_in t (take (size_of t) (drop (base + copy) m.stack))

abbrev pub values_at_places : Image → ℕ → List Tree → List Place → List ValueTree
values_at_places m base (t ∷ ts) (p ∷ ps) =
    value_at_place m base t p ∷ values_at_places m base ts ps
values_at_places m base _ _ = []

-- the first place that holds something else
abbrev pub first_broken : List Check → Option Check
first_broken [] = None
first_broken (c ∷ cs) = cond (c.found == c.wants) (first_broken cs) (Some c)

pub data Explanation : Type 0 where
  holds_values : List ValueTree → Explanation
  is_broken_at : Check → Explanation

abbrev pub explained_by : List ValueTree → Option Check → Explanation
explained_by vs None = holds_values vs
explained_by vs (Some c) = is_broken_at c

-- WHAT THE IMAGE IS EXPLAINED AS
abbrev pub explained : Standard → Signature → Image → Explanation
explained std s m =
    explained_by (values_at_places m std.link s.arguments (plan_of std s).places) (first_broken (checks std s m))
