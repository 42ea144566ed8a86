-- A calling standard: its registers, and where it places the arguments and the result of a signature; the bytes of stack that a call takes by it. (System V psABI AMD64 3.2.1 to 3.2.3; Arm AAPCS64, "The Base Procedure Call Standard"; RISC-V ELF psABI, "Procedure Calling Convention"; Microsoft, "x64 calling convention"; Apple, "Writing ARM64 code for Apple platforms". Save area, callee's block and order of copies in the frame are this library's.)
use Rattle.std.specs.Prelude.{ℕ, ◌+◌, ◌-◌, ◌*◌, List, [], ◌∷◌, Option, min, max}
use Rattle.std.specs.List.{sum_by}
use Rattle.ffi3_type_spec.specs.declared.Target.{Target}
use Rattle.ffi3_type_spec.specs.Tree.{Tree}
use Rattle.ffi3_type_spec.specs.Layout.{size_of, align_of, least_multiple}
use Rattle.ffi3_type_spec.specs.Signature.{Signature}
use Rattle.ffi3_place_spec.specs.declared.Loc.{Loc}
use Rattle.ffi3_place_spec.specs.declared.Ext.{Ext}
use Rattle.ffi3_place_spec.specs.declared.Piece.{Piece}
use Rattle.ffi3_place_spec.specs.declared.SaveWord.{SaveWord}
use Rattle.ffi3_place_spec.specs.declared.Place.{Place}
use Rattle.ffi3_place_spec.specs.declared.Place.TheVariants.{Direct, ByRef}
use Rattle.ffi3_place_spec.specs.declared.Res.{Res}
use Rattle.ffi3_place_spec.specs.declared.Res.TheVariants.{Nothing, Direct as DirectRes, Hidden}
use Rattle.ffi3_place_spec.specs.declared.Plan.{Plan}

-- where a standard places an argument: its bytes in pieces, or the address of the caller's copy
pub data Spot : Type 0 where
  in_pieces : List Piece → Spot
  by_reference : Loc → Spot

-- where a standard places a result: nowhere, in pieces, or in the caller's buffer, whose address is passed: a hidden result (sret)
pub data ResultSpot : Type 0 where
  no_result : ResultSpot
  in_result_pieces : List Piece → ResultSpot
  in_buffer : Loc → ResultSpot

-- what a standard says of one signature
pub record Placing : Type 0 where
  pub arguments : List Spot
  pub result_spot : ResultSpot
  -- the bytes of stack arguments
  pub stack_bytes : ℕ
  -- what the register `vector_count` tells; 0 where the standard has none
  pub vector_registers : ℕ

-- What a standard names of the machine of its target (`link`, `stack_pointer`, `reserved`, `link_register`, `trampoline_registers`) is what the machine has; `AgreesWithMachine` is that law.
pub record Standard : Type 0 where
  -- the target whose calls it places
  pub target : Target
  -- how many bytes of the stack the return address has at entry: 0 where it is in a register
  pub link : ℕ
  -- how many bytes the callee's save area has
  pub save : ℕ
  -- the register that holds the stack pointer
  pub stack_pointer : Loc
  -- the callee-saved registers: at the return they are what they were at the entry
  pub callee_saved : List Loc
  -- the registers that neither side of a call writes
  pub reserved : List Loc
  -- the register that holds the return address at entry, if there is one
  pub link_register : Option Loc
  -- the registers in which arguments and the address of a hidden result are passed
  pub argument_registers : List Loc
  -- the words of a callee's save area, from its lowest address
  pub save_area : List SaveWord
  -- the registers that a trampoline writes, that of the closure's address among them
  pub trampoline_registers : List Loc
  -- the register that tells at a call how many vector registers the arguments use, if there is one
  pub vector_count : Option Loc
  -- the register in which the address of a hidden result is returned, if there is one
  pub returned_address : Option Loc
  -- how a lone integer of fewer than eight bytes fills its place
  pub narrow : Ext
  -- how a float fills a floating register
  pub single : Ext
  -- where a copy or a buffer of a type begins, after the end of what stands before it in the frame
  pub copy_start : ℕ → Tree → ℕ
  -- where it places the arguments and the result of a signature
  pub placing : Signature → Placing

-- n, rounded up to a multiple of eight
abbrev pub round8 : ℕ → ℕ
round8 n = least_multiple 8 n

-- n, rounded up to a multiple of sixteen
abbrev pub round16 : ℕ → ℕ
round16 n = least_multiple 16 n

-- doubleword j of a value of n bytes, in its place
abbrev pub doubleword : Loc → ℕ → ℕ → Ext → Piece
doubleword at j n e = record { loc = at; off = 8 * j; len = min 8 (n - 8 * j); ext = e }

-- ---- where one thing begins after another

-- at the next multiple of the type's alignment, and of eight bytes at least
abbrev pub start : ℕ → Tree → ℕ
start end t = least_multiple (max 8 (align_of t)) end

-- ---- the frame of a call, the caller's outgoing argument area: stack arguments, then copies in the order of the arguments, then the buffer of a hidden result

-- an argument's place, where what stands before it in the frame ends at `end`
abbrev pub place_at : (ℕ → Tree → ℕ) → ℕ → Tree → Spot → Place
place_at begin end t (in_pieces pieces) = Direct pieces
place_at begin end t (by_reference at) = ByRef at (begin end t)

-- where its copy ends, if it has one
abbrev pub copy_end : (ℕ → Tree → ℕ) → ℕ → Tree → Spot → ℕ
copy_end begin end t (in_pieces pieces) = end
copy_end begin end t (by_reference at) = begin end t + round8 (size_of t)

-- all arguments' places
abbrev pub places_from : (ℕ → Tree → ℕ) → ℕ → List Tree → List Spot → List Place
places_from begin end (t ∷ ts) (s ∷ ss) =
    place_at begin end t s ∷ places_from begin (copy_end begin end t s) ts ss
places_from begin end _ _ = []

-- where the copies of all arguments end
abbrev pub copies_end : (ℕ → Tree → ℕ) → ℕ → List Tree → List Spot → ℕ
copies_end begin end (t ∷ ts) (s ∷ ss) = copies_end begin (copy_end begin end t s) ts ss
copies_end begin end _ _ = end

-- a result's place, where what stands before its buffer ends at `end`
abbrev pub result_at : (ℕ → Tree → ℕ) → ℕ → Tree → ResultSpot → Res
result_at begin end t no_result = Nothing
result_at begin end t (in_result_pieces pieces) = DirectRes pieces
result_at begin end t (in_buffer at) = Hidden at (begin end t)

-- where its buffer ends, if it has one
abbrev pub buffer_end : (ℕ → Tree → ℕ) → ℕ → Tree → ResultSpot → ℕ
buffer_end begin end t no_result = end
buffer_end begin end t (in_result_pieces pieces) = end
buffer_end begin end t (in_buffer at) = begin end t + round8 (size_of t)

-- copies stand behind the stack arguments, the buffer behind the copies
abbrev pub copies_start : Placing → ℕ
copies_start p = round16 p.stack_bytes

module _ (std : Standard) (s : Signature) where
  -- where the copies of all arguments end in the frame
  abbrev pub frame_copies_end : ℕ
  frame_copies_end =
      copies_end std.copy_start (copies_start (std.placing s)) s.arguments (std.placing s).arguments

  -- the bytes of a call's frame: up to the end of its copies and of the buffer of a hidden result, at a multiple of 16
  abbrev pub frame_of : ℕ
  frame_of =
      round16 (buffer_end std.copy_start frame_copies_end s.result_type (std.placing s).result_spot)

-- the callee's copy of its arguments
abbrev pub block_bytes : Signature → ℕ
block_bytes s = round16 (sum_by (λ t. round8 (size_of t)) s.arguments)

-- all the stack that a call takes, the callee's save area and block included
abbrev pub need_of : Standard → Signature → ℕ
need_of std s = frame_of std s + std.link + std.save + block_bytes s

-- and that calls of these signatures take together
abbrev pub needs_of : Standard → List Signature → ℕ
needs_of std [] = 0
needs_of std (s ∷ outer) = need_of std s + needs_of std outer

-- where everything stands in a call of a signature
abbrev pub plan_of : Standard → Signature → Plan
plan_of std s = record {
  places = places_from std.copy_start (copies_start (std.placing s)) s.arguments (std.placing s).arguments;
  res = result_at std.copy_start (frame_copies_end std s) s.result_type (std.placing s).result_spot;
  need = need_of std s;
  frame = frame_of std s;
  block = block_bytes s;
  vectors = (std.placing s).vector_registers;
}
