-- The object that describes an image, by cases on the JSON value: what it is read as, or its first fault in the order of reading. Objects and signatures are read as those of a script in version 2 of its language.
use Rattle.std.specs.Prelude.{ℕ, ◌+◌, ◌==◌, List, [], ◌∷◌, cond, Option, Some, None, Result, Ok, Err, bytes_eq, codes}
use Rattle.std.specs.Int.{w64, from_be_bytes}
use Rattle.hex.specs.Hex.{decode_of, decode_sized}
use Rattle.hex.specs.declared.error.FromHexError.{FromHexError}
use Rattle.serde_json.specs.Data.{Data, Items, no_items, item}
use Rattle.serde_json.specs.Find.{as_str, as_array}
use Rattle.serde_json.specs.Events.{items_len}
use Rattle.ffi3_type_spec.specs.declared.Target.{Target}
use Rattle.ffi3_type_spec.specs.declared.Target.TheVariants.{Amd64, Aapcs64, Riscv, Win64, Apple}
use Rattle.ffi3_type_spec.specs.Signature.{Signature}
use Rattle.ffi3_place_spec.specs.Image.{Image}
use Rattle.ffi3_script_spec.specs.Language as language
use Rattle.ffi3_script_spec.specs.Language.{JsonPath, Key, required, under, at_item, value_under, not_an_array}
use Rattle.ffi3_script_spec.specs.Language.{wrong_count, bad_bytes}

-- ---- reasons

-- why the value at a place is no part of the object: a reason that scripts have too, or one of its own
pub data Reason : Type 0 where
  as_in_scripts : language.Reason → Reason
  unknown_target : Reason
  bad_number : Reason
  too_short : (there wanted : ℕ) → Reason

-- what a value is read as, or the place and reason of its first fault
pub data Read (A : Type 0) : Type 0 where
  read : A → Read A
  fault : JsonPath → Reason → Read A

-- first the one, and then the other, which may speak of what was read
abbrev pub and_then : {A B : Type 0} → (A → Read B) → Read A → Read B
and_then more (read a) = more a
and_then more (fault path reason) = fault path reason

abbrev pub read_map : {A B : Type 0} → (A → B) → Read A → Read B
read_map f (read a) = read (f a)
read_map f (fault path reason) = fault path reason

-- what a script reads
abbrev pub of_script : {A : Type 0} → language.Read A → Read A
of_script (language.read a) = read a
of_script (language.fault path reason) = fault path (as_in_scripts reason)

-- ---- targets

abbrev pub target_named : List ℕ → Option Target
target_named name =
    cond (bytes_eq (codes "amd64") name) (Some Amd64)
    (cond (bytes_eq (codes "aapcs64") name) (Some Aapcs64)
    (cond (bytes_eq (codes "riscv") name) (Some Riscv)
    (cond (bytes_eq (codes "win64") name) (Some Win64)
    (cond (bytes_eq (codes "apple") name) (Some Apple) None))))

abbrev pub target_or_fault : JsonPath → Option Target → Read Target
target_or_fault path (Some t) = read t
target_or_fault path None = fault path unknown_target

-- by the value's text, where it is one
abbrev pub read_target : Option (List ℕ) → JsonPath → Read Target
read_target (Some name) path = target_or_fault path (target_named name)
read_target None path = fault path unknown_target

-- ---- numbers of 64 bits

abbrev pub word_or_fault : JsonPath → Result (List ℕ) FromHexError → Read ℕ
word_or_fault path (Ok bytes) = read (from_be_bytes w64 bytes)
word_or_fault path (Err e) = fault path bad_number

-- a text of 16 hexadecimal digits, the highest first, in either case
abbrev pub read_word : Option (List ℕ) → JsonPath → Read ℕ
read_word (Some text) path = word_or_fault path (decode_sized text 8)
read_word None path = fault path bad_number

-- each of the items from number i on, from the left
abbrev pub read_words : Items → JsonPath → (i : ℕ) → Read (List ℕ)
read_words no_items path i = read []
read_words (item d ds) path i =
    and_then (λ w. read_map (λ ws. w ∷ ws) (read_words ds path (i + 1))) (read_word (as_str d) (at_item path i))

-- the 32 registers of a kind, by number: an array, of so many items, each a number
abbrev pub read_registers : Option Items → JsonPath → Read (List ℕ)
read_registers (Some ds) path =
    cond (items_len ds == 32) (read_words ds path 0) (fault path (as_in_scripts wrong_count))
read_registers None path = fault path (as_in_scripts not_an_array)

-- ---- bytes

abbrev pub bytes_or_fault : JsonPath → Result (List ℕ) FromHexError → Read (List ℕ)
bytes_or_fault path (Ok bytes) = read bytes
bytes_or_fault path (Err e) = fault path (as_in_scripts bad_bytes)

-- a text of two hexadecimal digits for each byte, in either case
abbrev pub read_bytes : Option (List ℕ) → JsonPath → Read (List ℕ)
read_bytes (Some text) path = bytes_or_fault path (decode_of text)
read_bytes None path = fault path (as_in_scripts bad_bytes)

-- ---- the object

-- registers and stack of a machine at an entry, its target, and the signature of what is called
pub record Snapshot : Type 0 where
  pub target : Target
  pub signature : Signature
  pub image : Image

abbrev pub snapshot_keys : List Key
snapshot_keys =
    required (codes "target") ∷ required (codes "sig") ∷ required (codes "sp") ∷ required (codes "general")
    ∷ required (codes "floating") ∷ required (codes "stack") ∷ []

abbrev pub root : JsonPath
root = []

-- what stands under a key: its text, or its items
abbrev pub text_under : List ℕ → Data → Option (List ℕ)
text_under name d = as_str (value_under name d)

abbrev pub items_under : List ℕ → Data → Option Items
items_under name d = as_array (value_under name d)

-- the stack pointer, the registers, and the bytes of the stack from the stack pointer on
abbrev pub read_image : Data → Read Image
read_image d =
    and_then
    (λ sp. and_then
    (λ general. and_then
    (λ floating. read_map
    (λ stack. record { general = general; floating = floating; sp = sp; stack = stack })
    (read_bytes (text_under (codes "stack") d) (under root (codes "stack"))))
    (read_registers (items_under (codes "floating") d) (under root (codes "floating"))))
    (read_registers (items_under (codes "general") d) (under root (codes "general"))))
    (read_word (text_under (codes "sp") d) (under root (codes "sp")))

-- the version of the script language in which signatures are read
abbrev pub signature_version : ℕ
signature_version = 2

-- WHAT THE OBJECT IS READ AS: its keys, its target, its signature, its image
abbrev pub read_snapshot : Data → Read Snapshot
read_snapshot d =
    and_then
    (λ checked. and_then
    (λ target. and_then
    (λ signature. read_map
    (λ image. record { target = target; signature = signature; image = image })
    (read_image d))
    (of_script (language.read_signature signature_version (value_under (codes "sig") d) (under root (codes "sig")))))
    (read_target (text_under (codes "target") d) (under root (codes "target"))))
    (of_script (language.check_object d snapshot_keys root))
