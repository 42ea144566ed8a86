-- The words of a type, and what they mean, that the Rust ones stand for.
use Rattle.std.specs.Prelude.{Option, Some, None, option_map}
use Rattle.ffi3_cdecl_spec.specs.Tokens as cut
use Rattle.ffi3_cdecl_spec.specs.Grammar as grammar
use Rattle.ffi3_cdecl_spec.specs.Machine as machine
use Rattle.ffi3_types.specs.TreeOf.{tree_of}
use Rattle.ffi3_cdecl.specs.TokenOf.{sign_of}
use Rattle.ffi3_cdecl.specs.declared.token.Sign.{Sign}
use Rattle.ffi3_cdecl.specs.declared.said.Size.{Size}
use Rattle.ffi3_cdecl.specs.declared.said.Size.TheVariants.{No, Short, Long, LongLong}
use Rattle.ffi3_cdecl.specs.declared.said.Said.{Said}
use Rattle.ffi3_cdecl.specs.declared.said.Said.TheVariants.{Integer, Character, Of128Bits, Float, Double, Complex}
use Rattle.ffi3_cdecl.specs.declared.said.Kind.{Kind}
use Rattle.ffi3_cdecl.specs.declared.said.Kind.TheVariants.{Whole, Bare, Nothing}

abbrev pub sign_or_not : Option Sign → Option cut.Sign
sign_or_not g = option_map sign_of g

abbrev pub size_of : Size → machine.Size
size_of No = machine.of_no_size
size_of Short = machine.said_short
size_of Long = machine.said_long
size_of LongLong = machine.said_long_long

abbrev pub said_of : Said → machine.Said
said_of (Integer g z i) = machine.an_integer (sign_or_not g) (size_of z) i
said_of (Character c g) = machine.a_character (sign_of c) (sign_or_not g)
said_of (Of128Bits g) = machine.of_128_bits (sign_or_not g)
said_of (Float c) = machine.a_float c
said_of (Double l c) = machine.a_double l c
said_of (Complex l) = machine.a_complex l

abbrev pub said_or_not : Option Said → Option machine.Said
said_or_not s = option_map said_of s

abbrev pub kind_of : Kind → grammar.Kind
kind_of (Whole t) = grammar.whole (tree_of t)
kind_of Bare = grammar.bare
kind_of Nothing = grammar.nothing

abbrev pub kind_or_not : Option Kind → Option grammar.Kind
kind_or_not k = option_map kind_of k

-- the sign that is meant: without one, an integer is signed
abbrev pub sign_said : Option cut.Sign → cut.Sign
sign_said None = cut.signed
sign_said (Some g) = g

-- that of a `char`, where the machine's is given
abbrev pub sign_by : cut.Sign → Option cut.Sign → cut.Sign
sign_by c None = c
sign_by c (Some g) = g
