-- The token that each Rust token stands for.
use Rattle.std.specs.Prelude.{Option, Some, None, Bool, true, false}
use Rattle.ffi3_cdecl_spec.specs.Tokens as cut
use Rattle.ffi3_type_spec.specs.Tree as types
use Rattle.ffi3_cdecl.specs.declared.token.Dialect.{Dialect}
use Rattle.ffi3_cdecl.specs.declared.token.Dialect.TheVariants.{Plain, Wide}
use Rattle.ffi3_cdecl.specs.declared.token.TypeWord.{TypeWord}
use Rattle.ffi3_cdecl.specs.declared.token.TypeWord.TheVariants as w
use Rattle.ffi3_cdecl.specs.declared.token.Sign.{Sign}
use Rattle.ffi3_cdecl.specs.declared.token.Sign.TheVariants.{Signed, Unsigned}
use Rattle.ffi3_cdecl.specs.declared.token.Token.{Token}
use Rattle.ffi3_cdecl.specs.declared.token.Token.TheVariants as t
use Rattle.ffi3_cdecl.specs.declared.token.Found.{Found}
use Rattle.ffi3_cdecl.specs.declared.token.Found.TheVariants as f

abbrev pub dialect_of : Dialect → cut.Dialect
dialect_of Plain = cut.plain
dialect_of Wide = cut.wide

abbrev pub scalar_of : TypeWord → types.Scalar
scalar_of w.U8 = types.u8
scalar_of w.S8 = types.s8
scalar_of w.U16 = types.u16
scalar_of w.S16 = types.s16
scalar_of w.U32 = types.u32
scalar_of w.S32 = types.s32
scalar_of w.U64 = types.u64
scalar_of w.S64 = types.s64
scalar_of w.Float = types.float
scalar_of w.Double = types.double

abbrev pub sign_of : Sign → cut.Sign
sign_of Signed = cut.signed
sign_of Unsigned = cut.unsigned

abbrev pub token_of : Token → cut.Token
token_of (t.Type s) = cut.type_word (scalar_of s)
token_of (t.Sign g) = cut.sign_word (sign_of g)
token_of t.Const = cut.const_word
token_of t.Short = cut.short_word
token_of t.Int = cut.int_word
token_of t.Long = cut.long_word
token_of t.Int128 = cut.int128_word
token_of (t.Char c) = cut.char_word (sign_of c)
token_of t.Void = cut.void_word
token_of t.Struct = cut.struct_word
token_of t.Union = cut.union_word
token_of t.Enum = cut.enum_word
token_of t.Complex = cut.complex_word
token_of t.Attribute = cut.attribute_word
token_of t.Keyword = cut.other_keyword
token_of (t.Name bytes) = cut.name bytes.now
token_of (t.Number n) = cut.number n
token_of t.OpenRound = cut.open_round
token_of t.CloseRound = cut.close_round
token_of t.OpenCurly = cut.open_curly
token_of t.CloseCurly = cut.close_curly
token_of t.OpenSquare = cut.open_square
token_of t.CloseSquare = cut.close_square
token_of t.Comma = cut.comma
token_of t.Semicolon = cut.semicolon
token_of t.Star = cut.star
token_of t.Dots = cut.dots

-- what a mark is found as, if there is one
abbrev pub mark_of : Option Token → cut.Found
mark_of (Some x) = cut.found (token_of x) 0
mark_of None = cut.nothing_known

abbrev pub found_of : Found → cut.Found
found_of f.Blank = cut.blank
found_of (f.Skipped more) = cut.skipped more
found_of f.Nothing = cut.nothing_known
found_of (f.Token x more) = cut.found (token_of x) more

-- which mark it is
abbrev pub is_close_round : cut.Token → Bool
is_close_round cut.close_round = true
is_close_round x = false

abbrev pub is_close_square : cut.Token → Bool
is_close_square cut.close_square = true
is_close_square x = false

abbrev pub is_semicolon : cut.Token → Bool
is_semicolon cut.semicolon = true
is_semicolon x = false
