-- The words in which a fault at a place of a text is told: what stands there, and why it does not fit or what could have stood there; and the line of the text with a mark below the place.
use Rattle.std.specs.Prelude.{ℕ, zero, suc, min, Bool, cond, not, ◌&&◌, ◌==◌, nat_le, List, [], ◌∷◌, ◌++◌, length, map}
use Rattle.std.specs.Prelude.{take, drop, codes, bytes_eq, Option, Some, None}
use Rattle.ffi3_cdecl_spec.specs.Tokens.{is_blank, front}
use Rattle.ffi3_cdecl_spec.specs.Expected.{Expected, a_type, a_name, a_number, closing_round, a_comma, a_semicolon}
use Rattle.ffi3_cdecl_spec.specs.Expected.{the_end, a_star, closing_square, closing_curly, opening_curly}
use Rattle.ffi3_cdecl_spec.specs.Expected.{opening_round, opening_square, the_dots, a_word}
use Rattle.ffi3_cdecl_spec.specs.Reasons.{Base, a_struct_of, a_union_of, an_enum_of, a_type_named, Reason}
use Rattle.ffi3_cdecl_spec.specs.Reasons.{an_attribute, a_keyword, by_value, Told}

-- ---- what stands there

-- a byte that is no printable character of ASCII is shown as a blank
abbrev pub printable : ℕ → ℕ
printable b = cond (nat_le 32 b && nat_le b 126) b 32

-- so many bytes of a token are told at most
abbrev pub MOST_SHOWN : ℕ
MOST_SHOWN = 40

-- a token of so many bytes at the front of these, or the end
abbrev pub stood_words : ℕ → List ℕ → List ℕ
stood_words zero bs = codes "end"
stood_words (suc n) bs =
    codes "'" ++ (map printable (take (min (suc n) MOST_SHOWN) bs) ++ codes "'")

-- ---- what could have

abbrev pub kind_words : Expected → List ℕ
kind_words a_type = codes "a type"
kind_words a_name = codes "a name"
kind_words a_number = codes "a number"
kind_words closing_round = codes "')'"
kind_words a_comma = codes "','"
kind_words a_semicolon = codes "';'"
kind_words the_end = codes "the end"
kind_words a_star = codes "'*'"
kind_words closing_square = codes "']'"
kind_words closing_curly = codes "'}'"
kind_words opening_curly = codes "'{'"
kind_words opening_round = codes "'('"
kind_words opening_square = codes "'['"
kind_words the_dots = codes "'...'"
kind_words a_word = codes "a further word of the type"

-- what stands between a kind and so many others
abbrev pub between : ℕ → List ℕ
between zero = []
between (suc zero) = codes " or "
between (suc (suc n)) = codes ", "

-- "a, b or c"
abbrev pub one_of : List Expected → List ℕ
one_of [] = []
one_of (k ∷ ks) = kind_words k ++ (between (length ks) ++ one_of ks)

abbrev pub expected_words : List Expected → List ℕ
expected_words [] = []
expected_words (k ∷ ks) = codes ", expected " ++ one_of (k ∷ ks)

-- ---- why it does not fit

-- a type by its name alone: what to write in its place
abbrev pub named_words : List ℕ → List ℕ
named_words called =
    cond (bytes_eq called (codes "wchar_t"))
    (codes "wchar_t is another type on each machine: write int, unsigned int or unsigned short")
    (called ++ codes " is no type that is known here: write the type that it stands for, or a pointer")

abbrev pub base_words : Base → List ℕ
base_words (a_struct_of tag) =
    codes "struct " ++ (tag ++ codes " has no members here: write them behind the tag, in { }, or a pointer")
base_words (a_union_of tag) =
    codes "union " ++ (tag ++ codes " by value is not read")
base_words (an_enum_of tag) =
    codes "enum " ++ (tag ++ codes " is the type that its compiler chose: write int or unsigned int")
base_words (a_type_named called) = named_words called

abbrev pub reason_words : Reason → List ℕ
reason_words an_attribute = codes "an attribute that may change how a value is passed"
reason_words a_keyword = codes "a keyword that is not read here"
reason_words (by_value b) = base_words b

-- the reason, where a word tells it, or what could have stood there
abbrev pub why_words : Option Reason → List Expected → List ℕ
why_words None kinds = expected_words kinds
why_words (Some why) kinds = codes ": " ++ reason_words why

-- THE WORDS OF AN UNEXPECTED PLACE, of which this is told
abbrev pub told_words : List ℕ → ℕ → Told → List ℕ
told_words text at t =
    codes "unexpected " ++ (stood_words t.taken (drop at text) ++ why_words t.reason t.expected)

-- ---- the line of the text

abbrev pub goes_on_line : ℕ → Bool
goes_on_line b = not (b == 10)

-- what stands behind the last newline, behind what is in the line already
abbrev pub last_line : List ℕ → List ℕ → List ℕ
last_line line [] = line
last_line line (b ∷ bs) =
    last_line (cond (goes_on_line b) (line ++ b ∷ []) []) bs

-- how many bytes stand before the blanks at the end of a text
abbrev pub without_end : List ℕ → ℕ
without_end [] = 0
without_end (b ∷ bs) =
    cond (is_blank b && (without_end bs == 0)) 0 (suc (without_end bs))

-- The place that is marked: the offset; or, where only blanks stand before the end, behind what stands before them.
abbrev pub marked_at : List ℕ → ℕ → ℕ
marked_at text at = min at (without_end text)

-- bytes of UTF-8 that begin no character (RFC 3629, section 3)
abbrev pub goes_on_character : ℕ → Bool
goes_on_character b = nat_le 128 b && nat_le b 191

-- a blank below each character
abbrev pub blanks_below : List ℕ → List ℕ
blanks_below [] = []
blanks_below (b ∷ bs) =
    cond (goes_on_character b) (blanks_below bs) (32 ∷ blanks_below bs)

-- a control character of ASCII is shown as a blank
abbrev pub shown : ℕ → ℕ
shown b = cond (nat_le 32 b && not (b == 127)) b 32

-- of a line what stands before a place, and the text from the place on
abbrev pub marked_lines : List ℕ → List ℕ → List ℕ
marked_lines before behind =
    map shown before ++ (map shown (front goes_on_line behind) ++ (10 ∷ (blanks_below before ++ (94 ∷ 10 ∷ []))))

-- THE LINE OF A TEXT that has a place, and below it a line with a "^" at the place
abbrev pub lines_at : List ℕ → ℕ → List ℕ
lines_at text at =
    marked_lines (last_line [] (take (marked_at text at) text)) (drop (marked_at text at) text)
