-- A pushdown machine that reads declarations token by token; it need not be believed, since that it accepts exactly what the grammar has is proved.
use Rattle.std.specs.Prelude.{◌≡◌, ℕ, zero, suc, ◌+◌, Bool, true, false}
use Rattle.std.specs.Prelude.{cond, List, [], ◌∷◌, length, Option, Some, None, ltb}
use Rattle.ffi3_type_spec.specs.Tree.{Scalar, float, double, s32, s128, Tree, void, scalar, struct_of}
use Rattle.ffi3_type_spec.specs.Tree.{array_of}
use Rattle.ffi3_cdecl_spec.specs.Tokens.{Dialect, plain, wide, Token, Sign, signed, type_word, sign_word, const_word}
use Rattle.ffi3_cdecl_spec.specs.Tokens.{short_word, int_word, long_word, int128_word, char_word, void_word}
use Rattle.ffi3_cdecl_spec.specs.Tokens.{struct_word, union_word, enum_word, complex_word, name, number}
use Rattle.ffi3_cdecl_spec.specs.Tokens.{open_round, close_round, open_curly, close_curly, open_square, close_square}
use Rattle.ffi3_cdecl_spec.specs.Tokens.{comma, semicolon, star, dots, Placed, Cut, tokens, bad_at, cut_in}
use Rattle.ffi3_cdecl_spec.specs.Grammar.{Kind, whole, bare, nothing, MOST_OPEN, pointer_type, char_of, short_of}
use Rattle.ffi3_cdecl_spec.specs.Grammar.{int_of, long_of, int128_of, named_by}
use Rattle.ffi3_cdecl_spec.specs.Grammar.{kind_of_name, a_value, passed, member_type, returned}
use Rattle.ffi3_cdecl_spec.specs.Grammar.{Declaration, declared}
use Rattle.ffi3_cdecl_spec.specs.Reading.{tokens_of, first_too_great, Outcome, reads, bad_token, unexpected}
use Rattle.ffi3_cdecl_spec.specs.Reading.{bad_number, bad_signature}
use Rattle.ffi3_type_spec.specs.Signature.{SignatureFault}
use Rattle.ffi3_type_spec.specs.FirstFault.{first_signature_fault}

-- Brackets that are open round a declarator in the wide reading: so many, and no star; or so many inside the innermost star, and so many outside of it.
pub data Round : Type 0 where
  unstarred : ℕ → Round
  starred : ℕ → ℕ → Round

-- so many, and so many more
abbrev pub and_more : ℕ → ℕ → ℕ
and_more zero m = m
and_more (suc n) m = suc (and_more n m)

abbrev pub brackets : Round → ℕ
brackets (unstarred n) = n
brackets (starred n m) = and_more n m

-- a star, and a bracket, further inside
abbrev pub star_inside : Round → Round
star_inside o = starred 0 (brackets o)

abbrev pub bracket_inside : Round → Round
bracket_inside (unstarred n) = unstarred (suc n)
bracket_inside (starred n m) = starred (suc n) m

-- the function that is declared: its name, its result, how many of its parameters stand before the dots, if these have come, and the brackets round it
pub record Head : Type 0 where
  pub called : List ℕ
  pub result_type : Tree
  pub fixed : Option ℕ
  pub round : Round

abbrev pub declared_by : Head → List Tree → Option ℕ → Declaration
declared_by head ts fixed = declared head.called head.result_type ts fixed

mutual
  -- Where a type stands: the result, a parameter behind those before it, a member behind those before it in a struct that stands somewhere, or a parameter of a list that is not kept. Lists have the last first.
  pub data Where : Type 0 where
    at_result : Where
    at_parameter : Head → List Tree → Where
    at_member : List Tree → Where → Where
    at_inner : Settled → Where

  -- A declarator whose type is known, whatever follows: a parameter, which is a pointer; one of a list that is not kept; a member of this base, arrays of pointers; the function, which returns a pointer. So many brackets are open still.
  pub data Settled : Type 0 where
    a_parameter : Head → List Tree → ℕ → Settled
    an_inner : Settled → ℕ → Settled
    a_pointer_member : Kind → List ℕ → List Tree → Where → ℕ → Settled
    the_function : Declaration → ℕ → Settled

-- the structs, brackets and lists that are open there
abbrev mutual
  pub depth : Where → ℕ
  depth at_result = 0
  depth (at_parameter head ts) = 0
  depth (at_member ts w) = suc (depth w)
  depth (at_inner u) = suc (depth_of u)

  pub depth_of : Settled → ℕ
  depth_of (a_parameter head ts n) = n
  depth_of (an_inner u n) = suc (depth_of u) + n
  depth_of (a_pointer_member k ns ts w n) = suc (depth w) + n
  depth_of (the_function d n) = n

-- A member whose name has been read and whose arrays of these counts, the last first, are of this type; or of a pointer, whose star stands outside of so many brackets and inside so many.
pub data Member : Type 0 where
  plain_member : Tree → List ℕ → ℕ → Member
  starred_member : Kind → List ℕ → ℕ → ℕ → Member

-- a list with the last first, and what follows it
abbrev pub onto : {A : Type 0} → List A → List A → List A
onto [] ys = ys
onto (x ∷ xs) ys = onto xs (x ∷ ys)

-- an array of these counts, the last first
abbrev pub arrays : List ℕ → Tree → Tree
arrays [] t = t
arrays (n ∷ ns) t = arrays ns (array_of t n)

-- Which words of a type have been said, in the wide reading: a sign, a size, and whether `int`, `long` and `_Complex` are among them.
pub data Size : Type 0 where
  of_no_size : Size
  said_short : Size
  said_long : Size
  said_long_long : Size

pub data Said : Type 0 where
  an_integer : Option Sign → Size → Bool → Said
  a_character : Sign → Option Sign → Said
  of_128_bits : Option Sign → Said
  a_float : Bool → Said
  a_double : Bool → Bool → Said
  a_complex : Bool → Said

-- words by which they are said
abbrev pub sign_words : Option Sign → List Token → List Token
sign_words None more = more
sign_words (Some g) more = sign_word g ∷ more

abbrev pub size_words : Size → List Token → List Token
size_words of_no_size more = more
size_words said_short more = short_word ∷ more
size_words said_long more = long_word ∷ more
size_words said_long_long more = long_word ∷ long_word ∷ more

abbrev pub maybe : Bool → Token → List Token → List Token
maybe true x more = x ∷ more
maybe false x more = more

abbrev pub words_of : Said → List Token
words_of (an_integer g z i) = sign_words g (size_words z (maybe i int_word []))
words_of (a_character c g) = sign_words g (char_word c ∷ [])
words_of (of_128_bits g) = sign_words g (int128_word ∷ [])
words_of (a_float c) = type_word float ∷ maybe c complex_word []
words_of (a_double l c) = maybe l long_word (type_word double ∷ maybe c complex_word [])
words_of (a_complex l) = maybe l long_word (complex_word ∷ [])

abbrev pub nothing_said : Said
nothing_said = an_integer None of_no_size false

-- one word more
abbrev pub integer_and : Option Sign → Size → Bool → Token → Option Said
integer_and g z false int_word = Some (an_integer g z true)
integer_and None z i (sign_word g) = Some (an_integer (Some g) z i)
integer_and g of_no_size i short_word = Some (an_integer g said_short i)
integer_and g of_no_size i long_word = Some (an_integer g said_long i)
integer_and g said_long i long_word = Some (an_integer g said_long_long i)
integer_and g of_no_size false (char_word c) = Some (a_character c g)
integer_and g of_no_size false int128_word = Some (of_128_bits g)
integer_and None of_no_size false (type_word float) = Some (a_float false)
integer_and None of_no_size false (type_word double) = Some (a_double false false)
integer_and None said_long false (type_word double) = Some (a_double true false)
integer_and None of_no_size false complex_word = Some (a_complex false)
integer_and None said_long false complex_word = Some (a_complex true)
integer_and g z i x = None

abbrev pub say : Said → Token → Option Said
say (an_integer g z i) x = integer_and g z i x
say (a_character c None) (sign_word g) = Some (a_character c (Some g))
say (of_128_bits None) (sign_word g) = Some (of_128_bits (Some g))
say (a_float false) complex_word = Some (a_float true)
say (a_double l false) complex_word = Some (a_double l true)
say (a_double false c) long_word = Some (a_double true c)
say (a_complex false) long_word = Some (a_complex true)
say (a_complex false) (type_word float) = Some (a_float true)
say (a_complex l) (type_word double) = Some (a_double l true)
say s x = None

pub data State : Type 0 where
  -- a type is wanted, and without `const`
  wants_type : Where → State
  wants_base : Where → State
  after_sign : Sign → Where → State
  after_short : Sign → Where → State
  after_long : Sign → Where → State
  after_long_long : Sign → Where → State
  after_struct : Where → State
  -- words of a type, in the wide reading; `struct` and a tag, and the words that a tag alone follows
  after_words : Said → Where → State
  after_struct_tag : Where → State
  wants_tag : Where → State
  -- a base that needs a star; `void` first among the parameters
  wants_star : Where → State
  sole_void : Head → State
  -- a type that a star may follow
  typed : Tree → Where → State
  -- name of the function, its "(", the name of a parameter, a comma, the dots
  named : Head → State
  opened : Head → State
  parameter_named : Head → List Tree → State
  after_comma : Head → List Tree → State
  after_dots : Declaration → State
  -- name of a member, its "[", a count, its ";"
  member_named : Tree → List ℕ → List Tree → Where → State
  wants_count : Tree → List ℕ → List Tree → Where → State
  counted : Tree → List ℕ → List Tree → Where → State
  after_member : List Tree → Where → State
  -- the wide reading's declarators: before the name, and behind a "("; the name of the function, and behind its parameters; a parameter as its base says
  declarator : Kind → Round → Where → State
  round_opened : Kind → Round → Where → State
  function_named : List ℕ → Tree → Round → State
  closing : Round → Declaration → State
  parameter_itself : Kind → ℕ → Head → List Tree → State
  inner_nothing : ℕ → Settled → State
  -- a member, its "[", a number in it
  member_at : Member → List Tree → Where → State
  member_bound : Member → List Tree → Where → State
  member_bounded : Member → List Tree → Where → State
  -- what is settled, its "[", a number, name or star in it; its "(", `void` in it, a comma and the dots
  settled : Settled → State
  square_opened : Settled → State
  square_filled : Settled → State
  list_opened : Settled → State
  list_void : Settled → State
  list_comma : Settled → State
  list_dots : Settled → State
  -- the dots of the function
  wide_dots : Head → List Tree → State
  -- the ")" of the parameters, and a ";" behind it
  closed : Declaration → State
  ended : Declaration → State
  dead : State

-- the state behind a base of a kind, in the plain reading and in both
abbrev pub based : Kind → Where → State
based (whole t) w = typed t w
based bare w = wants_star w
based nothing at_result = typed void at_result
based nothing w = wants_star w

abbrev pub either : Dialect → State → State → State
either plain s t = s
either wide s t = t

abbrev pub based_in : Dialect → Kind → Where → State
based_in r k w = either r (based k w) (declarator k (unstarred 0) w)

-- ---- one token in each state

abbrev pub word_said : Scalar → Where → State
word_said float w = after_words (a_float false) w
word_said double w = after_words (a_double false false) w
word_said s w = declarator (whole (scalar s)) (unstarred 0) w

abbrev pub step_base : Dialect → Where → Token → State
step_base r w (type_word s) = either r (typed (scalar s) w) (word_said s w)
step_base r w (sign_word g) =
    either r (after_sign g w) (after_words (an_integer (Some g) of_no_size false) w)
step_base r w short_word =
    either r (after_short signed w) (after_words (an_integer None said_short false) w)
step_base r w int_word =
    either r (typed (scalar s32) w) (after_words (an_integer None of_no_size true) w)
step_base r w long_word =
    either r (after_long signed w) (after_words (an_integer None said_long false) w)
step_base r w int128_word =
    either r (typed (scalar s128) w) (after_words (of_128_bits None) w)
step_base r w (char_word c) =
    either r (wants_star w) (after_words (a_character c None) w)
step_base r w complex_word = either r dead (after_words (a_complex false) w)
step_base r w void_word = based_in r nothing w
step_base r w struct_word = after_struct w
step_base r w union_word = either r dead (wants_tag w)
step_base r w enum_word = either r dead (wants_tag w)
step_base r w (name called) = either r dead (declarator (kind_of_name called) (unstarred 0) w)
step_base r w x = dead

abbrev pub words_go_on : Where → Option Said → State
words_go_on w (Some s) = after_words s w
words_go_on w None = dead

abbrev pub step_type : Dialect → Where → Token → State
step_type r w const_word = wants_base w
step_type r w x = step_base r w x

-- the ")" of the parameters
abbrev pub list_ended : Dialect → Head → List Tree → Option ℕ → State
list_ended r head ts fixed =
    either r (closed (declared_by head ts fixed)) (closing head.round (declared_by head ts fixed))

-- behind a parameter, all but its name; behind the dots only types stand
abbrev pub comma_of : Option ℕ → Head → List Tree → State
comma_of None head ts = after_comma head ts
comma_of (Some n) head ts = wants_type (at_parameter head ts)

abbrev pub step_closing : Dialect → Head → List Tree → Token → State
step_closing r head ts close_round = list_ended r head (onto ts []) head.fixed
step_closing r head ts comma = comma_of head.fixed head ts
step_closing r head ts x = dead

-- ---- what is settled

-- one bracket less
abbrev pub fewer : Settled → ℕ → Settled
fewer (a_parameter head ts n) m = a_parameter head ts m
fewer (an_inner u n) m = an_inner u m
fewer (a_pointer_member k ns ts w n) m = a_pointer_member k ns ts w m
fewer (the_function d n) m = the_function d m

abbrev pub brackets_of : Settled → ℕ
brackets_of (a_parameter head ts n) = n
brackets_of (an_inner u n) = n
brackets_of (a_pointer_member k ns ts w n) = n
brackets_of (the_function d n) = n

-- behind a member, whose base this is
abbrev pub member_ends : Kind → Tree → List Tree → Where → Token → State
member_ends k t ts w semicolon = after_member (t ∷ ts) w
member_ends k t ts w comma =
    declarator k (unstarred 0) (at_member (t ∷ ts) w)
member_ends k t ts w x = dead

-- behind a parameter of a list that is not kept
abbrev pub inner_ends : Settled → Token → State
inner_ends u close_round = settled u
inner_ends u comma = list_comma u
inner_ends u x = dead

abbrev pub function_ends : Declaration → Token → State
function_ends d semicolon = ended d
function_ends d x = dead

-- the end of a declarator, with no bracket open
abbrev pub settled_ends : Settled → Token → State
settled_ends (a_parameter head ts n) x =
    step_closing wide head (pointer_type ∷ ts) x
settled_ends (an_inner u n) x = inner_ends u x
settled_ends (a_pointer_member k ns ts w n) x =
    member_ends k (arrays ns pointer_type) ts w x
settled_ends (the_function d n) x = function_ends d x

abbrev pub bracket_or_end : ℕ → Settled → Token → State
bracket_or_end zero u x = settled_ends u x
bracket_or_end (suc n) u close_round = settled (fewer u n)
bracket_or_end (suc n) u x = dead

abbrev pub list_with_room : Settled → State
list_with_room u =
    cond (ltb (depth_of u) MOST_OPEN) (list_opened u) dead

abbrev pub step_settled : Settled → Token → State
step_settled u open_square = square_opened u
step_settled u open_round = list_with_room u
step_settled u x = bracket_or_end (brackets_of u) u x

abbrev pub step_square : Settled → Token → State
step_square u (number n) = square_filled u
step_square u star = square_filled u
step_square u (name called) = square_filled u
step_square u close_square = settled u
step_square u x = dead

abbrev pub step_filled : Settled → Token → State
step_filled u close_square = settled u
step_filled u x = dead

-- ---- declarators

-- a bracket, where it has room
abbrev pub open_bracket : Kind → Round → Where → State
open_bracket k o w =
    cond (ltb (depth w + brackets o) MOST_OPEN) (round_opened k (bracket_inside o) w) dead

-- the name of the function, whose result is a pointer or as the base says
abbrev pub called_by : List ℕ → Option Tree → Round → State
called_by called (Some t) o = function_named called t o
called_by called None o = dead

abbrev pub function_name : List ℕ → Kind → Round → State
function_name called k (unstarred n) =
    called_by called (returned (a_value k)) (unstarred n)
function_name called k (starred n m) =
    function_named called pointer_type (starred n m)

abbrev pub member_by : Option Tree → ℕ → List Tree → Where → State
member_by (Some t) n ts w = member_at (plain_member t [] n) ts w
member_by None n ts w = dead

abbrev pub member_name : Kind → Round → List Tree → Where → State
member_name k (unstarred n) ts w = member_by (member_type (a_value k)) n ts w
member_name k (starred n m) ts w = member_at (starred_member k [] n m) ts w

-- behind a parameter's name, or where it is left out
abbrev pub parameter_by : Kind → Round → Head → List Tree → State
parameter_by k (unstarred n) head ts = parameter_itself k n head ts
parameter_by k (starred n m) head ts = settled (a_parameter head ts (and_more n m))

abbrev pub inner_by : Kind → Round → Settled → State
inner_by k (starred n m) u = settled (an_inner u (and_more n m))
inner_by nothing (unstarred n) u = inner_nothing n u
inner_by k (unstarred n) u = settled (an_inner u n)

abbrev pub declared_name : Kind → Round → Where → List ℕ → State
declared_name k o at_result called = function_name called k o
declared_name k o (at_parameter head ts) called = parameter_by k o head ts
declared_name k o (at_member ts w) called = member_name k o ts w
declared_name k o (at_inner u) called = inner_by k o u

-- a parameter as its base says: with a bracket or a list behind it, it is a pointer
abbrev pub itself_ends : Option Tree → Head → List Tree → Token → State
itself_ends (Some t) head ts x = step_closing wide head (t ∷ ts) x
itself_ends None head ts x = dead

abbrev pub itself_or_bracket : Kind → ℕ → Head → List Tree → Token → State
itself_or_bracket k zero head ts x =
    itself_ends (passed (a_value k)) head ts x
itself_or_bracket k (suc n) head ts close_round = parameter_itself k n head ts
itself_or_bracket k (suc n) head ts x = dead

abbrev pub step_itself : Kind → ℕ → Head → List Tree → Token → State
step_itself k n head ts open_square =
    square_opened (a_parameter head ts n)
step_itself k n head ts open_round =
    list_with_room (a_parameter head ts n)
step_itself k n head ts x = itself_or_bracket k n head ts x

-- `void` with a name, or in a bracket
abbrev pub nothing_or_bracket : ℕ → Settled → Token → State
nothing_or_bracket (suc n) u close_round = inner_nothing n u
nothing_or_bracket n u x = dead

abbrev pub step_inner_nothing : ℕ → Settled → Token → State
step_inner_nothing n u open_square = square_opened (an_inner u n)
step_inner_nothing n u open_round = list_with_room (an_inner u n)
step_inner_nothing n u x = nothing_or_bracket n u x

-- where a name may be left out: a list stands only behind a name or a bracket
abbrev pub step_unnamed : Kind → Round → Where → Token → State
step_unnamed k o (at_parameter head ts) open_square =
    square_opened (a_parameter head ts (brackets o))
step_unnamed k o (at_inner u) open_square =
    square_opened (an_inner u (brackets o))
step_unnamed k (unstarred n) (at_parameter head ts) x =
    itself_or_bracket k n head ts x
step_unnamed k (starred n m) (at_parameter head ts) x =
    bracket_or_end (and_more n m) (a_parameter head ts (and_more n m)) x
step_unnamed k (starred n m) (at_inner u) x =
    bracket_or_end (and_more n m) (an_inner u (and_more n m)) x
step_unnamed nothing (unstarred n) (at_inner u) x = nothing_or_bracket n u x
step_unnamed k (unstarred n) (at_inner u) x =
    bracket_or_end n (an_inner u n) x
step_unnamed k o w x = dead

abbrev pub step_declarator : Kind → Round → Where → Token → State
step_declarator k o w star = declarator k (star_inside o) w
step_declarator k o w (name called) = declared_name k o w called
step_declarator k o w open_round = open_bracket k o w
step_declarator k o w x = step_unnamed k o w x

-- a name stands in brackets only where it may not be left out
abbrev pub name_in_bracket : Kind → Round → Where → List ℕ → State
name_in_bracket k o at_result called = function_name called k o
name_in_bracket k o (at_member ts w) called = member_name k o ts w
name_in_bracket k o w called = dead

abbrev pub step_round_opened : Kind → Round → Where → Token → State
step_round_opened k o w star = declarator k (star_inside o) w
step_round_opened k o w open_round = open_bracket k o w
step_round_opened k o w (name called) = name_in_bracket k o w called
step_round_opened k o w x = dead

-- behind the function's name
abbrev pub step_function_named : List ℕ → Tree → Round → Token → State
step_function_named called t o open_round =
    opened (record { called = called; result_type = t; fixed = None; round = o })
step_function_named called t (unstarred (suc n)) close_round =
    function_named called t (unstarred n)
step_function_named called t (starred (suc n) m) close_round =
    function_named called t (starred n m)
step_function_named called t o x = dead

-- behind its parameters
abbrev pub step_round_closing : Round → Declaration → Token → State
step_round_closing (unstarred zero) d semicolon = ended d
step_round_closing (unstarred (suc n)) d close_round = closing (unstarred n) d
step_round_closing (starred (suc n) m) d close_round =
    closing (starred n m) d
step_round_closing (starred zero zero) d semicolon = ended d
step_round_closing (starred zero (suc m)) d close_round =
    settled (the_function d m)
step_round_closing o d x = dead

-- ---- members

abbrev pub bound_of : Member → ℕ → Member
bound_of (plain_member t ns n) i = plain_member t (i ∷ ns) n
bound_of (starred_member k ns n m) i = starred_member k (i ∷ ns) n m

abbrev pub step_member_at : Member → List Tree → Where → Token → State
step_member_at b ts w open_square = member_bound b ts w
step_member_at (plain_member t ns zero) ts w x =
    member_ends (whole t) (arrays ns t) ts w x
step_member_at (plain_member t ns (suc n)) ts w close_round =
    member_at (plain_member t ns n) ts w
step_member_at (starred_member k ns (suc n) m) ts w close_round =
    member_at (starred_member k ns n m) ts w
step_member_at (starred_member k ns zero zero) ts w x =
    member_ends k (arrays ns pointer_type) ts w x
step_member_at (starred_member k ns zero (suc m)) ts w close_round =
    settled (a_pointer_member k ns ts w m)
step_member_at b ts w x = dead

abbrev pub step_member_bound : Member → List Tree → Where → Token → State
step_member_bound b ts w (number n) = member_bounded (bound_of b n) ts w
step_member_bound b ts w x = dead

abbrev pub step_member_bounded : Member → List Tree → Where → Token → State
step_member_bounded b ts w close_square = member_at b ts w
step_member_bounded b ts w x = dead

-- ---- lists that are not kept

abbrev pub step_list_opened : Dialect → Settled → Token → State
step_list_opened r u close_round = settled u
step_list_opened r u void_word = list_void u
step_list_opened r u x = step_type r (at_inner u) x

abbrev pub step_list_void : Settled → Token → State
step_list_void u close_round = settled u
step_list_void u x = step_declarator nothing (unstarred 0) (at_inner u) x

abbrev pub step_list_comma : Dialect → Settled → Token → State
step_list_comma r u dots = list_dots u
step_list_comma r u x = step_type r (at_inner u) x

abbrev pub step_list_dots : Settled → Token → State
step_list_dots u close_round = settled u
step_list_dots u x = dead

-- ---- the plain reading's types

-- behind a type: a name, a ")" and a comma
abbrev pub name_behind : Where → Tree → List ℕ → State
name_behind at_result t called =
    named (record { called = called; result_type = t; fixed = None; round = unstarred 0 })
name_behind (at_parameter head ts) t called = parameter_named head (t ∷ ts)
name_behind (at_member ts w) t called = member_named t [] ts w
name_behind (at_inner u) t called = settled (an_inner u 0)

abbrev pub close_behind : Dialect → Where → Tree → State
close_behind r (at_parameter head ts) t =
    list_ended r head (onto (t ∷ ts) []) head.fixed
close_behind r w t = dead

abbrev pub comma_behind : Where → Tree → State
comma_behind (at_parameter head ts) t = comma_of head.fixed head (t ∷ ts)
comma_behind w t = dead

abbrev pub step_typed : Dialect → Tree → Where → Token → State
step_typed r t w star = typed pointer_type w
step_typed r t w (name called) = name_behind w t called
step_typed r t w close_round = close_behind r w t
step_typed r t w comma = comma_behind w t
step_typed r t w x = dead

abbrev pub step_sign : Dialect → Sign → Where → Token → State
step_sign r g w (char_word c) = typed (scalar (char_of g)) w
step_sign r g w short_word = after_short g w
step_sign r g w int_word = typed (scalar (int_of g)) w
step_sign r g w long_word = after_long g w
step_sign r g w int128_word = typed (scalar (int128_of g)) w
step_sign r g w x = step_typed r (scalar (int_of g)) w x

abbrev pub step_short : Dialect → Sign → Where → Token → State
step_short r g w int_word = typed (scalar (short_of g)) w
step_short r g w x = step_typed r (scalar (short_of g)) w x

abbrev pub step_long : Dialect → Sign → Where → Token → State
step_long r g w long_word = after_long_long g w
step_long r g w int_word = typed (scalar (long_of g)) w
step_long r g w x = step_typed r (scalar (long_of g)) w x

abbrev pub step_long_long : Dialect → Sign → Where → Token → State
step_long_long r g w int_word = typed (scalar (long_of g)) w
step_long_long r g w x = step_typed r (scalar (long_of g)) w x

-- a "{", where it has room
abbrev pub opened_struct : Where → State
opened_struct w =
    cond (ltb (depth w) MOST_OPEN) (wants_type (at_member [] w)) dead

abbrev pub step_struct : Dialect → Where → Token → State
step_struct r w (name tag) = either r (wants_star w) (after_struct_tag w)
step_struct r w open_curly = opened_struct w
step_struct r w x = dead

abbrev pub step_tag : Where → Token → State
step_tag w (name tag) = declarator bare (unstarred 0) w
step_tag w x = dead

abbrev pub step_star : Where → Token → State
step_star w star = typed pointer_type w
step_star w x = dead

-- behind a tag that members or stars may follow
abbrev pub step_struct_tag : Where → Token → State
step_struct_tag w open_curly = opened_struct w
step_struct_tag w x = step_declarator bare (unstarred 0) w x

-- behind words that name a type already, or do not yet
abbrev pub step_named_by : Option Kind → Where → Token → State
step_named_by (Some k) w x = step_declarator k (unstarred 0) w x
step_named_by None w x = dead

-- behind words, with one more where it is one
abbrev pub step_words : Said → Where → Token → State
step_words s w (sign_word g) = words_go_on w (say s (sign_word g))
step_words s w short_word = words_go_on w (say s short_word)
step_words s w int_word = words_go_on w (say s int_word)
step_words s w long_word = words_go_on w (say s long_word)
step_words s w int128_word = words_go_on w (say s int128_word)
step_words s w (char_word c) = words_go_on w (say s (char_word c))
step_words s w complex_word = words_go_on w (say s complex_word)
step_words s w (type_word float) = words_go_on w (say s (type_word float))
step_words s w (type_word double) = words_go_on w (say s (type_word double))
step_words s w x = step_named_by (named_by (words_of s)) w x

-- behind `void` as the first parameter
abbrev pub plain_void : Head → Token → State
plain_void head star = typed pointer_type (at_parameter head [])
plain_void head x = dead

abbrev pub step_sole_void : Dialect → Head → Token → State
step_sole_void r head close_round = list_ended r head [] None
step_sole_void r head x =
    either r (plain_void head x) (step_declarator nothing (unstarred 0) (at_parameter head []) x)

abbrev pub step_named : Head → Token → State
step_named head open_round = opened head
step_named head x = dead

abbrev pub step_opened : Dialect → Head → Token → State
step_opened r head close_round = list_ended r head [] None
step_opened r head void_word = sole_void head
step_opened r head x = step_type r (at_parameter head []) x

abbrev pub step_comma : Dialect → Head → List Tree → Token → State
step_comma r head ts dots =
    either r (after_dots (declared_by head (onto ts []) (Some (length ts)))) (wide_dots head ts)
step_comma r head ts x = step_type r (at_parameter head ts) x

abbrev pub step_dots : Declaration → Token → State
step_dots d close_round = closed d
step_dots d x = dead

-- behind the dots of the function so many parameters stand before them
abbrev pub fixing : Head → ℕ → Head
fixing head n =
    record { called = head.called; result_type = head.result_type; fixed = Some n; round = head.round }

abbrev pub step_wide_dots : Head → List Tree → Token → State
step_wide_dots head ts close_round =
    list_ended wide head (onto ts []) (Some (length ts))
step_wide_dots head ts comma =
    wants_type (at_parameter (fixing head (length ts)) ts)
step_wide_dots head ts x = dead

abbrev pub step_member : Tree → List ℕ → List Tree → Where → Token → State
step_member t ns ts w open_square = wants_count t ns ts w
step_member t ns ts w semicolon = after_member (arrays ns t ∷ ts) w
step_member t ns ts w x = dead

abbrev pub step_count : Tree → List ℕ → List Tree → Where → Token → State
step_count t ns ts w (number n) = counted t (n ∷ ns) ts w
step_count t ns ts w x = dead

abbrev pub step_counted : Tree → List ℕ → List Tree → Where → Token → State
step_counted t ns ts w close_square = member_named t ns ts w
step_counted t ns ts w x = dead

abbrev pub step_after_member : Dialect → List Tree → Where → Token → State
step_after_member r ts w close_curly = based_in r (whole (struct_of (onto ts []))) w
step_after_member r ts w x = step_type r (at_member ts w) x

abbrev pub step_closed : Declaration → Token → State
step_closed d semicolon = ended d
step_closed d x = dead

abbrev pub step : Dialect → State → Token → State
step r (wants_type w) x = step_type r w x
step r (wants_base w) x = step_base r w x
step r (after_sign g w) x = step_sign r g w x
step r (after_short g w) x = step_short r g w x
step r (after_long g w) x = step_long r g w x
step r (after_long_long g w) x = step_long_long r g w x
step r (after_struct w) x = step_struct r w x
step r (after_words s w) x = step_words s w x
step r (after_struct_tag w) x = step_struct_tag w x
step r (wants_tag w) x = step_tag w x
step r (wants_star w) x = step_star w x
step r (sole_void head) x = step_sole_void r head x
step r (typed t w) x = step_typed r t w x
step r (named head) x = step_named head x
step r (opened head) x = step_opened r head x
step r (parameter_named head ts) x = step_closing r head ts x
step r (after_comma head ts) x = step_comma r head ts x
step r (after_dots d) x = step_dots d x
step r (member_named t ns ts w) x = step_member t ns ts w x
step r (wants_count t ns ts w) x = step_count t ns ts w x
step r (counted t ns ts w) x = step_counted t ns ts w x
step r (after_member ts w) x = step_after_member r ts w x
step r (declarator k o w) x = step_declarator k o w x
step r (round_opened k o w) x = step_round_opened k o w x
step r (function_named called t o) x = step_function_named called t o x
step r (closing o d) x = step_round_closing o d x
step r (parameter_itself k n head ts) x = step_itself k n head ts x
step r (inner_nothing n u) x = step_inner_nothing n u x
step r (member_at b ts w) x = step_member_at b ts w x
step r (member_bound b ts w) x = step_member_bound b ts w x
step r (member_bounded b ts w) x = step_member_bounded b ts w x
step r (settled u) x = step_settled u x
step r (square_opened u) x = step_square u x
step r (square_filled u) x = step_filled u x
step r (list_opened u) x = step_list_opened r u x
step r (list_void u) x = step_list_void u x
step r (list_comma u) x = step_list_comma r u x
step r (list_dots u) x = step_list_dots u x
step r (wide_dots head ts) x = step_wide_dots head ts x
step r (closed d) x = step_closed d x
step r (ended d) x = dead
step r dead x = dead

-- ---- whole runs

abbrev pub after : Dialect → State → List Token → State
after r s [] = s
after r s (x ∷ xs) = after r (step r s x) xs

-- what is declared where the text ends
abbrev pub finish : State → Option Declaration
finish (closed d) = Some d
finish (closing (unstarred zero) d) = Some d
finish (closing (starred zero zero) d) = Some d
finish (settled (the_function d zero)) = Some d
finish (ended d) = Some d
finish s = None

abbrev pub begun : State
begun = wants_type at_result

-- from a state these tokens lead to a declaration
abbrev pub Accepts : Dialect → State → List Token → Declaration → Type 0
Accepts r s ts d = finish (after r s ts) ≡ Some d

abbrev pub is_dead : State → Bool
is_dead dead = true
is_dead s = false

-- ---- a text

-- where the first token stands that leads nowhere, or the end
abbrev pub first_dead : Dialect → ℕ → State → List Placed → ℕ
first_dead r end s [] = end
first_dead r end s (p ∷ ps) =
    cond (is_dead (step r s p.token)) p.at (first_dead r end (step r s p.token) ps)

abbrev pub with_signature : Declaration → Option SignatureFault → Outcome
with_signature d None = reads d
with_signature d (Some f) = bad_signature f

-- a declaration whose tokens are all right
abbrev pub judged : Declaration → Outcome
judged d = with_signature d (first_signature_fault d.signature)

abbrev pub with_number : Declaration → Option ℕ → Outcome
with_number d None = judged d
with_number d (Some at) = bad_number at

abbrev pub with_end : Dialect → ℕ → List Placed → Option Declaration → Outcome
with_end r end ps None = unexpected (first_dead r end begun ps)
with_end r end ps (Some d) = with_number d (first_too_great ps)

abbrev pub with_cut : Dialect → ℕ → Cut → Outcome
with_cut r end (bad_at at) = bad_token at
with_cut r end (tokens ps) = with_end r end ps (finish (after r begun (tokens_of ps)))

abbrev pub read_in : Dialect → Sign → List ℕ → Outcome
read_in r c text = with_cut r (length text) (cut_in r c text)

abbrev pub read : List ℕ → Outcome
read text = read_in plain signed text
