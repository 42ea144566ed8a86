-- Which tokens lead nowhere in the wide reading, by what they are.
use Rattle.std.proofs.Common.{◌≡◌, ℕ, Bool, true, false, List, Option, Some, None, refl, ap, sym, ◌∙◌, arith}
use Rattle.std.specs.Prelude.{⊤}
use Rattle.ffi3_type_spec.specs.Tree.{float, double, Tree, scalar}
use Rattle.ffi3_cdecl_spec.specs.Tokens.{wide, Token, type_word, const_word, void_word, struct_word, union_word, enum_word, attribute_word, other_keyword, name, number, open_round, close_round, open_curly, close_curly, open_square, close_square, comma, semicolon, star, dots}
use Rattle.ffi3_cdecl_spec.specs.Grammar.{Kind, whole, bare, nothing, Declaration, named_by, short_of, int_of, long_of}
use Rattle.ffi3_cdecl_spec.specs.Machine.{Round, unstarred, starred, and_more, Head, Where, at_result, at_parameter, at_inner, Settled, a_parameter, an_inner, Member, Said, words_of, State, wants_type, after_words, after_struct_tag, wants_tag, after_sign, after_short, after_long, after_long_long, after_struct, wants_star, sole_void, typed, named, parameter_named, after_dots, member_named, wants_count, counted, declarator, round_opened, function_named, closing, parameter_itself, inner_nothing, member_at, member_bound, member_bounded, settled, square_opened, square_filled, list_void, list_dots, wide_dots, closed, dead, bracket_or_end, step_settled, itself_or_bracket, step_itself, nothing_or_bracket, step_inner_nothing, step_unnamed, step_declarator, step_round_opened, step_function_named, step_round_closing, step_member_at, step_typed, step_named_by, step_words, step, is_dead}
use Rattle.ffi3_cdecl_spec.specs.Telling.{wants_a_type}

-- words, names and numbers
abbrev pub IsNoMark : Token → Type 0
IsNoMark open_round = ⊥
IsNoMark close_round = ⊥
IsNoMark open_curly = ⊥
IsNoMark close_curly = ⊥
IsNoMark open_square = ⊥
IsNoMark close_square = ⊥
IsNoMark comma = ⊥
IsNoMark semicolon = ⊥
IsNoMark star = ⊥
IsNoMark dots = ⊥
IsNoMark x = ⊤

-- words that are in no list of words that names a type, and numbers
abbrev pub IsSilent : Token → Type 0
IsSilent (type_word float) = ⊥
IsSilent (type_word double) = ⊥
IsSilent (type_word s) = ⊤
IsSilent const_word = ⊤
IsSilent void_word = ⊤
IsSilent struct_word = ⊤
IsSilent union_word = ⊤
IsSilent enum_word = ⊤
IsSilent attribute_word = ⊤
IsSilent other_keyword = ⊤
IsSilent (number n) = ⊤
IsSilent x = ⊥

-- of these the words
abbrev pub IsQuiet : Token → Type 0
IsQuiet (number n) = ⊥
IsQuiet x = IsSilent x

no_mark : (x : Token) → IsSilent x → IsNoMark x
no_mark const_word q = tt
no_mark x q = search

pub silent : (x : Token) → IsQuiet x → IsSilent x
silent (number n) q = tt
silent x q = q

-- ---- behind a name only marks may stand

settled_dead : (u : Settled) (x : Token) → IsNoMark x → step_settled u x ≡ dead
settled_dead u x q = grind arith

itself_dead : (k : Kind) (n : ℕ) (head : Head) (ts : List Tree) (x : Token) → IsNoMark x → step_itself k n head ts x ≡ dead
itself_dead k n head ts x q = grind arith

inner_nothing_dead : (n : ℕ) (u : Settled) (x : Token) → IsNoMark x → step_inner_nothing n u x ≡ dead
inner_nothing_dead n u x q = grind arith

function_named_dead : (called : List ℕ) (t : Tree) (o : Round) (x : Token) → IsNoMark x → step_function_named called t o x ≡ dead
function_named_dead called t o x q = grind arith

round_closing_dead : (o : Round) (d : Declaration) (x : Token) → IsNoMark x → step_round_closing o d x ≡ dead
round_closing_dead o d x q = grind arith

member_at_dead : (b : Member) (ts : List Tree) (w : Where) (x : Token) → IsNoMark x → step_member_at b ts w x ≡ dead
member_at_dead b ts w x q = grind arith

-- ---- behind a base words of lists and names too

bracket_dead : (n : ℕ) (u : Settled) (x : Token) → IsNoMark x → bracket_or_end n u x ≡ dead
bracket_dead n u x q = grind arith

itself_or_dead : (k : Kind) (n : ℕ) (head : Head) (ts : List Tree) (x : Token) → IsNoMark x → itself_or_bracket k n head ts x ≡ dead
itself_or_dead k n head ts x q = grind arith

nothing_or_dead : (n : ℕ) (u : Settled) (x : Token) → IsNoMark x → nothing_or_bracket n u x ≡ dead
nothing_or_dead n u x q = grind arith

unnamed_dead : (k : Kind) (o : Round) (w : Where) (x : Token) → IsSilent x → step_unnamed k o w x ≡ dead
unnamed_dead k o (at_parameter head ts) open_square q = absurd q
unnamed_dead k (unstarred n) (at_parameter head ts) x q =
    itself_or_dead k n head ts x (no_mark x q)
unnamed_dead k (starred n m) (at_parameter head ts) x q =
    bracket_dead (and_more n m) (a_parameter head ts (and_more n m)) x (no_mark x q)
unnamed_dead k o (at_inner u) open_square q = absurd q
unnamed_dead k (starred n m) (at_inner u) x q =
    bracket_dead (and_more n m) (an_inner u (and_more n m)) x (no_mark x q)
unnamed_dead nothing (unstarred n) (at_inner u) x q =
    nothing_or_dead n u x (no_mark x q)
unnamed_dead (whole t) (unstarred n) (at_inner u) x q =
    bracket_dead n (an_inner u n) x (no_mark x q)
unnamed_dead bare (unstarred n) (at_inner u) x q =
    bracket_dead n (an_inner u n) x (no_mark x q)
unnamed_dead k o w x q = refl

declarator_dead : (k : Kind) (o : Round) (w : Where) (x : Token) → IsSilent x → step_declarator k o w x ≡ dead
declarator_dead k o w star q = absurd q
declarator_dead k o w (name called) q = absurd q
declarator_dead k o w open_round q = absurd q
declarator_dead k o w x q = unnamed_dead k o w x q

named_by_dead : (o : Option Kind) (w : Where) (x : Token) → IsSilent x → step_named_by o w x ≡ dead
named_by_dead (Some k) w x q = declarator_dead k (unstarred 0) w x q
named_by_dead None w x q = refl

words_dead : (s : Said) (w : Where) (x : Token) → IsSilent x → step_words s w x ≡ dead
words_dead s w (type_word float) q = absurd q
words_dead s w x q = search named_by_dead

-- ---- numbers

abbrev pub takes_number : State → Bool
takes_number (wants_count t ns ts w) = true
takes_number (member_bound b ts w) = true
takes_number (square_opened u) = true
takes_number s = false

-- ---- in each state

pub silent_dead : (s : State) → wants_a_type s ≡ false → takes_number s ≡ false → (x : Token) → IsSilent x → step wide s x ≡ dead
silent_dead (after_sign g w) e n star q = absurd q
silent_dead (after_short g w) e n star q = absurd q
silent_dead (after_long g w) e n star q = absurd q
silent_dead (after_long_long g w) e n star q = absurd q
silent_dead (after_struct w) e n star q = absurd q
silent_dead (after_words s w) e n x q = words_dead s w x q
silent_dead (after_struct_tag w) e n open_curly q = absurd q
silent_dead (after_struct_tag w) e n x q = declarator_dead bare (unstarred 0) w x q
silent_dead (wants_tag w) e n star q = absurd q
silent_dead (wants_star w) e n star q = absurd q
silent_dead (sole_void head) e n star q = absurd q
silent_dead (typed t w) e n star q = absurd q
silent_dead (named head) e n star q = absurd q
silent_dead (parameter_named head ts) e n star q = absurd q
silent_dead (after_dots d) e n star q = absurd q
silent_dead (member_named t ns ts w) e n star q = absurd q
silent_dead (counted t ns ts w) e n star q = absurd q
silent_dead (declarator k o w) e n x q = declarator_dead k o w x q
silent_dead (round_opened k o w) e n star q = absurd q
silent_dead (function_named called t o) e n x q =
    function_named_dead called t o x (no_mark x q)
silent_dead (closing o d) e n x q = round_closing_dead o d x (no_mark x q)
silent_dead (parameter_itself k i head ts) e n x q =
    itself_dead k i head ts x (no_mark x q)
silent_dead (inner_nothing i u) e n x q = inner_nothing_dead i u x (no_mark x q)
silent_dead (member_at b ts w) e n x q = member_at_dead b ts w x (no_mark x q)
silent_dead (member_bounded b ts w) e n star q = absurd q
silent_dead (settled u) e n x q = settled_dead u x (no_mark x q)
silent_dead (square_filled u) e n star q = absurd q
silent_dead (list_void u) e n star q = absurd q
silent_dead (list_dots u) e n star q = absurd q
silent_dead (wide_dots head ts) e n star q = absurd q
silent_dead (closed d) e n star q = absurd q
silent_dead s e n x q = first_of (cc, search)

-- words that are in no list lead nowhere where no type may stand
pub quiet_dead : (s : State) → wants_a_type s ≡ false → (x : Token) → IsQuiet x → step wide s x ≡ dead
quiet_dead (wants_count t ns ts w) e star q = absurd q
quiet_dead (member_bound b ts w) e star q = absurd q
quiet_dead (square_opened u) e star q = absurd q
quiet_dead (wants_count t ns ts w) e x q = search
quiet_dead (member_bound b ts w) e x q = search
quiet_dead (square_opened u) e x q = search
quiet_dead s e x q = silent_dead s e refl x (silent x q)

-- ---- attributes and keywords

at_type_attribute : (s : State) → wants_a_type s ≡ true → step wide s attribute_word ≡ dead
at_type_attribute (wants_type w) e = refl
at_type_attribute s e = cc

at_type_keyword : (s : State) → wants_a_type s ≡ true → step wide s other_keyword ≡ dead
at_type_keyword (wants_type w) e = refl
at_type_keyword s e = cc

-- whether it is so or not
pub by_wanted : {A : Type 0} (b : Bool) → (b ≡ true → A) → (b ≡ false → A) → A
by_wanted true f g = f refl
by_wanted false f g = g refl

pub attribute_dead : (s : State) → step wide s attribute_word ≡ dead
attribute_dead s =
    by_wanted (wants_a_type s) (at_type_attribute s) (λ e. quiet_dead s e attribute_word tt)

pub keyword_dead : (s : State) → step wide s other_keyword ≡ dead
keyword_dead s =
    by_wanted (wants_a_type s) (at_type_keyword s) (λ e. quiet_dead s e other_keyword tt)

-- ---- where a type may stand, and only there, `void` may

pub void_lives : (s : State) → wants_a_type s ≡ true → is_dead (step wide s void_word) ≡ false
void_lives (wants_type w) e = refl
void_lives s e = cc

pub void_dead : (s : State) → wants_a_type s ≡ false → is_dead (step wide s void_word) ≡ true
void_dead s e = ap is_dead (quiet_dead s e void_word tt)

-- ---- of numbers all are alike, and of names

number_dead : (s : State) → wants_a_type s ≡ false → takes_number s ≡ false → (n : ℕ) → is_dead (step wide s (number n)) ≡ true
number_dead s e f n = ap is_dead (silent_dead s e f (number n) tt)

at_type_number : (s : State) → wants_a_type s ≡ true → (n : ℕ) → is_dead (step wide s (number n)) ≡ true
at_type_number (wants_type w) e n = refl
at_type_number s e n = cc

at_number : (s : State) → takes_number s ≡ true → (n : ℕ) → is_dead (step wide s (number n)) ≡ false
at_number (wants_count t ns ts w) e n = refl
at_number s e n = cc

pub numbers_alike : (s : State) (n m : ℕ) → is_dead (step wide s (number n)) ≡ is_dead (step wide s (number m))
numbers_alike s n m =
    by_wanted (takes_number s) (λ f. at_number s f n ∙ sym (at_number s f m)) (λ f. by_wanted (wants_a_type s) (λ e. at_type_number s e n ∙ sym (at_type_number s e m)) (λ e. number_dead s e f n ∙ sym (number_dead s e f m)))

module _ (v w : List ℕ) where
  both_dead : (s t : State) → s ≡ dead → t ≡ dead → is_dead s ≡ is_dead t
  both_dead s t e f = ap is_dead e ∙ sym (ap is_dead f)

  declarator_names : (p : Where) (o : Round) (k : Kind) → is_dead (step_declarator k o p (name v)) ≡ is_dead (step_declarator k o p (name w))
  declarator_names at_result (unstarred n) (whole t) = refl
  declarator_names p o k = refl

  round_names : (p : Where) (o : Round) (k : Kind) → is_dead (step_round_opened k o p (name v)) ≡ is_dead (step_round_opened k o p (name w))
  round_names at_result (unstarred n) (whole t) = refl
  round_names p o k = refl

  named_by_names : (o : Option Kind) (p : Where) → is_dead (step_named_by o p (name v)) ≡ is_dead (step_named_by o p (name w))
  named_by_names (Some k) p = declarator_names p (unstarred 0) k
  named_by_names None p = refl

  typed_names : (t : Tree) (p : Where) → is_dead (step_typed wide t p (name v)) ≡ is_dead (step_typed wide t p (name w))
  typed_names t at_result = refl
  typed_names t p = refl

  pub names_alike : (s : State) → is_dead (step wide s (name v)) ≡ is_dead (step wide s (name w))
  names_alike (after_sign g p) = typed_names (scalar (int_of g)) p
  names_alike (after_short g p) = typed_names (scalar (short_of g)) p
  names_alike (after_long g p) = typed_names (scalar (long_of g)) p
  names_alike (after_long_long g p) = typed_names (scalar (long_of g)) p
  names_alike (after_words s p) = named_by_names (named_by (words_of s)) p
  names_alike (after_struct_tag p) = declarator_names p (unstarred 0) bare
  names_alike (typed t p) = typed_names t p
  names_alike (declarator k o p) = declarator_names p o k
  names_alike (round_opened k o p) = round_names p o k
  names_alike (function_named called t o) =
      both_dead _ _ (function_named_dead called t o (name v) tt) (function_named_dead called t o (name w) tt)
  names_alike (closing o d) =
      both_dead _ _ (round_closing_dead o d (name v) tt) (round_closing_dead o d (name w) tt)
  names_alike (parameter_itself k n head ts) =
      both_dead _ _ (itself_dead k n head ts (name v) tt) (itself_dead k n head ts (name w) tt)
  names_alike (inner_nothing n u) =
      both_dead _ _ (inner_nothing_dead n u (name v) tt) (inner_nothing_dead n u (name w) tt)
  names_alike (member_at b ts p) =
      both_dead _ _ (member_at_dead b ts p (name v) tt) (member_at_dead b ts p (name w) tt)
  names_alike (settled u) =
      both_dead _ _ (settled_dead u (name v) tt) (settled_dead u (name w) tt)
  names_alike (list_void u) = declarator_names (at_inner u) (unstarred 0) nothing
  names_alike s = refl
