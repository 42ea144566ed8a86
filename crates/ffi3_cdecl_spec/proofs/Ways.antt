-- Each live state has a completion, and a dead one none.
use Rattle.std.proofs.Common.{◌≡◌, ℕ, zero, suc, true, false, List, [], ◌∷◌, ◌++◌, length, Option, Some, None, ap, sym, subst, refl, ◌∙◌, true≢false}
use Rattle.ffi3_type_spec.specs.Tree.{double, Tree, void, scalar, struct_of}
use Rattle.ffi3_cdecl_spec.specs.Tokens.{Dialect, plain, wide, Token, type_word, int_word, void_word, name, number, open_round, close_round, close_curly, open_square, close_square, semicolon, star}
use Rattle.ffi3_cdecl_spec.specs.Grammar.{Kind, whole, bare, nothing, pointer_type, short_of, int_of, long_of, Declaration}
use Rattle.ffi3_cdecl_spec.specs.Machine.{Round, unstarred, starred, brackets, Head, declared_by, Where, at_result, at_parameter, at_member, at_inner, Settled, a_parameter, an_inner, a_pointer_member, the_function, Member, plain_member, starred_member, bound_of, onto, arrays, Said, an_integer, a_character, of_128_bits, a_float, a_double, a_complex, State, wants_type, wants_base, after_words, after_struct_tag, wants_tag, after_sign, after_short, after_long, after_long_long, after_struct, wants_star, sole_void, typed, named, opened, parameter_named, after_comma, after_dots, member_named, wants_count, counted, after_member, declarator, round_opened, function_named, closing, parameter_itself, inner_nothing, member_at, member_bound, member_bounded, settled, square_opened, square_filled, list_opened, list_void, list_comma, list_dots, wide_dots, closed, ended, dead, based, either, based_in, list_ended, step_named_by, step, after, Accepts, is_dead}
use Rattle.ffi3_cdecl_spec.proofs.Never.{never}
use Rattle.ffi3_cdecl_spec.proofs.Saying.{Named, integer_named, character_named, of_128_bits_named, float_named, double_named}

pub after-append : (r : Dialect) (s : State) (xs ys : List Token) → after r s (xs ++ ys) ≡ after r (after r s xs) ys
after-append r s [] ys = refl
after-append r s (x ∷ xs) ys = after-append r (step r s x) xs ys

abbrev pub Completion : Dialect → State → Type 0
Completion r s = (more : List Token) × (d : Declaration) × Accepts r s more d

-- some identifier
abbrev x_name : Token
x_name = name (120 ∷ [])

module _ (r : Dialect) where
  -- behind a token
  through : {s : State} (x : Token) → Completion r (step r s x) → Completion r s
  through x c = (x ∷ c.0, c.1, c.2)

  -- ---- the end of the function

  function_settled : (d : Declaration) (n : ℕ) → Completion r (settled (the_function d n))
  function_settled d zero = ([], d, refl)
  function_settled d (suc n) = through close_round (function_settled d n)

  unstarred_closes : (n : ℕ) (d : Declaration) → Completion r (closing (unstarred n) d)
  unstarred_closes zero d = ([], d, refl)
  unstarred_closes (suc n) d = through close_round (unstarred_closes n d)

  starred_closes : (n m : ℕ) (d : Declaration) → Completion r (closing (starred n m) d)
  starred_closes zero zero d = ([], d, refl)
  starred_closes zero (suc m) d = through close_round (function_settled d m)
  starred_closes (suc n) m d = through close_round (starred_closes n m d)

  round_closes : (o : Round) (d : Declaration) → Completion r (closing o d)
  round_closes (unstarred n) d = unstarred_closes n d
  round_closes (starred n m) d = starred_closes n m d

  list_done : (q : Dialect) (head : Head) (ts : List Tree) (fixed : Option ℕ) → Completion r (list_ended q head ts fixed)
  list_done plain head ts fixed = ([], declared_by head ts fixed, refl)
  list_done wide head ts fixed =
      round_closes head.round (declared_by head ts fixed)

  -- ---- what is settled, by what stands outside of it

  parameter_settled : (head : Head) (ts : List Tree) (n : ℕ) → Completion r (settled (a_parameter head ts n))
  parameter_settled head ts zero =
      through close_round (list_done wide head (onto (pointer_type ∷ ts) []) head.fixed)
  parameter_settled head ts (suc n) =
      through close_round (parameter_settled head ts n)

  inner_settled : (u : Settled) → Completion r (settled u) → (n : ℕ) → Completion r (settled (an_inner u n))
  inner_settled u c zero = through close_round c
  inner_settled u c (suc n) = through close_round (inner_settled u c n)

  -- a struct that ends behind a member
  abbrev StructOf : List Tree → Where → Type 0
  StructOf ts w = Completion r (based_in r (whole (struct_of (onto ts []))) w)

  member_settled : (k : Kind) (ns : List ℕ) (ts : List Tree) (w : Where) → StructOf (arrays ns pointer_type ∷ ts) w → (n : ℕ) → Completion r (settled (a_pointer_member k ns ts w n))
  member_settled k ns ts w c zero = through semicolon (through close_curly c)
  member_settled k ns ts w c (suc n) =
      through close_round (member_settled k ns ts w c n)

  plain_done : (t : Tree) (ns : List ℕ) (ts : List Tree) (w : Where) → StructOf (arrays ns t ∷ ts) w → (n : ℕ) → Completion r (member_at (plain_member t ns n) ts w)
  plain_done t ns ts w c zero = through semicolon (through close_curly c)
  plain_done t ns ts w c (suc n) =
      through close_round (plain_done t ns ts w c n)

  starred_done : (k : Kind) (ns : List ℕ) (ts : List Tree) (w : Where) → StructOf (arrays ns pointer_type ∷ ts) w → (n m : ℕ) → Completion r (member_at (starred_member k ns n m) ts w)
  starred_done k ns ts w c zero zero = through semicolon (through close_curly c)
  starred_done k ns ts w c zero (suc m) =
      through close_round (member_settled k ns ts w c m)
  starred_done k ns ts w c (suc n) m =
      through close_round (starred_done k ns ts w c n m)

  -- ---- types and declarators, by where they stand

  pub record Both (w : Where) : Type 0 where
    pub of_type : (t : Tree) → Completion r (typed t w)
    pub of_declarator : (k : Kind) (o : Round) → Completion r (declarator k o w)

  star_done : (w : Where) → Both w → Completion r (wants_star w)
  star_done w b = through star (b.of_type pointer_type)

  plain_base : (k : Kind) (w : Where) → Both w → Completion r (based k w)
  plain_base (whole t) w b = b.of_type t
  plain_base bare w b = star_done w b
  plain_base nothing at_result b = b.of_type void
  plain_base nothing w b = star_done w b

  either_base : (q : Dialect) (k : Kind) (w : Where) → Both w → Completion r (based_in q k w)
  either_base plain k w b = plain_base k w b
  either_base wide k w b = b.of_declarator k (unstarred 0)

  base_done : (k : Kind) (w : Where) → Both w → Completion r (based_in r k w)
  base_done k w b = either_base r k w b

  named_done : (head : Head) → Completion r (opened head)
  named_done head = through close_round (list_done r head [] None)

  function_done : (called : List ℕ) (t : Tree) (o : Round) → Completion r (function_named called t o)
  function_done called t o =
      through open_round (named_done (record { called = called; result_type = t; fixed = None; round = o }))

  -- a star and a name
  by_star : (k : Kind) (o : Round) (w : Where) → Completion r (step r (declarator k (starred 0 (brackets o)) w) x_name) → Completion r (declarator k o w)
  by_star k o w c = through star (through x_name c)

  mutual
    both : (w : Where) → Both w
    both at_result =
        record {
          of_type = λ t. through x_name (through open_round (named_done (record { called = 120 ∷ []; result_type = t; fixed = None; round = unstarred 0 })));
          of_declarator = λ k o. by_star k o at_result (function_done (120 ∷ []) pointer_type (starred 0 (brackets o)));
        }
    both (at_parameter head ts) =
        record {
          of_type = λ t. through close_round (list_done r head (onto (t ∷ ts) []) head.fixed);
          of_declarator = λ k o. by_star k o (at_parameter head ts) (parameter_settled head ts (brackets o));
        }
    both (at_member ts w) =
        let b : Both w = both w in
        record {
          of_type = λ t. through x_name (through semicolon (through close_curly (base_done (whole (struct_of (onto (t ∷ ts) []))) w b)));
          of_declarator = λ k o. by_star k o (at_member ts w) (starred_done k [] ts w (base_done (whole (struct_of (onto (pointer_type ∷ ts) []))) w b) 0 (brackets o));
        }
    both (at_inner u) =
        let c : Completion r (settled u) = completes_settled u in
        record {
          of_type = λ t. through x_name (through close_round c);
          of_declarator = λ k o. by_star k o (at_inner u) (inner_settled u c (brackets o));
        }

    completes_settled : (u : Settled) → Completion r (settled u)
    completes_settled (a_parameter head ts n) = parameter_settled head ts n
    completes_settled (an_inner u n) = inner_settled u (completes_settled u) n
    completes_settled (a_pointer_member k ns ts w n) =
        member_settled k ns ts w (base_done (whole (struct_of (onto (arrays ns pointer_type ∷ ts) []))) w (both w)) n
    completes_settled (the_function d n) = function_settled d n

  -- ---- each state

  struct_ends : (ts : List Tree) (w : Where) → Completion r (after_member ts w)
  struct_ends ts w =
      through close_curly (base_done (whole (struct_of (onto ts []))) w (both w))

  member_ends : (t : Tree) (ns : List ℕ) (ts : List Tree) (w : Where) → Completion r (member_named t ns ts w)
  member_ends t ns ts w = through semicolon (struct_ends (arrays ns t ∷ ts) w)

  count_ends : (t : Tree) (ns : List ℕ) (ts : List Tree) (w : Where) → Completion r (counted t ns ts w)
  count_ends t ns ts w = through close_square (member_ends t ns ts w)

  member_at_ends : (b : Member) (ts : List Tree) (w : Where) → Completion r (member_at b ts w)
  member_at_ends (plain_member t ns n) ts w =
      plain_done t ns ts w (base_done (whole (struct_of (onto (arrays ns t ∷ ts) []))) w (both w)) n
  member_at_ends (starred_member k ns n m) ts w =
      starred_done k ns ts w (base_done (whole (struct_of (onto (arrays ns pointer_type ∷ ts) []))) w (both w)) n m

  bounded_ends : (b : Member) (ts : List Tree) (w : Where) → Completion r (member_bounded b ts w)
  bounded_ends b ts w = through close_square (member_at_ends b ts w)

  square_ends : (u : Settled) → Completion r (square_opened u)
  square_ends u = through close_square (completes_settled u)

  behind_words : (s : Said) (w : Where) → Named s → Completion r (after_words s w)
  behind_words s w k =
      through star (subst (λ o. Completion r (step_named_by o w star)) (sym k.1) ((both w).of_declarator k.0 (starred 0 (brackets (unstarred 0)))))

  words_complete : (s : Said) (w : Where) → Completion r (after_words s w)
  words_complete (an_integer g z true) w =
      behind_words (an_integer g z true) w (integer_named g z)
  words_complete (an_integer g z false) w =
      through int_word (behind_words (an_integer g z true) w (integer_named g z))
  words_complete (a_character c g) w =
      behind_words (a_character c g) w (character_named c g)
  words_complete (of_128_bits g) w =
      behind_words (of_128_bits g) w (of_128_bits_named g)
  words_complete (a_float c) w = behind_words (a_float c) w (float_named c)
  words_complete (a_double l c) w =
      behind_words (a_double l c) w (double_named l c)
  words_complete (a_complex true) w =
      through (type_word double) (behind_words (a_double true true) w (double_named true true))
  words_complete (a_complex false) w =
      through (type_word double) (behind_words (a_double false true) w (double_named false true))

  tag_completes : (w : Where) → Completion r (after_struct_tag w)
  tag_completes w =
      through star ((both w).of_declarator bare (starred 0 (brackets (unstarred 0))))

  by_reading : (q : Dialect) (w : Where) → Completion r (either q (wants_star w) (after_struct_tag w))
  by_reading plain w = star_done w (both w)
  by_reading wide w = tag_completes w

  pub completion : (s : State) → is_dead s ≡ false → Completion r s
  completion (wants_type w) e = through void_word (base_done nothing w (both w))
  completion (wants_base w) e = through void_word (base_done nothing w (both w))
  completion (after_words s w) e = words_complete s w
  completion (after_struct_tag w) e = tag_completes w
  completion (wants_tag w) e =
      through x_name ((both w).of_declarator bare (unstarred 0))
  completion (after_sign g w) e =
      through int_word ((both w).of_type (scalar (int_of g)))
  completion (after_short g w) e =
      through int_word ((both w).of_type (scalar (short_of g)))
  completion (after_long g w) e =
      through int_word ((both w).of_type (scalar (long_of g)))
  completion (after_long_long g w) e =
      through int_word ((both w).of_type (scalar (long_of g)))
  completion (after_struct w) e = through x_name (by_reading r w)
  completion (wants_star w) e = star_done w (both w)
  completion (sole_void head) e = through close_round (list_done r head [] None)
  completion (typed t w) e = (both w).of_type t
  completion (named head) e = through open_round (named_done head)
  completion (opened head) e = named_done head
  completion (parameter_named head ts) e =
      through close_round (list_done r head (onto ts []) head.fixed)
  completion (after_comma head ts) e =
      through void_word (base_done nothing (at_parameter head ts) (both (at_parameter head ts)))
  completion (after_dots d) e = (close_round ∷ [], d, refl)
  completion (member_named t ns ts w) e = member_ends t ns ts w
  completion (wants_count t ns ts w) e =
      through (number 1) (count_ends t (1 ∷ ns) ts w)
  completion (counted t ns ts w) e = count_ends t ns ts w
  completion (after_member ts w) e = struct_ends ts w
  completion (declarator k o w) e = (both w).of_declarator k o
  completion (round_opened k o w) e =
      through star ((both w).of_declarator k (starred 0 (brackets o)))
  completion (function_named called t o) e = function_done called t o
  completion (closing o d) e = round_closes o d
  completion (parameter_itself k n head ts) e =
      through open_square (square_ends (a_parameter head ts n))
  completion (inner_nothing n u) e =
      through open_square (square_ends (an_inner u n))
  completion (member_at b ts w) e = member_at_ends b ts w
  completion (member_bound b ts w) e =
      through (number 1) (bounded_ends (bound_of b 1) ts w)
  completion (member_bounded b ts w) e = bounded_ends b ts w
  completion (settled u) e = completes_settled u
  completion (square_opened u) e = square_ends u
  completion (square_filled u) e = through close_square (completes_settled u)
  completion (list_opened u) e = through close_round (completes_settled u)
  completion (list_void u) e = through close_round (completes_settled u)
  completion (list_comma u) e =
      through void_word (base_done nothing (at_inner u) (both (at_inner u)))
  completion (list_dots u) e = through close_round (completes_settled u)
  completion (wide_dots head ts) e =
      through close_round (list_done wide head (onto ts []) (Some (length ts)))
  completion (closed d) e = ([], d, refl)
  completion (ended d) e = ([], d, refl)
  completion dead e = absurd (true≢false e)

-- what a declaration may follow is live
pub live : (r : Dialect) (s : State) (xs : List Token) (d : Declaration) → Accepts r s xs d → is_dead s ≡ false
live r dead xs d h = absurd (never r d xs h)
live r s xs d h = refl

-- the dead state stays
pub stays_dead : (r : Dialect) (xs : List Token) → after r dead xs ≡ dead
stays_dead r [] = refl
stays_dead r (x ∷ xs) = stays_dead r xs

pub is_dead_state : (s : State) → is_dead s ≡ true → s ≡ dead
is_dead_state dead e = refl
is_dead_state s e = absurd (true≢false (sym e))

-- a state that is reached alive was alive before
pub live_before : (r : Dialect) (s : State) (xs : List Token) → is_dead (after r s xs) ≡ false → is_dead s ≡ false
live_before r dead xs e =
    absurd (true≢false (ap is_dead (sym (stays_dead r xs)) ∙ e))
live_before r s xs e = refl
