-- What is told of an unexpected place, computed by the machine of the wide reading. That it is so as the definitions of what is told have it is proved; a reason that stands there need not be told where a comma of members stands between.
use Rattle.std.specs.Prelude.{ℕ, zero, suc, Bool, true, false, cond, not, ◌&&◌, ◌||◌, List, [], ◌∷◌, take, drop, Option}
use Rattle.std.specs.Prelude.{Some, None, is_some}
use Rattle.ffi3_type_spec.specs.Tree.{s32, float, double, scalar}
use Rattle.ffi3_cdecl_spec.specs.Tokens.{wide, Sign, signed, unsigned, Token, type_word, sign_word, short_word}
use Rattle.ffi3_cdecl_spec.specs.Tokens.{int_word, long_word, int128_word, char_word, struct_word, union_word}
use Rattle.ffi3_cdecl_spec.specs.Tokens.{enum_word, complex_word, attribute_word, other_keyword, name, number}
use Rattle.ffi3_cdecl_spec.specs.Tokens.{open_round, Found, blank, skipped, nothing_known, found, found_in}
use Rattle.ffi3_cdecl_spec.specs.Grammar.{Kind, whole}
use Rattle.ffi3_cdecl_spec.specs.Machine.{State, wants_type, wants_base, after_struct, after_struct_tag, wants_tag}
use Rattle.ffi3_cdecl_spec.specs.Machine.{opened, after_comma, after_member, declarator, round_opened}
use Rattle.ffi3_cdecl_spec.specs.Machine.{parameter_itself, list_opened, list_comma, dead, unstarred, step, is_dead}
use Rattle.ffi3_cdecl_spec.specs.Machine.{finish, begun}
use Rattle.ffi3_cdecl_spec.specs.OnePass.{keeping}
use Rattle.ffi3_cdecl_spec.specs.Expected.{Expected, a_type, a_name, a_number, the_end, a_word, every_kind, sample}
use Rattle.ffi3_cdecl_spec.specs.Expected.{MOST_TOLD}
use Rattle.ffi3_cdecl_spec.specs.Reasons.{Base, a_struct_of, a_union_of, an_enum_of, a_type_named, Reason}
use Rattle.ffi3_cdecl_spec.specs.Reasons.{an_attribute, a_keyword, by_value, Told}

-- ---- what could stand in a state

abbrev pub lives : State → Token → Bool
lives s x = not (is_dead (step wide s x))

-- a type may stand there
abbrev pub wants_a_type : State → Bool
wants_a_type (wants_type w) = true
wants_a_type (wants_base w) = true
wants_a_type (opened head) = true
wants_a_type (after_comma head ts) = true
wants_a_type (after_member ts w) = true
wants_a_type (list_opened u) = true
wants_a_type (list_comma u) = true
wants_a_type s = false

-- the words of lists that name types
abbrev pub specifier_words : List Token
specifier_words =
    sign_word signed ∷ sign_word unsigned ∷ char_word signed ∷ char_word unsigned ∷ short_word ∷ int_word ∷ long_word
    ∷ int128_word ∷ type_word float ∷ type_word double ∷ complex_word ∷ []

abbrev pub one_lives : State → List Token → Bool
one_lives s [] = false
one_lives s (x ∷ xs) = lives s x || one_lives s xs

abbrev pub could : State → Expected → Bool
could s a_type = wants_a_type s
could s a_name = lives s (name []) && not (wants_a_type s)
could s a_number = lives s (number 0)
could s the_end = is_some (finish s)
could s a_word = one_lives s specifier_words && not (wants_a_type s)
could s k = lives s (sample k)

abbrev pub those : State → List Expected → List Expected
those s [] = []
those s (k ∷ ks) = cond (could s k) (k ∷ those s ks) (those s ks)

abbrev pub expected : State → List Expected
expected s = take MOST_TOLD (those s every_kind)

-- ---- the base that a declarator has, beside the state

-- What has been read last: nothing that matters, a word that a tag follows, or a base and perhaps brackets and a name.
pub data Track : Type 0 where
  no_track : Track
  behind_struct : Track
  behind_union : Track
  behind_enum : Track
  behind_base : Base → Track

-- a name where a type may stand
abbrev pub named_base : Bool → List ℕ → Track
named_base true called = behind_base (a_type_named called)
named_base false called = no_track

abbrev pub tag_behind : Track → List ℕ → Track
tag_behind behind_struct tag = behind_base (a_struct_of tag)
tag_behind behind_union tag = behind_base (a_union_of tag)
tag_behind behind_enum tag = behind_base (an_enum_of tag)
tag_behind y tag = no_track

-- a base, and nothing else
abbrev pub base_alone : Track → Track
base_alone (behind_base b) = behind_base b
base_alone y = no_track

abbrev pub name_behind_base : State → Track → List ℕ → Track
name_behind_base (after_struct w) y called = tag_behind y called
name_behind_base (wants_tag w) y called = tag_behind y called
name_behind_base (after_struct_tag w) y called = base_alone y
name_behind_base (declarator k o w) y called = base_alone y
name_behind_base s y called = named_base (wants_a_type s) called

abbrev pub bracket_behind_base : State → Track → Track
bracket_behind_base (after_struct_tag w) y = base_alone y
bracket_behind_base (declarator k o w) y = base_alone y
bracket_behind_base (round_opened k o w) y = base_alone y
bracket_behind_base s y = no_track

abbrev pub tracked : State → Track → Token → Track
tracked s y struct_word = cond (wants_a_type s) behind_struct no_track
tracked s y union_word = cond (wants_a_type s) behind_union no_track
tracked s y enum_word = cond (wants_a_type s) behind_enum no_track
tracked s y (name called) = name_behind_base s y called
tracked s y open_round = bracket_behind_base s y
tracked s y x = no_track

abbrev pub an_int32 : Kind
an_int32 = whole (scalar s32)

-- the state, were the base that has been read int32_t
abbrev pub sized : State → State
sized (after_struct w) = declarator an_int32 (unstarred 0) w
sized (wants_tag w) = declarator an_int32 (unstarred 0) w
sized (after_struct_tag w) = declarator an_int32 (unstarred 0) w
sized (declarator k o w) = declarator an_int32 o w
sized (round_opened k o w) = round_opened an_int32 o w
sized (parameter_itself k n head ts) = parameter_itself an_int32 n head ts
sized s = dead

-- ---- what is told

abbrev pub reason_of_base : Bool → Base → Option Reason
reason_of_base true b = Some (by_value b)
reason_of_base false b = None

abbrev pub reason_by : State → Track → Token → Option Reason
reason_by s (behind_base b) x = reason_of_base (lives (sized s) x) b
reason_by s y x = None

-- at a token that leads nowhere
abbrev pub reason_at : State → Track → Token → Option Reason
reason_at s y attribute_word = Some an_attribute
reason_at s y other_keyword = Some a_keyword
reason_at s y x = reason_by s y x

-- of a token of so many bytes, and of the end
abbrev pub told_at : State → Track → Token → ℕ → Told
told_at s y x n = record { taken = n; reason = reason_at s y x; expected = expected s }

abbrev pub told_at_end : State → Told
told_at_end s = record { taken = 0; reason = None; expected = expected s }

-- ---- in one pass over the bytes

-- the state, and what is kept beside it
pub record Reached : Type 0 where
  pub state : State
  pub track : Track

-- one token more
abbrev pub reaching : Reached → Token → Reached
reaching q x =
    record { state = keeping wide q.state x; track = tracked q.state q.track x }

abbrev pub reach_found : Found → Reached → (ℕ → Reached → Reached) → Reached
reach_found blank q go = go 0 q
reach_found (skipped more) q go = go more q
reach_found nothing_known q go = q
reach_found (found x more) q go = go more (reaching q x)

-- Behind the tokens that begin in so many bytes, where so many at the front are of a token already.
abbrev pub reach : Sign → ℕ → ℕ → Reached → List ℕ → Reached
reach c zero inside q bs = q
reach c (suc n) inside q [] = q
reach c (suc n) zero q (b ∷ bs) =
    reach_found (found_in wide c b bs) q (λ inside p. reach c n inside p bs)
reach c (suc n) (suc inside) q (b ∷ bs) = reach c n inside q bs

abbrev pub nothing_reached : Reached
nothing_reached = record { state = begun; track = no_track }

-- what stands there is told
abbrev pub told_found : Reached → Found → Told
told_found q (found x more) = told_at q.state q.track x (suc more)
told_found q f = told_at_end q.state

abbrev pub told_behind : Sign → Reached → List ℕ → Told
told_behind c q [] = told_at_end q.state
told_behind c q (b ∷ bs) = told_found q (found_in wide c b bs)

-- what is told of an unexpected place of a text
abbrev pub tell : Sign → List ℕ → ℕ → Told
tell c text at =
    told_behind c (reach c at 0 nothing_reached text) (drop at text)
