-- What the grammar still wants of a function's parameters, in each reading; E says what follows the ")" behind them.
use Rattle.std.proofs.Common.{◌≡◌, ℕ, List, [], ◌∷◌, length, Option, Some, None, sym, subst}
use Rattle.ffi3_type_spec.specs.Tree.{Tree}
use Rattle.ffi3_cdecl_spec.specs.Tokens.{Dialect, wide, Token, void_word, close_round, comma, dots}
use Rattle.ffi3_cdecl_spec.specs.Grammar.{IsParameter, IsParameters, last_parameter, last_before_dots, before_types, next_parameter, IsParameterList, no_parameters, only_void, some_parameters}
use Rattle.ffi3_cdecl_spec.specs.Machine.{Head, onto, fixing}
use Rattle.ffi3_cdecl_spec.proofs.Fixed.{more_fixed, more_again, one_more_fixed, none_before}

module _ (r : Dialect) (E : Head → List Tree → Option ℕ → List Token → Type 0) where
  -- parameters behind these: before the dots, or behind so many that stood before them
  pub data ParametersFollow (head : Head) (ts : List Tree) : Option ℕ → List Token → Type 0 where
    before_dots : {xs behind : List Token} {us : List Tree} {f : Option ℕ} → IsParameters r xs behind us f → E head (onto ts us) (more_fixed (length ts) f) behind → ParametersFollow head ts None xs
    behind_dots : {xs behind : List Token} {us : List Tree} {n : ℕ} → IsParameters r xs behind us None → E head (onto ts us) (Some n) behind → ParametersFollow head ts (Some n) xs

  -- behind the dots
  pub data DotsFollow (head : Head) (ts : List Tree) : List Token → Type 0 where
    dots_end : {xs : List Token} → E head (onto ts []) (Some (length ts)) xs → DotsFollow head ts (close_round ∷ xs)
    types_follow : {xs : List Token} → r ≡ wide → ParametersFollow (fixing head (length ts)) ts (Some (length ts)) xs → DotsFollow head ts (comma ∷ xs)

  -- behind a comma
  pub data NextFollows (head : Head) (ts : List Tree) : Option ℕ → List Token → Type 0 where
    the_dots : {xs : List Token} {f : Option ℕ} → DotsFollow head ts xs → NextFollows head ts f (dots ∷ xs)
    the_next : {xs : List Token} {f : Option ℕ} → ParametersFollow head ts f xs → NextFollows head ts f xs

  -- behind a parameter and its name
  pub data CloseFollows (head : Head) (ts : List Tree) : Option ℕ → List Token → Type 0 where
    closes : {xs : List Token} {f : Option ℕ} → E head (onto ts []) f xs → CloseFollows head ts f (close_round ∷ xs)
    goes_on : {xs : List Token} → NextFollows head ts None xs → CloseFollows head ts None (comma ∷ xs)
    types_go_on : {xs : List Token} {n : ℕ} → ParametersFollow head ts (Some n) xs → CloseFollows head ts (Some n) (comma ∷ xs)

  -- behind "("
  pub data ListFollows (head : Head) : List Token → Type 0 where
    list_closes : {xs : List Token} → E head [] None xs → ListFollows head (close_round ∷ xs)
    list_of_void : {xs : List Token} → E head [] None xs → ListFollows head (void_word ∷ close_round ∷ xs)
    list_of_parameters : {xs : List Token} → ParametersFollow head [] head.fixed xs → ListFollows head xs

  pub data ListIs (head : Head) (xs : List Token) : Type 0 where
    list_is : {behind : List Token} {ts : List Tree} {f : Option ℕ} → IsParameterList r xs behind ts f → E head ts f behind → ListIs head xs

  some_is_none : (n : ℕ) → Some n ≡ None → ⊥
  some_is_none n e = cc

  by_fixed : {f g : Option ℕ} (head : Head) (ts : List Tree) (xs : List Token) → f ≡ g → E head ts f xs → E head ts g xs
  by_fixed head ts xs e h = subst (λ f. E head ts f xs) e h

  parameters_list : {xs : List Token} {f : Option ℕ} (head : Head) → f ≡ None → ParametersFollow head [] f xs → ListIs head xs
  parameters_list head e (before_dots {behind = ys} {us = us} {f = f} p h) =
      list_is (some_parameters p) (by_fixed head us ys (sym (none_before f)) h)
  parameters_list head e (behind_dots {n = n} p h) = absurd (some_is_none n e)

  -- of a list that begins, no dots have come
  pub list_by : {xs : List Token} (head : Head) → head.fixed ≡ None → ListFollows head xs → ListIs head xs
  list_by head e (list_closes h) = list_is no_parameters h
  list_by head e (list_of_void h) = list_is only_void h
  list_by head e (list_of_parameters p) = parameters_list head e p

  -- with a parameter in front, where what follows ")" does not ask what stood before the dots
  module _ (unfixes : (head : Head) (n : ℕ) (ts : List Tree) (f : Option ℕ) (xs : List Token) → E (fixing head n) ts f xs → E head ts f xs) where
    with_types : {xs behind : List Token} {t : Tree} (head : Head) (ts : List Tree) → r ≡ wide → IsParameter r xs (comma ∷ dots ∷ comma ∷ behind) t → ParametersFollow (fixing head (length (t ∷ ts))) (t ∷ ts) (Some (length (t ∷ ts))) behind → ParametersFollow head ts None xs
    with_types {t = t} head ts w p (behind_dots {behind = ys} {us = us} q h) =
        before_dots (before_types w p q) (by_fixed head (onto (t ∷ ts) us) ys (one_more_fixed (length ts)) (unfixes head (length (t ∷ ts)) (onto (t ∷ ts) us) (Some (length (t ∷ ts))) ys h))

    with_next : {xs behind : List Token} {t : Tree} (head : Head) (ts : List Tree) → IsParameter r xs (comma ∷ behind) t → ParametersFollow head (t ∷ ts) None behind → ParametersFollow head ts None xs
    with_next {t = t} head ts p (before_dots {behind = ys} {us = us} {f = f} q h) =
        before_dots (next_parameter p q) (by_fixed head (onto (t ∷ ts) us) ys (sym (more_again (length ts) f)) h)

    with_type : {xs behind : List Token} {t : Tree} {n : ℕ} (head : Head) (ts : List Tree) → IsParameter r xs (comma ∷ behind) t → ParametersFollow head (t ∷ ts) (Some n) behind → ParametersFollow head ts (Some n) xs
    with_type head ts p (behind_dots q h) = behind_dots (next_parameter p q) h

    with_last : {xs behind : List Token} {t : Tree} (head : Head) (ts : List Tree) (f : Option ℕ) → IsParameter r xs (close_round ∷ behind) t → E head (onto (t ∷ ts) []) f behind → ParametersFollow head ts f xs
    with_last head ts None p h = before_dots (last_parameter p) h
    with_last head ts (Some n) p h = behind_dots (last_parameter p) h

    pub with_parameter : {xs behind : List Token} {t : Tree} {f : Option ℕ} (head : Head) (ts : List Tree) → IsParameter r xs behind t → CloseFollows head (t ∷ ts) f behind → ParametersFollow head ts f xs
    with_parameter {f = f} head ts p (closes h) = with_last head ts f p h
    with_parameter {t = t} head ts p (goes_on (the_dots (dots_end {xs = ys} h))) =
        before_dots (last_before_dots p) (by_fixed head (onto (t ∷ ts) []) ys (one_more_fixed (length ts)) h)
    with_parameter head ts p (goes_on (the_dots (types_follow w q))) =
        with_types head ts w p q
    with_parameter head ts p (goes_on (the_next q)) = with_next head ts p q
    with_parameter head ts p (types_go_on q) = with_type head ts p q
