-- What stands round a declarator, one token further to the left, in the wide reading.
use Rattle.std.proofs.Common.{◌≡◌, ℕ, zero, suc, ◌+◌, ◌<◌, true, false, List, ◌∷◌, sym, subst, refl, arith}
use Rattle.ffi3_cdecl_spec.specs.Tokens.{wide, Token, name, open_round, close_round, open_square, star}
use Rattle.ffi3_cdecl_spec.specs.Grammar.{Kind, MOST_OPEN, Shape, a_value, handed, array_shape, pointer_shape, Naming, may_be_named, may_begin, opens_round, IsSuffixes, no_suffix, known_array, open_array, named_array, a_list, IsDeclarator, a_pointer, a_named, unnamed, in_round}
use Rattle.ffi3_cdecl_spec.specs.Machine.{Round, unstarred, starred, and_more, brackets, star_inside, bracket_inside}
use Rattle.ffi3_cdecl_spec.proofs.Shapes.{IsntVoid, Lent, lent_handed, lent_pointer, lent_array}
use Rattle.ffi3_cdecl_spec.proofs.WideRest.{Closings, no_bracket, a_bracket, Outside, no_outside, outside_bracket, inside_star, at_star, DeclaratorFollows, declarator_follows, BehindName, behind_name, SettledFollows, settles, InnerListFollows, inner_list_follows, BoundThen, a_bound, no_bound, named_bound}

-- ---- the same tokens behind another shape

pub record SuffixesOf (m : ℕ) (xs mid : List Token) (s : Shape) : Type 0 where
  pub shape : Shape
  pub suffixes : IsSuffixes wide m xs mid s shape
  pub lent : Lent s → Lent shape
  pub still : IsntVoid s → IsntVoid shape

-- of suffixes behind which it is handed
lent_by : {m : ℕ} {xs mid : List Token} {s : Shape} → IsSuffixes wide m xs mid s handed → SuffixesOf m xs mid s
lent_by q =
    record { shape = handed; suffixes = q; lent = λ l. lent_handed; still = λ i. lent_handed.isnt_void }

pub behind_another : {m : ℕ} {xs mid : List Token} {s t : Shape} → IsSuffixes wide m xs mid s t → (u : Shape) → SuffixesOf m xs mid u
behind_another no_suffix u =
    record { shape = u; suffixes = no_suffix; lent = λ l. l; still = λ i. i }
behind_another {m = m} {mid = mid} (known_array {before = xs} {n = n} q is) u =
    let more : SuffixesOf m xs mid u = behind_another q u in
    record { shape = array_shape more.shape n; suffixes = known_array more.suffixes refl; lent = λ l. lent_array more.shape n; still = λ i. (lent_array more.shape n).isnt_void }
behind_another (open_array q) u =
    lent_by (open_array (behind_another q u).suffixes)
behind_another (named_array is q) u =
    lent_by (named_array is (behind_another q u).suffixes)
behind_another (a_list room l q) u =
    lent_by (a_list room l (behind_another q u).suffixes)

-- ---- what stands outside, by the brackets alone

pub record UnstarredOutside (k : Kind) (m n : ℕ) (mid behind : List Token) : Type 0 where
  pub shape : Shape
  pub outside : Outside k m (unstarred n) shape mid behind
  pub still : IsntVoid (a_value k) → IsntVoid shape

pub unstarred_outside : {m n : ℕ} {mid behind : List Token} (k : Kind) → Closings m n mid behind → UnstarredOutside k m n mid behind
unstarred_outside k no_bracket =
    record { shape = a_value k; outside = no_outside; still = λ i. i }
unstarred_outside k (a_bracket q c) =
    let more = unstarred_outside k c in
    let here = behind_another q more.shape in
    record { shape = here.shape; outside = outside_bracket here.suffixes more.outside; still = λ i. here.still (more.still i) }

pub record StarredOutside (k : Kind) (m n j : ℕ) (mid behind : List Token) : Type 0 where
  pub shape : Shape
  pub outside : Outside k m (starred n j) shape mid behind
  pub is_lent : Lent shape

pub starred_outside : {m : ℕ} {mid behind : List Token} (k : Kind) (n j : ℕ) → Closings m (and_more n j) mid behind → StarredOutside k m n j mid behind
starred_outside k zero j c =
    record { shape = pointer_shape; outside = at_star c; is_lent = lent_pointer }
starred_outside k (suc n) j (a_bracket q c) =
    let more = starred_outside k n j c in
    let here = behind_another q more.shape in
    record { shape = here.shape; outside = inside_star here.suffixes more.outside; is_lent = here.lent more.is_lent }

pub record SomeOutside (k : Kind) (m : ℕ) (o : Round) (mid behind : List Token) : Type 0 where
  pub shape : Shape
  pub outside : Outside k m o shape mid behind

pub any_outside : {m : ℕ} {mid behind : List Token} (k : Kind) (o : Round) → Closings m (brackets o) mid behind → SomeOutside k m o mid behind
any_outside k (unstarred n) c =
    let out = unstarred_outside k c in
    record { shape = out.shape; outside = out.outside }
any_outside k (starred n j) c =
    let out = starred_outside k n j c in
    record { shape = out.shape; outside = out.outside }

-- ---- behind a name

module _ (n : ℕ) (E : Shape → List Token → Type 0) where
  pub bracket_behind : {xs : List Token} (k : Kind) (o : Round) → BehindName n E k o xs → BehindName n E k (bracket_inside o) (close_round ∷ xs)
  bracket_behind k (unstarred i) (behind_name {m = m} e q o f) =
      let deeper : suc m ≡ n + suc i = omega (arith, e) in
      behind_name deeper no_suffix (outside_bracket q o) f
  bracket_behind k (starred i j) (behind_name {m = m} e q o f) =
      let deeper : suc m ≡ n + suc (and_more i j) = omega (arith, e) in
      behind_name deeper no_suffix (inside_star q o) f

  pub nothing_behind : {xs : List Token} (k : Kind) → E (a_value k) xs → BehindName n E k (unstarred zero) xs
  nothing_behind k f = behind_name refl no_suffix no_outside f

  -- where what follows does not matter
  module _ (X : List Token → Type 0) (lend : (s : Shape) (xs : List Token) → Lent s → X xs → E s xs) where
    -- a "[" and a "("
    pub square_behind : {m : ℕ} {xs : List Token} (k : Kind) (o : Round) → m ≡ n + brackets o → BoundThen (SettledFollows m (brackets o) X) xs → BehindName n E k o (open_square ∷ xs)
    square_behind k o e (a_bound {n = i} (settles {behind = ys} q c x)) =
        let out = any_outside k o c in
        let here = behind_another q out.shape in
        behind_name e (known_array here.suffixes refl) out.outside (lend (array_shape here.shape i) ys (lent_array here.shape i) x)
    square_behind k o e (no_bound (settles {behind = ys} q c x)) =
        let out = any_outside k o c in
        behind_name e (open_array (behind_another q out.shape).suffixes) out.outside (lend handed ys lent_handed x)
    square_behind k o e (named_bound is (settles {behind = ys} q c x)) =
        let out = any_outside k o c in
        behind_name e (named_array is (behind_another q out.shape).suffixes) out.outside (lend handed ys lent_handed x)

    pub list_behind : {m : ℕ} {xs : List Token} (k : Kind) (o : Round) → m ≡ n + brackets o → m < MOST_OPEN → InnerListFollows m (SettledFollows m (brackets o) X) xs → BehindName n E k o (open_round ∷ xs)
    list_behind k o e room (inner_list_follows l (settles {behind = ys} q c x)) =
        let out = any_outside k o c in
        behind_name e (a_list room l (behind_another q out.shape).suffixes) out.outside (lend handed ys lent_handed x)

    -- what stands inside a star
    pub star_behind : {m : ℕ} {xs : List Token} (k : Kind) (i j : ℕ) → m ≡ n + and_more i j → SettledFollows m (and_more i j) X xs → BehindName n E k (starred i j) xs
    star_behind k i j e (settles {behind = ys} q c x) =
        let out = starred_outside k i j c in
        let here = behind_another q out.shape in
        behind_name e here.suffixes out.outside (lend here.shape ys (here.lent out.is_lent) x)

  -- and where it must not be `void` alone
  module _ (X : List Token → Type 0) (lend : (s : Shape) (xs : List Token) → IsntVoid s → X xs → E s xs) where
    pub kept_behind : {m : ℕ} {xs : List Token} (k : Kind) (i : ℕ) → m ≡ n + i → IsntVoid (a_value k) → SettledFollows m i X xs → BehindName n E k (unstarred i) xs
    kept_behind k i e isnt (settles {behind = ys} q c x) =
        let out = unstarred_outside k c in
        let here = behind_another q out.shape in
        behind_name e here.suffixes out.outside (lend here.shape ys (here.still (out.still isnt)) x)

-- ---- a declarator

module _ (a : Naming) (n : ℕ) (E : Shape → List Token → Type 0) where
  pub name_declarator : {xs : List Token} {called : List ℕ} {k : Kind} {o : Round} → BehindName n E k o xs → DeclaratorFollows a n E k o (name called ∷ xs)
  name_declarator (behind_name e q o f) = declarator_follows e (a_named q) o f

  pub star_declarator : {xs : List Token} (k : Kind) (o : Round) → DeclaratorFollows a n E k (star_inside o) xs → DeclaratorFollows a n E k o (star ∷ xs)
  star_declarator k o (declarator_follows e p (at_star c) f) =
      declarator_follows e (a_pointer p) (any_outside k o c).outside f

  pub bracket_declarator : {xs : List Token} (k : Kind) (o : Round) → n + brackets o < MOST_OPEN → may_begin a xs ≡ true → DeclaratorFollows a n E k (bracket_inside o) xs → DeclaratorFollows a n E k o (open_round ∷ xs)
  bracket_declarator k (unstarred i) room begins (declarator_follows e p (outside_bracket {m = m} q o) f) =
      let there : m ≡ n + i = omega (arith, e) in
      declarator_follows there (in_round begins (subst (λ j. j < MOST_OPEN) (sym there) room) p q) o f
  bracket_declarator k (starred i j) room begins (declarator_follows e p (inside_star {m = m} q o) f) =
      let there : m ≡ n + and_more i j = omega (arith, e) in
      declarator_follows there (in_round begins (subst (λ h. h < MOST_OPEN) (sym there) room) p q) o f

  pub data Grounded (k : Kind) (xs : List Token) : Type 0 where
    grounded : {behind : List Token} {t : Shape} → IsDeclarator wide a n xs behind (a_value k) t → E t behind → Grounded k xs

  -- outside of all brackets
  pub ground : {xs : List Token} {k : Kind} → DeclaratorFollows a n E k (unstarred zero) xs → Grounded k xs
  ground {xs = xs} {k = k} (declarator_follows {m = m} {behind = ys} {t = t} e p no_outside f) =
      let there : m ≡ n = omega (arith, e) in
      grounded (subst (λ j. IsDeclarator wide a j xs ys (a_value k) t) there p) f

pub unnamed_declarator : {n : ℕ} {xs : List Token} {k : Kind} {o : Round} (E : Shape → List Token → Type 0) → opens_round xs ≡ false → BehindName n E k o xs → DeclaratorFollows may_be_named n E k o xs
unnamed_declarator E no_list (behind_name e q o f) =
    declarator_follows e (unnamed no_list q) o f
