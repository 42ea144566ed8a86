-- Comments, byte by byte.
use Rattle.std.proofs.Common.{◌≡◌, ℕ, suc, ◌+◌, ◌<◌, ◌≤◌, Bool, true, false, cond, List, [], ◌∷◌, length, get_or, drop, ap, sym, refl, ◌∙◌, arith, ne_eqb, Option, Some, None, option_map}
use Rattle.std.specs.Prelude.{◌==◌}
use Rattle.std.proofs.lemmas.List.{drop_more, drop_all}
use Rattle.ffi3_cdecl_spec.specs.Tokens.{Found, skipped, nothing_known, CommentPlace, in_comment, place_behind, closes_comment, is_spliced_behind, ends_line, line_length, comment_length, comment_at, passed_over}

-- a length that is counted from n bytes before
abbrev pub later : ℕ → Option ℕ → Option ℕ
later n o = option_map (λ k. n + k) o

pub later_more : (n : ℕ) (o : Option ℕ) → later n (option_map suc o) ≡ later (n + 1) o
later_more n None = refl
later_more n (Some k) =
    let e : n + suc k ≡ n + 1 + k = omega arith in
    ap Some e

-- the length from byte n on, of a comment that stands so there
abbrev pub comment_from : CommentPlace → ℕ → List ℕ → Option ℕ
comment_from p n bs = later n (comment_length p (drop n bs))

pub comment_more : (p : CommentPlace) (bs : List ℕ) (n : ℕ) → n < length bs → closes_comment p (get_or bs n 0) ≡ false → comment_from p n bs ≡ comment_from (place_behind p (get_or bs n 0)) (n + 1) bs
comment_more p bs n h e =
    let rest : Option ℕ = comment_length (place_behind p (get_or bs n 0)) (drop (n + 1) bs) in
    ap (λ cs. later n (comment_length p cs)) (drop_more bs n 0 h) ∙ ap (λ b. later n (cond b (Some 1) (option_map suc rest))) e ∙ later_more n rest

pub comment_here : (p : CommentPlace) (bs : List ℕ) (n : ℕ) → n < length bs → closes_comment p (get_or bs n 0) ≡ true → comment_from p n bs ≡ Some (n + 1)
comment_here p bs n h e =
    let rest : Option ℕ = comment_length (place_behind p (get_or bs n 0)) (drop (n + 1) bs) in
    ap (λ cs. later n (comment_length p cs)) (drop_more bs n 0 h) ∙ ap (λ b. later n (cond b (Some 1) (option_map suc rest))) e

pub comment_never : (p : CommentPlace) (bs : List ℕ) (n : ℕ) → length bs ≤ n → comment_from p n bs ≡ None
comment_never p bs n h =
    ap (λ cs. later n (comment_length p cs)) (drop_all n bs h)

pub later_none : (o : Option ℕ) → later 0 o ≡ o
later_none None = refl
later_none (Some k) =
    let e : 0 + k ≡ k = omega arith in
    ap Some e

pub comment_begins : (bs : List ℕ) → comment_from in_comment 0 bs ≡ comment_length in_comment bs
comment_begins bs = later_none (comment_length in_comment bs)

-- ---- the rest of a line

-- bytes up to its end, counted from the first, where n are behind us
abbrev pub line_from : Bool → ℕ → List ℕ → ℕ
line_from spliced n bs = n + line_length spliced (drop n bs)

pub line_begins : (bs : List ℕ) → line_from false 0 bs ≡ line_length false bs
line_begins bs = omega arith

pub line_more : (spliced : Bool) (bs : List ℕ) (n : ℕ) → n < length bs → ends_line spliced (get_or bs n 0) ≡ false → line_from spliced n bs ≡ line_from (is_spliced_behind spliced (get_or bs n 0)) (n + 1) bs
line_more spliced bs n h e =
    let rest : ℕ = line_length (is_spliced_behind spliced (get_or bs n 0)) (drop (n + 1) bs) in
    let sum : n + suc rest ≡ n + 1 + rest = omega arith in
    ap (λ cs. n + line_length spliced cs) (drop_more bs n 0 h) ∙ ap (λ b. n + cond b 0 (suc rest)) e ∙ sum

pub line_stops : (spliced : Bool) (bs : List ℕ) (n : ℕ) → n < length bs → ends_line spliced (get_or bs n 0) ≡ true → line_from spliced n bs ≡ n
line_stops spliced bs n h e =
    let rest : ℕ = line_length (is_spliced_behind spliced (get_or bs n 0)) (drop (n + 1) bs) in
    let sum : n + 0 ≡ n = omega arith in
    ap (λ cs. n + line_length spliced cs) (drop_more bs n 0 h) ∙ ap (λ b. n + cond b 0 (suc rest)) e ∙ sum

pub line_gone : (spliced : Bool) (bs : List ℕ) (n : ℕ) → length bs ≤ n → line_from spliced n bs ≡ n
line_gone spliced bs n h =
    let sum : n + 0 ≡ n = omega arith in
    ap (λ cs. n + line_length spliced cs) (drop_all n bs h) ∙ sum

-- ---- what stands behind a "/"

-- a comment by its first two bytes
abbrev by_second : ℕ → Option ℕ → ℕ → Found
by_second b o n =
    cond (b == 42) (passed_over o) (cond (b == 47) (skipped (suc n)) nothing_known)

behind_slash : (bs : List ℕ) → 0 < length bs → comment_at bs ≡ by_second (get_or bs 0 0) (comment_length in_comment (drop 1 bs)) (line_length false (drop 1 bs))
behind_slash [] h = absurd (omega arith)
behind_slash (b ∷ bs) h = refl

pub nothing_behind : (bs : List ℕ) → length bs ≡ 0 → nothing_known ≡ comment_at bs
nothing_behind [] e = refl
nothing_behind (b ∷ bs) e = absurd (omega (arith, e))

pub star_closed : (bs : List ℕ) (o : Option ℕ) (n : ℕ) → 0 < length bs → get_or bs 0 0 ≡ 42 → o ≡ comment_length in_comment (drop 1 bs) → o ≡ Some n → skipped (n + 1) ≡ comment_at bs
star_closed bs o n h is e some =
    let more : n + 1 ≡ suc n = omega arith in
    ap skipped more ∙ ap passed_over (sym some ∙ e) ∙ ap (λ b. by_second b (comment_length in_comment (drop 1 bs)) (line_length false (drop 1 bs))) (sym is) ∙ sym (behind_slash bs h)

pub star_open : (bs : List ℕ) (o : Option ℕ) → 0 < length bs → get_or bs 0 0 ≡ 42 → o ≡ comment_length in_comment (drop 1 bs) → o ≡ None → nothing_known ≡ comment_at bs
star_open bs o h is e none =
    ap passed_over (sym none ∙ e) ∙ ap (λ b. by_second b (comment_length in_comment (drop 1 bs)) (line_length false (drop 1 bs))) (sym is) ∙ sym (behind_slash bs h)

pub a_line : (bs : List ℕ) (n : ℕ) → 0 < length bs → get_or bs 0 0 ≡ 47 → n ≡ line_length false (drop 1 bs) → skipped (n + 1) ≡ comment_at bs
a_line bs n h is e =
    let more : n + 1 ≡ suc n = omega arith in
    ap skipped (more ∙ ap suc e) ∙ ap (λ b. by_second b (comment_length in_comment (drop 1 bs)) (line_length false (drop 1 bs))) (sym is) ∙ sym (behind_slash bs h)

pub no_comment : (bs : List ℕ) → 0 < length bs → (get_or bs 0 0 ≡ 42 → ⊥) → (get_or bs 0 0 ≡ 47 → ⊥) → nothing_known ≡ comment_at bs
no_comment bs h no_star no_slash =
    sym (behind_slash bs h ∙ ap (λ t. cond t (passed_over (comment_length in_comment (drop 1 bs))) (cond (get_or bs 0 0 == 47) (skipped (suc (line_length false (drop 1 bs)))) nothing_known)) (ne_eqb (get_or bs 0 0) 42 no_star) ∙ ap (λ t. cond t (skipped (suc (line_length false (drop 1 bs)))) nothing_known) (ne_eqb (get_or bs 0 0) 47 no_slash))
