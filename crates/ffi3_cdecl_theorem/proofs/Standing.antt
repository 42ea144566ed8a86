-- The base that is told as the reason is the one that stands by value before the token, and no other does.
use Rattle.std.proofs.Common.{◌≡◌, ℕ, Bool, true, false, cond, List, [], ◌∷◌, ◌++◌, Some, refl, ap, sym, subst, ◌∙◌, append_assoc, true≢false}
use Rattle.std.specs.Prelude.{bytes_eq}
use Rattle.ffi3_type_spec.specs.Tree.{Scalar, Tree, scalar}
use Rattle.ffi3_cdecl_spec.specs.Tokens.{wide, Token, struct_word, union_word, enum_word, name}
use Rattle.ffi3_cdecl_spec.specs.Grammar.{Kind, whole, bare, nothing, kind_of_name_among, kind_of_name, header_types}
use Rattle.ffi3_cdecl_spec.specs.Machine.{State, step, after, begun, is_dead}
use Rattle.ffi3_cdecl_spec.specs.OnePass.{keeping}
use Rattle.ffi3_cdecl_spec.specs.Reading.{IsViableIn}
use Rattle.ffi3_cdecl_spec.specs.Reasons.{Base, a_struct_of, a_union_of, an_enum_of, a_type_named, base_tokens, by_value}
use Rattle.ffi3_cdecl_spec.specs.Telling.{wants_a_type, Track, no_track, behind_struct, behind_union, behind_enum, behind_base, tag_behind, tracked, reason_by, Reached, nothing_reached}
use Rattle.ffi3_cdecl_spec.proofs.Followed.{by_wanted, quiet_dead}
use Rattle.ffi3_cdecl_spec.proofs.Kept.{both_whole, both_declarator, both_round, both_itself}
use Rattle.ffi3_cdecl_spec.proofs.Told.{kept_count}
use Rattle.ffi3_cdecl_spec.proofs.Ways.{after-append}
use Rattle.ffi3_cdecl_theorem.specs.Exactly.{HasNoComma, StandsByValue}
use Rattle.ffi3_cdecl_theorem.proofs.Near.{an_int, Near, tagged, based, in_round, itself, Behind, reached, behind_all, by_this_base, NearTag, near_tag, tag_kept, TypeStands, type_stands}
use Rattle.ffi3_cdecl_theorem.proofs.Runs.{keeps, run, run_state, run_append, keeps_append, SomeStates, some_run, begun_same, some_dead, viable_keeps, not_viable_keeps, alive_before}

not_there : {A : Type 0} → true ≡ false → A
not_there e = absurd (true≢false e)

-- ---- names of a known size are no reason

-- no name is `void`
not_void : (b : Bool) (t : Tree) (k : Kind) → (k ≡ nothing → ⊥) → cond b (whole t) k ≡ nothing → ⊥
not_void true t k isnt e = cc
not_void false t k isnt e = isnt e

void_among : (called : List ℕ) (entries : List (List ℕ × Scalar)) → kind_of_name_among called entries ≡ nothing → ⊥
void_among called [] e = cc
void_among called (entry ∷ entries) e =
    not_void (bytes_eq called entry.0) (scalar entry.1) (kind_of_name_among called entries) (void_among called entries) e

bare_is_whole : {A : Type 0} (u : Tree) → whole u ≡ bare → A
bare_is_whole u e = absurd (cc)

-- a base of known size and int32_t lead to the same but for types
whole_alike : {r s t : State} {u : Tree} → Near (whole u) s t → SomeStates r s → SomeStates r t
whole_alike {u = u} (tagged e) h = bare_is_whole u e
whole_alike based (both_declarator (both_whole similar) p) = both_declarator (both_whole tt) p
whole_alike in_round (both_round (both_whole similar) p) = both_round (both_whole tt) p
whole_alike itself (both_itself (both_whole similar) h all) = both_itself (both_whole tt) h all

-- ---- what stands by value is told

module _ (start : List Token) (x : Token) (viable : IsViableIn wide start) (isnt : ¬ IsViableIn wide (start ++ x ∷ [])) where
  abbrev pub here : Reached
  here = run nothing_reached start

  here_keeps : here.state ≡ keeps begun start
  here_keeps = run_state nothing_reached start

  here_alive : is_dead here.state ≡ false
  here_alive = ap is_dead here_keeps ∙ viable_keeps start viable

  all_gone : is_dead (keeps begun (start ++ x ∷ [])) ≡ true
  all_gone = not_viable_keeps (start ++ x ∷ []) isnt

  here_gone : is_dead (keeping wide here.state x) ≡ true
  here_gone =
      ap (λ s. is_dead (keeping wide s x)) here_keeps ∙ ap is_dead (sym (keeps_append begun start (x ∷ []))) ∙ all_gone

  -- behind the tokens before the base
  module _ (before behind : List Token) (none : HasNoComma behind) (instead : IsViableIn wide ((before ++ an_int ∷ behind) ++ x ∷ [])) where
    abbrev q : Reached
    q = run nothing_reached before

    abbrev with_int : State
    with_int = keeping wide q.state an_int

    split_int : keeps begun ((before ++ an_int ∷ behind) ++ x ∷ []) ≡ keeping wide (keeps with_int behind) x
    split_int =
        keeps_append begun (before ++ an_int ∷ behind) (x ∷ []) ∙ ap (λ s. keeping wide s x) (keeps_append begun before (an_int ∷ behind)) ∙ ap (λ s. keeping wide (keeps (keeping wide s an_int) behind) x) (sym (run_state nothing_reached before))

    there : is_dead (keeping wide (keeps with_int behind) x) ≡ false
    there =
        ap is_dead (sym split_int) ∙ viable_keeps ((before ++ an_int ∷ behind) ++ x ∷ []) instead

    int_alive : is_dead with_int ≡ false
    int_alive =
        alive_before with_int behind (alive_before (keeps with_int behind) (x ∷ []) there)

    wanted : wants_a_type q.state ≡ true
    wanted =
        by_wanted (wants_a_type q.state) (λ e. e) (λ e. not_there (sym (ap is_dead (quiet_dead q.state e an_int tt)) ∙ sym (kept_count q.state an_int) ∙ int_alive))

    stands : TypeStands q.state
    stands = type_stands q.state wanted

    -- a word and a tag
    by_tag : (b : Base) (word : Token) (y : Track) (tag : List ℕ) → NearTag (keeping wide q.state word) with_int → tracked q.state q.track word ≡ y → tag_behind y tag ≡ behind_base b → Behind b (run q (word ∷ name tag ∷ behind)) (keeps with_int behind)
    by_tag b word y tag near e f =
        let s : State = keeping wide q.state word in
        let kept : tracked s (tracked q.state q.track word) (name tag) ≡ behind_base b = tag_kept near (tracked q.state q.track word) tag ∙ ap (λ z. tag_behind z tag) e ∙ f in
        subst (λ z. Behind b (run (reached (keeping wide s (name tag)) z) behind) (keeps with_int behind)) (sym kept) (behind_all b (keeping wide s (name tag)) with_int (near_tag near tag) behind none)

    by_name : (called : List ℕ) → kind_of_name called ≡ bare → Behind (a_type_named called) (run q (name called ∷ behind)) (keeps with_int behind)
    by_name called e =
        let near : Near bare (keeping wide q.state (name called)) with_int = subst (λ k. Near k (keeping wide q.state (name called)) with_int) e (stands.by_name called) in
        subst (λ z. Behind (a_type_named called) (run (reached (keeping wide q.state (name called)) z) behind) (keeps with_int behind)) (sym (stands.name_kept q.track called)) (behind_all (a_type_named called) (keeping wide q.state (name called)) with_int near behind none)

    -- were the size of the name known, the token could not stand behind int32_t either
    known : (called : List ℕ) (u : Tree) → kind_of_name called ≡ whole u → start ≡ before ++ (name called ∷ behind) → ⊥
    known called u e stood =
        let near : Near (whole u) (keeping wide q.state (name called)) with_int = subst (λ k. Near k (keeping wide q.state (name called)) with_int) e (stands.by_name called) in
        let before_same : SomeStates (after wide begun before) q.state = subst (λ s. SomeStates (after wide begun before) s) (sym (run_state nothing_reached before)) (begun_same before) in
        let named_same : SomeStates (step wide (after wide begun before) (name called)) (keeping wide q.state (name called)) = some_run (after wide begun before) q.state (name called ∷ []) before_same in
        let ends_same : is_dead (after wide (step wide (after wide begun before) (name called)) (behind ++ x ∷ [])) ≡ is_dead (keeps with_int (behind ++ x ∷ [])) = some_dead (some_run (step wide (after wide begun before) (name called)) with_int (behind ++ x ∷ []) (whole_alike near named_same)) in
        let joined : start ++ x ∷ [] ≡ before ++ name called ∷ (behind ++ x ∷ []) = ap (λ ts. ts ++ x ∷ []) stood ∙ append_assoc before (name called ∷ behind) (x ∷ []) in
        let gone : is_dead (after wide (step wide (after wide begun before) (name called)) (behind ++ x ∷ [])) ≡ true = ap is_dead (sym (after-append wide begun before (name called ∷ (behind ++ x ∷ [])))) ∙ ap (λ ts. is_dead (after wide begun ts)) (sym joined) ∙ some_dead (begun_same (start ++ x ∷ [])) ∙ all_gone in
        let alive : is_dead (keeps with_int (behind ++ x ∷ [])) ≡ false = ap is_dead (keeps_append with_int behind (x ∷ [])) ∙ there in
        not_there (sym gone ∙ ends_same ∙ alive)

    by_kind : (called : List ℕ) (k : Kind) → kind_of_name called ≡ k → start ≡ before ++ (name called ∷ behind) → Behind (a_type_named called) (run q (name called ∷ behind)) (keeps with_int behind)
    by_kind called (whole u) e stood = absurd (known called u e stood)
    by_kind called bare e stood = by_name called e
    by_kind called nothing e stood = absurd (void_among called header_types e)

    by_base : (b : Base) → start ≡ before ++ (base_tokens b ++ behind) → Behind b (run q (base_tokens b ++ behind)) (keeps with_int behind)
    by_base (a_struct_of tag) stood =
        by_tag (a_struct_of tag) struct_word behind_struct tag stands.by_struct (ap (λ v. cond v behind_struct no_track) wanted) refl
    by_base (a_union_of tag) stood =
        by_tag (a_union_of tag) union_word behind_union tag stands.by_union (ap (λ v. cond v behind_union no_track) wanted) refl
    by_base (an_enum_of tag) stood =
        by_tag (an_enum_of tag) enum_word behind_enum tag stands.by_enum (ap (λ v. cond v behind_enum no_track) wanted) refl
    by_base (a_type_named called) stood =
        by_kind called (kind_of_name called) refl stood

    told : (b : Base) → start ≡ before ++ (base_tokens b ++ behind) → reason_by here.state here.track x ≡ Some (by_value b)
    told b stood =
        let whole_run : run q (base_tokens b ++ behind) ≡ here = sym (run_append nothing_reached before (base_tokens b ++ behind)) ∙ ap (run nothing_reached) (sym stood) in
        by_this_base b here (keeps with_int behind) x (subst (λ p. Behind b p (keeps with_int behind)) whole_run (by_base b stood)) here_alive here_gone there

  pub stands_told : (b : Base) → StandsByValue start x b → reason_by here.state here.track x ≡ Some (by_value b)
  stands_told b v =
      told v.would_fit.before v.would_fit.behind v.nothing_between v.would_fit.instead b v.would_fit.stands
