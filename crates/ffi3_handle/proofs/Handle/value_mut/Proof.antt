-- `value_mut` lends what is kept, and the handle follows it.
use Rattle.ffi3_handle.proofs.Words.{◌≡◌, ℕ, List, [], ◌∷◌, refl, sym, ap, ◌∙◌, Bool, false, subst, Ura, named, Val, vptr, full_share, SProp, ent, sep, Lft, GName, Share, Fml, ftrue, fsep, flft, Logic, sem, ‵, ◌⊛◌, some, later, at_ret, ◌$◌, ◌∵◌, !, qed, by, move, keep, use1, split, join, pick, fsplit, fsplit3, fjoin, fjoin3, fpack, rewrite, suffices, frame, done, await, group, enter, of_opd, load, addr, stop, fld, first, blocks, exec, returns, alloc_all, pass_all, free_all, look_at, get, through, sets, sets_last, env, whole, sub, look_in, Fun, fact, tables, no, cell_at, Ptr, block_ptr, MutRef, mut_vals, mut_Tells, plain, mut_ref_to, nothing, heard, opens, Stays, walk_of, says, stay_dropped, Goes-spent_ref, ends_at, bare, lone, proved, after, Some, ghosts}
use denote.Memory.{part_at, mem, part_of}
use Rattle.std.proofs.Common.{true}
use prog.Memory.{Memory}
use prog.Routine.{Routine}
use types.Kit.{raw}
use denote.Follow.{follows, Part, lends_Part}
use Rattle.ffi3_handle.proofs.Values.{both}
use Rattle.ffi3_handle.proofs.Fields.{R, Z, Hd, handle_in, handle_out}
use Rattle.ffi3_handle.specs.Kept.{is_kept}
use Rattle.ffi3_handle.specs.Lending.{with_kept}
use Rattle.ffi3_handle.specs.contracts.Handle.value_mut as f
use Rattle.ffi3_handle.proofs.Handle.value_mut.Statement.{statement}
use Rattle.ffi3_handle.proofs.Handle.value_mut.Code as code

abbrev stayed : Stays f.ended.signature.params f.ended.kept
stayed = (stay_dropped (mut_ref_to (0 ∷ []) tt (plain (λ _. Hd))) no, tt)

abbrev IsFalse : Bool → Type 0
IsFalse true = ⊥
IsFalse false = Unit {0}

module _ {M : Type 1} {𝓤 : Ura M} (𝓛 : Logic 𝓤) (at_mem : Memory → SProp 𝓤) (run : Routine → Fun 𝓤) (κ : Lft) (q : Share) (rb ro : ℕ) (γ : GName) (d : Hd.Denot) where
  open 𝓛 use {A}

  abbrev bound : (walk_of 𝓛 f.ended stayed (f.clauses 𝓛 at_mem run)).Ghost
  bound = (((κ, tt), (q, tt), tt, (record { ref_ptr = (rb, ro); ghost_name = γ; now = d }, tt), (vptr rb ro ∷ [], tt)), tt)

  module _ (b o : ℕ) (h : Val) where
    -- all of the handle but what is kept
    abbrev Rest : Fml
    Rest = fsep (ghosts.dealloc_token d.alloc (bare (lone R.mir)) (block_ptr b o)) (fsep (Z.own_val d.alloc (h ∷ [])) (cell_at full_share Hd.mir (both (vptr b o) h ∷ []) rb ro))

    back : d.at ≡ block_ptr b o → (w : R.Denot) → ent 𝓤 (sep 𝓤 (sem 𝓛 ((mem R).own_at w b o)) (sem 𝓛 Rest)) (sem 𝓛 ((mem Hd).own_at (with_kept d w) rb ro))
    unfolding part_of
    back e w =
        let v : Val = both (vptr b o) h in
        qed 𝓛 (‵ (part_at R full_share w b o) ∷ ‵ Rest ∷ []) ∵ move ! (1 ∷ []) $ fsplit3 ! $ move ! (3 ∷ 0 ∷ []) $ fjoin ! $
        handle_in ! (block_ptr b o) h d.alloc (Some w) $
        rewrite ! 0 (λ (p : Ptr). ‵ (Hd.own_val (record { at = p; alloc = d.alloc; kept = Some w }) (v ∷ []))) (sym e) refl $ move ! (1 ∷ 0 ∷ []) $ fjoin ! $
        fpack ! (List Val) (λ us. fsep (cell_at full_share Hd.mir us rb ro) (Hd.own_val (with_kept d w) us)) (v ∷ []) $ done !

    exits : (x : R.Denot) → d.kept ≡ Some x → (γ' : GName)
        → ent 𝓤 (sep 𝓤 (sem 𝓛 ((MutRef (named 0) κ R).own_val (record { ref_ptr = (b, o); ghost_name = γ'; now = x }) (vptr b o ∷ []))) (sep 𝓤 (A.lft κ q) (sem 𝓛 (follows Hd R γ γ' (with_kept d)))))
        ((walk_of 𝓛 f.ended stayed (f.clauses 𝓛 at_mem run)).post bound (vptr b o))
    exits x ek γ' =
        qed 𝓛 (‵ ((MutRef (named 0) κ R).own_val (record { ref_ptr = (b, o); ghost_name = γ'; now = x }) (vptr b o ∷ [])) ∷ ‵ (flft κ q) ∷ ‵ (follows Hd R γ γ' (with_kept d)) ∷ []) ∵
        suffices ! _ (ends_at 𝓛 f.ended stayed (f.clauses 𝓛 at_mem run) bound (vptr b o) (record { ref_ptr = (b, o); ghost_name = γ'; now = x }) (tt, tt) (tt, tt)) $
        nothing ! $ nothing ! $ fjoin ! $ join ! $ nothing ! $ move ! (2 ∷ 0 ∷ []) $ join ! $ join ! $ frame ! $ says ! (sym ek) $ done !

pub value_mut_spec : {M : Type 1} → statement M
value_mut_spec 𝓤 𝓛 𝓜 𝓡 wired =
    let c = f.clauses 𝓛 𝓜.mem 𝓡.returns in let W = walk_of 𝓛 f.ended stayed c in let 𝓣 = tables 𝓤 𝓛.H 𝓜 𝓡 𝓡.env in
    proved 𝓛 f.ended stayed c 𝓜 𝓡 (Goes-spent_ref 𝓛 1 (0 ∷ []) tt (plain (λ _. Hd)), tt)
    f.Key.name code.function (code.unfolded 𝓤 𝓛.H 𝓜 𝓡 wired)
    (λ κs. (mut_vals, tt)) (λ κs. (mut_Tells (named 0) κs.0 Hd, tt)) (λ κs qs bounds a _ are.
    let κ = κs.0 in let q = qs.0 in let rb = a.0.ref_ptr.0 in let ro = a.0.ref_ptr.1 in let γ = a.0.ghost_name in let d = a.0.now in let vs = mut_vals a.0 in
    let y : W.Ghost = ((κs, qs, bounds, a, (vs, tt)), tt) in
    qed 𝓛 (((‵ (flft κ q) ⊛ ‵ ftrue) ⊛ ‵ ((MutRef (named 0) κ Hd).own_val a.0 vs) ⊛ ‵ ftrue) ∷ raw (fact 𝓤 (is_kept d.kept ≡ true)) ∷ []) ∵
    move ! (1 ∷ []) $ heard ! (is_kept d.kept ≡ true) (λ is.
    split ! $ split ! $ move ! (2 ∷ []) $ split ! $ keep ! (0 ∷ 2 ∷ []) $
    enter ! _ _ _ _ _ $ alloc_all ! (λ l. pass_all ! refl ((tt, tt), tt) $
    let Ev = env code.Mir.locals l in
    fsplit3 ! $ move ! (1 ∷ 2 ∷ 3 ∷ []) $ opens ! tt Hd rb ro (λ us. move ! (1 ∷ []) $ handle_out ! d us
    (λ h ek ep ws fits. absurd (subst IsFalse (sym (ap is_kept ek) ∙ is) tt))
    (λ b o h x ek e ok ws fits. fsplit ! $
    rewrite ! 3 (λ (us : List Val). ‵ (cell_at full_share Hd.mir us rb ro)) ws refl $
    -- [what is kept; the token; the allocator; the handle's cell; the open borrow; obs; auth]
    first ! $ blocks ! $
    sets ! (of_opd ! (load ! (through ! refl (fld ! refl (stop !))) (look_in ! 3 (sub ! 0 refl (whole !))))) refl (tt, tt) $
    sets ! (of_opd ! (get ! refl)) refl (tt, tt) $
    sets_last ! (addr ! (through ! refl (stop !))) refl (tt, tt) $
    exec ! 𝓣.C 𝓣.Λ Ev (after 1 (code.function).body) (at_ret Ev (W.post y)) $
    sets ! (of_opd ! (get ! refl)) refl (tt, tt) $
    move ! (1 ∷ 2 ∷ 3 ∷ []) $ fjoin3 ! $ move ! (2 ∷ 3 ∷ 4 ∷ 1 ∷ 0 ∷ []) $ group ! 5 $
    let S : SProp 𝓤 = sem 𝓛 (Rest 𝓛 𝓜.mem 𝓡.returns κ q rb ro γ d b o h) in let B = back 𝓛 𝓜.mem 𝓡.returns κ q rb ro γ d b o h e in
    use1 𝓛 (later (some (λ (γ' : GName). raw (Part 𝓛 Hd R (with_kept d) (named 0) κ q rb ro b o γ S B x γ'))))
    (lends_Part 𝓛 Hd R (with_kept d) (named 0) κ q rb ro b o γ S B (Hd.coded.code d) (Hd.coded.code d) x) $ await ! tt $ pick ! (λ γ'.
    returns ! (look_at ! 0 refl) $ free_all ! refl $ keep ! (0 ∷ []) $ by ! (exits 𝓛 𝓜.mem 𝓡.returns κ q rb ro γ d b o h x ek γ')))))))
