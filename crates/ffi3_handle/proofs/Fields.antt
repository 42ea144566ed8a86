-- The machine value of a `Handle`. Assumes `Logic`.
--     R, Z, Hd                   what is kept, the allocator and the handle, as types
--     both_good                  a pointer and the allocator's value are of the handle's type
--     boxed, tested              the memory of what is kept; its pointer may be compared with null
--     either                     what a handle owns beside its fields, by whether something is kept
--     handle_out, handle_in      a handle by value is [the memory, if something is kept; the allocator]
use Rattle.ffi3_handle.proofs.Words.{◌≡◌, ℕ, List, [], ◌∷◌, ◌++◌, refl, subst, Ura, impl, tnil, dnil, bare, ◌&&◌, T, Val, vptr, vnull, vstruct, of_list, has_ty, WT, full_share, ent, guard, guard_i, never, via, fst∗, snd∗, Fml, Logic, sem, Item, Goal, Seq, Step, step, ‵, given, ◌$◌, move, drop, learn, use1, fsplit, fjoin, fpick, fpack, feq_i, feq_l, fact_use, RattleType, Valss, lone, Ptr, block_ptr, null_ptr, ptr_val, lies_at, in_a_block, Testable, nothing, layout, Laws, within, shape, fields, to, Al, handle_tells, Good, Option, None, Some, Global, ghosts, box_owns, and_tt}
use mathlib.Core.Bool.{true}
use lib.Dec.{lit<}
use Rattle.std.specs.contracts.alloc.Global as heap
use Rattle.std.proofs.alloc.Global.TheLaws as heap_laws
use Rattle.std.proofs.GlobalToken.{dealloc_token-Testable}
use Rattle.ffi3_handle.specs.Owned.{kept_owns}
use Rattle.ffi3_handle.specs.contracts.kept.Kept as kept
use Rattle.ffi3_handle.specs.contracts.Handle as handle
use Rattle.ffi3_handle.proofs.Values.{both}

abbrev pub R : RattleType
R = kept.the_row

abbrev pub Z : RattleType
Z = heap.the_row

abbrev pub LZ : Laws Z
LZ = heap_laws.the_row_laws

abbrev pub Hd : RattleType
Hd = handle.the_row

abbrev pub al : Al
al = record { row = Z; laws = LZ; g = ghosts; d = impl [] tnil dnil; drops = impl [] tnil dnil }

pub both_good : (p : Ptr) (h : Val) → Good (layout Z) h → T (has_ty (layout Z) h && true) × WT (both (ptr_val p) h)
both_good (block_ptr b o) h fits = (and_tt (has_ty (layout Z) h) fits.0, (tt, (fits.1, tt)))
both_good null_ptr h fits = (and_tt (has_ty (layout Z) h) fits.0, (record { fits = lit< tt }, (fits.1, tt)))

-- the value x at p, and the right to free its block
abbrev pub boxed : Global → Ptr → R.Denot → Fml
boxed a p x = box_owns (ghosts.dealloc_token a) R p x

pub tested : {M : Type 1} {𝓤 : Ura M} (𝓛 : Logic 𝓤) (a : Global) (p : Ptr) (x : R.Denot) → ent 𝓤 (sem 𝓛 (boxed a p x)) (guard 𝓤 (Testable p) (sem 𝓛 (boxed a p x)))
tested {𝓤 = 𝓤} 𝓛 a p x =
    fact_use 𝓤 (Testable p) (via 𝓤 (sem 𝓛 (ghosts.dealloc_token a (bare (lone R.mir)) p)) (snd∗ 𝓤 (sem 𝓛 (lies_at R full_share p x)) (sem 𝓛 (ghosts.dealloc_token a (bare (lone R.mir)) p)))
    (dealloc_token-Testable 𝓛 a (bare (lone R.mir)) p)) (guard_i 𝓤 (Testable p) (sem 𝓛 (boxed a p x)))

module _ {M : Type 1} {𝓤 : Ura M} {𝓛 : Logic 𝓤} {K : Type 0} {Γ : List (Item 𝓤)} {G : Goal 𝓤 𝓛.H} where
  -- by what is kept
  pub either : K → (a : Global) (p : Ptr) (k : Option R.Denot) → (k ≡ None → p ≡ null_ptr → Seq K 𝓛 Γ G)
      → ((b o : ℕ) (x : R.Denot) → k ≡ Some x → p ≡ block_ptr b o → Testable (block_ptr b o) → Seq K 𝓛 (‵ (boxed a (block_ptr b o) x) ∷ Γ) G) → Seq K 𝓛 (‵ (kept_owns R a p k) ∷ Γ) G
  either t a p None none one = fpick t (λ e. drop t $ none refl e)
  either t a p (Some x) none one =
      in_a_block t p (λ q. boxed a q x) (fst∗ 𝓤 (never 𝓤) (sem 𝓛 (ghosts.dealloc_token a (bare (lone R.mir)) null_ptr))) (λ b o e.
      use1 𝓛 (given (Testable (block_ptr b o)) (‵ (boxed a (block_ptr b o) x))) (tested 𝓛 a (block_ptr b o) x) $ learn t (λ ok. one b o x refl e ok))

module _ {M : Type 1} {𝓤 : Ura M} {𝓛 : Logic 𝓤} {K : Type 0} {Γ : List (Item 𝓤)} {G : Goal 𝓤 𝓛.H} where
  -- a handle by value: what it owns beside its fields, and the allocator
  pub handle_out : K → (d : Hd.Denot) (vs : List Val)
      → ((h : Val) → d.kept ≡ None → d.at ≡ null_ptr → vs ≡ both vnull h ∷ [] → Good (layout Z) h → Seq K 𝓛 (‵ (Z.own_val d.alloc (h ∷ [])) ∷ Γ) G)
      → ((b o : ℕ) (h : Val) (x : R.Denot) → d.kept ≡ Some x → d.at ≡ block_ptr b o → Testable (block_ptr b o) → vs ≡ both (vptr b o) h ∷ [] → Good (layout Z) h
      → Seq K 𝓛 (‵ (boxed d.alloc (block_ptr b o) x) ∷ ‵ (Z.own_val d.alloc (h ∷ [])) ∷ Γ) G)
      → Seq K 𝓛 (‵ (Hd.own_val d vs) ∷ Γ) G
  handle_out t d vs none one =
      fsplit t $ fpick t (λ vss. fsplit t $ feq_l t (λ ev. fsplit t $ feq_l t (λ ep. fsplit t $ handle_tells al t d.alloc vss.1.0 (λ h ea fits. move t (1 ∷ []) $ drop t $ move t (1 ∷ []) $
      let is : (p : Ptr) → d.at ≡ p → vs ≡ both (ptr_val p) h ∷ [] = λ p e. subst (λ (q : Ptr). vs ≡ vstruct (of_list (ptr_val q ∷ h ∷ [])) ∷ []) e
      (subst (λ (ws : List Val). vs ≡ vstruct (of_list (ptr_val d.at ∷ (ws ++ []))) ∷ []) ea (subst (λ (ps : List Val). vs ≡ vstruct (of_list (ps ++ (vss.1.0 ++ []))) ∷ []) ep ev)) in
      either t d.alloc d.at d.kept (λ ek e. none h ek e (is null_ptr e) fits) (λ b o x ek e ok. one b o h x ek e ok (is (block_ptr b o) e) fits)))))

  pub handle_in : K → (p : Ptr) (h : Val) (a : Global) (k : Option R.Denot)
      → Step K 𝓛 (‵ (Hd.own_val (record { at = p; alloc = a; kept = k }) (both (ptr_val p) h ∷ [])) ∷ Γ) G (‵ (kept_owns R a p k) ∷ ‵ (Z.own_val a (h ∷ [])) ∷ Γ) G
  handle_in t p h a k = step (λ s. let v : Val = both (ptr_val p) h in
      nothing t $ move t (2 ∷ 0 ∷ []) $ fjoin t $ feq_i t (List Val) (ptr_val p ∷ []) (ptr_val p ∷ []) refl $ fjoin t $ feq_i t (List Val) (v ∷ []) (v ∷ []) refl $ fjoin t $
      fpack t (Valss (fields handle.the_type)) (within (shape handle.the_type) (to handle.the_type (record { at = p; alloc = a; kept = k })) (v ∷ [])) (ptr_val p ∷ [], (h ∷ [], tt)) $ fjoin t $ s)
