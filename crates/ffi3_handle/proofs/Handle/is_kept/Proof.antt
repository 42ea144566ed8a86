-- `is_kept` compares the handle's pointer with null.
use Rattle.ffi3_handle.proofs.Words.{◌≡◌, List, [], ◌∷◌, refl, sym, ap, false, named, Val, vptr, vnull, vbool, full_share, ftrue, flft, ‵, ◌⊛◌, ◌$◌, ◌∵◌, !, qed, done, move, keep, split, join, fsplit3, fpack, rewrite, suffices, frame, group, enter, of_opd, lit, bin, un, load, stop, fld, returns, alloc_all, pass_all, free_all, look_at, get, through, sets, whole, sub, look_in, tables, bool, cell_at, block_ptr, null_ptr, tests_null, MutRef, mut_vals, mut_Tells, plain, nothing, owned, opens, closes, Stays, walk_of, stay_ref, Goes-ref, ends_at, proved, None, Some}
use Rattle.std.proofs.Common.{lit<, true}
use denote.Plain.{bool_Makes}
use Rattle.std.proofs.mem.Facts.{says_two}
use Rattle.ffi3_handle.proofs.Values.{both}
use Rattle.ffi3_handle.proofs.Fields.{Hd, handle_in, handle_out}
use Rattle.ffi3_handle.specs.Kept.{is_kept}
use Rattle.ffi3_handle.specs.contracts.Handle.is_kept as f
use Rattle.ffi3_handle.proofs.Handle.is_kept.Statement.{statement}
use Rattle.ffi3_handle.proofs.Handle.is_kept.Code as code

abbrev stayed : Stays f.ended.signature.params f.ended.kept
stayed = (stay_ref (0 ∷ []) tt (plain (λ _. Hd)), tt)

pub is_kept_spec : {M : Type 1} → statement M
is_kept_spec 𝓤 𝓛 𝓜 𝓡 wired =
    let c = f.clauses 𝓛 𝓜.mem 𝓡.returns in let W = walk_of 𝓛 f.ended stayed c in let 𝓣 = tables 𝓤 𝓛.H 𝓜 𝓡 𝓡.env in
    proved 𝓛 f.ended stayed c 𝓜 𝓡 (Goes-ref 𝓛 1 0 tt (plain (λ _. Hd)), tt)
    f.Key.name code.function (code.unfolded 𝓤 𝓛.H 𝓜 𝓡 wired)
    (λ κs. (mut_vals, tt)) (λ κs. (mut_Tells (named 0) κs.0 Hd, tt)) (λ κs qs bounds a _ are.
    let b = a.0.ref_ptr.0 in let o = a.0.ref_ptr.1 in let d = a.0.now in let vs = mut_vals a.0 in
    let y : W.Ghost = ((κs, qs, bounds, a, (vs, tt)), tt) in
    let Cell = λ (us : List Val). ‵ (cell_at full_share Hd.mir us b o) in
    qed 𝓛 (((‵ (flft κs.0 qs.0) ⊛ ‵ ftrue) ⊛ ‵ ((MutRef (named 0) κs.0 Hd).own_val a.0 vs) ⊛ ‵ ftrue) ∷ ‵ ftrue ∷ []) ∵
    split ! $ split ! $ move ! (2 ∷ []) $ split ! $ keep ! (0 ∷ 2 ∷ []) $
    enter ! _ _ _ _ _ $ alloc_all ! (λ l. pass_all ! refl ((tt, tt), tt) $
    fsplit3 ! $ move ! (1 ∷ 2 ∷ 3 ∷ []) $ opens ! tt Hd b o (λ us. move ! (1 ∷ []) $ handle_out ! d us
    (λ h ek ep ws fits. let v : Val = both vnull h in let same : d ≡ record { at = null_ptr; alloc = d.alloc; kept = None } = λ i. record { at = ep i; alloc = d.alloc; kept = ek i } in
    rewrite ! 1 Cell ws refl $
    sets ! (of_opd ! (load ! (through ! refl (fld ! refl (stop !))) (look_in ! 1 (sub ! 0 refl (whole !))))) refl (tt, record { fits = lit< tt }) $
    sets ! (bin ! (get ! refl) (lit ! tt) tt) refl (tt, tt) $ sets ! (un ! (get ! refl) tt) refl (tt, tt) $
    nothing ! $ fpack ! (null_ptr ≡ null_ptr) (λ _. ftrue) refl $ handle_in ! null_ptr h d.alloc None $
    rewrite ! 0 (λ (m : Hd.Denot). ‵ (Hd.own_val m (v ∷ []))) (sym same) refl $
    move ! (1 ∷ 0 ∷ []) $ closes ! tt Hd d (v ∷ []) b o $
    returns ! (look_at ! 0 refl) $ free_all ! refl $ move ! (3 ∷ []) $
    suffices ! _ (ends_at 𝓛 f.ended stayed c y (vbool false) false (d, tt) (tt, tt)) $ says_two ! (ap is_kept (sym ek), refl) $
    group ! 3 $ nothing ! $ move ! (1 ∷ 0 ∷ []) $ join ! $ nothing ! $ move ! (2 ∷ 0 ∷ []) $ join ! $ frame ! $ frame ! $
    owned ! bool _ (bool_Makes 𝓛) false _ refl $ done !)
    (λ b' o' h x ek ep ok ws fits. let v : Val = both (vptr b' o') h in let same : d ≡ record { at = block_ptr b' o'; alloc = d.alloc; kept = Some x } = λ i. record { at = ep i; alloc = d.alloc; kept = ek i } in
    rewrite ! 2 Cell ws refl $
    sets ! (of_opd ! (load ! (through ! refl (fld ! refl (stop !))) (look_in ! 2 (sub ! 0 refl (whole !))))) refl (tt, tt) $
    sets ! (bin ! (get ! refl) (lit ! tt) (tests_null (block_ptr b' o') ok)) refl (tt, tt) $ sets ! (un ! (get ! refl) tt) refl (tt, tt) $
    handle_in ! (block_ptr b' o') h d.alloc (Some x) $
    rewrite ! 0 (λ (m : Hd.Denot). ‵ (Hd.own_val m (v ∷ []))) (sym same) refl $
    move ! (1 ∷ 0 ∷ []) $ closes ! tt Hd d (v ∷ []) b o $
    returns ! (look_at ! 0 refl) $ free_all ! refl $ move ! (3 ∷ []) $
    suffices ! _ (ends_at 𝓛 f.ended stayed c y (vbool true) true (d, tt) (tt, tt)) $ says_two ! (ap is_kept (sym ek), refl) $
    group ! 3 $ nothing ! $ move ! (1 ∷ 0 ∷ []) $ join ! $ nothing ! $ move ! (2 ∷ 0 ∷ []) $ join ! $ frame ! $ frame ! $
    owned ! bool _ (bool_Makes 𝓛) true _ refl $ done !))))
