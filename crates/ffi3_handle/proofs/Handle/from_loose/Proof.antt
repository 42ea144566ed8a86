-- `from_loose` makes a handle of the pointer.
use Rattle.ffi3_handle.proofs.Words.{List, [], ◌∷◌, ◌++◌, refl, sym, subst, ◌≡◌, Val, vptr, SProp, ent, emp, id⊢, ftrue, WpFn, ‵, ◌⊛◌, ◌$◌, ◌∵◌, !, qed, by, keep, drop, split, fsplit, fjoin, suffices, use0, stop, fld, of_opd, no_more, and_then, returns, enter, alloc_all, pass_all, free_all, look_at, get, get_in, sets, agg, sub, whole, fact, fact_i, tables, yes, RattleType, owns, plain, block_ptr, nothing, Stays, stay_dropped, walk_of, Goes-blank, proved_at, leaves, Some, ghosts}
use types.Kit.{raw}
use Rattle.ffi3_handle.proofs.Values.{both, Loose, loose_good, loose_out}
use Rattle.ffi3_handle.proofs.Fields.{R, Z, LZ, handle_in}
use Rattle.ffi3_handle.specs.contracts.Handle.from_loose as f
use Rattle.ffi3_handle.specs.contracts.Handle.from_loose.Key.{name as key}
use Rattle.ffi3_handle.proofs.Handle.from_loose.Statement.{statement}
use Rattle.ffi3_handle.proofs.Handle.from_loose.Code as code

abbrev Lr : RattleType
Lr = Loose R Z LZ ghosts

abbrev stayed : Stays f.ended.signature.params f.ended.kept
stayed = (stay_dropped (plain (λ _. Lr)) yes, tt)

pub from_loose_spec : {M : Type 1} → statement M
from_loose_spec 𝓤 𝓛 𝓜 𝓡 wired =
    let H = 𝓛.H in let 𝓣 = tables 𝓤 H 𝓜 𝓡 𝓡.env in let c = f.clauses 𝓛 𝓜.mem 𝓡.returns in
    proved_at 𝓛 f.ended stayed c 𝓜 𝓡 (Goes-blank 𝓛 0 (plain (λ _. Lr)) yes (λ κs x f. tt), tt) key code.function (code.unfolded 𝓤 H 𝓜 𝓡 wired) (λ z are.
    let v = z.0.3.0 in let Post : Val → SProp 𝓤 = (walk_of 𝓛 f.ended stayed c).post z in let Run : List Val → SProp 𝓤 = λ ws. WpFn 𝓤 H 𝓣.C 𝓣.Λ code.function ws Post in
    qed 𝓛 ((‵ ftrue ⊛ ‵ (owns (Lr ∷ []) z.0.3 z.0.4)) ∷ raw ((c tt z.0.3).requires z.1) ∷ []) ∵ split ! $ drop ! $ fsplit ! $ loose_out R Z LZ ghosts ! v z.0.4.0 (λ b o h e ws fits.
    let w : Val = both (vptr b o) h in let typed = loose_good R Z LZ ghosts b o h fits in
    suffices ! (Run (w ∷ [])) (subst (λ (us : List Val). ent 𝓤 (Run (w ∷ [])) (Run us)) (sym (λ i. ws i ++ [])) (id⊢ 𝓤 (Run (w ∷ [])))) $ keep ! (0 ∷ 1 ∷ []) $
    enter ! 𝓣.C 𝓣.Λ code.function (w ∷ []) Post $ alloc_all ! (λ l. pass_all ! refl (typed, tt) $
    sets ! (of_opd ! (get_in ! (fld ! refl (stop !)) (sub ! 0 refl (whole !)))) refl (tt, tt) $ sets ! (of_opd ! (get_in ! (fld ! refl (stop !)) (sub ! 1 refl (whole !)))) refl fits $
    sets ! (of_opd ! (get ! refl)) refl (tt, tt) $ sets ! (agg ! (and_then ! (get ! refl) (and_then ! (get ! refl) (no_more !)))) refl typed $
    handle_in ! (block_ptr b o) h v.alloc (Some v.value) $
    use0 𝓛 (raw (fact 𝓤 (Some v.value ≡ Some v.value))) (fact_i 𝓤 (Some v.value ≡ Some v.value) (emp 𝓤) refl) $ nothing ! $ nothing ! $ fjoin ! $ nothing ! $
    returns ! (look_at ! 0 refl) $ free_all ! refl $ keep ! (0 ∷ 1 ∷ 3 ∷ 2 ∷ []) $ by ! (leaves 𝓛 f.ended stayed c z w (record { at = block_ptr b o; alloc = v.alloc; kept = Some v.value }) (tt, tt) (tt, tt)))))
