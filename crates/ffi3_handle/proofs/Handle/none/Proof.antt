-- `none` makes a handle of null.
use Rattle.ffi3_handle.proofs.Words.{◌≡◌, List, [], ◌∷◌, ◌++◌, refl, sym, subst, Val, vnull, SProp, ent, emp, id⊢, ftrue, WpFn, ‵, ◌⊛◌, ◌$◌, ◌∵◌, !, qed, by, keep, drop, split, fsplit, fjoin, fpack, suffices, use0, lit, no_more, and_then, returns, enter, alloc_all, pass_all, free_all, look_at, get, sets, agg, fact, fact_i, tables, yes, owns, plain, null_ptr, nothing, Stays, stay_dropped, walk_of, Goes-dropped, handle_tells, proved_at, leaves, Option, None}
use types.Kit.{raw}
use Rattle.ffi3_handle.proofs.Values.{both}
use Rattle.ffi3_handle.proofs.Fields.{R, Z, al, both_good, handle_in}
use Rattle.ffi3_handle.specs.contracts.Handle.none as f
use Rattle.ffi3_handle.specs.contracts.Handle.none.Key.{name as key}
use Rattle.ffi3_handle.proofs.Handle.none.Statement.{statement}
use Rattle.ffi3_handle.proofs.Handle.none.Code as code

abbrev stayed : Stays f.ended.signature.params f.ended.kept
stayed = (stay_dropped (plain (λ _. Z)) yes, tt)

abbrev nowhere : Option R.Denot
nowhere = None

pub none_spec : {M : Type 1} → statement M
none_spec 𝓤 𝓛 𝓜 𝓡 wired =
    let H = 𝓛.H in let 𝓣 = tables 𝓤 H 𝓜 𝓡 𝓡.env in let c = f.clauses 𝓛 𝓜.mem 𝓡.returns in
    proved_at 𝓛 f.ended stayed c 𝓜 𝓡 (Goes-dropped 𝓛 0 (plain (λ _. Z)) yes (λ κs x f. refl), tt) key code.function (code.unfolded 𝓤 H 𝓜 𝓡 wired) (λ z are.
    let a = z.0.3.0 in let Post : Val → SProp 𝓤 = (walk_of 𝓛 f.ended stayed c).post z in let Run : List Val → SProp 𝓤 = λ ws. WpFn 𝓤 H 𝓣.C 𝓣.Λ code.function ws Post in
    qed 𝓛 ((‵ ftrue ⊛ ‵ (owns (Z ∷ []) z.0.3 z.0.4)) ∷ raw ((c tt z.0.3).requires z.1) ∷ []) ∵ split ! $ drop ! $ fsplit ! $ handle_tells al ! a z.0.4.0 (λ h ea fits. keep ! (0 ∷ []) $
    suffices ! (Run (h ∷ [])) (subst (λ (us : List Val). ent 𝓤 (Run (h ∷ [])) (Run us)) (sym (λ i. ea i ++ [])) (id⊢ 𝓤 (Run (h ∷ [])))) $
    enter ! 𝓣.C 𝓣.Λ code.function (h ∷ []) Post $ alloc_all ! (λ l. pass_all ! refl (fits, tt) $
    sets ! (agg ! (and_then ! (lit ! tt) (and_then ! (get ! refl) (no_more !)))) refl (both_good null_ptr h fits) $
    nothing ! $ fpack ! (null_ptr ≡ null_ptr) (λ _. ftrue) refl $ handle_in ! null_ptr h a nowhere $
    use0 𝓛 (raw (fact 𝓤 (nowhere ≡ nowhere))) (fact_i 𝓤 (nowhere ≡ nowhere) (emp 𝓤) refl) $ nothing ! $ nothing ! $ fjoin ! $ nothing ! $
    returns ! (look_at ! 0 refl) $ free_all ! refl $ keep ! (0 ∷ 1 ∷ 3 ∷ 2 ∷ []) $ by ! (leaves 𝓛 f.ended stayed c z (both vnull h) (record { at = null_ptr; alloc = a; kept = nowhere }) (tt, tt) (tt, tt)))))
