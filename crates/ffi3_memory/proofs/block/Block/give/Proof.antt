-- `give` takes the bytes from `dislodge`, and gives the allocator its block and its token. Assumes `Logic`.
use Rattle.std.proofs.Common.{◌≡◌, ℕ, ◌^◌, ◌<◌, List, [], ◌∷◌, ◌++◌, refl, sym, ap, ◌∙◌, subst, lit<, w64}
use mir.Syntax.{Ty, Fn, Args, a_type, dcons, dnil, place}
use mir.Val.{Val, vptr, vint, vunit}
use mir.MapTy.{inst_fn}
use base.Logic.{SProp, id⊢}
use base.Fml.{Lft, Share, ftrue, flft}
use prog.Wp.{Env, WpFn}
use contract.BorrowLft.{◌⊑◌, ⊑_trans}
use contract.Monad.{fact}
use contract.Running.{tables}
use types.Kit.{‵, raw, ◌⊛◌, given, later, prop, settles, at_ret, ◌$◌, ◌∵◌, !, qed, by, move, drop, use1, use3, split, join, learn, rewrite, regoal, fsplit, fjoin, feq_i, await}
use types.Part.{whole, sub}
use types.Run.{stop, fld, lit, unit_lit, of_opd, no_more, and_then, first, blocks, exec, returns, enter}
use types.ByLocal.{alloc_all, pass_all, free_all, look_at, get, get_in, sets, lands_as, lands_last, env}
use denote.RattleType.{owns}
use denote.RawPtr.{Ptr, block_ptr, block_of, count_of}
use denote.Builtin.{u8}
use denote.Param.{bounded}
use denote.Signature.{types_at}
use denote.Steps.{nothing, heard}
use denote.Triple.Entry.{alive}
use denote.Triple.Call.{calls_at, calls_at_last}
use denote.Triple.Walked.{Stays, stay_dropped, walk_of, Goes-dropped}
use Rattle.std.proofs.alloc.Calls.{Al, seen, Goes-blank, Gives, at_gives, Gives-goes, Gives-Gives}
use Rattle.std.proofs.alloc.Shapes.{after}
use Rattle.std.proofs.raw_atomic.Walks.{proved_at, leaves}
use Rattle.std_alloc.proofs.vec.lodged.Vec+T+Lodged.dislodge.Met as callee
use Rattle.ffi3_memory.proofs.Walks.{fm, slot_at, then_runs, out_of_block, tells}
use Rattle.ffi3_memory.proofs.Values.{block_val, block_told}
use Rattle.ffi3_memory.proofs.Lodging.{byte_laws, Housed, housed-laws, Dislodges, at_dislodge, dislodge_goes, dislodge_gives, bytes_size, room_owns}
use Rattle.ffi3_memory.specs.Block.{bytes_type, block_owns}
use Rattle.ffi3_memory.specs.contracts.block.Block.give.{ended, clauses}
use Rattle.ffi3_memory.specs.contracts.block.Block.give.Key.{name as #self}
use Rattle.ffi3_memory.proofs.block.Block.give.Statement.{statement}
use Rattle.ffi3_memory.proofs.block.Block.give.Code as compiled

pub give_spec : {M : Type 1} → statement M
give_spec 𝓤 𝓛 𝓜 𝓡 wired A L g d dd met md =
    let H = 𝓛.H in
    let En₀ = ended A g d dd in
    let c = clauses A g d dd 𝓛 𝓜.mem 𝓡.returns in
    let args : Args = bounded (a_type ∷ []) (A, tt) (dcons d (dcons dd dnil)) in
    let fn : Fn = inst_fn args compiled.function in
    let hs : Stays En₀.signature.params En₀.kept = (stay_dropped (slot_at 0 En₀.signature.params) En₀.kept.0, (stay_dropped (slot_at 1 En₀.signature.params) En₀.kept.1.0, (stay_dropped (slot_at 2 En₀.signature.params) En₀.kept.1.1.0, tt))) in
    let C = (tables 𝓤 H 𝓜 𝓡 𝓡.env).C in
    let Λ = (tables 𝓤 H 𝓜 𝓡 𝓡.env).Λ in
    proved_at 𝓛 En₀ hs c 𝓜 𝓡 (Goes-blank 𝓛 2 (slot_at 0 En₀.signature.params) En₀.kept.0 (λ κs x f. tt), (Goes-blank 𝓛 2 (slot_at 1 En₀.signature.params) En₀.kept.1.0 (λ κs x f. tt), (Goes-dropped 𝓛 2 (slot_at 2 En₀.signature.params) En₀.kept.1.1.0 (λ κs x f. refl), tt))) (#self args) fn (compiled.unfolded 𝓤 H 𝓜 𝓡 wired (A, tt) d dd) (λ z are.
    let Post : Val → SProp 𝓤 = (walk_of 𝓛 En₀ hs c).post z in
    let a = z.0.3 in
    let vss = z.0.4 in
    let Y : Al = record { row = A; laws = L; g = g; d = d; drops = dd } in
    let κ : Lft = z.0.0.0 in
    let q : Share = z.0.1.0 in
    let x = a.0 in
    let v = a.1.0 in
    let h = a.1.1.0.now in
    let at = a.1.1.0.ref_ptr in
    let n = x.size in
    let τ : Ty = bytes_type n in
    let b = block_of x.ptr in
    let o = count_of x.ptr in
    let told = block_told x.ptr n vss.0 are.0.0 in
    let Asked : Type 0 = (x.alloc ≡ h) × (v.ptr ≡ x.ptr) × (v.cap ≡ n) in
    qed 𝓛 ((raw (alive 𝓛 En₀.signature z.0.0 z.0.1) ⊛ ‵ (owns (types_at En₀.signature.params z.0.0) a vss)) ∷ (raw (fact 𝓤 (z.0.0.1.0 ⊑ A.lives)) ⊛ raw (fact 𝓤 Asked)) ∷ []) ∵
    move ! (1 ∷ []) $ split ! $ heard ! (z.0.0.1.0 ⊑ A.lives) (λ le. heard ! Asked (λ asked. split ! $ move ! (1 ∷ []) $
    fsplit ! $ fsplit ! $ drop ! $ rewrite ! 0 (λ (u : A.Denot). ‵ (block_owns (g.dealloc_token u) x.ptr n)) asked.0 refl $
    move ! (1 ∷ []) $ fsplit ! $ tells ! Housed housed-laws v vss.1.0 (λ u is good. move ! (1 ∷ []) $ fsplit ! $
    fsplit ! $ drop ! $ move ! (1 ∷ []) $ drop ! $ use1 𝓛 (‵ (seen Y κ at h)) (id⊢ 𝓤 _) $ move ! (3 ∷ []) $ use1 𝓛 (‵ (flft κ q) ⊛ ‵ (flft z.0.0.1.0 z.0.1.1.0) ⊛ ‵ ftrue) (id⊢ 𝓤 _) $ split ! $ move ! (2 ∷ 0 ∷ []) $ join ! $ move ! (2 ∷ []) $
    -- [the vector; the handle and its lifetime; the other lifetime; the token]
    let y = at_gives Y 𝓛 𝓜.mem 𝓡.returns κ q at h b o n 1 τ in
    let w = at_dislodge 𝓛 𝓜.mem 𝓡.returns v u in
    let filled : 0 < v.cap = subst (λ (k : ℕ). 0 < k) (sym asked.2) x.fits.0 in
    regoal ! (λ (us : List Val). prop (WpFn 𝓤 H C Λ fn us Post)) (λ i. (told.0 ∙ ap (λ (r : Ptr). block_val r n ∷ []) x.placed) i ++ (is i ++ (are.1.1.0.0 i ++ []))) refl $
    enter ! C Λ fn (block_val (block_ptr b o) n ∷ u ∷ vptr at.0 at.1 ∷ []) Post $
    alloc_all ! (λ l. pass_all ! refl ((tt, (tt, (record { fits = told.1 }, (tt, tt)))), (good, ((tt, tt), tt))) $ let En : Env 𝓤 𝓛.H = env fn.locals l in
    sets ! (of_opd ! (get_in ! (fld ! refl (stop !)) (sub ! 0 refl (whole !)))) refl (tt, tt) $
    sets ! (of_opd ! (get_in ! (fld ! refl (stop !)) (sub ! 1 refl (whole !)))) refl (tt, record { fits = told.1 }) $
    sets ! (of_opd ! (get ! refl)) refl good $
    use1 𝓛 (raw ((Dislodges 𝓛 𝓜.mem 𝓡.returns).pre w)) (dislodge_goes 𝓛 𝓜.mem 𝓡.returns v u) $
    calls_at ! (fm 𝓛 𝓜 𝓡) (Dislodges 𝓛 𝓜.mem 𝓡.returns) (callee.met 𝓤 𝓛 𝓜 𝓡 (compiled.calls-std_alloc::vec::lodged::Vec+T+Lodged::dislodge 𝓡.env wired) u8 byte_laws) w (and_then ! (get ! refl) (no_more !)) (λ r.
    use1 𝓛 (later (given ((r ≡ vint w64 v.len) × (v.len < 2 ^ 64)) (‵ (room_owns v.ptr v.cap)))) (dislodge_gives 𝓛 𝓜.mem 𝓡.returns v u filled r) $ await ! tt $ learn ! (λ got.
    lands_as ! got.0 refl (tt, record { fits = got.1 }) $
    rewrite ! 0 (λ (p : Ptr). ‵ (room_owns p v.cap)) (asked.1 ∙ x.placed) refl $ rewrite ! 0 (λ (k : ℕ). ‵ (room_owns (block_ptr b o) k)) asked.2 refl $
    move ! (3 ∷ []) $ rewrite ! 0 (λ (p : Ptr). ‵ (block_owns (g.dealloc_token h) p n)) x.placed refl $ move ! (1 ∷ 0 ∷ []) $
    first ! $ blocks ! $
    use3 𝓛 (raw ((Gives Y 𝓛 𝓜.mem 𝓡.returns).pre y)) (Gives-goes Y 𝓛 𝓜.mem 𝓡.returns κ q at h (⊑_trans κ z.0.0.1.0 A.lives z.0.2.0 le) b o n 1 τ (bytes_size n x.fits) refl told.1 (lit< tt)) $
    calls_at_last ! (fm 𝓛 𝓜 𝓡) (Gives Y 𝓛 𝓜.mem 𝓡.returns) (met.deallocate dd) y (and_then ! (get ! refl) (and_then ! (get ! refl) (and_then ! (get ! refl) (and_then ! (lit ! tt) (no_more !))))) (λ e.
    use1 𝓛 (later (given (e ≡ vunit) (‵ (flft κ q)))) (Gives-Gives Y 𝓛 𝓜.mem 𝓡.returns κ q at h b o n 1 τ e) $ await ! tt $ learn ! (λ same. join ! $ regoal ! (λ (s : Val). settles En (place 8 []) s (out_of_block 𝓛 (then_runs 𝓛 C Λ En (after 5 fn.body) (at_ret En Post)))) same refl $ lands_last ! refl (tt, tt) $
    exec ! C Λ En (after 5 fn.body) (at_ret En Post) $
    sets ! (of_opd ! (unit_lit !)) refl (tt, tt) $
    returns ! (look_at ! 0 refl) $ free_all ! refl $
    feq_i ! (List Val) (vunit ∷ []) (vunit ∷ []) refl $ nothing ! $ nothing ! $ nothing ! $ fjoin ! $ nothing ! $ fjoin ! $ nothing ! $ fjoin ! $ move ! (3 ∷ 0 ∷ 2 ∷ 1 ∷ []) $
    by ! (leaves 𝓛 En₀ hs c z vunit tt (tt, (tt, (tt, tt))) (tt, (tt, (tt, tt)))))))))))))
