-- The words of the proofs by hand in this crate: programs, their steps, and what is owned.
pub use denote.RattleType.{RattleType, Valss, owns}
pub use denote.Param.Send.{IsSend, owning_send, struct_send, sendable}
pub use Rattle.std.proofs.Common.{◌≡◌, ℕ, List, [], ◌∷◌, ◌++◌, refl, subst, sym, ap, ◌∙◌, Bool, false}
pub use seplogic.Ra.Ura.{Ura}
pub use mir.Syntax.{impl, tnil, dnil, a_type, dcons, named}
pub use mir.Raw.{raw as bare}
pub use mathlib.Core.Bool.{◌&&◌}
pub use lib.Dec.{T}
pub use mir.Val.{Val, vptr, vnull, vstruct, of_list, has_ty, WT, vcons, vnil, vbool}
pub use base.Fraction.{full_share}
pub use base.Logic.{ent, guard, guard_i, never, via, fst∗, snd∗, SProp, id⊢, emp, sep}
pub use base.Fml.{Fml, ftrue, flft, fsep, Lft, GName, Share}
pub use types.Logic.{Logic, sem}
pub use types.Kit.{Item, Goal, Seq, Step, step, ‵, given, ◌$◌, move, drop, learn, use1, fsplit, fjoin, fpick, fpack, feq_i, feq_l, ◌⊛◌, some, later, at_ret, ◌∵◌, !, qed, by, keep, split, split3, join, pick, suffices, await, rewrite, use0, fsplit3, fjoin3, frame, done, group}
pub use contract.Monad.{fact_use, fact, fact_i, Fun}
pub use denote.Memory.{lone, cell_at}
pub use denote.RawPtr.{Ptr, block_ptr, null_ptr, ptr_val, lies_at, in_a_block, Testable, tests_null}
pub use denote.Steps.{nothing, only, heard, opens, owned, closes}
pub use denote.Param.{layout, param, bounded}
pub use denote.Param.Laws.{Laws, param_laws}
pub use denote.Struct.Struct.{within, exits_of}
pub use denote.Struct.Owning.{shape, fields, to}
pub use Rattle.std.proofs.alloc.Calls.{Al, handle_tells, Goes-blank}
pub use Rattle.std.proofs.cell.Inside.{Good}
pub use Rattle.std.specs.declared.option.Option.{Option}
pub use Rattle.std.specs.declared.option.Option.TheVariants.{None, Some}
pub use Rattle.std.specs.declared.alloc.Global.{Global}
pub use Rattle.std.specs.contracts.impls.GlobalAllocator.TheImpl.{ghosts}
pub use Rattle.std_alloc.specs.Box.Ownership.{box_owns}
pub use Rattle.std_alloc.proofs.ResultValues.{and_tt}
pub use denote.Builtin.{RawPtr, bool}
pub use mir.MapTy.{inst_fn}
pub use prog.Wp.{WpFn}
pub use types.Run.{stop, fld, of_opd, no_more, and_then, first, blocks, exec, returns, enter, load, addr, lit, bin, un, branches}
pub use types.ByLocal.{alloc_all, pass_all, free_all, look_at, get, get_in, sets, lands_last, env, lands_as, through, sets_last}
pub use types.Part.{sub, whole, agg, look_in}
pub use contract.Running.{tables}
pub use denote.Exit.{no, yes}
pub use denote.Signature.{types_at, plain, mut_ref_to, type_at}
pub use denote.Triple.Spec.{triple_of}
pub use denote.Triple.Call.{calls_at_last, calls_at}
pub use denote.Triple.Walked.{Stays, stay_dropped, walk_of, says, Goes-spent_ref, ends_at, Goes-dropped, stay_ref, Goes-ref}
pub use Rattle.std.proofs.alloc.Shapes.{after}
pub use denote.Triple.Table.{framed}
pub use Rattle.std_alloc.proofs.BoxSteps.Steps.{box_out, box_in}
pub use Rattle.std.proofs.raw_atomic.Walks.{proved_at, leaves, proved}
pub use denote.Ref.{MutRef, mut_vals, mut_Tells}
