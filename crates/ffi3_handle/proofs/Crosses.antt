-- What is kept may go to another thread, and be read by several at once.
use denote.RattleType.{RattleType}
use denote.Struct.Declared.{shape}
use denote.Param.Send.{IsSend, IsSync, sendable, recorded_send, recorded_sync, struct_send, struct_sync, view_send, view_sync}
use Rattle.std.proofs.Crossing.{crosses}
use Rattle.std.proofs.option.Option.TheSendSync as option
use Rattle.std.proofs.marker.PhantomData.TheSendSync as phantom
use Rattle.ffi3_types.specs.contracts.Fields as fields
use Rattle.ffi3_types.specs.contracts.FfiType as ffi_type
use Rattle.ffi3_types.specs.contracts.sig.Sig as sig
use Rattle.ffi3_types.proofs.Fields.TheLaws.TheKnot as types
use Rattle.ffi3_place_spec.proofs.Plan.TheSendSync as plan
use Rattle.ffi3_cif.proofs.runs.AllRuns.TheSendSync as runs
use Rattle.ffi3_cif.specs.contracts.placed.Placed as placed
use Rattle.ffi3_cif.specs.contracts.placed.Placed.TheInside as in_placed
use Rattle.ffi3_prepared.specs.contracts.Prepared as prepared
use Rattle.ffi3_handle.specs.contracts.kept.Kept as kept

fields_send : IsSend (fields.the_field).row
fields_send = search (crosses, types.crosses, sendable) depth 60 fits 20000

fields_sync : IsSync (fields.the_field).row
fields_sync = search (crosses, types.crosses, sendable) depth 60 fits 20000

type_send : IsSend (ffi_type.the_field).row
type_send = search (crosses, types.crosses, sendable) depth 60 fits 20000

type_sync : IsSync (ffi_type.the_field).row
type_sync = search (crosses, types.crosses, sendable) depth 60 fits 20000

sig_send : IsSend (sig.the_field).row
sig_send = search (fields_send, type_send, option.the_field_send, sendable) depth 60 fits 20000

sig_sync : IsSync (sig.the_field).row
sig_sync = search (fields_sync, type_sync, option.the_field_sync, sendable) depth 60 fits 20000

-- a signature with its plan, by any standard
module _ (T : RattleType) (g : _) where
  in_placed_send : IsSend (in_placed.the_row T g)
  in_placed_send =
      recorded_send (in_placed.the_field T g).row _ _ (in_placed.the_type T g).to_one (struct_send (shape (in_placed.the_type T g)) (search (sig_send, plan.the_field_send, runs.the_send, phantom.the_field_send, sendable)))

  placed_send : IsSend (placed.the_row T g)
  placed_send = view_send (in_placed.the_row T g) _ _ (placed.the_view T g) (placed.the_invariant T g) in_placed_send

  in_placed_sync : IsSync (in_placed.the_row T g)
  in_placed_sync =
      recorded_sync (in_placed.the_field T g).row _ _ (in_placed.the_type T g).to_one (struct_sync (shape (in_placed.the_type T g)) (search (sig_sync, plan.the_field_sync, runs.the_sync, phantom.the_field_sync, sendable)))

  placed_sync : IsSync (placed.the_row T g)
  placed_sync = view_sync (in_placed.the_row T g) _ _ (placed.the_view T g) (placed.the_invariant T g) in_placed_sync

prepared_send : IsSend prepared.the_row
prepared_send = search (placed_send, sendable) depth 60 fits 20000

prepared_sync : IsSync prepared.the_row
prepared_sync = search (placed_sync, sendable) depth 60 fits 20000

pub kept_send : IsSend kept.the_row
kept_send = search (crosses, prepared_send, prepared_sync, sendable) depth 60 fits 20000

pub kept_sync : IsSync kept.the_row
kept_sync = search (crosses, prepared_send, prepared_sync, sendable) depth 60 fits 20000
