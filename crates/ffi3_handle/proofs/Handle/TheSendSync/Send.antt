-- A handle may go to another thread, since what is kept may.
use Rattle.ffi3_handle.proofs.Words.{lone, IsSend, owning_send, struct_send, sendable, RawPtr, Ptr, exits_of, shape, fields, to, Option, None, Some, Global}
use mir.Raw.{raw}
use base.Shift.{Keyless}
use Rattle.std.proofs.Crossing.{frees}
use Rattle.std.proofs.alloc.Global.TheSendSync as heap
use Rattle.std_alloc.proofs.SendSync.{quiet, lies}
use Rattle.ffi3_handle.specs.Owned.{kept_owns}
use Rattle.ffi3_handle.specs.contracts.kept.Kept.{the_row as kept_row}
use Rattle.ffi3_handle.specs.contracts.Handle.{the_row, the_type}
use Rattle.ffi3_handle.proofs.Crosses.{kept_send}

ps : IsSend RawPtr
ps = search sendable

kept_keyless : (a : Global) (p : Ptr) (k : Option (kept_row.Denot)) → Keyless (kept_owns kept_row a p k)
kept_keyless a p None = λ _. tt
kept_keyless a p (Some x) = (lies kept_row kept_send p x, frees.frees a (raw (lone kept_row.mir)) p)

pub send : IsSend the_row
send = owning_send the_type (ps, (heap.the_field_send, tt)) (λ d. kept_keyless d.alloc d.at d.kept)
    (λ k. quiet (to the_type) (exits_of k (fields the_type)) ((struct_send (shape the_type) (ps, (heap.the_field_send, tt))).leaving k))
