use Rattle.ffi3_handle.proofs.Words.{sendable}
use Rattle.ffi3_handle.proofs.Crosses.{kept_send, kept_sync}
use Rattle.ffi3_handle.proofs.kept.Kept.share.Goals as goal

-- src/kept.rt:37:9
pub crosses-requires-send-T : goal.crosses-requires-send-T
crosses-requires-send-T c κs = search (kept_send, sendable)

-- src/kept.rt:37:9
pub crosses-requires-sync-T : goal.crosses-requires-sync-T
crosses-requires-sync-T c κs = search (kept_sync, sendable)
