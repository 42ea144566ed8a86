use Rattle.ffi3_host_stubs.proofs.Laws.{all_call, all_return, all_enter, all_leave, all_reach, exit_without_gap, slot_without_distance}
use Rattle.ffi3_host_stubs.proofs.host_stub_laws.Goals as goal

pub returns : goal.returns
returns c = record {
  calls = all_call;
  returns = all_return;
  enters = all_enter;
  leaves = all_leave;
  reaches = all_reach;
  exit_of_model = exit_without_gap;
  slot_of_model = slot_without_distance;
}
