use Rattle.ffi3_small_step_spec.proofs.Steps.{goes_by_step, paths_follow, served_is_rest}
use Rattle.ffi3_small_step_spec.proofs.Depths.{deepest_is_peak}
use Rattle.ffi3_small_step_spec.proofs.Nested.{peak_fits}
use Rattle.ffi3_small_step_spec.proofs.Opens.{text_by_parts}
use Rattle.ffi3_small_step_spec.proofs.step_laws.Goals as goal

pub returns : goal.returns
returns c = record { by_step = goes_by_step; paths = paths_follow; serving = served_is_rest; peaks = λ p. record { same = deepest_is_peak p; fits = peak_fits p }; texts = text_by_parts }
