use Rattle.ffi3_type_spec.proofs.Padding.{differ_in_padding_alone}
use Rattle.ffi3_values.proofs.from_bytes.differ_in_padding_alone.Goals as goal

pub returns : goal.returns
returns c = differ_in_padding_alone
