-- A standard for rows of traces: the numbers of System V AMD64, for signatures whose arguments and result all stand in registers.
use Rattle.std.specs.Prelude.{[], ◌∷◌, map, None}
use Rattle.ffi3_type_spec.specs.declared.Target.TheVariants.{Amd64}
use Rattle.ffi3_place_spec.specs.declared.Loc.TheVariants.{G}
use Rattle.ffi3_place_spec.specs.declared.Ext.TheVariants.{Free}
use Rattle.ffi3_place_spec.specs.Standard.{Standard, in_pieces, in_result_pieces, start}

abbrev pub in_registers : Standard
in_registers = record {
  target = Amd64;
  link = 8;
  save = 56;
  stack_pointer = G 4;
  callee_saved = G 3 ∷ G 5 ∷ G 12 ∷ G 13 ∷ G 14 ∷ G 15 ∷ [];
  reserved = [];
  link_register = None;
  argument_registers = [];
  save_area = [];
  trampoline_registers = [];
  vector_count = None;
  returned_address = None;
  narrow = Free;
  single = Free;
  copy_start = start;
  placing = λ s. record {
    arguments = map (λ t. in_pieces []) s.arguments;
    result_spot = in_result_pieces [];
    stack_bytes = 0;
    vector_registers = 0;
  };
}
