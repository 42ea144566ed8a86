-- What the places keep where each is one that the modelled machine has: sixteen facts, which are all laws of a standard that has no further words; and by every standard they hold of each signature that can be called.
use Rattle.std.specs.Prelude.{◌≡◌, ◌%◌, ◌++◌}
use Rattle.std.specs.List.{AllByRecursion, flat_map}
use Rattle.ffi3_type_spec.specs.TargetIsa.{isa_of}
use Rattle.ffi3_type_spec.specs.Signature.{Signature, HasNoLongDouble}
use Rattle.ffi3_place_spec.specs.MachineRegisters.{further_arguments}
use Rattle.ffi3_place_spec.specs.Standard.{Standard, plan_of, frame_of, need_of}
use Rattle.ffi3_place_spec.specs.Sound.{IsSound, IsOnMachine, AreApart, LiesIn, StandsIn, IsNoneOf, IsOnStackOrIn, IsWhole, PlacesHaveAll, PlacesAreFilled, PlaceRises, ResultHasAll, ResultIsFilled, call_locs, argument_locs, copy_locs, buffer_locs, hidden_locs, result_locs, place_locs, closed_to_arguments, closed_to_results}
use Rattle.ffi3_place_spec.proofs.Further.{IsNotFurther, each_in_front, each_behind, each_stands, each_lies, each_passed_in_more, each_passed_here, places_lowest, result_lowest}

pub record IsSoundOnMachine (std : Standard) (s : Signature) : Type 0 where
  pub apart : AreApart (call_locs s (plan_of std s))
  pub in_frame : AllByRecursion (LiesIn (isa_of std.target) (plan_of std s).frame) (call_locs s (plan_of std s))
  pub on_stack : AllByRecursion (LiesIn (isa_of std.target) (std.placing s).stack_bytes) (argument_locs (plan_of std s))
  pub allowed : AllByRecursion (IsNoneOf (closed_to_arguments std)) (argument_locs (plan_of std s))
  pub passed : AllByRecursion (IsOnStackOrIn std.argument_registers) (argument_locs (plan_of std s))
  pub has_all : PlacesHaveAll s.arguments (plan_of std s).places
  pub address : AllByRecursion IsWhole (hidden_locs (plan_of std s).res)
  pub filled : PlacesAreFilled std s.arguments (plan_of std s).places
  pub rising : AllByRecursion PlaceRises (plan_of std s).places
  pub result_apart : AreApart (result_locs (plan_of std s).res)
  pub result_in_registers : AllByRecursion (LiesIn (isa_of std.target) 0) (result_locs (plan_of std s).res)
  pub result_allowed : AllByRecursion (IsNoneOf (closed_to_results std)) (result_locs (plan_of std s).res)
  pub result_has_all : ResultHasAll s.result_type (plan_of std s).res
  pub result_filled : ResultIsFilled std s.result_type (plan_of std s).res
  pub frame_aligned : frame_of std s % 16 ≡ 0
  pub need_aligned : need_of std s % 16 ≡ 0

-- nothing that was kept before long doubles were placed is lost
pub as_before : (std : Standard) (s : Signature) → IsSound std s → HasNoLongDouble s → IsSoundOnMachine std s
as_before std s sound plain =
    let machine = sound.on_machine plain in
    record {
      apart = sound.apart;
      in_frame = machine.in_frame;
      on_stack = machine.on_stack;
      allowed = sound.allowed;
      passed = machine.passed;
      has_all = sound.has_all;
      address = sound.address;
      filled = sound.filled;
      rising = sound.rising;
      result_apart = sound.result_apart;
      result_in_registers = machine.result_in_registers;
      result_allowed = sound.result_allowed;
      result_has_all = sound.result_has_all;
      result_filled = sound.result_filled;
      frame_aligned = sound.frame_aligned;
      need_aligned = sound.need_aligned;
    }

-- where no place of any signature is a further word
pub sound_on_machine : (std : Standard) (s : Signature) → IsSoundOnMachine std s → IsSound std s
sound_on_machine std s sound =
    let isa = isa_of std.target in
    let p = plan_of std s in
    let stack = (std.placing s).stack_bytes in
    record {
      apart = sound.apart;
      in_frame = each_stands isa p.frame (call_locs s p) sound.in_frame;
      on_stack = each_stands isa stack (argument_locs p) sound.on_stack;
      allowed = sound.allowed;
      passed = each_passed_in_more std.argument_registers (further_arguments isa) (argument_locs p) sound.passed;
      lower_words = places_lowest isa stack p.places (each_behind (LiesIn isa stack) (hidden_locs p.res) (flat_map place_locs p.places) sound.on_stack);
      has_all = sound.has_all;
      address = sound.address;
      filled = sound.filled;
      rising = sound.rising;
      result_apart = sound.result_apart;
      result_in_registers = each_stands isa 0 (result_locs p.res) sound.result_in_registers;
      result_lower_words = result_lowest isa 0 p.res sound.result_in_registers;
      result_allowed = sound.result_allowed;
      result_has_all = sound.result_has_all;
      result_filled = sound.result_filled;
      frame_aligned = sound.frame_aligned;
      need_aligned = sound.need_aligned;
      on_machine = λ plain. record { in_frame = sound.in_frame; on_stack = sound.on_stack; passed = sound.passed; result_in_registers = sound.result_in_registers };
    }

-- a signature of whose places none is a further word
pub on_machine_without : (std : Standard) (s : Signature) → AllByRecursion (StandsIn (isa_of std.target) (plan_of std s).frame) (call_locs s (plan_of std s)) → AllByRecursion (StandsIn (isa_of std.target) (std.placing s).stack_bytes) (argument_locs (plan_of std s)) → AllByRecursion (IsOnStackOrIn (std.argument_registers ++ further_arguments (isa_of std.target))) (argument_locs (plan_of std s)) → AllByRecursion (StandsIn (isa_of std.target) 0) (result_locs (plan_of std s).res) → AllByRecursion (IsNotFurther (isa_of std.target)) (call_locs s (plan_of std s)) → AllByRecursion (IsNotFurther (isa_of std.target)) (result_locs (plan_of std s).res) → IsOnMachine std s
on_machine_without std s in_frame on_stack passed result_in_registers none none_in_result =
    let isa = isa_of std.target in
    let p = plan_of std s in
    let among = each_in_front (IsNotFurther isa) (argument_locs p) (copy_locs s.arguments p.places ++ buffer_locs s.result_type p.res) none in
    record {
      in_frame = each_lies isa p.frame (call_locs s p) in_frame none;
      on_stack = each_lies isa (std.placing s).stack_bytes (argument_locs p) on_stack among;
      passed = each_passed_here isa std.argument_registers (argument_locs p) passed among;
      result_in_registers = each_lies isa 0 (result_locs p.res) result_in_registers none_in_result;
    }
