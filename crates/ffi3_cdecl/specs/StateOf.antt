-- The state of the machine that each Rust state stands for.
use Rattle.std.specs.Prelude.{box_value}
use Rattle.ffi3_cdecl_spec.specs.Machine as machine
use Rattle.ffi3_types.specs.TreeOf.{tree_of}
use Rattle.ffi3_cdecl.specs.TokenOf.{sign_of}
use Rattle.ffi3_cdecl.specs.RoundOf.{round_of}
use Rattle.ffi3_cdecl.specs.SaidOf.{said_of, kind_of}
use Rattle.ffi3_cdecl.specs.declared.state.Head.{Head}
use Rattle.ffi3_cdecl.specs.declared.state.Where.{Where}
use Rattle.ffi3_cdecl.specs.declared.state.Where.TheVariants.{Result, Parameter, Member', Inner'}
use Rattle.ffi3_cdecl.specs.declared.state.Settled.{Settled}
use Rattle.ffi3_cdecl.specs.declared.state.Settled.TheVariants.{OfParameter, OfInner', OfMember', OfFunction}
use Rattle.ffi3_cdecl.specs.declared.state.Member.{Member}
use Rattle.ffi3_cdecl.specs.declared.state.Member.TheVariants.{Plain, Starred}
use Rattle.ffi3_cdecl.specs.declared.state.State.{State}
use Rattle.ffi3_cdecl.specs.declared.state.State.TheVariants as s
use Rattle.ffi3_cdecl.specs.declared.state.Wide.{Wide}
use Rattle.ffi3_cdecl.specs.declared.state.Wide.TheVariants as w

abbrev pub head_of : Head → machine.Head
head_of h = record {
  called = h.called;
  result_type = tree_of h.result_type;
  fixed = h.fixed;
  round = round_of h.round;
}

abbrev mutual
  pub where_of : Where → machine.Where
  where_of Result = machine.at_result
  where_of (Parameter head ts) = machine.at_parameter (head_of head) ts
  where_of (Member' ts p w) = machine.at_member ts (where_of w)
  where_of (Inner' p u) = machine.at_inner (settled_of u)

  pub settled_of : Settled → machine.Settled
  settled_of (OfParameter head ts n) = machine.a_parameter (head_of head) ts n
  settled_of (OfInner' p u n) = machine.an_inner (settled_of u) n
  settled_of (OfMember' k ns ts p w n) =
      machine.a_pointer_member (kind_of k) ns ts (where_of w) n
  settled_of (OfFunction d n) = machine.the_function d n

abbrev pub member_of : Member → machine.Member
member_of (Plain t ns n) = machine.plain_member (tree_of t) ns n
member_of (Starred k ns n m) = machine.starred_member (kind_of k) ns n m

abbrev pub wide_of : Wide → machine.State
wide_of (w.AfterWords said at) = machine.after_words (said_of said) (where_of at)
wide_of (w.AfterStructTag at) = machine.after_struct_tag (where_of at)
wide_of (w.WantsTag at) = machine.wants_tag (where_of at)
wide_of (w.Declarator k o at) = machine.declarator (kind_of k) (round_of o) (where_of at)
wide_of (w.RoundOpened k o at) = machine.round_opened (kind_of k) (round_of o) (where_of at)
wide_of (w.FunctionNamed called t o) = machine.function_named called (tree_of t) (round_of o)
wide_of (w.Closing o d) = machine.closing (round_of o) d
wide_of (w.ParameterItself k n head ts) = machine.parameter_itself (kind_of k) n (head_of head) ts
wide_of (w.InnerNothing n u) = machine.inner_nothing n (settled_of (box_value u))
wide_of (w.MemberAt b ts at) = machine.member_at (member_of b) ts (where_of (box_value at))
wide_of (w.MemberBound b ts at) = machine.member_bound (member_of b) ts (where_of (box_value at))
wide_of (w.MemberBounded b ts at) = machine.member_bounded (member_of b) ts (where_of (box_value at))
wide_of (w.Settled u) = machine.settled (settled_of (box_value u))
wide_of (w.SquareOpened u) = machine.square_opened (settled_of (box_value u))
wide_of (w.SquareFilled u) = machine.square_filled (settled_of (box_value u))
wide_of (w.ListOpened u) = machine.list_opened (settled_of (box_value u))
wide_of (w.ListVoid u) = machine.list_void (settled_of (box_value u))
wide_of (w.ListComma u) = machine.list_comma (settled_of (box_value u))
wide_of (w.ListDots u) = machine.list_dots (settled_of (box_value u))
wide_of (w.Dots head ts) = machine.wide_dots (head_of head) ts

abbrev pub state_of : State → machine.State
state_of (s.WantsType at) = machine.wants_type (where_of at)
state_of (s.WantsBase at) = machine.wants_base (where_of at)
state_of (s.AfterSign g at) = machine.after_sign (sign_of g) (where_of at)
state_of (s.AfterShort g at) = machine.after_short (sign_of g) (where_of at)
state_of (s.AfterLong g at) = machine.after_long (sign_of g) (where_of at)
state_of (s.AfterLongLong g at) = machine.after_long_long (sign_of g) (where_of at)
state_of (s.AfterStruct at) = machine.after_struct (where_of at)
state_of (s.WantsStar at) = machine.wants_star (where_of at)
state_of (s.SoleVoid head) = machine.sole_void (head_of head)
state_of (s.Typed t at) = machine.typed (tree_of t) (where_of at)
state_of (s.Named head) = machine.named (head_of head)
state_of (s.Opened head) = machine.opened (head_of head)
state_of (s.ParameterNamed head ts) = machine.parameter_named (head_of head) ts
state_of (s.AfterComma head ts) = machine.after_comma (head_of head) ts
state_of (s.AfterDots d) = machine.after_dots d
state_of (s.MemberNamed t ns ts at) =
    machine.member_named (tree_of t) ns ts (where_of (box_value at))
state_of (s.WantsCount t ns ts at) =
    machine.wants_count (tree_of t) ns ts (where_of (box_value at))
state_of (s.Counted t ns ts at) =
    machine.counted (tree_of t) ns ts (where_of (box_value at))
state_of (s.AfterMember ts at) = machine.after_member ts (where_of (box_value at))
state_of (s.Closed d) = machine.closed d
state_of (s.Ended d) = machine.ended d
state_of s.Dead = machine.dead
state_of (s.Wide x) = wide_of x
