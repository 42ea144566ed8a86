-- The machine's own registers, where only what is passed, or the stack, is written.
use Rattle.std.proofs.Common.{◌≡◌, ℕ, Bool, get_or, ap, sym, ◌∙◌, subst, arith}
use Rattle.ffi3_type_spec.specs.declared.limits.TheConstants.{STACK_TOP}
use Rattle.ffi3_type_spec.specs.Tree.{Tree}
use Rattle.ffi3_place_spec.specs.declared.Loc.{Loc}
use Rattle.ffi3_place_spec.specs.declared.Res.{Res}
use Rattle.ffi3_place_spec.specs.declared.Res.TheVariants.{Nothing, Direct, Hidden}
use Rattle.ffi3_place_spec.specs.Standard.{Standard}
use Rattle.ffi3_place_spec.specs.Agrees.{AgreesWithMachine}
use Rattle.ffi3_machine_spec.specs.State.{State, IsMachine}
use Rattle.ffi3_machine_transfer.specs.Passing.{by_exchange, passing, passing_if}
use Rattle.ffi3_machine_transfer.specs.Stored.{IsPlace, SameAt, WroteOnly, word_in}
use Rattle.ffi3_marshal.proofs.Lawful.{each_map}
use Rattle.ffi3_machine_transfer.proofs.Composing.{by_register, same_word_at, word_same}
use Rattle.ffi3_machine_transfer.proofs.Passing.{own_general, own_register}
use Rattle.ffi3_machine_transfer.proofs.Tables.{each_with}
use Rattle.ffi3_callee.specs.Given.{ReservedStay, ResultWrites}
use Rattle.ffi3_callee.proofs.Keeping.{reserved_there}

module _ (a b : State) (before : IsMachine a) (after : IsMachine b) where
  own_stays : b.target ≡ a.target → (passing b).exchange ≡ (passing a).exchange → (l : Loc) → IsPlace 0 l → SameAt 0 l (passing a) (passing b) → SameAt 0 l a b
  own_stays target behind l lies same =
      own_register l a b lies target (before.general ∙ sym after.general) (before.floating ∙ sym after.floating) same behind

  -- reserved registers are the machine's own
  pub own_reserved : (std : Standard) → AgreesWithMachine std → b.target ≡ a.target → (passing b).exchange ≡ (passing a).exchange → ReservedStay std (passing a) (passing b) → ReservedStay std a b
  own_reserved std agrees target behind stay =
      each_with (IsPlace 0) (λ at. word_in STACK_TOP (passing b) at ≡ word_in STACK_TOP (passing a) at) (λ at. word_in STACK_TOP b at ≡ word_in STACK_TOP a at) (λ l lies h. word_same STACK_TOP STACK_TOP l a b lies (own_stays target behind l lies (same_word_at STACK_TOP l (passing a) (passing b) lies h))) std.reserved (reserved_there std agrees) stay

  -- where only the stack is written, all stay
  pub own_all : (low high : ℕ) → WroteOnly low high (passing a) (passing b) → (l : Loc) → IsPlace 0 l → SameAt 0 l a b
  own_all low high w l lies =
      own_stays w.within.target w.within.exchange l lies (by_register (λ l. SameAt 0 l (passing a) (passing b)) (λ r below. ap (λ xs. get_or xs r 0) w.general) (λ r below. ap (λ xs. get_or xs r 0) w.floating) l lies)

  pub own_reserved_of : (std : Standard) → AgreesWithMachine std → (low high : ℕ) → WroteOnly low high (passing a) (passing b) → ReservedStay std a b
  own_reserved_of std agrees low high w =
      each_map (IsPlace 0) (λ at. word_in STACK_TOP b at ≡ word_in STACK_TOP a at) (λ l lies. word_same STACK_TOP STACK_TOP l a b lies (own_all low high w l lies)) std.reserved (reserved_there std agrees)

  pub own_list : (low high : ℕ) → WroteOnly low high (passing a) (passing b) → b.general ≡ a.general
  own_list low high w =
      let t : by_exchange b.target ≡ by_exchange a.target = ap by_exchange w.within.target in
      own_general (by_exchange a.target) a b (before.general ∙ sym after.general) (before.floating ∙ sym after.floating) (subst (λ (k : Bool). (passing_if k b).general ≡ (passing a).general) t w.general) (subst (λ (k : Bool). (passing_if k b).exchange ≡ (passing a).exchange) t w.within.exchange)

pub written_exchange : (base : ℕ) (t : Tree) (res : Res) (a b : State) → ResultWrites base t res a b → b.exchange ≡ a.exchange
written_exchange base t Nothing a b w = w.exchange
written_exchange base t (Direct pieces) a b w = w.exchange
written_exchange base t (Hidden at buffer) a b w = w.exchange
