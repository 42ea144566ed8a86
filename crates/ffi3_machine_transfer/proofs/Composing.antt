-- Stores one after another.
use Rattle.std.proofs.Common.{◌≡◌, ◌⊎◌, inl, inr, ⊎_elim, ℕ, ◌+◌, ◌<◌, ◌≤◌, List, [], ◌++◌, get_or, length, ◌∙◌, ap, refl, arith}
use Rattle.std.specs.Int.{w64, to_le_bytes}
use Rattle.ffi3_place_spec.specs.declared.Loc.{Loc}
use Rattle.ffi3_place_spec.specs.declared.Loc.TheVariants.{G, F, S}
use Rattle.ffi3_place_spec.specs.Image.{register}
use Rattle.ffi3_place_spec.specs.Sound.{place_size}
use Rattle.ffi3_type_spec.specs.declared.limits.TheConstants.{STACK}
use Rattle.ffi3_marshal.proofs.Composing.{none_append}
pub use Rattle.ffi3_machine_transfer.specs.Lent.{wrote_nothing, wrote_then}
use Rattle.ffi3_machine_spec.specs.State.{State, image_of, with_sp}
use Rattle.ffi3_machine_transfer.specs.Stored.{byte_of, IsPlace, SameAt, Stays, WroteOnly, WroteWithin, with_journal_of, word_in}

-- ---- registers

-- what holds of each register holds of a place that is not on the stack
pub by_register : (P : Loc → Type 0) → ((r : ℕ) → r < 32 → P (G r)) → ((r : ℕ) → r < 32 → P (F r)) → (l : Loc) → IsPlace 0 l → P l
by_register P general floating (G r) lies = general r lies
by_register P general floating (F r) lies = floating r lies
by_register P general floating (S n w) lies = absurd (omega (arith, lies.0, lies.1))

-- a place lies in more of the stack too
pub lie_more : (n k : ℕ) → n ≤ k → (l : Loc) → IsPlace n l → IsPlace k l
lie_more n k h (S q w) lies = (omega (arith, h, lies.0), lies.1, lies.2)
lie_more n k h _ lies = lies

-- a register's word, wherever stack places count from
pub word_same : (base from : ℕ) (l : Loc) (a b : State) → IsPlace 0 l → SameAt 0 l a b → word_in base b l ≡ word_in from a l
word_same base from l a b lies = by_register (λ l. SameAt 0 l a b → word_in base b l ≡ word_in from a l) (λ r below h. h) (λ r below h. h) l lies

pub same_word_at : (base : ℕ) (l : Loc) (a b : State) → IsPlace 0 l → word_in base b l ≡ word_in base a l → SameAt 0 l a b
same_word_at base l a b lies = by_register (λ l. word_in base b l ≡ word_in base a l → SameAt 0 l a b) (λ r below h. h) (λ r below h. h) l lies

-- a register of an image is the machine's
pub register_is : (len base : ℕ) (m : State) (l : Loc) → IsPlace 0 l → register (image_of len m) l ≡ word_in base m l
register_is len base m l lies = by_register (λ l. register (image_of len m) l ≡ word_in base m l) (λ r below. refl) (λ r below. refl) l lies

-- ---- the same at a place

pub same_itself : (base : ℕ) (l : Loc) (m : State) → SameAt base l m m
same_itself base (G r) m = refl
same_itself base (F r) m = refl
same_itself base (S n w) m = λ k h. refl

pub same_then : (base : ℕ) (l : Loc) (a b c : State) → SameAt base l a b → SameAt base l b c → SameAt base l a c
same_then base (G r) a b c s t = t ∙ s
same_then base (F r) a b c s t = t ∙ s
same_then base (S n w) a b c s t = λ k h. t k h ∙ s k h

pub same_byte : (base : ℕ) (l : Loc) (a b : State) → SameAt base l a b → (k : ℕ) → k < place_size l → byte_of base b l k ≡ byte_of base a l k
same_byte base (G r) a b s k h = ap (λ n. get_or (to_le_bytes w64 n) k 0) s
same_byte base (F r) a b s k h = ap (λ n. get_or (to_le_bytes w64 n) k 0) s
same_byte base (S n w) a b s k h = s k h

-- ---- places that stay

pub stays_none : (base : ℕ) (m : State) → Stays base [] m m
stays_none base m = record { sp = refl; size = refl; others = λ l none. same_itself base l m }

-- first the places ls, then ks
pub stays_then : (base : ℕ) (ls ks : List Loc) (a b c : State) → Stays base ls a b → Stays base ks b c → Stays base (ks ++ ls) a c
stays_then base ls ks a b c s t = record {
  sp = t.sp ∙ s.sp;
  size = t.size ∙ s.size;
  others = λ l none. let parts = none_append ks ls l none in same_then base l a b c (s.others l parts.1) (t.others l parts.0);
}

-- ---- what is written

-- another stretch, from no higher on: what lies outside of it lies outside of the first
pub rewritten : (low high from to : ℕ) (a b : State) → ((i : ℕ) → (STACK + i < from) ⊎ (to ≤ STACK + i) → (STACK + i < low) ⊎ (high ≤ STACK + i)) → from ≤ low → WroteWithin low high a b → WroteWithin from to a b
rewritten low high from to a b outside h s = record {
  size = s.size;
  outside = λ i far. s.outside i (outside i far);
  mark = ⊎_elim (λ x. inl x) (λ x. inr (omega (arith, h, x))) s.mark;
  target = s.target;
  pc = s.pc;
  code = s.code;
  events = s.events;
  spare_events = s.spare_events;
  spare_bytes = s.spare_bytes;
  exchange = s.exchange;
  steps = s.steps;
}

-- a wider stretch
pub wrote_wider : (low high from to : ℕ) (a b : State) → from ≤ low → high ≤ to → WroteWithin low high a b → WroteWithin from to a b
wrote_wider low high from to a b h k =
    rewritten low high from to a b (λ i far. ⊎_elim (λ x. inl (omega (arith, h, x))) (λ x. inr (omega (arith, k, x))) far) h

-- sp gets a value
pub sp_moved : (sp low high : ℕ) (m : State) → WroteWithin low high m (with_sp sp m)
sp_moved sp low high m = record {
  size = refl;
  outside = λ i far. refl;
  mark = inl (omega arith);
  target = refl;
  pc = refl;
  code = refl;
  events = refl;
  spare_events = refl;
  spare_bytes = refl;
  exchange = refl;
  steps = refl;
}

-- what stands beside the stack is said to be the old machine's
pub beside : (low high : ℕ) (a b : State) → length b.stack ≡ length a.stack → ((i : ℕ) → (STACK + i < low) ⊎ (high ≤ STACK + i) → get_or b.stack i 0 ≡ get_or a.stack i 0) → (a.mark ≤ b.mark) ⊎ (low ≤ b.mark) → b.target ≡ a.target → b.code ≡ a.code → WroteWithin low high a (with_journal_of a b)
beside low high a b size outside mark target code = record {
  size = size;
  outside = outside;
  mark = mark;
  target = target;
  pc = refl;
  code = code;
  events = refl;
  spare_events = refl;
  spare_bytes = refl;
  exchange = refl;
  steps = refl;
}

-- ---- writes to the stack alone

pub only_nothing : (low high : ℕ) (m : State) → WroteOnly low high m m
only_nothing low high m = record { within = wrote_nothing low high m; sp = refl; general = refl; floating = refl }

pub only_then : (low high : ℕ) (a b c : State) → WroteOnly low high a b → WroteOnly low high b c → WroteOnly low high a c
only_then low high a b c s t = record {
  within = wrote_then low high a b c s.within t.within;
  sp = t.sp ∙ s.sp;
  general = t.general ∙ s.general;
  floating = t.floating ∙ s.floating;
}

pub only_wider : (low high from to : ℕ) (a b : State) → from ≤ low → high ≤ to → WroteOnly low high a b → WroteOnly from to a b
only_wider low high from to a b h k s = record { within = wrote_wider low high from to a b h k s.within; sp = s.sp; general = s.general; floating = s.floating }
