-- A list of places, each taken from what the ones before it left, has no two that share a register or a byte of stack.
use Rattle.std.proofs.Common.{◌≡◌, ◌≢◌, ℕ, zero, suc, ◌*◌, ◌+◌, ◌<◌, ◌≤◌, List, [], ◌∷◌, ◌++◌, subst, sym, ◌∙◌, arith, inl}
use Rattle.std.specs.List.{AllByRecursion}
use Rattle.ffi3_type_spec.specs.declared.Isa.{Isa}
use Rattle.ffi3_place_spec.specs.MachineRegisters.{general_registers, floating_registers}
use Rattle.ffi3_place_spec.specs.declared.Loc.{Loc}
use Rattle.ffi3_place_spec.specs.declared.Loc.TheVariants.{G, F, S}
use Rattle.ffi3_place_spec.specs.declared.Taken.{Taken}
use Rattle.ffi3_place_spec.specs.Sound.{Apart, AreApart, IsNoneOf, IsOneOf, IsOnStackOrIn, LiesIn, StandsIn, stack_words}

pub record AtMost (a b : Taken) : Type 0 where
  pub general : a.general ≤ b.general
  pub vector : a.vector ≤ b.vector
  pub stack : a.stack ≤ b.stack

pub at_most_self : (a : Taken) → AtMost a a
at_most_self a = record { general = omega arith; vector = omega arith; stack = omega arith }

pub at_most_via : (a b c : Taken) → AtMost a b → AtMost b c → AtMost a c
at_most_via a b c h k = record { general = omega arith; vector = omega arith; stack = omega arith }

-- the lists of argument registers: number k of a list, below its length, differs from the others
pub record Registers (general floating : ℕ → ℕ) (generals floatings : ℕ) : Type 0 where
  pub general_apart : (j k : ℕ) → j < k → k < generals → general j ≢ general k
  pub floating_apart : (j k : ℕ) → j < k → k < floatings → floating j ≢ floating k

module _ (general floating : ℕ → ℕ) (generals floatings : ℕ) where
  -- the place is none of those taken
  abbrev pub From : Taken → Loc → Type 0
  From a (G r) = (k : ℕ) × (r ≡ general k) × (a.general ≤ k) × (k < generals)
  From a (F r) = (k : ℕ) × (r ≡ floating k) × (a.vector ≤ k) × (k < floatings)
  From a (S n w) = a.stack ≤ n

  -- the place is one of those taken
  abbrev pub Until : Taken → Loc → Type 0
  Until a (G r) = (k : ℕ) × (r ≡ general k) × (k < a.general)
  Until a (F r) = (k : ℕ) × (r ≡ floating k) × (k < a.vector)
  Until a (S n w) = (n + w ≤ a.stack) × (0 < w) × (w ≤ 8)

  abbrev pub Chain : Taken → List Loc → Taken → Type 0
  Chain a [] b = AtMost a b
  Chain a (l ∷ ls) b = (mid : Taken) × From a l × Until mid l × AtMost a mid × Chain mid ls b

  pub from_less : (a b : Taken) (l : Loc) → AtMost a b → From b l → From a l
  from_less a b (G r) h f = (f.0, f.1, omega (arith, h.general, f.2), f.3)
  from_less a b (F r) h f = (f.0, f.1, omega (arith, h.vector, f.2), f.3)
  from_less a b (S n w) h f = omega (arith, h.stack, f)

  pub chain_less : (a b : Taken) (ls : List Loc) (c : Taken) → AtMost a b → Chain b ls c → Chain a ls c
  chain_less a b [] c h k = at_most_via a b c h k
  chain_less a b (l ∷ ls) c h k = (k.0, from_less a b l h k.1, k.2, at_most_via a b k.0 h k.3, k.4)

  pub chain_append : (a : Taken) (ls : List Loc) (b : Taken) (ms : List Loc) (c : Taken) → Chain a ls b → Chain b ms c → Chain a (ls ++ ms) c
  chain_append a [] b ms c h k = chain_less a b ms c h k
  chain_append a (l ∷ ls) b ms c h k = (h.0, h.1, h.2, h.3, chain_append h.0 ls b ms c h.4 k)

  pub chain_more : (a : Taken) (ls : List Loc) (b c : Taken) → Chain a ls b → AtMost b c → Chain a ls c
  chain_more a [] b c h k = at_most_via a b c h k
  chain_more a (l ∷ ls) b c h k = (h.0, h.1, h.2, h.3, chain_more h.0 ls b c h.4 k)

  pub chain_end : (a : Taken) (ls : List Loc) (b : Taken) → Chain a ls b → AtMost a b
  chain_end a [] b h = h
  chain_end a (l ∷ ls) b h = at_most_via a h.0 b h.3 (chain_end h.0 ls b h.4)

  until_more : (a b : Taken) (l : Loc) → AtMost a b → Until a l → Until b l
  until_more a b (G r) h u = (u.0, u.1, omega (arith, h.general, u.2))
  until_more a b (F r) h u = (u.0, u.1, omega (arith, h.vector, u.2))
  until_more a b (S n w) h u = (omega (arith, h.stack, u.0), u.1, u.2)

  -- each place of a chain is none of those taken before it, and one of those taken after it
  pub chain_each : (P : Loc → Type 0) (a : Taken) (ls : List Loc) (b : Taken) → Chain a ls b → ((m : Loc) → From a m → Until b m → P m) → AllByRecursion P ls
  chain_each P a [] b h each = tt
  chain_each P a (l ∷ ls) b h each =
      (each l h.1 (until_more h.0 b l (chain_end h.0 ls b h.4) h.2), chain_each P h.0 ls b h.4 (λ m from until. each m (from_less a h.0 m h.3 from) until))

  module _ (registers : Registers general floating generals floatings) where
    pub until_from : (a : Taken) (l m : Loc) → Until a l → From a m → Apart l m
    until_from a (G r) (G q) u f = λ e. registers.general_apart u.0 f.0 (omega (arith, u.2, f.2)) f.3 (sym u.1 ∙ e ∙ f.1)
    until_from a (F r) (F q) u f = λ e. registers.floating_apart u.0 f.0 (omega (arith, u.2, f.2)) f.3 (sym u.1 ∙ e ∙ f.1)
    until_from a (S n v) (S k w) u f = inl (omega (arith, u.0, f))
    until_from a _ _ u f = tt

    pub chain_apart : (a : Taken) (ls : List Loc) (b : Taken) → Chain a ls b → AreApart ls
    chain_apart a [] b h = tt
    chain_apart a (l ∷ ls) b h =
        (chain_each (Apart l) h.0 ls b h.4 (λ m from until. until_from h.0 l m h.2 from), chain_apart h.0 ls b h.4)

  module _ (never : List Loc) (in_general : (k : ℕ) → k < generals → IsNoneOf never (G (general k))) (in_floating : (k : ℕ) → k < floatings → IsNoneOf never (F (floating k))) (on_stack : (n w : ℕ) → IsNoneOf never (S n w)) where
    pub chain_allowed : (a : Taken) (ls : List Loc) (b : Taken) → Chain a ls b → AllByRecursion (IsNoneOf never) ls
    chain_allowed a ls b h = chain_each (IsNoneOf never) a ls b h one
      where
        one : (m : Loc) → From a m → Until b m → IsNoneOf never m
        one (G r) f u = subst (λ q. IsNoneOf never (G q)) (sym f.1) (in_general f.0 f.3)
        one (F r) f u = subst (λ q. IsNoneOf never (F q)) (sym f.1) (in_floating f.0 f.3)
        one (S n w) f u = on_stack n w

  module _ (registers : List Loc) (in_general : (k : ℕ) → k < generals → IsOneOf registers (G (general k))) (in_floating : (k : ℕ) → k < floatings → IsOneOf registers (F (floating k))) where
    pub chain_passed : (a : Taken) (ls : List Loc) (b : Taken) → Chain a ls b → AllByRecursion (IsOnStackOrIn registers) ls
    chain_passed a ls b h = chain_each (IsOnStackOrIn registers) a ls b h one
      where
        one : (m : Loc) → From a m → Until b m → IsOnStackOrIn registers m
        one (G r) f u = subst (λ q. IsOneOf registers (G q)) (sym f.1) (in_general f.0 f.3)
        one (F r) f u = subst (λ q. IsOneOf registers (F q)) (sym f.1) (in_floating f.0 f.3)
        one (S n w) f u = tt

  -- places of a chain that ends with no stack taken
  module _ (registers : List Loc) (b : Taken) (no_stack : b.stack ≡ 0) (in_general : (k : ℕ) → k < b.general → IsOneOf registers (G (general k))) (in_floating : (k : ℕ) → k < b.vector → IsOneOf registers (F (floating k))) where
    pub chain_in : (a : Taken) (ls : List Loc) → Chain a ls b → AllByRecursion (IsOneOf registers) ls
    chain_in a ls h = chain_each (IsOneOf registers) a ls b h one
      where
        one : (m : Loc) → From a m → Until b m → IsOneOf registers m
        one (G r) f u = subst (λ q. IsOneOf registers (G q)) (sym u.1) (in_general u.0 u.2)
        one (F r) f u = subst (λ q. IsOneOf registers (F q)) (sym u.1) (in_floating u.0 u.2)
        one (S n w) f u = absurd (omega (arith, u.0, u.1, no_stack))

  -- each place stands in the machine, where each register of the lists does
  module _ (isa : Isa) (in_general : (k : ℕ) → k < generals → general k < general_registers isa) (in_floating : (k : ℕ) → k < floatings → StandsIn isa 0 (F (floating k))) where
    pub chain_stands_in : (a : Taken) (ls : List Loc) (b : Taken) (stack : ℕ) → b.stack ≤ stack → Chain a ls b → AllByRecursion (StandsIn isa stack) ls
    chain_stands_in a ls b stack room h = chain_each (StandsIn isa stack) a ls b h one
      where
        one : (m : Loc) → From a m → Until b m → StandsIn isa stack m
        one (G r) f u = inl (subst (λ q. q < general_registers isa) (sym f.1) (in_general f.0 f.3))
        one (F r) f u = subst (λ q. StandsIn isa 0 (F q)) (sym f.1) (in_floating f.0 f.3)
        one (S n w) f u = inl (omega (arith, u.0, room), u.1, u.2)

  pub chain_lies_in : (isa : Isa) → ((k : ℕ) → k < generals → general k < general_registers isa) → ((k : ℕ) → k < floatings → floating k < floating_registers isa) → (a : Taken) (ls : List Loc) (b : Taken) (stack : ℕ) → b.stack ≤ stack → Chain a ls b → AllByRecursion (LiesIn isa stack) ls
  chain_lies_in isa gs fs a ls b stack room h = chain_each (LiesIn isa stack) a ls b h one
    where
      one : (m : Loc) → From a m → Until b m → LiesIn isa stack m
      one (G r) f u = subst (λ q. q < general_registers isa) (sym f.1) (gs f.0 f.3)
      one (F r) f u = subst (λ q. q < floating_registers isa) (sym f.1) (fs f.0 f.3)
      one (S n w) f u = (omega (arith, u.0, room), u.1, u.2)

-- copies and buffers, which take stack alone
pub slots_chain : (general floating : ℕ → ℕ) (generals floatings : ℕ) (a : Taken) (at n : ℕ) (b : Taken) → a.stack ≤ at → at + 8 * n ≤ b.stack → a.general ≤ b.general → a.vector ≤ b.vector → Chain general floating generals floatings a (stack_words at n) b
slots_chain general floating generals floatings a at zero b low high g f =
    record { general = g; vector = f; stack = omega arith }
slots_chain general floating generals floatings a at (suc n) b low high g f = (
  record { general = a.general; vector = a.vector; stack = at + 8 },
  low,
  (omega arith, omega arith, omega arith),
  record { general = omega arith; vector = omega arith; stack = omega arith },
  slots_chain general floating generals floatings (record { general = a.general; vector = a.vector; stack = at + 8 }) (at + 8) n b (omega arith) (omega arith) g f,
)
