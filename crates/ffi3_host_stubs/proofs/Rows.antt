-- What one row does, by any instruction set, and rows of one kind one after another.
use Rattle.std.proofs.Common.{◌≡◌, ℕ, suc, ◌+◌, ◌%◌, ◌<◌, ◌≤◌, Bool, true, false, if◌then◌else◌, List, [], ◌∷◌, ◌++◌, length, refl, sym, ap, ◌∙◌, subst, arith, ℤ, pos}
use Rattle.std.proofs.lemmas.Bool.Decides.{nat_tests}
use Rattle.std.specs.Prelude.{◌&&◌, ◌==◌, not, nat_lt, nat_le}
use Rattle.ffi3_isa.specs.declared.Instr.{Instr}
use Rattle.ffi3_isa.specs.declared.Instr.TheVariants.{Ld, Sd, Fld, Fsd, Addi, Ret}
use Rattle.ffi3_type_spec.specs.declared.Isa.{Isa}
use Rattle.ffi3_type_spec.specs.declared.Isa.TheVariants.{Amd64, Aarch64, Riscv}
use Rattle.ffi3_place_spec.specs.declared.Loc.{Loc}
use Rattle.ffi3_place_spec.specs.declared.Loc.TheVariants.{G, F, S}
use Rattle.ffi3_place_spec.specs.MachineRegisters.{general_registers, stack_pointer, is_zero_register}
use Rattle.ffi3_machine_spec.specs.Stubs.{load, store, size_of, row_bytes}
use Rattle.ffi3_machine.specs.MachineStep.{moved, IsAligned}
use Rattle.ffi3_stubs.specs.Calls.{same_loc}
use Rattle.ffi3_stubs.proofs.Places.{unequal}
use Rattle.ffi3_host_stubs.specs.Processor.{Processor, half, word_at, set_at, with_register, with_sum, register, base, next, done, IsCode, IsKept, LoadsKept, IsStackAligned, IsBased, Steps, HasCode}
use Rattle.ffi3_host_stubs.specs.Calls.{held, IsSource, IsRegionKept}
use Rattle.ffi3_host_stubs.specs.Stubs.{HostRow, same, host_row_bytes, host_bytes_of}
use Rattle.ffi3_host_stubs.proofs.Effects.{received, with_sp_by, stored, stored_at, Places, load_rows, store_rows, from_places, to_places}
use Rattle.ffi3_host_stubs.proofs.Standing.{kept_in, unmoved, along, onward, ends, TakesBy, one_step, none_taken, and_then}
use Rattle.ffi3_host_stubs.proofs.Memory.{both, negated, less, received_other}

-- ---- registers

-- registers that loads and stores name, but sp and what is 0 always: general ones, and so many floating ones
unfoldable pub names : Isa → ℕ → Loc → Bool
names isa f (G k) =
    nat_lt k (general_registers isa) && (not (is_zero_register isa k) && not (k == stack_pointer isa))
names isa f (F k) = nat_lt k f
names isa f (S k w) = false

differ : (k n : ℕ) → not (k == n) ≡ true → ¬ k ≡ n
differ k n h e = grind (arith, nat_tests)

pub source_of : (isa : Isa) (f k : ℕ) → names isa f (G k) ≡ true → IsSource isa k
unfolding names
source_of isa f k h =
    let a = both (nat_lt k (general_registers isa)) (not (is_zero_register isa k) && not (k == stack_pointer isa)) h in
    let b = both (not (is_zero_register isa k)) (not (k == stack_pointer isa)) a.1 in
    record {
      in_range = less k (general_registers isa) a.0;
      not_sp = differ k (stack_pointer isa) b.1;
      not_zero = negated (is_zero_register isa k) b.0;
    }

pub floating_of : (isa : Isa) (f k : ℕ) → names isa f (F k) ≡ true → k < f
unfolding names
floating_of isa f k h = less k f h

pub none_of : (isa : Isa) (f k w : ℕ) → ¬ (names isa f (S k w) ≡ true)
unfolding names
none_of isa f k w h = cc

not_sp : (isa : Isa) (k : ℕ) → IsSource isa k → (k == stack_pointer isa) ≡ false
not_sp isa k is = unequal k (stack_pointer isa) is.not_sp

pub register_is : (isa : Isa) (k : ℕ) (s : Processor) → IsSource isa k → register isa k s ≡ s.general k
register_is Amd64 k s is = ap (λ (b : Bool). if b then s.sp else s.general k) (not_sp Amd64 k is)
register_is Aarch64 k s is = ap (λ (b : Bool). if b then 0 else s.general k) (not_sp Aarch64 k is)
register_is Riscv k s is =
    ap (λ (b : Bool). if b then 0 else (if k == 2 then s.sp else s.general k)) is.not_zero ∙ ap (λ (b : Bool). if b then s.sp else s.general k) (not_sp Riscv k is)

pub base_is : (isa : Isa) (k : ℕ) (s : Processor) → IsSource isa k → base isa k s ≡ s.general k
base_is isa k s is =
    ap (λ (b : Bool). if b then 0 else (if k == stack_pointer isa then s.sp else s.general k)) is.not_zero ∙ ap (λ (b : Bool). if b then s.sp else s.general k) (not_sp isa k is)

written : (isa : Isa) (k v : ℕ) (s : Processor) → IsSource isa k → with_register isa k v s ≡ record s { general = set_at k v s.general }
written Amd64 k v s is =
    ap (λ (b : Bool). let t : Processor = record s { general = if b then s.general else set_at k v s.general; sp = if b then v else s.sp } in t) (not_sp Amd64 k is)
written Aarch64 k v s is =
    ap (λ (b : Bool). let t : Processor = record s { general = if b then s.general else set_at k v s.general } in t) (not_sp Aarch64 k is)
written Riscv k v s is =
    let form : Bool → Bool → Processor = λ z p. record s { general = if z then s.general else (if p then s.general else set_at k v s.general); sp = if p then v else s.sp } in
    ap (λ (z : Bool). form z (k == 2)) is.not_zero ∙ ap (λ (p : Bool). form false p) (not_sp Riscv k is)

summed : (isa : Isa) (k v : ℕ) (s : Processor) → IsSource isa k → with_sum isa k v s ≡ record s { general = set_at k v s.general }
summed isa k v s is =
    let form : Bool → Bool → Processor = λ z p. record s { general = if z then s.general else (if p then s.general else set_at k v s.general); sp = if p then v else s.sp } in
    ap (λ (z : Bool). form z (k == stack_pointer isa)) is.not_zero ∙ ap (λ (p : Bool). form false p) (not_sp isa k is)

-- ---- one row

-- the bytes of a row are an instruction
pub record Says (isa : Isa) (row : List ℕ) (i : Instr) (size : ℕ) : Type 0 where
  pub sized : length row ≡ size
  pub code : (bytes tail : List ℕ) → bytes ≡ row ++ tail → IsCode isa bytes i size
  pub aligned : (p : ℕ) → IsAligned isa p → IsAligned isa (p + size)

-- so many steps have led from `o` to `s`, where these bytes stand
pub record Led (isa : Isa) (n : ℕ) (o s : Processor) (bytes : List ℕ) : Type 0 where
  pub steps : TakesBy isa n o s
  pub stands : HasCode s s.pc bytes
  pub aligned : IsAligned isa s.pc

pub starts : (isa : Isa) (s : Processor) (bytes : List ℕ) → IsAligned isa s.pc → HasCode s s.pc bytes → Led isa 0 s s bytes
starts isa s bytes al h = record { steps = none_taken isa s; stands = h; aligned = al }

-- the last instruction, which jumps: what it does, by the address behind it
pub jumps_by : {isa : Isa} {n : ℕ} {o s : Processor} {i : Instr} {size : ℕ} (row tail : List ℕ) (after : ℕ → Processor) → Says isa row i size → IsBased isa i s → LoadsKept isa i size s → done isa i size s ≡ after (next size s) → Led isa n o s (row ++ tail) → TakesBy isa (suc n) o (after (s.pc + size))
jumps_by {isa} {n} {o} {s} {i} {size} row tail after says based kept is h =
    let behind : next size s ≡ s.pc + size = along s size (ends s row tail size says.sized h.stands) in
    let step : Steps isa s (after (s.pc + size)) = record {
      instr = i;
      size = size;
      window = length (row ++ tail);
      aligned = h.aligned;
      stands = says.code _ tail h.stands.are;
      based = based;
      kept = kept;
      is_after = sym (is ∙ ap after behind);
    } in
    and_then isa n 1 (suc n) o s (after (s.pc + size)) (omega arith) h.steps (one_step isa s (after (s.pc + size)) step)

-- one instruction more, which does not
pub goes_by : {isa : Isa} {n : ℕ} {o s : Processor} {i : Instr} {size : ℕ} (row tail : List ℕ) (after : ℕ → Processor) → Says isa row i size → IsBased isa i s → LoadsKept isa i size s → done isa i size s ≡ after (next size s) → ((p : ℕ) → (after p).pc ≡ p) → ((p : ℕ) → (after p).code ≡ s.code) → Led isa n o s (row ++ tail) → Led isa (suc n) o (after (s.pc + size)) tail
goes_by {isa} {n} {o} {s} {i} {size} row tail after says based kept is pc code h =
    let behind : ℕ = s.pc + size in
    record {
      steps = jumps_by row tail after says based kept is h;
      stands = onward s (after behind) row tail size says.sized (pc behind) (code behind) h.stands;
      aligned = subst (λ (p : ℕ). IsAligned isa p) (sym (pc behind)) (says.aligned s.pc h.aligned);
    }

-- the same, where these rows stand
pub record Leads (isa : Isa) (n : ℕ) (o s : Processor) (rows : List HostRow) : Type 0 where
  pub led : Led isa n o s (host_bytes_of isa rows)

pub begins : (isa : Isa) (s : Processor) (rows : List HostRow) → IsAligned isa s.pc → HasCode s s.pc (host_bytes_of isa rows) → Leads isa 0 s s rows
begins isa s rows al h = record { led = starts isa s (host_bytes_of isa rows) al h }

pub goes : {isa : Isa} {n : ℕ} {o s : Processor} {row : HostRow} {rest : List HostRow} {i : Instr} {size : ℕ} (after : ℕ → Processor) → Says isa (host_row_bytes isa row) i size → IsBased isa i s → LoadsKept isa i size s → done isa i size s ≡ after (next size s) → ((p : ℕ) → (after p).pc ≡ p) → ((p : ℕ) → (after p).code ≡ s.code) → Leads isa n o s (row ∷ rest) → Leads isa (suc n) o (after (s.pc + size)) rest
goes {isa} {row = row} {rest = rest} after says based kept is pc code h = record { led = goes_by (host_row_bytes isa row) (host_bytes_of isa rest) after says based kept is pc code h.led }

pub jumps : {isa : Isa} {n : ℕ} {o s : Processor} {row : HostRow} {rest : List HostRow} {i : Instr} {size : ℕ} (after : ℕ → Processor) → Says isa (host_row_bytes isa row) i size → IsBased isa i s → LoadsKept isa i size s → done isa i size s ≡ after (next size s) → Leads isa n o s (row ∷ rest) → TakesBy isa (suc n) o (after (s.pc + size))
jumps {isa} {row = row} {rest = rest} after says based kept is h =
    jumps_by (host_row_bytes isa row) (host_bytes_of isa rest) after says based kept is h.led

-- ---- loads and stores

abbrev pub load_instr : Loc → ℕ → ℤ → Instr
load_instr (G k) b d = Ld k b d
load_instr (F k) b d = Fld k b d
load_instr (S k w) b d = Ret

abbrev pub store_instr : Loc → ℕ → ℤ → Instr
store_instr (G k) b d = Sd k b d
store_instr (F k) b d = Fsd k b d
store_instr (S k w) b d = Ret

-- the row is an instruction of that kind, whose distance is o
pub record Moves (isa : Isa) (instr : ℤ → Instr) (row : List ℕ) (size o : ℕ) : Type 0 where
  pub d : ℤ
  pub says : Says isa row (instr d) size
  pub to : (from : ℕ) → from + o ≤ half → moved from d ≡ from + o

-- what an instruction set's loads and stores by base register b are
abbrev pub LoadLaw : Isa → ℕ → ℕ → Type 0
LoadLaw isa f b =
    (l : Loc) (o : ℕ) → names isa f l ≡ true → o % 8 ≡ 0 → o < 2048 → Moves isa (load_instr l b) (row_bytes isa 0 (load l b o)) (size_of isa (load l b 0)) o

abbrev pub StoreLaw : Isa → ℕ → ℕ → Type 0
StoreLaw isa f b =
    (l : Loc) (o : ℕ) → names isa f l ≡ true → o % 8 ≡ 0 → o < 2048 → Moves isa (store_instr l b) (row_bytes isa 0 (store l b o)) (size_of isa (load l b 0)) o

-- base register b holds x, from where on so many bytes are kept
pub record Points (isa : Isa) (b x reach : ℕ) (s : Processor) : Type 0 where
  pub at : base isa b s ≡ x
  pub based : b ≡ stack_pointer isa → IsStackAligned isa s.sp
  pub kept : (o : ℕ) → o + 8 ≤ reach → IsKept isa (x + o) s
  pub far : x + reach ≤ half

not_both : (b n : ℕ) → (b == n) ≡ false → ¬ b ≡ n
not_both b n h e = grind (arith, nat_tests)

-- to the exchange region, by a register that is not sp
pub points : (isa : Isa) (b x : ℕ) (s : Processor) → base isa b s ≡ x → (b == stack_pointer isa) ≡ false → x + 552 ≤ half → IsRegionKept x s.sp s → Points isa b x 552 s
points isa b x s at other far above = record {
  at = at;
  based = λ e. absurd (not_both b (stack_pointer isa) other e);
  kept = λ o room. kept_in isa s x o room above;
  far = far;
}

pub load_one : {isa : Isa} {n : ℕ} {o s : Processor} {rest : List HostRow} (f b x reach : ℕ) (l : Loc) (at : ℕ) → LoadLaw isa f b → names isa f l ≡ true → at % 8 ≡ 0 → at < 2048 → at + 8 ≤ reach → Points isa b x reach s → Leads isa n o s (same (load l b at) ∷ rest) → Leads isa (suc n) o (received (size_of isa (load l b 0)) l (word_at (x + at) s) s) rest
load_one {isa} {n} {o} {s} f b x reach (G k) at law ok eight low room p h =
    let m = law (G k) at ok eight low in
    let there : moved (base isa b s) m.d ≡ x + at = m.to (base isa b s) (omega (arith, p.at, p.far, room)) ∙ ap (λ a. a + at) p.at in
    let form : Processor → ℕ → Processor = λ t pc. record t { pc = pc } in
    goes (λ pc. record s { general = set_at k (word_at (x + at) s) s.general; pc = pc }) m.says p.based (subst (λ (a : ℕ). IsKept isa a s) (sym there) (p.kept at room)) (ap (λ (t : Processor). form t (next (size_of isa (load (G k) b 0)) s)) (written isa k (word_at (moved (base isa b s) m.d) s) s (source_of isa f k ok)) ∙ ap (λ (a : ℕ). let t : Processor = record s { general = set_at k (word_at a s) s.general; pc = next (size_of isa (load (G k) b 0)) s } in t) there) (λ p. refl) (λ p. refl) h
load_one {isa} {n} {o} {s} f b x reach (F k) at law ok eight low room p h =
    let m = law (F k) at ok eight low in
    let there : moved (base isa b s) m.d ≡ x + at = m.to (base isa b s) (omega (arith, p.at, p.far, room)) ∙ ap (λ a. a + at) p.at in
    goes (λ pc. record s { floating = set_at k (word_at (x + at) s) s.floating; pc = pc }) m.says p.based (subst (λ (a : ℕ). IsKept isa a s) (sym there) (p.kept at room)) (ap (λ (a : ℕ). let t : Processor = record s { floating = set_at k (word_at a s) s.floating; pc = next (size_of isa (load (F k) b 0)) s } in t) there) (λ p. refl) (λ p. refl) h
load_one {isa} f b x reach (S k w) at law ok eight low room p h = absurd (none_of isa f k w ok)

pub store_one : {isa : Isa} {n : ℕ} {o s : Processor} {rest : List HostRow} (f b x reach : ℕ) (l : Loc) (at : ℕ) → StoreLaw isa f b → names isa f l ≡ true → at % 8 ≡ 0 → at < 2048 → at + 8 ≤ reach → Points isa b x reach s → Leads isa n o s (same (store l b at) ∷ rest) → Leads isa (suc n) o (stored (size_of isa (load l b 0)) (x + at) (held l s) s) rest
store_one {isa} {n} {o} {s} f b x reach (G k) at law ok eight low room p h =
    let m = law (G k) at ok eight low in
    let there : moved (base isa b s) m.d ≡ x + at = m.to (base isa b s) (omega (arith, p.at, p.far, room)) ∙ ap (λ a. a + at) p.at in
    let form : ℕ → ℕ → Processor = λ a v. stored_at a v s (next (size_of isa (load (G k) b 0)) s) in
    goes (stored_at (x + at) (s.general k) s) m.says p.based tt (ap (form (moved (base isa b s) m.d)) (register_is isa k s (source_of isa f k ok)) ∙ ap (λ (a : ℕ). form a (s.general k)) there) (λ p. refl) (λ p. refl) h
store_one {isa} {n} {o} {s} f b x reach (F k) at law ok eight low room p h =
    let m = law (F k) at ok eight low in
    let there : moved (base isa b s) m.d ≡ x + at = m.to (base isa b s) (omega (arith, p.at, p.far, room)) ∙ ap (λ a. a + at) p.at in
    goes (stored_at (x + at) (s.floating k) s) m.says p.based tt (ap (λ (a : ℕ). stored_at a (s.floating k) s (next (size_of isa (load (F k) b 0)) s)) there) (λ p. refl) (λ p. refl) h
store_one {isa} f b x reach (S k w) at law ok eight low room p h = absurd (none_of isa f k w ok)

-- ---- rows of one kind

unfoldable pub fine : Isa → ℕ → ℕ → ℕ → Places → Bool
fine isa f b reach [] = true
fine isa f b reach (m ∷ ms) =
    ((names isa f m.0 && not (same_loc (G b) m.0)) && ((m.1 % 8 == 0) && (nat_lt m.1 2048 && nat_le (m.1 + 8) reach))) && fine isa f b reach ms

record IsFine (isa : Isa) (f b reach : ℕ) (l : Loc) (at : ℕ) : Type 0 where
  pub named : names isa f l ≡ true
  pub other : same_loc (G b) l ≡ false
  pub eight : at % 8 ≡ 0
  pub low : at < 2048
  pub room : at + 8 ≤ reach

equal : (a b : ℕ) → (a == b) ≡ true → a ≡ b
equal a b h = grind (arith, nat_tests)

at_most : (a b : ℕ) → nat_le a b ≡ true → a ≤ b
at_most a b h = grind (arith, nat_tests)

fine_by : (isa : Isa) (f b reach : ℕ) (l : Loc) (at : ℕ) → ((names isa f l && not (same_loc (G b) l)) && ((at % 8 == 0) && (nat_lt at 2048 && nat_le (at + 8) reach))) ≡ true → IsFine isa f b reach l at
fine_by isa f b reach l at h =
    let p = both (names isa f l && not (same_loc (G b) l)) ((at % 8 == 0) && (nat_lt at 2048 && nat_le (at + 8) reach)) h in
    let q = both (names isa f l) (not (same_loc (G b) l)) p.0 in
    let r = both (at % 8 == 0) (nat_lt at 2048 && nat_le (at + 8) reach) p.1 in
    let t = both (nat_lt at 2048) (nat_le (at + 8) reach) r.1 in
    record {
      named = q.0;
      other = negated (same_loc (G b) l) q.1;
      eight = equal (at % 8) 0 r.0;
      low = less at 2048 t.0;
      room = at_most (at + 8) reach t.1;
    }

still : (isa : Isa) (b x reach size v : ℕ) (l : Loc) (s : Processor) → same_loc (G b) l ≡ false → Points isa b x reach s → Points isa b x reach (received size l v s)
still isa b x reach size v l s other p = record {
  at = ap (λ g. if is_zero_register isa b then 0 else (if b == stack_pointer isa then s.sp else g)) (received_other size v (G b) l s other) ∙ p.at;
  based = p.based;
  kept = p.kept;
  far = p.far;
}

pub loads : {isa : Isa} {n : ℕ} {o s : Processor} {rest : List HostRow} (k f b x reach : ℕ) (ms : Places) → LoadLaw isa f b → fine isa f b reach ms ≡ true → k ≡ n + length ms → Points isa b x reach s → Leads isa n o s (load_rows b ms ++ rest) → Leads isa k o (from_places isa b x ms s) rest
unfolding fine
loads {isa} {n} {o} {s} {rest} k f b x reach [] law ok e p h =
    let same_k : n ≡ k = omega (arith, e) in subst (λ (i : ℕ). Leads isa i o s rest) same_k h
loads {isa} {n} {o} {s} {rest} k f b x reach (m ∷ ms) law ok e p h =
    let parts = both _ (fine isa f b reach ms) ok in
    let is = fine_by isa f b reach m.0 m.1 parts.0 in
    let size : ℕ = size_of isa (load m.0 b 0) in
    loads {n = suc n} k f b x reach ms law parts.1 (omega (arith, e)) (still isa b x reach size (word_at (x + m.1) s) m.0 s is.other p) (load_one f b x reach m.0 m.1 law is.named is.eight is.low is.room p h)

pub stores : {isa : Isa} {n : ℕ} {o s : Processor} {rest : List HostRow} (k f b x reach : ℕ) (ms : Places) → StoreLaw isa f b → fine isa f b reach ms ≡ true → k ≡ n + length ms → Points isa b x reach s → Leads isa n o s (store_rows b ms ++ rest) → Leads isa k o (to_places isa b x ms s) rest
unfolding fine
stores {isa} {n} {o} {s} {rest} k f b x reach [] law ok e p h =
    let same_k : n ≡ k = omega (arith, e) in subst (λ (i : ℕ). Leads isa i o s rest) same_k h
stores {isa} {n} {o} {s} {rest} k f b x reach (m ∷ ms) law ok e p h =
    let parts = both _ (fine isa f b reach ms) ok in
    let is = fine_by isa f b reach m.0 m.1 parts.0 in
    let next_p : Points isa b x reach (stored (size_of isa (load m.0 b 0)) (x + m.1) (held m.0 s) s) = record { at = p.at; based = p.based; kept = p.kept; far = p.far } in
    stores {n = suc n} k f b x reach ms law parts.1 (omega (arith, e)) next_p (store_one f b x reach m.0 m.1 law is.named is.eight is.low is.room p h)

-- ---- one register, or sp, from another

pub copies : {isa : Isa} {n : ℕ} {o s : Processor} {row : HostRow} {rest : List HostRow} (to from size v : ℕ) (d : ℤ) → IsSource isa to → Says isa (host_row_bytes isa row) (Addi to from d) size → moved (base isa from s) d ≡ v → Leads isa n o s (row ∷ rest) → Leads isa (suc n) o (received size (G to) v s) rest
copies {isa} {n} {o} {s} to from size v d is says value h =
    let form : Processor → ℕ → Processor = λ t pc. record t { pc = pc } in
    goes (λ pc. record s { general = set_at to v s.general; pc = pc }) says tt tt (ap (λ (t : Processor). form t (next size s)) (summed isa to (moved (base isa from s) d) s is) ∙ ap (λ (w : ℕ). let t : Processor = record s { general = set_at to w s.general; pc = next size s } in t) value) (λ p. refl) (λ p. refl) h

-- the address in a register that is read
pub from_source : (isa : Isa) (from : ℕ) (s : Processor) → IsSource isa from → s.general from ≤ half → moved (base isa from s) (pos 0) ≡ s.general from
from_source isa from s is low = ap (λ (a : ℕ). moved a (pos 0)) (base_is isa from s is) ∙ unmoved (s.general from) low

sp_summed : (isa : Isa) (v : ℕ) (s : Processor) → with_sum isa (stack_pointer isa) v s ≡ record s { sp = v }
sp_summed Amd64 v s = refl
sp_summed Aarch64 v s = refl
sp_summed Riscv v s = refl

pub sums_sp : {isa : Isa} {n : ℕ} {o s : Processor} {row : HostRow} {rest : List HostRow} (from size v : ℕ) (d : ℤ) → Says isa (host_row_bytes isa row) (Addi (stack_pointer isa) from d) size → moved (base isa from s) d ≡ v → Leads isa n o s (row ∷ rest) → Leads isa (suc n) o (with_sp_by size v s) rest
sums_sp {isa} {n} {o} {s} from size v d says value h =
    let form : Processor → ℕ → Processor = λ t pc. record t { pc = pc } in
    goes (λ pc. record s { sp = v; pc = pc }) says tt tt (ap (λ (t : Processor). form t (next size s)) (sp_summed isa (moved (base isa from s) d) s) ∙ ap (λ (w : ℕ). let t : Processor = record s { sp = w; pc = next size s } in t) value) (λ p. refl) (λ p. refl) h

-- sp from a word and to it, where instructions can name it
pub loads_sp : {isa : Isa} {n : ℕ} {o s : Processor} {rest : List HostRow} (b x reach at size : ℕ) → Moves isa (Ld (stack_pointer isa) b) (row_bytes isa 0 (load (G (stack_pointer isa)) b at)) size at → ((v : ℕ) → with_register isa (stack_pointer isa) v s ≡ record s { sp = v }) → at + 8 ≤ reach → Points isa b x reach s → Leads isa n o s (same (load (G (stack_pointer isa)) b at) ∷ rest) → Leads isa (suc n) o (with_sp_by size (word_at (x + at) s) s) rest
loads_sp {isa} {n} {o} {s} b x reach at size m writes room p h =
    let there : moved (base isa b s) m.d ≡ x + at = m.to (base isa b s) (omega (arith, p.at, p.far, room)) ∙ ap (λ a. a + at) p.at in
    let form : Processor → ℕ → Processor = λ t pc. record t { pc = pc } in
    goes (λ pc. record s { sp = word_at (x + at) s; pc = pc }) m.says p.based (subst (λ (a : ℕ). IsKept isa a s) (sym there) (p.kept at room)) (ap (λ (t : Processor). form t (next size s)) (writes (word_at (moved (base isa b s) m.d) s)) ∙ ap (λ (a : ℕ). let t : Processor = record s { sp = word_at a s; pc = next size s } in t) there) (λ p. refl) (λ p. refl) h

pub stores_sp : {isa : Isa} {n : ℕ} {o s : Processor} {rest : List HostRow} (b x reach at size : ℕ) → Moves isa (Sd (stack_pointer isa) b) (row_bytes isa 0 (store (G (stack_pointer isa)) b at)) size at → register isa (stack_pointer isa) s ≡ s.sp → at + 8 ≤ reach → Points isa b x reach s → Leads isa n o s (same (store (G (stack_pointer isa)) b at) ∷ rest) → Leads isa (suc n) o (stored size (x + at) s.sp s) rest
stores_sp {isa} {n} {o} {s} b x reach at size m reads room p h =
    let there : moved (base isa b s) m.d ≡ x + at = m.to (base isa b s) (omega (arith, p.at, p.far, room)) ∙ ap (λ a. a + at) p.at in
    let form : ℕ → ℕ → Processor = λ a v. stored_at a v s (next size s) in
    goes (stored_at (x + at) s.sp s) m.says p.based tt (ap (form (moved (base isa b s) m.d)) reads ∙ ap (λ (a : ℕ). form a s.sp) there) (λ p. refl) (λ p. refl) h
