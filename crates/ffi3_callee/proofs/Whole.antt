-- A machine of which the stack alone is written, and its mark: all else is as it was, the exchange region too, whose words are what a call passes.
use Rattle.std.proofs.Common.{◌≡◌, inl, inr, ℕ, ◌+◌, ◌-◌, ◌*◌, ◌/◌, ◌%◌, ◌<◌, ◌≤◌, Bool, true, false, List, length, take, drop, get_or, refl, ap, sym, ◌∙◌, subst, arith}
use Rattle.std.specs.Int.{w64, to_le_bytes}
use Rattle.std.proofs.lemmas.Bool.{cases_lt}
use Rattle.std.proofs.lemmas.List.{drop_at, ext_get_or, get_or-drop, take_at}
use Rattle.std.proofs.lemmas.Nat.{le_bytes_8}
use Rattle.ffi3_type_spec.proofs.Parts.{index_part, length_part}
use Rattle.ffi3_machine_spec.specs.declared.stub.TheConstants.{REGISTERS_END}
use Rattle.ffi3_machine_spec.specs.Memory.{number_of}
use Rattle.ffi3_machine_spec.specs.State.{State, AreBytes, IsMachine, scribbled}
use Rattle.ffi3_machine.proofs.Words.{bytes-drop, bytes-take}
use Rattle.ffi3_machine_transfer.specs.Passing.{by_exchange, passing, passing_if, words_at}
use Rattle.ffi3_machine_transfer.specs.Stored.{WroteOnly}
use Rattle.ffi3_machine_transfer.proofs.Passing.{behind_parts, get_or-words_at}
use Rattle.ffi3_callee.proofs.OwnKept.{own_list}

-- ---- bytes are those of their words

module _ (xs ys : List ℕ) (xs_bytes : AreBytes xs) (ys_bytes : AreBytes ys) (xs_long : length xs ≡ 552) (ys_long : length ys ≡ 552) where
  -- eight bytes that make the same number are the same
  same_eight : (p : ℕ) → p + 8 ≤ 552 → number_of 8 (take 8 (drop p ys)) ≡ number_of 8 (take 8 (drop p xs)) → take 8 (drop p ys) ≡ take 8 (drop p xs)
  same_eight p fits e =
      let x : List ℕ = take 8 (drop p xs) in
      let y : List ℕ = take 8 (drop p ys) in
      sym (le_bytes_8 y (number_of 8 y) (length_part ys p 8 (omega (arith, fits, ys_long))) (bytes-take 8 (drop p ys) (bytes-drop p ys ys_bytes)) refl) ∙ ap (to_le_bytes w64) e ∙ le_bytes_8 x (number_of 8 x) (length_part xs p 8 (omega (arith, fits, xs_long))) (bytes-take 8 (drop p xs) (bytes-drop p xs xs_bytes)) refl

  -- word k of 32 from a place on
  same_word : (from k : ℕ) → from + 256 ≤ 552 → k < 32 → words_at from ys ≡ words_at from xs → take 8 (drop (from + 8 * k) ys) ≡ take 8 (drop (from + 8 * k) xs)
  same_word from k fits below e =
      same_eight (from + 8 * k) (omega (arith, fits, below)) (sym (get_or-words_at from ys k below) ∙ ap (λ l. get_or l k 0) e ∙ get_or-words_at from xs k below)

  -- byte r of it
  same_byte : (from k r : ℕ) → from + 256 ≤ 552 → k < 32 → r < 8 → words_at from ys ≡ words_at from xs → get_or ys (from + 8 * k + r) 0 ≡ get_or xs (from + 8 * k + r) 0
  same_byte from k r fits below h e =
      sym (index_part ys (from + 8 * k) 8 r h) ∙ ap (λ l. get_or l r 0) (same_word from k fits below e) ∙ index_part xs (from + 8 * k) 8 r h

  by_words : words_at 0 ys ≡ words_at 0 xs → words_at 256 ys ≡ words_at 256 xs → drop REGISTERS_END ys ≡ drop REGISTERS_END xs → ys ≡ xs
  by_words low high rest =
      ext_get_or 0 ys xs (ys_long ∙ sym xs_long) (λ i h. elim (cases_lt i 256) [
        | inl first ↦ let there : 0 + 8 * (i / 8) + i % 8 ≡ i = omega arith in
            subst (λ n. get_or ys n 0 ≡ get_or xs n 0) there (same_byte 0 (i / 8) (i % 8) (omega arith) (omega (arith, first)) (omega arith) low)
        | inr more ↦ elim (cases_lt i REGISTERS_END) [
          | inl second ↦ let there : 256 + 8 * ((i - 256) / 8) + (i - 256) % 8 ≡ i = omega (arith, more) in
              subst (λ n. get_or ys n 0 ≡ get_or xs n 0) there (same_byte 256 ((i - 256) / 8) ((i - 256) % 8) (omega arith) (omega (arith, more, second)) (omega arith) high)
          | inr last ↦ let there : REGISTERS_END + (i - REGISTERS_END) ≡ i = omega (arith, last) in
              subst (λ n. get_or ys n 0 ≡ get_or xs n 0) there (sym (get_or-drop REGISTERS_END ys (i - REGISTERS_END) 0) ∙ ap (λ l. get_or l (i - REGISTERS_END) 0) rest ∙ get_or-drop REGISTERS_END xs (i - REGISTERS_END) 0)
        ]
      ])

-- ---- what stands behind a call's registers

module _ (a b : State) (before : IsMachine a) (after : IsMachine b) where
  parts : (passing_if true b).exchange ≡ (passing_if true a).exchange → (b.general ≡ a.general) × (b.floating ≡ a.floating) × (drop REGISTERS_END b.exchange ≡ drop REGISTERS_END a.exchange)
  parts = behind_parts a b (before.general ∙ sym after.general) (before.floating ∙ sym after.floating)

  own_floating : (k : Bool) → (passing_if k b).floating ≡ (passing_if k a).floating → (passing_if k b).exchange ≡ (passing_if k a).exchange → b.floating ≡ a.floating
  own_floating true same behind = (parts behind).1
  own_floating false same behind = same

  own_exchange : (k : Bool) → (passing_if k b).general ≡ (passing_if k a).general → (passing_if k b).floating ≡ (passing_if k a).floating → (passing_if k b).exchange ≡ (passing_if k a).exchange → b.exchange ≡ a.exchange
  own_exchange true low high behind =
      by_words a.exchange b.exchange before.exchange_bytes after.exchange_bytes before.exchange after.exchange low high (parts behind).2
  own_exchange false low high behind = behind

  pub only_written : (low high : ℕ) → WroteOnly low high (passing a) (passing b) → b ≡ record a { stack = b.stack; mark = b.mark }
  only_written low high w =
      let t : by_exchange b.target ≡ by_exchange a.target = ap by_exchange w.within.target in
      let g = subst (λ (k : Bool). (passing_if k b).general ≡ (passing a).general) t w.general in
      let f = subst (λ (k : Bool). (passing_if k b).floating ≡ (passing a).floating) t w.floating in
      let x = subst (λ (k : Bool). (passing_if k b).exchange ≡ (passing a).exchange) t w.within.exchange in
      let general = own_list a b before after low high w in
      let floating = own_floating (by_exchange a.target) f x in
      let exchange = own_exchange (by_exchange a.target) g f x in
      λ i. record {
        target = w.within.target i;
        general = general i;
        floating = floating i;
        sp = w.sp i;
        pc = w.within.pc i;
        mark = b.mark;
        stack = b.stack;
        code = w.within.code i;
        exchange = exchange i;
        steps = w.within.steps i;
        events = w.within.events i;
        spare_events = w.within.spare_events i;
        spare_bytes = w.within.spare_bytes i;
      }

-- and a scribble looks at neither
pub scribbled_beside : (n : ℕ) (b d r e : State) → r ≡ scribbled n d → d ≡ record b { stack = d.stack; mark = d.mark } → b ≡ e → r ≡ record (scribbled n e) { stack = r.stack; mark = r.mark }
scribbled_beside n b d r e r_is d_is b_is =
    let stack : d.stack ≡ r.stack = ap (λ q. q.stack) (sym r_is) in
    let mark : d.mark ≡ r.mark = ap (λ q. q.mark) (sym r_is) in
    r_is ∙ ap (scribbled n) d_is ∙ ap (λ q. record (scribbled n q) { stack = d.stack; mark = d.mark }) b_is ∙ ap (λ l. record (scribbled n e) { stack = l; mark = d.mark }) stack ∙ ap (λ k. record (scribbled n e) { stack = r.stack; mark = k }) mark
