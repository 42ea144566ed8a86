-- What stubs load into registers and store from them, as words of a machine and of what a call passes.
use Rattle.std.specs.Prelude.{◌||◌}
use Rattle.std.proofs.Common.{◌≡◌, ℕ, ◌^◌, ◌<◌, Bool, true, false, List, [], ◌∷◌, refl, ap, sym, ◌∙◌, subst, arith}
use Rattle.std.proofs.lemmas.Bool.{ne_eqb}
use Rattle.ffi3_machine_spec.specs.Memory.{low_bytes}
use Rattle.ffi3_place_spec.specs.declared.Loc.{Loc}
use Rattle.ffi3_place_spec.specs.declared.Loc.TheVariants.{G, F, S}
use Rattle.ffi3_place_spec.specs.Sound.{Apart, IsNoneOf, IsOneOf}
use Rattle.ffi3_machine_spec.specs.State.{State, IsMachine, x_of}
use Rattle.ffi3_machine_spec.specs.Stubs.{exchanged_at}
use Rattle.ffi3_stubs.specs.Effects.{held, held_in}
use Rattle.ffi3_stubs.specs.Calls.{CameFromExchange, OthersStay, WentToExchange, exchange_bytes, is_in, same_loc}
use Rattle.ffi3_machine_transfer.specs.Passing.{passing_if}
use Rattle.ffi3_machine_transfer.specs.Stored.{IsPlace, SameAt, word_in}
use Rattle.ffi3_machine_transfer.proofs.Composing.{by_register, same_word_at}
use Rattle.ffi3_machine_transfer.proofs.Passing.{number_stored, word_passed}
use Rattle.ffi3_machine_transfer.proofs.Tables.{one_of_each}

-- ---- registers that a stub's list does not name

apart_not_same : (l m : Loc) → Apart l m → same_loc l m ≡ false
apart_not_same (G a) (G b) h = ne_eqb a b h
apart_not_same (F a) (F b) h = ne_eqb a b h
apart_not_same _ _ h = refl

none_in : (ls : List Loc) (l : Loc) → IsNoneOf ls l → is_in l ls ≡ false
none_in [] l h = refl
none_in (m ∷ ms) l h = ap (λ b. b || is_in l ms) (apart_not_same l m h.0) ∙ none_in ms l h.1

-- ---- a register's word

pub word_held : (base : ℕ) (l : Loc) (s : State) → IsPlace 0 l → word_in base s l ≡ held l s
word_held base l s lies = by_register (λ l. word_in base s l ≡ held l s) (λ r below. refl) (λ r below. refl) l lies

pub held_small : (l : Loc) (s : State) → IsMachine s → held l s < 2 ^ 64
held_small (G r) s is = is.general_words r
held_small (F r) s is = is.floating_words r
held_small (S n w) s is = omega arith

-- registers that a stub leaves
pub left_by : (ls : List Loc) (m n : State) → OthersStay ls m n → (l : Loc) → IsPlace 0 l → IsNoneOf ls l → SameAt 0 l m n
left_by ls m n stay l lies none =
    by_register (λ l. IsNoneOf ls l → SameAt 0 l m n) (λ r below none. stay (G r) (none_in ls (G r) none)) (λ r below none. stay (F r) (none_in ls (F r) none)) l lies none

-- ---- registers that a stub loads hold what was passed

pub loaded_as_passed : (b : Bool) → b ≡ true → (ls : List Loc) (m t n : State) → ((l : Loc) → IsPlace 0 l → x_of (exchanged_at l) t ≡ x_of (exchanged_at l) m) → CameFromExchange ls t n → (l : Loc) → IsPlace 0 l → IsOneOf ls l → SameAt 0 l (passing_if b m) n
loaded_as_passed b e ls m t n same came l lies some =
    let loaded : held l n ≡ x_of (exchanged_at l) t = one_of_each (λ k. held k n ≡ x_of (exchanged_at k) t) l ls came some in
    subst (λ (b : Bool). SameAt 0 l (passing_if b m) n) (sym e) (same_word_at 0 l (passing_if true m) n lies (word_held 0 l n lies ∙ loaded ∙ same l lies ∙ sym (word_passed 0 l m lies)))

-- ---- what a stub stores is passed

pub stored_as_passed : (b : Bool) → b ≡ true → (ls : List Loc) (m t n : State) → IsMachine m → t.general ≡ m.general → t.floating ≡ m.floating → WentToExchange ls t n → (l : Loc) → IsPlace 0 l → IsOneOf ls l → SameAt 0 l m (passing_if b n)
stored_as_passed b e ls m t n is general floating went l lies some =
    let there : exchange_bytes (exchanged_at l) n ≡ low_bytes 8 (held l t) = one_of_each (λ k. exchange_bytes (exchanged_at k) n ≡ low_bytes 8 (held k t)) l ls went some in
    let same : held l t ≡ held l m = λ i. held_in l (general i) (floating i) in
    subst (λ (b : Bool). SameAt 0 l m (passing_if b n)) (sym e) (same_word_at 0 l m (passing_if true n) lies (word_passed 0 l n lies ∙ number_stored (exchanged_at l) (held l m) n (there ∙ ap (low_bytes 8) same) (held_small l m is) ∙ sym (word_held 0 l m lies)))
