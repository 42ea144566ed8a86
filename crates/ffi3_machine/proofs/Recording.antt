-- Bytes that are added behind those of a journal change no earlier event.
use Rattle.std.proofs.Common.{◌≡◌, ℕ, ◌+◌, ◌-◌, ◌≤◌, List, [], ◌∷◌, ◌++◌, length, take, drop, refl, sym, ap, ◌∙◌, arith, length-drop}
use Rattle.std.specs.List.{AllByRecursion}
use Rattle.std.proofs.lemmas.List.{take-append-le, drop-append-le, drop_at, take_all, map-append}
use Rattle.ffi3_machine.specs.declared.journal.Entry.{Entry}
use Rattle.ffi3_machine.specs.declared.journal.Event.{Event}
use Rattle.ffi3_machine.specs.Entries.{entry_event, entry_events, event_of, LiesWithin}

range-append : (xs ys : List ℕ) (from to : ℕ) → from ≤ to → to ≤ length xs → take (to - from) (drop from (xs ++ ys)) ≡ take (to - from) (drop from xs)
range-append xs ys from to low high =
    ap (take (to - from)) (drop-append-le from xs ys (omega arith)) ∙ take-append-le (to - from) (drop from xs) ys (omega (arith, length-drop from xs))

pub entry_events-append : (xs ys : List ℕ) (es : List Entry) → AllByRecursion (LiesWithin (length xs)) es → entry_events (xs ++ ys) es ≡ entry_events xs es
entry_events-append xs ys [] h = refl
entry_events-append xs ys (e ∷ es) h =
    ap (λ b. event_of e.event b ∷ entry_events (xs ++ ys) es) (range-append xs ys e.from e.to h.0.0 h.0.1) ∙ ap (λ r. entry_event xs e ∷ r) (entry_events-append xs ys es h.1)

last-range : (xs ys : List ℕ) (from to : ℕ) → from ≡ length xs → to ≡ length xs + length ys → take (to - from) (drop from (xs ++ ys)) ≡ ys
last-range xs ys from to is_from is_to = ap (take (to - from)) (drop_at xs ys from (sym is_from)) ∙ take_all (to - from) ys (omega arith)

pub entry_events-added : (xs ys : List ℕ) (es : List Entry) (e : Event) (from to : ℕ) → from ≡ length xs → to ≡ length xs + length ys → AllByRecursion (LiesWithin (length xs)) es → entry_events (xs ++ ys) (es ++ record { event = e; from = from; to = to } ∷ []) ≡ entry_events xs es ++ event_of e ys ∷ []
entry_events-added xs ys es e from to is_from is_to h =
    let new : Entry = record { event = e; from = from; to = to } in
    map-append (entry_event (xs ++ ys)) es (new ∷ []) ∙ ap (λ r. r ++ entry_event (xs ++ ys) new ∷ []) (entry_events-append xs ys es h) ∙ ap (λ b. entry_events xs es ++ event_of e b ∷ []) (last-range xs ys from to is_from is_to)
