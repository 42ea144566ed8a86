-- Texts that a sink takes, one after another, and what is written of one that is interrupted.
use Rattle.std.proofs.Common.{◌≡◌, ℕ, ◌+◌, ◌≤◌, List, [], ◌++◌, length, take, Option, Result, Ok, Err, refl, sym, ap, ◌∙◌, subst, arith, length-append}
use Rattle.std.proofs.lemmas.List.{take-append-le}
use Rattle.std.proofs.Math.Seq.{take-append-add, take-length}
use Rattle.ffi3_io_spec.specs.Sink.{Adds, SinkState}
use Rattle.ffi3_io.proofs.Adding.{Adds-then, Adds-along, Adds-none}
use Rattle.ffi3_io_spec.specs.declared.IoError.{IoError}
use Rattle.ffi3_io_spec.specs.declared.IoError.TheVariants.{NoMemory, Failed}
use Rattle.ffi3_io_spec.specs.Written.{Interrupted, IsCause, TookText, Wrote, WroteLine}

pub took_nothing : (before : SinkState) → TookText [] before before
took_nothing before = record { added = Adds-none before.taken; count = refl }

pub took_then : (a b c : SinkState) (x y whole : List ℕ) → whole ≡ x ++ y → TookText x a b → TookText y b c → TookText whole a c
took_then a b c x y whole is first second = record {
  added = Adds-along a.taken c.taken (x ++ y) whole (sym is) (Adds-then a.taken b.taken c.taken x y first.added second.added);
  count = second.count ∙ first.count;
}

pub took_as : (a b : SinkState) (x y : List ℕ) → x ≡ y → TookText x a b → TookText y a b
took_as a b x y is h = subst (λ (l : List ℕ). TookText l a b) is h

cause_then : (cut : IoError) (a b c : ℕ) → b ≡ a → IsCause cut b c → IsCause cut a c
cause_then cut a b c same h = subst (λ (n : ℕ). IsCause cut n c) same h

-- interrupted after the first part was taken whole
pub cut_after : (a b c : SinkState) (x y whole : List ℕ) (cut : IoError) → whole ≡ x ++ y → TookText x a b → Interrupted y b c cut → Interrupted whole a c cut
cut_after a b c x y whole cut is first second =
    let short : length x + second.part ≤ length whole = omega (arith, ap length is, length-append x y, second.within) in
    let same : x ++ take second.part y ≡ take (length x + second.part) whole = sym (take-append-add x y second.part) ∙ ap (take (length x + second.part)) (sym is) in
    record {
      part = length x + second.part;
      within = short;
      written = Adds-along a.taken c.taken (x ++ take second.part y) (take (length x + second.part) whole) same (Adds-then a.taken b.taken c.taken x (take second.part y) first.added second.written);
      cause = cause_then cut a.faults b.faults c.faults first.count second.cause;
    }

-- interrupted in the first part
pub cut_in : (a b : SinkState) (x y whole : List ℕ) (cut : IoError) → whole ≡ x ++ y → Interrupted x a b cut → Interrupted whole a b cut
cut_in a b x y whole cut is h =
    let short : h.part ≤ length whole = omega (arith, ap length is, length-append x y, h.within) in
    let same : take h.part x ≡ take h.part whole = sym (take-append-le h.part x y h.within) ∙ ap (take h.part) (sym is) in
    record {
      part = h.part;
      within = short;
      written = Adds-along a.taken b.taken (take h.part x) (take h.part whole) same h.written;
      cause = h.cause;
    }

-- want of memory, before anything is written
pub cut_at_once : (a : SinkState) (whole : List ℕ) → Interrupted whole a a NoMemory
cut_at_once a whole = record {
  part = 0;
  within = omega arith;
  written = Adds-along a.taken a.taken [] (take 0 whole) refl (Adds-none a.taken);
  cause = refl;
}

-- and after a first part
pub cut_between : (a b : SinkState) (x y whole : List ℕ) → whole ≡ x ++ y → TookText x a b → Interrupted whole a b NoMemory
cut_between a b x y whole is h = cut_after a b b x y whole NoMemory is h (cut_at_once b y)

-- the whole text is a part of it
pub whole_part : (a b : Option (List ℕ)) (whole : List ℕ) → Adds a whole b → (part : ℕ) × Adds a (take part whole) b
whole_part a b whole h =
    (length whole, Adds-along a b whole (take (length whole) whole) (sym (take-length whole)) h)

-- a line that was not written whole is interrupted
pub wrote_line : {A : Type 0} (line : List ℕ) (a b : SinkState) (r : Result A IoError) → WroteLine line a b r → Wrote line a b r
wrote_line line a b (Ok done) h = h
wrote_line line a b (Err NoMemory) h =
    subst (λ (s : SinkState). Interrupted line a s NoMemory) (sym h) (cut_at_once a line)
wrote_line line a b (Err Failed) h = record {
  part = h.part.0;
  within = omega (arith, h.part.1);
  written = h.part.2;
  cause = (h.rose, h.never_falls);
}
