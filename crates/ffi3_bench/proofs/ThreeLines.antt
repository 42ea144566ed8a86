-- Three lines, one after another; and that the made script is one that can be measured.
use Rattle.std.proofs.Common.{◌≡◌, ℕ, ◌≤◌, List, ◌++◌, length, codes, refl, sym, ap, subst, ◌∙◌}
use Rattle.std.specs.Prelude.{Result, Ok, Err}
use Rattle.ffi3_type_spec.specs.Value.{void_value}
use Rattle.ffi3_place_spec.specs.Standard.{Standard}
use Rattle.ffi3_semantics_spec.specs.Lines.{untraced, text_of_run}
use Rattle.ffi3_semantics_spec.specs.Meaning.{Program, meaning_of, returned}
use Rattle.ffi3_amd64_spec.specs.Amd64.{amd64}
use Rattle.ffi3_aapcs64_spec.specs.Aapcs64.{aapcs64}
use Rattle.ffi3_riscv_spec.specs.Riscv.{riscv}
use Rattle.ffi3_script_spec.specs.Script.{Script}
use Rattle.ffi3_script_spec.specs.Meaning.{program_of}
use Rattle.ffi3_script_spec.specs.Made.{made, made_types}
use Rattle.ffi3_script_spec.proofs.MadeRuns.{NeedsLittle, made_returns}
use Rattle.ffi3_io_spec.specs.Sink.{SinkState}
use Rattle.ffi3_io_spec.specs.Written.{TookText, Wrote, WroteLine}
use Rattle.ffi3_io_spec.specs.declared.IoError.{IoError}
use Rattle.ffi3_io_spec.specs.declared.IoError.TheVariants.{NoMemory}
use Rattle.ffi3_io.proofs.Writing.{took_then, cut_after, cut_at_once, cut_in, wrote_line}
use Rattle.ffi3_app_spec.specs.BenchText.{calls_of, moves_of, need_of_all, counts_text, line_of, bench_text}
use Rattle.ffi3_bench.proofs.Texts.{word_short}

module _ (std : Standard) (seed calls : ℕ) (few : calls ≤ 1000) (little : NeedsLittle std (made_types seed)) (s : Script) (is : s ≡ made seed calls) where
  pub it_returns : (meaning_of (program_of std s)).end ≡ returned void_value
  it_returns =
      ap (λ (t : Script). (meaning_of (program_of std t)).end) is ∙ (made_returns std seed calls few little).ended

  pub it_is_short : length (text_of_run untraced (program_of std s)) ≤ 21
  it_is_short =
      subst (λ (t : Script). length (text_of_run untraced (program_of std t)) ≤ 21) (sym is) (word_short (text_of_run untraced (program_of std (made seed calls))) (made_returns std seed calls few little).says)

abbrev Writing : Type 0
Writing = Result Unit IoError

-- the line of what was measured of a program was written, or a part of it
pub measured_line : (target : List ℕ) (p : Program) (calls moves need : ℕ) (taken line : List ℕ) → line ≡ (target ++ counts_text calls moves need) ++ taken → calls ≡ calls_of p → moves ≡ moves_of p → need ≡ need_of_all p → taken ≡ text_of_run untraced p → (a b : SinkState) (r : Writing) → WroteLine line a b r → Wrote (line_of target p) a b r
measured_line target p calls moves need taken line is is_calls is_moves is_need is_taken a b r wrote =
    let same : line ≡ line_of target p = is ∙ (λ i. (target ++ counts_text (is_calls i) (is_moves i) (is_need i)) ++ is_taken i) in
    subst (λ (l : List ℕ). Wrote l a b r) same (wrote_line line a b r wrote)

-- ---- of three pieces

module _ (x y z : List ℕ) where
  in_first : (a b : SinkState) (e : IoError) (r : Writing) → Wrote {A = Unit} x a b (Err e) → r ≡ Err e → Wrote (x ++ (y ++ z)) a b r
  in_first a b e r cut same =
      subst (λ (q : Writing). Wrote (x ++ (y ++ z)) a b q) (sym same) (cut_in a b x (y ++ z) (x ++ (y ++ z)) e refl cut)

  in_second : (a b c : SinkState) (e : IoError) (r : Writing) → TookText x a b → Wrote {A = Unit} y b c (Err e) → r ≡ Err e → Wrote (x ++ (y ++ z)) a c r
  in_second a b c e r first cut same =
      subst (λ (q : Writing). Wrote (x ++ (y ++ z)) a c q) (sym same) (cut_after a b c x (y ++ z) (x ++ (y ++ z)) e refl first (cut_in b c y z (y ++ z) e refl cut))

  in_third : (a b c d : SinkState) (r : Writing) → TookText x a b → TookText y b c → Wrote z c d r → Wrote (x ++ (y ++ z)) a d r
  in_third a b c d (Ok u) first second third =
      took_then a b d x (y ++ z) (x ++ (y ++ z)) refl first (took_then b c d y z (y ++ z) refl second third)
  in_third a b c d (Err e) first second third =
      cut_after a b d x (y ++ z) (x ++ (y ++ z)) e refl first (cut_after b c d y z (y ++ z) e refl second third)

-- ---- of the three lines of a script

module _ (seed calls : ℕ) (s : Script) (is : s ≡ made seed calls) where
  abbrev first : List ℕ
  first = line_of (codes "amd64") (program_of amd64 s)

  abbrev second : List ℕ
  second = line_of (codes "aapcs64") (program_of aapcs64 s)

  abbrev third : List ℕ
  third = line_of (codes "riscv") (program_of riscv s)

  whole : (first ++ (second ++ third)) ≡ bench_text seed calls
  whole = ap (λ (t : Script). line_of (codes "amd64") (program_of amd64 t) ++ (line_of (codes "aapcs64") (program_of aapcs64 t) ++ line_of (codes "riscv") (program_of riscv t))) is

  along : (a b : SinkState) (r : Writing) → Wrote (first ++ (second ++ third)) a b r → Wrote (bench_text seed calls) a b r
  along a b r h = subst (λ (t : List ℕ). Wrote t a b r) whole h

  pub first_ended : (a b : SinkState) (e : IoError) (r : Writing) → Wrote {A = Unit} first a b (Err e) → r ≡ Err e → Wrote (bench_text seed calls) a b r
  first_ended a b e r cut same =
      along a b r (in_first first second third a b e r cut same)

  pub second_ended : (a b c : SinkState) (e : IoError) (r : Writing) → TookText first a b → Wrote {A = Unit} second b c (Err e) → r ≡ Err e → Wrote (bench_text seed calls) a c r
  second_ended a b c e r took cut same =
      along a c r (in_second first second third a b c e r took cut same)

  pub third_ended : (a b c d : SinkState) (r : Writing) → TookText first a b → TookText second b c → Wrote third c d r → Wrote (bench_text seed calls) a d r
  third_ended a b c d r one two three =
      along a d r (in_third first second third a b c d r one two three)

pub none_written : (text : List ℕ) (a : SinkState) (r : Writing) → r ≡ Err NoMemory → Wrote text a a r
none_written text a r same =
    subst (λ (q : Writing). Wrote text a a q) (sym same) (cut_at_once a text)
