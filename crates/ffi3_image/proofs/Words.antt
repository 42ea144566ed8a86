-- Numbers of an array, one by one; and a number as 16 digits.
use Rattle.std.proofs.Common.{◌≡◌, ℕ, suc, ◌+◌, ◌-◌, ◌<◌, ◌≤◌, ◌^◌, false, List, [], ◌∷◌, ◌++◌, length, replicate, refl, sym, ap, ap₂, ◌∙◌, append_assoc, append-nil, arith}
use Rattle.std.specs.Fmt.{digits, char_count, padded_integral, format_spec}
use Rattle.serde_json.specs.Data.{Items, no_items, item}
use Rattle.serde_json.specs.Find.{as_str}
use Rattle.serde_json.specs.Events.{items_len}
use Rattle.ffi3_semantics_spec.specs.Lines.{word_text}
use Rattle.ffi3_script_spec.specs.Language.{JsonPath, at_item}
use Rattle.ffi3_json.specs.Parts.{item_at, items_from}
use Rattle.ffi3_json.proofs.Items.{item_next, items_none_left}
use Rattle.ffi3_image_spec.specs.Object.{Reason, Read, read, fault, and_then, read_map, read_word, read_words}

joined : (done : List ℕ) (w : ℕ) (r : Read (List ℕ)) → read_map (λ ws. done ++ ws) (read_map (λ ws. w ∷ ws) r) ≡ read_map (λ ws. (done ++ w ∷ []) ++ ws) r
joined done w (read ws) = ap read (sym (append_assoc done (w ∷ []) ws))
joined done w (fault path reason) = refl

-- after i items these numbers were read
abbrev pub Done : Items → JsonPath → ℕ → List ℕ → Type 0
Done ds path i done = read_words ds path 0 ≡ read_map (λ ws. done ++ ws) (read_words (items_from i ds) path i)

pub done-none : (ds : Items) (path : JsonPath) → Done ds path 0 []
done-none ds path = none (read_words ds path 0) where
  none : (r : Read (List ℕ)) → r ≡ read_map (λ ws. ws) r
  none (read ws) = refl
  none (fault place reason) = refl

here : (ds : Items) (path : JsonPath) (i : ℕ) (done : List ℕ) → i < items_len ds → Done ds path i done
    → read_words ds path 0 ≡ read_map (λ ws. done ++ ws) (and_then (λ w. read_map (λ ws. w ∷ ws) (read_words (items_from (i + 1) ds) path (i + 1))) (read_word (as_str (item_at ds i)) (at_item path i)))
here ds path i done below so_far =
    so_far ∙ ap (λ es. read_map (λ ws. done ++ ws) (read_words es path i)) (item_next ds i below)

pub done-more : (ds : Items) (path : JsonPath) (i : ℕ) (done : List ℕ) (w : ℕ) → i < items_len ds → Done ds path i done
    → read_word (as_str (item_at ds i)) (at_item path i) ≡ read w → Done ds path (i + 1) (done ++ w ∷ [])
done-more ds path i done w below so_far e =
    let more : Read (List ℕ) = read_words (items_from (i + 1) ds) path (i + 1) in
    here ds path i done below so_far ∙ ap (λ r. read_map (λ ws. done ++ ws) (and_then (λ v. read_map (λ ws. v ∷ ws) more) r)) e ∙ joined done w more

pub done-fault : (ds : Items) (path : JsonPath) (i : ℕ) (done : List ℕ) (place : JsonPath) (reason : Reason) → i < items_len ds → Done ds path i done
    → read_word (as_str (item_at ds i)) (at_item path i) ≡ fault place reason → read_words ds path 0 ≡ fault place reason
done-fault ds path i done place reason below so_far e =
    let more : Read (List ℕ) = read_words (items_from (i + 1) ds) path (i + 1) in
    here ds path i done below so_far ∙ ap (λ r. read_map (λ ws. done ++ ws) (and_then (λ v. read_map (λ ws. v ∷ ws) more) r)) e

pub done-all : (ds : Items) (path : JsonPath) (i : ℕ) (done : List ℕ) → items_len ds ≤ i → Done ds path i done → read_words ds path 0 ≡ read done
done-all ds path i done end so_far =
    so_far ∙ ap (λ es. read_map (λ ws. done ++ ws) (read_words es path i)) (items_none_left ds i end) ∙ ap read (append-nil done)

read_is : {A : Type 0} {x y : A} → read x ≡ read y → x ≡ y
read_is e = cc

-- as many numbers as there are items
pub words_length : (ds : Items) (path : JsonPath) (i : ℕ) (ws : List ℕ) → read_words ds path i ≡ read ws → length ws ≡ items_len ds
words_length no_items path i ws e = ap length (sym (read_is e))
words_length (item d ds) path i ws e =
    omega (arith, split (read_word (as_str d) (at_item path i)) (read_words ds path (i + 1)) (words_length ds path (i + 1)) e)
  where
    split : (r : Read ℕ) (more : Read (List ℕ)) → ((vs : List ℕ) → more ≡ read vs → length vs ≡ items_len ds) → and_then (λ w. read_map (λ vs. w ∷ vs) more) r ≡ read ws → length ws ≡ suc (items_len ds)
    split (read w) (read vs) on h = ap length (sym (read_is h)) ∙ ap suc (on vs refl)
    split (read w) (fault p q) on h = cc
    split (fault p q) more on h = cc

pub padded_word : (n : ℕ) → padded_integral (format_spec 32 0 4 16 (2 ^ 64 - 1)) false [] (digits 16 false n) ≡ word_text n
unfolding padded_integral char_count
padded_word n =
    let zeros : 16 - length (digits 16 false n) - 0 - 0 ≡ 16 - length (digits 16 false n) = omega arith in
    ap₂ (λ (k : ℕ) (ds : List ℕ). replicate k 48 ++ ds) zeros (append-nil (digits 16 false n))
