-- Moves that are written into an array one behind another.
use Rattle.std.proofs.Common.{◌≡◌, ℕ, suc, ◌+◌, ◌-◌, ◌<◌, ◌≤◌, List, [], ◌∷◌, ◌++◌, length, map, take, drop, set, get_or, cond, ap, subst, sym, ◌∙◌, refl, arith}
use Rattle.std.proofs.lemmas.List.{map-append, length-map, length-append, length-set, take_more, take_all, drop_all}
use Rattle.std.proofs.lemmas.List.Edits.{sets, sets-eq}
use Rattle.std.proofs.lemmas.Bool.{le-leb, lt-leb}
use Rattle.ffi3_type_spec.specs.Tree.{Tree}
use Rattle.ffi3_type_spec.specs.Layout.{size_of}
use Rattle.ffi3_place_spec.specs.declared.Piece.{Piece}
use Rattle.ffi3_place_spec.specs.declared.Place.{Place}
use Rattle.ffi3_place_spec.specs.declared.Place.TheVariants.{Direct}
use Rattle.ffi3_place_spec.specs.Standard.{round8}
use Rattle.ffi3_place_spec.proofs.Elements.{drop_read}
use Rattle.ffi3_moves.specs.declared.Move.{Move}
use Rattle.ffi3_moves.specs.declared.told.ToldMove.{ToldMove}
use Rattle.ffi3_moves.specs.declared.kinds.Way.{Way}
use Rattle.ffi3_moves.specs.declared.kinds.Way.TheVariants.{In, Out}
use Rattle.ffi3_moves.specs.Moves.{argument_moves, arguments_moves, piece_in, piece_out, pieces_in, pieces_out}
use Rattle.ffi3_moves.specs.Told.{told_in, told_move}
use Rattle.ffi3_moves.proofs.Turns.{turn}

-- what is written first, and then what goes behind it
pub sets_then : {X : Type 0} (ys : List X) (i : ℕ) (us vs : List X) → sets (sets ys i us) (i + length us) vs ≡ sets ys i (us ++ vs)
sets_then ys i [] vs =
    let same : i + 0 ≡ i = omega arith in
    ap (λ (k : ℕ). sets ys k vs) same
sets_then ys i (u ∷ us) vs =
    let on : i + length (u ∷ us) ≡ suc i + length us = omega arith in
    ap (λ (k : ℕ). sets (sets (set ys i u) (suc i) us) k vs) on ∙ sets_then (set ys i u) (suc i) us vs

-- some of the moves are told, and the rest is left
pub told_turn : (here rest all : List Move) (at end : ℕ) (old now whole : List ToldMove) → here ++ rest ≡ all → end ≡ at + length here → now ≡ sets old at (map told_move here) → sets old at (map told_move all) ≡ whole → sets now end (map told_move rest) ≡ whole
told_turn here rest all at end old now whole is ends wrote e =
    let first : List ToldMove = map told_move here in
    let later : List ToldMove = map told_move rest in
    let behind : end ≡ at + length first = ends ∙ ap (λ (n : ℕ). at + n) (sym (length-map here told_move)) in
    let joined : first ++ later ≡ map told_move all = sym (map-append told_move here rest) ∙ ap (map told_move) is in
    ap (λ (l : List ToldMove). sets l end later) wrote ∙ ap (λ (k : ℕ). sets (sets old at first) k later) behind ∙ sets_then old at first later ∙ ap (sets old at) joined ∙ e

pub length_sets : {X : Type 0} (ys : List X) (i : ℕ) (vs : List X) → length (sets ys i vs) ≡ length ys
length_sets ys i [] = refl
length_sets ys i (v ∷ vs) = length_sets (set ys i v) (suc i) vs ∙ length-set ys i v

-- ---- pieces

-- the number of items told before
module _ (i at k j : ℕ) (ps : List Piece) (p : Piece) (m : Move) (x : ToldMove) (old whole : List ToldMove) where
  pub piece_told_in : (t : Tree) → j < length ps → p ≡ get_or ps j p → m ≡ piece_in i at t p → x ≡ told_move m → sets old (k + j) (map told_move (pieces_in i at t (drop j ps))) ≡ whole → sets (set old (k + j) x) (k + (j + 1)) (map told_move (pieces_in i at t (drop (j + 1) ps))) ≡ whole
  piece_told_in t below read is told e =
      let rest : List Move = pieces_in i at t (drop (j + 1) ps) in
      let opened : m ∷ rest ≡ pieces_in i at t (drop j ps) = ap (λ (n : Move). n ∷ rest) is ∙ ap (pieces_in i at t) (sym (drop_read ps j p below read)) in
      told_turn (m ∷ []) rest (pieces_in i at t (drop j ps)) (k + j) (k + (j + 1)) old (set old (k + j) x) whole opened (omega arith) (ap (set old (k + j)) told) e

pieces_out_last : (i at : ℕ) (ps : List Piece) (p : Piece) → pieces_out i at (ps ++ p ∷ []) ≡ piece_out i at p ∷ pieces_out i at ps
pieces_out_last i at [] p = refl
pieces_out_last i at (q ∷ ps) p = ap (λ (ms : List Move). ms ++ piece_out i at q ∷ []) (pieces_out_last i at ps p)

module _ (i at k j n : ℕ) (ps : List Piece) (p : Piece) (m : Move) (x : ToldMove) (old whole : List ToldMove) where
  pub piece_told_out : n ≡ length ps → j < n → p ≡ get_or ps (n - 1 - j) p → m ≡ piece_out i at p → x ≡ told_move m → sets old (k + j) (map told_move (pieces_out i at (take (n - j) ps))) ≡ whole → sets (set old (k + j) x) (k + (j + 1)) (map told_move (pieces_out i at (take (n - (j + 1)) ps))) ≡ whole
  piece_told_out counted below read is told e =
      let rest : List Move = pieces_out i at (take (n - (j + 1)) ps) in
      let last : n - 1 - j ≡ n - (j + 1) = omega (arith, below) in
      let more : n - j ≡ n - (j + 1) + 1 = omega (arith, below) in
      let within : n - (j + 1) < length ps = omega (arith, below, counted) in
      let p_is : p ≡ get_or ps (n - (j + 1)) p = read ∙ ap (λ (l : ℕ). get_or ps l p) last in
      let taken : take (n - j) ps ≡ take (n - (j + 1)) ps ++ p ∷ [] = ap (λ (l : ℕ). take l ps) more ∙ take_more ps (n - (j + 1)) p within ∙ ap (λ (q : Piece). take (n - (j + 1)) ps ++ q ∷ []) (sym p_is) in
      let opened : m ∷ rest ≡ pieces_out i at (take (n - j) ps) = ap (λ (l : Move). l ∷ rest) is ∙ sym (ap (pieces_out i at) taken ∙ pieces_out_last i at (take (n - (j + 1)) ps) p) in
      told_turn (m ∷ []) rest (pieces_out i at (take (n - j) ps)) (k + j) (k + (j + 1)) old (set old (k + j) x) whole opened (omega arith) (ap (set old (k + j)) told) e

pub all_taken : {X : Type 0} (ps : List X) (n : ℕ) → n ≡ length ps → take (n - 0) ps ≡ ps
all_taken ps n is =
    let all : length ps ≤ n - 0 = omega (arith, is) in
    take_all (n - 0) ps all

pub pieces_out_count : (i at : ℕ) (ps : List Piece) → length (pieces_out i at ps) ≡ length ps
pieces_out_count i at [] = refl
pieces_out_count i at (p ∷ ps) =
    length-append (pieces_out i at ps) (piece_out i at p ∷ []) ∙ omega (arith, pieces_out_count i at ps)

pub pieces_in_count : (i at : ℕ) (t : Tree) (ps : List Piece) → length (pieces_in i at t ps) ≡ length ps
pieces_in_count i at t ps = length-map ps (piece_in i at t)

-- ---- arguments

-- how many moves an argument has does not depend on where its value stands
pub count_same : (way : Way) (i at j bt : ℕ) (t : Tree) (p : Place) → length (argument_moves way i at t p) ≡ length (argument_moves way j bt t p)
count_same In i at j bt t (Direct pieces) = pieces_in_count i at t pieces ∙ sym (pieces_in_count j bt t pieces)
count_same Out i at j bt t (Direct pieces) = pieces_out_count i at pieces ∙ sym (pieces_out_count j bt pieces)
count_same _ i at j bt t _ = refl

pub direct_count : (way : Way) (i at : ℕ) (t : Tree) (ps : List Piece) → length (argument_moves way i at t (Direct ps)) ≡ length ps
direct_count In i at t ps = pieces_in_count i at t ps
direct_count Out i at t ps = pieces_out_count i at ps

module _ (way : Way) where
  counts_same : (ts : List Tree) (ps : List Place) (i at j bt : ℕ) → length (arguments_moves way i at ts ps) ≡ length (arguments_moves way j bt ts ps)
  counts_same (t ∷ ts) (p ∷ ps) i at j bt =
      length-append (argument_moves way i at t p) (arguments_moves way (i + 1) (at + round8 (size_of t)) ts ps) ∙ omega (arith, count_same way i at j bt t p, counts_same ts ps (i + 1) (at + round8 (size_of t)) (j + 1) (bt + round8 (size_of t))) ∙ sym (length-append (argument_moves way j bt t p) (arguments_moves way (j + 1) (bt + round8 (size_of t)) ts ps))
  counts_same _ _ i at j bt = refl

  module _ (ts : List Tree) (ps : List Place) (j : ℕ) (t : Tree) (p : Place) (types : drop j ts ≡ t ∷ drop (j + 1) ts) (places : drop j ps ≡ p ∷ drop (j + 1) ps) where
    -- the moves of one argument, and those of the arguments behind it
    module _ (at next : ℕ) (ends : next ≡ at + round8 (size_of t)) where
      first : argument_moves way j at t p ++ arguments_moves way (j + 1) next (drop (j + 1) ts) (drop (j + 1) ps) ≡ arguments_moves way j at (drop j ts) (drop j ps)
      first = turn way ts ps j at next t p types places ends [] (arguments_moves way j at (drop j ts) (drop j ps)) refl

      pub argument_told : (k end : ℕ) (old now whole : List ToldMove) → end ≡ k + length (argument_moves way j at t p) → now ≡ sets old k (map told_move (argument_moves way j at t p)) → sets old k (map told_move (arguments_moves way j at (drop j ts) (drop j ps))) ≡ whole → sets now end (map told_move (arguments_moves way (j + 1) next (drop (j + 1) ts) (drop (j + 1) ps))) ≡ whole
      argument_told k end old now whole behind wrote e =
          told_turn (argument_moves way j at t p) (arguments_moves way (j + 1) next (drop (j + 1) ts) (drop (j + 1) ps)) (arguments_moves way j at (drop j ts) (drop j ps)) k end old now whole first behind wrote e

      -- how many these are
      pub left : length (arguments_moves way j at (drop j ts) (drop j ps)) ≡ length (argument_moves way j at t p) + length (arguments_moves way (j + 1) next (drop (j + 1) ts) (drop (j + 1) ps))
      left =
          sym (ap length first) ∙ length-append (argument_moves way j at t p) (arguments_moves way (j + 1) next (drop (j + 1) ts) (drop (j + 1) ps))

    module _ (count here : ℕ) (is : here ≡ length (argument_moves way j 0 t p)) where
      pub counted : (now all : ℕ) → now ≡ count + here → count + length (arguments_moves way j 0 (drop j ts) (drop j ps)) ≡ all → now + length (arguments_moves way (j + 1) 0 (drop (j + 1) ts) (drop (j + 1) ps)) ≡ all
      counted now all sum e =
          let next : ℕ = 0 + round8 (size_of t) in
          omega (arith, is, sum, e, left 0 next refl, counts_same (drop (j + 1) ts) (drop (j + 1) ps) (j + 1) next (j + 1) 0)

      -- with these there are too many already
      pub uncounted : (most all : ℕ) → (count + here < most → ⊥) → count + length (arguments_moves way j 0 (drop j ts) (drop j ps)) ≡ all → all < most → ⊥
      uncounted most all over e small =
          let sum : count + here < most = omega (arith, is, e, small, left 0 (0 + round8 (size_of t)) refl) in
          over sum

  -- none are left
  pub all_counted : (ts : List Tree) (ps : List Place) (j count all most : ℕ) → length ts ≤ j → count < most → count + length (arguments_moves way j 0 (drop j ts) (drop j ps)) ≡ all → (all < most) × (count ≡ all)
  all_counted ts ps j count all most ended small e =
      let last : length (arguments_moves way j 0 (drop j ts) (drop j ps)) ≡ 0 = ap (λ us. length (arguments_moves way j 0 us (drop j ps))) (drop_all j ts ended) in
      let is : count ≡ all = omega (arith, e, last) in
      (subst (λ (n : ℕ). n < most) is small, is)

-- ---- whole lists

-- all have room
pub told_front : (ms : List Move) (old new : List ToldMove) → length ms ≤ length old → new ≡ sets old 0 (map told_move ms) → new ≡ told_in ms old
told_front ms old new room wrote =
    let xs : List ToldMove = map told_move ms in
    let fits : length xs ≤ length old = omega (arith, room, length-map ms told_move) in
    let front : 0 + length xs ≤ length old = omega (arith, fits) in
    let end : 0 + length xs ≡ length xs = omega arith in
    wrote ∙ sets-eq xs old 0 front ∙ ap (λ (n : ℕ). xs ++ drop n old) end ∙ sym (ap (λ b. cond {A = List ToldMove} b (xs ++ drop (length xs) old) old) (le-leb (length xs) (length old) fits))

-- or not
pub told_none : (ms : List Move) (old new : List ToldMove) → length old < length ms → new ≡ old → new ≡ told_in ms old
told_none ms old new short same =
    let xs : List ToldMove = map told_move ms in
    let long : length old < length xs = omega (arith, short, length-map ms told_move) in
    same ∙ sym (ap (λ b. cond {A = List ToldMove} b (xs ++ drop (length xs) old) old) (lt-leb (length xs) (length old) long))

-- two lists, one behind the other
pub told_both : (first second : List Move) (old between new : List ToldMove) (end : ℕ) → end ≡ length first → between ≡ sets old 0 (map told_move first) → new ≡ sets between end (map told_move second) → new ≡ sets old 0 (map told_move (first ++ second))
told_both first second old between new end ends wrote behind =
    let at_end : end ≡ 0 + length first = omega (arith, ends) in
    behind ∙ told_turn first second (first ++ second) 0 end old between (sets old 0 (map told_move (first ++ second))) refl at_end wrote refl
