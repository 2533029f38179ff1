-- One step of a walk over a list, for each definition that recurses over bytes. Assumes nothing.
use Prim.Native.Nat.{ℕ, zero, suc, ◌+◌, ◌-◌, ◌≤◌, ◌<◌}
use mathlib.Core.Path.{◌≡◌, refl, sym, ap, ◌∙◌}
use mathlib.Core.Bool.{Bool, true, false, cond, not, ◌&&◌}
use mathlib.Core.List.{List, [], ◌∷◌, ◌++◌}
use native.Mathlib.Numerals.{add-one}
use native.Mathlib.Omega.{arith}
use lib.Dec.{eqb, ltb}
use Rattle.std.proofs.Common.{Some, None, length-take}
use Rattle.std.proofs.lemmas.Bool.{ltb-false}
use Rattle.std.proofs.lemmas.List.{take_more_set}
use Rattle.std.proofs.lemmas.List.Sums.{prefix_len-le-length}
use lib.ListN.{length, take, drop, set, get_or, drop_of_length-le}
use lib.Seq.{drop-cons, get_or-take, length-take-le}
use borrow.Author.Tests.{eq-eqb, ne_eqb, le-ltb, lt-ltb}
use Rattle.std.specs.List.{position, position_or_len, count_by}
use Rattle.std.specs.Option.{unwrap_or}
use Rattle.std.specs.Cmp.Lexicographic.{pointwise}
use Rattle.std.proofs.lemmas.List.{take-take}
use Rattle.std.proofs.lemmas.List.Recursion.{is_position_or_len, is_count_by}
use Rattle.command.specs.Lines.{line_size, pushed, pushed_to, gathered_of, gathered_to, without_cr, without_cr_of, cut}
use Rattle.command.specs.Texts.{is_blank, spaced, with, text_from, text_of}
use Rattle.command.specs.Words.{space_at, word_at, spaces, word_count}
use Rattle.command.specs.declared.line.Line.{Line}

-- the list from a place on begins with the byte there
pub next : (l : List ℕ) (i : ℕ) → i < length l → drop i l ≡ get_or l i 0 ∷ drop (i + 1) l
next l i h = rw add-one (drop-cons l i 0 h)

-- one byte more in the first n bytes of an array
pub pushed_full : (b : List ℕ) (n x : ℕ) → length b ≡ line_size → line_size ≤ n → take n b ≡ pushed (take n b) x
unfolding pushed
pushed_full b n x l h =
    let e : line_size ≤ length (take n b) = omega (arith, l, h, length-take n b) in
    sym (ap (λ (t : Bool). cond t (take n b ++ x ∷ []) (take n b)) (le-ltb (length (take n b)) line_size e))

pub pushed_more : (b : List ℕ) (n x : ℕ) → length b ≡ line_size → n < line_size → take (n + 1) (set b n x) ≡ pushed (take n b) x
unfolding pushed
pushed_more b n x l h =
    let fits : n ≤ length b = omega arith in
    let in_it : n < length b = omega arith in
    let e : length (take n b) < line_size = omega (arith, h, length-take-le n b fits) in
    take_more_set b n x in_it ∙ sym (ap (λ (t : Bool). cond t (take n b ++ x ∷ []) (take n b)) (lt-ltb (length (take n b)) line_size e))

pub and_true : (t : Bool) → (t && true) ≡ t
and_true true = refl
and_true false = refl

-- the CR at its end
cr_test : (l : List ℕ) → pointwise eqb (drop (length l - 1) l) (13 ∷ []) ≡ eqb (get_or l (length l - 1) 0) 13
cr_test [] = refl
cr_test (b ∷ bs) =
    let l = b ∷ bs in
    let h : length l - 1 < length l = omega arith in
    let k : length l ≤ length l - 1 + 1 = omega arith in
    ap (λ (x : List ℕ). pointwise eqb x (13 ∷ [])) (next l (length l - 1) h ∙ ap (λ (x : List ℕ). get_or l (length l - 1) 0 ∷ x) (drop_of_length-le l k))
    ∙ and_true (eqb (get_or l (length l - 1) 0) 13)

pub cut_other : (l : List ℕ) → pointwise eqb (drop (length l - 1) l) (13 ∷ []) ≡ false → l ≡ without_cr l
unfolding without_cr
cut_other l h = sym (ap (λ (t : Bool). cond t (take (length l - 1) l) l) (sym (cr_test l) ∙ h))

pub cut_cr : (b : List ℕ) (n m : ℕ) (l : List ℕ) → l ≡ take n b → pointwise eqb (drop (length l - 1) l) (13 ∷ []) ≡ true → m + 1 ≡ length l → m ≤ n → take m b ≡ without_cr l
unfolding without_cr
cut_cr b n m l e h k f =
    let i : length l - 1 ≡ m = omega arith in
    sym (ap (λ (t : Bool). cond t (take (length l - 1) l) l) (sym (cr_test l) ∙ h) ∙ ap (λ (j : ℕ). take j l) i ∙ ap (take m) e ∙ take-take m n b f)

-- the same of a whole line, whose count lies within its array
module _ (l : Line) (s : List ℕ) (h : length l.bytes ≡ line_size) (k : l.count ≤ line_size) (e : s ≡ take l.count l.bytes) where
  last_test : (m : ℕ) → l.count ≡ suc m → pointwise eqb (drop (length s - 1) s) (13 ∷ []) ≡ eqb (get_or l.bytes m 0) 13
  last_test m n =
      let i : length s - 1 ≡ m = omega (arith, ap length e, length-take l.count l.bytes, h, k, n) in
      let j : m < l.count = omega (arith, n) in
      cr_test s ∙ ap (λ (x : ℕ). eqb x 13) (ap (λ (x : ℕ). get_or s x 0) i ∙ ap (λ (x : List ℕ). get_or x m 0) e ∙ get_or-take l.count l.bytes m 0 j)

  cut_by : (m : ℕ) (t : Bool) → l.count ≡ suc m → pointwise eqb (drop (length s - 1) s) (13 ∷ []) ≡ t → without_cr_of l ≡ cond t (record { bytes = l.bytes; count = m }) l
  unfolding without_cr_of
  cut_by m t n p = ap (λ (x : ℕ). cut x l) n ∙ ap (λ (u : Bool). cond u (record { bytes = l.bytes; count = m }) l) (sym (last_test m n) ∙ p)

  pub whole_cr : (m : ℕ) → pointwise eqb (drop (length s - 1) s) (13 ∷ []) ≡ true → m + 1 ≡ length s → record { bytes = l.bytes; count = m } ≡ without_cr_of l
  whole_cr m p q =
      let n : l.count ≡ suc m = omega (arith, ap length e, length-take l.count l.bytes, h, k, q) in
      sym (cut_by m true n p)

  pub whole_other : pointwise eqb (drop (length s - 1) s) (13 ∷ []) ≡ false → l ≡ without_cr_of l
  unfolding without_cr_of
  whole_other p = go l.count refl
    where
      go : (n : ℕ) → l.count ≡ n → l ≡ without_cr_of l
      go zero n = sym (ap (λ (x : ℕ). cut x l) n)
      go (suc m) n = sym (cut_by m false n p)

-- a line is gathered
module _ (b : List ℕ) (l : List ℕ) (i : ℕ) where
  gather_by : (t : Bool) → i < length b → eqb (get_or b i 0) 10 ≡ t →
      gathered_of l i (drop i b) ≡ cond t (l, Some (i + 1)) (gathered_of (pushed l (get_or b i 0)) (i + 1) (drop (i + 1) b))
  unfolding gathered_of
  gather_by t h e =
      ap (gathered_of l i) (next b i h)
      ∙ ap (λ (u : Bool). cond u (l, Some (i + 1)) (gathered_of (pushed l (get_or b i 0)) (i + 1) (drop (i + 1) b))) e

  pub gather_ends : i < length b → get_or b i 0 ≡ 10 → gathered_of l i (drop i b) ≡ (l, Some (i + 1))
  gather_ends h e = gather_by true h (eq-eqb (get_or b i 0) 10 e)

  pub gather_goes : i < length b → (get_or b i 0 ≡ 10 → ⊥) → gathered_of l i (drop i b) ≡ gathered_of (pushed l (get_or b i 0)) (i + 1) (drop (i + 1) b)
  gather_goes h e = gather_by false h (ne_eqb (get_or b i 0) 10 e)

  pub gather_stops : length b ≤ i → gathered_of l i (drop i b) ≡ (l, None)
  unfolding gathered_of
  gather_stops h = ap (gathered_of l i) (drop_of_length-le b h)

-- the same of a whole line
module _ (b : List ℕ) (l : Line) (i : ℕ) where
  line_by : (t : Bool) → i < length b → eqb (get_or b i 0) 10 ≡ t →
      gathered_to l (drop i b) ≡ cond t l (gathered_to (pushed_to l (get_or b i 0)) (drop (i + 1) b))
  unfolding gathered_to
  line_by t h e =
      ap (gathered_to l) (next b i h)
      ∙ ap (λ (u : Bool). cond u l (gathered_to (pushed_to l (get_or b i 0)) (drop (i + 1) b))) e

  pub line_ends : i < length b → get_or b i 0 ≡ 10 → gathered_to l (drop i b) ≡ l
  line_ends h e = line_by true h (eq-eqb (get_or b i 0) 10 e)

  pub line_goes : i < length b → (get_or b i 0 ≡ 10 → ⊥) → gathered_to l (drop i b) ≡ gathered_to (pushed_to l (get_or b i 0)) (drop (i + 1) b)
  line_goes h e = line_by false h (ne_eqb (get_or b i 0) 10 e)

  pub line_stops : length b ≤ i → gathered_to l (drop i b) ≡ l
  unfolding gathered_to
  line_stops h = ap (gathered_to l) (drop_of_length-le b h)

-- one byte of a line
module _ (b : List ℕ) (gap : Bool) (t : List ℕ) (i : ℕ) where
  text_by : (u : Bool) → i < length b → eqb (get_or b i 0) 35 ≡ u →
      text_from gap t (drop i b) ≡ cond u t (text_from (is_blank (get_or b i 0)) (with gap t (get_or b i 0)) (drop (i + 1) b))
  unfolding text_from
  text_by u h e =
      ap (text_from gap t) (next b i h)
      ∙ ap (λ (v : Bool). cond v t (text_from (is_blank (get_or b i 0)) (with gap t (get_or b i 0)) (drop (i + 1) b))) e

  pub text_ends : i < length b → get_or b i 0 ≡ 35 → text_from gap t (drop i b) ≡ t
  text_ends h e = text_by true h (eq-eqb (get_or b i 0) 35 e)

  pub text_goes : i < length b → (get_or b i 0 ≡ 35 → ⊥) →
      text_from gap t (drop i b) ≡ text_from (is_blank (get_or b i 0)) (with gap t (get_or b i 0)) (drop (i + 1) b)
  text_goes h e = text_by false h (ne_eqb (get_or b i 0) 35 e)

  pub text_stops : length b ≤ i → text_from gap t (drop i b) ≡ t
  unfolding text_from
  text_stops h = ap (text_from gap t) (drop_of_length-le b h)

-- the library's words for the first space and for the spaces
one_more : (n : ℕ) → suc n ≡ 1 + n
one_more n = omega arith

space_step : (b : ℕ) (l : List ℕ) → space_at (b ∷ l) ≡ cond (eqb b 32) 0 (1 + space_at l)
unfolding space_at
space_step b l = ap (cond (eqb b 32) 0) (one_more (space_at l))

spaces_step : (b : ℕ) (l : List ℕ) → spaces (b ∷ l) ≡ cond (eqb b 32) (1 + spaces l) (spaces l)
unfolding spaces
spaces_step b l = ap (λ (n : ℕ). cond (eqb b 32) n (spaces l)) (one_more (spaces l))

pub space_is : (l : List ℕ) → space_at l ≡ position_or_len (λ b. eqb b 32) l
unfolding space_at
space_is l = is_position_or_len space_at (λ (b : ℕ). eqb b 32) refl space_step l

pub spaces_are : (l : List ℕ) → spaces l ≡ count_by (λ b. eqb b 32) l
unfolding spaces
spaces_are l = is_count_by spaces (λ (b : ℕ). eqb b 32) refl spaces_step l

pub words_some : (l : List ℕ) → (length l ≡ 0 → ⊥) → word_count l ≡ suc (count_by (λ b. eqb b 32) l)
unfolding word_count
words_some [] h = absurd (h refl)
words_some (b ∷ bs) h = ap suc (spaces_are (b ∷ bs))

pub words_empty : (l : List ℕ) → length l ≡ 0 → word_count l ≡ 0
unfolding word_count
words_empty [] h = refl
words_empty (b ∷ bs) h = let z : 0 < length (b ∷ bs) = omega arith in omega arith

-- one word is passed
pub word_next : (k i : ℕ) (l : List ℕ) → i < k → word_at (k - i) l ≡ word_at (k - (i + 1)) (drop (suc (space_at l)) l)
unfolding word_at
word_next k i l h =
    let e : k - i ≡ suc (k - (i + 1)) = omega arith in
    ap (λ (m : ℕ). word_at m l) e

pub word_here : (k i : ℕ) (l : List ℕ) → k ≤ i → word_at (k - i) l ≡ take (space_at l) l
unfolding word_at
word_here k i l h =
    let e : k - i ≡ 0 = omega arith in
    ap (λ (m : ℕ). word_at m l) e

-- the place that the library finds, or the length
pub space_within : (l : List ℕ) → space_at l ≤ length l
space_within l =
    let e = space_is l in
    let w : position_or_len (λ b. eqb b 32) l ≤ length l = prefix_len-le-length (λ b. not (eqb b 32)) l in
    omega (arith, e, w)

pub space_found : (l : List ℕ) → unwrap_or (position (λ b. eqb b 32) l) (length l) ≡ space_at l
space_found l = go (ltb (position_or_len (λ b. eqb b 32) l) (length l)) refl ∙ sym (space_is l)
  where
    go : (t : Bool) → ltb (position_or_len (λ b. eqb b 32) l) (length l) ≡ t →
        unwrap_or (cond t (Some (position_or_len (λ b. eqb b 32) l)) None) (length l) ≡ position_or_len (λ b. eqb b 32) l
    go true e = refl
    go false e =
        let h = ltb-false _ _ e in
        let k = space_within l in
        let s = space_is l in
        omega (arith, h, k, s)

-- one byte of a text
module _ (gap : Bool) (t : List ℕ) (b : ℕ) where
  pub with_blank : is_blank b ≡ true → with gap t b ≡ t
  unfolding with
  with_blank h = ap (λ (u : Bool). cond u t (pushed (spaced gap t) b)) h

  pub with_byte : is_blank b ≡ false → with gap t b ≡ pushed (spaced gap t) b
  unfolding with
  with_byte h = ap (λ (u : Bool). cond u t (pushed (spaced gap t) b)) h

  pub spaced_more : gap ≡ true → eqb (length t) 0 ≡ false → spaced gap t ≡ pushed t 32
  unfolding spaced
  spaced_more g e = λ i. cond (g i && not (e i)) (pushed t 32) t

  pub spaced_first : gap ≡ true → eqb (length t) 0 ≡ true → spaced gap t ≡ t
  unfolding spaced
  spaced_first g e = λ i. cond (g i && not (e i)) (pushed t 32) t

  pub spaced_next : gap ≡ false → spaced gap t ≡ t
  unfolding spaced
  spaced_next g = ap (λ (u : Bool). cond (u && not (eqb (length t) 0)) (pushed t 32) t) g

pub text_begins : (l t : List ℕ) → t ≡ [] → text_of l ≡ text_from false t l
unfolding text_of
text_begins l t e = ap (λ (x : List ℕ). text_from false x l) (sym e)
