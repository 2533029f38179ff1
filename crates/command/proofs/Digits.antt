-- One step of reading digits, and that a value once too large stays so. Assumes nothing.
use Rattle.std.proofs.Common.{ℕ, zero, suc, ◌+◌, ◌-◌, ◌*◌, ◌≤◌, ◌<◌, ◌≡◌, refl, ap, sym, ◌∙◌, Bool, true, false, List, [], ◌∷◌, Option, Some, None, Result, Ok, Err, length, take, drop, get_or, to_z, of_z}
use Rattle.std.specs.Prelude.{cond, ◌&&◌, ℤ, pos, negsuc, eqb, ltb}
use Rattle.std.specs.Char.{digit_value}
use Rattle.std.specs.Int.{FitsUnsignedBits}
use Rattle.std.specs.Cmp.Lexicographic.{pointwise}
use Rattle.std.specs.Result.{OkIff, result_or}
use lib.IntN.{nat_abs, ◌-ℤ◌}
use Rattle.std.specs.Option.{SomeIff, IfSome, ok_or}
use Rattle.std.proofs.lemmas.Int.{to_z-of_z}
use Rattle.command.specs.declared.number.Number.{Number}
use native.Mathlib.Nat.{mul-le-mul_left, mul-one, le_trans}
use native.Mathlib.Omega.{arith}
use mir.Syntax.{w32, w64}
use mir.Val.{SFits}
use lib.ListN.{drop_of_length-le}
use borrow.Author.Tests.{lt-ltb, le-ltb, ltb-true, ltb-false}
use Rattle.command.specs.Numbers.{digit_of, value_from, fitted, more, are_digits, too_large, magnitude_of, plain_end, negated, signed_end, signed_from, unsigned_from, number_of, plain_of, minus_of}
use Rattle.command.specs.declared.number.NumberError.{NumberError}
use Rattle.command.specs.declared.number.NumberError.TheVariants.{NoNumber, OutOfRange}
use Rattle.command.proofs.Walks.{next, and_true}

-- v and one digit more are no less than v
grows : (v base d : ℕ) → d < base → v ≤ v * base + d
grows v base d h =
    let one : 1 ≤ base = omega arith in
    let m : v * 1 ≤ v * base = mul-le-mul_left v one in
    let e : v * 1 ≡ v = mul-one v in
    omega arith

-- a value that is too large stays so, whatever digits follow
pub too_large_lem : (base v : ℕ) (l : List ℕ) → plain_end ≤ v → fitted (value_from base v l) ≡ too_large base l
unfolding value_from fitted too_large are_digits
too_large_lem base v [] h = ap (λ (t : Bool). cond t (Ok v) (Err OutOfRange)) (le-ltb v plain_end h)
too_large_lem base v (b ∷ bs) h = go (ltb (digit_of b) base) refl (λ (w : ℕ) (k : plain_end ≤ w). too_large_lem base w bs k)
  where
    go : (t : Bool) → ltb (digit_of b) base ≡ t → ((w : ℕ) → plain_end ≤ w → fitted (value_from base w bs) ≡ too_large base bs) →
        fitted (cond t (value_from base (v * base + digit_of b) bs) None) ≡ cond (t && are_digits base bs) (Err OutOfRange) (Err NoNumber)
    go true e f = f (v * base + digit_of b) (le_trans h (grows v base (digit_of b) (ltb-true _ _ e)))
    go false e f = refl

-- what a row is whose digits so far have this value, or are too large
unfoldable pub reading : ℕ → Option ℕ → List ℕ → Result ℕ NumberError
reading base None l = too_large base l
reading base (Some v) l = fitted (value_from base v l)

-- one byte of the row
pub reading_goes : (l : List ℕ) (base : ℕ) (value : Option ℕ) (i : ℕ) → i < length l → digit_of (get_or l i 0) < base →
    reading base value (drop i l) ≡ reading base (more base value (digit_of (get_or l i 0))) (drop (i + 1) l)
unfolding reading value_from too_large are_digits
reading_goes l base None i h d =
    ap (too_large base) (next l i h) ∙ ap (λ (t : Bool). cond (t && are_digits base (drop (i + 1) l)) (Err OutOfRange) (Err NoNumber)) (lt-ltb _ _ d)
reading_goes l base (Some v) i h d =
    ap (λ (x : List ℕ). fitted (value_from base v x)) (next l i h)
    ∙ ap (λ (t : Bool). fitted (cond t (value_from base (v * base + digit_of (get_or l i 0)) (drop (i + 1) l)) None)) (lt-ltb _ _ d)
    ∙ go (ltb (v * base + digit_of (get_or l i 0)) plain_end) refl
  where
    w : ℕ
    w = v * base + digit_of (get_or l i 0)

    go : (t : Bool) → ltb w plain_end ≡ t → fitted (value_from base w (drop (i + 1) l)) ≡ reading base (cond t (Some w) None) (drop (i + 1) l)
    go true e = refl
    go false e = too_large_lem base w (drop (i + 1) l) (ltb-false _ _ e)

pub reading_stops : (l : List ℕ) (base : ℕ) (value : Option ℕ) (i : ℕ) → i < length l → base ≤ digit_of (get_or l i 0) →
    reading base value (drop i l) ≡ Err NoNumber
unfolding reading value_from fitted too_large are_digits
reading_stops l base None i h d =
    ap (too_large base) (next l i h) ∙ ap (λ (t : Bool). cond (t && are_digits base (drop (i + 1) l)) (Err OutOfRange) (Err NoNumber)) (le-ltb _ _ d)
reading_stops l base (Some v) i h d =
    ap (λ (x : List ℕ). fitted (value_from base v x)) (next l i h)
    ∙ ap (λ (t : Bool). fitted (cond t (value_from base (v * base + digit_of (get_or l i 0)) (drop (i + 1) l)) None)) (le-ltb _ _ d)

pub magnitude_some : (base : ℕ) (l : List ℕ) → (length l ≡ 0 → ⊥) → magnitude_of base l ≡ fitted (value_from base 0 l)
unfolding magnitude_of
magnitude_some base [] h = absurd (h refl)
magnitude_some base (b ∷ bs) h = refl

pub magnitude_empty : (base : ℕ) (l : List ℕ) → length l ≡ 0 → magnitude_of base l ≡ Err NoNumber
unfolding magnitude_of
magnitude_empty base [] h = refl
magnitude_empty base (b ∷ bs) h = let z : ⊥ = omega arith in absurd z

-- at the end of the row
pub reading_ends : (l : List ℕ) (base : ℕ) (value : Option ℕ) (i : ℕ) → length l ≤ i → reading base value (drop i l) ≡ reading base value []
reading_ends l base value i h = ap (reading base value) (drop_of_length-le l h)

pub reading_large : (base : ℕ) → reading base None [] ≡ Err OutOfRange
unfolding reading too_large are_digits
reading_large base = refl

pub reading_value : (base v : ℕ) → v < plain_end → reading base (Some v) [] ≡ Ok v
unfolding reading value_from fitted
reading_value base v h = ap (λ (t : Bool). cond t (Ok v) (Err OutOfRange)) (lt-ltb v plain_end h)

pub reading_is : (base : ℕ) (value : Option ℕ) → IfSome value (λ v. v < plain_end) → ok_or value OutOfRange ≡ reading base value []
reading_is base None h = sym (reading_large base)
reading_is base (Some v) h = sym (reading_value base v h)

-- the library's digit is ours
pub digit_same : (b base : ℕ) → base ≤ 16 → digit_value b < base → digit_of b ≡ digit_value b
unfolding digit_of
digit_same b base h k = grind arith

pub digit_none : (b base : ℕ) → base ≤ 16 → base ≤ digit_value b → base ≤ digit_of b
unfolding digit_of
digit_none b base h k = grind arith

pub digit_read : (o : Option ℕ) (n b base d : ℕ) → n ≡ b → base ≤ 16 → SomeIff o (digit_value n < base) (digit_value n) → Ok d ≡ ok_or o NoNumber →
    (digit_of b < base) × (digit_of b ≡ d)
digit_read (Some x) n b base d e h s k =
    let q : d ≡ x = cc in
    let p : digit_of n ≡ digit_value n = digit_same n base h s.0 in
    let r : digit_of b ≡ digit_of n = ap digit_of (sym e) in
    (omega (arith, s.0, p, r), omega (arith, s.1, p, q, r))
digit_read None n b base d e h s k = absurd cc

pub digit_refused : (o : Option ℕ) (n b base : ℕ) (f : NumberError) → n ≡ b → base ≤ 16 → SomeIff o (digit_value n < base) (digit_value n) → Err f ≡ ok_or o NoNumber →
    (base ≤ digit_of b) × (f ≡ NoNumber)
digit_refused (Some x) n b base f e h s k = absurd cc
digit_refused None n b base f e h s k =
    let l : base ≤ digit_value n = omega (arith, s) in
    let p : base ≤ digit_of n = digit_none n base h l in
    let r : digit_of b ≡ digit_of n = ap digit_of (sym e) in
    (omega (arith, p, r), cc)

-- one digit more
pub more_fits : (base d : ℕ) (value : Option ℕ) → IfSome (more base value d) (λ v. v < plain_end)
more_fits base d None = tt
more_fits base d (Some v) = go (ltb (v * base + d) plain_end) refl
  where
    go : (t : Bool) → ltb (v * base + d) plain_end ≡ t → IfSome (cond t (Some (v * base + d)) None) (λ w. w < plain_end)
    go true e = ltb-true _ _ e
    go false e = tt

pub more_none : (base v d : ℕ) → (v * base < plain_end → ⊥) → None ≡ more base (Some v) d
more_none base v d h =
    let k : plain_end ≤ v * base + d = omega arith in
    sym (ap (λ (t : Bool). cond t (Some (v * base + d)) None) (le-ltb (v * base + d) plain_end k))

pub more_is : (base v d p : ℕ) (r : Option ℕ) → p ≡ v * base → SomeIff r (p + d < plain_end) (p + d) → r ≡ more base (Some v) d
more_is base v d p (Some x) e h =
    let k : v * base + d < plain_end = omega (arith, h.0) in
    let q : x ≡ v * base + d = omega (arith, h.1) in
    ap Some q ∙ sym (ap (λ (t : Bool). cond t (Some (v * base + d)) None) (lt-ltb (v * base + d) plain_end k))
more_is base v d p None e h =
    let k : plain_end ≤ v * base + d = omega (arith, h) in
    sym (ap (λ (t : Bool). cond t (Some (v * base + d)) None) (le-ltb (v * base + d) plain_end k))

-- a number as a narrower type
signed_fits : (z : ℤ) → SFits w32 z → Ok z ≡ signed_from z
signed_fits (pos v) h = sym (ap (λ (t : Bool). cond t (Ok (pos v)) (Err OutOfRange)) (lt-ltb v signed_end (omega (arith, h.sfits))))
signed_fits (negsuc k) h = sym (ap (λ (t : Bool). cond t (Ok (negsuc k)) (Err OutOfRange)) (lt-ltb k signed_end (omega (arith, h.sfits))))

signed_large : (z : ℤ) → (SFits w32 z → ⊥) → Err OutOfRange ≡ signed_from z
signed_large (pos v) h = go (ltb v signed_end) refl
  where
    go : (t : Bool) → ltb v signed_end ≡ t → Err OutOfRange ≡ cond t (Ok (pos v)) (Err OutOfRange)
    go true e = let k = ltb-true _ _ e in absurd (h (record { sfits = omega arith }))
    go false e = refl
signed_large (negsuc k) h = go (ltb k signed_end) refl
  where
    go : (t : Bool) → ltb k signed_end ≡ t → Err OutOfRange ≡ cond t (Ok (negsuc k)) (Err OutOfRange)
    go true e = let j = ltb-true _ _ e in absurd (h (record { sfits = omega arith }))
    go false e = refl

pub signed_is : {D : Type 0} (z y : ℤ) → y ≡ z → (r : Result ℤ D) → OkIff r (SFits w32 y) y → result_or r (Err OutOfRange) ≡ signed_from z
signed_is z y e (Ok x) h =
    let f : SFits w32 z = rw (← e) h.0 in
    ap Ok (h.1 ∙ e) ∙ signed_fits z f
signed_is z y e (Err d) h = signed_large z (λ (f : SFits w32 z). h (rw e f))

unsigned_large : (z : ℤ) → (FitsUnsignedBits 32 z → ⊥) → Err OutOfRange ≡ unsigned_from z
unsigned_large (pos v) h = go (ltb v plain_end) refl
  where
    go : (t : Bool) → ltb v plain_end ≡ t → Err OutOfRange ≡ cond t (Ok v) (Err OutOfRange)
    go true e = absurd (h (ltb-true _ _ e))
    go false e = refl
unsigned_large (negsuc k) h = refl

unsigned_fits : (z : ℤ) → FitsUnsignedBits 32 z → Ok (nat_abs z) ≡ unsigned_from z
unsigned_fits (pos v) h = sym (ap (λ (t : Bool). cond t (Ok v) (Err OutOfRange)) (lt-ltb v plain_end h))
unsigned_fits (negsuc k) h = absurd h

pub unsigned_is : {D : Type 0} (z y : ℤ) → y ≡ z → (r : Result ℕ D) → OkIff r (FitsUnsignedBits 32 y) (nat_abs y) → result_or r (Err OutOfRange) ≡ unsigned_from z
unsigned_is z y e (Ok x) h =
    let f : FitsUnsignedBits 32 z = rw (← e) h.0 in
    ap Ok (h.1 ∙ ap nat_abs e) ∙ unsigned_fits z f
unsigned_is z y e (Err d) h = unsigned_large z (λ (f : FitsUnsignedBits 32 z). h (rw e f))

-- a number by how it begins
minus_test : (s : List ℕ) → eqb (get_or s 0 0) 45 ≡ pointwise eqb (take 1 s) (45 ∷ [])
minus_test [] = refl
minus_test (a ∷ l) = sym (and_true (eqb a 45))

hex_test : (s : List ℕ) → (eqb (get_or s 0 0) 48 && eqb (get_or s 1 0) 120) ≡ pointwise eqb (take 2 s) (48 ∷ 120 ∷ [])
hex_test [] = refl
hex_test (a ∷ []) = refl
hex_test (a ∷ b ∷ l) = ap (λ (t : Bool). eqb a 48 && t) (sym (and_true (eqb b 120)))

module _ (s : List ℕ) where
  number_by : (a b : Bool) → pointwise eqb (take 1 s) (45 ∷ []) ≡ a → pointwise eqb (take 2 s) (48 ∷ 120 ∷ []) ≡ b →
      number_of s ≡ cond a (minus_of (magnitude_of 10 (drop 1 s))) (cond b (plain_of (magnitude_of 16 (drop 2 s))) (plain_of (magnitude_of 10 s)))
  unfolding number_of
  number_by a b p q =
      let e = minus_test s ∙ p in
      let f = hex_test s ∙ q in
      λ i. cond (e i) (minus_of (magnitude_of 10 (drop 1 s))) (cond (f i) (plain_of (magnitude_of 16 (drop 2 s))) (plain_of (magnitude_of 10 s)))

  pub number_minus : (d : List ℕ) → pointwise eqb (take 1 s) (45 ∷ []) ≡ true → d ≡ drop 1 s → number_of s ≡ minus_of (magnitude_of 10 d)
  number_minus d p e = number_by true (pointwise eqb (take 2 s) (48 ∷ 120 ∷ [])) p refl ∙ ap (λ (x : List ℕ). minus_of (magnitude_of 10 x)) (sym e)

  pub number_hex : (d : List ℕ) → pointwise eqb (take 1 s) (45 ∷ []) ≡ false → pointwise eqb (take 2 s) (48 ∷ 120 ∷ []) ≡ true → d ≡ drop 2 s →
      number_of s ≡ plain_of (magnitude_of 16 d)
  number_hex d p q e = number_by false true p q ∙ ap (λ (x : List ℕ). plain_of (magnitude_of 16 x)) (sym e)

  pub number_plain : pointwise eqb (take 1 s) (45 ∷ []) ≡ false → pointwise eqb (take 2 s) (48 ∷ 120 ∷ []) ≡ false → number_of s ≡ plain_of (magnitude_of 10 s)
  number_plain p q = number_by false false p q

-- the value of a row of digits in 64 bits, and minus that
small_fits : (v : ℕ) → v < plain_end → SFits w64 (pos v)
small_fits v h = record { sfits = omega arith }

negated_fits : (v : ℕ) → v < plain_end → SFits w64 (negated v)
negated_fits zero h = record { sfits = omega arith }
negated_fits (suc k) h = record { sfits = omega arith }

minus_is : (v : ℕ) → pos 0 -ℤ pos v ≡ negated v
minus_is zero = refl
minus_is (suc k) =
    let e : suc k - 1 ≡ k = omega arith in
    ap (λ (t : Bool). cond t (negsuc (suc k - 1)) (pos (0 - suc k))) (lt-ltb 0 (suc k) (omega arith)) ∙ ap negsuc e

pub plain_value : (v : ℕ) (z : ℤ) → z ≡ pos v → v < plain_end → to_z w64 (of_z w64 z) ≡ pos v
plain_value v z e h = rw e (to_z-of_z w64 (pos v) (small_fits v h))

pub minus_value : (v : ℕ) (z : ℤ) → z ≡ pos v → v < plain_end → to_z w64 (of_z w64 (pos 0 -ℤ to_z w64 (of_z w64 z))) ≡ negated v
minus_value v z e h =
    ap (λ (y : ℤ). to_z w64 (of_z w64 (pos 0 -ℤ y))) (plain_value v z e h)
    ∙ ap (λ (y : ℤ). to_z w64 (of_z w64 y)) (minus_is v)
    ∙ to_z-of_z w64 (negated v) (negated_fits v h)

abbrev pub numbered : ℤ → Result Number NumberError
numbered z = Ok (record { value = z })
