-- A power of two is a number with one bit. Assumes nothing.
use Prim.Native.Nat.{ℕ, zero, suc, ◌+◌, ◌-◌, ◌*◌, ◌^◌, ◌/◌, ◌≤◌, ◌<◌}
use native.Mathlib.Omega.{arith}
use native.Mathlib.Nat.{pow-suc}
use mathlib.Core.Path.{◌≡◌, refl, sym, ap, ◌∙◌}
use mathlib.Core.Bool.{Bool, true, false, ◌&&◌, ◌||◌, and-true, and-false, or-false}
use lib.Count.{ones, ones_step, ones_cat}
use lib.Dec.{eqb, leb}
use lib.Pow.{pow_pos}
use borrow.Author.Tests.{leb-true, leb-false, eq-eqb, ne_eqb, eqb-true, eqb-false}
use Rattle.itron.specs.Limits.{max_unit_power}
use Rattle.model.specs.Units.{is_power_to, unit_ok}

-- a number without bits is 0
no_ones : (k r : ℕ) → r < 2 ^ k → ones r ≡ 0 → r ≡ 0
no_ones zero r h e = omega arith
no_ones (suc k) r h e =
    let s = ones_step r in
    let q = no_ones k (r / 2) (omega (arith, pow-suc 2 k)) (omega arith) in
    omega arith

-- what is above 2^e is none of 2^0 to 2^e
above_powers : (e u : ℕ) → 2 ^ e < u → is_power_to e u ≡ false
above_powers zero u h = ne_eqb u (2 ^ zero) (omega arith)
above_powers (suc e) u h = rw (above_powers e u (omega (arith, pow-suc 2 e, pow_pos e)), ne_eqb u (2 ^ suc e) (omega arith)) refl

-- one power more: the highest bit and the rest
module _ (e u : ℕ) (h : u < 2 ^ suc (suc e)) where
  abbrev rest : ℕ
  rest = u - 2 ^ suc e

  parts : 2 ^ suc e ≤ u → ones u ≡ 1 + ones rest
  unfolding ones
  parts l = let q : u ≡ 1 * 2 ^ suc e + rest = omega arith in ap ones q ∙ ones_cat (suc e) 1 rest (omega (arith, pow-suc 2 (suc e)))

  top : (b : Bool) → eqb u (2 ^ suc e) ≡ b → 2 ^ suc e ≤ u → eqb (ones u) 1 ≡ b
  unfolding ones
  top true q l = let z : rest ≡ 0 = omega (arith, eqb-true u (2 ^ suc e) q) in eq-eqb (ones u) 1 (parts l ∙ ap (λ (x : ℕ). 1 + ones x) z)
  top false q l = ne_eqb (ones u) 1 (λ o. eqb-false u (2 ^ suc e) q (omega (arith, l, no_ones (suc e) rest (omega (arith, pow-suc 2 (suc e))) (omega (arith, o, parts l)))))

  next : (u < 2 ^ suc e → eqb (ones u) 1 ≡ is_power_to e u) → (b : Bool) → leb (2 ^ suc e) u ≡ b → eqb (ones u) 1 ≡ is_power_to e u || eqb u (2 ^ suc e)
  next f true q =
      let l = leb-true (2 ^ suc e) u q in
      top (eqb u (2 ^ suc e)) refl l ∙ ap (λ (b : Bool). b || eqb u (2 ^ suc e)) (sym (above_powers e u (omega (arith, pow-suc 2 e, pow_pos e))))
  next f false q =
      let l = leb-false (2 ^ suc e) u q in
      f l ∙ sym (or-false (is_power_to e u)) ∙ ap (λ (b : Bool). is_power_to e u || b) (sym (ne_eqb u (2 ^ suc e) (omega arith)))

-- below 2^(e+1), a number with one bit is one of 2^0 to 2^e
one_bit : (e u : ℕ) → u < 2 ^ suc e → eqb (ones u) 1 ≡ is_power_to e u
unfolding ones
one_bit zero zero h = refl
one_bit zero (suc zero) h = refl
one_bit zero (suc (suc u)) h = absurd (omega arith)
one_bit (suc e) u h = next e u h (one_bit e u) (leb (2 ^ suc e) u) refl

-- the test of the code
pub unit_bit : (u : ℕ) → eqb (ones u) 1 && leb u (2 ^ max_unit_power) ≡ unit_ok u
unfolding unit_ok
unit_bit u = go (leb u (2 ^ max_unit_power)) refl
  where
    go : (b : Bool) → leb u (2 ^ max_unit_power) ≡ b → eqb (ones u) 1 && b ≡ is_power_to max_unit_power u
    go true q = and-true (eqb (ones u) 1) ∙ one_bit max_unit_power u (omega (arith, leb-true u (2 ^ max_unit_power) q))
    go false q = and-false (eqb (ones u) 1) ∙ sym (above_powers max_unit_power u (leb-false u (2 ^ max_unit_power) q))
