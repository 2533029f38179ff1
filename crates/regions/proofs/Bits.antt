-- The tests of bits as the code makes them. Assumes nothing.
use Prim.Native.Nat.{ℕ, zero, suc, ◌*◌, ◌/◌, ◌%◌, ◌^◌, ◌<◌}
use native.Mathlib.Omega.{arith}
use mathlib.Core.Path.{◌≡◌, refl, sym, ap, ◌∙◌, subst}
use mathlib.Core.Bool.{false, not, ◌||◌}
use lib.Bits.{bit_and}
use lib.Dec.{eqb}
use lib.Pow.{pow_pos}
use borrow.Author.Tests.{eq-eqb, ne_eqb}
use Rattle.std.proofs.lemmas.Nat.Bits.{and_pow}
use Rattle.std.proofs.lemmas.Nat.{and_le_r}
use Rattle.model.specs.Regions.{attribute_ok}
use Rattle.regions.specs.Flags.{IsBit, has_value}

-- ---- a bit is set where it is left of the flags
pub bit_left : (flags value : ℕ) → IsBit value → not (eqb (bit_and flags value) 0) ≡ has_value flags value
bit_left flags value b = subst (λ (v : ℕ). not (eqb (bit_and flags v) 0) ≡ has_value flags v) (sym b.1) (at b.0)
  where
    go : (k r : ℕ) → r < 2 → not (eqb (r * 2 ^ k) 0) ≡ eqb r 1
    go k zero l = ap not (eq-eqb (0 * 2 ^ k) 0 (omega arith))
    go k (suc zero) l = ap not (ne_eqb (1 * 2 ^ k) 0 (omega (arith, pow_pos k)))
    go k (suc (suc r)) l = absurd (omega arith)

    at : (k : ℕ) → not (eqb (bit_and flags (2 ^ k)) 0) ≡ has_value flags (2 ^ k)
    at k = ap (λ (n : ℕ). not (eqb n 0)) (and_pow flags k) ∙ go k (flags / 2 ^ k % 2) (omega arith)

-- ---- an attribute has no bits but no-write and execute
pub no_others : (a : ℕ) → eqb (bit_and a 5) a ≡ attribute_ok a
no_others zero = refl
no_others (suc zero) = refl
no_others (suc (suc zero)) = refl
no_others (suc (suc (suc zero))) = refl
no_others (suc (suc (suc (suc zero)))) = refl
no_others (suc (suc (suc (suc (suc zero))))) = refl
no_others (suc (suc (suc (suc (suc (suc a)))))) =
    let w = suc (suc (suc (suc (suc (suc a))))) in
    let past : (n : ℕ) → n < 6 → false ≡ eqb w n = λ n l. sym (ne_eqb w n (omega arith)) in
    ne_eqb (bit_and w 5) w (omega (arith, and_le_r w 5)) ∙ (λ i. past 0 (omega arith) i || past 1 (omega arith) i || past 4 (omega arith) i || past 5 (omega arith) i)
