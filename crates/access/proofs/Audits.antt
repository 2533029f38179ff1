-- Laws of the audit: ones and trailing zeros of a masked pattern are `count_to` and `lowest_to`. Assumes nothing.
use Prim.Native.Nat.{ℕ, zero, suc, ◌+◌, ◌-◌, ◌*◌, ◌^◌, ◌/◌, ◌%◌, ◌≤◌, ◌<◌}
use native.Mathlib.Omega.{arith}
use native.Mathlib.Nat.{mod-lt, one-mul, zero-mul, add-zero, mod-one, pow-suc}
use native.Mathlib.Numerals.{one-add, add-one}
use mathlib.Core.Path.{◌≡◌, refl, sym, ap, ◌∙◌}
use mathlib.Core.Bool.{Bool, true, false, cond}
use lib.IntN.{ℤ, pos, negsuc, nat_abs}
use lib.Signed.{lt_z}
use lib.Dec.{eqb}
use lib.Pow.{pow_pos, mod-pow-add}
use lib.Bits.{bit_and, and_mask, block_half, block_odd, shifted_half, shifted_even}
use lib.Count.{ones, ones_cat, count_trailing_zeros, under}
use borrow.Author.Tests.{le-leb, lt-leb, ltb-true, eqb-true, eqb-false}
use Rattle.itron.specs.Limits.{max_domains}
use Rattle.access.specs.Audits.{count_to, lowest_to, admissions_of, no_admissions, report_of, refused_report, audit_of}
use Rattle.access.specs.declared.vector.Vector.{Vector}
use Rattle.access.specs.declared.audit.Admissions.{Admissions}
use Rattle.access.proofs.Ordinals.{not_below}
use Rattle.access.proofs.Patterns.{one_bit, admitted_bit}

-- by whether a number is 0
by_zero : {X : Type 0} (n : ℕ) → (n ≡ 0 → X) → ((n ≡ 0 → ⊥) → X) → X
by_zero {X} n f g = go (eqb n 0) refl
  where
    go : (b : Bool) → eqb n 0 ≡ b → X
    go true e = f (eqb-true n 0 e)
    go false e = g (eqb-false n 0 e)

-- the mask that the code makes
pub mask : (p n : ℕ) → n ≤ max_domains → bit_and p (1 * 2 ^ n % 2 ^ 64 - 1) ≡ p % 2 ^ n
mask p n h = rw (one_bit n 64 (omega arith)) (and_mask p n)

-- a pattern masked to one domain more has that domain's bit above the rest
bit_lt : (p n : ℕ) → p / 2 ^ n % 2 < 2
bit_lt p n = mod-lt (p / 2 ^ n) (omega arith)

step : (p n : ℕ) → p % 2 ^ suc n ≡ (p / 2 ^ n % 2) * 2 ^ n + p % 2 ^ n
step p n = rw (← one-add n) (mod-pow-add p 1 n)

ones_bit : (b : ℕ) → b < 2 → ones b ≡ cond (eqb b 1) 1 0
unfolding ones
ones_bit zero h = refl
ones_bit (suc zero) h = refl
ones_bit (suc (suc b)) h = absurd (omega arith)

-- the ones of a masked pattern are the user domains that it admits
pub count_mask : (p n : ℕ) → n ≤ max_domains → ones (p % 2 ^ n) ≡ count_to p n
unfolding count_to
count_mask p zero h = ap ones (mod-one p) ∙ ones_bit 0 (omega arith)
count_mask p (suc n) h =
    rw (admitted_bit p n (omega arith), step p n, ones_cat n (p / 2 ^ n % 2) (p % 2 ^ n) (mod-lt p (pow_pos n)), ones_bit (p / 2 ^ n % 2) (bit_lt p n), count_mask p n (omega arith)) (omega arith)

-- digits above a set one do not count
tz_low : (d a k r : ℕ) → r < 2 ^ k → (r ≡ 0 → ⊥) → count_trailing_zeros d (a * 2 ^ k + r) ≡ count_trailing_zeros d r
unfolding count_trailing_zeros
tz_low zero a k r h z = refl
tz_low (suc d) a zero r h z = absurd (z (omega arith))
tz_low (suc d) a (suc k) r h z = rw (block_odd a k r, block_half a k r) (go (r % 2) refl (tz_low d a k (r / 2) (omega (arith, pow-suc 2 k))))
  where
    go : (b : ℕ) → r % 2 ≡ b → ((r / 2 ≡ 0 → ⊥) → count_trailing_zeros d (a * 2 ^ k + r / 2) ≡ count_trailing_zeros d (r / 2))
        → under b (count_trailing_zeros d (a * 2 ^ k + r / 2)) ≡ under b (count_trailing_zeros d (r / 2))
    go zero e ih = ap suc (ih (λ y. z (omega arith)))
    go (suc b) e ih = refl

tz_top : (d i : ℕ) → i < d → count_trailing_zeros d (1 * 2 ^ i) ≡ i
unfolding count_trailing_zeros
tz_top zero i h = absurd (omega arith)
tz_top (suc d) zero h = refl
tz_top (suc d) (suc i) h = rw (shifted_even 1 i, shifted_half 1 i) (ap suc (tz_top d i (omega arith)))

by_bit : {X : Type 0} (b : ℕ) → b < 2 → (b ≡ 0 → X) → (b ≡ 1 → X) → X
by_bit zero h f g = f refl
by_bit (suc zero) h f g = g refl
by_bit (suc (suc b)) h f g = absurd (omega arith)

-- the parts of a masked pattern that is 0
rest_zero : (p n : ℕ) → p % 2 ^ suc n ≡ 0 → (p / 2 ^ n % 2 ≡ 0) × (p % 2 ^ n ≡ 0)
rest_zero p n h =
    let e : (p / 2 ^ n % 2) * 2 ^ n + p % 2 ^ n ≡ 0 = sym (step p n) ∙ h in
    (by_bit (p / 2 ^ n % 2) (bit_lt p n) (λ b. b) (λ b. absurd (let f = rw (b, one-mul) at e in omega (arith, pow_pos n))), omega arith)

-- the trailing zeros of a masked pattern are below the lowest user domain that it admits
pub lowest_none : (p n : ℕ) → n ≤ max_domains → p % 2 ^ n ≡ 0 → 0 ≡ lowest_to p n
unfolding lowest_to
lowest_none p zero l h = refl
lowest_none p (suc n) l h = let r = rest_zero p n h in rw (← lowest_none p n (omega arith) r.1, admitted_bit p n (omega arith), r.0)

pub lowest_some : (p n : ℕ) → n ≤ max_domains → (p % 2 ^ n ≡ 0 → ⊥) → count_trailing_zeros max_domains (p % 2 ^ n) + 1 ≡ lowest_to p n
unfolding lowest_to
lowest_some p zero h z = absurd (z (mod-one p))
lowest_some p (suc n) h z =
    by_zero (p % 2 ^ n)
    (λ m. by_bit (p / 2 ^ n % 2) (bit_lt p n)
    (λ b. absurd (z (step p n ∙ rw (b, m, zero-mul))))
    (λ b. rw (admitted_bit p n (omega arith), step p n, b, m, ← lowest_none p n (omega arith) m, add-zero, tz_top max_domains n (omega arith)) (add-one n)))
    (λ m.
    rw (← lowest_some p n (omega arith) m, step p n, tz_low max_domains (p / 2 ^ n % 2) n (p % 2 ^ n) (mod-lt p (pow_pos n)) m, add-one))

-- the report of a pattern, by its masked bits
pub report_none : (p n : ℕ) → n ≤ max_domains → p % 2 ^ n ≡ 0 → no_admissions ≡ admissions_of p n
report_none p n l h =
    let a : count_to p n ≡ 0 = sym (count_mask p n l) ∙ ap ones h ∙ ones_bit 0 (omega arith) in
    rw (a, ← lowest_none p n l h)

pub report_some : (p n m : ℕ) → n ≤ max_domains → m ≡ p % 2 ^ n → (m ≡ 0 → ⊥) → ◌≡◌ {A = Admissions} (record { count = ones m; lowest = count_trailing_zeros max_domains m + 1 }) (admissions_of p n)
report_some p n m h e z = rw (e, count_mask p n h, lowest_some p n h (λ y. z (e ∙ y)))

-- n below 0, above 32, and from 0 to 32
pub refused_below : (v : Vector) (z : ℤ) → lt_z z (pos 0) ≡ true → refused_report ≡ audit_of v z
unfolding audit_of
refused_below v (negsuc k) h = refl
refused_below v (pos k) h = absurd (omega (arith, ltb-true k 0 h))

pub audit_over : (v : Vector) (z : ℤ) → lt_z z (pos 0) ≡ false → max_domains < nat_abs z → refused_report ≡ audit_of v z
unfolding audit_of
audit_over v z h l = rw ((not_below z 0 h).0, lt-leb (nat_abs z) max_domains l)

pub audit_within : (v : Vector) (z : ℤ) → lt_z z (pos 0) ≡ false → nat_abs z ≤ max_domains → report_of v (nat_abs z) ≡ audit_of v z
unfolding audit_of
audit_within v z h l = rw ((not_below z 0 h).0, le-leb (nat_abs z) max_domains l)
