-- Document 01's sentences as laws of the definitions: each shuts wrong definitions out. Assumes nothing.
use Prim.Native.Nat.{ℕ, zero, suc, ◌+◌, ◌-◌, ◌^◌, ◌/◌, ◌%◌, ◌≤◌, ◌<◌}
use native.Mathlib.Omega.{arith}
use native.Mathlib.Nat.{add-zero, zero-div, div-one, div_self, mod-lt, eq-or-lt_of_le, pow-suc}
use native.Mathlib.Numerals.{one-add, add-one}
use mathlib.Core.Path.{◌≡◌, refl, sym, ap, ◌∙◌}
use mathlib.Core.Bool.{Bool, true, false, cond, ◌&&◌}
use mathlib.Core.Logic.{◌⊎◌, inl, inr, ⊎_elim}
use lib.IntN.{ℤ, pos, negsuc, neg_ℤ}
use lib.Dec.{eqb, ltb}
use lib.Pow.{pow_pos, shr-shr, field, mod-mod-pow}
use lib.Count.{ones}
use borrow.Author.Tests.{lt-ltb, le-leb, lt-leb, eq-eqb, ne_eqb, ltb-true, ltb-false, eqb-true}
use Rattle.itron.specs.Limits.{max_domains}
use Rattle.access.specs.declared.vector.Vector.{Vector}
use Rattle.std.specs.Prelude.{Some as Given, None as Default}
use Rattle.access.specs.declared.vector.Operation.{Operation}
use Rattle.access.specs.declared.vector.Operation.TheVariants.{Normal1, Normal2, Management, Reference}
use Rattle.access.specs.declared.audit.Admissions.{Admissions}
use Rattle.access.specs.declared.audit.AuditReport.{AuditReport}
use Rattle.access.specs.Domains.{ordinal_of, running_of}
use Rattle.access.specs.Patterns.{all_zeros, all_ones, admitted}
use Rattle.access.specs.Vectors.{pattern_of, uniform, private_of, default_of, resolved}
use Rattle.access.specs.Audits.{count_to, or_else, lowest_to, admissions_of, no_admissions, audit_of}
use Rattle.access.proofs.Patterns.{admitted_bit}
use Rattle.access.proofs.Audits.{count_mask}

-- ---- bits
never : false ≡ true → ⊥
never h = let e : ◌≡◌ {A = ℕ} 0 1 = cc in omega arith

first : (a b : Bool) → a && b ≡ true → a ≡ true
first true b h = refl
first false b h = h

half : (p k : ℕ) → p / 2 ^ suc k ≡ p / 2 / 2 ^ k
half p k = rw (← one-add k) (sym (shr-shr p 1 k))

-- every bit below w of w ones is set
ones_bit : (k w : ℕ) → k < w → (2 ^ w - 1) / 2 ^ k % 2 ≡ 1
ones_bit k zero h = absurd (omega arith)
ones_bit zero (suc w) h = omega (arith, pow-suc 2 w, pow_pos w)
ones_bit (suc k) (suc w) h =
    let e : (2 ^ suc w - 1) / 2 ≡ 2 ^ w - 1 = omega (arith, pow-suc 2 w, pow_pos w) in
    rw (half (2 ^ suc w - 1) k, e) (ones_bit k w (omega arith))

-- only bit k of 2 ^ k is set
power_bit : (j k : ℕ) → 2 ^ k / 2 ^ j % 2 ≡ 1 → j ≡ k
power_bit zero zero h = refl
power_bit zero (suc k) h = absurd (omega (arith, pow-suc 2 k))
power_bit (suc j) zero h = absurd (let e = rw (half 1 j, zero-div) at h in omega arith)
power_bit (suc j) (suc k) h =
    let e : 2 ^ suc k / 2 ≡ 2 ^ k = omega (arith, pow-suc 2 k) in
    ap suc (power_bit j k (rw (half (2 ^ suc k) j, e) at h))

-- a mask leaves the bits below it
low_bit : (p n k : ℕ) → k < n → p % 2 ^ n / 2 ^ k % 2 ≡ p / 2 ^ k % 2
low_bit p zero k h = absurd (omega arith)
low_bit p (suc n) zero h = rw (div-one, div-one, ← add-one n) (mod-mod-pow p n 1)
low_bit p (suc n) (suc k) h =
    let e : p % 2 ^ suc n / 2 ≡ p / 2 % 2 ^ n = rw (← add-one n) (field p n 1) in
    rw (half (p % 2 ^ suc n) k, half p k, e) (low_bit (p / 2) n k (omega arith))

-- every bit below n of a number that ends in n zeros is clear
zero_bit : (p n k : ℕ) → k < n → p % 2 ^ n ≡ 0 → p / 2 ^ k % 2 ≡ 0
zero_bit p n k h e = sym (low_bit p n k h) ∙ rw (e, zero-div)

-- ---- numbers

-- "numbered from 1": a number up to the limit is itself; 0, a number above the limit and one below zero are 0
pub ordinal_itself : (k n : ℕ) → k ≤ n → ordinal_of (pos k) n ≡ k
unfolding ordinal_of
ordinal_itself k n h = ap (λ (b : Bool). cond b k 0) (le-leb k n h)

pub ordinal_above : (k n : ℕ) → n < k → ordinal_of (pos k) n ≡ 0
unfolding ordinal_of
ordinal_above k n h = ap (λ (b : Bool). cond b k 0) (lt-leb k n h)

pub ordinal_below : (k n : ℕ) → ordinal_of (negsuc k) n ≡ 0
unfolding ordinal_of
ordinal_below k n = refl

-- ---- patterns

-- "The kernel domain is always admitted, whatever the pattern"
pub kernel_always : (p : ℕ) → admitted p (negsuc 0) ≡ true
unfolding admitted
kernel_always p = refl

-- "Bit d-1 admits domain d", in every pattern, whatever its other bits
pub bit_set_admits : (p k : ℕ) → k < max_domains → p / 2 ^ k % 2 ≡ 1 → admitted p (pos (suc k)) ≡ true
bit_set_admits p k h e = admitted_bit p k h ∙ eq-eqb (p / 2 ^ k % 2) 1 e

pub bit_clear_denies : (p k : ℕ) → k < max_domains → p / 2 ^ k % 2 ≡ 0 → admitted p (pos (suc k)) ≡ false
bit_clear_denies p k h e = admitted_bit p k h ∙ ne_eqb (p / 2 ^ k % 2) 1 (λ f. omega arith)

-- no pattern admits anybody but the kernel domain and the domains 1 to 32
pub only_domains : (p : ℕ) (z : ℤ) → admitted p z ≡ true → (z ≡ negsuc 0) ⊎ ((k : ℕ) × (z ≡ pos (suc k)) × (k < max_domains))
unfolding admitted
only_domains p (negsuc zero) h = inl refl
only_domains p (negsuc (suc k)) h = absurd (never h)
only_domains p (pos zero) h = absurd (never h)
only_domains p (pos (suc k)) h = inr (k, refl, ltb-true k max_domains (first (ltb k max_domains) _ h))

-- "All zeros is kernel only"
pub zeros_kernel_only : (z : ℤ) → admitted all_zeros z ≡ true → z ≡ negsuc 0
zeros_kernel_only z h = ⊎_elim (λ e. e) (λ (k, e, l). absurd (never (sym (bit_clear_denies all_zeros k l (rw zero-div)) ∙ rw e at h))) (only_domains all_zeros z h)

-- "all ones is shared"
pub ones_shared : (k : ℕ) → k < max_domains → admitted all_ones (pos (suc k)) ≡ true
ones_shared k h = bit_set_admits all_ones k h (ones_bit k max_domains h)

-- a pattern of one bit admits its domain, and nobody else but the kernel domain
pub bit_admits : (k : ℕ) → k < max_domains → admitted (2 ^ k) (pos (suc k)) ≡ true
bit_admits k h = bit_set_admits (2 ^ k) k h (rw (div_self (pow_pos k)))

pub bit_only : (k : ℕ) (z : ℤ) → admitted (2 ^ k) z ≡ true → (z ≡ negsuc 0) ⊎ (z ≡ pos (suc k))
bit_only k z h = ⊎_elim inl (λ (j, e, l). inr (e ∙ ap (λ (i : ℕ). pos (suc i)) (power_bit j k (eqb-true _ 1 (sym (admitted_bit (2 ^ k) j l) ∙ rw e at h))))) (only_domains (2 ^ k) z h)

-- "Bits for domains above n are accepted and admit nobody": no domain from 1 to n needs them, and there are no others
pub above_unused : (p n k : ℕ) → n ≤ max_domains → k < n → admitted (p % 2 ^ n) (pos (suc k)) ≡ admitted p (pos (suc k))
above_unused p n k h l = admitted_bit (p % 2 ^ n) k (omega arith) ∙ ap (λ (b : ℕ). eqb b 1) (low_bit p n k l) ∙ sym (admitted_bit p k (omega arith))

-- ---- the running domain (request T-03)

-- at level 0 a task runs as its own domain, above 0 as the kernel domain
pub running_outside : (z : ℤ) → running_of z 0 ≡ z
running_outside z = refl

pub running_inside : (z : ℤ) (k : ℕ) → 0 < k → running_of z k ≡ negsuc 0
running_inside z zero h = absurd (omega arith)
running_inside z (suc k) h = refl

-- a task of the kernel domain runs as that at every level
pub running_kernel : (k : ℕ) → running_of (negsuc 0) k ≡ negsuc 0
running_kernel zero = refl
running_kernel (suc k) = refl

-- so every pattern admits who is inside an extended service call
pub inside_admitted : (p : ℕ) (z : ℤ) (k : ℕ) → 0 < k → admitted p (running_of z k) ≡ true
inside_admitted p z k h = ap (admitted p) (running_inside z k h) ∙ kernel_always p

-- ---- vectors

-- "normal operation 1, normal operation 2, management, reference": each has a pattern of its own
pub own_pattern : (v : Vector) → (pattern_of v Normal1 ≡ v.normal1) × (pattern_of v Normal2 ≡ v.normal2) × (pattern_of v Management ≡ v.management) × (pattern_of v Reference ≡ v.reference)
own_pattern v = (refl, refl, refl, refl)

-- the same pattern four times judges every kind of operation alike
pub uniform_admits : (p : ℕ) (o : Operation) (z : ℤ) → admitted (pattern_of (uniform p) o) z ≡ admitted p z
uniform_admits p Normal1 z = refl
uniform_admits p Normal2 z = refl
uniform_admits p Management z = refl
uniform_admits p Reference z = refl

-- "private to a domain": the domain is admitted, and nobody else but the kernel domain
pub private_admits : (k : ℕ) (o : Operation) → k < max_domains → admitted (pattern_of (private_of (pos (suc k))) o) (pos (suc k)) ≡ true
unfolding private_of
private_admits k o h = rw (lt-ltb k max_domains h) (uniform_admits (2 ^ k) o (pos (suc k)) ∙ bit_admits k h)

pub private_only : (d z : ℤ) (o : Operation) → admitted (pattern_of (private_of d) o) z ≡ true → (z ≡ negsuc 0) ⊎ (z ≡ d)
unfolding private_of
private_only (negsuc k) z o h = inl (zeros_kernel_only z (sym (uniform_admits all_zeros o z) ∙ h))
private_only (pos zero) z o h = inl (zeros_kernel_only z (sym (uniform_admits all_zeros o z) ∙ h))
private_only (pos (suc k)) z o h = go (ltb k max_domains) (sym (uniform_admits (cond (ltb k max_domains) (2 ^ k) all_zeros) o z) ∙ h)
  where
    go : (b : Bool) → admitted (cond b (2 ^ k) all_zeros) z ≡ true → (z ≡ negsuc 0) ⊎ (z ≡ pos (suc k))
    go true e = bit_only k z e
    go false e = inl (zeros_kernel_only z e)

-- all four patterns of it have that domain's bit alone
pub private_bit : (k : ℕ) → k < max_domains → private_of (pos (suc k)) ≡ record { normal1 = 2 ^ k; normal2 = 2 ^ k; management = 2 ^ k; reference = 2 ^ k }
unfolding private_of
private_bit k h = rw (lt-ltb k max_domains h)

-- an entry with a vector keeps it "as given"; "An entry without a vector takes the default"
pub given_kept : (d : ℤ) (v : Vector) → resolved d (Given v) ≡ v
given_kept d v = refl

pub default_taken : (d : ℤ) → resolved d Default ≡ default_of d
default_taken d = refl

-- "kernel only for the kernel domain, private for a user domain, shared for -2"
pub default_kernel_only : (z : ℤ) (o : Operation) → admitted (pattern_of (default_of (negsuc 0)) o) z ≡ true → z ≡ negsuc 0
default_kernel_only z o h = zeros_kernel_only z (sym (uniform_admits all_zeros o z) ∙ h)

pub default_private : (k : ℕ) → default_of (pos (suc k)) ≡ private_of (pos (suc k))
default_private k = refl

pub default_everybody : (k : ℕ) (o : Operation) → k < max_domains → admitted (pattern_of (default_of (negsuc 1)) o) (pos (suc k)) ≡ true
default_everybody k o h = uniform_admits all_ones o (pos (suc k)) ∙ ones_shared k h

-- but for -2 the default admits nobody else than the kernel domain and the domain itself, so with a number that is no domain it is kernel only
pub default_only : (d z : ℤ) (o : Operation) → (d ≡ negsuc 1 → ⊥) → admitted (pattern_of (default_of d) o) z ≡ true → (z ≡ negsuc 0) ⊎ (z ≡ d)
default_only (pos k) z o n h = private_only (pos k) z o h
default_only (negsuc zero) z o n h = inl (default_kernel_only z o h)
default_only (negsuc (suc zero)) z o n h = absurd (n refl)
default_only (negsuc (suc (suc k))) z o n h = inl (zeros_kernel_only z (sym (uniform_admits all_zeros o z) ∙ h))

-- ---- audit

-- "how many user domains it admits": each admitted one counts, and no other
pub count_admitted : (p k : ℕ) → admitted p (pos (suc k)) ≡ true → count_to p (suc k) ≡ suc (count_to p k)
unfolding count_to
count_admitted p k h = rw h (add-one (count_to p k))

pub count_denied : (p k : ℕ) → admitted p (pos (suc k)) ≡ false → count_to p (suc k) ≡ count_to p k
unfolding count_to
count_denied p k h = rw h (add-zero (count_to p k))

-- "how many": the ones among the lowest n bits, in every pattern; bit by bit, each set one counts, and of no domain it is 0
pub audit_count : (p n : ℕ) → n ≤ max_domains → (admissions_of p n).count ≡ ones (p % 2 ^ n)
audit_count p n h = sym (count_mask p n h)

pub count_none : (p : ℕ) → count_to p 0 ≡ 0
unfolding count_to
count_none p = refl

pub count_bit : (p k : ℕ) → k < max_domains → count_to p (suc k) ≡ count_to p k + p / 2 ^ k % 2
count_bit p k h = go (p / 2 ^ k % 2) refl (mod-lt (p / 2 ^ k) (omega arith))
  where
    go : (b : ℕ) → p / 2 ^ k % 2 ≡ b → b < 2 → count_to p (suc k) ≡ count_to p k + b
    go zero e l = omega (arith, count_denied p k (bit_clear_denies p k h e))
    go (suc zero) e l = omega (arith, count_admitted p k (bit_set_admits p k h e))
    go (suc (suc b)) e l = absurd (omega arith)

-- "how many": of n, at most n; of a shared pattern all n, and the lowest is 1
one_most : (b : Bool) → cond b 1 0 ≤ 1
one_most true = omega arith
one_most false = omega arith

pub count_most : (p n : ℕ) → count_to p n ≤ n
unfolding count_to
count_most p zero = omega arith
count_most p (suc k) = omega (arith, count_most p k, one_most (admitted p (pos (suc k))))

shared_count : (n : ℕ) → n ≤ max_domains → count_to all_ones n ≡ n
unfolding count_to
shared_count zero h = refl
shared_count (suc k) h = rw (ones_shared k (omega arith), shared_count k (omega arith)) (add-one k)

shared_lowest : (n : ℕ) → n < max_domains → lowest_to all_ones (suc n) ≡ 1
unfolding lowest_to
shared_lowest zero h = rw (ones_shared 0 h)
shared_lowest (suc k) h = rw (shared_lowest k (omega arith))

pub audit_shared : (n : ℕ) → n < max_domains → admissions_of all_ones (suc n) ≡ record { count = suc n; lowest = 1 }
audit_shared n h = rw (shared_count (suc n) (omega arith), shared_lowest n h)

-- "the lowest admitted one": it is admitted, and none below it
pub lowest_admitted : (p n k : ℕ) → lowest_to p n ≡ suc k → (admitted p (pos (suc k)) ≡ true) × (k < n)
unfolding lowest_to
lowest_admitted p zero k h = absurd (omega arith)
lowest_admitted p (suc m) k h = go (lowest_to p m) (lowest_admitted p m k) h
  where
    last : (b : Bool) → admitted p (pos (suc m)) ≡ b → cond b (suc m) 0 ≡ suc k → (admitted p (pos (suc k)) ≡ true) × (k < suc m)
    last true e g = let q : m ≡ k = omega arith in (ap (λ (i : ℕ). admitted p (pos (suc i))) (sym q) ∙ e, omega arith)
    last false e g = absurd (omega arith)

    go : (l : ℕ) → (l ≡ suc k → (admitted p (pos (suc k)) ≡ true) × (k < m)) → or_else l (cond (admitted p (pos (suc m))) (suc m) 0) ≡ suc k
        → (admitted p (pos (suc k)) ≡ true) × (k < suc m)
    go zero ih g = last (admitted p (pos (suc m))) refl g
    go (suc i) ih g = let r = ih g in (r.0, omega arith)

kept : (l x : ℕ) → 0 < l → or_else l x ≡ l
kept zero x h = absurd (omega arith)
kept (suc i) x h = refl

most : (l m : ℕ) → ((i : ℕ) → l ≡ suc i → i < m) → (0 < or_else l (suc m)) × (or_else l (suc m) ≤ suc m)
most zero m f = (omega arith, omega arith)
most (suc i) m f = (omega arith, omega (arith, f i refl))

pub lowest_least : (p n k : ℕ) → k < n → admitted p (pos (suc k)) ≡ true → (0 < lowest_to p n) × (lowest_to p n ≤ suc k)
unfolding lowest_to
lowest_least p zero k h a = absurd (omega arith)
lowest_least p (suc m) k h a = go (ltb k m) refl (λ l. lowest_least p m k l a)
  where
    go : (b : Bool) → ltb k m ≡ b → (k < m → (0 < lowest_to p m) × (lowest_to p m ≤ suc k)) → (0 < lowest_to p (suc m)) × (lowest_to p (suc m) ≤ suc k)
    go true e ih = let r = ih (ltb-true k m e) in rw (kept _ (cond (admitted p (pos (suc m))) (suc m) 0) r.0) r
    go false e ih =
        let q : k ≡ m = omega (arith, ltb-false k m e) in
        rw (rw q at a, q) (most (lowest_to p m) m (λ i g. (lowest_admitted p m i g).1))

-- "the lowest admitted one": in every pattern the domain of the lowest set bit
pub audit_lowest : (p n k : ℕ) → n ≤ max_domains → k < n → p % 2 ^ k ≡ 0 → p / 2 ^ k % 2 ≡ 1 → (admissions_of p n).lowest ≡ suc k
audit_lowest p n k h l z e = go (lowest_to p n) refl (lowest_least p n k l (bit_set_admits p k (omega arith) e))
  where
    go : (m : ℕ) → lowest_to p n ≡ m → (0 < m) × (m ≤ suc k) → m ≡ suc k
    go zero f r = absurd (omega arith)
    go (suc j) f r =
        let below : j < k → ⊥ = λ i. never (sym (bit_clear_denies p j (omega arith) (zero_bit p k j i z)) ∙ (lowest_admitted p n j f).0) in
        ⊎_elim (λ q. q) (λ i. absurd (below (omega arith))) (eq-or-lt_of_le r.1)

-- the report depends only on who of the domains 1 to n is admitted
pub audit_same : (p q n : ℕ) → ((k : ℕ) → k < n → admitted p (pos (suc k)) ≡ admitted q (pos (suc k))) → admissions_of p n ≡ admissions_of q n
unfolding count_to lowest_to
audit_same p q zero f = refl
audit_same p q (suc n) f =
    let e = audit_same p q n (λ k h. f k (omega arith)) in
    let a = f n (omega arith) in
    λ i. record { count = (e i).count + cond (a i) 1 0; lowest = or_else (e i).lowest (cond (a i) (suc n) 0) }

-- "bits above n are left out"
pub above_left_out : (p n : ℕ) → n ≤ max_domains → admissions_of (p % 2 ^ n) n ≡ admissions_of p n
above_left_out p n h = audit_same (p % 2 ^ n) p n (λ k l. above_unused p n k h l)

-- "with nobody admitted both numbers are 0"
pub nobody_admitted : (p n : ℕ) → ((k : ℕ) → k < n → admitted p (pos (suc k)) ≡ false) → admissions_of p n ≡ no_admissions
unfolding count_to lowest_to
nobody_admitted p zero f = refl
nobody_admitted p (suc n) f =
    let r = nobody_admitted p n (λ k h. f k (omega arith)) in
    let d = f n (omega arith) in
    λ i. record { count = (r i).count + cond (d i) 1 0; lowest = or_else (r i).lowest (cond (d i) (suc n) 0) }

pub audit_nobody : (p n : ℕ) → n ≤ max_domains → p % 2 ^ n ≡ 0 → admissions_of p n ≡ record { count = 0; lowest = 0 }
audit_nobody p n h z = nobody_admitted p n (λ k l. bit_clear_denies p k (omega arith) (zero_bit p n k l z))

-- "takes a vector and n .. and tells for each pattern how many .. and the lowest"
pub audit_tells : (v : Vector) (n : ℕ) → n ≤ max_domains
    → audit_of v (pos n) ≡ record { code = pos 0; normal1 = admissions_of v.normal1 n; normal2 = admissions_of v.normal2 n; management = admissions_of v.management n; reference = admissions_of v.reference n }
unfolding audit_of
audit_tells v n h = rw (le-leb n max_domains h)

-- "outside 0 to 32: E_PAR, all numbers 0"
abbrev zeros : Admissions
zeros = record { count = 0; lowest = 0 }

abbrev pub refused_by : ℤ → AuditReport
refused_by z = record { code = z; normal1 = zeros; normal2 = zeros; management = zeros; reference = zeros }

pub audit_above : (v : Vector) (n : ℕ) → max_domains < n → audit_of v (pos n) ≡ refused_by (neg_ℤ (pos 17))
unfolding audit_of
audit_above v n h = rw (lt-leb n max_domains h)

pub audit_below : (v : Vector) (k : ℕ) → audit_of v (negsuc k) ≡ refused_by (neg_ℤ (pos 17))
unfolding audit_of
audit_below v k = refl
