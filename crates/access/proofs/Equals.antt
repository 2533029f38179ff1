-- The tests of two domain numbers and of two vectors tell whether they are equal. Assumes nothing.
use Prim.Native.Nat.{ℕ}
use native.Mathlib.Omega.{arith}
use mathlib.Core.Path.{◌≡◌, refl, sym, ap, ◌∙◌}
use mathlib.Core.Bool.{Bool, true, false, ◌&&◌}
use lib.IntN.{ℤ, pos, negsuc}
use lib.Dec.{eqb}
use borrow.Author.Tests.{eqb-true, eq-eqb, ne_eqb}
use mir.Syntax.{w32}
use mir.Val.{SFits, to_z, of_z}
use mir.Facts.{to_z-of_z}
use Rattle.access.specs.declared.vector.Vector.{Vector}
use Rattle.access.specs.Domains.{same_domain}
use Rattle.access.specs.Vectors.{same_vector}

-- ---- domain numbers
pub domains_equal : (a b : ℤ) → same_domain a b ≡ true → a ≡ b
domains_equal (pos m) (pos n) h = ap pos (eqb-true m n h)
domains_equal (negsuc m) (negsuc n) h = ap negsuc (eqb-true m n h)
domains_equal (pos m) (negsuc n) h = absurd (let z : ◌≡◌ {A = ℕ} 0 1 = cc in omega arith)
domains_equal (negsuc m) (pos n) h = absurd (let z : ◌≡◌ {A = ℕ} 0 1 = cc in omega arith)

pub equal_domains : (a : ℤ) → same_domain a a ≡ true
equal_domains (pos m) = eq-eqb m m refl
equal_domains (negsuc m) = eq-eqb m m refl

apart : {a b : ℤ} → same_domain a b ≡ false → a ≡ b → ⊥
apart {a} {b} e q = let k = sym (ap (same_domain a) q) ∙ equal_domains a in let z : ◌≡◌ {A = ℕ} 0 1 = cc in omega arith

-- the code compares bits
pub domain_bits : (a b : ℤ) → SFits w32 a → SFits w32 b → eqb (of_z w32 a) (of_z w32 b) ≡ same_domain a b
domain_bits a b f g = go (same_domain a b) refl
  where
    go : (t : Bool) → same_domain a b ≡ t → eqb (of_z w32 a) (of_z w32 b) ≡ t
    go true e = eq-eqb (of_z w32 a) (of_z w32 b) (ap (of_z w32) (domains_equal a b e))
    go false e = ne_eqb (of_z w32 a) (of_z w32 b) (λ h. apart e (sym (to_z-of_z f) ∙ ap (to_z w32) h ∙ to_z-of_z g))

-- ---- vectors: all four patterns count
parts : (a b : Bool) → a && b ≡ true → (a ≡ true) × (b ≡ true)
parts true b h = (refl, h)
parts false b h = absurd (let z : ◌≡◌ {A = ℕ} 0 1 = cc in omega arith)

pub vectors_equal : (v w : Vector) → same_vector v w ≡ true → v ≡ w
vectors_equal v w h =
    let r = parts (eqb v.normal1 w.normal1 && eqb v.normal2 w.normal2 && eqb v.management w.management) (eqb v.reference w.reference) h in
    let m = parts (eqb v.normal1 w.normal1 && eqb v.normal2 w.normal2) (eqb v.management w.management) r.0 in
    let n = parts (eqb v.normal1 w.normal1) (eqb v.normal2 w.normal2) m.0 in
    let e₁ = eqb-true v.normal1 w.normal1 n.0 in
    let e₂ = eqb-true v.normal2 w.normal2 n.1 in
    let e₃ = eqb-true v.management w.management m.1 in
    let e₄ = eqb-true v.reference w.reference r.1 in
    λ i. record { normal1 = e₁ i; normal2 = e₂ i; management = e₃ i; reference = e₄ i }

pub equal_vectors : (v : Vector) → same_vector v v ≡ true
equal_vectors v =
    let e₁ = eq-eqb v.normal1 v.normal1 refl in
    let e₂ = eq-eqb v.normal2 v.normal2 refl in
    let e₃ = eq-eqb v.management v.management refl in
    let e₄ = eq-eqb v.reference v.reference refl in
    λ i. e₁ i && e₂ i && e₃ i && e₄ i
