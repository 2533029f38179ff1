-- A test and the fact that it stands for; checks in order, by their facts
use mathlib.Core.Path.{◌≡◌, refl, ap}
use mathlib.Core.Logic.{◌≢◌, ◌⊎◌, inl, inr}
use mathlib.Core.Bool.{Bool, true, false, not, ◌&&◌, ◌||◌}
use mathlib.Core.Option.{Option, none, some}
use Prim.Native.Nat.{ℕ, ◌≤◌, ◌<◌}
use native.Mathlib.Omega.{arith}
use lib.Dec.{eqb, ltb, leb}
use borrow.Author.Tests.{ltb-true, ltb-false, leb-true, leb-false}
use Rattle.itron.specs.declared.error.Error.{Error as Refusal}
use Rattle.model.specs.Answers.{refuse_if}
use Rattle.model.proofs.Lists.{eq_of, ne_of, no_both, and_left, and_right, both}

-- the test b holds exactly when P does
pub record Tells (b : Bool) (P : Type 0) : Type 0 where
  pub yes : b ≡ true → P
  pub no : b ≡ false → P → ⊥

module _ {b : Bool} {P : Type 0} (t : Tells b P) where
  pub holds : P → b ≡ true
  holds p = go b refl
    where
      go : (c : Bool) → b ≡ c → c ≡ true
      go true e = refl
      go false e = absurd (t.no e p)

  pub fails : (P → ⊥) → b ≡ false
  fails f = go b refl
    where
      go : (c : Bool) → b ≡ c → c ≡ false
      go true e = absurd (f (t.yes e))
      go false e = refl

pub le_tells : (m n : ℕ) → Tells (leb m n) (m ≤ n)
le_tells m n = record { yes = λ h. leb-true m n h; no = λ h p. omega (arith, leb-false m n h) }

pub lt_tells : (m n : ℕ) → Tells (ltb m n) (m < n)
lt_tells m n = record { yes = λ h. ltb-true m n h; no = λ h p. omega (arith, ltb-false m n h) }

pub eq_tells : (m n : ℕ) → Tells (eqb m n) (m ≡ n)
eq_tells m n = record { yes = eq_of m n; no = ne_of m n }

pub true_tells : (b : Bool) → Tells b (b ≡ true)
true_tells b = record { yes = λ h. h; no = λ h p. no_both p h }

pub always_tells : Tells true Unit
always_tells = record { yes = λ h. tt; no = λ h p. no_both {b = true} refl h }

pub never_tells : Tells false ⊥
never_tells = record { yes = λ h. no_both h refl; no = λ h p. p }

module _ {a b : Bool} {P Q : Type 0} (f : Tells a P) (g : Tells b Q) where
  pub and_tells : Tells (a && b) (P × Q)
  and_tells = record { yes = λ h. (f.yes (and_left a b h), g.yes (and_right a b h)); no = λ h p. no_both (both (holds f p.0) (holds g p.1)) h }

  pub or_tells : Tells (a || b) (P ⊎ Q)
  or_tells = record { yes = λ h. go a b refl refl h; no = λ h p. stop a b refl refl h p }
    where
      go : (c d : Bool) → a ≡ c → b ≡ d → c || d ≡ true → P ⊎ Q
      go true d e k h = inl (f.yes e)
      go false true e k h = inr (g.yes k)
      go false false e k h = absurd (no_both h refl)

      stop : (c d : Bool) → a ≡ c → b ≡ d → c || d ≡ false → P ⊎ Q → ⊥
      stop true d e k h p = no_both {b = true} refl h
      stop false true e k h p = no_both {b = true} refl h
      stop false false e k h (inl p) = f.no e p
      stop false false e k h (inr q) = g.no k q

pub iff_tells : {b : Bool} {P Q : Type 0} → (P → Q) → (Q → P) → Tells b P → Tells b Q
iff_tells f g t = record { yes = λ h. f (t.yes h); no = λ h q. t.no h (g q) }

pub not_tells : {b : Bool} {P : Type 0} → Tells b P → Tells (not b) (P → ⊥)
not_tells {b} t = record { yes = λ h p. no_both h (ap not (holds t p)); no = λ h f. no_both (ap not (fails t f)) h }

-- first hit wins
module _ {b : Bool} {P : Type 0} (t : Tells b P) (e : Refusal) (r : Option Refusal) where
  pub passes_on : P → refuse_if (not b) e r ≡ r
  passes_on p = ap (λ (c : Bool). refuse_if (not c) e r) (holds t p)

  pub stops_at : (P → ⊥) → refuse_if (not b) e r ≡ some e
  stops_at f = ap (λ (c : Bool). refuse_if (not c) e r) (fails t f)

  -- another code is a later check's
  pub later : {x : Refusal} → e ≢ x → refuse_if (not b) e r ≡ some x → P × (r ≡ some x)
  later {x} d h = go b refl h
    where
      go : (c : Bool) → b ≡ c → refuse_if (not c) e r ≡ some x → P × (r ≡ some x)
      go true k g = (t.yes k, g)
      go false k g = absurd (d (cc))

  -- what no check refuses has passed each
  pub passed_by : refuse_if (not b) e r ≡ none → P × (r ≡ none)
  passed_by h = go b refl h
    where
      go : (c : Bool) → b ≡ c → refuse_if (not c) e r ≡ none → P × (r ≡ none)
      go true k g = (t.yes k, g)
      go false k g = absurd (let z : ◌≡◌ {A = ℕ} 0 1 = cc in omega arith)

-- the last check's code tells that it failed
pub stopped : {b : Bool} {P : Type 0} {x : Refusal} → Tells b P → (e : Refusal) → refuse_if (not b) e none ≡ some x → P → ⊥
stopped t e h p = let k = passes_on t e none p in let z : ◌≡◌ {A = ℕ} 0 1 = cc in omega arith
