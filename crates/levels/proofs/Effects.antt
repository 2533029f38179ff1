-- What a call makes of all levels, by what became of the caller's. Assumes nothing.
use Prim.Native.Nat.{ℕ}
use native.Mathlib.Omega.{arith}
use mathlib.Core.Path.{◌≡◌, ap}
use mathlib.Core.Option.{Option, none, some}
use Rattle.std.specs.Prelude.{Ok, Err as Refused}
use Rattle.itron.specs.declared.error.Error.{Error as Refusal}
use Rattle.levels.specs.declared.state.Levels.{Levels}
use Rattle.levels.specs.Form.{with_level}
use Rattle.levels.specs.Effects.{changed_by, acted_by}

module _ (x : Levels) (t : ℕ) (k : ℕ) where
  pub refused_by_lem : (o : Option Refusal) (d : Refusal) → changed_by o k ≡ Refused d → Refused d ≡ acted_by x t o k
  refused_by_lem (some e) d h = let z : d ≡ e = cc in ap (λ (y : Refusal). Refused y) z
  refused_by_lem none d h = absurd (let z : ◌≡◌ {A = ℕ} 0 1 = cc in omega arith)

  pub changed_by_lem : (o : Option Refusal) (n : ℕ) → changed_by o k ≡ Ok n → Ok (with_level x t n) ≡ acted_by x t o k
  changed_by_lem (some e) n h = absurd (let z : ◌≡◌ {A = ℕ} 0 1 = cc in omega arith)
  changed_by_lem none n h = let z : n ≡ k = cc in ap (λ (y : ℕ). Ok (with_level x t y)) z
