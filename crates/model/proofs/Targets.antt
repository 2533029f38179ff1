-- Which object of any room a number names. Assumes nothing.
use Prim.Native.Nat.{ℕ, suc, ◌-◌, ◌≤◌, ◌<◌}
use native.Mathlib.Omega.{arith}
use mathlib.Core.Path.{◌≡◌}
use mathlib.Core.Logic.{◌≢◌}
use mathlib.Core.List.{List}
use lib.IntN.{ℤ}
use lib.ListN.{length, get_or}
use borrow.Author.Tests.{le-leb, lt-leb}
use Rattle.access.specs.Domains.{ordinal_of}
use Rattle.std.specs.Prelude.{Result, Ok, Err as Refused}
use Rattle.itron.specs.declared.error.Error.{Error as Refusal}
use Rattle.itron.specs.declared.error.Error.TheVariants.{Id as e_id, Noexs as e_noexs}
use Rattle.model.specs.declared.check.Target.{Target}
use Rattle.model.specs.State.{no}
use Rattle.model.specs.Rooms.{Room}
use Rattle.model.specs.Checks.{target_in}
use Rattle.model.proofs.Ordinals.{outside, within}

module _ {C R : Type 0} (r : Room C R) (xs : List R) (z : ℤ) where
  pub out_of_range : ordinal_of z r.most ≡ 0 → Refused e_id ≡ target_in r xs (no z)
  out_of_range e = rw (outside z r.most e)

  module _ (k : ℕ) (e : k ≡ ordinal_of z r.most) (n : k ≢ 0) where
    pub missing : length xs < k → Refused e_noexs ≡ target_in r xs (no z)
    missing l = let w = within z r.most k e n in rw (w.test, w.same, lt-leb (suc (k - 1)) (length xs) (omega arith))

    pub found : k ≤ length xs → ◌≡◌ {A = Result Target Refusal} (Ok (record { object = k - 1; vector = r.vector (get_or xs (k - 1) r.nothing) })) (target_in r xs (no z))
    found l = let w = within z r.most k e n in rw (w.test, w.same, le-leb (suc (k - 1)) (length xs) (omega arith))
