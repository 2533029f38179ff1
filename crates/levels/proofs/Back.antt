-- The form of the levels, read back and changed. Assumes nothing.
use Prim.Native.Nat.{ℕ, suc, ◌-◌, ◌<◌}
use native.Mathlib.Omega.{arith}
use mathlib.Core.Path.{◌≡◌, sym, ap, ◌∙◌}
use mathlib.Core.List.{List, [], ◌∷◌, ◌++◌, append_assoc}
use lib.ListN.{length, get_or, replicate, length-append}
use lib.Seq.{get_or-take}
use Rattle.arrays.proofs.Pads.{pad_set, pad_take}
use Rattle.itron.specs.Limits.{max_tasks}
use Rattle.model.specs.Lists.{put, at}
use Rattle.levels.specs.declared.state.Levels.{Levels}
use Rattle.levels.specs.View.{levels_of}
use Rattle.levels.specs.Form.{levels_as, with_level}

-- what is seen of as many tasks as there are levels
pub back_levels : (n : ℕ) (ks : List ℕ) → length ks ≡ n → levels_of n (levels_as ks) ≡ ks
unfolding levels_of levels_as
back_levels n ks h = ap (λ (m : ℕ). levels_of m (levels_as ks)) (sym h) ∙ pad_take 0 max_tasks ks

-- a task's level changed
pub with_form : (ks : List ℕ) (t k : ℕ) → t < length ks → with_level (levels_as ks) t k ≡ levels_as (put ks (suc t) k)
unfolding levels_as
with_form ks t k h = ap (λ (l : List ℕ). record { entries = l }) (pad_set 0 max_tasks ks t k h)

-- one task more, at level 0: the array holds it already
pub more_form : (ks : List ℕ) → length ks < max_tasks → levels_as ks ≡ levels_as (ks ++ (0 ∷ []))
unfolding levels_as
more_form ks h =
    let n = max_tasks - length (ks ++ (0 ∷ [])) in
    let e : max_tasks - length ks ≡ suc n = omega (arith, length-append ks (0 ∷ [])) in
    ap (λ (l : List ℕ). record { entries = l }) (ap (λ (m : ℕ). ks ++ replicate m 0) e ∙ sym (append_assoc ks (0 ∷ []) (replicate n 0)))

-- the level of one of n tasks
pub get_seen : (n : ℕ) (x : Levels) (t : ℕ) → t < n → get_or x.entries t 0 ≡ at 0 (levels_of n x) (suc t)
unfolding levels_of
get_seen n x t h = sym (get_or-take n x.entries t 0 h)
