-- All who wait at a place, counted off along the order. Assumes nothing.
use Prim.Native.Nat.{ℕ, suc, ◌+◌, ◌-◌, ◌<◌}
use native.Mathlib.Omega.{arith}
use native.Mathlib.Numerals.{add-one}
use mathlib.Core.Path.{◌≡◌, refl, sym, ap, ◌∙◌}
use mathlib.Core.Logic.{◌≢◌}
use mathlib.Core.Bool.{Bool, true, false}
use mathlib.Core.List.{List, [], ◌∷◌, map}
use lib.ListN.{length, get_or, drop}
use lib.Seq.{drop-cons}
use Rattle.model.specs.Lists.{keep}
use Rattle.model.specs.State.{Place, same_place}
use Rattle.model.specs.Waits.{stands_at}
use Rattle.tasks.specs.declared.task.Task.{Task}
use Rattle.tasks.specs.View.{no_task, waiter_of, waiter_at}
use Rattle.tasks.specs.Ends.{task_in}
use Rattle.tasks.proofs.Places.{place_any, task_any}

module _ (ts : List Task) (p : Place) where
  -- whether the task with an index stands at the place
  abbrev pub stands_in : ℕ → Bool
  stands_in i = same_place p (waiter_of 0 (get_or ts i no_task).wait).place

  stands : (i : ℕ) (b : Bool) → stands_in i ≡ b → stands_at p (waiter_at ts i) ≡ b
  stands i b h = ap (same_place p) (place_any (suc i) (get_or ts i no_task).wait) ∙ h

  abbrev numbers_of : List ℕ → List ℕ
  numbers_of o = map task_in (keep (stands_at p) (map (waiter_at ts) o))

  -- the numbers of those at the place, from the i-th in the order
  abbrev pub numbers_from : List ℕ → ℕ → List ℕ
  numbers_from o i = numbers_of (drop i o)

  pub none_left : (o : List ℕ) → numbers_from o (length o) ≡ []
  none_left [] = refl
  none_left (x ∷ o) = none_left o

  module _ (o : List ℕ) (i : ℕ) (h : i < length o) where
    next : drop i o ≡ get_or o i 0 ∷ drop (i + 1) o
    next = drop-cons o i 0 h ∙ ap (λ (j : ℕ). get_or o i 0 ∷ drop j o) (sym (add-one i))

    -- one who stands elsewhere is passed over
    pub pass : stands_in (get_or o i 0) ≡ false → numbers_from o i ≡ numbers_from o (i + 1)
    pass e = ap numbers_of next ∙ rw (stands (get_or o i 0) false e)

    module _ (e : stands_in (get_or o i 0) ≡ true) where
      pub here : numbers_from o i ≡ suc (get_or o i 0) ∷ numbers_from o (i + 1)
      here =
          let x = get_or o i 0 in
          ap numbers_of next ∙ rw (stands x true e) (ap (λ (y : ℕ). y ∷ numbers_from o (i + 1)) (task_any (suc x) (get_or ts x no_task).wait))

      -- one who stands here is the next, or is counted off
      pub found : (k : ℕ) → k ≡ 0 → get_or (numbers_from o i) k 0 ≡ suc (get_or o i 0)
      found k z = λ j. get_or (here j) (z j) 0

      pub count_off : (k : ℕ) → k ≢ 0 → get_or (numbers_from o i) k 0 ≡ get_or (numbers_from o (i + 1)) (k - 1) 0
      count_off k z = let n : k ≡ suc (k - 1) = omega arith in λ j. get_or (here j) (n j) 0
