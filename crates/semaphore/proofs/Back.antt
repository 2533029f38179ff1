-- The form of the semaphores, read back and changed. Assumes nothing.
use Prim.Native.Nat.{ℕ, ◌+◌, ◌≤◌, ◌<◌}
use native.Mathlib.Omega.{arith}
use mathlib.Core.Path.{◌≡◌, sym, ap, ◌∙◌}
use mathlib.Core.List.{List, [], ◌∷◌, ◌++◌}
use lib.ListN.{length, get_or, set, length-append, length-set}
use lib.Seq.{get_or-take}
use Rattle.arrays.proofs.Pads.{pad_take, pad_set, pad_snoc}
use Rattle.itron.specs.Limits.{max_semaphores}
use Rattle.model.specs.State.{no_sem}
use Rattle.model.specs.declared.sem.Semaphore.{Semaphore}
use Rattle.semaphore.specs.declared.state.Semaphores.{Semaphores}
use Rattle.semaphore.specs.View.{sems_of}
use Rattle.semaphore.specs.Form.{sems_as}
use Rattle.semaphore.specs.Held.{Held}

pub back_sems : (xs : List Semaphore) → sems_of (sems_as xs) ≡ xs
unfolding sems_of sems_as
back_sems xs = pad_take no_sem max_semaphores xs

pub held_as : (xs : List Semaphore) → length xs ≤ max_semaphores → Held (sems_as xs)
unfolding sems_as
held_as xs h = record { form = ap sems_as (sym (back_sems xs)); few = h }

abbrev made : ℕ → List Semaphore → Semaphores
made n l = record { count = n; records = l }

put_form : (xs : List Semaphore) (k : ℕ) (x : Semaphore) → k < length xs → made (sems_as xs).count (set (sems_as xs).records k x) ≡ sems_as (set xs k x)
unfolding sems_as
put_form xs k x h =
    let e = pad_set no_sem max_semaphores xs k x h in
    let n = length-set xs k x in
    λ i. made (sym n i) (e i)

add_form : (xs : List Semaphore) (x : Semaphore) → length xs < max_semaphores → made ((sems_as xs).count + 1) (set (sems_as xs).records (sems_as xs).count x) ≡ sems_as (xs ++ (x ∷ []))
unfolding sems_as
add_form xs x h =
    let n : length xs + 1 ≡ length (xs ++ (x ∷ [])) = sym (length-append xs (x ∷ [])) in
    let e = pad_snoc no_sem max_semaphores xs x h in
    λ i. made (n i) (e i)

-- ---- on semaphores that are held
module _ {s : Semaphores} (h : Held s) where
  pub count_seen : s.count ≡ length (sems_of s)
  unfolding sems_as
  count_seen = ap (λ (x : Semaphores). x.count) h.form

  pub get_seen : (k : ℕ) → k < length (sems_of s) → get_or s.records k no_sem ≡ get_or (sems_of s) k no_sem
  unfolding sems_of
  get_seen k l = sym (get_or-take s.count s.records k no_sem (let e = count_seen in omega arith))

  pub put_seen : (k : ℕ) (x : Semaphore) → k < length (sems_of s) → made s.count (set s.records k x) ≡ sems_as (set (sems_of s) k x)
  put_seen k x l = ap (λ (y : Semaphores). made y.count (set y.records k x)) h.form ∙ put_form (sems_of s) k x l

  pub add_seen : (x : Semaphore) → length (sems_of s) < max_semaphores → made (s.count + 1) (set s.records s.count x) ≡ sems_as (sems_of s ++ (x ∷ []))
  add_seen x l = ap (λ (y : Semaphores). made (y.count + 1) (set y.records y.count x)) h.form ∙ add_form (sems_of s) x l
