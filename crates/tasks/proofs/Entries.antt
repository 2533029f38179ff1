-- The tasks with these entries, and those who wait read back from them. Assumes nothing.
use Prim.Native.Nat.{ℕ, zero, suc, ◌+◌, ◌<◌}
use native.Mathlib.Omega.{arith}
use mathlib.Core.Path.{◌≡◌, refl, sym, ap, ◌∙◌}
use mathlib.Core.Logic.{◌≢◌}
use mathlib.Core.List.{List, [], ◌∷◌, ◌++◌, map}
use lib.ListN.{length, get_or, set}
use Rattle.model.specs.Lists.{All}
use Rattle.model.specs.State.{TaskEntry, Waiter, no_task as no_entry}
use Rattle.model.specs.Conditions.{Distinct, Known, Plain}
use Rattle.tasks.specs.declared.task.Wait.{Wait}
use Rattle.tasks.specs.declared.task.Wait.TheVariants.{Ready}
use Rattle.tasks.specs.declared.task.Task.{Task}
use Rattle.tasks.specs.View.{no_task, waiter_of, waiter_at, entry_of}
use Rattle.tasks.specs.Form.{wait_in, wait_for, task_as, tasks_from, index_in}
use Rattle.tasks.proofs.Waits.{number_back, waiter_back, Own, owns}

pub entries_length : (n : ℕ) (es : List TaskEntry) (l : List Waiter) → length (tasks_from n es l) ≡ length es
entries_length n [] l = refl
entries_length n (d ∷ es) l = ap suc (entries_length (suc n) es l)

pub entries_seen : (n : ℕ) (es : List TaskEntry) (l : List Waiter) → map entry_of (tasks_from n es l) ≡ es
entries_seen n [] l = refl
entries_seen n (d ∷ es) l = ap (λ (z : List TaskEntry). d ∷ z) (entries_seen (suc n) es l)

pub entries_get : (n : ℕ) (es : List TaskEntry) (l : List Waiter) (i : ℕ) → i < length es → get_or (tasks_from n es l) i no_task ≡ task_as (get_or es i no_entry) (wait_for (suc (n + i)) l)
entries_get n [] l i h = absurd (omega arith)
entries_get n (d ∷ es) l zero h = let e : n ≡ n + 0 = omega arith in λ j. task_as d (wait_for (suc (e j)) l)
entries_get n (d ∷ es) l (suc i) h =
    let e : suc n + i ≡ n + suc i = omega arith in
    entries_get (suc n) es l i (omega arith) ∙ (λ j. task_as (get_or es i no_entry) (wait_for (suc (e j)) l))

pub entries_priority : (n : ℕ) (es : List TaskEntry) (l : List Waiter) (i : ℕ) → (get_or (tasks_from n es l) i no_task).priority ≡ (get_or es i no_entry).priority
entries_priority n [] l i = refl
entries_priority n (d ∷ es) l zero = refl
entries_priority n (d ∷ es) l (suc i) = entries_priority (suc n) es l i

-- one task does something else
pub entries_set : (n : ℕ) (es : List TaskEntry) (l l' : List Waiter) (i : ℕ) (w : Wait) → i < length es → wait_for (suc (n + i)) l' ≡ w → ((u : ℕ) → u ≢ suc (n + i) → wait_for u l' ≡ wait_for u l)
    → set (tasks_from n es l) i (task_as (get_or es i no_entry) w) ≡ tasks_from n es l'
entries_set n [] l l' i w h e f = absurd (omega arith)
entries_set n (d ∷ es) l l' zero w h e f =
    let z : n + 0 ≡ n = omega arith in
    let g : w ≡ wait_for (suc n) l' = sym e ∙ ap (λ (k : ℕ). wait_for (suc k) l') z in
    let r : tasks_from (suc n) es l ≡ tasks_from (suc n) es l' = rest (suc n) es (λ u k. sym (f u (omega arith))) in
    λ j. task_as d (g j) ∷ r j
  where
    rest : (m : ℕ) (es : List TaskEntry) → ((u : ℕ) → m < u → wait_for u l ≡ wait_for u l') → tasks_from m es l ≡ tasks_from m es l'
    rest m [] f = refl
    rest m (d ∷ es) f =
        let a = f (suc m) (omega arith) in
        let b = rest (suc m) es (λ u k. f u (omega arith)) in
        λ j. task_as d (a j) ∷ b j
entries_set n (d ∷ es) l l' (suc i) w h e f =
    let z : n + suc i ≡ suc n + i = omega arith in
    let a : wait_for (suc n) l ≡ wait_for (suc n) l' = sym (f (suc n) (omega arith)) in
    let b = entries_set (suc n) es l l' i w (omega arith) (ap (λ (k : ℕ). wait_for (suc k) l') (sym z) ∙ e) (λ u k. f u (λ q. k (q ∙ ap suc z))) in
    λ j. task_as d (a j) ∷ b j

-- one task more, while nobody waits
pub entries_snoc : (n : ℕ) (es : List TaskEntry) (d : TaskEntry) → tasks_from n es [] ++ (task_as d Ready ∷ []) ≡ tasks_from n (es ++ (d ∷ [])) []
entries_snoc n [] d = refl
entries_snoc n (x ∷ es) d = ap (λ (z : List Task). task_as x Ready ∷ z) (entries_snoc (suc n) es d)

-- the entries give back each of those who wait
pub waiters_back : (ts : List Task) (n : ℕ) (l : List Waiter) → Distinct l → All (Known n) l → All Plain l
    → ((i : ℕ) → i < n → (get_or ts i no_task).wait ≡ wait_for (suc i) l) → map (waiter_at ts) (map index_in l) ≡ l
waiters_back ts n l d k p f = go l k p (owns l d)
  where
    go : (m : List Waiter) → All (Known n) m → All Plain m → All (Own l) m → map (waiter_at ts) (map index_in m) ≡ m
    go [] k p o = refl
    go (x ∷ m) k p o =
        let s : suc (index_in x) ≡ x.task = number_back x.task k.0.0 in
        let w : (get_or ts (index_in x) no_task).wait ≡ wait_in x = f (index_in x) (let b = k.0.1 in omega arith) ∙ ap (λ (t : ℕ). wait_for t l) s ∙ o.0 in
        let a : waiter_at ts (index_in x) ≡ x = ap (waiter_of (suc (index_in x))) w ∙ waiter_back (suc (index_in x)) x s p.0 in
        let b = go m k.1 p.1 o.1 in
        λ i. a i ∷ b i
