-- The limits that all states keep, by what can happen to the waiting tasks and to the queues: a task leaves or joins, a record changes. Assumes nothing.
use mathlib.Core.Path.{◌≡◌, refl, ap, ◌∙◌}
use mathlib.Core.Bool.{Bool, true, false, not}
use mathlib.Core.List.{List, [], ◌∷◌, ◌++◌}
use Prim.Native.Nat.{ℕ, zero, suc, ◌+◌, ◌≤◌}
use native.Mathlib.Omega.{arith}
use lib.ListN.{length}
use lib.Dec.{eqb}
use Rattle.model.specs.Lists.{at, put, keep, cons_if, All}
use Rattle.model.specs.State.{TaskEntry, Queue, Waiter, no_queue}
use Rattle.model.specs.Waits.{is_other, absent}
use Rattle.model.specs.Queues.{words_used}
use Rattle.model.specs.Conditions.{WaitsFit, QueuesFit, Known, Plain, BufferFits}
use Rattle.model.proofs.Lists.{all_keep, all_snoc, all_put, all_any, eq_of, ne_of, Distinct, distinct_keep, distinct_snoc, keep_absent, length_put}

-- ---- who waits is a registered task, so no more wait than there are tasks
one_less : (t : ℕ) (l : List Waiter) → Distinct l → length l ≤ suc (length (keep (is_other t) l))
one_less t [] d = omega arith
one_less t (x ∷ l) d = go (eqb t x.task) refl (one_less t l d.1)
  where
    go : (b : Bool) → eqb t x.task ≡ b → length l ≤ suc (length (keep (is_other t) l)) → suc (length l) ≤ suc (length (cons_if (not b) x (keep (is_other t) l)))
    go true e h = let z : keep (is_other t) l ≡ l = keep_absent t l (ap (λ (y : ℕ). absent y l) (eq_of t x.task e) ∙ d.0) in rw z (omega arith)
    go false e h = omega arith

lower : (n : ℕ) (l : List Waiter) → All (Known (suc n)) l → All (Known n) (keep (is_other (suc n)) l)
lower n [] h = tt
lower n (x ∷ l) h = go (eqb (suc n) x.task) refl (lower n l h.1)
  where
    go : (b : Bool) → eqb (suc n) x.task ≡ b → All (Known n) (keep (is_other (suc n)) l) → All (Known n) (cons_if (not b) x (keep (is_other (suc n)) l))
    go true e k = k
    go false e k = ((h.0.0, (let a = ne_of (suc n) x.task e in let b = h.0.1 in omega arith)), k)

pub no_more_than : (n : ℕ) (l : List Waiter) → Distinct l → All (Known n) l → length l ≤ n
no_more_than zero [] d h = omega arith
no_more_than zero (x ∷ l) d h = absurd (h.0.0 (let b = h.0.1 in omega arith))
no_more_than (suc n) l d h =
    let a = one_less (suc n) l d in
    let b = no_more_than n (keep (is_other (suc n)) l) (distinct_keep (is_other (suc n)) l d) (lower n l h) in
    omega arith

-- ---- the limits are kept by each part of a call
used_put : (l : List Queue) (n : ℕ) (x : Queue) → x.capacity ≡ (at no_queue l n).capacity → words_used (put l n x) ≡ words_used l
used_put l zero x e = refl
used_put [] (suc n) x e = refl
used_put (y ∷ l) (suc zero) x e = ap (λ (c : ℕ). c + words_used l) e
used_put (y ∷ l) (suc (suc n)) x e = ap (λ (c : ℕ). y.capacity + c) (used_put l (suc n) x e)

module _ {ts : List TaskEntry} {ws : List Waiter} (f : WaitsFit ts ws) where
  pub waits_leave : (t : ℕ) → WaitsFit ts (keep (is_other t) ws)
  waits_leave t = record {
    tasks = f.tasks;
    distinct = distinct_keep (is_other t) ws f.distinct;
    known = all_keep (Known (length ts)) (is_other t) ws f.known;
    plain = all_keep Plain (is_other t) ws f.plain;
  }

  pub waits_join : (e : Waiter) → absent e.task ws ≡ true → Known (length ts) e → Plain e → WaitsFit ts (ws ++ (e ∷ []))
  waits_join e a k p = record {
    tasks = f.tasks;
    distinct = distinct_snoc ws e f.distinct a;
    known = all_snoc (Known (length ts)) ws e f.known k;
    plain = all_snoc Plain ws e f.plain p;
  }

  -- no more tasks wait than there are
  pub few : length ws ≤ length ts
  few = no_more_than (length ts) ws f.distinct f.known

module _ {qs : List Queue} (f : QueuesFit qs) where
  pub queues_put : (n : ℕ) (x : Queue) → x.capacity ≡ (at no_queue qs n).capacity → BufferFits x → QueuesFit (put qs n x)
  queues_put n x e b = record {
    few = rw (length_put qs n x) f.few;
    words = rw (used_put qs n x e) f.words;
    buffers = all_put BufferFits qs n x f.buffers b;
  }

  pub buffer_fits : (n : ℕ) → BufferFits (at no_queue qs n)
  buffer_fits n = all_any BufferFits no_queue (omega arith) qs n f.buffers
