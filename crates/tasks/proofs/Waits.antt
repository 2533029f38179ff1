-- What a task does, by the list of all who wait. Assumes nothing.
use Prim.Native.Nat.{ℕ, zero, suc}
use mathlib.Core.Path.{◌≡◌, refl, sym, ap, ◌∙◌}
use mathlib.Core.Logic.{◌≢◌}
use mathlib.Core.Bool.{Bool, true, false, cond, not, ◌&&◌}
use mathlib.Core.List.{List, [], ◌∷◌, ◌++◌}
use lib.Dec.{eqb}
use Rattle.model.specs.Lists.{index, cons_if, keep, All}
use Rattle.model.specs.State.{Waiter, waiter}
use Rattle.model.specs.Waits.{is_other, absent}
use Rattle.model.specs.Conditions.{Distinct, Plain, WordFits}
use Rattle.model.specs.declared.Side.{Side}
use Rattle.model.specs.declared.Side.TheVariants.{OnSem as on_sem, Receiving as receiving, Sending as sending}
use Rattle.model.proofs.Lists.{eq_of, eqb_same, eqb_no, eqb_sym, and_left, and_right}
use Rattle.tasks.specs.declared.task.Wait.TheVariants.{Ready}
use Rattle.tasks.specs.View.{waiter_of}
use Rattle.tasks.specs.Form.{wait_as, wait_in, wait_for}
use Rattle.tasks.specs.Held.{is_ready}

flip : (b : Bool) → not b ≡ true → b ≡ false
flip true e = sym e
flip false e = refl

-- a number is its index and 1
pub number_back : (n : ℕ) → n ≢ 0 → suc (index n) ≡ n
number_back zero h = absurd (h refl)
number_back (suc n) h = refl

-- ---- ready or not
busy_in : (e : Waiter) → is_ready (wait_in e) ≡ false
busy_in e = go e.place.side
  where
    go : (d : Side) → is_ready (wait_as d e.place.number e.word) ≡ false
    go on_sem = refl
    go receiving = refl
    go sending = refl

-- a task is ready where it is none of those who wait
pub ready_absent : (t : ℕ) (l : List Waiter) → is_ready (wait_for t l) ≡ absent t l
ready_absent t [] = refl
ready_absent t (e ∷ l) = go (eqb t e.task) (ready_absent t l)
  where
    go : (b : Bool) → is_ready (wait_for t l) ≡ absent t l → is_ready (cond b (wait_in e) (wait_for t l)) ≡ not b && absent t l
    go true h = busy_in e
    go false h = h

-- ---- one more waits
pub wait_snoc : (e : Waiter) (l : List Waiter) → absent e.task l ≡ true → wait_for e.task (l ++ (e ∷ [])) ≡ wait_in e
wait_snoc e [] h = rw (eqb_same e.task)
wait_snoc e (x ∷ l) h =
    let n : eqb e.task x.task ≡ false = flip (eqb e.task x.task) (and_left (is_other e.task x) (absent e.task l) h) in
    rw n (wait_snoc e l (and_right (is_other e.task x) (absent e.task l) h))

pub wait_snoc_other : (t : ℕ) (e : Waiter) (l : List Waiter) → t ≢ e.task → wait_for t (l ++ (e ∷ [])) ≡ wait_for t l
wait_snoc_other t e [] h = rw (eqb_no t e.task h)
wait_snoc_other t e (x ∷ l) h = ap (cond (eqb t x.task) (wait_in x)) (wait_snoc_other t e l h)

-- ---- one leaves
pub wait_gone : (t : ℕ) (l : List Waiter) → wait_for t (keep (is_other t) l) ≡ Ready
wait_gone t [] = refl
wait_gone t (x ∷ l) = go (eqb t x.task) refl (wait_gone t l)
  where
    go : (b : Bool) → eqb t x.task ≡ b → wait_for t (keep (is_other t) l) ≡ Ready → wait_for t (cons_if (not b) x (keep (is_other t) l)) ≡ Ready
    go true e h = h
    go false e h = rw e h

pub wait_stays : (u t : ℕ) (l : List Waiter) → u ≢ t → wait_for u (keep (is_other t) l) ≡ wait_for u l
wait_stays u t [] n = refl
wait_stays u t (x ∷ l) n = go (eqb t x.task) refl (wait_stays u t l n)
  where
    go : (b : Bool) → eqb t x.task ≡ b → wait_for u (keep (is_other t) l) ≡ wait_for u l → wait_for u (cons_if (not b) x (keep (is_other t) l)) ≡ cond (eqb u x.task) (wait_in x) (wait_for u l)
    go true e h = rw (eqb_no u x.task (λ q. n (q ∙ sym (eq_of t x.task e)))) h
    go false e h = ap (cond (eqb u x.task) (wait_in x)) h

-- ---- a waiting task, read back from what it does
waiter_as : (t : ℕ) (d : Side) (k w : ℕ) → k ≢ 0 → WordFits d w → waiter_of t (wait_as d k w) ≡ waiter t d k w
waiter_as t on_sem k w h p = let b = number_back k h in λ i. waiter t on_sem (b i) (sym p i)
waiter_as t receiving k w h p = let b = number_back k h in λ i. waiter t receiving (b i) (sym p i)
waiter_as t sending k w h p = let b = number_back k h in λ i. waiter t sending (b i) w

pub waiter_back : (t : ℕ) (e : Waiter) → t ≡ e.task → Plain e → waiter_of t (wait_in e) ≡ e
waiter_back t e h p = waiter_as t e.place.side e.place.number e.word p.0 p.1 ∙ (λ i. waiter (h i) e.place.side e.place.number e.word)

-- each of those who wait does what its own element says
abbrev pub Own : List Waiter → Waiter → Type 0
Own l x = wait_for x.task l ≡ wait_in x

own_more : (e : Waiter) (l m : List Waiter) → absent e.task m ≡ true → All (Own l) m → All (Own (e ∷ l)) m
own_more e l [] h a = tt
own_more e l (x ∷ m) h a =
    let n : eqb x.task e.task ≡ false = eqb_sym x.task e.task ∙ flip (eqb e.task x.task) (and_left (is_other e.task x) (absent e.task m) h) in
    (rw n a.0, own_more e l m (and_right (is_other e.task x) (absent e.task m) h) a.1)

pub owns : (l : List Waiter) → Distinct l → All (Own l) l
owns [] d = tt
owns (e ∷ l) d = (rw (eqb_same e.task), own_more e l l d.0 (owns l d.1))
