-- How an object's own call can end, whatever its kind, and what it leaves alone. Assumes nothing.
use mathlib.Core.Path.{◌≡◌, refl, sym, ap, ◌∙◌}
use mathlib.Core.Logic.{◌≢◌}
use mathlib.Core.Bool.{Bool, true, false}
use mathlib.Core.List.{List, [], ◌∷◌}
use mathlib.Core.Option.{Option, none, some}
use Prim.Native.Nat.{ℕ}
use native.Mathlib.Omega.{arith}
use lib.ListN.{length}
use Rattle.itron.specs.Codes.{Code, ok, waiting, error}
use Rattle.itron.specs.declared.error.Error.{Error as Refusal}
use Rattle.itron.specs.declared.error.Error.TheVariants.{Oacv as e_oacv}
use Rattle.model.specs.Lists.{at, put}
use Rattle.model.specs.State.{TaskEntry, Waiter, Place, same_place}
use Rattle.model.specs.Answers.{Effect, effect, say}
use Rattle.model.specs.Waits.{waiters_in, standing, join, refusal}
use Rattle.model.specs.Waits as Waits
use Rattle.model.proofs.Lists.{no_both, Distinct, at_put_other, at_put_keep, length_put}
use Rattle.model.proofs.WaitQueues.{place_of, leave_elsewhere, join_elsewhere}

-- ---- records that may differ from rs under the number n, and there not in what `entry` shows
pub record SameBut {R : Type 0} (none : R) (entry : R → R) (n : ℕ) (rs xs : List R) : Type 0 where
  pub other : (i : ℕ) → i ≢ n → at none xs i ≡ at none rs i
  pub entries : (i : ℕ) → entry (at none xs i) ≡ entry (at none rs i)
  pub count : length xs ≡ length rs

module _ {R : Type 0} (none : R) (entry : R → R) (n : ℕ) (rs : List R) where
  pub same_all : SameBut none entry n rs rs
  same_all = record { other = λ i h. refl; entries = λ i. refl; count = refl }

  pub same_put : (x : R) → entry x ≡ entry (at none rs n) → SameBut none entry n rs (put rs n x)
  same_put x h = record { other = λ i k. at_put_other none rs n i x k; entries = λ i. at_put_keep entry none rs n i x h; count = length_put rs n x }

-- nobody waits at the place that a call serves
abbrev pub Vacant : List Waiter → Option Place → Type 0
Vacant ws none = Unit
Vacant ws (some p) = waiters_in ws p ≡ []

-- ---- the endings of a call by task t on an object with the places `mine`, at which waiters stand in the order `order`: it begins the waits `starts`, serves the place `serves`, and leaves records that are Same
pub data Ends (R : Type 0) (ts : List TaskEntry) (ws : List Waiter) (rs : List R) (t : ℕ) (mine order : Place → Bool) (Same : List R → Type 0) (starts : List Waiter) (serves : Code → Option Place) : Effect R → Type 0 where
  refused : (e : Refusal) → e ≢ e_oacv → Ends R ts ws rs t mine order Same starts serves (refusal ws rs e)
  gives : (xs : List R) (w : ℕ) → Same xs → Vacant ws (serves ok) → Ends R ts ws rs t mine order Same starts serves (Waits.gives ws xs w)
  wakes : (xs : List R) (p : Place) (e : Waiter) (l : List Waiter) (w h : ℕ) → Same xs → mine p ≡ true → serves ok ≡ some p → standing (order p) ts (waiters_in ws p) ≡ e ∷ l
      → Ends R ts ws rs t mine order Same starts serves (Waits.wakes ws xs e w h)
  waits : (e : Waiter) → e.task ≡ t → mine e.place ≡ true → starts ≡ e ∷ [] → Vacant ws (serves waiting)
      → Ends R ts ws rs t mine order Same starts serves (effect (say waiting 0 []) (join e ws) rs)

-- a place of mine is none of another object's
foreign : (mine : Place → Bool) (p r : Place) → mine p ≡ true → mine r ≡ false → same_place r p ≡ false
foreign mine p r h k = go (same_place r p) refl
  where
    go : (b : Bool) → same_place r p ≡ b → b ≡ false
    go true e = absurd (no_both (ap mine (sym (place_of r p e)) ∙ h) k)
    go false e = refl

module _ {R : Type 0} {ts : List TaskEntry} {ws : List Waiter} {rs : List R} {t : ℕ} {mine order : Place → Bool} {Same : List R → Type 0} {starts : List Waiter} {serves : Code → Option Place} where
  -- the frame: it leaves the wait queues of every other object alone
  pub frame : {o : Effect R} → Ends R ts ws rs t mine order Same starts serves o → Distinct ws → (r : Place) → mine r ≡ false → waiters_in o.waits r ≡ waiters_in ws r
  frame (refused e n) d r k = refl
  frame (gives xs w s v) d r k = refl
  frame (wakes xs p e l w h s m v f) d r k = leave_elsewhere ws (order p) ts p d f r (foreign mine p r m k)
  frame (waits e z m b v) d r k = join_elsewhere ws e r (foreign mine e.place r m k)

  -- its records are the same but under its own number
  pub keeps : {o : Effect R} → Same rs → Ends R ts ws rs t mine order Same starts serves o → Same o.records
  keeps z (refused e n) = z
  keeps z (gives xs w s v) = s
  keeps z (wakes xs p e l w h s m v f) = s
  keeps z (waits e y m b v) = z

  -- who passes the checks is not denied
  pub not_denied : {o : Effect R} → Ends R ts ws rs t mine order Same starts serves o → o.answer.code ≡ error e_oacv → ⊥
  not_denied (refused e n) q = n (cc)
  not_denied (gives xs w s v) q = let z : ◌≡◌ {A = ℕ} 0 1 = cc in omega arith
  not_denied (wakes xs p e l w h s m v f) q = let z : ◌≡◌ {A = ℕ} 0 1 = cc in omega arith
  not_denied (waits e y m b v) q = let z : ◌≡◌ {A = ℕ} 0 1 = cc in omega arith
