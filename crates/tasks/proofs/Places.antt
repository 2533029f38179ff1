-- What a task does: whether it is ready, and where it waits. Assumes nothing.
use Prim.Native.Nat.{ℕ, suc}
use mathlib.Core.Path.{◌≡◌, refl}
use mathlib.Core.Bool.{false}
use mathlib.Core.List.{[], ◌∷◌}
use mathlib.Core.Logic.{◌≢◌, ⊎_elim}
use lib.Dec.{eqb}
use types.Run.{OneOf}
use Rattle.model.specs.State.{place, side_number, same_place}
use Rattle.model.specs.declared.Side.{Side}
use Rattle.model.proofs.Lists.{eqb_same}
use Rattle.tasks.specs.declared.task.Wait.{Wait}
use Rattle.tasks.specs.declared.task.Wait.TheVariants.{Ready, OnSem, Receiving, Sending}
use Rattle.tasks.specs.View.{waiter_of}
use Rattle.tasks.specs.Held.{is_ready}
use Rattle.tasks.proofs.Orders.{eqb_suc}

-- ---- none of three numbers
pub three : {X : Type 0} {a b c t : ℕ} → OneOf (a ∷ b ∷ c ∷ []) t → (t ≡ a → ⊥) → (t ≡ b → ⊥) → (t ≡ c → ⊥) → X
three h x y z = absurd (⊎_elim (λ e. x e) (⊎_elim (λ e. y e) (λ e. z e)) h)

-- ---- whether it is the place with this side and this index
pub same_side_lem : (d e : Side) (o k : ℕ) → side_number d ≡ side_number e → eqb o k ≡ same_place (place d (suc o)) (place e (suc k))
same_side_lem d e o k h = rw (h, eqb_same (side_number e)) (eqb_suc o k)

-- ---- whether it is ready
pub busy : (w : Wait) → w ≢ Ready → is_ready w ≡ false
busy Ready n = absurd (n refl)
busy (OnSem k) n = refl
busy (Receiving k) n = refl
busy (Sending k w) n = refl

-- ---- a waiter's place and word do not depend on its task
pub place_any : (t : ℕ) (w : Wait) → (waiter_of t w).place ≡ (waiter_of 0 w).place
place_any t Ready = refl
place_any t (OnSem k) = refl
place_any t (Receiving k) = refl
place_any t (Sending k x) = refl

pub word_any : (t : ℕ) (w : Wait) → (waiter_of t w).word ≡ (waiter_of 0 w).word
word_any t Ready = refl
word_any t (OnSem k) = refl
word_any t (Receiving k) = refl
word_any t (Sending k x) = refl

pub task_any : (t : ℕ) (w : Wait) → (waiter_of t w).task ≡ t
task_any t Ready = refl
task_any t (OnSem k) = refl
task_any t (Receiving k) = refl
task_any t (Sending k x) = refl
