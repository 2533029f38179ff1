-- Which task, object and wait queue a number names (document 01, "Each kind is numbered from 1 without gaps, in the order of its entries"). Assumes nothing.
use mathlib.Core.Path.{◌≡◌, refl, sym, ap, ◌∙◌, subst}
use mathlib.Core.Logic.{◌≢◌}
use mathlib.Core.Bool.{Bool, true, false}
use mathlib.Core.List.{List, [], ◌∷◌, ◌++◌}
use Prim.Native.Nat.{ℕ, zero, suc, ◌≤◌, ◌<◌}
use native.Mathlib.Omega.{arith}
use lib.IntN.{ℤ, pos, negsuc}
use lib.ListN.{length, get_or}
use lib.Seq.{get_or-set_same, get_or-set_other}
use Rattle.itron.specs.declared.error.Error.TheVariants.{Id as e_id}
use Rattle.model.specs.declared.Request.TheVariants as Requests
use Rattle.model.specs.declared.sem.SemaphoreRequest.TheVariants as SemaphoreRequest
use Rattle.model.specs.declared.dtq.QueueRequest.TheVariants as QueueRequest
use Rattle.model.specs.Lists.{at, put, cons_if, All}
use Rattle.model.specs.State.{Vector, TaskEntry, Sem, Queue, Place, Waiter, State, no_task, no_sem, no_queue, task_at, sem_at, queue_at, domain_at, priority_at, same_place, no}
use Rattle.model.specs.Waits.{waiters_in, waiters_at, stands_at}
use Rattle.model.specs.Acts.{Act, own, refer, set_vector}
use Rattle.model.specs.Rooms.{Room, in_range, on_object}
use Rattle.model.specs.Semaphores.{SemaphoreCall}
use Rattle.model.specs.Queues.{QueueCall}
use Rattle.model.specs.Denials.{Ready, OnObject, named}
use Rattle.model.specs.ExtendedCalls.{ExtendedCall}
use Rattle.model.specs.Calls.{Op, on_semaphore, on_queue, on_level, op_of, call, step}
use Rattle.model.proofs.Lists.{no_both, length_put}
use Rattle.model.proofs.Tests.{Tells, iff_tells, le_tells, eq_tells, and_tells, not_tells}
use Rattle.model.proofs.WaitQueues.{place_of, alike}
use Rattle.model.proofs.Rooms.{is_refer_lem}
use Rattle.model.proofs.Answers.{refuses, id_when}

-- ---- the (k+1)th entry of a kind has the number k + 1
module _ {A : Type 0} where
  pub nth : (d x : A) (l m : List A) → at d (l ++ (x ∷ m)) (suc (length l)) ≡ x
  nth d x [] m = refl
  nth d x (y ∷ l) m = nth d x l m

  -- each number from 1 to how many there are names one
  pub names_one : (l : List A) (i : ℕ) → i < length l → (a : List A) × ((x : A) × ((b : List A) × ((l ≡ a ++ (x ∷ b)) × (length a ≡ i))))
  names_one [] i h = absurd (omega arith)
  names_one (x ∷ l) zero h = ([], (x, (l, (refl, refl))))
  names_one (x ∷ l) (suc i) h =
      let k = names_one l i (omega arith) in
      (x ∷ k.0, (k.1.0, (k.1.1.0, (ap (λ (m : List A). x ∷ m) k.1.1.1.0, ap suc k.1.1.1.1))))

  -- reading: the number i + 1 is the library's index i, and 0 is no number
  pub reads : (d : A) (l : List A) (i : ℕ) → at d l (suc i) ≡ get_or l i d
  reads d l i = refl

  pub reads_none : (d : A) (l : List A) → at d l 0 ≡ d
  reads_none d l = refl

  -- writing: the element with that number is the new one, every other stays, and there are as many
  pub writes_there : (d : A) (l : List A) (i : ℕ) (x : A) → i < length l → get_or (put l (suc i) x) i d ≡ x
  writes_there d l i x h = get_or-set_same l i x d h

  pub writes_nowhere_else : (d : A) (l : List A) (i j : ℕ) (x : A) → j ≢ i → get_or (put l (suc i) x) j d ≡ get_or l j d
  writes_nowhere_else d l i j x h = get_or-set_other l i j x d h

  pub writes_none : (l : List A) (x : A) → put l 0 x ≡ l
  writes_none l x = refl

  pub as_many : (l : List A) (n : ℕ) (x : A) → length (put l n x) ≡ length l
  as_many l n x = length_put l n x

  -- a claim about all elements is one about each, wherever it stands
  module _ (P : A → Type 0) where
    pub all_each : (l a b : List A) (x : A) → l ≡ a ++ (x ∷ b) → All P l → P x
    all_each l a b x e h = go a (subst (All P) e h)
      where
        go : (a : List A) → All P (a ++ (x ∷ b)) → P x
        go [] k = k.0
        go (y ∷ a) k = go a k.1

    pub each_all : (l : List A) → ((a b : List A) (x : A) → l ≡ a ++ (x ∷ b) → P x) → All P l
    each_all [] f = tt
    each_all (x ∷ l) f = (f [] l x refl, each_all l (λ a b y e. f (x ∷ a) b y (ap (λ (k : List A). x ∷ k) e)))

pub task_number : (s : State) (l m : List TaskEntry) (x : TaskEntry) → s.fixed.tasks ≡ l ++ (x ∷ m) → (domain_at s (suc (length l)) ≡ x.domain) × (priority_at s (suc (length l)) ≡ x.priority)
task_number s l m x h =
    let e : task_at s (suc (length l)) ≡ x = ap (λ (k : List TaskEntry). at no_task k (suc (length l))) h ∙ nth no_task x l m in
    (ap (λ (y : TaskEntry). y.domain) e, ap (λ (y : TaskEntry). y.priority) e)

pub sem_number : (s : State) (l m : List Sem) (x : Sem) → s.sems ≡ l ++ (x ∷ m) → sem_at s (suc (length l)) ≡ x
sem_number s l m x h = ap (λ (k : List Sem). at no_sem k (suc (length l))) h ∙ nth no_sem x l m

pub queue_number : (s : State) (l m : List Queue) (x : Queue) → s.queues ≡ l ++ (x ∷ m) → queue_at s (suc (length l)) ≡ x
queue_number s l m x h = ap (λ (k : List Queue). at no_queue k (suc (length l))) h ∙ nth no_queue x l m

-- ---- a number as the host gives it
pub as_given : (n : ℕ) → no (pos n) ≡ n
as_given n = refl

-- below 0 it is 0, which names nothing
pub below_0 : (k : ℕ) → no (negsuc k) ≡ 0
below_0 k = refl

-- "Number outside 1 to" the limit of its kind
pub in_range_lem : (most n : ℕ) → Tells (in_range most n) ((1 ≤ n) × (n ≤ most))
in_range_lem most n = iff_tells (λ h. (let z = h.0 in omega arith, h.1)) (λ h. ((λ e. let z = h.0 in omega arith), h.1)) (and_tells (not_tells (eq_tells n 0)) (le_tells n most))

-- what the program is asked for is the call on the object that it names
pub semaphore_asked : (n : ℤ) (c : SemaphoreCall) (v : Vector)
    → (op_of (Requests.Semaphore n (SemaphoreRequest.Own c)) ≡ on_semaphore n (own c))
    × ((op_of (Requests.Semaphore n SemaphoreRequest.Refer) ≡ on_semaphore n refer) × (op_of (Requests.Semaphore n (SemaphoreRequest.SetVector v)) ≡ on_semaphore n (set_vector v)))
semaphore_asked n c v = (refl, (refl, refl))

pub queue_asked : (n : ℤ) (c : QueueCall) (v : Vector)
    → (op_of (Requests.Queue n (QueueRequest.Own c)) ≡ on_queue n (own c))
    × ((op_of (Requests.Queue n QueueRequest.Refer) ≡ on_queue n refer) × (op_of (Requests.Queue n (QueueRequest.SetVector v)) ≡ on_queue n (set_vector v)))
queue_asked n c v = (refl, (refl, refl))

pub level_asked : (c : ExtendedCall) → op_of (Requests.Extended c) ≡ on_level c
level_asked c = refl

-- a number below 0 names no object
pub no_such_object : (s : State) (t : ℤ) (op : Op) (k : ℕ) → Ready s (no t) → (named s op).number ≡ negsuc k → (step s (call t op)).answer ≡ refuses e_id
no_such_object s t op k r h = id_when s t op (go op h) r (λ i. i.0 (ap no h))
  where
    go : (op : Op) → (named s op).number ≡ negsuc k → OnObject op
    go (on_semaphore n a) e = tt
    go (on_queue n a) e = tt
    go (on_level c) e = absurd (let z : ◌≡◌ {A = ℕ} 0 1 = cc in omega arith)

-- what counts as a refer (is_refer) is one: no own call and no set-vector does
pub refers_only : {C R : Type 0} (r : Room C R) (n : ℤ) (a : Act C) → (on_object r n a).is_refer ≡ true → a ≡ refer
refers_only r n a h = is_refer_lem a h

-- ---- two places are the same exactly when they are equal
pub same_place_lem : (p r : Place) → Tells (same_place p r) (p ≡ r)
same_place_lem p r = record { yes = λ h. sym (place_of p r h); no = λ h e. no_both (ap (same_place p) (sym e) ∙ alike p) h }

-- ---- the wait queue of a place has those of the waiting tasks that wait there, all of them, first to last
pub data Queued (p : Place) : List Waiter → List Waiter → Type 0 where
  end : Queued p [] []
  here : (e : Waiter) (l q : List Waiter) → e.place ≡ p → Queued p l q → Queued p (e ∷ l) (e ∷ q)
  elsewhere : (e : Waiter) (l q : List Waiter) → e.place ≢ p → Queued p l q → Queued p (e ∷ l) q

pub queued : (p : Place) (l : List Waiter) → Queued p l (waiters_in l p)
queued p [] = end
queued p (e ∷ l) = go (stands_at p e) refl (queued p l)
  where
    go : (b : Bool) → stands_at p e ≡ b → Queued p l (waiters_in l p) → Queued p (e ∷ l) (cons_if b e (waiters_in l p))
    go true h i = here e l (waiters_in l p) (place_of p e.place h) i
    go false h i = elsewhere e l (waiters_in l p) (λ q. no_both (ap (same_place p) q ∙ alike p) h) i

pub arrivals : (s : State) (p : Place) → Queued p s.waits (waiters_at s p)
arrivals s p = queued p s.waits
