-- Building the table: fresh, the entries' checks and effects, closing. Assumes nothing.
use Prim.Native.Nat.{ℕ, zero, suc, ◌+◌, ◌≤◌, ◌<◌}
use native.Mathlib.Omega.{arith}
use mathlib.Core.Path.{◌≡◌, refl, sym, ap, ◌∙◌}
use mathlib.Core.Bool.{Bool, true, false, cond, not, ◌&&◌, ◌||◌, and-true, and-false}
use mathlib.Core.Option.{Option, none, some}
use lib.Dec.{eqb, leb, ltb}
use lib.IntN.{ℤ, pos, negsuc}
use lib.ListN.{length}
use borrow.Author.Tests.{ltb-true, leb-true, ne_eqb}
use Rattle.access.specs.Domains.{ordinal_of}
use Rattle.access.specs.Vectors.{Choice}
use Rattle.std.specs.Prelude.{Result, Err as Refused, is_err}
use Rattle.itron.specs.Codes.{number_of, ok_number, code_of}
use Rattle.itron.specs.declared.error.Error.{Error as Refusal}
use Rattle.itron.specs.declared.error.Error.TheVariants.{Par as e_par, Id as e_id, Ctx as e_ctx, Noid as e_noid}
use Rattle.itron.specs.Limits.{max_domains, max_tasks, max_words, min_unit}
use Rattle.model.specs.State as Model
use Rattle.model.specs.Answers.{refuse_if}
use Rattle.model.specs.Checks.{passed}
use Rattle.model.proofs.Passed.{passed_some}
use Rattle.model.specs.Queues.{words_used}
use Rattle.model.specs.Units.{unit_ok}
use Rattle.model.specs.Regions.{judge}
use Rattle.model.specs.Verdict.{verdict}
use Rattle.model.proofs.Lists.{and_left, no_both}
use Rattle.model.proofs.Table.{taken}
use Rattle.model.specs.Conditions.{TaskOwner, TaskEntryFits}
use Rattle.model.proofs.Entries.{told}
use Rattle.model.specs.Table.{Entry, task, queue, owns, owns_task, tests_of, check_entry, new_task, add, enter_by, enter, empty_state, fresh, close_by, close}
use Rattle.kernel.specs.declared.state.State.{State}
use Rattle.kernel.specs.declared.state.Entered.{Entered}
use Rattle.kernel.specs.View.{view_of}
use Rattle.kernel.specs.Form.{state_of}
use Rattle.kernel.specs.Valid.{Valid}
use Rattle.kernel.specs.Answers.{entered, entered_of}
use Rattle.kernel.specs.Inside.{shut}
use Rattle.kernel.specs.Promises.{Enters}
use Rattle.kernel.proofs.Back.{enters_entry}

-- ---- steps 1 to 3 of an entry's checks, then its own
module _ (c r d : Bool) (own : Option Refusal) where
  abbrev then_own : Option Refusal → Option Refusal
  then_own o = refuse_if c e_ctx (refuse_if r e_noid (refuse_if d e_id o))

  pub opening_refuses : {e : Refusal} → then_own none ≡ some e → then_own own ≡ some e
  opening_refuses {e} h = go c r d h
    where
      go : (c r d : Bool) → refuse_if c e_ctx (refuse_if r e_noid (refuse_if d e_id none)) ≡ some e → refuse_if c e_ctx (refuse_if r e_noid (refuse_if d e_id own)) ≡ some e
      go true r d h = h
      go false true d h = h
      go false false true h = h
      go false false false h = absurd (let z : ◌≡◌ {A = ℕ} 0 1 = cc in omega arith)

  pub opening_passes : then_own none ≡ none → own ≡ then_own own
  opening_passes h = go c r d h
    where
      go : (c r d : Bool) → refuse_if c e_ctx (refuse_if r e_noid (refuse_if d e_id none)) ≡ none → own ≡ refuse_if c e_ctx (refuse_if r e_noid (refuse_if d e_id own))
      go true r d h = absurd (let z : ◌≡◌ {A = ℕ} 0 1 = cc in omega arith)
      go false true d h = absurd (let z : ◌≡◌ {A = ℕ} 0 1 = cc in omega arith)
      go false false true h = absurd (let z : ◌≡◌ {A = ℕ} 0 1 = cc in omega arith)
      go false false false h = refl

-- ---- domains
pub owns_kernel : (n : ℕ) (z : ℤ) → z ≡ negsuc 0 → true ≡ owns_task n z
owns_kernel n z h = rw h

pub owns_user : (n : ℕ) (z : ℤ) → (z ≡ negsuc 0 → ⊥) → not (eqb (ordinal_of z n) 0) ≡ owns_task n z
unfolding ordinal_of
owns_user n (negsuc zero) h = absurd (h refl)
owns_user n (negsuc (suc k)) h = refl
owns_user n (pos k) h = go (leb k n)
  where
    go : (b : Bool) → not (eqb (cond b k 0) 0) ≡ not (eqb k 0) && b
    go true = sym (and-true (not (eqb k 0)))
    go false = sym (and-false (not (eqb k 0)))

pub owns_none : (n : ℕ) (z : ℤ) → z ≡ negsuc 1 → true ≡ owns n z
owns_none n z h = rw h

pub owns_other : (n : ℕ) (z : ℤ) → (z ≡ negsuc 1 → ⊥) → owns_task n z ≡ owns n z
owns_other n (pos k) h = refl
owns_other n (negsuc zero) h = refl
owns_other n (negsuc (suc zero)) h = absurd (h refl)
owns_other n (negsuc (suc (suc k))) h = refl

-- ---- fresh
-- n is from 0 to 32 if it is 0 or the number of a user domain
abbrev pub counted : ℤ → Bool
counted (pos n) = leb n max_domains
counted (negsuc k) = false

counted_user : (z : ℤ) → (z ≡ pos 0 → ⊥) → not (eqb (ordinal_of z max_domains) 0) ≡ counted z
unfolding ordinal_of
counted_user (negsuc k) h = refl
counted_user (pos zero) h = absurd (h refl)
counted_user (pos (suc k)) h = go (leb (suc k) max_domains)
  where
    go : (b : Bool) → not (eqb (cond b (suc k) 0) 0) ≡ b
    go true = ap not (ne_eqb (suc k) 0 (λ e. omega arith))
    go false = refl

pub counted_by : (z : ℤ) (b : Bool) → (b ≡ true → z ≡ pos 0) → (b ≡ false → z ≡ pos 0 → ⊥) → b || not (eqb (ordinal_of z max_domains) 0) ≡ counted z
counted_by z true f g = rw (f refl)
counted_by z false f g = counted_user z (g refl)

pub fresh_refused : (z : ℤ) (unit : ℕ) → counted z && unit_ok unit ≡ false → entered (number_of e_par) (state_of (empty_state 0 min_unit)) ≡ entered_of (fresh z unit)
unfolding fresh
fresh_refused (pos n) unit h = rw h
fresh_refused (negsuc k) unit h = refl

pub fresh_taken : (z : ℤ) (unit : ℕ) → counted z && unit_ok unit ≡ true → entered ok_number (state_of (empty_state (ordinal_of z max_domains) unit)) ≡ entered_of (fresh z unit)
unfolding fresh ordinal_of
fresh_taken (pos n) unit h = rw (h, and_left (leb n max_domains) (unit_ok unit) h)
fresh_taken (negsuc k) unit h = absurd (no_both h refl)

-- ---- entries and closing
module _ {s : State} (v : Valid s) where
  -- an entry that its checks refuse, and one that they take: x is the state with what was entered
  pub refuses_entry : (i : Entry) {k : Result Unit Refusal} → k ≡ passed (check_entry (view_of s) i) → is_err k ≡ true → {r : Entered} → r ≡ entered (code_of k) s → Enters s (enter (view_of s) i) r
  unfolding enter
  refuses_entry i {k} h f q =
      let x = passed_some (check_entry (view_of s) i) h f in
      let o = x.1 in
      let form = v.form in
      enters_entry v i (q ∙ (λ j. entered (code_of ((h ∙ ap passed o) j)) (form j)) ∙ ap (λ (o : Option Refusal). entered_of (enter_by (view_of s) i o)) (sym o))

  pub takes_entry : (i : Entry) → check_entry (view_of s) i ≡ none → {x : State} → x ≡ state_of (add (view_of s) i) → {r : Entered} → r ≡ entered ok_number x → Enters s (enter (view_of s) i) r
  unfolding enter
  takes_entry i h e q = enters_entry v i (q ∙ ap (entered ok_number) e ∙ ap (λ (o : Option Refusal). entered_of (enter_by (view_of s) i o)) (sym h))

  pub close_again : s.closed ≡ true → entered (number_of e_ctx) s ≡ entered_of (close (view_of s))
  unfolding close
  close_again h = ap (entered (number_of e_ctx)) v.form ∙ ap (λ (b : Bool). entered_of (close_by b (view_of s))) (sym h)

  pub close_once : s.closed ≡ false → entered ok_number (shut s) ≡ entered_of (close (view_of s))
  unfolding close
  close_once h = ap (λ (x : State). entered ok_number (shut x)) v.form ∙ ap (λ (b : Bool). entered_of (close_by b (view_of s))) (sym h)

-- ---- what a taken entry has passed: its kind had room; a task's table is open, its domain is one of n and its priority is one; a queue's words are within their limit
module _ (m : Model.State) where
  pub task_room : (d : ℤ) (p : ℕ) → check_entry m (task d p) ≡ none → (length m.fixed.tasks < max_tasks) × (m.fixed.closed ≡ false)
  task_room d p h = let t = taken m (task d p) h in (ltb-true (length m.fixed.tasks) max_tasks t.room, t.opened)

  pub task_fits : m.fixed.count ≤ max_domains → (d : ℤ) (p : ℕ) → check_entry m (task d p) ≡ none → TaskEntryFits max_domains (new_task d p)
  task_fits c d p h =
      let t = taken m (task d p) h in
      let g = told m (task d p) in
      let n = g.numbers.yes t.numbers in
      (wider d (g.owned.yes t.owner), n.0, n.1)
    where
      wider : (d : ℤ) → TaskOwner m.fixed.count d → TaskOwner max_domains d
      wider (pos k) o = (o.0, omega (arith, o.1, c))
      wider (negsuc zero) o = o
      wider (negsuc (suc k)) o = o

  pub room_of : (i : Entry) (used most : ℕ) → (tests_of m i).has_room ≡ ltb used most → check_entry m i ≡ none → used < most
  room_of i used most e h = ltb-true used most (sym e ∙ (taken m i h).room)

  pub words_of_lem : (d : ℤ) (a n : ℕ) (c : Choice) → check_entry m (queue d a n c) ≡ none → words_used m.queues + n ≤ max_words
  words_of_lem d a n c h = leb-true (words_used m.queues + n) max_words (taken m (queue d a n c) h).memory

-- ---- the verdict's first checks
module _ (s : State) (d : ℤ) (base size w : ℕ) where
  pub verdict_ctx : s.closed ≡ false → Refused e_ctx ≡ passed (verdict (view_of s) d base size w)
  unfolding verdict
  verdict_ctx h = rw h

  pub verdict_id : s.closed ≡ true → owns_task s.domains d ≡ false → Refused e_id ≡ passed (verdict (view_of s) d base size w)
  unfolding verdict
  verdict_id h o = rw (h, o)

  pub verdict_judged : s.closed ≡ true → owns_task s.domains d ≡ true → passed (judge (view_of s).fixed.regions d base size w) ≡ passed (verdict (view_of s) d base size w)
  unfolding verdict
  verdict_judged h o = rw (h, o)
