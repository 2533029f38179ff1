-- How a call on an object of any room ends, from what the functions on the tasks give. Assumes nothing.
use Prim.Native.Nat.{ℕ}
use mathlib.Core.Path.{◌≡◌, refl, sym, ◌∙◌}
use mathlib.Core.Bool.{Bool}
use mathlib.Core.List.{List, [], ◌∷◌}
use Rattle.itron.specs.Codes.{ok, ok_number, number_of}
use Rattle.itron.specs.declared.error.Error.{Error as Refusal}
use Rattle.model.specs.State.{TaskEntry, Waiter, Place}
use Rattle.model.specs.Answers.{Effect, effect, no_info, say, tells, plain, reply_of}
use Rattle.model.specs.Waits.{leave, refusal, wakes, or_waits, gives}
use Rattle.model.specs.declared.Info.{Info}
use Rattle.model.specs.declared.Reply.{Reply}
use Rattle.model.specs.declared.Patience.{Patience}
use Rattle.model.specs.declared.Patience.TheVariants.{Polling, Forever}
use Rattle.tasks.specs.declared.state.Tasks.{Tasks}
use Rattle.tasks.specs.declared.wait.Ended.{Ended}
use Rattle.tasks.specs.View.{entries_of, waits_of}
use Rattle.tasks.specs.Form.{tasks_as}
use Rattle.tasks.specs.Held.{Held}
use Rattle.tasks.specs.Ends.{ended_of, woken_of}
use Rattle.tasks.proofs.Firsts.{Waits}

-- any part P that is the form of the records R, and any way to put it beside a reply, what a refer tells, and the tasks
module _ {R P E : Type 0} (form : List R → P) (made : Reply → Info → Tasks → P → E) where
  abbrev effect_by : List TaskEntry → Effect R → E
  effect_by es e = made (reply_of e.answer) e.answer.info (tasks_as es e.waits) (form e.records)

  abbrev beside : Ended → P → E
  beside e q = made e.reply no_info e.tasks q

  module _ {ts : Tasks} (h : Held ts) {q : P} {xs : List R} (f : q ≡ form xs) where
    -- the tasks stay as they are
    same_tasks : (r : Reply) (i : Info) → made r i ts q ≡ made r i (tasks_as (entries_of ts) (waits_of ts)) (form xs)
    same_tasks r i = let g = h.form in λ j. made r i (g j) (f j)

    pub gives_by : (w : ℕ) → made (reply_of (say ok w [])) no_info ts q ≡ effect_by (entries_of ts) (gives (waits_of ts) xs w)
    gives_by w = same_tasks (reply_of (say ok w [])) no_info

    pub refuses_by : (e : Refusal) → made (plain (number_of e) 0) no_info ts q ≡ effect_by (entries_of ts) (refusal (waits_of ts) xs e)
    refuses_by e = same_tasks (plain (number_of e) 0) no_info

    pub tells_by : (i : Info) → made (plain ok_number 0) i ts q ≡ effect_by (entries_of ts) (effect (tells i) (waits_of ts) xs)
    tells_by i = same_tasks (plain ok_number 0) i

    -- the first at a place is released
    pub wakes_by : {b : Bool} {p : Place} {i w : ℕ} (y : Waits ts b p i w) (word handed : ℕ) (e : Ended) → e ≡ woken_of (entries_of ts) (waits_of ts) i word handed
        → beside e q ≡ effect_by (entries_of ts) (wakes (waits_of ts) xs y.entry word handed)
    wakes_by y word handed e r =
        let n = sym y.task in
        (λ j. beside (r j) (f j)) ∙ (λ j. made (reply_of (say ok word (record { task = n j; word = handed } ∷ []))) no_info (tasks_as (entries_of ts) (leave (n j) (waits_of ts))) (form xs))

    -- the caller waits, if it has the patience
    pub waits_by : (p : Patience) (x : Waiter) (e : Ended) → e ≡ ended_of (entries_of ts) (or_waits {R = ℕ} (waits_of ts) [] p x) → beside e q ≡ effect_by (entries_of ts) (or_waits (waits_of ts) xs p x)
    waits_by p x e r = (λ j. beside (r j) (f j)) ∙ by_patience p
      where
        by_patience : (p : Patience) → beside (ended_of (entries_of ts) (or_waits {R = ℕ} (waits_of ts) [] p x)) (form xs) ≡ effect_by (entries_of ts) (or_waits (waits_of ts) xs p x)
        by_patience Polling = refl
        by_patience Forever = refl
