-- What one call does, whatever it asks of whom: to the waiting tasks, to what is fixed, and what a refusal and an answer that is no refer's leave out
use mathlib.Core.Path.{◌≡◌, refl, sym, ap, ◌∙◌}
use mathlib.Core.Bool.{Bool, true, false}
use mathlib.Core.List.{List, [], ◌∷◌, ◌++◌, append-nil}
use Prim.Native.Nat.{ℕ}
use Rattle.itron.specs.Codes.{Code, ok, waiting, error}
use Rattle.itron.specs.declared.error.Error.{Error as Refusal}
use Rattle.model.specs.State.{Waiter, State}
use Rattle.model.specs.Answers.{no_info, Out, when_waiting}
use Rattle.model.specs.Waits.{is_other}
use Rattle.model.specs.Rooms.{Asks}
use Rattle.model.specs.Calls.{Call, asks, step}
use Rattle.model.specs.History.{event, after, history, joined, without, pending}
use Rattle.model.proofs.Lists.{no_both, Distinct, distinct_keep, distinct_snoc}
use Rattle.model.proofs.Cover.{Endings, ends}

-- ---- the waiting tasks
abbrev WaitLaw : State → ℕ → Asks → Out → Type 0
WaitLaw s t x o = o.state.waits ≡ without o.answer.released s.waits ++ when_waiting [] (x.begins t) o.answer.code

wait_ends : (s : State) → Endings s (WaitLaw s)
wait_ends s = record {
  refused = λ t x e o. sym (append-nil _);
  tells = λ t x r o. sym (append-nil _);
  gives = λ t x s' w k v. k.waits ∙ sym (append-nil _);
  wakes = λ t x s' p e l w h k v f. k.waits ∙ sym (append-nil _);
  waits = λ t x e h c z p b v. ap (λ (l : List Waiter). s.waits ++ l) (sym b);
}

pub wait_law : (s : State) (c : Call) → (step s c).state.waits ≡ without (event s c).answer.released s.waits ++ joined (event s c)
wait_law s c = ends s (WaitLaw s) (wait_ends s) c

-- each task waits once
abbrev DistinctLaw : ℕ → Asks → Out → Type 0
DistinctLaw t x o = Distinct o.state.waits

distinct_ends : (s : State) → Distinct s.waits → Endings s DistinctLaw
distinct_ends s d = record {
  refused = λ t x e o. d;
  tells = λ t x r o. d;
  gives = λ t x s' w k v. rw k.waits d;
  wakes = λ t x s' p e l w h k v f. rw k.waits (distinct_keep (is_other e.task) s.waits d);
  waits = λ t x e h c z p b v. distinct_snoc s.waits e d (rw z c.free);
}

pub distinct_law : (s : State) → Distinct s.waits → (c : Call) → Distinct (step s c).state.waits
distinct_law s d c = ends s DistinctLaw (distinct_ends s d) c

-- ---- what is fixed
abbrev FixedLaw : State → ℕ → Asks → Out → Type 0
FixedLaw s t x o = o.state.fixed ≡ s.fixed

pub fixed_law : (s : State) (c : Call) → (step s c).state.fixed ≡ s.fixed
fixed_law s c = ends s (FixedLaw s) (record {
  refused = λ t x e o. refl;
  tells = λ t x r o. refl;
  gives = λ t x s' w k v. k.fixed;
  wakes = λ t x s' p e l w h k v f. k.fixed;
  waits = λ t x e h c z p b v. refl;
}) c

-- ---- a refusal changes nothing
abbrev KeptLaw : State → ℕ → Asks → Out → Type 0
KeptLaw s t x o = (e : Refusal) → o.answer.code ≡ error e → o.state ≡ s

abbrev is_error : Code → Bool
is_error ok = false
is_error waiting = false
is_error (error e) = true

unlike_code : {X : Type 0} {c : Code} {e : Refusal} → is_error c ≡ false → c ≡ error e → X
unlike_code {e} h q = absurd (no_both {b = is_error (error e)} refl (ap is_error (sym q) ∙ h))

kept_ends : (s : State) → Endings s (KeptLaw s)
kept_ends s = record {
  refused = λ t x e o y q. refl;
  tells = λ t x r o y q. refl;
  gives = λ t x s' w k v y q. unlike_code refl q;
  wakes = λ t x s' p e l w h k v f y q. unlike_code refl q;
  waits = λ t x e h c z p b v y q. unlike_code refl q;
}

pub kept_law : (s : State) (c : Call) (e : Refusal) → (step s c).answer.code ≡ error e → (step s c).state ≡ s
kept_law s c = ends s (KeptLaw s) (kept_ends s) c

-- ---- only a refer tells numbers
abbrev InfoLaw : ℕ → Asks → Out → Type 0
InfoLaw t x o = x.is_refer ≡ false → o.answer.info ≡ no_info

info_ends : (s : State) → Endings s InfoLaw
info_ends s = record {
  refused = λ t x e o z. refl;
  tells = λ t x r o z. absurd (no_both r z);
  gives = λ t x s' w k v z. refl;
  wakes = λ t x s' p e l w h k v f z. refl;
  waits = λ t x e h c y p b v z. refl;
}

pub info_law : (s : State) (c : Call) → (asks c.op).is_refer ≡ false → (step s c).answer.info ≡ no_info
info_law s c = ends s InfoLaw (info_ends s) c

-- ---- after a list of calls
pub distinct_after : (s : State) → Distinct s.waits → (cs : List Call) → Distinct (after s cs).waits
unfolding after
distinct_after s d [] = d
distinct_after s d (c ∷ cs) = distinct_law (after s cs) (distinct_after s d cs) c

-- all who wait are those whose call answered "waiting" and whose release no later answer shows
pub waiters_are_lem : (s₀ : State) → s₀.waits ≡ [] → (cs : List Call) → (after s₀ cs).waits ≡ pending (history s₀ cs)
unfolding after history
waiters_are_lem s₀ j [] = j
waiters_are_lem s₀ j (c ∷ cs) = wait_law (after s₀ cs) c ∙ ap (λ (l : List Waiter). without (event (after s₀ cs) c).answer.released l ++ joined (event (after s₀ cs) c)) (waiters_are_lem s₀ j cs)
