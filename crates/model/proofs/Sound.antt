-- The condition that all states have in common is kept by every call
use mathlib.Core.Path.{◌≡◌, sym, ap, ◌∙◌, subst}
use mathlib.Core.Bool.{false}
use mathlib.Core.List.{List, [], ◌∷◌}
use Prim.Native.Nat.{ℕ, ◌≤◌}
use Rattle.itron.specs.declared.error.Error.TheVariants.{Ctx as e_ctx}
use Rattle.model.specs.Lists.{All}
use Rattle.model.specs.State.{Side, on_sem, receiving, sending, Waiter, Fixed, State, no_levels, set_fixed, no}
use Rattle.model.specs.Answers.{Out, refuse}
use Rattle.model.specs.Waits.{is_other}
use Rattle.model.specs.Rooms.{Asks}
use Rattle.model.specs.Calls.{Call, asks, act_if, step}
use Rattle.model.specs.Conditions.{WaitsFit, RegionsFit, Fit, EntriesFit, side_count, Registered, UnitFits, NoWords, Sound}
use Rattle.model.proofs.Lists.{all_keep, all_snoc}
use Rattle.model.proofs.Fits.{waits_leave, waits_join}
use Rattle.model.proofs.LevelClaims.{levels_step}
use Rattle.model.proofs.SemaphoreClaims as Semaphores
use Rattle.model.proofs.QueueClaims as Queues
use Rattle.model.proofs.Cover.{Endings, lawful, ends}
use Rattle.model.proofs.Steps.{fixed_law}

-- ---- the limits
abbrev WaitsLaw : State → ℕ → Asks → Out → Type 0
WaitsLaw s t x o = WaitsFit s.fixed.tasks o.state.waits

waits_ends : (s : State) → WaitsFit s.fixed.tasks s.waits → Endings s (WaitsLaw s)
waits_ends s f = record {
  refused = λ t x e o. f;
  tells = λ t x r o. f;
  gives = λ t x s' w k v. rw k.waits f;
  wakes = λ t x s' p e l w h k v g. rw k.waits (waits_leave f e.task);
  waits = λ t x e h c z p b v. waits_join f e (rw z c.free) (rw z (c.caller, c.known)) p.0;
}

pub fit_step : (s : State) (c : Call) → Fit s → Fit (step s c).state
fit_step s c f = record {
  waits = subst (λ (x : Fixed). WaitsFit x.tasks (step s c).state.waits) (sym (fixed_law s c)) (ends s (WaitsLaw s) (waits_ends s f.waits) c);
  levels = levels_step s f.levels c;
  sems = rw (Semaphores.entries_law s c).1 f.sems;
  queues = Queues.queues_step s f.queues c;
  regions = subst (λ (x : Fixed). RegionsFit x.regions) (sym (fixed_law s c)) f.regions;
}

-- ---- the entries
entries_step : (s : State) (c : Call) → EntriesFit s → EntriesFit (step s c).state
entries_step s c f = subst (λ (x : Fixed). EntriesFit (set_fixed (step s c).state x)) (sym (fixed_law s c)) (record {
  domains = f.domains;
  tasks = f.tasks;
  sems = Semaphores.entries_step s s.fixed.count f.sems c;
  queues = Queues.entries_step s s.fixed.count f.queues c;
  regions = f.regions;
})

-- ---- who waits, waits at a registered object
abbrev RegisteredLaw : State → ℕ → Asks → Out → Type 0
RegisteredLaw s t x o = All (Registered s) o.state.waits

registered_ends : (s : State) → All (Registered s) s.waits → Endings s (RegisteredLaw s)
registered_ends s f = record {
  refused = λ t x e o. f;
  tells = λ t x r o. f;
  gives = λ t x s' w k v. rw k.waits f;
  wakes = λ t x s' p e l w h k v g. rw k.waits (all_keep (Registered s) (is_other e.task) s.waits f);
  waits = λ t x e h c z p b v. all_snoc (Registered s) s.waits e f p.1;
}

-- a call registers no object and removes none
side_count_lem : (s : State) (c : Call) (d : Side) → side_count (step s c).state d ≡ side_count s d
side_count_lem s c on_sem = (Semaphores.entries_law s c).1
side_count_lem s c receiving = (Queues.entries_law s c).1
side_count_lem s c sending = (Queues.entries_law s c).1

registered_step : (s : State) (c : Call) → All (Registered s) s.waits → All (Registered (step s c).state) (step s c).state.waits
registered_step s c f = go (step s c).state.waits (ends s (RegisteredLaw s) (registered_ends s f) c)
  where
    go : (l : List Waiter) → All (Registered s) l → All (Registered (step s c).state) l
    go [] h = tt
    go (e ∷ l) h = (subst (λ (n : ℕ). e.place.number ≤ n) (sym (side_count_lem s c e.place.side)) h.0, go l h.1)

-- ---- an open table answers no call
pub open_refuses : (s : State) (c : Call) → s.fixed.closed ≡ false → step s c ≡ refuse s e_ctx
unfolding step
open_refuses s c h = ap (act_if s (no c.caller) (asks c.op)) ((lawful c.op).closed_first s (no c.caller) h)

-- what an open table has it keeps
still_open : (s : State) (c : Call) (P : State → Type 0) → (s.fixed.closed ≡ false → P s) → (step s c).state.fixed.closed ≡ false → P (step s c).state
still_open s c P f h =
    let o : s.fixed.closed ≡ false = ap (λ (x : Fixed). x.closed) (sym (fixed_law s c)) ∙ h in
    subst (λ (x : Out). P x.state) (sym (open_refuses s c o)) (f o)

pub sound_step : (s : State) (c : Call) → Sound s → Sound (step s c).state
sound_step s c k = record {
  fit = fit_step s c k.fit;
  entries = entries_step s c k.entries;
  registered = registered_step s c k.registered;
  within = Semaphores.within_step s k.within c;
  spent = λ i. Semaphores.spent_step s k.fit.waits.distinct k.spent i c;
  fine = λ q. Queues.fine_law s k.fit.waits.distinct q (k.fine q) c;
  unit = subst UnitFits (sym (fixed_law s c)) k.unit;
  quiet = still_open s c (λ (x : State). x.waits ≡ []) k.quiet;
  empty = still_open s c (λ (x : State). All NoWords x.queues) k.empty;
  outside = still_open s c (λ (x : State). x.levels ≡ no_levels x.fixed.tasks) k.outside;
}
