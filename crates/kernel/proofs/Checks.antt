-- The checks of every call, as the program makes them and as the rules order them. Assumes nothing.
use Prim.Native.Nat.{ℕ, zero, suc, ◌<◌}
use native.Mathlib.Omega.{arith}
use mathlib.Core.Path.{◌≡◌, refl, sym, ap, ◌∙◌}
use mathlib.Core.Logic.{◌≢◌}
use mathlib.Core.Bool.{Bool, true, false, cond, not, ◌&&◌}
use mathlib.Core.Option.{Option, none, some}
use mathlib.Core.List.{[], ◌∷◌}
use lib.Dec.{leb}
use lib.IntN.{ℤ}
use lib.ListN.{length}
use types.Run.{OneOf}
use denote.Enum.Declared.{tag_of}
use Rattle.access.specs.Domains.{running_of}
use Rattle.access.specs.Vectors.{pattern_of}
use Rattle.itron.specs.declared.error.Error.{Error as Refusal}
use Rattle.itron.specs.declared.error.Error.TheVariants.{Sys as e_sys, Rsatr as e_rsatr, Par as e_par, Id as e_id, Ctx as e_ctx, Macv as e_macv, Oacv as e_oacv, Iluse as e_iluse, Nomem as e_nomem, Noid as e_noid, Obj as e_obj, Noexs as e_noexs, Qovr as e_qovr, Tmout as e_tmout}
use Rattle.itron.specs.contracts.error.Error.{the_type as error_type}
use Rattle.model.specs.Lists.{index}
use Rattle.model.specs.State as Model
use Rattle.model.specs.State.{domain_at, level_at, running_at, no}
use Rattle.model.specs.Answers.{refuse_if}
use Rattle.model.specs.Acts.{Act, operation_of, clear}
use Rattle.model.specs.Rooms.{Room, ready, in_range, admits, vector_at, slots_of, check}
use Rattle.model.specs.Checks.{target_in, checked}
use Rattle.model.specs.Waits.{absent}
use Rattle.model.proofs.Lists.{and_right, no_both, both}
use Rattle.model.proofs.Rooms.{calls_of, passed}
use Rattle.std.specs.Prelude.{Option as Optional, Some, None, Result, Ok, Err as Refused, unwrap_or}
use Rattle.model.specs.declared.check.Admitted.{Admitted}
use Rattle.model.specs.declared.check.Target.{Target}
use Rattle.tasks.specs.declared.wait.Caller.{Caller}
use Rattle.tasks.specs.Held.{Free, Passed}
use Rattle.kernel.specs.declared.state.State.{State}
use Rattle.kernel.specs.View.{view_of}
use Rattle.kernel.specs.Inside.{caller_in, checked_by, check_of, coded}

-- who calls, and what is admitted, in the program's words
abbrev pub calls_as : ℕ → ℤ → Optional Caller
calls_as t d = Some (record { task = t; domain = d })

abbrev pub admits_as : ℕ → ℕ → Result Admitted Refusal
admits_as t n = Ok (record { task = t; object = n })

calls_same : {t u : ℕ} {d e : ℤ} → calls_as t d ≡ calls_as u e → (t ≡ u) × (d ≡ e)
calls_same {t} {u} {d} {e} h =
    let f : Optional Caller → Caller = λ o. unwrap_or o (record { task = t; domain = d }) in
    (ap (λ o. (f o).task) h, ap (λ o. (f o).domain) h)

-- a refusal that has the tag of E_NOEXS, and a target that it refuses
is_noexs : (e : Refusal) → OneOf (11 ∷ []) (tag_of error_type e) → e ≡ e_noexs
is_noexs e_sys t = absurd (omega arith)
is_noexs e_rsatr t = absurd (omega arith)
is_noexs e_par t = absurd (omega arith)
is_noexs e_id t = absurd (omega arith)
is_noexs e_ctx t = absurd (omega arith)
is_noexs e_macv t = absurd (omega arith)
is_noexs e_oacv t = absurd (omega arith)
is_noexs e_iluse t = absurd (omega arith)
is_noexs e_nomem t = absurd (omega arith)
is_noexs e_noid t = absurd (omega arith)
is_noexs e_obj t = absurd (omega arith)
is_noexs e_noexs t = refl
is_noexs e_qovr t = absurd (omega arith)
is_noexs e_tmout t = absurd (omega arith)

pub is_missing : (x : Result Target Refusal) (e : Refusal) → x ≡ Refused e → OneOf (11 ∷ []) (tag_of error_type e) → x ≡ Refused e_noexs
is_missing x e h t = h ∙ ap (λ (d : Refusal). Refused d) (is_noexs e t)

-- ---- who calls, which object, and whether the caller may: the checks of a call that must meet nothing besides
module _ {C R : Type 0} (r : Room C R) (m : Model.State) (t n : ℕ) (a : Act C) where
  abbrev may : Bool
  may = admits (running_at m t) (pattern_of (vector_at r m n) (operation_of r.operation a))

  by_may : (b : Bool) → cond b (admits_as (index t) (index n)) (Refused e_oacv) ≡ checked (refuse_if (not b) e_oacv none) t n
  by_may true = refl
  by_may false = refl

  by_tests : (ready here there : Bool)
      → checked_by (cond ready (calls_as (index t) (running_at m t)) None) (operation_of r.operation a) (cond here (cond there (Ok (record { object = index n; vector = vector_at r m n })) (Refused e_noexs)) (Refused e_id))
      ≡ checked (refuse_if (not ready) e_ctx (refuse_if (not here) e_id (refuse_if (not there) e_noexs (refuse_if (not may) e_oacv none)))) t n
  by_tests false here there = refl
  by_tests true false there = refl
  by_tests true true false = refl
  by_tests true true true = by_may may

  pub check_is : slots_of r m n a ≡ clear → checked_by (caller_in m t) (operation_of r.operation a) (target_in r (r.records m) n) ≡ checked (check r m t n a) t n
  unfolding check
  check_is h =
      let g = sym h in
      by_tests (m.fixed.closed && ready m t) (in_range r.most n) (leb n (length (r.records m)))
      ∙ (λ i.
      checked
      (refuse_if (not (m.fixed.closed && ready m t)) e_ctx
      (refuse_if (not (in_range r.most n)) e_id
      (refuse_if (not (g i).arguments) e_par
      (refuse_if (not (leb n (length (r.records m)))) e_noexs (refuse_if (not (g i).numbers) e_par (refuse_if (not may) e_oacv (g i).misuse))))))
      t
      n)

-- a number from 1 on is one more than its index
number : (k : ℕ) → k ≢ 0 → k ≡ suc (index k)
number zero h = absurd (h refl)
number (suc k) h = refl

-- ---- who calls: from the tasks' answer, as the domain that it belongs to, to the domain as which it runs
module _ (m : Model.State) (t : ℕ) where
  -- the task that calls
  pub record Called (task : ℕ) : Type 0 where
    pub may : m.fixed.closed && ready m t ≡ true
    pub names : t ≡ suc task
    pub low : task < length m.fixed.tasks

  called_by : (task : ℕ) → m.fixed.closed && ready m t ≡ true → index t ≡ task → Called task
  called_by task h i =
      let k = calls_of m t (and_right m.fixed.closed (ready m t) h) in
      let e : t ≡ suc task = number t k.caller ∙ ap suc i in
      let l = k.known in
      record { may = h; names = e; low = omega arith }

  pub called : (task : ℕ) {d : ℤ} → caller_in m t ≡ calls_as task d → Called task
  called task {d} h = go (m.fixed.closed && ready m t) refl h
    where
      go : (b : Bool) → m.fixed.closed && ready m t ≡ b → cond b (calls_as (index t) (running_at m t)) None ≡ calls_as task d → Called task
      go true e q = called_by task e (calls_same q).0
      go false e q = absurd (let z : ◌≡◌ {A = ℕ} 0 1 = cc in omega arith)

  pub uncalled : caller_in m t ≡ None → m.fixed.closed && ready m t ≡ false
  uncalled h = go (m.fixed.closed && ready m t) refl h
    where
      go : (b : Bool) → m.fixed.closed && ready m t ≡ b → cond b (calls_as (index t) (running_at m t)) None ≡ None → m.fixed.closed && ready m t ≡ false
      go true e q = absurd (let z : ◌≡◌ {A = ℕ} 0 1 = cc in omega arith)
      go false e q = e

  -- who calls, as the tasks name it: with its own domain
  abbrev pub owned : Optional Caller
  owned = cond (ready m t) (calls_as (index t) (domain_at m t)) None

  -- of a closed table
  module _ (c : m.fixed.closed ≡ true) where
    pub nobody_calls : owned ≡ None → None ≡ caller_in m t
    nobody_calls h = go (ready m t) h ∙ ap (λ (b : Bool). cond (b && ready m t) (calls_as (index t) (running_at m t)) None) (sym c)
      where
        go : (b : Bool) → cond b (calls_as (index t) (domain_at m t)) None ≡ None → None ≡ cond b (calls_as (index t) (running_at m t)) None
        go true q = absurd (let z : ◌≡◌ {A = ℕ} 0 1 = cc in omega arith)
        go false q = refl

    -- a registered task
    pub known_caller : (task : ℕ) {d : ℤ} → owned ≡ calls_as task d → Called task
    known_caller task {d} h = go (ready m t) refl h
      where
        go : (b : Bool) → ready m t ≡ b → cond b (calls_as (index t) (domain_at m t)) None ≡ calls_as task d → Called task
        go true e q = called_by task (both c e) (calls_same q).0
        go false e q = absurd (let z : ◌≡◌ {A = ℕ} 0 1 = cc in omega arith)

    pub runs_as : (task : ℕ) {d : ℤ} (k : ℕ) → owned ≡ calls_as task d → k ≡ level_at m (suc task) → calls_as task (running_of d k) ≡ caller_in m t
    runs_as task {d} k h e =
        let n = known_caller task h in
        let l : k ≡ level_at m t = e ∙ ap (level_at m) (sym n.names) in
        go (m.fixed.closed && ready m t) n.may l (ap (λ (b : Bool). cond b (calls_as (index t) (domain_at m t)) None) (sym (and_right m.fixed.closed (ready m t) n.may)) ∙ h)
      where
        go : (b : Bool) → b ≡ true → k ≡ level_at m t → calls_as (index t) (domain_at m t) ≡ calls_as task d → calls_as task (running_of d k) ≡ cond b (calls_as (index t) (running_at m t)) None
        go true y l q =
            let same = calls_same q in
            let i = sym same.0 in
            let j = sym same.1 in
            λ x. calls_as (i x) (running_of (j x) (l x))
        go false y l q = absurd (no_both y refl)

-- ---- what the checks found
abbrev refused_or : Result Admitted Refusal → Refusal → Refusal
refused_or (Refused e) d = e
refused_or (Ok x) d = d

abbrev admitted_or : {E : Type 0} → Result Admitted E → Admitted → Admitted
admitted_or (Ok x) y = x
admitted_or (Refused e) y = y

was_admitted : (k : Result Admitted Refusal) (x : Admitted) → coded k ≡ Ok x → k ≡ Ok x
was_admitted (Ok y) x h = ap (λ (j : Result Admitted ℤ). Ok (admitted_or j y)) h
was_admitted (Refused e) x h = absurd (let z : ◌≡◌ {A = ℕ} 0 1 = cc in omega arith)

module _ {C R : Type 0} (r : Room C R) (s : State) (z n : ℤ) (a : Act C) where
  -- a call that they refuse: the model's answer is that refusal
  pub refusal : (e : Refusal) → check_of r s z n a ≡ Refused e → check r (view_of s) (no z) (no n) a ≡ some e
  refusal e h = go (check r (view_of s) (no z) (no n) a) h
    where
      go : (o : Option Refusal) → checked o (no z) (no n) ≡ Refused e → o ≡ some e
      go (some x) q = ap (λ (k : Result Admitted Refusal). some (refused_or k x)) q
      go none q = absurd (let z : ◌≡◌ {A = ℕ} 0 1 = cc in omega arith)

  -- a call that they admit: who calls is ready, and the object is there
  pub record Admission (t o : ℕ) : Type 0 where
    pub free : Free (view_of s).fixed.tasks (view_of s).waits t
    pub there : o < length (r.records (view_of s))
    pub task : no z ≡ suc t
    pub object : no n ≡ suc o
    pub found : check r (view_of s) (no z) (no n) a ≡ none

  pub admission : (t o : ℕ) → check_of r s z n a ≡ admits_as t o → Admission t o
  admission t o e = go (check r (view_of s) (no z) (no n) a) refl e
    where
      go : (x : Option Refusal) → check r (view_of s) (no z) (no n) a ≡ x → checked x (no z) (no n) ≡ admits_as t o → Admission t o
      go (some x) c q = absurd (let z : ◌≡◌ {A = ℕ} 0 1 = cc in omega arith)
      go none c q =
          let p = passed r (view_of s) (no z) (no n) a c in
          let f : Result Admitted Refusal → Admitted = λ x. admitted_or x (record { task = t; object = o }) in
          let i : index (no z) ≡ t = ap (λ x. (f x).task) q in
          let j : index (no n) ≡ o = ap (λ x. (f x).object) q in
          let b : no z ≡ suc t = number (no z) p.calls.caller ∙ ap suc i in
          let d : no n ≡ suc o = number (no n) p.numbered ∙ ap suc j in
          let k = p.calls.known in
          let l = p.there in
          record {
            free = record { low = omega arith; free = ap (λ (x : ℕ). absent x (view_of s).waits) (sym b) ∙ p.calls.free };
            there = omega arith;
            task = b;
            object = d;
            found = c;
          }

  -- what an effect may take for granted of what they found
  pub passes : {k : Result Admitted ℤ} → k ≡ coded (check_of r s z n a) → Passed s.tasks (length (r.records (view_of s))) k
  passes {k} h = record { free = λ x e. (admitted x e).free; there = λ x e. (admitted x e).there }
    where
      admitted : (x : Admitted) → k ≡ Ok x → Admission x.task x.object
      admitted x e = admission x.task x.object (was_admitted (check_of r s z n a) x (sym h ∙ e))
