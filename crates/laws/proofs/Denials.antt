-- "E_OACV exactly when denied", of every run of the program. Assumes nothing.
use mathlib.Core.Path.{◌≡◌, sym, ap, ◌∙◌, subst}
use mathlib.Core.Logic.{◌⊎◌, inl, inr}
use mathlib.Core.List.{List}
use Rattle.itron.specs.Codes.{error}
use Rattle.itron.specs.declared.error.Error.TheVariants.{Oacv as e_oacv}
use Rattle.model.specs.State as Model
use Rattle.model.specs.Answers.{outcome_of}
use Rattle.model.specs.Table.{close}
use Rattle.model.specs.Calls.{Call, step}
use Rattle.model.specs.History.{after, history}
use Rattle.model.specs.Denials.{DeniedSince}
use Rattle.model.proofs.Numbers.{apart}
use Rattle.model.proofs.Denials.{Gave, gave_fresh, gave_enter, gave_close, denied_only, denied_always}
use Rattle.kernel.specs.declared.state.State.{State}
use Rattle.kernel.specs.declared.state.Answer.{Answer}
use Rattle.kernel.specs.declared.state.Entered.{Entered}
use Rattle.kernel.specs.View.{view_of}
use Rattle.kernel.specs.Answers.{answer_of}
use Rattle.kernel.specs.Promises.{Enters, Does, Tells}
use Rattle.laws.specs.Runs.{Built, begun, entered, taken, Said, Ran}
use Rattle.laws.specs.Claims.{DeniesExactly}
use Rattle.laws.proofs.Runs.{just_closed, state_of_lem}

-- ---- the vectors of a table that was built and closed are its entries'
gave : {s : State} (b : Built s) → Gave (taken b) (view_of s)
gave (begun n unit r g) = subst (Gave _) (sym g.seen) (gave_fresh n unit)
gave (entered s b i r g) = subst (Gave _) (sym g.seen) (gave_enter (taken b) (view_of s) i (gave b))

gave_closed : {s : State} {r : Entered} (b : Built s) → Enters s (close (view_of s)) r → Gave (taken b) (view_of r.state)
gave_closed {s} b g = subst (Gave (taken b)) (sym g.seen) (gave_close (taken b) (view_of s) (gave b))

-- ---- a call's answer, whichever promise it was made by
answer_is : {s : State} {c : Call} {r : Answer} → Does s c r ⊎ Tells s c r → r ≡ answer_of (step (view_of s) c)
answer_is (inl d) = d.same
answer_is (inr d) = d.same

pub denies : {s₀ s : State} {r₀ : Entered} {cs : List Call} {l : List Said} (b : Built s₀) → Enters s₀ (close (view_of s₀)) r₀ → Ran r₀.state cs s l
    → (c : Call) (r : Answer) → Does s c r ⊎ Tells s c r → DeniesExactly b r₀.state s cs c r
denies {s} {r₀} {cs} b g h c r d = record {
  only = λ q. subst Denied (sym (state_of_lem h)) (denied_only (taken b) m (gave_closed b g) (just_closed b g) cs c.caller c.op (apart _ (error e_oacv) (sym shown ∙ q)));
  always = λ q. shown ∙ ap outcome_of (denied_always (taken b) m (gave_closed b g) (just_closed b g) cs c.caller c.op (subst Denied (state_of_lem h) q));
}
  where
    m : Model.State
    m = view_of r₀.state

    Denied : Model.State → Type 0
    Denied x = DeniedSince (taken b) (history m cs) x c.caller c.op

    shown : r.outcome ≡ outcome_of (step (after m cs) c).answer.code
    shown = ap (λ (x : Answer). x.outcome) (answer_is d) ∙ ap (λ (x : Model.State). outcome_of (step x c).answer.code) (state_of_lem h)
