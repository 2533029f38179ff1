-- Document 01's numbers ("Codes a desk clerk sees") as its table prints them, and requests T-03's and T-05's, in each place where the program shows one. Assumes nothing.
use mathlib.Core.Path.{◌≡◌, refl, sym, ap, ◌∙◌}
use mathlib.Core.Bool.{cond}
use mathlib.Core.Option.{none, some}
use Prim.Native.Nat.{ℕ, ◌^◌}
use lib.Dec.{eqb}
use lib.IntN.{ℤ, pos, negsuc, neg_ℤ}
use Rattle.itron.specs.Codes.{Code, ok, waiting, error, number_of}
use Rattle.itron.specs.declared.error.Error.{Error as Refusal}
use Rattle.itron.specs.declared.error.Error.TheVariants.{Sys as e_sys, Rsatr as e_rsatr, Par as e_par, Id as e_id, Ctx as e_ctx, Macv as e_macv, Oacv as e_oacv, Iluse as e_iluse, Nomem as e_nomem, Noid as e_noid, Obj as e_obj, Noexs as e_noexs, Qovr as e_qovr, Tmout as e_tmout}
use Rattle.itron.specs.Limits.{address_end}
use Rattle.model.specs.declared.Outcome.{Outcome}
use Rattle.model.specs.declared.Outcome.TheVariants as Outcome
use Rattle.model.specs.Answers.{outcome_of, code_of, result_of}

-- a code is shown as the number z: in a call's answer, in that of fresh, an entry, closing or a refer
pub record Shown (c : Code) (z : ℤ) : Type 0 where
  pub answered : outcome_of c ≡ Outcome.Code z
  pub entered : code_of c ≡ z

-- a refusal is shown as -n, by a verdict too
pub record Numbered (e : Refusal) (n : ℕ) : Type 0 where
  pub shown : Shown (error e) (neg_ℤ (pos n))
  pub judged : result_of (some e) ≡ neg_ℤ (pos n)

abbrev Listed : Type 0
Listed =
    Numbered e_sys 5 × (Numbered e_rsatr 11 × (Numbered e_par 17 × (Numbered e_id 18 × (Numbered e_ctx 25 × (Numbered e_macv 26 × (Numbered e_oacv 27
    × (Numbered e_iluse 28 × (Numbered e_nomem 33 × (Numbered e_noid 34 × (Numbered e_obj 41 × (Numbered e_noexs 42 × (Numbered e_qovr 43 × Numbered e_tmout 50))))))))))))

plainly : {e : Refusal} {n : ℕ} → number_of e ≡ neg_ℤ (pos n) → Numbered e n
plainly h = record { shown = record { answered = ap Outcome.Code h; entered = h }; judged = h }

-- the table of codes
pub listed : Listed
listed = (plainly refl, (plainly refl, (plainly refl, (plainly refl, (plainly refl, (plainly refl, (plainly refl, (plainly refl, (plainly refl, (plainly refl, (plainly refl, (plainly refl, (plainly refl, plainly refl)))))))))))))

pub done_is_0 : Shown ok (pos 0) × (result_of none ≡ pos 0)
done_is_0 = (record { answered = refl; entered = refl }, refl)

-- "A refusal is a negative number"
pub refusal_negative : (e : Refusal) → (k : ℕ) × (number_of e ≡ negsuc k)
refusal_negative e_sys = (_, refl)
refusal_negative e_rsatr = (_, refl)
refusal_negative e_par = (_, refl)
refusal_negative e_id = (_, refl)
refusal_negative e_ctx = (_, refl)
refusal_negative e_macv = (_, refl)
refusal_negative e_oacv = (_, refl)
refusal_negative e_iluse = (_, refl)
refusal_negative e_nomem = (_, refl)
refusal_negative e_noid = (_, refl)
refusal_negative e_obj = (_, refl)
refusal_negative e_noexs = (_, refl)
refusal_negative e_qovr = (_, refl)
refusal_negative e_tmout = (_, refl)

-- no two answers look alike: not two refusals, not a refusal and E_OK, not "waiting" and a number
abbrev refusal_at : ℕ → Refusal
refusal_at k =
    cond (eqb k 4) e_sys (cond (eqb k 10) e_rsatr (cond (eqb k 16) e_par (cond (eqb k 17) e_id (cond (eqb k 24) e_ctx (cond (eqb k 25) e_macv (cond (eqb k 26) e_oacv
    (cond (eqb k 27) e_iluse (cond (eqb k 32) e_nomem (cond (eqb k 33) e_noid (cond (eqb k 40) e_obj (cond (eqb k 41) e_noexs (cond (eqb k 42) e_qovr e_tmout))))))))))))

abbrev meant : Outcome → Code
meant (Outcome.Code (pos n)) = ok
meant (Outcome.Code (negsuc k)) = error (refusal_at k)
meant Outcome.Waiting = waiting

read_back : (c : Code) → meant (outcome_of c) ≡ c
read_back ok = refl
read_back waiting = refl
read_back (error e_sys) = refl
read_back (error e_rsatr) = refl
read_back (error e_par) = refl
read_back (error e_id) = refl
read_back (error e_ctx) = refl
read_back (error e_macv) = refl
read_back (error e_oacv) = refl
read_back (error e_iluse) = refl
read_back (error e_nomem) = refl
read_back (error e_noid) = refl
read_back (error e_obj) = refl
read_back (error e_noexs) = refl
read_back (error e_qovr) = refl
read_back (error e_tmout) = refl

pub apart : (a b : Code) → outcome_of a ≡ outcome_of b → a ≡ b
apart a b h = sym (read_back a) ∙ ap meant h ∙ read_back b

-- "2^32"
pub address_end_lem : address_end ≡ 2 ^ 32
address_end_lem = refl
