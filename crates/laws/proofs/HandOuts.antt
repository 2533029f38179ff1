-- What `get_mem` and `get_mem_code` give from the same inputs (document 02, T-13), by their contracts. Assumes nothing.
use mathlib.Core.Path.{◌≡◌, refl, sym, ◌∙◌, subst}
use mathlib.Core.List.{List}
use native.Mathlib.Omega.{arith}
use mathlib.Core.Option.{Option, none, some}
use Prim.Native.Nat.{ℕ, ◌+◌, ◌<◌}
use lib.IntN.{ℤ}
use lib.ListN.{length}
use Rattle.itron.specs.Codes.{ok_number, number_of}
use Rattle.itron.specs.declared.error.Error.{Error as Refusal}
use Rattle.itron.specs.declared.error.Error.TheVariants.{Sys as e_sys, Rsatr as e_rsatr, Par as e_par, Id as e_id, Ctx as e_ctx, Macv as e_macv, Oacv as e_oacv, Iluse as e_iluse, Nomem as e_nomem, Noid as e_noid, Obj as e_obj, Noexs as e_noexs, Qovr as e_qovr, Tmout as e_tmout}
use Rattle.model.specs.Answers.{result_of}
use Rattle.model.specs.Images.{Image, hand_out, handed_bytes}
use Rattle.model.proofs.Verdict.{GrantedAt}
use Rattle.model.proofs.Images.{EmptyUnlessOk, empty_exactly, HandedOut, handed_only, handed_readable}
use Rattle.kernel.specs.declared.state.State.{State}
use Rattle.kernel.specs.View.{view_of}

-- no refusal has the number of E_OK
not_ok : (e : Refusal) → number_of e ≡ ok_number → ⊥
not_ok e_sys h = let z : ◌≡◌ {A = ℕ} 0 1 = cc in omega arith
not_ok e_rsatr h = let z : ◌≡◌ {A = ℕ} 0 1 = cc in omega arith
not_ok e_par h = let z : ◌≡◌ {A = ℕ} 0 1 = cc in omega arith
not_ok e_id h = let z : ◌≡◌ {A = ℕ} 0 1 = cc in omega arith
not_ok e_ctx h = let z : ◌≡◌ {A = ℕ} 0 1 = cc in omega arith
not_ok e_macv h = let z : ◌≡◌ {A = ℕ} 0 1 = cc in omega arith
not_ok e_oacv h = let z : ◌≡◌ {A = ℕ} 0 1 = cc in omega arith
not_ok e_iluse h = let z : ◌≡◌ {A = ℕ} 0 1 = cc in omega arith
not_ok e_nomem h = let z : ◌≡◌ {A = ℕ} 0 1 = cc in omega arith
not_ok e_noid h = let z : ◌≡◌ {A = ℕ} 0 1 = cc in omega arith
not_ok e_obj h = let z : ◌≡◌ {A = ℕ} 0 1 = cc in omega arith
not_ok e_noexs h = let z : ◌≡◌ {A = ℕ} 0 1 = cc in omega arith
not_ok e_qovr h = let z : ◌≡◌ {A = ℕ} 0 1 = cc in omega arith
not_ok e_tmout h = let z : ◌≡◌ {A = ℕ} 0 1 = cc in omega arith

code_none : (o : Option Refusal) (z : ℤ) → z ≡ result_of o → z ≡ ok_number → o ≡ none
code_none none z e h = refl
code_none (some x) z e h = absurd (not_ok x (sym e ∙ h))

module _ (s : State) (d : ℤ) (base size : ℕ) (flash ram : Image) (code : ℤ) (part : List ℕ) where
  module _ (c : code ≡ result_of (hand_out (view_of s) d base size flash ram)) (p : part ≡ handed_bytes (view_of s) d base size flash ram) where
    -- the part is empty exactly if the code is not E_OK
    pub part_empty_exactly : EmptyUnlessOk code part
    part_empty_exactly =
        let e = empty_exactly (view_of s) d base size flash ram in
        record { empty = λ f. p ∙ e.empty (λ k. f (c ∙ k)); filled = λ k z. e.filled (sym c ∙ k) (sym p ∙ z) }

    module _ (o : code ≡ ok_number) where
      granted : hand_out (view_of s) d base size flash ram ≡ none
      granted = code_none (hand_out (view_of s) d base size flash ram) code c o

      -- "If the verdict allows reading, hand back that part of the image in which the area lies, just the area"
      pub part_handed : HandedOut (view_of s) d base size flash ram part
      part_handed = subst (λ (l : List ℕ). HandedOut (view_of s) d base size flash ram l) (sym p) (handed_only (view_of s) d base size flash ram granted)

      -- each of its bytes is at an address of a region that the domain may read
      pub part_readable : (k : ℕ) → k < length part → GrantedAt (view_of s).fixed.regions d 2 (base + k)
      part_readable k h = handed_readable (view_of s) d base size flash ram granted k (subst (λ (l : List ℕ). k < length l) p h)
