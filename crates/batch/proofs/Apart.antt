-- The words of an answer say all of it: no two answers are written alike, and none like what is no call. Assumes nothing.
use Prim.Native.Nat.{ℕ}
use mathlib.Core.Path.{◌≡◌, refl, sym, ap, ◌∙◌}
use mathlib.Core.Bool.{false, cond}
use mathlib.Core.List.{List}
use lib.Dec.{eqb}
use lib.ListN.{get_or}
use Rattle.itron.specs.Codes.{Code, ok, waiting, error}
use Rattle.itron.specs.declared.error.Error.TheVariants.{Sys as e_sys, Rsatr as e_rsatr, Par as e_par, Id as e_id, Ctx as e_ctx, Macv as e_macv, Oacv as e_oacv, Iluse as e_iluse, Nomem as e_nomem, Noid as e_noid, Obj as e_obj, Noexs as e_noexs, Qovr as e_qovr, Tmout as e_tmout}
use Rattle.model.specs.Answers.{Answer, outcome_of, reply_of}
use Rattle.model.proofs.Lists.{ne_of}
use Rattle.batch.specs.Encoding.{outcome_word, encoded, no_call}

-- the code that a word stands for; 2^32 less a refusal's size
abbrev code_from : ℕ → Code
code_from n =
    cond (eqb n 0) ok
    (cond (eqb n 1) waiting
    (cond (eqb n 4294967291) (error e_sys)
    (cond (eqb n 4294967285) (error e_rsatr)
    (cond (eqb n 4294967279) (error e_par)
    (cond (eqb n 4294967278) (error e_id)
    (cond (eqb n 4294967271) (error e_ctx)
    (cond (eqb n 4294967270) (error e_macv)
    (cond (eqb n 4294967269) (error e_oacv)
    (cond (eqb n 4294967268) (error e_iluse)
    (cond (eqb n 4294967263) (error e_nomem)
    (cond (eqb n 4294967262) (error e_noid)
    (cond (eqb n 4294967255) (error e_obj)
    (cond (eqb n 4294967254) (error e_noexs)
    (cond (eqb n 4294967253) (error e_qovr)
    (error e_tmout)))))))))))))))

code_from_lem : (c : Code) → code_from (outcome_word (outcome_of c)) ≡ c
code_from_lem ok = refl
code_from_lem waiting = refl
code_from_lem (error e_sys) = refl
code_from_lem (error e_rsatr) = refl
code_from_lem (error e_par) = refl
code_from_lem (error e_id) = refl
code_from_lem (error e_ctx) = refl
code_from_lem (error e_macv) = refl
code_from_lem (error e_oacv) = refl
code_from_lem (error e_iluse) = refl
code_from_lem (error e_nomem) = refl
code_from_lem (error e_noid) = refl
code_from_lem (error e_obj) = refl
code_from_lem (error e_noexs) = refl
code_from_lem (error e_qovr) = refl
code_from_lem (error e_tmout) = refl

-- no code is written as E_RSFN
no_code : (c : Code) → eqb (outcome_word (outcome_of c)) (get_or no_call 0 0) ≡ false
no_code ok = refl
no_code waiting = refl
no_code (error e_sys) = refl
no_code (error e_rsatr) = refl
no_code (error e_par) = refl
no_code (error e_id) = refl
no_code (error e_ctx) = refl
no_code (error e_macv) = refl
no_code (error e_oacv) = refl
no_code (error e_iluse) = refl
no_code (error e_nomem) = refl
no_code (error e_noid) = refl
no_code (error e_obj) = refl
no_code (error e_noexs) = refl
no_code (error e_qovr) = refl
no_code (error e_tmout) = refl

-- what an answer says
pub record Alike (a b : Answer) : Type 0 where
  pub code : a.code ≡ b.code
  pub reply : reply_of a ≡ reply_of b
  pub info : a.info ≡ b.info

pub told_apart : (a b : Answer) → encoded a ≡ encoded b → Alike a b
told_apart a b e =
    let w : (k : ℕ) → get_or (encoded a) k 0 ≡ get_or (encoded b) k 0 = λ k. ap (λ (l : List ℕ). get_or l k 0) e in
    let c : a.code ≡ b.code = sym (code_from_lem a.code) ∙ ap code_from (w 0) ∙ code_from_lem b.code in
    record {
      code = c;
      reply = λ i. record { outcome = outcome_of (c i); word = w 1 i; released = record { task = w 2 i; word = w 3 i } };
      info = λ i. record { first = w 4 i; second = w 5 i; amount = w 6 i; vector = record { normal1 = w 7 i; normal2 = w 8 i; management = w 9 i; reference = w 10 i } };
    }

pub no_answer : (a : Answer) → encoded a ≡ no_call → ⊥
no_answer a e = ne_of (outcome_word (outcome_of a.code)) (get_or no_call 0 0) (no_code a.code) (ap (λ (l : List ℕ). get_or l 0 0) e)
