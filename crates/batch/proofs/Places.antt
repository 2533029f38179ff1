-- Where each answer stands in the slice, and each of its words. Assumes nothing.
use Prim.Native.Nat.{ℕ, zero, suc, ◌+◌, ◌*◌, ◌≤◌, ◌<◌}
use native.Mathlib.Nat.{eq-or-lt_of_le}
use native.Mathlib.Omega.{arith}
use mathlib.Core.Path.{◌≡◌, refl, sym, ap, ◌∙◌, subst}
use mathlib.Core.List.{List, ◌∷◌, ◌++◌}
use mathlib.Core.Option.{none, some}
use mathlib.Core.Logic.{◌⊎◌, inl, inr}
use lib.IntN.{negsuc}
use lib.ListN.{length, take, drop, replicate, length-drop}
use lib.Seq.{take_all, drop_at, drop-append-le, take-append-le}
use mir.Syntax.{w32}
use mir.Val.{of_z}
use Rattle.itron.specs.Codes.{Code, ok, waiting, error}
use Rattle.itron.specs.declared.error.Error.TheVariants.{Sys as e_sys, Rsatr as e_rsatr, Par as e_par, Id as e_id, Ctx as e_ctx, Macv as e_macv, Oacv as e_oacv, Iluse as e_iluse, Nomem as e_nomem, Noid as e_noid, Obj as e_obj, Noexs as e_noexs, Qovr as e_qovr, Tmout as e_tmout}
use Rattle.model.specs.State as Model
use Rattle.model.specs.Answers.{Answer, outcome_of}
use Rattle.model.specs.Calls.{Call, step}
use Rattle.model.specs.History.{after}
use Rattle.kernel.specs.declared.state.State.{State}
use Rattle.kernel.specs.View.{view_of}
use Rattle.batch.specs.declared.run.Ran.{Ran}
use Rattle.batch.specs.Encoding.{answer_words, outcome_word, encoded, no_call, item_at, items_in, calls_in, answerable}
use Rattle.batch.specs.Written.{CodeSaid, Says}
use Rattle.batch.specs.Made.{answer_to}
use Rattle.batch.specs.Runs.{items_made, Runs}
use Rattle.batch.proofs.Loops.{answers_of, answers_next, answer_length, answers_length}

-- ---- the words of one answer
code_said : (c : Code) → CodeSaid c (outcome_word (outcome_of c))
code_said ok = refl
code_said waiting = refl
code_said (error e_sys) = refl
code_said (error e_rsatr) = refl
code_said (error e_par) = refl
code_said (error e_id) = refl
code_said (error e_ctx) = refl
code_said (error e_macv) = refl
code_said (error e_oacv) = refl
code_said (error e_iluse) = refl
code_said (error e_nomem) = refl
code_said (error e_noid) = refl
code_said (error e_obj) = refl
code_said (error e_noexs) = refl
code_said (error e_qovr) = refl
code_said (error e_tmout) = refl

pub says : (a : Answer) → Says (encoded a) a
says a =
    record {
      long = refl;
      code = code_said a.code;
      word = refl;
      released_task = refl;
      released_word = refl;
      first = refl;
      second = refl;
      amount = refl;
      normal1 = refl;
      normal2 = refl;
      management = refl;
      reference = refl;
    }

-- what is no call is answered -10 and ten zeros
pub no_call_said : no_call ≡ of_z w32 (negsuc 9) ∷ replicate 10 0
no_call_said = refl

-- ---- eleven words behind others, and before others
last_row : (a r : List ℕ) (n : ℕ) → length a ≡ n → length r ≡ 11 → take 11 (drop n (a ++ r)) ≡ r
last_row a r n e f = ap (take 11) (drop_at a r n e) ∙ take_all 11 r (omega arith)

earlier_row : (a r : List ℕ) (n : ℕ) → n + 11 ≤ length a → take 11 (drop n (a ++ r)) ≡ take 11 (drop n a)
earlier_row a r n l = ap (take 11) (drop-append-le n a r (omega arith)) ∙ take-append-le 11 (drop n a) r (omega (arith, length-drop n a))

-- ---- the k-th item's eleven words stand at k * 11: what it answers after the calls before it
module _ (m : Model.State) (ws : List ℕ) where
  abbrev answer_of : ℕ → List ℕ
  answer_of k = answer_to (after m (calls_in (items_in ws k))) (item_at ws k)

  answer_at : (n k : ℕ) → k < n → take 11 (drop (k * 11) (answers_of m (items_in ws n))) ≡ answer_of k
  answer_at zero k l = elim l [ ]
  answer_at (suc n) k l = ap (λ (r : List ℕ). take 11 (drop (k * 11) r)) (answers_next m (item_at ws n) (items_in ws n)) ∙ go (eq-or-lt_of_le (omega arith)) (answer_at n k)
    where
      told : List ℕ
      told = answers_of m (items_in ws n)

      go : (k ≡ n) ⊎ (k < n) → (k < n → take 11 (drop (k * 11) told) ≡ answer_of k) → take 11 (drop (k * 11) (told ++ answer_of n)) ≡ answer_of k
      go (inl e) h =
          ap (λ (j : ℕ). take 11 (drop (j * 11) (told ++ answer_of n))) e
          ∙ last_row told (answer_of n) (n * 11) (answers_length m ws n) (answer_length (after m (calls_in (items_in ws n))) (item_at ws n))
          ∙ ap answer_of (sym e)
      go (inr i) h = earlier_row told (answer_of n) (k * 11) (omega (arith, answers_length m ws n)) ∙ h i

-- a slice that begins with the answers of n items, and the k-th of these
module _ (m : Model.State) (calls before behind : List ℕ) (n : ℕ) (e : n ≡ answerable (length calls) (length before))
    (f : behind ≡ answers_of m (items_made calls before) ++ drop (n * answer_words) before) (k : ℕ) (l : k < n) where
  row_at : take 11 (drop (k * 11) behind) ≡ answer_of m calls k
  row_at =
      let made = answerable (length calls) (length before) in
      let told = answers_of m (items_in calls made) in
      ap (λ (x : List ℕ). take 11 (drop (k * 11) x)) f
      ∙ earlier_row told (drop (n * 11) before) (k * 11) (omega (arith, answers_length m calls made))
      ∙ answer_at m calls made k (omega arith)

  pub call_at : (c : Call) → item_at calls k ≡ some c → Says (take 11 (drop (k * 11) behind)) (step (after m (calls_in (items_in calls k))) c).answer
  call_at c z =
      let x = after m (calls_in (items_in calls k)) in
      subst (λ (y : List ℕ). Says y (step x c).answer) (sym (row_at ∙ ap (answer_to x) z)) (says (step x c).answer)

  pub no_call_at : item_at calls k ≡ none → take 11 (drop (k * 11) behind) ≡ of_z w32 (negsuc 9) ∷ replicate 10 0
  no_call_at z = row_at ∙ ap (answer_to (after m (calls_in (items_in calls k)))) z ∙ no_call_said

module _ {s : State} {calls before behind : List ℕ} {r : Ran} (h : Runs s calls before behind r) (k : ℕ) (l : k < r.answered) where
  pub call_answered : (c : Call) → item_at calls k ≡ some c → Says (take 11 (drop (k * 11) behind)) (step (after (view_of s) (calls_in (items_in calls k))) c).answer
  call_answered = call_at (view_of s) calls before behind r.answered h.answered h.answers k l

  pub no_call_answered : item_at calls k ≡ none → take 11 (drop (k * 11) behind) ≡ of_z w32 (negsuc 9) ∷ replicate 10 0
  no_call_answered = no_call_at (view_of s) calls before behind r.answered h.answered h.answers k l
