-- The loop over a list of calls: what holds after the first k items. Assumes nothing.
use Prim.Native.Nat.{ℕ, zero, suc, ◌+◌, ◌*◌, ◌/◌, ◌≤◌}
use native.Mathlib.Omega.{arith}
use mathlib.Core.Path.{◌≡◌, refl, sym, ap, ◌∙◌, subst}
use mathlib.Core.List.{List, ◌∷◌, ◌++◌}
use mathlib.Core.Bool.{Bool, true, false, cond}
use mathlib.Core.Option.{Option, none, some}
use lib.Dec.{ltb}
use borrow.Author.Tests.{ltb-true, ltb-false}
use lib.ListN.{length, drop, take, length-append, length-drop}
use lib.Seq.{paste, take_at, take_all, drop-append-add, drop-drop}
use Rattle.model.specs.State as Model
use Rattle.model.specs.Calls.{Call}
use Rattle.model.specs.History.{after, history}
use Rattle.model.specs.Demand3.{Demand3}
use Rattle.model.proofs.Demand3.{demand3}
use Rattle.kernel.specs.declared.state.State.{State}
use Rattle.kernel.specs.View.{view_of}
use Rattle.kernel.specs.Valid.{Valid}
use Rattle.batch.specs.declared.answer.Made.{Made}
use Rattle.batch.specs.Encoding.{answer_words, item_at, items_in, calls_in, answers_in, groups, answerable}
use Rattle.batch.specs.Made.{answer_to, next, Performs}
use Rattle.batch.specs.Runs.{calls_made, Runs}

-- the words of items made from a state of the model on
abbrev pub answers_of : Model.State → List (Option Call) → List ℕ
answers_of m l = answers_in l (history m (calls_in l))

pub answers_next : (m : Model.State) (x : Option Call) (l : List (Option Call)) → answers_of m (x ∷ l) ≡ answers_of m l ++ answer_to (after m (calls_in l)) x
unfolding history
answers_next m none l = refl
answers_next m (some c) l = refl

-- from the state s on, over the words ws; `old` are the words of the answers' slice at the start
pub record Loop (s : State) (ws old : List ℕ) (state : State) (words : List ℕ) (k : ℕ) : Type 0 where
  pub valid : Valid state
  pub seen : view_of state ≡ after (view_of s) (calls_in (items_in ws k))
  pub written : words ≡ answers_of (view_of s) (items_in ws k) ++ drop (k * answer_words) old

pub loop_start : (s : State) (ws old : List ℕ) → Valid s → Loop s ws old s old 0
unfolding after
loop_start s ws old v = record { valid = v; seen = refl; written = refl }

after_next : (m : Model.State) (x : Option Call) (l : List (Option Call)) → next (after m (calls_in l)) x ≡ after m (calls_in (x ∷ l))
unfolding after
after_next m none l = refl
after_next m (some c) l = refl

pub answer_length : (m : Model.State) (x : Option Call) → length (answer_to m x) ≡ answer_words
answer_length m none = refl
answer_length m (some c) = refl

pub answers_length : (m : Model.State) (ws : List ℕ) (k : ℕ) → length (answers_of m (items_in ws k)) ≡ k * answer_words
answers_length m ws zero = refl
answers_length m ws (suc k) =
    let n = ap (λ (l : List ℕ). length l) (answers_next m (item_at ws k) (items_in ws k)) in
    let a = length-append (answers_of m (items_in ws k)) (answer_to (after m (calls_in (items_in ws k))) (item_at ws k)) in
    let b = answers_length m ws k in
    let c = answer_length (after m (calls_in (items_in ws k))) (item_at ws k) in
    omega arith

-- a row written behind the rows before it
paste_row : (a row old : List ℕ) (n : ℕ) → length a ≡ n → length row ≡ answer_words → paste (a ++ drop n old) n row answer_words ≡ a ++ row ++ drop (n + answer_words) old
paste_row a row old n e f =
    let t : take n (a ++ drop n old) ≡ a = take_at a (drop n old) n e in
    let u : take answer_words row ≡ row = take_all answer_words row (omega arith) in
    let d : drop (n + answer_words) (a ++ drop n old) ≡ drop (n + answer_words) old =
    ap (λ (i : ℕ). drop (i + answer_words) (a ++ drop n old)) (sym e) ∙ drop-append-add a (drop n old) answer_words ∙ drop-drop answer_words n old in
    λ i. t i ++ u i ++ d i

pub loop_next : {s : State} {ws old : List ℕ} {state : State} {words : List ℕ} {k : ℕ} {r : Made} → Loop s ws old state words k → Performs state (item_at ws k) r
    → Loop s ws old r.state (paste words (k * answer_words) r.words answer_words) (k + 1)
loop_next {s} {ws} {old} {state} {words} {k} {r} h p =
    let m = view_of s in
    let items = items_in ws k in
    let x = item_at ws k in
    let q : r.words ≡ answer_to (after m (calls_in items)) x = p.answer ∙ ap (λ (y : Model.State). answer_to y x) h.seen in
    let l : length r.words ≡ answer_words = ap (λ (z : List ℕ). length z) q ∙ answer_length (after m (calls_in items)) x in
    let n : k * answer_words + answer_words ≡ suc k * answer_words = omega arith in
    let w : paste words (k * answer_words) r.words answer_words ≡ answers_of m (x ∷ items) ++ drop (suc k * answer_words) old =
    ap (λ (z : List ℕ). paste z (k * answer_words) r.words answer_words) h.written
    ∙ paste_row (answers_of m items) r.words old (k * answer_words) (answers_length m ws k) l
    ∙ (λ i. answers_of m items ++ q i ++ drop (n i) old)
    ∙ ap (λ (z : List ℕ). z ++ drop (suc k * answer_words) old) (sym (answers_next m x items)) in
    let e : view_of r.state ≡ after m (calls_in (x ∷ items)) = p.seen ∙ ap (λ (y : Model.State). next y x) h.seen ∙ after_next m x items in
    let z : suc k ≡ k + 1 = omega arith in
    subst (λ (j : ℕ). Loop s ws old r.state (paste words (k * answer_words) r.words answer_words) j) z
    (record { valid = p.valid; seen = e; written = w })

-- after all items the promise is met
pub loop_end : {s : State} {ws old : List ℕ} {state : State} {words : List ℕ} {k made : ℕ} → made ≡ answerable (length ws) (length old) → k ≡ made
    → Loop s ws old state words k → Runs s ws old words (record { answered = made; state = state })
loop_end {s} {ws} {old} {state} {words} {k} {made} e f h =
    let n = f ∙ e in
    let m = view_of s in
    let t : view_of state ≡ after m (calls_made ws old) = h.seen ∙ ap (λ (j : ℕ). after m (calls_in (items_in ws j))) n in
    record {
      answered = e;
      state = t;
      valid = h.valid;
      answers = h.written ∙ (λ i. answers_of m (items_in ws (n i)) ++ drop (f i * answer_words) old);
      demand = λ j. subst (λ (x : Model.State). Demand3 m (history m (calls_made ws old)) x) (sym t) (demand3 m j (calls_made ws old));
    }
