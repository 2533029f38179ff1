-- What the rounds of `find` keep: all but the last halve the regions that are left. Assumes nothing.
use Prim.Native.Nat.{ℕ, suc, ◌+◌, ◌-◌, ◌*◌, ◌/◌, ◌^◌, ◌≤◌, ◌<◌}
use native.Mathlib.Omega.{arith}
use native.Mathlib.Nat.{pow-suc, eq-or-lt_of_le}
use mathlib.Core.Path.{◌≡◌, refl, sym, ap, subst, ◌∙◌}
use mathlib.Core.Bool.{Bool, true, false, cond}
use mathlib.Core.List.{List}
use mathlib.Core.Logic.{⊎_elim}
use lib.Dec.{leb}
use lib.ListN.{get_or}
use lib.Pow.{pow_pos}
use borrow.Author.Tests.{leb-true, leb-false}
use Rattle.itron.specs.Limits.{max_regions}
use Rattle.std.specs.Prelude.{Some, None}
use Rattle.regions.specs.Search.{InOrder, covered_by, lookup}
use Rattle.regions.proofs.Searches.{starts_past, ends_before, one_decides}

module _ (bs ss : List ℕ) (n a : ℕ) where
  -- ---- of n regions w are left from `first` on, or all where those are fewer: those before end at or below the address, those past start above it
  pub record Left (first w : ℕ) : Type 0 where
    pub inside : first < n
    pub all : n < w → first ≡ 0
    pub within : w ≤ n → first + w ≤ n
    pub before : (k : ℕ) → k < first → get_or bs k 0 + get_or ss k 0 ≤ a
    pub past : (k : ℕ) → first + w ≤ k → k < n → a < get_or bs k 0

  all_left : n ≤ max_regions → 0 < n → Left 0 max_regions
  all_left f h =
      record { inside = h; all = λ l. refl; within = λ l. l; before = λ k l. absurd (omega arith); past = λ k l l'. absurd (omega arith) }

  -- ---- a look at a region m, before which and from which on no more than `half` are left
  module _ (o : InOrder bs ss n) (first half m : ℕ) (v : Left first (half * 2)) (s : 1 ≤ half) (i : first ≤ m) (l : m ≤ first + half) (r : m + half ≤ n) where
    upper : ((k : ℕ) → m + half ≤ k → k < n → first + half * 2 ≤ k) → get_or bs m 0 ≤ a → Left m half
    upper q t =
        record {
          inside = omega arith;
          all = λ h. absurd (omega arith);
          within = λ h. r;
          before = λ k h. let e = o.apart k m h (omega arith) in omega arith;
          past = λ k h h'. v.past k (q k h h') h';
        }

    lower : a < get_or bs m 0 → Left first half
    lower t =
        record {
          inside = v.inside;
          all = λ h. absurd (omega arith);
          within = λ h. omega arith;
          before = v.before;
          past = λ k h h'.
              ⊎_elim
              (λ e. subst (λ (x : ℕ). a < get_or bs x 0) e t)
              (λ g. let e = o.apart m k g h' in omega arith)
              (eq-or-lt_of_le {n = m} {m = k} (omega arith));
        }

    looked : ((k : ℕ) → m + half ≤ k → k < n → first + half * 2 ≤ k) → Left (cond (leb (get_or bs m 0) a) m first) half
    looked q = go (leb (get_or bs m 0) a) refl
      where
        go : (b : Bool) → leb (get_or bs m 0) a ≡ b → Left (cond b m first) half
        go true e = upper q (leb-true (get_or bs m 0) a e)
        go false e = lower (leb-false (get_or bs m 0) a e)

  -- ---- the one region that is left decides
  one_left : (first : ℕ) → Left first 1 → lookup bs ss a 0 n ≡ cond (covered_by (get_or bs first 0) (get_or ss first 0) a) (Some first) None
  one_left first v =
      let i = v.inside in
      one_decides bs ss a n 0 first (omega arith) (omega arith)
      (λ k l. ends_before (get_or bs k 0) (get_or ss k 0) a (v.before k l))
      (λ k l l'. starts_past (get_or bs k 0) (get_or ss k 0) a (v.past k (omega arith) (omega arith)))

-- ---- what a round does
module _ {bs ss : List ℕ} {n a first half : ℕ} (v : Left bs ss n a first (half * 2)) (s : 1 ≤ half) where
  -- all are left, and no more than half: nothing
  pub keep_all : n ≤ half → Left bs ss n a first half
  keep_all h =
      let e = v.all (omega arith) in
      record { inside = v.inside; all = λ l. e; within = λ l. omega arith; before = v.before; past = λ k l l'. absurd (omega arith) }

  module _ (o : InOrder bs ss n) where
    -- twice the half are left
    pub half_of_these : 2 * half ≤ n → Left bs ss n a (cond (leb (get_or bs (first + half) 0) a) (first + half) first) half
    half_of_these h =
        let w = v.within (omega arith) in
        looked bs ss n a o first half (first + half) v s (omega arith) (omega arith) (omega arith) (λ k l l'. omega arith)

    -- all are left, and fewer than that
    pub half_of_all : n < 2 * half → half < n → Left bs ss n a (cond (leb (get_or bs (n - half) 0) a) (n - half) first) half
    half_of_all h h' =
        let e = v.all (omega arith) in
        looked bs ss n a o first half (n - half) v s (omega arith) (omega arith) (omega arith) (λ k l l'. absurd (omega arith))

-- ---- the rounds, each of which looks at one region at most
abbrev pub rounds : ℕ
rounds = 7

-- the most regions that are left before a round
abbrev width : ℕ → ℕ
width round = 2 ^ (rounds - round)

twice : (round : ℕ) → round < rounds → width round ≡ width (round + 1) * 2
twice round l =
    let e : rounds - round ≡ suc (rounds - (round + 1)) = omega arith in
    ap (λ (k : ℕ). 2 ^ k) e ∙ pow-suc 2 (rounds - (round + 1))

-- before a round, which halves what is left
pub record Halved (bs ss : List ℕ) (n a first half round : ℕ) : Type 0 where
  pub begun : round ≤ rounds
  pub halves : half ≡ width round / 2
  pub few : half ≤ max_regions
  pub left : Left bs ss n a first (width round)

module _ {bs ss : List ℕ} {n a : ℕ} where
  pub begin : n ≤ max_regions → 0 < n → Halved bs ss n a 0 (max_regions / 2) 1
  begin f h = record { begun = omega arith; halves = refl; few = omega arith; left = all_left bs ss n a f h }

  module _ {first half round : ℕ} (h : Halved bs ss n a first half round) where
    next_width : round < rounds → half ≡ width (round + 1)
    next_width l = let e = twice round l in let d = h.halves in omega arith

    pub some_left : round < rounds → 1 ≤ half
    some_left l = let e = next_width l in let p = pow_pos (rounds - (round + 1)) in omega arith

    pub twice_left : round < rounds → Left bs ss n a first (half * 2)
    twice_left l =
        let e : width round ≡ half * 2 = twice round l ∙ ap (λ (w : ℕ). w * 2) (sym (next_width l)) in
        subst (Left bs ss n a first) e h.left

    pub halve : round < rounds → (first' : ℕ) → Left bs ss n a first' half → Halved bs ss n a first' (half / 2) (round + 1)
    halve l first' v =
        let e = next_width l in
        let f = h.few in
        record { begun = omega arith; halves = ap (λ (w : ℕ). w / 2) e; few = omega arith; left = subst (Left bs ss n a first') e v }

    pub decides : rounds ≤ round → lookup bs ss a 0 n ≡ cond (covered_by (get_or bs first 0) (get_or ss first 0) a) (Some first) None
    decides l = let e : rounds - round ≡ 0 = omega arith in one_left bs ss n a first (subst (λ (k : ℕ). Left bs ss n a first (2 ^ k)) e h.left)
