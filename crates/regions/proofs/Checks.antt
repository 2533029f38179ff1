-- Laws of the checks of an entry and of the verdict, in the form in which the code tests. Assumes nothing.
use Prim.Native.Nat.{ℕ, zero, suc, ◌+◌, ◌<◌}
use native.Mathlib.Omega.{arith}
use mathlib.Core.Path.{◌≡◌, refl, sym, ap, ◌∙◌, subst}
use mathlib.Core.Bool.{Bool, not}
use mathlib.Core.List.{List, [], ◌∷◌}
use mathlib.Core.Option.{none}
use lib.IntN.{ℤ}
use Rattle.std.specs.Prelude.{Result}
use Rattle.itron.specs.declared.error.Error.{Error as Refusal}
use lib.ListN.{length, get_or, drop, get_or-eq_default}
use lib.Seq.{drop-cons}
use Rattle.itron.specs.declared.error.Error.TheVariants.{Par as e_par, Obj as e_obj, Macv as e_macv}
use Rattle.model.specs.Lists.{at}
use Rattle.model.specs.State.{Region, no_region}
use Rattle.model.specs.Answers.{refuse_if}
use Rattle.model.specs.Checks.{passed}
use Rattle.model.specs.Regions.{end, last_end, in_chain, allows, judge_in}

-- ---- ladders of checks, by the values of their tests
abbrev pub judges : Bool → Bool → Result Unit Refusal
judges inside allowed = passed (refuse_if (not inside) e_obj (refuse_if (not allowed) e_macv none))

abbrev pub rules : ℤ → ℕ → ℕ → ℕ → Bool → List Region → Result Unit Refusal
rules d base size w area regions = passed (refuse_if (not area) e_par (judge_in regions d base size w))

-- ---- the region at an index, and the chain from there on, decide what they find
pub judged_at : (rs : List Region) (i : ℕ) → i < length rs → (d : ℤ) (base size w : ℕ)
    → judges (in_chain (drop i rs) (base + size)) (allows (get_or rs i no_region) d w) ≡ passed (judge_in (drop i rs) d base size w)
judged_at rs i l d base size w =
    subst
    (λ (m : List Region). judges (in_chain m (base + size)) (allows (get_or rs i no_region) d w) ≡ passed (judge_in m d base size w))
    (sym (drop-cons rs i no_region l))
    refl

-- ---- the region entered last
pub end_none : (rs : List Region) → length rs ≡ 0 → 0 ≡ last_end rs
end_none [] h = refl
end_none (r ∷ rs) h = absurd (omega arith)

end_last : (r : Region) (rs : List Region) → end (get_or (r ∷ rs) (length rs) no_region) ≡ last_end (r ∷ rs)
end_last r [] = refl
end_last r (x ∷ rs) = end_last x rs

pub end_at : (rs : List Region) (last : ℕ) → suc last ≡ length rs → end (get_or rs last no_region) ≡ last_end rs
end_at [] last e = absurd (omega arith)
end_at (r ∷ rs) last e = let k : last ≡ length rs = omega arith in ap (λ (i : ℕ). end (get_or (r ∷ rs) i no_region)) k ∙ end_last r rs

-- ---- a region by its number
pub at_none : (rs : List Region) (n : ℕ) → length rs < n → no_region ≡ at no_region rs n
at_none rs zero h = refl
at_none rs (suc i) h = sym (get_or-eq_default rs no_region {n = i} (omega arith))
