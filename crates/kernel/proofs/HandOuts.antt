-- Handing out the bytes: its checks, one after the other, as the code makes them. Assumes nothing.
use mathlib.Core.Path.{◌≡◌, refl, sym, ap, ◌∙◌}
use mathlib.Core.Bool.{Bool, true, false, not}
use mathlib.Core.List.{List, []}
use mathlib.Core.Option.{Option, none, some}
use Prim.Native.Nat.{ℕ}
use lib.IntN.{ℤ}
use Rattle.std.specs.Prelude.{Option as Optional, unwrap_or, Result, Ok, Err as Refused, is_err}
use Rattle.images.specs.Parts.{part_of_found}
use Rattle.itron.specs.declared.error.Error.{Error as Refusal}
use Rattle.itron.specs.declared.error.Error.TheVariants.{Ctx as e_ctx, Par as e_par, Noexs as e_noexs}
use Rattle.model.specs.Answers.{refuse_if}
use Rattle.model.specs.Checks.{passed}
use Rattle.model.proofs.Passed.{passed_ok, passed_none, passed_err, passed_some}
use Rattle.model.specs.Verdict.{verdict}
use Rattle.model.specs.Images.{Image, images_ok, holder, is_held, read_alone, once_allowed, hand_out, part_of, unless_refused, handed_bytes}
use Rattle.kernel.specs.declared.state.State.{State}
use Rattle.kernel.specs.View.{view_of}

-- ---- what is found of two images, f and r, as they are lent
module _ {f r flash ram : Image} (e : f ≡ flash) (g : r ≡ ram) where
  pub lendable_by : {b : Bool} → b ≡ images_ok f r → images_ok flash ram ≡ b
  lendable_by h = sym (h ∙ (λ i. images_ok (e i) (g i)))

  module _ (base size : ℕ) where
    pub held_by : {b : Bool} → b ≡ is_held (holder f r base size) → is_held (holder flash ram base size) ≡ b
    held_by h = sym (h ∙ (λ i. is_held (holder (e i) (g i) base size)))

    pub part_by : {o : Optional (List ℕ)} → o ≡ part_of_found (holder f r base size) base size → unwrap_or o [] ≡ part_of (holder flash ram base size) base size
    part_by h = ap (λ (o : Optional (List ℕ)). unwrap_or o []) (h ∙ (λ i. part_of_found (holder (e i) (g i) base size) base size)) ∙ found (holder flash ram base size)
      where
        found : (h : Option Image) → unwrap_or (part_of_found h base size) [] ≡ part_of h base size
        found none = refl
        found (some x) = refl

module _ (s : State) (d : ℤ) (base size : ℕ) (flash ram : Image) where
  pub out_ctx : s.closed ≡ false → Refused e_ctx ≡ passed (hand_out (view_of s) d base size flash ram)
  unfolding hand_out
  out_ctx h = rw h

  module _ (c : s.closed ≡ true) where
    pub out_par : images_ok flash ram ≡ false → Refused e_par ≡ passed (hand_out (view_of s) d base size flash ram)
    unfolding hand_out
    out_par k = λ i. passed (refuse_if (not (sym c i)) e_ctx (refuse_if (not (sym k i)) e_par (once_allowed (verdict (view_of s) d base size read_alone) (refuse_if (not (is_held (holder flash ram base size))) e_noexs none))))

    module _ (k : images_ok flash ram ≡ true) where
      lent : once_allowed (verdict (view_of s) d base size read_alone) (refuse_if (not (is_held (holder flash ram base size))) e_noexs none) ≡ hand_out (view_of s) d base size flash ram
      unfolding hand_out
      lent = λ i. refuse_if (not (sym c i)) e_ctx (refuse_if (not (sym k i)) e_par (once_allowed (verdict (view_of s) d base size read_alone) (refuse_if (not (is_held (holder flash ram base size))) e_noexs none)))

      -- the verdict refuses
      pub out_refused : {e : Refusal} → passed (verdict (view_of s) d base size read_alone) ≡ Refused e → Refused e ≡ passed (hand_out (view_of s) d base size flash ram)
      out_refused {e} h =
          ap (λ (o : Option Refusal). passed (once_allowed o (refuse_if (not (is_held (holder flash ram base size))) e_noexs none))) (sym (passed_err (verdict (view_of s) d base size read_alone) h)) ∙ ap passed lent

      -- it allows
      module _ (h : passed (verdict (view_of s) d base size read_alone) ≡ Ok tt) where
        allowed : (b : Bool) → is_held (holder flash ram base size) ≡ b → refuse_if (not b) e_noexs none ≡ hand_out (view_of s) d base size flash ram
        allowed b e = (let n = passed_ok (verdict (view_of s) d base size read_alone) h in λ i. once_allowed (sym n i) (refuse_if (not (sym e i)) e_noexs none)) ∙ lent

        pub out_noexs : is_held (holder flash ram base size) ≡ false → Refused e_noexs ≡ passed (hand_out (view_of s) d base size flash ram)
        out_noexs e = ap passed (allowed false e)

        pub out_ok : is_held (holder flash ram base size) ≡ true → Ok tt ≡ passed (hand_out (view_of s) d base size flash ram)
        out_ok e = ap passed (allowed true e)

  -- the bytes, by what the same inputs' checks give
  module _ {k : Result Unit Refusal} (e : k ≡ passed (hand_out (view_of s) d base size flash ram)) where
    pub part_refused : is_err k ≡ true → [] ≡ handed_bytes (view_of s) d base size flash ram
    unfolding handed_bytes
    part_refused h =
        ap (λ (o : Option Refusal). unless_refused o (part_of (holder flash ram base size) base size)) (sym (passed_some (hand_out (view_of s) d base size flash ram) e h).1)

    pub part_ok : is_err k ≡ false → part_of (holder flash ram base size) base size ≡ handed_bytes (view_of s) d base size flash ram
    unfolding handed_bytes
    part_ok h = ap (λ (o : Option Refusal). unless_refused o (part_of (holder flash ram base size) base size)) (sym (passed_none (hand_out (view_of s) d base size flash ram) e h))
