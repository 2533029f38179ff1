-- Handing out the bytes (document 02, T-13): its sentences, each by plain facts of the table and the images
use mathlib.Core.Path.{◌≡◌, refl, sym, ap, ◌∙◌, subst}
use mathlib.Core.Logic.{◌≢◌, ◌⊎◌, inl, inr, ⊎_elim}
use mathlib.Core.Bool.{Bool, true, false, cond, not, ◌||◌}
use mathlib.Core.List.{List, []}
use mathlib.Core.Option.{Option, none, some}
use Prim.Native.Nat.{ℕ, ◌+◌, ◌-◌, ◌≤◌, ◌<◌}
use native.Mathlib.Omega.{arith}
use native.Mathlib.Nat.{lt_of_not-le}
use borrow.Author.Tests.{leb-true, leb-false}
use lib.Dec.{leb}
use lib.IntN.{ℤ}
use lib.ListN.{length, take, drop, get_or, length-drop}
use lib.Seq.{length-take-le, get_or-take, get_or-drop, ext_get_or}
use Rattle.itron.specs.Codes.{ok_number}
use Rattle.itron.specs.declared.error.Error.{Error as Refusal}
use Rattle.itron.specs.declared.error.Error.TheVariants.{Ctx as e_ctx, Par as e_par, Noexs as e_noexs}
use Rattle.itron.specs.Limits.{address_end}
use Rattle.model.specs.State.{State, set_levels}
use Rattle.model.specs.Answers.{refuse_if, result_of}
use Rattle.model.specs.Verdict.{verdict}
use Rattle.model.specs.Images.{Image, image, image_end, apart, images_ok, lies_in, holder, is_held, once_allowed, hand_out, part_in, part_of, unless_refused, handed_bytes}
use Rattle.model.proofs.Lists.{no_both}
use Rattle.model.proofs.Tests.{Tells, le_tells, eq_tells, and_tells, or_tells, iff_tells, true_tells, passes_on, stops_at, passed_by}
use Rattle.model.proofs.Tests as Tests
use Rattle.model.proofs.Numbers.{refusal_negative}
use Rattle.model.proofs.Verdict.{GrantedAt, ok_only, ok_everywhere}

-- ---- images, by their addresses
abbrev pub InImage : ℕ → Image → Type 0
InImage a i = (i.base ≤ a) × (a < i.base + length i.bytes)

-- "Images that overlap": an address is in both
abbrev pub Overlap : Image → Image → Type 0
Overlap i j = (a : ℕ) × (InImage a i × InImage a j)

-- images that do not overlap, and whose base plus length does not pass 2^32
abbrev pub Lendable : Image → Image → Type 0
Lendable i j = ((i.base + length i.bytes ≤ address_end) × (j.base + length j.bytes ≤ address_end)) × (Overlap i j → ⊥)

-- an area begins and ends within an image
abbrev pub Within : ℕ → ℕ → Image → Type 0
Within base size i = (i.base ≤ base) × (base + size ≤ i.base + length i.bytes)

-- it is "wholly in one image": each of its addresses is
abbrev pub Wholly : ℕ → ℕ → Image → Type 0
Wholly base size i = (a : ℕ) → base ≤ a → a < base + size → InImage a i

-- what is lent is what the rules see: a base address and a list of bytes
pub image_lent : (b : ℕ) (l : List ℕ) → ((image b l).base ≡ b) × ((image b l).bytes ≡ l)
image_lent b l = (refl, refl)

-- "An empty image overlaps nothing."
pub empty_overlaps_nothing : (i j : Image) → length i.bytes ≡ 0 → Overlap i j → ⊥
empty_overlaps_nothing i j h o = let a = o.0 in let p = o.1.0 in omega (arith, p)

-- images that touch do not overlap
pub touching_apart : (i j : Image) → i.base + length i.bytes ≡ j.base → Overlap i j → ⊥
touching_apart i j h o = omega (arith, o.1.0, o.1.1)

-- an area is wholly in one image at most
pub one_image : (i j : Image) (base size : ℕ) → Lendable i j → 1 ≤ size → Wholly base size i → Wholly base size j → ⊥
one_image i j base size l h v w = l.1 (base, (v base (omega arith) (omega arith), w base (omega arith) (omega arith)))

-- ---- the tests tell these facts
-- one is empty, or one ends where the other begins or before
abbrev Apart : Image → Image → Type 0
Apart i j = (((length i.bytes ≡ 0) ⊎ (length j.bytes ≡ 0)) ⊎ (image_end i ≤ j.base)) ⊎ (image_end j ≤ i.base)

apart_overlap : (i j : Image) → Apart i j → Overlap i j → ⊥
apart_overlap i j (inl (inl (inl h))) o = empty_overlaps_nothing i j h o
apart_overlap i j (inl (inl (inr h))) o = empty_overlaps_nothing j i h (o.0, (o.1.1, o.1.0))
apart_overlap i j (inl (inr h)) o = omega (arith, o.1.0, o.1.1)
apart_overlap i j (inr h) o = omega (arith, o.1.0, o.1.1)

-- else the later of the two bases is in both
overlap_else : (i j : Image) → (Apart i j → ⊥) → Overlap i j
overlap_else i j f = go (leb i.base j.base) refl
  where
    u : j.base < image_end i
    u = lt_of_not-le (λ h. f (inl (inr h)))

    v : i.base < image_end j
    v = lt_of_not-le (λ h. f (inr h))

    x : length i.bytes ≢ 0
    x h = f (inl (inl (inl h)))

    y : length j.bytes ≢ 0
    y h = f (inl (inl (inr h)))

    go : (b : Bool) → leb i.base j.base ≡ b → Overlap i j
    go true e = (j.base, ((leb-true i.base j.base e, u), (omega arith, omega (arith, y))))
    go false e = (i.base, ((omega arith, omega (arith, x)), (omega (arith, leb-false i.base j.base e), v)))

apart_tells : (i j : Image) → Tells (apart i j) (Overlap i j → ⊥)
apart_tells i j = record { yes = λ h. apart_overlap i j (t.yes h); no = λ h f. f (overlap_else i j (t.no h)) }
  where
    t : Tells (apart i j) (Apart i j)
    t = or_tells (or_tells (or_tells (eq_tells (length i.bytes) 0) (eq_tells (length j.bytes) 0)) (le_tells (image_end i) j.base)) (le_tells (image_end j) i.base)

images_tells : (i j : Image) → Tells (images_ok i j) (Lendable i j)
images_tells i j = and_tells (and_tells (le_tells (image_end i) address_end) (le_tells (image_end j) address_end)) (apart_tells i j)

pub lies_tells : (i : Image) (base size : ℕ) → Tells (lies_in i base size) (Within base size i)
lies_tells i base size = and_tells (le_tells i.base base) (le_tells (base + size) (image_end i))

wholly_tells : (i : Image) (base size : ℕ) → 1 ≤ size → Tells (lies_in i base size) (Wholly base size i)
wholly_tells i base size h = iff_tells (λ p a l k. (omega (arith, p.0), omega (arith, p.1))) back (lies_tells i base size)
  where
    back : Wholly base size i → Within base size i
    back f = ((f base (omega arith) (omega arith)).0, let k = f (base + size - 1) (omega arith) (omega arith) in omega (arith, k.1))

-- ---- which of two images holds an area, by the tests on each
abbrev held_by : Image → Image → Bool → Bool → Option Image
held_by i j a b = cond a (some i) (cond b (some j) none)

either : (i j : Image) (a b : Bool) → a || b ≡ is_held (held_by i j a b)
either i j true b = refl
either i j false true = refl
either i j false false = refl

module _ (i j : Image) (base size : ℕ) where
  pub held_either : lies_in i base size || lies_in j base size ≡ is_held (holder i j base size)
  held_either = either i j (lies_in i base size) (lies_in j base size)

  pub held_first : lies_in i base size ≡ true → holder i j base size ≡ some i
  held_first h = ap (λ (a : Bool). held_by i j a (lies_in j base size)) h

  module _ (h : lies_in i base size ≡ false) where
    pub held_second : lies_in j base size ≡ true → holder i j base size ≡ some j
    held_second k = λ x. held_by i j (h x) (k x)

    pub held_by_none : lies_in j base size ≡ false → holder i j base size ≡ none
    held_by_none k = λ x. held_by i j (h x) (k x)

  held_tells : 1 ≤ size → Tells (is_held (holder i j base size)) (Wholly base size i ⊎ Wholly base size j)
  held_tells h = subst (λ (b : Bool). Tells b (Wholly base size i ⊎ Wholly base size j)) held_either (or_tells (wholly_tells i base size h) (wholly_tells j base size h))

-- ---- the bytes of an area, by their addresses
-- what stands at an address of an image
abbrev pub byte_at : Image → ℕ → ℕ
byte_at i a = get_or i.bytes (a - i.base) 0

-- "that part of the image in which the area lies, just the area": as many bytes, each that of its address
pub record Part (i : Image) (base size : ℕ) (l : List ℕ) : Type 0 where
  pub count : length l ≡ size
  pub each : (k : ℕ) → k < size → get_or l k 0 ≡ byte_at i (base + k)

-- of any area within an image, also of an empty one
pub part_is : (i : Image) (base size : ℕ) → Within base size i → Part i base size (part_in i base size)
part_is i base size q =
    let r = base - i.base in
    let n : size ≤ length (drop r i.bytes) = rw length-drop (omega (arith, q.0, q.1)) in
    record {
      count = length-take-le size (drop r i.bytes) n;
      each = λ k l.
          get_or-take size (drop r i.bytes) k 0 l
          ∙ get_or-drop r i.bytes k 0
          ∙ ap (λ (x : ℕ). get_or i.bytes x 0) (let e : r + k ≡ base + k - i.base = omega (arith, q.0) in e);
    }

-- of an area that is within neither image there is none
pub none_of : (i j : Image) (base size : ℕ) → (Within base size i → ⊥) → (Within base size j → ⊥) → part_of (holder i j base size) base size ≡ []
none_of i j base size f g = ap (λ (o : Option Image). part_of o base size) (held_by_none i j base size (Tests.fails (lies_tells i base size) f) (Tests.fails (lies_tells j base size) g))

-- ---- the hand-out from a table s, asked for a domain, an area and two images; first hit wins
module _ (s : State) (d : ℤ) (base size : ℕ) (flash ram : Image) where
  -- "before all other checks except E_CTX"
  pub hand_ctx : s.fixed.closed ≡ false → hand_out s d base size flash ram ≡ some e_ctx
  unfolding hand_out
  hand_ctx h = stops_at (true_tells s.fixed.closed) _ _ (λ k. no_both k h)

  module _ (c : s.fixed.closed ≡ true) where
    -- "Images that overlap, or whose base plus length passes 2^32, are E_PAR", whatever the domain and the area
    pub hand_par : (Lendable flash ram → ⊥) → hand_out s d base size flash ram ≡ some e_par
    unfolding hand_out
    hand_par f = passes_on (true_tells s.fixed.closed) _ _ c ∙ stops_at (images_tells flash ram) _ _ f

    module _ (l : Lendable flash ram) where
      lent : hand_out s d base size flash ram ≡ once_allowed (verdict s d base size 2) (refuse_if (not (is_held (holder flash ram base size))) e_noexs none)
      unfolding hand_out
      lent = passes_on (true_tells s.fixed.closed) _ _ c ∙ passes_on (images_tells flash ram) _ _ l

      -- "If the verdict allows reading" (bit value 2): else its code
      pub hand_refused : (e : Refusal) → verdict s d base size 2 ≡ some e → hand_out s d base size flash ram ≡ some e
      hand_refused e h = lent ∙ ap (λ (o : Option Refusal). once_allowed o (refuse_if (not (is_held (holder flash ram base size))) e_noexs none)) h

      module _ (v : verdict s d base size 2 ≡ none) where
        sized : 1 ≤ size
        sized = (ok_only s d base size 2 v).area.0.0

        allowed : hand_out s d base size flash ram ≡ refuse_if (not (is_held (holder flash ram base size))) e_noexs none
        allowed = lent ∙ ap (λ (o : Option Refusal). once_allowed o (refuse_if (not (is_held (holder flash ram base size))) e_noexs none)) v

        -- "An area that the verdict allows but that isn't wholly in one image is E_NOEXS."
        pub hand_noexs : (Wholly base size flash → ⊥) → (Wholly base size ram → ⊥) → hand_out s d base size flash ram ≡ some e_noexs
        hand_noexs f g = allowed ∙ stops_at (held_tells flash ram base size sized) _ _ (λ w. neither w)
          where
            neither : Wholly base size flash ⊎ Wholly base size ram → ⊥
            neither (inl w) = f w
            neither (inr w) = g w

        -- so is one that has addresses in both, as along a chain of regions from flash into RAM that touches it
        pub hand_across : (a b : ℕ) → (base ≤ a) × (a < base + size) → (base ≤ b) × (b < base + size) → InImage a flash → InImage b ram → hand_out s d base size flash ram ≡ some e_noexs
        hand_across a b p q x y = hand_noexs (λ w. l.1 (b, (w b q.0 q.1, y))) (λ w. l.1 (a, (x, w a p.0 p.1)))

        -- "hand back that part of the image in which the area lies"
        pub hand_ok : Wholly base size flash ⊎ Wholly base size ram → hand_out s d base size flash ram ≡ none
        hand_ok w = allowed ∙ passes_on (held_tells flash ram base size sized) _ _ w

        handed : Wholly base size flash ⊎ Wholly base size ram → (i : Image) → holder flash ram base size ≡ some i → Wholly base size i → Part i base size (handed_bytes s d base size flash ram)
        unfolding handed_bytes
        handed w i e h =
            let o = hand_ok w in
            let p : part_in i base size ≡ handed_bytes s d base size flash ram = λ x. unless_refused (sym o x) (part_of (sym e x) base size) in
            subst (λ (l : List ℕ). Part i base size l) p (part_is i base size ((lies_tells i base size).yes (Tests.holds (wholly_tells i base size sized) h)))

        pub hand_flash : Wholly base size flash → Part flash base size (handed_bytes s d base size flash ram)
        hand_flash w = handed (inl w) flash (held_first flash ram base size (Tests.holds (wholly_tells flash base size sized) w)) w

        pub hand_ram : Wholly base size ram → Part ram base size (handed_bytes s d base size flash ram)
        hand_ram w =
            let f = Tests.fails (wholly_tells flash base size sized) (λ v. one_image flash ram base size l sized v w) in
            handed (inr w) ram (held_second flash ram base size f (Tests.holds (wholly_tells ram base size sized) w)) w

  -- "A refusal hands back an empty part"
  pub refused_empty : (e : Refusal) → hand_out s d base size flash ram ≡ some e → handed_bytes s d base size flash ram ≡ []
  unfolding handed_bytes
  refused_empty e h = ap (λ (o : Option Refusal). unless_refused o (part_of (holder flash ram base size) base size)) h

-- ---- E_OK only where the images can be lent, the verdict allows reading, and one of them has the whole area; then l is its part
pub record HandedOut (s : State) (d : ℤ) (base size : ℕ) (flash ram : Image) (l : List ℕ) : Type 0 where
  pub closed : s.fixed.closed ≡ true
  pub lendable : Lendable flash ram
  pub allowed : verdict s d base size 2 ≡ none
  pub whole : (Wholly base size flash × Part flash base size l) ⊎ (Wholly base size ram × Part ram base size l)

once_allowed_lem : (o r : Option Refusal) → once_allowed o r ≡ none → (o ≡ none) × (r ≡ none)
once_allowed_lem none r h = (refl, h)
once_allowed_lem (some e) r h = absurd (let z : ◌≡◌ {A = ℕ} 0 1 = cc in omega arith)

module _ (s : State) (d : ℤ) (base size : ℕ) (flash ram : Image) where
  pub handed_only : hand_out s d base size flash ram ≡ none → HandedOut s d base size flash ram (handed_bytes s d base size flash ram)
  unfolding hand_out
  handed_only h =
      let c = passed_by (true_tells s.fixed.closed) _ _ h in
      let l = passed_by (images_tells flash ram) _ _ c.1 in
      let v = once_allowed_lem (verdict s d base size 2) (refuse_if (not (is_held (holder flash ram base size))) e_noexs none) l.1 in
      let n = (ok_only s d base size 2 v.0).area.0.0 in
      let w = (passed_by (held_tells flash ram base size n) e_noexs none v.1).0 in
      record { closed = c.0; lendable = l.0; allowed = v.0; whole = by_image c.0 l.0 v.0 w }
    where
      by_image : s.fixed.closed ≡ true → Lendable flash ram → verdict s d base size 2 ≡ none → Wholly base size flash ⊎ Wholly base size ram → (Wholly base size flash × Part flash base size (handed_bytes s d base size flash ram)) ⊎ (Wholly base size ram × Part ram base size (handed_bytes s d base size flash ram))
      by_image c l v (inl w) = inl (w, hand_flash s d base size flash ram c l v w)
      by_image c l v (inr w) = inr (w, hand_ram s d base size flash ram c l v w)

  handed_size : hand_out s d base size flash ram ≡ none → (1 ≤ size) × (length (handed_bytes s d base size flash ram) ≡ size)
  handed_size h = let k = handed_only h in ((ok_only s d base size 2 k.allowed).area.0.0, ⊎_elim (λ w. w.1.count) (λ w. w.1.count) k.whole)

  -- each byte that is handed out is at an address of a region that the domain may read
  pub handed_readable : hand_out s d base size flash ram ≡ none → (k : ℕ) → k < length (handed_bytes s d base size flash ram) → GrantedAt s.fixed.regions d 2 (base + k)
  handed_readable h k l = let n = (handed_size h).1 in ok_everywhere s d base size 2 (handed_only h).allowed (base + k) (omega arith) (omega arith)

  -- the verdict's, and so the hand-out's, level is 0 (request T-03)
  pub hand_any_levels : (ls : List ℕ) → hand_out (set_levels s ls) d base size flash ram ≡ hand_out s d base size flash ram
  unfolding hand_out verdict
  hand_any_levels ls = refl

-- ---- the part is empty exactly if the code is not E_OK
pub record EmptyUnlessOk (code : ℤ) (l : List ℕ) : Type 0 where
  pub empty : code ≢ ok_number → l ≡ []
  pub filled : code ≡ ok_number → l ≢ []

pub empty_exactly : (s : State) (d : ℤ) (base size : ℕ) (flash ram : Image) → EmptyUnlessOk (result_of (hand_out s d base size flash ram)) (handed_bytes s d base size flash ram)
empty_exactly s d base size flash ram = go (hand_out s d base size flash ram) refl
  where
    go : (o : Option Refusal) → hand_out s d base size flash ram ≡ o → EmptyUnlessOk (result_of o) (handed_bytes s d base size flash ram)
    go none h = record { empty = λ f. absurd (f refl); filled = λ e k. let n = handed_size s d base size flash ram h in let z = ap length k in omega (arith, n.0, n.1) }
    go (some e) h = record { empty = λ f. refused_empty s d base size flash ram e h; filled = λ k. absurd (refused k) }
      where
        refused : result_of (some e) ≡ ok_number → ⊥
        refused k = let n = refusal_negative e in let z : ◌≡◌ {A = ℕ} 0 1 = cc n.1 in omega arith

-- ---- these sentences leave nothing open: a code and bytes of which they hold are the hand-out's
pub record Meets (s : State) (d : ℤ) (base size : ℕ) (flash ram : Image) (o : Option Refusal) (l : List ℕ) : Type 0 where
  pub ctx : s.fixed.closed ≡ false → o ≡ some e_ctx
  pub par : s.fixed.closed ≡ true → (Lendable flash ram → ⊥) → o ≡ some e_par
  pub refused : s.fixed.closed ≡ true → Lendable flash ram → (e : Refusal) → verdict s d base size 2 ≡ some e → o ≡ some e
  pub noexs : s.fixed.closed ≡ true → Lendable flash ram → verdict s d base size 2 ≡ none → (Wholly base size flash → ⊥) → (Wholly base size ram → ⊥) → o ≡ some e_noexs
  pub fine : s.fixed.closed ≡ true → Lendable flash ram → verdict s d base size 2 ≡ none → Wholly base size flash ⊎ Wholly base size ram → o ≡ none
  pub in_flash : s.fixed.closed ≡ true → Lendable flash ram → verdict s d base size 2 ≡ none → Wholly base size flash → Part flash base size l
  pub in_ram : s.fixed.closed ≡ true → Lendable flash ram → verdict s d base size 2 ≡ none → Wholly base size ram → Part ram base size l
  pub none_handed : (e : Refusal) → o ≡ some e → l ≡ []

one_part : (i : Image) (base size : ℕ) (l m : List ℕ) → Part i base size l → Part i base size m → l ≡ m
one_part i base size l m p q = ext_get_or 0 l m (p.count ∙ sym q.count) (λ k h. let n = p.count in p.each k (omega arith) ∙ sym (q.each k (omega arith)))

module _ (s : State) (d : ℤ) (base size : ℕ) (flash ram : Image) where
  pub meets : Meets s d base size flash ram (hand_out s d base size flash ram) (handed_bytes s d base size flash ram)
  meets = record {
    ctx = hand_ctx s d base size flash ram;
    par = hand_par s d base size flash ram;
    refused = hand_refused s d base size flash ram;
    noexs = hand_noexs s d base size flash ram;
    fine = hand_ok s d base size flash ram;
    in_flash = hand_flash s d base size flash ram;
    in_ram = hand_ram s d base size flash ram;
    none_handed = refused_empty s d base size flash ram;
  }

  module _ (o q : Option Refusal) (l m : List ℕ) (t : Meets s d base size flash ram o l) (u : Meets s d base size flash ram q m) where
    refusals : (e : Refusal) → o ≡ some e → q ≡ some e → (o ≡ q) × (l ≡ m)
    refusals e h k = (h ∙ sym k, t.none_handed e h ∙ sym (u.none_handed e k))

    pub one_answer : (o ≡ q) × (l ≡ m)
    one_answer = by_closed s.fixed.closed refl
      where
        by_place : s.fixed.closed ≡ true → Lendable flash ram → verdict s d base size 2 ≡ none → (a b : Bool) → lies_in flash base size ≡ a → lies_in ram base size ≡ b → (o ≡ q) × (l ≡ m)
        by_place c n v true b f g =
            let w = (wholly_tells flash base size (ok_only s d base size 2 v).area.0.0).yes f in
            (t.fine c n v (inl w) ∙ sym (u.fine c n v (inl w)), one_part flash base size l m (t.in_flash c n v w) (u.in_flash c n v w))
        by_place c n v false true f g =
            let w = (wholly_tells ram base size (ok_only s d base size 2 v).area.0.0).yes g in
            (t.fine c n v (inr w) ∙ sym (u.fine c n v (inr w)), one_part ram base size l m (t.in_ram c n v w) (u.in_ram c n v w))
        by_place c n v false false f g =
            let z = (ok_only s d base size 2 v).area.0.0 in
            let x = (wholly_tells flash base size z).no f in
            let y = (wholly_tells ram base size z).no g in
            refusals e_noexs (t.noexs c n v x y) (u.noexs c n v x y)

        by_verdict : s.fixed.closed ≡ true → Lendable flash ram → (v : Option Refusal) → verdict s d base size 2 ≡ v → (o ≡ q) × (l ≡ m)
        by_verdict c n (some e) v = refusals e (t.refused c n e v) (u.refused c n e v)
        by_verdict c n none v = by_place c n v (lies_in flash base size) (lies_in ram base size) refl refl

        by_images : s.fixed.closed ≡ true → (b : Bool) → images_ok flash ram ≡ b → (o ≡ q) × (l ≡ m)
        by_images c true k = by_verdict c ((images_tells flash ram).yes k) (verdict s d base size 2) refl
        by_images c false k = let n = (images_tells flash ram).no k in refusals e_par (t.par c n) (u.par c n)

        by_closed : (b : Bool) → s.fixed.closed ≡ b → (o ≡ q) × (l ≡ m)
        by_closed true c = by_images c (images_ok flash ram) refl
        by_closed false c = refusals e_ctx (t.ctx c) (u.ctx c)
