-- Handing out the bytes of an area out of two lent images (document 02, T-13). Definitions only.
use Rattle.std.specs.Prelude.{Bool, true, false, cond, not, ◌&&◌, ◌||◌, List, [], ℕ, ◌+◌, ◌-◌, eqb, leb, ℤ, length, take, drop}
use Rattle.std.proofs.Math.Option.{Option, none, some}
use Rattle.itron.specs.declared.error.Error.{Error as Refusal}
use Rattle.itron.specs.declared.error.Error.TheVariants.{Ctx as e_ctx, Par as e_par, Noexs as e_noexs}
use Rattle.itron.specs.Limits.{address_end}
use Rattle.model.specs.State.{State}
use Rattle.model.specs.Answers.{refuse_if}
use Rattle.model.specs.Verdict.{verdict}

-- an image: its base address and its bytes
pub record Image : Type 0 where
  pub base : ℕ
  pub bytes : List ℕ

abbrev pub image : ℕ → List ℕ → Image
image b l = record { base = b; bytes = l }

-- base plus length: the first address past an image
abbrev pub image_end : Image → ℕ
image_end i = i.base + length i.bytes

-- ---- the images that can be lent
-- whether an image ends at an address or before it
abbrev pub ends_by : Image → ℕ → Bool
ends_by i a = leb (image_end i) a

abbrev pub is_empty : Image → Bool
is_empty i = eqb (length i.bytes) 0

-- an empty image overlaps nothing, and images that touch do not overlap
abbrev pub apart : Image → Image → Bool
apart i j = is_empty i || is_empty j || ends_by i j.base || ends_by j i.base

-- images that overlap, or whose base plus length passes 2^32: E_PAR
abbrev pub images_ok : Image → Image → Bool
images_ok flash ram = ends_by flash address_end && ends_by ram address_end && apart flash ram

-- ---- the image in which an area lies
-- whether an area lies wholly in an image
abbrev pub lies_in : Image → ℕ → ℕ → Bool
lies_in i base size = leb i.base base && leb (base + size) (image_end i)

-- which image holds the area, if one does
abbrev pub holder : Image → Image → ℕ → ℕ → Option Image
holder flash ram base size = cond (lies_in flash base size) (some flash) (cond (lies_in ram base size) (some ram) none)

abbrev pub is_held : Option Image → Bool
is_held none = false
is_held (some i) = true

-- ---- the code
-- the wish: read (bit value 2) alone
abbrev pub read_alone : ℕ
read_alone = 2

-- what the verdict refuses, and where it allows, what is found then
abbrev pub once_allowed : Option Refusal → Option Refusal → Option Refusal
once_allowed none r = r
once_allowed (some e) r = some e

-- first hit wins: table not closed E_CTX; bad images E_PAR; then the verdict on reading; an area that is not wholly in one image E_NOEXS
unfoldable pub hand_out : State → ℤ → ℕ → ℕ → Image → Image → Option Refusal
hand_out s d base size flash ram =
    refuse_if (not s.fixed.closed) e_ctx
    (refuse_if (not (images_ok flash ram)) e_par
    (once_allowed (verdict s d base size read_alone)
    (refuse_if (not (is_held (holder flash ram base size))) e_noexs none)))

-- ---- the bytes
-- that part of an image in which the area lies, just the area
abbrev pub part_in : Image → ℕ → ℕ → List ℕ
part_in i base size = take size (drop (base - i.base) i.bytes)

abbrev pub part_of : Option Image → ℕ → ℕ → List ℕ
part_of none base size = []
part_of (some i) base size = part_in i base size

-- a refusal hands back an empty part
abbrev pub unless_refused : Option Refusal → List ℕ → List ℕ
unless_refused none l = l
unless_refused (some e) l = []

unfoldable pub handed_bytes : State → ℤ → ℕ → ℕ → Image → Image → List ℕ
handed_bytes s d base size flash ram = unless_refused (hand_out s d base size flash ram) (part_of (holder flash ram base size) base size)
