-- What is seen of an image that is lent, and the part of one that is handed out. Definitions only.
use Rattle.std.specs.Prelude.{ℕ, List, Option, Some, None}
use Rattle.std.proofs.Math.Option.{Option as Found, none, some}
use Rattle.model.specs.Images as Model
use Rattle.model.specs.Images.{image, part_in}
use Rattle.images.specs.declared.image.Image.{Image}

abbrev pub image_of : Image → Model.Image
image_of i = image i.base i.bytes.now

-- the part of the image that was found in which an area lies
abbrev pub part_of_found : Found Model.Image → ℕ → ℕ → Option (List ℕ)
part_of_found none base size = None
part_of_found (some i) base size = Some (part_in i base size)
