-- The text of one image.
use Rattle.std.specs.Prelude.{◌≡◌, ℕ, Bool, List, []}
use Rattle.gc_words.specs.Image.{Image}
use Rattle.gc_cert.specs.Grammar.{image_lines, HasImageText}

-- an image's lines, and no more
abbrev pub image_alone : List ℕ → Image → List (List ℕ)
image_alone name image = image_lines name image []

-- an image in a text whose first line says whether its raw headers count
pub record IsImageBy (raws : Bool) (image : Image) : Type 0 where
  pub fits : HasImageText image
  pub raws_are : image.raws ≡ raws
