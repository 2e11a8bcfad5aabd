-- What a flip asks about: an image without its words.
use Rattle.std.specs.Prelude.{ℕ, Bool, List, ◌++◌, length, replicate}
use Rattle.gc_words.specs.Image.{Image}
use Rattle.gc_monitor.specs.declared.outline.Outline.{Outline}

-- the numbers of an image, how many words it has, and its root words
pub record ImageOutline : Type 0 where
  pub size : ℕ
  pub end : ℕ
  pub count : ℕ
  pub roots : List ℕ
  pub raws : Bool

abbrev pub outline_of : Image → ImageOutline
outline_of image = record { size = image.size; end = image.end; count = length image.words; roots = image.roots; raws = image.raws }

-- the program's outline: nils follow its first roots
abbrev pub outline_in : Outline → ImageOutline
outline_in outline = record { size = outline.size; end = outline.end; count = outline.count; roots = outline.roots.now ++ replicate outline.nils 0; raws = outline.raws }
