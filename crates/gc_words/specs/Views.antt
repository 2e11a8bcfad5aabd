-- What the program's types mean.
use Rattle.std.specs.Prelude.{ℕ}
use Rattle.gc_graph.specs.Graph.{Value, Nil, Num, Ref}
use Rattle.gc_words.specs.Image.{Image}
use Rattle.gc_words.specs.declared.value.Value as declared
use Rattle.gc_words.specs.declared.value.Value.TheVariants as variants
use Rattle.gc_words.specs.declared.image.ImageRef.{ImageRef}
use Rattle.gc_words.specs.declared.image.Pair.{Pair}

-- a value as a value of a graph: names are addresses
abbrev pub graph_value : declared.Value → Value
graph_value variants.Nil = Nil
graph_value (variants.Num n) = Num n
graph_value (variants.Ref address) = Ref address.0

abbrev pub image_of : ImageRef → Image
image_of image = record { size = image.size; end = image.end; words = image.words.now; roots = image.roots.now; raws = image.raws }

-- (old address, new address)
abbrev pub addresses : Pair → ℕ × ℕ
addresses pair = (pair.old.0, pair.new.0)
