-- An image made of the parts that C passes one by one.
use Rattle.std.specs.Prelude.{ℕ, Bool, List}
use Rattle.gc_words.specs.Image.{Image}

abbrev pub image : ℕ → ℕ → Bool → List ℕ → List ℕ → Image
image size end raws words roots = record { size = size; end = end; words = words; roots = roots; raws = raws }
