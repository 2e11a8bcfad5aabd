-- What contracts see of images and pair files.
use Rattle.std.specs.Prelude.{List, map}
use Rattle.gc_words.specs.Image.{Image}
use Rattle.gc_words.specs.Views.{image_of, addresses}
use Rattle.gc_words.specs.declared.image.ImageRef.{ImageRef}
use Rattle.gc_words.specs.declared.image.Pair.{Pair}
use Rattle.gc_cert.specs.Grammar.{CertifiedPair}
use Rattle.gc_cert.specs.declared.image.Image as declared
use Rattle.gc_cert.specs.declared.image.PairFile.{PairFile}

abbrev pub image_in : declared.Image → Image
image_in image = record { size = image.size; end = image.end; words = image.words.items; roots = image.roots.items; raws = image.raws }

abbrev pub pair_in : PairFile → CertifiedPair
pair_in file = record { old = image_in file.old; new = image_in file.new; pairs = map addresses file.pairs.items }

-- borrowed images and pairs
abbrev pub pair_of : ImageRef → ImageRef → List Pair → CertifiedPair
pair_of old new pairs = record { old = image_of old; new = image_of new; pairs = map addresses pairs }
