-- Pairs of images that have a text, whatever numbers are in them.
use Rattle.std.specs.Prelude.{◌≡◌, ◌≤◌, length}
use Rattle.gc_graph.specs.Limits.{most_words, most_roots, most_pairs}
use Rattle.gc_words.specs.Image.{IsShaped}
use Rattle.gc_cert.specs.Grammar.{CertifiedPair}

-- both images are shaped and small enough, raw headers count in both or in neither, and there are few enough roots and pairs
pub record HasCounts (f : CertifiedPair) : Type 0 where
  pub old : IsShaped f.old
  pub new : IsShaped f.new
  pub old_small : f.old.size ≤ most_words
  pub new_small : f.new.size ≤ most_words
  pub raws : f.old.raws ≡ f.new.raws
  pub old_roots : length f.old.roots ≤ most_roots
  pub new_roots : length f.new.roots ≤ most_roots
  pub pairs : length f.pairs ≤ most_pairs
