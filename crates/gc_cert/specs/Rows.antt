-- Worked rows.
use Rattle.std.specs.Prelude.{◌≡◌, true, false, [], ◌∷◌, ◌++◌, replicate, codes}
use Rattle.gc_words.specs.Image.{Image}
use Rattle.gc_cert.specs.Grammar.{CertifiedPair, lines_of}
use Rattle.gc_cert.specs.Faults.{IsReadAsPair, IsPairFaultOf}
use Rattle.gc_cert.specs.declared.fault.PairFault.TheVariants.{BadLine, EndsEarly}

abbrev pub least_image : Image
least_image = record { size = 1; end = 1; words = 0 ∷ []; roots = 0 ∷ []; raws = false }

abbrev pub least : CertifiedPair
least = record { old = least_image; new = least_image; pairs = [] }

-- the same in a text that has raw headers
abbrev pub least_with_raws : CertifiedPair
least_with_raws = record { old = record least_image { raws = true }; new = record least_image { raws = true }; pairs = [] }

-- one object is kept, and one is left behind
abbrev pub one_kept : CertifiedPair
one_kept = record {
  old = record { size = 9; end = 9; words = 0 ∷ 16842754 ∷ 0 ∷ 0 ∷ 0 ∷ 16842754 ∷ 1 ∷ 0 ∷ 0 ∷ []; roots = replicate 16 0 ++ 10 ∷ replicate 15 0; raws = true };
  new = record { size = 9; end = 5; words = 0 ∷ 16842754 ∷ 5 ∷ 0 ∷ 0 ∷ []; roots = replicate 16 0 ++ 2 ∷ replicate 15 0; raws = true };
  pairs = (5, 1) ∷ [];
}

pub record Rows : Type 0 where
  pub least_read : IsReadAsPair least (codes "heappair 1\nold 1 1\n0\nroots 1\n0\nnew 1 1\n0\nroots 1\n0\npairs 0\nend\n")
  pub raws_read : IsReadAsPair least_with_raws (codes "heappair 2\nold 1 1\n0\nroots 1\n0\nnew 1 1\n0\nroots 1\n0\npairs 0\nend\n")
  pub without_end : IsPairFaultOf EndsEarly (codes "heappair 1\nold 1 1\n0\nroots 1\n0\nnew 1 1\n0\nroots 1\n0\npairs 0\n")
  pub unfinished_end : IsPairFaultOf EndsEarly (codes "heappair 1\nold 1 1\n0\nroots 1\n0\nnew 1 1\n0\nroots 1\n0\npairs 0\nend")
  pub nothing : IsPairFaultOf EndsEarly []
  pub no_line : IsPairFaultOf EndsEarly (codes "x")
  pub no_version : IsPairFaultOf (BadLine 1) (codes "heappair 3\n")
  pub behind : IsPairFaultOf (BadLine 12) (codes "heappair 1\nold 1 1\n0\nroots 1\n0\nnew 1 1\n0\nroots 1\n0\npairs 0\nend\nx\n")
  pub line_feed_behind : IsPairFaultOf (BadLine 12) (codes "heappair 1\nold 1 1\n0\nroots 1\n0\nnew 1 1\n0\nroots 1\n0\npairs 0\nend\n\n")
  pub long_end : IsPairFaultOf (BadLine 11) (codes "heappair 1\nold 1 1\n0\nroots 1\n0\nnew 1 1\n0\nroots 1\n0\npairs 0\nendx\n")
  pub kept : lines_of one_kept
      ≡ codes "heappair 2" ∷ codes "old 9 9" ∷ codes "0" ∷ codes "16842754" ∷ codes "0" ∷ codes "0" ∷ codes "0" ∷ codes "16842754" ∷ codes "1" ∷ codes "0" ∷ codes "0"
      ∷ codes "roots 32" ∷ replicate 16 (codes "0") ++ codes "10" ∷ replicate 15 (codes "0")
      ++ codes "new 9 5" ∷ codes "0" ∷ codes "16842754" ∷ codes "5" ∷ codes "0" ∷ codes "0"
      ∷ codes "roots 32" ∷ replicate 16 (codes "0") ++ codes "2" ∷ replicate 15 (codes "0")
      ++ codes "pairs 1" ∷ codes "5 1" ∷ codes "end" ∷ []
