-- Two images with the pairs of a certificate, and their one text.
use Rattle.std.specs.Prelude.{◌≡◌, ℕ, ◌<◌, ◌≤◌, ◌^◌, Bool, true, false, List, [], ◌∷◌, ◌++◌, length, map, codes}
use Rattle.std.specs.List.{AllByRecursion}
use Rattle.std.specs.Fmt.{decimal}
use Rattle.gc_graph.specs.Limits.{most_words, most_pairs, most_roots}
use Rattle.gc_text.specs.Lines.{joined, text_of}
use Rattle.gc_words.specs.Image.{Image}

-- what contracts see of a pair file
pub record CertifiedPair : Type 0 where
  pub old : Image
  pub new : Image
  pub pairs : List (ℕ × ℕ)

-- ---- its text, line by line

-- The first line. It says whether headers of raw objects count, in both images.
abbrev pub heading : Bool → List ℕ
heading false = codes "heappair 1"
heading true = codes "heappair 2"

abbrev pub pair_line : ℕ × ℕ → List ℕ
pair_line p = joined (decimal p.0 ∷ decimal p.1 ∷ [])

abbrev pub count_line : List ℕ → ℕ → List ℕ
count_line name n = joined (name ∷ decimal n ∷ [])

abbrev pub size_line : List ℕ → ℕ → ℕ → List ℕ
size_line name size end = joined (name ∷ decimal size ∷ decimal end ∷ [])

-- an image's lines, and those that follow
abbrev pub image_lines : List ℕ → Image → List (List ℕ) → List (List ℕ)
image_lines name image more =
    size_line name image.size image.end ∷ (map decimal image.words ++ (count_line (codes "roots") (length image.roots) ∷ (map decimal image.roots ++ more)))

abbrev pub certificate_lines : List (ℕ × ℕ) → List (List ℕ)
certificate_lines pairs = count_line (codes "pairs") (length pairs) ∷ (map pair_line pairs ++ codes "end" ∷ [])

unfoldable pub lines_of : CertifiedPair → List (List ℕ)
lines_of f = heading f.old.raws ∷ image_lines (codes "old") f.old (image_lines (codes "new") f.new (certificate_lines f.pairs))

unfoldable pub spelling : CertifiedPair → List ℕ
spelling f = text_of (lines_of f)

-- ---- what has a text

abbrev pub IsWord : ℕ → Type 0
IsWord w = w < 2 ^ 64

abbrev pub AreAddresses : ℕ × ℕ → Type 0
AreAddresses p = (p.0 < 2 ^ 32) × (p.1 < 2 ^ 32)

-- Size and end are each in range. An image whose end is above its size has a text; the checker refuses it.
abbrev pub AreSizes : ℕ × ℕ → Type 0
AreSizes s = (1 ≤ s.0) × (s.0 ≤ most_words) × (1 ≤ s.1) × (s.1 ≤ most_words)

abbrev pub IsCertificate : List (ℕ × ℕ) → Type 0
IsCertificate pairs = (length pairs ≤ most_pairs) × AllByRecursion AreAddresses pairs

pub record HasImageText (image : Image) : Type 0 where
  pub sizes : AreSizes (image.size, image.end)
  pub count : length image.words ≡ image.end
  pub words : AllByRecursion IsWord image.words
  pub roots : length image.roots ≤ most_roots
  pub root_words : AllByRecursion IsWord image.roots

pub record HasText (f : CertifiedPair) : Type 0 where
  pub old : HasImageText f.old
  pub new : HasImageText f.new
  pub raws : f.old.raws ≡ f.new.raws
  pub pairs : IsCertificate f.pairs

-- the text of the pair
pub record IsTextOf (f : CertifiedPair) (text : List ℕ) : Type 0 where
  pub fits : HasText f
  pub spelled : text ≡ spelling f
