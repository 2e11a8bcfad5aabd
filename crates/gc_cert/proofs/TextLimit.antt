-- Every pair that has a text has one within the limit.
use Rattle.std.proofs.lemmas.Grind.{common_steps}
use Rattle.std.proofs.Common.{◌≡◌, ℕ, ◌^◌, ◌<◌, ◌≤◌, ◌+◌, ◌*◌, Bool, List, [], ◌∷◌, ◌++◌, length, map, refl, ap, ◌∙◌, arith, length-append}
use Rattle.std.specs.Prelude.{codes}
use Rattle.std.specs.Fmt.{decimal}
use Rattle.std.specs.List.{AllByRecursion}
use Rattle.std.proofs.lemmas.List.Concat.{flat_map-cons, flat_map-append}
use Rattle.std.proofs.lemmas.Fmt.{length-decimal-le}
use Rattle.gc_text.specs.Lines.{newline, ended, text_of}
use Rattle.gc_words.specs.Image.{Image}
use Rattle.gc_cert.specs.Grammar.{CertifiedPair, heading, pair_line, count_line, size_line, image_lines, certificate_lines, lines_of, spelling, IsWord, AreAddresses, HasImageText, HasText}
use Rattle.gc_cert.specs.Faults.{limit, IsReadAsPair}

bytes : List (List ℕ) → ℕ
bytes lines = length (text_of lines)

bytes_cons : (l : List ℕ) (ls : List (List ℕ)) → bytes (l ∷ ls) ≡ length l + 1 + bytes ls
unfolding bytes
bytes_cons l ls = omega (arith, ap length (flat_map-cons ended l ls), length-append (ended l) (text_of ls), length-append l (newline ∷ []))

bytes_append : (ls ks : List (List ℕ)) → bytes (ls ++ ks) ≡ bytes ls + bytes ks
unfolding bytes
bytes_append ls ks = ap length (flat_map-append ended ls ks) ∙ length-append (text_of ls) (text_of ks)

bytes_nil : bytes [] ≡ 0
unfolding bytes
bytes_nil = refl

bytes_map : {X : Type 0} (P : X → Type 0) (f : X → List ℕ) (n : ℕ) → ((x : X) → P x → length (f x) ≤ n) → (xs : List X) → AllByRecursion P xs → bytes (map f xs) ≤ length xs * (n + 1)
bytes_map P f n each [] h = omega (arith, bytes_nil)
bytes_map P f n each (x ∷ xs) h = grind (arith, common_steps, bytes_nil, bytes_cons, bytes_map P f n each xs h.1)

word_length : (n : ℕ) → n < 2 ^ 64 → length (decimal n) ≤ 20
word_length n small = length-decimal-le 20 n (omega arith) (omega arith) (omega arith)

address_length : (n : ℕ) → n < 2 ^ 32 → length (decimal n) ≤ 10
address_length n small = length-decimal-le 10 n (omega arith) (omega arith) (omega arith)

count_length : (name : List ℕ) (n : ℕ) → length name ≤ 5 → n < 2 ^ 64 → length (count_line name n) ≤ 26
count_length name n short small = grind (arith, common_steps, word_length, length-append)

size_length : (name : List ℕ) (image : Image) → length name ≤ 5 → HasImageText image → length (size_line name image.size image.end) ≤ 47
size_length name image short fits = grind (arith, common_steps, word_length, length-append)

pair_length : (p : ℕ × ℕ) → AreAddresses p → length (pair_line p) ≤ 21
pair_length p small = grind (arith, common_steps, address_length, length-append)

image_bytes : (name : List ℕ) (image : Image) (more : List (List ℕ)) → length name ≤ 5 → HasImageText image → bytes (image_lines name image more) ≤ 22030000 + bytes more
image_bytes name image more short fits =
    let roots = bytes_map (λ w. IsWord w) decimal 20 word_length image.roots fits.root_words in
    let after = count_line (codes "roots") (length image.roots) ∷ (map decimal image.roots ++ more) in
    omega (
      arith,
      bytes_cons (size_line name image.size image.end) (map decimal image.words ++ after),
      size_length name image short fits,
      bytes_append (map decimal image.words) after,
      (bytes_map (λ w. IsWord w) decimal 20 word_length image.words fits.words),
      fits.count,
      fits.sizes,
      bytes_cons (count_line (codes "roots") (length image.roots)) (map decimal image.roots ++ more),
      count_length (codes "roots") (length image.roots) (omega arith) (omega (arith, fits.roots)),
      bytes_append (map decimal image.roots) more,
      roots,
      fits.roots,
    )

certificate_bytes : (pairs : List (ℕ × ℕ)) → length pairs ≤ 524287 → AllByRecursion AreAddresses pairs → bytes (certificate_lines pairs) ≤ 11540000
certificate_bytes pairs le small =
    let all = bytes_map AreAddresses pair_line 21 pair_length pairs small in
    omega (arith, bytes_cons (count_line (codes "pairs") (length pairs)) (map pair_line pairs ++ codes "end" ∷ []), count_length (codes "pairs") (length pairs) (omega arith) (omega (arith, le)), bytes_append (map pair_line pairs) (codes "end" ∷ []), all, le, bytes_cons (codes "end") [], bytes_nil)

heading_length : (raws : Bool) → length (heading raws) ≡ 10
heading_length raws = grind (arith, common_steps)

lines_bytes : (f : CertifiedPair) → HasText f → bytes (lines_of f) ≤ limit
unfolding lines_of
lines_bytes f fits =
    let new = image_lines (codes "new") f.new (certificate_lines f.pairs) in
    omega (arith, heading_length f.old.raws, bytes_cons (heading f.old.raws) (image_lines (codes "old") f.old new), image_bytes (codes "old") f.old new (omega arith) fits.old, image_bytes (codes "new") f.new (certificate_lines f.pairs) (omega arith) fits.new, certificate_bytes f.pairs fits.pairs.0 fits.pairs.1)

pub written_reads : (f : CertifiedPair) → HasText f → IsReadAsPair f (spelling f)
unfolding spelling bytes
written_reads f fits = (record { fits = fits; spelled = refl }, lines_bytes f fits)
