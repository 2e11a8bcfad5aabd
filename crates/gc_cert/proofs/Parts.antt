-- How each part of a pair text begins, after the lines before it.
use Rattle.std.proofs.lemmas.Grind.{common_steps}
use Rattle.std.proofs.Common.{◌≡◌, ℕ, ◌≤◌, Bool, List, [], ◌∷◌, ◌++◌, length, map, replicate, refl, sym, ap, ◌∙◌, arith, append_assoc, subst}
use Rattle.std.specs.Prelude.{codes}
use Rattle.std.specs.Fmt.{decimal}
use Rattle.std.specs.List.{AllByRecursion}
use Rattle.std.proofs.lemmas.List.{append-nil, append_cancel_left, length-replicate}
use Rattle.gc_words.specs.Image.{Image}
use Rattle.gc_cert.specs.Grammar.{CertifiedPair, heading, pair_line, count_line, size_line, image_lines, certificate_lines, lines_of, IsWord, AreAddresses, AreSizes, IsCertificate, HasImageText, HasText}
use Rattle.gc_cert.specs.Internal.Grammar.{image_alone, IsImageBy}
use Rattle.gc_text.specs.Reading.{Place}
use Rattle.gc_cert.specs.Internal.Sections.{HasTaken}
use Rattle.gc_cert.specs.Internal.Sections.{Nothing, AnyFlag, alone, AreAll, Section, Spelled}
use Rattle.gc_cert.proofs.Stops.{Delimits, BeginsWith}
use Rattle.gc_cert.proofs.Forms.{All-replicate, one_form}
use Rattle.gc_cert.proofs.LineForms.{pair_form}
use Rattle.gc_cert.proofs.SameLines.{head_of, count_same, two_same, same_lines, image_same, image_more, heading_same, certificate_same}
use Rattle.std.proofs.lemmas.Fmt.{decimal_injective}

abbrev Lines : Type 0
Lines = List (List ℕ)

-- nothing was taken yet
pub none_taken : (p : Place) → HasTaken [] p p
none_taken p = record { parts = refl; number = omega arith }

-- ---- an image

abbrev pub ImageSection : Bool → List ℕ → Section
ImageSection raws name = Spelled (IsImageBy raws) (image_alone name)

abbrev pub made_image : Bool → ℕ × ℕ → List ℕ → List ℕ → Image
made_image raws s words roots = record { size = s.0; end = s.1; words = words; roots = roots; raws = raws }

pub image_fits : (raws : Bool) (s : ℕ × ℕ) (words roots : List ℕ) → AreSizes s → AreAll IsWord s.1 words → length roots ≤ 272 → AllByRecursion IsWord roots → IsImageBy raws (made_image raws s words roots)
image_fits raws s words roots fits ws le rs = record { fits = record { sizes = fits; count = ws.0; words = ws.1; roots = le; root_words = rs }; raws_are = refl }

-- what follows the words
abbrev root_lines : List ℕ → Lines
root_lines roots = count_line (codes "roots") (length roots) ∷ (map decimal roots ++ [])

behind_sizes : (name : List ℕ) (s : ℕ × ℕ) (image : Image) (lines : Lines) → AreSizes s → HasImageText image → size_line name s.0 s.1 ∷ lines ≡ image_alone name image → (length image.words ≡ s.1) × (lines ≡ map decimal image.words ++ root_lines image.roots)
behind_sizes name s image lines p fits e = grind (arith, common_steps, head_of, two_same, append_cancel_left)

behind_words : (name : List ℕ) (s : ℕ × ℕ) (words : List ℕ) (image : Image) (lines : Lines) → AreSizes s → AreAll IsWord s.1 words → HasImageText image → size_line name s.0 s.1 ∷ (map decimal words ++ lines) ≡ image_alone name image → lines ≡ root_lines image.roots
behind_words name s words image lines p ws fits e = grind (arith, common_steps, behind_sizes, same_lines, decimal_injective)

pub image_sizes : (raws : Bool) (name : List ℕ) → BeginsWith AreSizes (alone (λ s. size_line name s.0 s.1)) (λ lines. ImageSection raws name ([] ++ lines))
image_sizes raws name = record {
  some = λ s fits.
      let words = replicate s.1 0 in
      (map decimal words ++ root_lines [], (made_image raws s words [], image_fits raws s words [] fits (length-replicate s.1 0, All-replicate IsWord s.1 0 (omega arith)) (omega arith) tt, refl));
  only = λ lines (image, by, e). ((image.size, image.end), map decimal image.words ++ root_lines image.roots, by.fits.sizes, e);
}

pub image_words : (raws : Bool) (name : List ℕ) (s : ℕ × ℕ) → AreSizes s → BeginsWith (AreAll IsWord s.1) (map decimal) (λ lines. ImageSection raws name ((size_line name s.0 s.1 ∷ []) ++ lines))
image_words raws name s fits = record {
  some = λ words ws. (root_lines [], (made_image raws s words [], image_fits raws s words [] fits ws (omega arith) tt, refl));
  only = λ lines (image, by, e). (let behind = behind_sizes name s image lines fits by.fits e in (image.words, root_lines image.roots, (behind.0, by.fits.words), behind.1));
}

pub image_count : (raws : Bool) (name : List ℕ) (s : ℕ × ℕ) (words : List ℕ) → AreSizes s → AreAll IsWord s.1 words → BeginsWith (λ n. n ≤ 272) (alone (count_line (codes "roots"))) (λ lines. ImageSection raws name (((size_line name s.0 s.1 ∷ []) ++ map decimal words) ++ lines))
image_count raws name s words fits ws = record {
  some = λ n le.
      let roots = replicate n 0 in
      let counted : length roots ≡ n = length-replicate n 0 in (
        map decimal roots ++ [],
        (
          made_image raws s words roots,
          image_fits raws s words roots fits ws (omega arith) (All-replicate IsWord n 0 (omega arith)),
          ap (λ (k : ℕ). size_line name s.0 s.1 ∷ (map decimal words ++ count_line (codes "roots") k ∷ (map decimal roots ++ []))) (sym counted),
        ),
      );
  only = λ lines (image, by, e). (length image.roots, map decimal image.roots ++ [], by.fits.roots, behind_words name s words image lines fits ws by.fits e);
}

-- the lines up to the count of the roots
abbrev pub up_to_count : List ℕ → ℕ × ℕ → List ℕ → ℕ → Lines
up_to_count name s words n = ((size_line name s.0 s.1 ∷ []) ++ map decimal words) ++ count_line (codes "roots") n ∷ []

pub whole_image : (name : List ℕ) (s : ℕ × ℕ) (words : List ℕ) (n : ℕ) (more : Lines) → up_to_count name s words n ++ more ≡ size_line name s.0 s.1 ∷ (map decimal words ++ count_line (codes "roots") n ∷ more)
whole_image name s words n more = ap (λ (ls : Lines). size_line name s.0 s.1 ∷ ls) (append_assoc (map decimal words) (count_line (codes "roots") n ∷ []) more)

up_to_roots : (raws : Bool) (name : List ℕ) (s : ℕ × ℕ) (words roots : List ℕ) (n : ℕ) (more : Lines) → length roots ≡ n → up_to_count name s words n ++ (map decimal roots ++ more) ≡ image_lines name (made_image raws s words roots) more
up_to_roots raws name s words roots n more counted = whole_image name s words n (map decimal roots ++ more) ∙ ap (λ (k : ℕ). size_line name s.0 s.1 ∷ (map decimal words ++ count_line (codes "roots") k ∷ (map decimal roots ++ more))) (sym counted)

pub image_roots : (raws : Bool) (name : List ℕ) (s : ℕ × ℕ) (words : List ℕ) (n : ℕ) → AreSizes s → AreAll IsWord s.1 words → n ≤ 272 → BeginsWith (AreAll IsWord n) (map decimal) (λ lines. ImageSection raws name (up_to_count name s words n ++ lines))
image_roots raws name s words n fits ws le = record {
  some = λ roots rs. ([], (made_image raws s words roots, image_fits raws s words roots fits ws (omega (arith, rs.0)) rs.1, up_to_roots raws name s words roots n [] rs.0));
  only = λ lines (image, by, e).
      let behind = behind_words name s words image (count_line (codes "roots") n ∷ lines) fits ws by.fits (sym (whole_image name s words n lines) ∙ e) in
      let h = head_of (count_line (codes "roots") n) (count_line (codes "roots") (length image.roots)) lines (map decimal image.roots ++ []) behind in
      (image.roots, [], (sym (count_same (codes "roots") n (length image.roots) (omega arith) (omega (arith, by.fits.roots)) h.0), by.fits.root_words), h.1);
}

-- all of an image was taken
pub image_taken : (raws : Bool) (name : List ℕ) (s : ℕ × ℕ) (words roots : List ℕ) (n : ℕ) (a b : Place) → AreSizes s → AreAll IsWord s.1 words → n ≤ 272 → AreAll IsWord n roots → HasTaken (up_to_count name s words n ++ map decimal roots) a b
    → IsImageBy raws (made_image raws s words roots) × HasTaken (image_alone name (made_image raws s words roots)) a b
image_taken raws name s words roots n a b fits ws le rs taken = grind (arith, common_steps, image_fits, append-nil, up_to_roots)

pub image_delimits : (raws : Bool) (name : List ℕ) → Delimits (IsImageBy raws) (image_alone name)
image_delimits raws name v w x y p q e = image_same name v w x y p.fits q.fits (p.raws_are ∙ sym q.raws_are) (sym (image_more name v [] x) ∙ e ∙ image_more name w [] y)

-- ---- the pairs and the line `end`

abbrev pub CertificateSection : Section
CertificateSection = Spelled IsCertificate certificate_lines

abbrev pub pairs_line : ℕ → List ℕ
pairs_line n = count_line (codes "pairs") n

pub certificate_count : BeginsWith (λ n. n ≤ 524287) (alone (count_line (codes "pairs"))) (λ lines. CertificateSection ([] ++ lines))
certificate_count = record {
  some = λ n le.
      let pairs = replicate n (0, 0) in
      let counted : length pairs ≡ n = length-replicate n (0, 0) in
      (map pair_line pairs ++ codes "end" ∷ [], (pairs, (omega arith, All-replicate AreAddresses n (0, 0) (omega arith, omega arith)), ap (λ (k : ℕ). pairs_line k ∷ (map pair_line pairs ++ codes "end" ∷ [])) (sym counted)));
  only = λ lines (pairs, fits, e). (length pairs, map pair_line pairs ++ codes "end" ∷ [], fits.0, e);
}

behind_count : (n : ℕ) (pairs : List (ℕ × ℕ)) (lines : Lines) → n ≤ 524287 → IsCertificate pairs → pairs_line n ∷ lines ≡ certificate_lines pairs → (length pairs ≡ n) × (lines ≡ map pair_line pairs ++ codes "end" ∷ [])
behind_count n pairs lines le fits e =
    let h = head_of (pairs_line n) (pairs_line (length pairs)) lines (map pair_line pairs ++ codes "end" ∷ []) e in
    (sym (count_same (codes "pairs") n (length pairs) (omega arith) (omega (arith, fits.0)) h.0), h.1)

pub certificate_pairs : (n : ℕ) → n ≤ 524287 → BeginsWith (AreAll AreAddresses n) (map pair_line) (λ lines. CertificateSection ((pairs_line n ∷ []) ++ lines))
certificate_pairs n le = record {
  some = λ pairs ps. (codes "end" ∷ [], (pairs, (omega (arith, ps.0), ps.1), ap (λ (k : ℕ). pairs_line k ∷ (map pair_line pairs ++ codes "end" ∷ [])) (sym ps.0)));
  only = λ lines (pairs, fits, e). (let behind = behind_count n pairs lines le fits e in (pairs, codes "end" ∷ [], (behind.0, fits.1), behind.1));
}

-- the lines up to the last
abbrev pub up_to_end : ℕ → List (ℕ × ℕ) → Lines
up_to_end n pairs = (pairs_line n ∷ []) ++ map pair_line pairs

pub certificate_end : (n : ℕ) (pairs : List (ℕ × ℕ)) → n ≤ 524287 → AreAll AreAddresses n pairs → BeginsWith Nothing (alone (λ _. codes "end")) (λ lines. CertificateSection (up_to_end n pairs ++ lines))
certificate_end n pairs le ps = grind (arith, common_steps, behind_count, same_lines, one_form, pair_form)

-- all of a certificate was taken
pub certificate_taken : (n : ℕ) (pairs : List (ℕ × ℕ)) (a b : Place) → n ≤ 524287 → AreAll AreAddresses n pairs → HasTaken (up_to_end n pairs ++ codes "end" ∷ []) a b → IsCertificate pairs × HasTaken (certificate_lines pairs) a b
certificate_taken n pairs a b le ps taken = grind (arith, common_steps)

pub certificate_delimits : Delimits IsCertificate certificate_lines
certificate_delimits v w x y p q e = certificate_same v w x y p.0 q.0 p.1 q.1 e

-- ---- the whole text

abbrev pub TextSection : Section
TextSection = Spelled HasText lines_of

abbrev pub made_pair : Image → Image → List (ℕ × ℕ) → CertifiedPair
made_pair old new pairs = record { old = old; new = new; pairs = pairs }

abbrev least_image : Bool → Image
least_image raws = made_image raws (1, 1) (0 ∷ []) []

least_fits : (raws : Bool) → IsImageBy raws (least_image raws)
least_fits raws = image_fits raws (1, 1) (0 ∷ []) [] (omega arith, omega arith, omega arith, omega arith) (refl, (omega arith, tt)) (omega arith) tt

pub pair_fits : (raws : Bool) (old new : Image) (pairs : List (ℕ × ℕ)) → IsImageBy raws old → IsImageBy raws new → IsCertificate pairs → HasText (made_pair old new pairs)
pair_fits raws old new pairs p q r = record { old = p.fits; new = q.fits; raws = p.raws_are ∙ sym q.raws_are; pairs = r }

pub text_heading : BeginsWith AnyFlag (alone heading) (λ lines. TextSection ([] ++ lines))
unfolding lines_of
text_heading = record {
  some = λ raws _.
      let least = least_image raws in
      (image_lines (codes "old") least (image_lines (codes "new") least (certificate_lines [])), (made_pair least least [], pair_fits raws least least [] (least_fits raws) (least_fits raws) (omega arith, tt), refl));
  only = λ lines (f, fits, e). (f.old.raws, image_lines (codes "old") f.old (image_lines (codes "new") f.new (certificate_lines f.pairs)), tt, e);
}

-- what follows this first line
record Behind (raws : Bool) (f : CertifiedPair) (lines : Lines) : Type 0 where
  old : IsImageBy raws f.old
  new : IsImageBy raws f.new
  lines_are : lines ≡ image_alone (codes "old") f.old ++ image_lines (codes "new") f.new (certificate_lines f.pairs)

behind_heading : (raws : Bool) (f : CertifiedPair) (lines : Lines) → HasText f → heading raws ∷ lines ≡ lines_of f → Behind raws f lines
unfolding lines_of
behind_heading raws f lines fits e = grind (arith, common_steps, head_of, heading_same, image_more)

-- the lines of three parts
pub three_parts : (raws : Bool) (old new : Image) (pairs : List (ℕ × ℕ)) → old.raws ≡ raws → ((heading raws ∷ []) ++ image_alone (codes "old") old) ++ (image_alone (codes "new") new ++ certificate_lines pairs) ≡ lines_of (made_pair old new pairs)
unfolding lines_of
three_parts raws old new pairs flag = grind (arith, common_steps, image_more)

pub text_old : (raws : Bool) → BeginsWith (IsImageBy raws) (image_alone (codes "old")) (λ lines. TextSection ((heading raws ∷ []) ++ lines))
text_old raws = record {
  some = λ image by.
      let least = least_image raws in
      (image_alone (codes "new") least ++ certificate_lines [], (made_pair image least [], pair_fits raws image least [] by (least_fits raws) (omega arith, tt), three_parts raws image least [] by.raws_are));
  only = λ lines (f, fits, e). (let behind = behind_heading raws f lines fits e in (f.old, image_lines (codes "new") f.new (certificate_lines f.pairs), behind.old, behind.lines_are));
}

-- what follows the lines of the old image
record BehindOld (raws : Bool) (f : CertifiedPair) (lines : Lines) : Type 0 where
  new : IsImageBy raws f.new
  lines_are : lines ≡ image_alone (codes "new") f.new ++ certificate_lines f.pairs

behind_old : (raws : Bool) (old : Image) (f : CertifiedPair) (lines : Lines) → IsImageBy raws old → HasText f → ((heading raws ∷ []) ++ image_alone (codes "old") old) ++ lines ≡ lines_of f → BehindOld raws f lines
behind_old raws old f lines p fits e =
    let behind = behind_heading raws f (image_alone (codes "old") old ++ lines) fits e in
    record {
      new = behind.new;
      lines_are = (image_delimits raws (codes "old") old f.old lines (image_lines (codes "new") f.new (certificate_lines f.pairs)) p behind.old behind.lines_are).1
          ∙ sym (image_more (codes "new") f.new [] (certificate_lines f.pairs));
    }

pub text_new : (raws : Bool) (old : Image) → IsImageBy raws old → BeginsWith (IsImageBy raws) (image_alone (codes "new")) (λ lines. TextSection (((heading raws ∷ []) ++ image_alone (codes "old") old) ++ lines))
text_new raws old p = record {
  some = λ image by. (certificate_lines [], (made_pair old image [], pair_fits raws old image [] p by (omega arith, tt), three_parts raws old image [] p.raws_are));
  only = λ lines (f, fits, e). (let behind = behind_old raws old f lines p fits e in (f.new, certificate_lines f.pairs, behind.new, behind.lines_are));
}

-- the first line and the lines of both images
abbrev pub both_images : Bool → Image → Image → Lines
both_images raws old new = ((heading raws ∷ []) ++ image_alone (codes "old") old) ++ image_alone (codes "new") new

all_parts : (raws : Bool) (old new : Image) (pairs : List (ℕ × ℕ)) → old.raws ≡ raws → both_images raws old new ++ certificate_lines pairs ≡ lines_of (made_pair old new pairs)
all_parts raws old new pairs flag = append_assoc ((heading raws ∷ []) ++ image_alone (codes "old") old) (image_alone (codes "new") new) (certificate_lines pairs) ∙ three_parts raws old new pairs flag

pub text_certificate : (raws : Bool) (old new : Image) → IsImageBy raws old → IsImageBy raws new → BeginsWith IsCertificate certificate_lines (λ lines. TextSection (both_images raws old new ++ lines))
text_certificate raws old new p q = record {
  some = λ pairs fits. ([], (made_pair old new pairs, pair_fits raws old new pairs p q fits, ap (λ (ls : Lines). both_images raws old new ++ ls) (append-nil (certificate_lines pairs)) ∙ all_parts raws old new pairs p.raws_are));
  only = λ lines (f, fits, e).
      let behind = behind_old raws old f (image_alone (codes "new") new ++ lines) p fits (sym (append_assoc ((heading raws ∷ []) ++ image_alone (codes "old") old) (image_alone (codes "new") new) lines) ∙ e) in
      (f.pairs, [], fits.pairs, (image_delimits raws (codes "new") new f.new lines (certificate_lines f.pairs) q behind.new behind.lines_are).1 ∙ sym (append-nil (certificate_lines f.pairs)));
}

-- all of a text was taken
pub text_taken : (raws : Bool) (old new : Image) (pairs : List (ℕ × ℕ)) (a b : Place) → IsImageBy raws old → IsImageBy raws new → IsCertificate pairs → HasTaken (both_images raws old new ++ certificate_lines pairs) a b
    → HasText (made_pair old new pairs) × HasTaken (lines_of (made_pair old new pairs)) a b
text_taken raws old new pairs a b p q r taken = (pair_fits raws old new pairs p q r, subst (λ (ls : Lines). HasTaken ls a b) (all_parts raws old new pairs p.raws_are) taken)
