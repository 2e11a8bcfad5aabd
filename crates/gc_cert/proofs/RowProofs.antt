-- The worked rows hold.
use Rattle.std.proofs.lemmas.Grind.{common_steps}
use Rattle.std.proofs.Common.{◌≡◌, ◌≢◌, ℕ, ◌≤◌, true, false, leb, List, [], ◌∷◌, ◌++◌, length, map, refl, sym, ap, ◌∙◌, arith, inl, inr}
use Rattle.std.specs.Prelude.{codes}
use Rattle.std.specs.Fmt.{digits}
use Rattle.std.proofs.lemmas.Bool.{leb-true}
use Rattle.std.proofs.lemmas.List.{append-nil}
use Rattle.gc_text.specs.Lines.{newline}
use Rattle.gc_cert.specs.Grammar.{heading, pair_line, count_line, image_lines, certificate_lines, lines_of, spelling, HasImageText, HasText}
use Rattle.gc_cert.specs.Faults.{limit, AreFirst, AreWhole}
use Rattle.gc_cert.specs.Rows.{least_image, least, least_with_raws, Rows}
use Rattle.gc_text.proofs.Public.{HasNo-lacks}
use Rattle.gc_cert.proofs.SameLines.{lines_same, lines_more, image_same, certificate_more, head_of, heading_same, count_same}

short : (text : List ℕ) → leb (length text) limit ≡ true → length text ≤ limit
short text e = leb-true (length text) limit e

image_fits : HasImageText least_image
image_fits = record { sizes = (omega arith, omega arith, omega arith, omega arith); count = refl; words = (omega arith, tt); roots = omega arith; root_words = (omega arith, tt) }

fits : HasText least
fits = record { old = image_fits; new = image_fits; raws = refl; pairs = (omega arith, tt) }

with_raws_fits : HasText least_with_raws
with_raws_fits = grind (arith, common_steps)

-- all lines of the least text except the last
abbrev but_end : List (List ℕ)
but_end = codes "heappair 1" ∷ codes "old 1 1" ∷ codes "0" ∷ codes "roots 1" ∷ codes "0" ∷ codes "new 1 1" ∷ codes "0" ∷ codes "roots 1" ∷ codes "0" ∷ codes "pairs 0" ∷ []

least_lines : lines_of least ≡ but_end ++ codes "end" ∷ []
unfolding digits lines_of
least_lines = refl

no_line : (l : List ℕ) (rest : List (List ℕ)) → l ∷ rest ≢ []
no_line l rest e = cc

not_whole : (before : List (List ℕ)) (l : List ℕ) (rest : List (List ℕ)) → lines_of least ≡ before ++ l ∷ rest → ¬ AreWhole before
not_whole before l rest is (f, fits', is') = no_line l rest (lines_same f least (l ∷ rest) [] fits' fits (ap (λ (ls : List (List ℕ)). ls ++ l ∷ rest) is' ∙ sym is ∙ sym (append-nil (lines_of least)))).1

at_end : AreFirst but_end × ¬ AreWhole but_end
at_end = ((least, codes "end" ∷ [], fits, least_lines), not_whole but_end (codes "end") [] least_lines)

at_start : AreFirst [] × ¬ AreWhole []
unfolding digits lines_of
at_start = ((least, lines_of least, fits, refl), not_whole [] (codes "heappair 1") _ least_lines)

whole : AreWhole (but_end ++ codes "end" ∷ [])
whole = (least, fits, least_lines)

all_first : AreFirst (but_end ++ codes "end" ∷ [])
all_first = (least, [], fits, least_lines)

-- without pairs the next line is `end`
no_pairs : (pairs : List (ℕ × ℕ)) (l : List ℕ) (rest : List (List ℕ)) → length pairs ≡ 0 → map pair_line pairs ++ codes "end" ∷ [] ≡ l ∷ rest → codes "end" ≡ l
no_pairs pairs l rest none e = grind (arith, common_steps, head_of)

only_end : (l : List ℕ) → codes "end" ≢ l → ¬ AreFirst (but_end ++ l ∷ [])
unfolding digits
only_end l other (g, rest, fits', is) =
    let behind : List (List ℕ) = codes "pairs 0" ∷ l ∷ rest in
    let all : heading g.old.raws ∷ image_lines (codes "old") g.old (image_lines (codes "new") g.new (certificate_lines g.pairs ++ [])) ≡ codes "heappair 1" ∷ image_lines (codes "old") least_image (image_lines (codes "new") least_image behind)
    = sym (lines_more g []) ∙ append-nil (lines_of g) ∙ is in
    let first = head_of (heading g.old.raws) (codes "heappair 1") (image_lines (codes "old") g.old (image_lines (codes "new") g.new (certificate_lines g.pairs ++ []))) (image_lines (codes "old") least_image (image_lines (codes "new") least_image behind)) all in
    let flags = heading_same g.old.raws false first.0 in
    let old = image_same (codes "old") g.old least_image (image_lines (codes "new") g.new (certificate_lines g.pairs ++ [])) (image_lines (codes "new") least_image behind) fits'.old image_fits flags
    first.1 in
    let new = image_same (codes "new") g.new least_image (certificate_lines g.pairs ++ []) behind fits'.new image_fits (sym fits'.raws ∙ flags) old.1 in
    let last = head_of (count_line (codes "pairs") (length g.pairs)) (codes "pairs 0") (map pair_line g.pairs ++ codes "end" ∷ []) (l ∷ rest) (sym (certificate_more g.pairs []) ∙ new.1) in
    other (no_pairs g.pairs l rest (count_same (codes "pairs") (length g.pairs) 0 (omega (arith, fits'.pairs)) (omega arith) last.0) last.1)

two_versions : ¬ AreFirst (codes "heappair 3" ∷ [])
unfolding lines_of
two_versions h = grind (arith, common_steps, head_of)

pub rows : Rows
unfolding digits lines_of spelling
rows = record {
  least_read = (record { fits = fits; spelled = refl }, short (codes "heappair 1\nold 1 1\n0\nroots 1\n0\nnew 1 1\n0\nroots 1\n0\npairs 0\nend\n") refl);
  raws_read = (record { fits = with_raws_fits; spelled = refl }, short (codes "heappair 2\nold 1 1\n0\nroots 1\n0\nnew 1 1\n0\nroots 1\n0\npairs 0\nend\n") refl);
  without_end = (short (codes "heappair 1\nold 1 1\n0\nroots 1\n0\nnew 1 1\n0\nroots 1\n0\npairs 0\n") refl, (_, record { before = but_end; rest = []; parts = refl; number = refl; good = at_end.0 }, tt, at_end.1));
  unfinished_end = (short (codes "heappair 1\nold 1 1\n0\nroots 1\n0\nnew 1 1\n0\nroots 1\n0\npairs 0\nend") refl, (_, record { before = but_end; rest = codes "end"; parts = refl; number = refl; good = at_end.0 }, HasNo-lacks newline (codes "end") refl, at_end.1));
  nothing = (short [] refl, (_, record { before = []; rest = []; parts = refl; number = refl; good = at_start.0 }, tt, at_start.1));
  no_line = (short (codes "x") refl, (_, record { before = []; rest = codes "x"; parts = refl; number = refl; good = at_start.0 }, HasNo-lacks newline (codes "x") refl, at_start.1));
  no_version = (short (codes "heappair 3\n") refl, inl (record { before = []; rest = codes "heappair 3" ++ newline ∷ []; parts = refl; number = refl; good = at_start.0 }, codes "heappair 3", [], refl, HasNo-lacks newline (codes "heappair 3") refl, two_versions));
  behind = (short (codes "heappair 1\nold 1 1\n0\nroots 1\n0\nnew 1 1\n0\nroots 1\n0\npairs 0\nend\nx\n") refl, inr (record { before = but_end ++ codes "end" ∷ []; rest = codes "x\n"; parts = refl; number = refl; good = all_first }, whole, λ e. cc));
  line_feed_behind = (short (codes "heappair 1\nold 1 1\n0\nroots 1\n0\nnew 1 1\n0\nroots 1\n0\npairs 0\nend\n\n") refl, inr (record { before = but_end ++ codes "end" ∷ []; rest = codes "\n"; parts = refl; number = refl; good = all_first }, whole, λ e. cc));
  long_end = (short (codes "heappair 1\nold 1 1\n0\nroots 1\n0\nnew 1 1\n0\nroots 1\n0\npairs 0\nendx\n") refl, inl (record { before = but_end; rest = codes "endx" ++ newline ∷ []; parts = refl; number = refl; good = at_end.0 }, codes "endx", [], refl, HasNo-lacks newline (codes "endx") refl, only_end (codes "endx") (λ e. cc)));
  kept = refl;
}
