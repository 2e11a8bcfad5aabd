-- Each text has a reading: it is a pair of images, or it has a first fault.
use Rattle.std.proofs.lemmas.Grind.{common_steps}
use Rattle.std.proofs.Common.{◌≡◌, ◌≢◌, ℕ, suc, zero, ◌+◌, ◌≤◌, Bool, leb, List, [], ◌∷◌, ◌++◌, length, map, refl, sym, ap, ◌∙◌, arith, subst, inl, inr, ◌⊎◌, length-append}
use Rattle.std.specs.Prelude.{codes}
use Rattle.std.specs.Fmt.{decimal}
use Rattle.std.specs.List.{AllByRecursion}
use Rattle.std.proofs.lemmas.Bool.{leb-true}
use Rattle.std.proofs.lemmas.List.{append-nil}
use Rattle.gc_text.specs.Lines.{newline, text_of}
use Rattle.gc_graph.proofs.Public.{all_push}
use Rattle.gc_text.proofs.Public.{Cut, cut}
use Rattle.gc_cert.specs.Grammar.{CertifiedPair, heading, pair_line, count_line, size_line, certificate_lines, lines_of, spelling, IsWord, AreAddresses, AreSizes, IsCertificate, HasText, IsTextOf}
use Rattle.gc_cert.specs.Internal.Grammar.{image_alone, IsImageBy}
use Rattle.gc_cert.specs.Faults.{limit, AreFirst, HasWrongLine, HasByteBehind, IsCutOff, IsPairFaultOf, IsReadAsPair, MayFail}
use Rattle.gc_text.specs.Reading.{Place, start}
use Rattle.gc_cert.specs.Internal.Sections.{IsNextLine, HasTaken}
use Rattle.gc_cert.specs.Internal.Sections.{Nothing, AnyFlag, alone, AreAll, Section, Spelled, Begins, IsWrongAt, IsCutIn, MayStop}
use Rattle.gc_cert.specs.declared.fault.PairFault.{PairFault}
use Rattle.gc_cert.specs.declared.fault.PairFault.TheVariants.{BadLine, EndsEarly}
use Rattle.gc_cert.proofs.Stops.{Delimits, BeginsWith, taken_then, wrong_within, cut_within}
use Rattle.gc_cert.proofs.Forms.{IsForm, alone_delimits, all_delimit, line_wrong, line_cut, line_taken, begins_with_one, push_taken}
use Rattle.gc_cert.proofs.LineForms.{fixed_form, heading_form, word_form, count_form, size_form, pair_form}
use Rattle.gc_cert.proofs.Parts.{none_taken, ImageSection, made_image, image_sizes, image_words, image_count, up_to_count, image_roots, image_taken, image_delimits, CertificateSection, pairs_line, certificate_count, certificate_pairs, up_to_end, certificate_end, certificate_taken, certificate_delimits, TextSection, made_pair, text_heading, text_old, text_new, both_images, text_certificate, text_taken}

-- the section has a wrong line, or the text is cut off in it
Stops : Section → Place → Type 0
Stops S p = ((n : ℕ) × IsWrongAt S p n) ⊎ IsCutIn S p

-- a value and its lines, or the end of the section
Outcome : {V : Type 0} → (V → Type 0) → (V → List (List ℕ)) → Place → Type 0
Outcome {V} InRange lines_of p = ((v : V) × (after : Place) × InRange v × HasTaken (lines_of v) p after) ⊎ Stops (Spelled InRange lines_of) p

-- the parts in order
next : {V : Type 0} {A : Type 0} (InRange : V → Type 0) (lines_of : V → List (List ℕ)) (S : Section) (done : List (List ℕ)) (old mid : Place) → Delimits InRange lines_of → BeginsWith InRange lines_of (λ lines. S (done ++ lines)) → HasTaken done old mid
    → Outcome InRange lines_of mid → ((v : V) (after : Place) → InRange v → HasTaken (done ++ lines_of v) old after → A ⊎ Stops S old) → A ⊎ Stops S old
unfolding Stops Outcome
next InRange lines_of S done old mid one with taken (inl (v, after, p, more)) further = further v after p (taken_then done (lines_of v) old mid after taken more)
next InRange lines_of S done old mid one with taken (inr (inl (n, w))) further = inr (inl (n, wrong_within InRange lines_of S done old mid n one with taken w))
next InRange lines_of S done old mid one with taken (inr (inr w)) further = inr (inr (cut_within InRange lines_of S done old mid one with taken w))

-- ---- lines

abbrev behind : (p : Place) → Cut p.rest → Place
behind p c = record { rest = c.rest; taken = p.taken + 1 }

is_next : (p : Place) (c : Cut p.rest) → IsNextLine c.line p (behind p c)
is_next p c = record { parts = c.parts; whole = c.whole; number = refl }

line_outcome : {V : Type 0} (InRange : V → Type 0) (line_of : V → List ℕ) (p : Place) → IsForm InRange line_of → Outcome InRange (alone line_of) p
unfolding Stops Outcome
line_outcome {V} InRange line_of p form = elim (cut p.rest) [ inl none ↦ inr (inr (line_cut InRange line_of p (form.some, form.in_range) none)) | inr c ↦ at c (form.decided c.line) ]
  where
    at : (c : Cut p.rest) → ((v : V) × InRange v × (c.line ≡ line_of v)) ⊎ ((v : V) → InRange v → c.line ≢ line_of v) → Outcome InRange (alone line_of) p
    at c (inl (v, fits, is)) = inl (v, behind p c, fits, line_taken (line_of v) p (behind p c) (record { parts = c.parts ∙ ap (λ (l : List ℕ). l ++ newline ∷ c.rest) is; number = refl }))
    at c (inr none) = inr (inl (p.taken + 1, line_wrong InRange line_of p (behind p c) c.line (p.taken + 1) (form.some, form.in_range) (is_next p c) none refl))

all_outcome : {V : Type 0} (InRange : V → Type 0) (line_of : V → List ℕ) (n : ℕ) (p : Place) → IsForm InRange line_of → Outcome (AreAll InRange n) (map line_of) p
unfolding Stops Outcome
all_outcome {V} InRange line_of n p form = go n [] p (omega arith) tt (record { parts = refl; number = omega arith })
  where
    go : (left : ℕ) (vs : List V) (mid : Place) → length vs + left ≡ n → AllByRecursion InRange vs → HasTaken (map line_of vs) p mid → Outcome (AreAll InRange n) (map line_of) p
    go zero vs mid counted all taken = inl (vs, mid, (omega (arith, counted), all), taken)
    go (suc left) vs mid counted all taken =
        next InRange (alone line_of) (Spelled (AreAll InRange n) (map line_of)) (map line_of vs) p mid (alone_delimits InRange line_of form) (begins_with_one InRange line_of n vs (omega (arith, counted)) all) taken (line_outcome InRange line_of mid form)
        (λ v after q more. go left (vs ++ v ∷ []) after (omega (arith, counted, length-append vs (v ∷ []))) (all_push InRange vs v all q) (push_taken line_of vs v p after more))

-- ---- parts

image_outcome : (raws : Bool) (name : List ℕ) (p : Place) → Outcome (IsImageBy raws) (image_alone name) p
unfolding Outcome
image_outcome raws name p =
    next AreSizes (alone (λ s. size_line name s.0 s.1)) (ImageSection raws name) [] p p (alone_delimits AreSizes (λ s. size_line name s.0 s.1) (size_form name)) (image_sizes raws name) (none_taken p)
    (line_outcome AreSizes (λ s. size_line name s.0 s.1) p (size_form name)) (λ s a fits first.
    next (AreAll IsWord s.1) (map decimal) (ImageSection raws name) (size_line name s.0 s.1 ∷ []) p a (all_delimit IsWord decimal s.1 word_form) (image_words raws name s fits) first (all_outcome IsWord decimal s.1 a word_form) (λ words b ws second.
    next (λ n. n ≤ 272) (alone (count_line (codes "roots"))) (ImageSection raws name) ((size_line name s.0 s.1 ∷ []) ++ map decimal words) p b (alone_delimits (λ n. n ≤ 272) (count_line (codes "roots")) roots)
    (image_count raws name s words fits ws) second (line_outcome (λ n. n ≤ 272) (count_line (codes "roots")) b roots) (λ n c le third.
    next (AreAll IsWord n) (map decimal) (ImageSection raws name) (up_to_count name s words n) p c (all_delimit IsWord decimal n word_form) (image_roots raws name s words n fits ws le) third (all_outcome IsWord decimal n c word_form) (λ rs d all last.
    (let whole = image_taken raws name s words rs n p d fits ws le all last in inl (made_image raws s words rs, d, whole.0, whole.1))))))
  where
    roots : IsForm (λ n. n ≤ 272) (count_line (codes "roots"))
    roots = count_form (codes "roots") 272 (omega arith)

certificate_outcome : (p : Place) → Outcome IsCertificate certificate_lines p
unfolding Outcome
certificate_outcome p =
    next (λ n. n ≤ 524287) (alone (count_line (codes "pairs"))) CertificateSection [] p p (alone_delimits (λ n. n ≤ 524287) (count_line (codes "pairs")) count) certificate_count (none_taken p)
    (line_outcome (λ n. n ≤ 524287) (count_line (codes "pairs")) p count) (λ n a le first.
    next (AreAll AreAddresses n) (map pair_line) CertificateSection (pairs_line n ∷ []) p a (all_delimit AreAddresses pair_line n pair_form) (certificate_pairs n le) first
    (all_outcome AreAddresses pair_line n a pair_form) (λ pairs b ps second.
    next Nothing (alone (λ _. codes "end")) CertificateSection (up_to_end n pairs) p b (alone_delimits Nothing (λ _. codes "end") (fixed_form (codes "end"))) (certificate_end n pairs le ps) second
    (line_outcome Nothing (λ _. codes "end") b (fixed_form (codes "end"))) (λ _ c _ last.
    (let whole = certificate_taken n pairs p c le ps last in inl (pairs, c, whole.0, whole.1)))))
  where
    count : IsForm (λ n. n ≤ 524287) (count_line (codes "pairs"))
    count = count_form (codes "pairs") 524287 (omega arith)

text_outcome : (p : Place) → Outcome HasText lines_of p
unfolding Outcome
text_outcome p =
    next AnyFlag (alone heading) TextSection [] p p (alone_delimits AnyFlag heading heading_form) text_heading (none_taken p) (line_outcome AnyFlag heading p heading_form) (λ raws a _ first.
    next (IsImageBy raws) (image_alone (codes "old")) TextSection (heading raws ∷ []) p a (image_delimits raws (codes "old")) (text_old raws) first (image_outcome raws (codes "old") a) (λ old b p-old second.
    next (IsImageBy raws) (image_alone (codes "new")) TextSection ((heading raws ∷ []) ++ image_alone (codes "old") old) p b (image_delimits raws (codes "new")) (text_new raws old p-old) second (image_outcome raws (codes "new") b) (λ new c p-new third.
    next IsCertificate certificate_lines TextSection (both_images raws old new) p c certificate_delimits (text_certificate raws old new p-old p-new) third (certificate_outcome c) (λ pairs d p-pairs last.
    (let whole = text_taken raws old new pairs p d p-old p-new p-pairs last in inl (made_pair old new pairs, d, whole.0, whole.1))))))

-- ---- faults of a text

begins_text : (lines : List (List ℕ)) → AreFirst lines → Begins TextSection lines
begins_text lines (f, more, fits, e) = (more, (f, fits, sym e))

first_text : (lines : List (List ℕ)) → Begins TextSection lines → AreFirst lines
first_text lines (more, (f, fits, e)) = (f, more, fits, sym e)

wrong_line : (text : List ℕ) (n : ℕ) → IsWrongAt TextSection (start text) n → HasWrongLine text n
wrong_line text n w =
    (record { before = w.before; rest = w.line ++ newline ∷ w.after; parts = w.parts; number = omega (arith, w.number); good = first_text w.before w.good }, w.line, w.after, refl, w.whole_line, λ first. w.wrong (begins_text (w.before ++ w.line ∷ []) first))

cut_off : (text : List ℕ) → IsCutIn TextSection (start text) → IsCutOff text
cut_off text w =
    (1 + length w.before, record { before = w.before; rest = w.unfinished; parts = w.parts; number = refl; good = first_text w.before w.good }, w.no_line, λ whole. w.not_all (whole.0, whole.1, sym whole.2))

-- all of the text was taken
pub whole_text : (f : CertifiedPair) (text : List ℕ) (after : Place) → HasText f → HasTaken (lines_of f) (start text) after → after.rest ≡ [] → IsTextOf f text
unfolding spelling
whole_text f text after fits taken none = record { fits = fits; spelled = taken.parts ∙ ap (λ (t : List ℕ). text_of (lines_of f) ++ t) none ∙ append-nil (text_of (lines_of f)) }

-- more bytes follow a text
byte_behind : (f : CertifiedPair) (text : List ℕ) (after : Place) → HasText f → HasTaken (lines_of f) (start text) after → after.rest ≢ [] → HasByteBehind text (after.taken + 1)
byte_behind f text after fits taken some =
    (record { before = lines_of f; rest = after.rest; parts = taken.parts; number = omega (arith, taken.number); good = (f, [], fits, sym (append-nil (lines_of f))) }, (f, fits, refl), some)

-- ---- the same for a reader that began at the start

pub stopped : (text : List ℕ) (fault : PairFault) → length text ≤ limit → MayStop TextSection fault (start text) → MayFail fault text
stopped text fault le stop = grind (arith, common_steps, wrong_line, cut_off)

pub went_on : (f : CertifiedPair) (text : List ℕ) (after : Place) (fault : PairFault) → length text ≤ limit → HasText f × HasTaken (lines_of f) (start text) after → (after.rest ≢ []) × (fault ≡ BadLine (after.taken + 1)) → MayFail fault text
went_on f text after fault le taken (some, is) = subst (λ (g : PairFault). MayFail g text) (sym is) (le, inr (byte_behind f text after taken.0 taken.1 some))

-- a value, or a first fault
abbrev Answered : List ℕ → Type 0
Answered text = ((f : CertifiedPair) × IsReadAsPair f text) ⊎ ((fault : PairFault) × IsPairFaultOf fault text)

answered : (text : List ℕ) → length text ≤ limit → Outcome HasText lines_of (start text) → Answered text
unfolding Outcome Stops
answered text le (inl (f, after, fits, taken)) = at after.rest refl
  where
    not_both : (byte : ℕ) (bytes : List ℕ) → byte ∷ bytes ≢ []
    not_both byte bytes e = cc

    at : (rest : List ℕ) → after.rest ≡ rest → Answered text
    at [] none = inl (f, (whole_text f text after fits taken none, le))
    at (byte ∷ bytes) some = inr (BadLine (after.taken + 1), (le, inr (byte_behind f text after fits taken (λ none. not_both byte bytes (sym some ∙ none)))))
answered text le (inr (inl (n, w))) = inr (BadLine n, (le, inl (wrong_line text n w)))
answered text le (inr (inr w)) = inr (EndsEarly, (le, cut_off text w))

pub each_is_answered : (text : List ℕ) → Answered text
each_is_answered text = at (leb (length text) limit) refl
  where
    at : (b : Bool) → leb (length text) limit ≡ b → Answered text
    at b e = grind (arith, common_steps, leb-true, answered, text_outcome)
