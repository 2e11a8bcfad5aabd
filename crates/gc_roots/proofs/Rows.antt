-- A row of marks and its summary.
use Rattle.std.proofs.Common.{◌≡◌, ◌≢◌, ℕ, ◌*◌, ◌/◌, ◌%◌, ◌<◌, ◌≤◌, true, false, length, ◌∙◌, ap, subst, sym, arith, ⊎_elim, get_or, set, get_or-set_same, get_or-set_other, replicate, List, ◌^◌, w64, bit_and, bit_or}
use Rattle.std.specs.Prelude.{slice_index}
use Rattle.std.proofs.lemmas.Bool.{cases_eq, cases_lt}
use Rattle.std.proofs.lemmas.List.{get_or_past, get_or-replicate, length-replicate, length-set}
use Rattle.gc_words.specs.Marks.{is_marked}
use Rattle.gc_roots.specs.Internal.Due.{IsDueRow}
use Rattle.std.proofs.lemmas.Grind.{get_or_default_zero}
use Rattle.std.specs.Int.{bit_not}
use Rattle.std.specs.Int.Bits.{and_zero_l}
use Rattle.gc_roots.proofs.Marks.{with_mark, without_mark, mark_is_set, marks_stay_beside, mark_is_gone, other_marks_stay, word_of_mark, none_in_zero}

marked_row : (bits next sums others : List ℕ) (low place : ℕ) → IsDueRow bits sums low
    → length next ≡ length bits → is_marked next place ≡ true → ((w : ℕ) → w ≢ place / 64 → slice_index next w ≡ slice_index bits w)
    → length others ≡ length sums → is_marked others (place / 64) ≡ true → ((w : ℕ) → w ≢ place / 64 → is_marked others w ≡ is_marked sums w)
    → ((j : ℕ) → j ≢ place / 64 / 64 → slice_index others j ≡ slice_index sums j)
    → (at : ℕ) → at ≤ low → at ≤ place / 64 / 64 → IsDueRow next others at
marked_row bits next sums others low place row len m words len2 m2 marks sum_words at le1 le2 = record {
  few = omega (arith, row.few, len2);
  room = omega (arith, row.room, len, len2);
  told = λ w h. ⊎_elim
      (λ same. subst (λ v. is_marked others v ≡ true) (sym same) m2)
      (λ beside. marks w beside ∙ row.told w (subst (λ n. 1 ≤ n) (words w beside) h))
      (cases_eq w (place / 64));
  true_of = λ w t. ⊎_elim
      (λ same. subst (λ v. 1 ≤ slice_index next v) (sym same) (word_of_mark next place m))
      (λ beside. subst (λ n. 1 ≤ n) (sym (words w beside)) (row.true_of w (sym (marks w beside) ∙ t)))
      (cases_eq w (place / 64));
  below = λ j less. sum_words j (λ e. omega (arith, less, e, le2)) ∙ row.below j (omega (arith, less, le1));
}

-- the word is not 0 without the mark
less_marked : (bits next sums : List ℕ) (low place : ℕ) → IsDueRow bits sums low
    → length next ≡ length bits → ((w : ℕ) → w ≢ place / 64 → slice_index next w ≡ slice_index bits w)
    → slice_index next (place / 64) ≢ 0 → 1 ≤ slice_index bits (place / 64) → IsDueRow next sums low
less_marked bits next sums low place row len words some was = record {
  few = row.few;
  room = omega (arith, row.room, len);
  told = λ w h. ⊎_elim
      (λ same. row.told w (subst (λ v. 1 ≤ slice_index bits v) (sym same) was))
      (λ beside. row.told w (subst (λ n. 1 ≤ n) (words w beside) h))
      (cases_eq w (place / 64));
  true_of = λ w t. ⊎_elim
      (λ same. subst (λ v. 1 ≤ slice_index next v) (sym same) (omega (arith, some)))
      (λ beside. subst (λ n. 1 ≤ n) (sym (words w beside)) (row.true_of w t))
      (cases_eq w (place / 64));
  below = row.below;
}

-- the word is 0 without the mark
none_marked : (bits next sums others : List ℕ) (low place : ℕ) → IsDueRow bits sums low
    → length next ≡ length bits → ((w : ℕ) → w ≢ place / 64 → slice_index next w ≡ slice_index bits w) → slice_index next (place / 64) ≡ 0
    → length others ≡ length sums → is_marked others (place / 64) ≡ false → ((w : ℕ) → w ≢ place / 64 → is_marked others w ≡ is_marked sums w)
    → ((j : ℕ) → slice_index sums j ≡ 0 → slice_index others j ≡ 0)
    → IsDueRow next others low
none_marked bits next sums others low place row len words zero len2 m2 marks zeros = record {
  few = omega (arith, row.few, len2);
  room = omega (arith, row.room, len, len2);
  told = λ w h. ⊎_elim
      (λ same. absurd (let no : slice_index next w ≡ 0 = subst (λ v. slice_index next v ≡ 0) (sym same) zero in omega (arith, no, h)))
      (λ beside. marks w beside ∙ row.told w (subst (λ n. 1 ≤ n) (words w beside) h))
      (cases_eq w (place / 64));
  true_of = λ w t. ⊎_elim
      (λ same. absurd (let no : is_marked others w ≡ false = subst (λ v. is_marked others v ≡ false) (sym same) m2 in let bad : true ≡ false = sym t ∙ no in cc bad))
      (λ beside. subst (λ n. 1 ≤ n) (sym (words w beside)) (row.true_of w (sym (marks w beside) ∙ t)))
      (cases_eq w (place / 64));
  below = λ j less. zeros j (row.below j less);
}

-- a word that is not 0 is within the row
pub word_within : (bits : List ℕ) (w : ℕ) → 1 ≤ slice_index bits w → w < length bits
word_within bits w some = ⊎_elim
    (λ l. l)
    (λ past. absurd (let zero : slice_index bits w ≡ 0 = get_or_past bits w 0 past in omega (arith, zero, some)))
    (cases_lt w (length bits))

-- nothing is marked where all summary words are 0
pub none_due : (bits sums : List ℕ) (low at k : ℕ) → IsDueRow bits sums low → at ≡ length sums → ((j : ℕ) → low ≤ j → j < at → slice_index sums j ≡ 0) → is_marked bits k ≡ false
none_due bits sums low at k row end zeros = none_in_zero bits k (⊎_elim
    (λ zero. zero)
    (λ some. absurd (let bad : true ≡ false = sym (row.told (k / 64) (omega (arith, some))) ∙ none_in_zero sums (k / 64) (all_zero (k / 64 / 64)) in cc bad))
    (cases_eq (slice_index bits (k / 64)) 0))
  where
    all_zero : (j : ℕ) → slice_index sums j ≡ 0
    all_zero j = ⊎_elim
        (λ l. row.below j l)
        (λ m. ⊎_elim (λ l. zeros j m (omega (arith, l, end))) (λ past. get_or_past sums j 0 past) (cases_lt j (length sums)))
        (cases_lt j low)

-- the first mark of the first word that the first summary mark tells
pub first_due : (bits sums : List ℕ) (low at word k i : ℕ) → IsDueRow bits sums low → ((j : ℕ) → low ≤ j → j < at → slice_index sums j ≡ 0)
    → word / 64 ≡ at → ((w : ℕ) → w / 64 ≡ at → w < word → is_marked sums w ≡ false)
    → k / 64 ≡ word → ((p : ℕ) → p / 64 ≡ word → p < k → is_marked bits p ≡ false) → i < k → is_marked bits i ≡ false
first_due bits sums low at word k i row zeros at_is before_word word_is before_place less = ⊎_elim
    (λ same. before_place i same less)
    (λ other. none_in_zero bits i (zero_word (i / 64) (omega (arith, other, less, word_is))))
    (cases_eq (i / 64) word)
  where
    not_told : (w : ℕ) → w < word → is_marked sums w ≡ false
    not_told w l = ⊎_elim
        (λ same. before_word w same l)
        (λ other. none_in_zero sums w (⊎_elim (λ b. row.below (w / 64) b) (λ m. zeros (w / 64) m (omega (arith, other, l, at_is))) (cases_lt (w / 64) low)))
        (cases_eq (w / 64) at)

    zero_word : (w : ℕ) → w < word → slice_index bits w ≡ 0
    zero_word w l = ⊎_elim
        (λ zero. zero)
        (λ some. absurd (let bad : true ≡ false = sym (row.told w (omega (arith, some))) ∙ not_told w l in cc bad))
        (cases_eq (slice_index bits w) 0)

-- the summary words below the first that is not 0
pub lower_row : (bits sums : List ℕ) (low at : ℕ) → IsDueRow bits sums low → ((j : ℕ) → low ≤ j → j < at → slice_index sums j ≡ 0) → IsDueRow bits sums at
lower_row bits sums low at row zeros = record {
  few = row.few;
  room = row.room;
  told = row.told;
  true_of = row.true_of;
  below = λ j less. ⊎_elim (λ l. row.below j l) (λ m. zeros j m less) (cases_lt j low);
}

zero_words : (n k : ℕ) → slice_index (replicate n 0) k ≡ 0
zero_words n k =
    let zeros : List ℕ = replicate n 0 in
    let long : length zeros ≡ n = length-replicate n 0 in
    ⊎_elim (λ l. get_or-replicate n k 0 0 l) (λ m. get_or_past zeros k 0 (omega (arith, long, m))) (cases_lt k n)

-- a row of zeros
pub zero_row : (bits sums : List ℕ) (words sum_words low : ℕ) → bits ≡ replicate words 0 → sums ≡ replicate sum_words 0 → words ≤ 64 * sum_words → sum_words < 2 ^ 32 → IsDueRow bits sums low
zero_row bits sums words sum_words low b s room few = record {
  few = subst (λ (xs : List ℕ). length xs < 2 ^ 32) (sym s) (let sums0 : List ℕ = replicate sum_words 0 in let long : length sums0 ≡ sum_words = length-replicate sum_words 0 in omega (arith, long, few));
  room = subst (λ (xs : List ℕ). length bits ≤ 64 * length xs) (sym s) (subst (λ (xs : List ℕ). length xs ≤ 64 * length (let sums0 : List ℕ = replicate sum_words 0 in sums0)) (sym b) (let sums0 : List ℕ = replicate sum_words 0 in let bits0 : List ℕ = replicate words 0 in let long : length sums0 ≡ sum_words = length-replicate sum_words 0 in let long2 : length bits0 ≡ words = length-replicate words 0 in omega (arith, long, long2, room)));
  told = λ w h. absurd (let zero : slice_index bits w ≡ 0 = subst (λ (xs : List ℕ). slice_index xs w ≡ 0) (sym b) (zero_words words w) in omega (arith, zero, h));
  true_of = λ w t. absurd (let bad : true ≡ false = sym t ∙ subst (λ (xs : List ℕ). is_marked xs w ≡ false) (sym s) (none_in_zero (replicate sum_words 0) w (zero_words sum_words (w / 64))) in cc bad);
  below = λ j less. subst (λ (xs : List ℕ). slice_index xs j ≡ 0) (sym s) (zero_words sum_words j);
}

pub zero_marks : (bits : List ℕ) (words k : ℕ) → bits ≡ replicate words 0 → is_marked bits k ≡ false
zero_marks bits words k b = subst (λ (xs : List ℕ). is_marked xs k ≡ false) (sym b) (none_in_zero (replicate words 0) k (zero_words words (k / 64)))

-- ---- one more mark, and one less

module _ (bits sums : List ℕ) (low place : ℕ) (row : IsDueRow bits sums low) (inside : place / 64 < length bits) where
  in_sums : place / 64 / 64 < length sums
  in_sums = omega (arith, row.room, inside)

  words_beside : (x w : ℕ) → w ≢ place / 64 → slice_index (set bits (place / 64) x) w ≡ slice_index bits w
  words_beside x w differ = get_or-set_other bits (place / 64) w x 0 (λ e. differ e)

  sums_beside : (x j : ℕ) → j ≢ place / 64 / 64 → slice_index (set sums (place / 64 / 64) x) j ≡ slice_index sums j
  sums_beside x j differ = get_or-set_other sums (place / 64 / 64) j x 0 (λ e. differ e)

  pub mark_row : (at : ℕ) → at ≤ low → at ≤ place / 64 / 64 → IsDueRow (with_mark bits place) (with_mark sums (place / 64)) at
  mark_row at le1 le2 = marked_row bits (with_mark bits place) sums (with_mark sums (place / 64)) low place row
      (length-set bits (place / 64) _) (mark_is_set bits place inside) (words_beside _)
      (length-set sums (place / 64 / 64) _) (mark_is_set sums (place / 64) in_sums) (λ w differ. marks_stay_beside sums (place / 64) w in_sums differ)
      (sums_beside _) at le1 le2

  pub unmark_all : slice_index (without_mark bits place) (place / 64) ≡ 0 → IsDueRow (without_mark bits place) (without_mark sums (place / 64)) low
  unmark_all zero = none_marked bits (without_mark bits place) sums (without_mark sums (place / 64)) low place row
      (length-set bits (place / 64) _) (words_beside _) zero
      (length-set sums (place / 64 / 64) _) (mark_is_gone sums (place / 64) in_sums) (λ w differ. other_marks_stay sums (place / 64) w in_sums differ)
      zeros
    where
      zeros : (j : ℕ) → slice_index sums j ≡ 0 → slice_index (without_mark sums (place / 64)) j ≡ 0
      zeros j z = ⊎_elim
          (λ same. subst (λ i. slice_index (without_mark sums (place / 64)) i ≡ 0) (sym same)
          (get_or-set_same sums (place / 64 / 64) _ 0 in_sums ∙ ap (λ n. bit_and n (bit_not w64 (1 * 2 ^ (place / 64 % 64) % 18446744073709551616))) (subst (λ i. slice_index sums i ≡ 0) same z) ∙ and_zero_l (bit_not w64 (1 * 2 ^ (place / 64 % 64) % 18446744073709551616))))
          (λ beside. sums_beside _ j beside ∙ z)
          (cases_eq j (place / 64 / 64))

  pub unmark_some : slice_index (without_mark bits place) (place / 64) ≢ 0 → IsDueRow (without_mark bits place) sums low
  unmark_some some = less_marked bits (without_mark bits place) sums low place row (length-set bits (place / 64) _) (words_beside _) some was
    where
      was : 1 ≤ slice_index bits (place / 64)
      was = ⊎_elim
          (λ z. absurd (some (get_or-set_same bits (place / 64) _ 0 inside ∙ ap (λ n. bit_and n (bit_not w64 (1 * 2 ^ (place % 64) % 18446744073709551616))) z ∙ and_zero_l (bit_not w64 (1 * 2 ^ (place % 64) % 18446744073709551616)))))
          (λ n. omega (arith, n))
          (cases_eq (slice_index bits (place / 64)) 0)

-- the same, where the words were read before
pub mark_row_by : (bits sums : List ℕ) (low place at x y : ℕ) → IsDueRow bits sums low → place / 64 < length bits → x ≡ slice_index bits (place / 64) → y ≡ slice_index sums (place / 64 / 64) → at ≤ low → at ≤ place / 64 / 64
    → IsDueRow (set bits (place / 64) (bit_or x (1 * 2 ^ (place % 64) % 18446744073709551616))) (set sums (place / 64 / 64) (bit_or y (1 * 2 ^ (place / 64 % 64) % 18446744073709551616))) at
mark_row_by bits sums low place at x y row inside ex ey le1 le2 =
    subst (λ x. IsDueRow (set bits (place / 64) (bit_or x (1 * 2 ^ (place % 64) % 18446744073709551616))) (set sums (place / 64 / 64) (bit_or y (1 * 2 ^ (place / 64 % 64) % 18446744073709551616))) at) (sym ex)
    (subst (λ y. IsDueRow (with_mark bits place) (set sums (place / 64 / 64) (bit_or y (1 * 2 ^ (place / 64 % 64) % 18446744073709551616))) at) (sym ey) (mark_row bits sums low place row inside at le1 le2))

pub unmark_all_by : (bits sums : List ℕ) (low place x y : ℕ) → IsDueRow bits sums low → place / 64 < length bits → x ≡ slice_index bits (place / 64) → y ≡ slice_index sums (place / 64 / 64)
    → slice_index (set bits (place / 64) (bit_and x (bit_not w64 (1 * 2 ^ (place % 64) % 18446744073709551616)))) (place / 64) ≡ 0
    → IsDueRow (set bits (place / 64) (bit_and x (bit_not w64 (1 * 2 ^ (place % 64) % 18446744073709551616)))) (set sums (place / 64 / 64) (bit_and y (bit_not w64 (1 * 2 ^ (place / 64 % 64) % 18446744073709551616)))) low
unmark_all_by bits sums low place x y row inside ex ey zero =
    subst (λ x. slice_index (set bits (place / 64) (bit_and x (bit_not w64 (1 * 2 ^ (place % 64) % 18446744073709551616)))) (place / 64) ≡ 0 → IsDueRow (set bits (place / 64) (bit_and x (bit_not w64 (1 * 2 ^ (place % 64) % 18446744073709551616)))) (set sums (place / 64 / 64) (bit_and y (bit_not w64 (1 * 2 ^ (place / 64 % 64) % 18446744073709551616)))) low) (sym ex)
    (λ z. subst (λ y. IsDueRow (without_mark bits place) (set sums (place / 64 / 64) (bit_and y (bit_not w64 (1 * 2 ^ (place / 64 % 64) % 18446744073709551616)))) low) (sym ey) (unmark_all bits sums low place row inside z)) zero

pub read_back : (xs : List ℕ) (i x : ℕ) → i < length xs → x ≡ get_or xs i x → x ≡ slice_index xs i
read_back xs i x inside e = e ∙ get_or_default_zero xs i x inside
