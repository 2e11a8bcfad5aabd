-- Worked rows. The base is 5: the word 8 refers to an old object, and the words 10 and 12 refer to young ones.
use Rattle.std.specs.Prelude.{◌≡◌, true, false, [], ◌∷◌}
use Rattle.gc_check.specs.Headline.{Replicated}
use Rattle.gc_nursery.specs.Minor.{is_old, is_young, words_correspond_above, MinorCertified, whole, identity, remember}
use Rattle.gc_nursery.specs.Encoding.{counted_from, encoded, rebased, young_image}

pub record Rows : Type 0 where
  pub old : is_old 5 8 ≡ true
  pub base_is_young : is_old 5 10 ≡ false
  pub number_is_not_old : is_old 5 7 ≡ false
  pub nil_is_not_old : is_old 5 0 ≡ false
  pub young : is_young 5 10 ≡ true
  pub old_is_not_young : is_young 5 8 ≡ false
  pub number_is_not_young : is_young 5 11 ≡ false
  pub same_old : words_correspond_above 5 [] 8 8 ≡ true
  pub other_old : words_correspond_above 5 [] 8 6 ≡ false
  pub young_without_a_pair : words_correspond_above 5 [] 10 10 ≡ false
  pub young_with_a_pair : words_correspond_above 5 ((5, 6) ∷ []) 10 12 ≡ true
  pub young_over_nil : remember 5 0 10 1 2 [] ≡ (1, 2) ∷ []
  pub young_over_old : remember 5 8 10 1 2 [] ≡ (1, 2) ∷ []
  pub young_over_young : remember 5 12 10 1 2 ((1, 2) ∷ []) ≡ (1, 2) ∷ []
  pub old_over_young : remember 5 10 8 1 2 ((1, 2) ∷ []) ≡ (1, 2) ∷ []
  pub encoded_nil : encoded (counted_from 100) 5 0 ≡ 0
  pub encoded_number : encoded (counted_from 100) 5 7 ≡ 7
  pub encoded_old : encoded (counted_from 100) 5 8 ≡ 209
  pub encoded_young : encoded (counted_from 100) 5 10 ≡ 2
  pub rebased_pair : rebased 5 ((5, 9) ∷ []) ≡ (1, 5) ∷ []
  pub image : young_image 9 (counted_from 100) 5 (16777219 ∷ 77 ∷ 8 ∷ 10 ∷ 7 ∷ 50331649 ∷ 77 ∷ 8 ∷ []) (20 ∷ 8 ∷ [])
      ≡ record { size = 9; end = 9; words = 0 ∷ 16777219 ∷ 0 ∷ 209 ∷ 2 ∷ 7 ∷ 50331649 ∷ 0 ∷ 8 ∷ []; roots = 12 ∷ 209 ∷ []; raws = true }
  -- A field that the barrier forgot: the old object at 1 refers to the young one at 4, and nothing is remembered. The minor collection drops that
  -- young object, and is certified. The theorem is false of the whole heap.
  pub forgotten_is_certified : MinorCertified 4 (16777216 ∷ 0 ∷ []) [] (2 ∷ []) (2 ∷ []) []
  pub forgotten_is_not_replicated : ¬ Replicated (whole 9 (0 ∷ 16777217 ∷ 0 ∷ 8 ∷ []) (16777216 ∷ 0 ∷ []) (2 ∷ [])) (whole 9 (0 ∷ 16777217 ∷ 0 ∷ 8 ∷ []) [] (2 ∷ [])) (identity (0 ∷ 16777217 ∷ 0 ∷ 8 ∷ []))
