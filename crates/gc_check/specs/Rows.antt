-- Worked rows: pairs of images, certificates, and the lines of their verdicts.
use Rattle.std.specs.Prelude.{◌≡◌, ℕ, true, false, List, [], ◌∷◌, codes}
use Rattle.gc_words.specs.Image.{Image}
use Rattle.gc_check.specs.Headline.{Replicated}
use Rattle.gc_check.specs.Verdict.{verdict_of, verdict_line}

abbrev image : ℕ → ℕ → List ℕ → List ℕ → Image
image size end words roots = record { size = size; end = end; words = words; roots = roots; raws = false }

-- an image in which headers of raw objects count
abbrev with_raws : ℕ → ℕ → List ℕ → List ℕ → Image
with_raws size end words roots = record { size = size; end = end; words = words; roots = roots; raws = true }

abbrev pub answer : Image → Image → List (ℕ × ℕ) → List ℕ
answer old new pairs = verdict_line (verdict_of old new pairs)

pub record Rows : Type 0 where
  pub nothing : answer (image 1 1 (0 ∷ []) (0 ∷ [])) (image 1 1 (0 ∷ []) (0 ∷ [])) ([]) ≡ codes "yes 0\n"
  pub root_count : answer (image 1 1 (0 ∷ []) (0 ∷ [])) (image 1 1 (0 ∷ []) (0 ∷ 0 ∷ [])) ([]) ≡ codes "refused 3 RootCount\n"
  pub not_rising : answer (image 8 5 (0 ∷ 16777216 ∷ 0 ∷ 16777216 ∷ 0 ∷ []) (2 ∷ 6 ∷ [])) (image 8 3 (0 ∷ 16777216 ∷ 0 ∷ []) (2 ∷ 2 ∷ [])) ((1, 1) ∷ (3, 1) ∷ []) ≡ codes "refused 6 NotRising 1\n"
  pub twice : answer (image 8 3 (0 ∷ 16777216 ∷ 0 ∷ []) (2 ∷ 2 ∷ [])) (image 8 5 (0 ∷ 16777216 ∷ 0 ∷ 16777216 ∷ 0 ∷ []) (2 ∷ 6 ∷ [])) ((1, 1) ∷ (1, 3) ∷ []) ≡ codes "refused 7 Twice 1\n"
  pub new_shape : answer (image 8 3 (0 ∷ 16777216 ∷ 0 ∷ []) (2 ∷ [])) (image 8 3 (0 ∷ 16777217 ∷ 0 ∷ []) (2 ∷ [])) ((1, 1) ∷ []) ≡ codes "refused 2 NewShape 1\n"
  pub word_0 : answer (image 8 1 (7 ∷ []) ([])) (image 8 1 (0 ∷ []) ([])) ([]) ≡ codes "refused 1 OldShape 0\n"
  pub old_not_start : answer (image 8 4 (0 ∷ 16777217 ∷ 0 ∷ 1 ∷ []) (6 ∷ [])) (image 8 4 (0 ∷ 16777217 ∷ 0 ∷ 1 ∷ []) (6 ∷ [])) ((1, 1) ∷ (3, 3) ∷ []) ≡ codes "refused 4 OldNotStart 1\n"
  pub root_differs : answer (image 8 4 (0 ∷ 16777217 ∷ 0 ∷ 1 ∷ []) (6 ∷ [])) (image 8 4 (0 ∷ 16777217 ∷ 0 ∷ 1 ∷ []) (6 ∷ [])) ((1, 1) ∷ []) ≡ codes "refused 10 RootDiffers 0\n"
  pub second_field : answer (image 8 7 (0 ∷ 16777218 ∷ 0 ∷ 1 ∷ 10 ∷ 16777216 ∷ 0 ∷ []) (2 ∷ [])) (image 8 5 (0 ∷ 16777218 ∷ 0 ∷ 1 ∷ 2 ∷ []) (2 ∷ [])) ((1, 1) ∷ []) ≡ codes "refused 9 FieldDiffers 0 1\n"
  pub garbage_left : answer (image 8 5 (0 ∷ 16777216 ∷ 0 ∷ 16777216 ∷ 0 ∷ []) (2 ∷ [])) (image 8 3 (0 ∷ 16777216 ∷ 0 ∷ []) (2 ∷ [])) ((1, 1) ∷ []) ≡ codes "yes 1\n"
  pub number_and_reference : answer (image 9 4 (0 ∷ 16777217 ∷ 0 ∷ 9 ∷ []) (2 ∷ [])) (image 9 4 (0 ∷ 16777217 ∷ 0 ∷ 8 ∷ []) (2 ∷ [])) ((1, 1) ∷ []) ≡ codes "refused 9 FieldDiffers 0 0\n"
  pub header_differs : answer (image 8 3 (0 ∷ 16777216 ∷ 0 ∷ []) (2 ∷ [])) (image 8 3 (0 ∷ 16842752 ∷ 0 ∷ []) (2 ∷ [])) ((1, 1) ∷ []) ≡ codes "refused 8 HeaderDiffers 0\n"
  pub new_not_start : answer (image 8 3 (0 ∷ 16777216 ∷ 0 ∷ []) (2 ∷ [])) (image 8 3 (0 ∷ 16777216 ∷ 0 ∷ []) (2 ∷ [])) ((1, 2) ∷ []) ≡ codes "refused 5 NewNotStart 0\n"
  pub end_above_size : answer (image 1 3 (0 ∷ 16777216 ∷ 0 ∷ []) ([])) (image 1 1 (0 ∷ []) ([])) ([]) ≡ codes "refused 1 OldShape 0\n"
  pub links_differ : answer (image 8 3 (0 ∷ 16777216 ∷ 77 ∷ []) (2 ∷ [])) (image 8 3 (0 ∷ 16777216 ∷ 99 ∷ []) (2 ∷ [])) ((1, 1) ∷ []) ≡ codes "yes 1\n"
  pub no_value : answer (image 8 4 (0 ∷ 16777217 ∷ 0 ∷ 2097152 ∷ []) (2 ∷ [])) (image 8 4 (0 ∷ 16777217 ∷ 0 ∷ 2097152 ∷ []) (2 ∷ [])) ((1, 1) ∷ []) ≡ codes "refused 9 FieldDiffers 0 0\n"
  pub old_falls : answer (image 8 5 (0 ∷ 16777216 ∷ 0 ∷ 16842752 ∷ 0 ∷ []) (2 ∷ 6 ∷ [])) (image 8 5 (0 ∷ 16842752 ∷ 0 ∷ 16777216 ∷ 0 ∷ []) (6 ∷ 2 ∷ [])) ((3, 1) ∷ (1, 3) ∷ []) ≡ codes "yes 2\n"
  pub short_object : answer (image 8 4 (0 ∷ 16777216 ∷ 0 ∷ 5 ∷ []) ([])) (image 8 1 (0 ∷ []) ([])) ([]) ≡ codes "refused 1 OldShape 3\n"
  pub raw_without_raws : answer (image 8 3 (0 ∷ 50331648 ∷ 0 ∷ []) (2 ∷ [])) (image 8 3 (0 ∷ 50331648 ∷ 0 ∷ []) (2 ∷ [])) ((1, 1) ∷ []) ≡ codes "refused 1 OldShape 1\n"
  pub raw_with_raws : answer (with_raws 8 3 (0 ∷ 50331648 ∷ 0 ∷ []) (2 ∷ [])) (with_raws 8 3 (0 ∷ 50331648 ∷ 0 ∷ []) (2 ∷ [])) ((1, 1) ∷ []) ≡ codes "yes 1\n"
  pub raw_words_alike : answer (with_raws 9 4 (0 ∷ 50331649 ∷ 0 ∷ 18 ∷ []) (2 ∷ [])) (with_raws 9 4 (0 ∷ 50331649 ∷ 0 ∷ 18 ∷ []) (2 ∷ [])) ((1, 1) ∷ []) ≡ codes "yes 1\n"
  pub raw_words_differ : answer (with_raws 9 4 (0 ∷ 50331649 ∷ 0 ∷ 18 ∷ []) (2 ∷ [])) (with_raws 9 4 (0 ∷ 50331649 ∷ 0 ∷ 8 ∷ []) (2 ∷ [])) ((1, 1) ∷ []) ≡ codes "refused 9 FieldDiffers 0 0\n"
  pub raw_word_no_value : answer (with_raws 9 4 (0 ∷ 50331649 ∷ 0 ∷ 18446744073709551614 ∷ []) (2 ∷ [])) (with_raws 9 4 (0 ∷ 50331649 ∷ 0 ∷ 18446744073709551614 ∷ []) (2 ∷ [])) ((1, 1) ∷ []) ≡ codes "yes 1\n"
  pub raw_and_not : answer (with_raws 8 3 (0 ∷ 16777216 ∷ 0 ∷ []) (2 ∷ [])) (with_raws 8 3 (0 ∷ 50331648 ∷ 0 ∷ []) (2 ∷ [])) ((1, 1) ∷ []) ≡ codes "refused 8 HeaderDiffers 0\n"
  -- The headline is false here, whatever a checker says: two objects share a replica; equal objects lead to unequal ones.
  pub shared_replica : ¬ Replicated (image 8 5 (0 ∷ 16777216 ∷ 0 ∷ 16777216 ∷ 0 ∷ []) (2 ∷ 6 ∷ [])) (image 8 3 (0 ∷ 16777216 ∷ 0 ∷ []) (2 ∷ 2 ∷ [])) ((1, 1) ∷ (3, 1) ∷ [])
  pub later_field : ¬ Replicated (image 8 7 (0 ∷ 16777217 ∷ 0 ∷ 8 ∷ 16777217 ∷ 0 ∷ 1 ∷ []) (2 ∷ [])) (image 8 7 (0 ∷ 16777217 ∷ 0 ∷ 8 ∷ 16777217 ∷ 0 ∷ 3 ∷ []) (2 ∷ [])) ((1, 1) ∷ (4, 4) ∷ [])
