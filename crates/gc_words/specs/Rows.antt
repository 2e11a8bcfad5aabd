-- Worked rows: words with their meanings, and certificates with their first faults.
use Rattle.std.specs.Prelude.{◌≡◌, ℕ, true, false, List, [], ◌∷◌, Some, None}
use Rattle.gc_graph.specs.Graph.{Nil, Num, Ref}
use Rattle.gc_words.specs.Word.{read_header, read_value, read_value_within}
use Rattle.gc_words.specs.Image.{Image}
use Rattle.gc_words.specs.Fault.{first_fault}
use Rattle.gc_words.specs.declared.refusal.Refusal.TheVariants.{OldShape, NewShape, RootCount, OldNotStart, NewNotStart, NotRising, Twice, HeaderDiffers, FieldDiffers, RootDiffers}

pub record WordRows : Type 0 where
  pub nil : read_value 0 ≡ Some Nil
  pub one : read_value 1 ≡ Some (Num 0)
  pub two : read_value 2 ≡ Some (Ref 1)
  pub three : read_value 3 ≡ Some (Num 1)
  pub nine : read_value 9 ≡ Some (Num 4)
  pub eight : read_value 8 ≡ Some (Ref 4)
  pub greatest_address : read_value_within 1048576 2097150 ≡ Some (Ref 1048575)
  pub no_address : read_value_within 1048576 2097152 ≡ None
  pub even_greatest : read_value 18446744073709551614 ≡ None
  pub greatest_number : read_value 18446744073709551615 ≡ Some (Num 9223372036854775807)
  pub low : read_header 16777215 ≡ None
  pub least : read_header 16777216 ≡ Some (record { raw = false; kind = 0; len = 0 })
  pub one_field : read_header 16777217 ≡ Some (record { raw = false; kind = 0; len = 1 })
  pub next_kind : read_header 16842752 ≡ Some (record { raw = false; kind = 1; len = 0 })
  pub kind_one : read_header 16842754 ≡ Some (record { raw = false; kind = 1; len = 2 })
  pub greatest : read_header 33554431 ≡ Some (record { raw = false; kind = 255; len = 65535 })
  pub high : read_header 33554432 ≡ None
  pub raw_low : read_header 50331647 ≡ None
  pub raw_least : read_header 50331648 ≡ Some (record { raw = true; kind = 0; len = 0 })
  pub raw_greatest : read_header 67108863 ≡ Some (record { raw = true; kind = 255; len = 65535 })
  pub raw_high : read_header 67108864 ≡ None

abbrev image : ℕ → ℕ → List ℕ → List ℕ → Image
image size end words roots = record { size = size; end = end; words = words; roots = roots; raws = false }

abbrev with_raws : ℕ → ℕ → List ℕ → List ℕ → Image
with_raws size end words roots = record { size = size; end = end; words = words; roots = roots; raws = true }

pub record PairRows : Type 0 where
  pub nothing : first_fault (image 1 1 (0 ∷ []) (0 ∷ [])) (image 1 1 (0 ∷ []) (0 ∷ [])) [] ≡ None
  pub root_count : first_fault (image 1 1 (0 ∷ []) (0 ∷ [])) (image 1 1 (0 ∷ []) (0 ∷ 0 ∷ [])) [] ≡ Some RootCount
  pub not_rising : first_fault (image 8 5 (0 ∷ 16777216 ∷ 0 ∷ 16777216 ∷ 0 ∷ []) (2 ∷ 6 ∷ [])) (image 8 3 (0 ∷ 16777216 ∷ 0 ∷ []) (2 ∷ 2 ∷ [])) ((1, 1) ∷ (3, 1) ∷ []) ≡ Some (NotRising 1)
  pub twice : first_fault (image 8 3 (0 ∷ 16777216 ∷ 0 ∷ []) (2 ∷ 2 ∷ [])) (image 8 5 (0 ∷ 16777216 ∷ 0 ∷ 16777216 ∷ 0 ∷ []) (2 ∷ 6 ∷ [])) ((1, 1) ∷ (1, 3) ∷ []) ≡ Some (Twice 1)
  pub new_shape : first_fault (image 8 3 (0 ∷ 16777216 ∷ 0 ∷ []) (2 ∷ [])) (image 8 3 (0 ∷ 16777217 ∷ 0 ∷ []) (2 ∷ [])) ((1, 1) ∷ []) ≡ Some (NewShape 1)
  pub old_reserved : first_fault (image 8 1 (7 ∷ []) []) (image 8 1 (0 ∷ []) []) [] ≡ Some (OldShape 0)
  pub not_start : first_fault (image 8 4 (0 ∷ 16777217 ∷ 0 ∷ 1 ∷ []) (6 ∷ [])) (image 8 4 (0 ∷ 16777217 ∷ 0 ∷ 1 ∷ []) (6 ∷ [])) ((1, 1) ∷ (3, 3) ∷ []) ≡ Some (OldNotStart 1)
  pub root_differs : first_fault (image 8 4 (0 ∷ 16777217 ∷ 0 ∷ 1 ∷ []) (6 ∷ [])) (image 8 4 (0 ∷ 16777217 ∷ 0 ∷ 1 ∷ []) (6 ∷ [])) ((1, 1) ∷ []) ≡ Some (RootDiffers 0)
  pub second_field : first_fault (image 8 7 (0 ∷ 16777218 ∷ 0 ∷ 1 ∷ 10 ∷ 16777216 ∷ 0 ∷ []) (2 ∷ [])) (image 8 5 (0 ∷ 16777218 ∷ 0 ∷ 1 ∷ 2 ∷ []) (2 ∷ [])) ((1, 1) ∷ []) ≡ Some (FieldDiffers 0 1)
  pub garbage : first_fault (image 8 5 (0 ∷ 16777216 ∷ 0 ∷ 16777216 ∷ 0 ∷ []) (2 ∷ [])) (image 8 3 (0 ∷ 16777216 ∷ 0 ∷ []) (2 ∷ [])) ((1, 1) ∷ []) ≡ None
  pub number_and_reference : first_fault (image 9 4 (0 ∷ 16777217 ∷ 0 ∷ 9 ∷ []) (2 ∷ [])) (image 9 4 (0 ∷ 16777217 ∷ 0 ∷ 8 ∷ []) (2 ∷ [])) ((1, 1) ∷ []) ≡ Some (FieldDiffers 0 0)
  pub header : first_fault (image 8 3 (0 ∷ 16777216 ∷ 0 ∷ []) (2 ∷ [])) (image 8 3 (0 ∷ 16842752 ∷ 0 ∷ []) (2 ∷ [])) ((1, 1) ∷ []) ≡ Some (HeaderDiffers 0)
  pub new_not_start : first_fault (image 8 3 (0 ∷ 16777216 ∷ 0 ∷ []) (2 ∷ [])) (image 8 3 (0 ∷ 16777216 ∷ 0 ∷ []) (2 ∷ [])) ((1, 2) ∷ []) ≡ Some (NewNotStart 0)
  pub end_above_size : first_fault (image 1 3 (0 ∷ 16777216 ∷ 0 ∷ []) []) (image 1 1 (0 ∷ []) []) [] ≡ Some (OldShape 0)
  pub links : first_fault (image 8 3 (0 ∷ 16777216 ∷ 77 ∷ []) (2 ∷ [])) (image 8 3 (0 ∷ 16777216 ∷ 99 ∷ []) (2 ∷ [])) ((1, 1) ∷ []) ≡ None
  pub no_value : first_fault (image 8 4 (0 ∷ 16777217 ∷ 0 ∷ 2097152 ∷ []) (2 ∷ [])) (image 8 4 (0 ∷ 16777217 ∷ 0 ∷ 2097152 ∷ []) (2 ∷ [])) ((1, 1) ∷ []) ≡ Some (FieldDiffers 0 0)
  pub swapped : first_fault (image 8 5 (0 ∷ 16777216 ∷ 0 ∷ 16842752 ∷ 0 ∷ []) (2 ∷ 6 ∷ [])) (image 8 5 (0 ∷ 16842752 ∷ 0 ∷ 16777216 ∷ 0 ∷ []) (6 ∷ 2 ∷ [])) ((3, 1) ∷ (1, 3) ∷ []) ≡ None
  pub old_shape : first_fault (image 8 4 (0 ∷ 16777216 ∷ 0 ∷ 5 ∷ []) []) (image 8 1 (0 ∷ []) []) [] ≡ Some (OldShape 3)
  pub raw_without_raws : first_fault (image 8 3 (0 ∷ 50331648 ∷ 0 ∷ []) (2 ∷ [])) (image 8 3 (0 ∷ 50331648 ∷ 0 ∷ []) (2 ∷ [])) ((1, 1) ∷ []) ≡ Some (OldShape 1)
  pub raw_with_raws : first_fault (with_raws 8 3 (0 ∷ 50331648 ∷ 0 ∷ []) (2 ∷ [])) (with_raws 8 3 (0 ∷ 50331648 ∷ 0 ∷ []) (2 ∷ [])) ((1, 1) ∷ []) ≡ None
  pub raw_words_alike : first_fault (with_raws 9 4 (0 ∷ 50331649 ∷ 0 ∷ 18 ∷ []) (2 ∷ [])) (with_raws 9 4 (0 ∷ 50331649 ∷ 0 ∷ 18 ∷ []) (2 ∷ [])) ((1, 1) ∷ []) ≡ None
  pub raw_words_differ : first_fault (with_raws 9 4 (0 ∷ 50331649 ∷ 0 ∷ 18 ∷ []) (2 ∷ [])) (with_raws 9 4 (0 ∷ 50331649 ∷ 0 ∷ 8 ∷ []) (2 ∷ [])) ((1, 1) ∷ []) ≡ Some (FieldDiffers 0 0)
  pub raw_word_no_value : first_fault (with_raws 9 4 (0 ∷ 50331649 ∷ 0 ∷ 18446744073709551614 ∷ []) (2 ∷ [])) (with_raws 9 4 (0 ∷ 50331649 ∷ 0 ∷ 18446744073709551614 ∷ []) (2 ∷ [])) ((1, 1) ∷ []) ≡ None
  pub raw_and_not : first_fault (with_raws 8 3 (0 ∷ 16777216 ∷ 0 ∷ []) (2 ∷ [])) (with_raws 8 3 (0 ∷ 50331648 ∷ 0 ∷ []) (2 ∷ [])) ((1, 1) ∷ []) ≡ Some (HeaderDiffers 0)
