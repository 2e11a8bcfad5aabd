-- The worked examples hold: the prover computes them.
use Rattle.std.proofs.Common.{◌≡◌, [], ◌∷◌, refl, false, true, arith}
use Rattle.std.specs.Fmt.{digits}
use Rattle.gc_check.specs.Verdict.{refusal_parts, refusal_words, verdict_words}
use Rattle.gc_check.proofs.laws.worked_rows.Goals as goal

pub returns : goal.returns
unfolding digits refusal_parts refusal_words verdict_words
returns c = record { nothing = refl; root_count = refl; not_rising = refl; twice = refl; new_shape = refl; word_0 = refl; old_not_start = refl; root_differs = refl; second_field = refl; garbage_left = refl; number_and_reference = refl; header_differs = refl; new_not_start = refl; end_above_size = refl; links_differ = refl; no_value = refl; old_falls = refl; short_object = refl; raw_without_raws = refl; raw_with_raws = refl; raw_words_alike = refl; raw_words_differ = refl; raw_word_no_value = refl; raw_and_not = refl; shared_replica = λ holds. let same : 1 ≡ 3 = holds.its_own 1 3 1 (0, [], refl) (1, [], refl) refl refl in absurd (omega (arith, same)); later_field = λ holds. let same : false ≡ true = holds.paths 0 (0 ∷ 0 ∷ []) in cc }
