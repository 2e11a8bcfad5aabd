-- The first fault with a limit is the one without, or an image above the limit has a fault of shape.
use Rattle.std.proofs.lemmas.Grind.{common_steps}
use Rattle.std.specs.Option.{option_map}
use Rattle.std.proofs.Common.{◌≡◌, ℕ, ◌<◌, ◌≤◌, List, Option, Some, None, arith}
use Rattle.std.proofs.lemmas.Bool.{cond-true, cond-false, le-leb, lt-leb}
use Rattle.gc_graph.specs.Limits.{most_words}
use Rattle.gc_words.specs.Image.{Image}
use Rattle.gc_words.specs.Fault.{◌or_else◌, shape_fault, table_fault, first_fault}
use Rattle.gc_words.specs.declared.refusal.Refusal.{Refusal}
use Rattle.gc_words.specs.declared.refusal.Refusal.TheVariants.{OldShape, NewShape}
use Rattle.gc_check.specs.Verdict.{IsRefusalOf}
use Rattle.gc_check.specs.declared.verdict.CheckFault.{CheckFault}
use Rattle.gc_check.specs.Profile.{small_shapes_or_else, first_small_fault, small_table_fault}

shapes_again : {X : Type 0} (a b c d e f : Option X) → ((a or_else b) or_else (a or_else b or_else c or_else d or_else e or_else f)) ≡ (a or_else b or_else c or_else d or_else e or_else f)
shapes_again a b c d e f = grind (arith, common_steps)

tables_again : {X : Type 0} (a b c d : Option X) → ((a or_else b) or_else (a or_else b or_else c or_else d)) ≡ (a or_else b or_else c or_else d)
tables_again a b c d = grind (arith, common_steps)

-- small images have the same first fault
pub small_fault : (old new : Image) (pairs : List (ℕ × ℕ)) → old.size ≤ most_words → new.size ≤ most_words → first_small_fault old new pairs ≡ first_fault old new pairs
small_fault old new pairs a b = grind (arith, common_steps, cond-true, le-leb, shapes_again)

-- so it is before objects are compared
pub small_tables : (old new : Image) (pairs : List (ℕ × ℕ)) → old.size ≤ most_words → new.size ≤ most_words → small_table_fault old new pairs ≡ table_fault old new pairs
small_tables old new pairs a b = grind (arith, common_steps, cond-true, le-leb, tables_again)

-- the fault of a large old image
pub large_old : (old new : Image) (rest : Option Refusal) → most_words < old.size → small_shapes_or_else old new rest ≡ Some (OldShape 0)
large_old old new rest large = grind (arith, common_steps, cond-false, lt-leb)

-- the fault of the shape of a small old image
pub bad_old : (old new : Image) (rest : Option Refusal) (fault : CheckFault) → old.size ≤ most_words → IsRefusalOf (option_map (λ at. OldShape at) (shape_fault old)) fault → IsRefusalOf (small_shapes_or_else old new rest) fault
bad_old old new rest fault small is = grind (arith, common_steps, cond-true, le-leb)

-- the fault of a large new image, if the old one has none
pub large_new : (old new : Image) (rest : Option Refusal) → old.size ≤ most_words → shape_fault old ≡ None → most_words < new.size → small_shapes_or_else old new rest ≡ Some (NewShape 0)
large_new old new rest small none large = grind (arith, common_steps, cond-true, le-leb, cond-false, lt-leb)
