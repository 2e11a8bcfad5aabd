-- All records are right exactly if the remaining ones are.
use Rattle.std.proofs.Common.{◌↔◌, drop}
use Rattle.std.specs.Prelude.{IsTrue}
use Rattle.std.specs.List.{AllByRecursion}
use Rattle.gcflip_heap_c.specs.Mixed.{is_field}
use Rattle.gcflip_heap_c.proofs.mixed.are_fields.Given as goal

-- all records are right if the remaining ones are
abbrev pub invariant-loop-field : goal.invariant-loop-field
invariant-loop-field l = AllByRecursion (λ f. IsTrue (is_field l.names f)) l.fields ↔ AllByRecursion (λ f. IsTrue (is_field l.names f)) (drop l.field-index l.fields)
