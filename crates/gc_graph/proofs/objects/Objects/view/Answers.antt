-- An object of the graph has no more fields than a header can count, so its number of fields can be shown.
use Rattle.std.proofs.Common.{◌<◌, subst}
use Rattle.std.proofs.lemmas.List.{length-map}
use Rattle.gc_graph.specs.Records.{plain_value, object_of_record}
use Rattle.gc_graph.proofs.Plains.{object_short}
use Rattle.gc_graph.proofs.objects.Objects.view.Goals as goal

pub view-requires : goal.view-requires
view-requires c = subst (λ n. n < 65536) (length-map c.in-Some.record.now.fields.items plain_value)
    (object_short _ _ (object_of_record c.in-Some.record.now) c.requires c.in-Some.ensures)
