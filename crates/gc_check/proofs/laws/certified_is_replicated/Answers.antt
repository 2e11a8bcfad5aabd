-- In graphs that correspond, equal paths lead to a pair, an object has one replica, and commands get the same replies.
use Rattle.std.proofs.Common.{length, sym, ◌∙◌}
use Rattle.gc_graph.specs.Correspond.{Corresponding}
use Rattle.gc_words.specs.Image.{graph_of, roomy_of}
use Rattle.gc_check.proofs.Paths.{paths_agree, one_replica, take_replies}
use Rattle.gc_check.proofs.laws.certified_is_replicated.Goals as goal

pub returns : goal.returns
returns c old new pairs certified =
    let both : Corresponding pairs (graph_of old) (graph_of new) = c.certified_graphs_correspond.ensures old new pairs certified in
    let same = c.corresponding_graphs_reply_alike.ensures (roomy_of old) (roomy_of new) pairs both in
    record {
      paths = paths_agree pairs (graph_of old) (graph_of new) both;
      one_replica = one_replica pairs (graph_of old) (graph_of new) both;
      its_own = λ x y z r r' p q. both.one_left x y z p q;
      fields = λ x y r p. both.objects x y p;
      same_replies = same;
      all_replies = λ commands room room'. sym (take_replies commands (roomy_of old)) ∙ same commands (length commands) room room' ∙ take_replies commands (roomy_of new);
    }
