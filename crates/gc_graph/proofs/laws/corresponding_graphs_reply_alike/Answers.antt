-- Commands keep matched graphs matched and get the same replies, up to the first command for which one side has no room.
use Rattle.gc_graph.proofs.Matched.{matched_of}
use Rattle.gc_graph.proofs.Replies.{replies_alike}
use Rattle.gc_graph.proofs.laws.corresponding_graphs_reply_alike.Goals as goal

pub returns : goal.returns
returns c = λ s t pairs both commands n r r'. replies_alike commands n s t pairs (matched_of pairs s.graph t.graph both) r r'
