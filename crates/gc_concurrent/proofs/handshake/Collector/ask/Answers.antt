-- A collector may ask while the mutator runs.
use Rattle.gc_concurrent.proofs.Handshaking.{asks_rule}
use Rattle.gc_concurrent.proofs.Passing.{handshake_tied, handshake_word}
use Rattle.gc_concurrent.proofs.handshake.Collector.ask.Goals as goal

pub compare_exchange-requires : goal.compare_exchange-requires
compare_exchange-requires c = let a = c.args.self in (handshake_tied _ _ _ c.deref.ensures a.row.0, handshake_word _ _ _ c.deref.ensures a.row.0 a.row.1, asks_rule _ _ _ a.keeps.0)
