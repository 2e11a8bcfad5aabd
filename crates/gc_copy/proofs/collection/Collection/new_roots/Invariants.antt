-- So far, the row has the moved words of the roots before this one.
use Rattle.std.proofs.Common.{◌≡◌, ◌≤◌, ◌++◌, length, map, drop, vec_capacity}
use Rattle.gc_copy.specs.Words.{collection_in}
use Rattle.gc_copy.proofs.RootWalks.{moved_to}
use Rattle.gc_copy.proofs.collection.Collection.new_roots.Given as goal

-- the roots so far, and then the moved rest, are all roots moved; there is room for all
abbrev pub invariant-loop-word : goal.invariant-loop-word
invariant-loop-word l = (l.roots.items ++ map (moved_to (collection_in l.self)) (drop l.word-index l.word-items) ≡ map (moved_to (collection_in l.self)) l.word-items)
    × (length l.word-items ≤ vec_capacity l.roots)
