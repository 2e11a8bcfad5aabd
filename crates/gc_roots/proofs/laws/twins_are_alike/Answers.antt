-- A root and its twin are a pair of the collection, or the same plain word.
use Rattle.gc_roots.proofs.Alike.{known_looked, twin_alike}
use Rattle.gc_roots.proofs.laws.twins_are_alike.Goals as goal

pub returns-clause-words : goal.returns-clause-words
returns-clause-words c objects o w u belongs size value twin = twin_alike objects o belongs size w u value twin

pub returns-clause-rows : goal.returns-clause-rows
returns-clause-rows c heap s o row looks is graph first opened keeps compares = known_looked heap s o row looks is graph first opened.belongs opened.size keeps compares
