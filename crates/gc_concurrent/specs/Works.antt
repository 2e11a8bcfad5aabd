-- What the collector's calls say that they did.
use Rattle.std.specs.Prelude.{◌≡◌, ◌⊎◌, ◌<◌, true, []}
use Rattle.gc_model.specs.Steps.{scan_done}
use Rattle.gc_concurrent.specs.declared.copier.Work.{Work}
use Rattle.gc_concurrent.specs.declared.copier.Work.TheVariants.{Step, Done, NoRoom}
use Rattle.gc_concurrent.specs.Ends.{Theirs, its, opening_theirs}

-- where the step says so, nothing is due, every replica is scanned, and no object is wanted
abbrev pub WhereDone : Work → Theirs → Type 0
WhereDone Done t = (t.due ≡ []) × (scan_done (its t) ≡ true) × (t.wanted ≡ [])
WhereDone Step t = Unit {0}
WhereDone NoRoom t = Unit {0}

-- where the step found no room for a replica, the new space is smaller than the mutator's
abbrev pub WhereNoRoom : Work → Theirs → Type 0
WhereNoRoom NoRoom t = t.size < t.old
WhereNoRoom Step t = Unit {0}
WhereNoRoom Done t = Unit {0}

-- The heap with which the collection began is the same, and so are the sizes of both spaces.
pub record KeepsBeginning (old new : Theirs) : Type 0 where
  pub base : new.base ≡ old.base
  pub from : new.old ≡ old.old
  pub into : new.size ≡ old.size

-- The collection goes on as it stood, or has begun anew in a space of one word.
abbrev pub StandsOrBegins : Theirs → Theirs → Type 0
StandsOrBegins old new = (new ≡ old) ⊎ (new ≡ opening_theirs old.base old.old 1)

-- The same after some steps.
abbrev pub KeepsOrBegins : Theirs → Theirs → Type 0
KeepsOrBegins old new = KeepsBeginning old new ⊎ (new ≡ opening_theirs old.base old.old 1)

-- Nothing was due. Now the entries of the mutator's log are due, and nothing else has changed.
pub record TakesLog (old new : Theirs) : Type 0 where
  pub applied : old.due ≡ []
  pub rest : new ≡ record old { due = new.due }
