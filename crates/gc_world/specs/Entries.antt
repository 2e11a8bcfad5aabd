-- An entry of a history as contracts see it.
use Rattle.gc_model.specs.declared.event.Event.{Event}
use Rattle.gc_model.specs.declared.event.Answer.{Answer}

pub record EntryValue : Type 0 where
  pub event : Event
  pub answer : Answer
