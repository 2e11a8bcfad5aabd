-- Without its links the space is still shaped and has the same objects.
use Rattle.gc_words.proofs.Bodies.{links_cleared}
use Rattle.gc_words.proofs.space.Space.clear_links.Goals as goal

pub invariant_of-self : goal.invariant_of-self
invariant_of-self c = ((links_cleared _ _ c.deref_mut.result.now c.clear_links.new.words c.self.inside.words.len c.self.view_is c.self.invariant.0 c.deref_mut.ensures.value c.self.inside.words.ok.0 c.clear_links.ensures).space, c.self.invariant.1)

pub returns-clause-objects : goal.returns-clause-objects
returns-clause-objects c = (links_cleared _ _ c.deref_mut.result.now c.clear_links.new.words c.self.inside.words.len c.self.view_is c.self.invariant.0 c.deref_mut.ensures.value c.self.inside.words.ok.0 c.clear_links.ensures).objects

pub returns-clause-shaped : goal.returns-clause-shaped
returns-clause-shaped c = (links_cleared _ _ c.deref_mut.result.now c.clear_links.new.words c.self.inside.words.len c.self.view_is c.self.invariant.0 c.deref_mut.ensures.value c.self.inside.words.ok.0 c.clear_links.ensures).space
