-- Without room nothing changes; else the object gets a name above all others, and its words are no longer free.
use Rattle.std.proofs.lemmas.Grind.{common_steps}
use Rattle.std.proofs.Common.{◌≡◌, ◌+◌, ◌≤◌, ◌∙◌, ap, subst, sym, arith}
use Rattle.gc_graph.specs.Limits.{most_words}
use Rattle.gc_graph.specs.Graph.{Graph, set_root, add_object, new_object, Ref}
use Rattle.gc_graph.specs.Records.{graph_of}
use Rattle.gc_graph.specs.Bounded.{AreBelow, AreShort}
use Rattle.gc_graph.proofs.Bounds.{make_below, make_short}
use Rattle.gc_graph.proofs.Stepping.{refused, made}
use Rattle.gc_graph.proofs.plain.Plain.make.Goals as goal

pub returns-then-taken-self-clause-ok : goal.returns-then-taken-self-clause-ok
returns-then-taken-self-clause-ok c = refused c.self.inside c.args.self.now c.args.place c.args.raw c.args.kind c.args.len c.self.view_is c.self.invariant (omega (arith, c.object_words-taken.ensures))

pub invariant_of-self-2 : goal.invariant_of-self-2
invariant_of-self-2 c =
    let a = c.self.inside in
    let g : Graph = graph_of a.objects in
    let same : set_root (add_object g a.next_name (new_object c.args.raw c.args.kind c.args.len)) c.args.place (Ref a.next_name) ≡ graph_of c.set.new.self
    = sym (c.set.ensures.graph ∙ ap (λ h. set_root h c.args.place (Ref a.next_name)) c.in_ok-add.ensures.ok) in
    let bound : a.next_name + a.free ≤ most_words = c.self.invariant.bound in
    record {
      below = subst (AreBelow (a.next_name + 1)) same (make_below a.next_name g c.args.raw c.args.place c.args.kind c.args.len c.self.invariant.below);
      short = subst AreShort same (make_short a.next_name g c.args.raw c.args.place c.args.kind c.args.len (omega arith) c.self.invariant.short);
      bound = omega arith;
    }

pub returns-clause-ok : goal.returns-clause-ok
returns-clause-ok c = grind (arith, common_steps, made)
