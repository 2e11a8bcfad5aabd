-- Once a replica is placed at the end, the word refers to an object that has one there.
use Rattle.std.proofs.Common.{◌≡◌, ◌∙◌, ◌≤◌, ◌<◌, Some, None, ap, sym, subst, arith}
use Rattle.std.proofs.lemmas.Grind.{common_steps}
use Rattle.gc_words.specs.Space.{end_of}
use Rattle.gc_words.specs.Word.{value_of, word_of}
use Rattle.gc_graph.specs.Graph.{name_of}
use Rattle.gc_graph.specs.Limits.{largest_space}
use Rattle.gc_copy.specs.Words.{CollectionWords, IsCollection, collection_in}
use Rattle.gc_model.specs.State.{replica_of}
use Rattle.gc_copy.proofs.OpenCollection.{has_placed, placed_address, placed_word}
use Rattle.gc_copy.proofs.Spaces.{new_end_is}
use Rattle.gc_copy.proofs.collection.Collection.replicated_word.Goals as goal
use Rattle.gc_copy.proofs.collection.Collection.replicated_word.Goals.{In_ok-place_replica-in-Err}

-- the collection before is sound
sound : (c : goal.In_ok-place_replica-in-Err) → IsCollection c.args.self.now
sound c = subst IsCollection c.self.view_is c.self.invariant.0

end_is : (c : goal.In_ok-place_replica-in-Err) → c.end-replica.result ≡ end_of c.args.self.now.space
end_is c = c.end-replica.ensures.value ∙ ap (λ (y : CollectionWords). end_of y.space) c.self.view_is

pub encode-requires : goal.encode-requires
encode-requires c = subst (λ n. (1 ≤ n) × (n < largest_space)) (sym (end_is c)) (placed_address c.args.self.now (collection_in c.place_replica.new.self) _ _ (sound c) c.in_ok-place_replica-in-Err.ensures.placed)

pub returns-in_ok-place_replica-in-Err-clause-replica : goal.returns-in_ok-place_replica-in-Err-clause-replica
returns-in_ok-place_replica-in-Err-clause-replica c = grind (arith, common_steps, has_placed)

named_is : (c : goal.In_ok-place_replica-in-Err) → Some c.in-Err.original.0 ≡ name_of (value_of c.args.word)
named_is c = grind (arith, common_steps)

none : (c : goal.In_ok-place_replica-in-Err) → replica_of (collection_in c.args.self.now) c.in-Err.original.0 ≡ None
none c = grind (arith, common_steps)

pub returns-in_ok-place_replica-in-Err-clause-word : goal.returns-in_ok-place_replica-in-Err-clause-word
returns-in_ok-place_replica-in-Err-clause-word c =
    let at = (goal.at.returns-in_ok-place_replica-in-Err-clause-word c).In_ok-place_replica-in-Err in
    c.encode.ensures.word
    ∙ ap word_of (placed_word (collection_in c.args.self.now) (collection_in c.place_replica.new.self) c.args.word _ _ _ (named_is at) (none at) c.in_ok-place_replica-in-Err.ensures.placed (end_is at ∙ sym (new_end_is c.args.self.now (sound at).space)))
