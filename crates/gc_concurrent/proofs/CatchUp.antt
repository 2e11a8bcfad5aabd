-- The collector's memory after a write is what the view has been since the load.
use Rattle.std.proofs.Common.{◌≡◌, ℕ, Bool, List, [], map, Some, sym, ◌∙◌, subst, refl}
use Rattle.std.specs.Prelude.{IsSome}
use Rattle.gc_graph.specs.Graph.{Value, Object}
use Rattle.gc_words.specs.Image.{field_at}
use Rattle.gc_words.specs.Space.{SpaceWords, IsSpace, with_field_at}
use Rattle.gc_model.specs.State.{Replica, Collection, replica_of, moved}
use Rattle.gc_model.specs.Steps.{with_written}
use Rattle.gc_model.specs.Members.{In}
use Rattle.gc_model.specs.Belonging.{BelongsBy}
use Rattle.gc_model.proofs.Public.{found_by_name}
use Rattle.gc_copy.specs.Words.{CollectionWords, replicas_in}
use Rattle.gc_copy.proofs.Public.{space_written}
use Rattle.gc_concurrent.specs.Ends.{Theirs}
use Rattle.gc_concurrent.specs.Ends.{its}
use Rattle.gc_concurrent.specs.Internal.Rule.{read_as, brought}

-- a new space whose links are the addresses of the originals, as a collection without logs
abbrev alone : SpaceWords → Theirs → CollectionWords
alone space t = record { space = space; logs = []; scan_place = t.scan_place; scan_field = t.scan_field; epoch = 0 }

abbrev bare : ℕ → List Replica → Theirs → Collection
bare size replicas t = record { size = size; replicas = replicas; logs = []; scan_place = t.scan_place; scan_field = t.scan_field }

pub catches_up : (Due : Bool → ℕ → ℕ → ℕ → Type 0) (objects : List (ℕ × Object)) (space : SpaceWords) (t : Theirs) (q : Replica) (i w : ℕ) (v : Value)
    → IsSpace space → space.size ≡ t.size → BelongsBy Due objects (its t) → t.replicas ≡ replicas_in space.words → In q t.replicas
    → IsSome (field_at space.words q.place i) → read_as q.object.raw w ≡ moved (its t) v
    → IsSpace (with_field_at space q.place i w) × (replicas_in (with_field_at space q.place i w).words ≡ (brought q.original i v t).replicas)
catches_up Due objects space t q i w v is sized b same here there means =
    let plain : BelongsBy Due objects (bare t.size t.replicas t) = record { laid = b.laid; room = b.room; once = b.once; replicas = b.replicas; scan = b.scan; entries = λ a j x. absurd x.1; numbers = b.numbers } in
    let found : replica_of (bare t.size t.replicas t) q.original ≡ Some q = found_by_name Due objects (its t) b q here in
    let both = subst (λ (x : ℕ × List Replica). BelongsBy Due objects (bare x.0 x.1 t) × (replica_of (bare x.0 x.1 t) q.original ≡ Some q)) (λ j. (sym sized j, same j)) (plain, found) in
    let done = space_written Due objects (alone space t) q.original i w q (read_as q.object.raw w) is both.0 both.1 there refl in
    (done.0, done.1 ∙ (λ j. map (with_written q.original i (means j)) (sym same j)))
