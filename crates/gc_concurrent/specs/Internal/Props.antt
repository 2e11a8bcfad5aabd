-- A heap's facts have at most one proof.
use Rattle.std.proofs.Common.{◌≡◌, ℕ, Bool, true, false, List}
use Rattle.std.proofs.Props.{props}
use Rattle.gc_graph.specs.Graph.{Value, Nil, Num, Ref}
use Rattle.gc_words.specs.Closed.{RefersToStart, IsRootWord, IsWordOfField, IsFieldWord}
use Rattle.gc_words.specs.declared.header.Header.{Header}
use Rattle.gc_heap.specs.Heap.{HeapWords, IsHeap}
use Rattle.gc_words.specs.Space.{SpaceWords, IsSpace}
use base.Stored.{Coded-set}
use Rattle.std.specs.Coded.{coded_list}
use Rattle.gc_graph.specs.Graph.{Graph}
use Rattle.gc_model.specs.State.{Replica}
use Rattle.gc_model.specs.Belonging.{RefersTo}
use Rattle.gc_model.specs.Carried.{LeadsOnlyTo}
use Rattle.gc_concurrent.specs.Unreachable.{MayBeCopied}
use Rattle.gc_monitor.specs.Watch.{IsSeen}
use Rattle.gc_concurrent.specs.Ends.{Beginning, Theirs}
use Rattle.gc_concurrent.specs.Internal.Codes.{replica_coded}
use Rattle.gc_concurrent.specs.Internal.Copiers.{Claims}

refers_prop : (words : List ℕ) (v : Value) → IsProp (RefersToStart words v)
refers_prop words Nil = hlevel props
refers_prop words (Num n) = hlevel props
refers_prop words (Ref a) = hlevel props

root_word_prop : (words : List ℕ) (w : ℕ) → IsProp (IsRootWord words w)
root_word_prop words w = hlevel (props, refers_prop)

word_of_field_prop : (raw : Bool) (words : List ℕ) (w : ℕ) → IsProp (IsWordOfField raw words w)
word_of_field_prop true words w = hlevel props
word_of_field_prop false words w = root_word_prop words w

field_word_prop : (words : List ℕ) (h : Header) (w : ℕ) → IsProp (IsFieldWord words h w)
field_word_prop words h w = word_of_field_prop h.raw words w

pub heap_prop : (h : HeapWords) → IsProp (IsHeap h)
heap_prop h = hlevel (props, field_word_prop, root_word_prop)

refers_to_prop : (base : Beginning) (v : Value) → IsProp (RefersTo (MayBeCopied base) v)
refers_to_prop base Nil = hlevel props
refers_to_prop base (Num n) = hlevel props
refers_to_prop base (Ref a) = hlevel props

pub leads_prop : (base : Beginning) (g : Graph) → IsProp (LeadsOnlyTo (MayBeCopied base) g)
leads_prop base g = hlevel (props, refers_to_prop)

pub replicas_prop : (a b : List Replica) → IsProp (a ≡ b)
replicas_prop a b = Coded-set (coded_list replica_coded) a b

claims_prop_told : (row : List ℕ) (t : Theirs) → IsProp (Claims row t)
claims_prop_told row t = hlevel props

pub claims_prop : (row : List ℕ) (t : Theirs) → IsProp (Claims row t)
claims_prop row t = claims_prop_told row t

pub space_prop : (s : SpaceWords) → IsProp (IsSpace s)
space_prop s = hlevel props

pub seen_prop : (n : ℕ) (words : List ℕ) → IsProp (IsSeen n words)
seen_prop n words = hlevel props
