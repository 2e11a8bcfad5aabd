-- What the ends know, as plain data.
use Rattle.std.specs.Prelude.{◌≡◌, ◌⊎◌, ℕ, Bool, List, refl}
use mathlib.Core.Logic.{inl, inr}
use Rattle.std.specs.Coded.{Coded, code_by, coded×, coded⊎, coded_ℕ, coded_bool, coded_list}
use Rattle.gc_graph.specs.Graph.{Value, Nil, Num, Ref, Object}
use Rattle.gc_words.specs.Space.{SpaceWords}
use Rattle.gc_heap.specs.Heap.{HeapWords}
use Rattle.gc_model.specs.State.{Replica}
use Rattle.gc_concurrent.specs.Ends.{Beginning, Known, Mine, Theirs}
use Rattle.gc_concurrent.specs.Moves.{MovesWords, Situation}

abbrev pub split : Value → ℕ ⊎ (ℕ ⊎ ℕ)
split Nil = inl 0
split (Num n) = inr (inl n)
split (Ref a) = inr (inr a)

abbrev pub join : ℕ ⊎ (ℕ ⊎ ℕ) → Value
join (inl _) = Nil
join (inr (inl n)) = Num n
join (inr (inr a)) = Ref a

pub back : (v : Value) → join (split v) ≡ v
back Nil = refl
back (Num n) = refl
back (Ref a) = refl

abbrev pub value_coded : Coded Value
value_coded = code_by (ℕ ⊎ (ℕ ⊎ ℕ)) (coded⊎ coded_ℕ (coded⊎ coded_ℕ coded_ℕ)) split join back

abbrev pub object_coded : Coded Object
object_coded = code_by (Bool × (ℕ × List Value)) (coded× coded_bool (coded× coded_ℕ (coded_list value_coded))) (λ o. (o.raw, (o.kind, o.fields))) (λ p. record { raw = p.0; kind = p.1.0; fields = p.1.1 }) (λ _. refl)

abbrev pub replica_coded : Coded Replica
replica_coded = code_by (ℕ × (ℕ × Object)) (coded× coded_ℕ (coded× coded_ℕ object_coded)) (λ r. (r.original, (r.place, r.object))) (λ p. record { original = p.0; place = p.1.0; object = p.1.1 }) (λ _. refl)

abbrev pub space_coded : Coded SpaceWords
space_coded = code_by (ℕ × List ℕ) (coded× coded_ℕ (coded_list coded_ℕ)) (λ s. (s.size, s.words)) (λ p. record { size = p.0; words = p.1 }) (λ _. refl)

abbrev pub entries_coded : Coded (List (ℕ × ℕ))
entries_coded = coded_list (coded× coded_ℕ coded_ℕ)

abbrev pub heap_coded : Coded HeapWords
heap_coded = code_by (SpaceWords × (List ℕ × ℕ)) (coded× space_coded (coded× (coded_list coded_ℕ) coded_ℕ)) (λ h. (h.space, (h.roots, h.mutators))) (λ p. record { space = p.0; roots = p.1.0; mutators = p.1.1 }) (λ _. refl)

abbrev pub moves_coded : Coded MovesWords
moves_coded = code_by (List ℕ × ℕ) (coded× (coded_list coded_ℕ) coded_ℕ) (λ m. (m.row, m.flips)) (λ p. record { row = p.0; flips = p.1 }) (λ _. refl)

abbrev pub beginning_coded : Coded Beginning
beginning_coded = code_by (HeapWords × Bool) (coded× heap_coded coded_bool) (λ b. (b.heap, b.referred)) (λ p. record { heap = p.0; referred = p.1 }) (λ _. refl)

abbrev pub situation_coded : Coded Situation
situation_coded = code_by (HeapWords × (MovesWords × (Beginning × ℕ))) (coded× heap_coded (coded× moves_coded (coded× beginning_coded coded_ℕ))) (λ s. (s.heap, (s.moves, (s.begun, s.logged)))) (λ p. record { heap = p.0; moves = p.1.0; begun = p.1.1.0; logged = p.1.1.1 }) (λ _. refl)

abbrev pub mine_coded : Coded Mine
mine_coded = code_by (SpaceWords × (Bool × (List (ℕ × ℕ) × Beginning))) (coded× space_coded (coded× coded_bool (coded× entries_coded beginning_coded)))
    (λ m. (m.space, (m.logs, (m.log, m.base)))) (λ p. record { space = p.0; logs = p.1.0; log = p.1.1.0; base = p.1.1.1 }) (λ _. refl)

abbrev pub theirs_coded : Coded Theirs
theirs_coded = code_by (ℕ × (ℕ × (List Replica × (ℕ × (ℕ × (List (ℕ × ℕ) × (List ℕ × HeapWords)))))))
    (coded× coded_ℕ (coded× coded_ℕ (coded× (coded_list replica_coded) (coded× coded_ℕ (coded× coded_ℕ (coded× entries_coded (coded× (coded_list coded_ℕ) heap_coded)))))))
    (λ t. (t.old, (t.size, (t.replicas, (t.scan_place, (t.scan_field, (t.due, (t.wanted, t.base))))))))
    (λ p. record { old = p.0; size = p.1.0; replicas = p.1.1.0; scan_place = p.1.1.1.0; scan_field = p.1.1.1.1.0; due = p.1.1.1.1.1.0; wanted = p.1.1.1.1.1.1.0; base = p.1.1.1.1.1.1.1 }) (λ _. refl)

abbrev pub known_coded : Coded Known
known_coded = code_by (Bool × (Bool × (Mine × (Theirs × List ℕ)))) (coded× coded_bool (coded× coded_bool (coded× mine_coded (coded× theirs_coded (coded_list coded_ℕ)))))
    (λ v. (v.writes, (v.copies, (v.mine, (v.theirs, v.seen))))) (λ p. record { writes = p.0; copies = p.1.0; mine = p.1.1.0; theirs = p.1.1.1.0; seen = p.1.1.1.1 }) (λ _. refl)
