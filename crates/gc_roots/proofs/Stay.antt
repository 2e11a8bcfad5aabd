-- No step takes a replica away or moves it, so a twin stays a twin, and a command leaves all twins but that of the root that it writes.
use Rattle.std.proofs.lemmas.Grind.{common_steps}
use Rattle.std.proofs.Common.{◌≡◌, ◌≢◌, ℕ, Bool, true, List, [], ◌∷◌, ◌++◌, Option, Some, None, is_some, refl, sym, ap, ◌∙◌, arith, subst}
use Rattle.std.specs.Prelude.{⊤, IfSome, IsSome}
use Rattle.std.specs.Option.{option_map, option_map_or}
use Rattle.std.specs.List.{find}
use Rattle.std.proofs.lemmas.Bool.{cond_both}
use Rattle.gc_graph.specs.Graph.{Value, Nil, Num, Ref, Graph, lookup, field_of, root}
use Rattle.gc_graph.specs.declared.command.Op.{Op}
use Rattle.gc_words.specs.Word.{word_of}
use Rattle.gc_model.specs.State.{Replica, Collection, State, replica_of}
use Rattle.gc_model.specs.Steps.{mutate, with_log, write_replica, bring_value, if_room, apply_entry, apply_log, is_ready, passes_check, flip, collect, logged, log_at}
use Rattle.gc_model.specs.Staying.{root_written}
use Rattle.gc_model.specs.declared.step.Step.{Step}
use Rattle.gc_model.specs.declared.step.StepReply.{StepReply}
use Rattle.gc_model.specs.declared.step.StepReply.TheVariants.{Applied}
use Rattle.gc_model.proofs.Public.{place_written, root_kept}
use Rattle.gc_copy.specs.Twins.{IsTwin}
use Rattle.gc_roots.specs.Twins.{KnowsTwin}

-- where the replica of an object is
abbrev place_in : Collection → ℕ → Option ℕ
place_in c a = option_map (λ (r : Replica). r.place) (replica_of c a)

-- every object with a replica in the first has it at the same place in the second
abbrev pub Keeps : Collection → Collection → Type 0
Keeps c next = (a : ℕ) → is_some (replica_of c a) ≡ true → place_in next a ≡ place_in c a

abbrev KeepsIfRoom : Collection → Option Collection → Type 0
KeepsIfRoom c None = ⊤
KeepsIfRoom c (Some next) = Keeps c next

found_on : {X : Type 0} (p : X → Bool) (xs ys : List X) → is_some (find p xs) ≡ true → find p (xs ++ ys) ≡ find p xs
found_on p [] ys e = absurd cc
found_on p (x ∷ xs) ys e = grind (arith, common_steps, found_on p xs ys)

is_some_map : {X Y : Type 0} (f : X → Y) (o : Option X) → is_some (option_map f o) ≡ is_some o
is_some_map f o = grind (arith, common_steps)

written : (c : Collection) (name i : ℕ) (v : Value) → Keeps c (write_replica c name i v)
written c name i v a e = place_written c.replicas name i a v

-- one after the other
keeps_on : (c d e : Collection) → Keeps c d → Keeps d e → Keeps c e
keeps_on c d e p q a h = q a (sym (is_some_map (λ (r : Replica). r.place) (replica_of d a)) ∙ ap is_some (p a h) ∙ is_some_map (λ (r : Replica). r.place) (replica_of c a) ∙ h) ∙ p a h

brought : (c : Collection) (g : Graph) (name i : ℕ) (o : Option Value) → KeepsIfRoom c (bring_value c g name i o)
brought c g name i o = grind (arith, common_steps, written, keeps_on, cond_both, found_on)

entry_applied : (c : Collection) (g : Graph) (entry : ℕ × ℕ) → KeepsIfRoom c (apply_entry c g entry)
entry_applied c g entry = cond_both (is_some (replica_of c entry.0)) _ _ (KeepsIfRoom c) (λ t. brought c g entry.0 entry.1 (field_of (lookup g.objects entry.0) entry.1)) (λ t. λ a e. refl)

-- ---- a twin

-- a test and a value that go by the place alone
same_test : {X : Type 0} (f : X → ℕ) (o q : Option X) → option_map f o ≡ option_map f q → IsSome q → IsSome o
same_test f None None e h = h
same_test f None (Some y) e h = absurd cc
same_test f (Some x) q e h = refl

same_or : {X : Type 0} (f : X → ℕ) (o q : Option X) (d : ℕ) → option_map f o ≡ option_map f q → option_map_or f o d ≡ option_map_or f q d
same_or f None None d e = refl
same_or f None (Some y) d e = absurd cc
same_or f (Some x) None d e = absurd cc
same_or f (Some x) (Some y) d e = cc

twin_stays : (c next : Collection) (v : Value) (word : ℕ) → Keeps c next → IsTwin c v word → IsTwin next v word
twin_stays c next Nil word k t = record { known = tt; word_is = t.word_is }
twin_stays c next (Num n) word k t = record { known = tt; word_is = t.word_is }
twin_stays c next (Ref name) word k t =
    let same : place_in next name ≡ place_in c name = k name t.known in
    record {
      known = same_test (λ (r : Replica). r.place) (replica_of next name) (replica_of c name) same t.known;
      word_is = t.word_is ∙ ap (λ n. word_of (Ref n)) (sym (same_or (λ (r : Replica). r.place) (replica_of next name) (replica_of c name) name same));
    }

module _ (p word : ℕ) where
  abbrev Knows : StepReply × State → Type 0
  Knows next = KnowsTwin next.1 p word

  if_room_stays : (s : State) (c : Collection) (reply : StepReply) (o : Option Collection) → KnowsTwin s p word → IsTwin c (root s.heap.graph p) word → KeepsIfRoom c o → Knows (if_room s reply o)
  if_room_stays s c reply None known has k = known
  if_room_stays s c reply (Some next) known has k = twin_stays c next (root s.heap.graph p) word k has

  log_stays : (s : State) (c : Collection) (m : ℕ) (log : List (ℕ × ℕ)) → KnowsTwin s p word → IsTwin c (root s.heap.graph p) word → Knows (apply_log s c m log)
  log_stays s c m [] known has = known
  log_stays s c m (entry ∷ rest) known has = if_room_stays s c Applied (apply_entry (with_log c m rest) s.heap.graph entry) known has (entry_applied (with_log c m rest) s.heap.graph entry)

  flip_stays : (s : State) (c : Collection) → KnowsTwin s p word → Knows (flip s c)
  flip_stays s c known = cond_both (is_ready c s.heap.graph) _ _ Knows (λ t. cond_both (passes_check s c) _ _ Knows (λ u. tt) (λ u. known)) (λ t. known)

  pub collect_stays : (s : State) (c : Collection) (step : Step) → s.collection ≡ Some c → KnowsTwin s p word → KnowsTwin (collect s step).1 p word
  collect_stays s c step is known = grind (arith, common_steps, if_room_stays, cond_both, found_on, brought, log_stays, flip_stays)

-- ---- commands

pub mutate_stays : (s : State) (m : ℕ) (op : Op) (p word : ℕ) → root_written m op ≢ Some p → KnowsTwin s p word → KnowsTwin (mutate s m op).1 p word
mutate_stays s m op p word other known = go s.collection _ s.heap.graph (mutate s m op).1.heap.graph (root_kept s m op p other) known
  where
    go : (o : Option Collection) (entries : List (ℕ × ℕ)) (g h : Graph) → root h p ≡ root g p → IfSome o (λ c. IsTwin c (root g p) word) → IfSome (logged o m entries) (λ c. IsTwin c (root h p) word)
    go None entries g h same k = k
    go (Some c) entries g h same k = subst (λ v. IsTwin (with_log c m (log_at c m ++ entries)) v word) (sym same) (twin_stays c (with_log c m (log_at c m ++ entries)) (root g p) word (λ a e. refl) k)
