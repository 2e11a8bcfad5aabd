-- The log is taken and told, and the checker knows the words as they are.
use Rattle.std.proofs.Common.{◌≡◌, ◌≢◌, ◌⊎◌, inl, inr, ⊎_elim, ℕ, ◌<◌, ◌≤◌, true, false, List, [], ◌∷◌, length, get_or, refl, ap, sym, ◌∙◌, subst, arith}
use Rattle.std.specs.Prelude.{slice_index, IsSome}
use Rattle.std.proofs.lemmas.Bool.{cases_Bool, cases_eq}
use Rattle.std.proofs.lemmas.List.{get_or-set_other}
use Rattle.gc_words.specs.Image.{field_at, header_of, is_start}
use Rattle.gc_words.specs.Layout.{field_place}
use Rattle.gc_words.specs.Space.{SpaceWords}
use Rattle.gc_words.proofs.Public.{field_within}
use Rattle.gc_model.specs.State.{Replica, pairs_of}
use Rattle.gc_model.specs.Members.{In}
use Rattle.gc_model.specs.Belonging.{IsLogged}
use Rattle.gc_monitor.specs.Tables.{Tables}
use Rattle.gc_monitor.specs.Origins.{pairs_in}
use Rattle.gc_monitor.specs.Telling.{IsMark}
use Rattle.gc_monitor.specs.Watch.{IsSeen}
use Rattle.gc_monitor.specs.Events.{IsReplicaAt, Wrote}
use Rattle.gc_concurrent.specs.Ends.{Known, Theirs, its}
use Rattle.gc_concurrent.specs.Internal.Told.{after_all, seen_space}
use Rattle.gc_concurrent.specs.Internal.Rule.{CatchesUp, Loose}
use Rattle.gc_concurrent.specs.Internal.Flip.{Holds}
use Rattle.gc_concurrent.specs.Internal.Following.{Follows, WroteEach}
use Rattle.gc_concurrent.specs.Internal.Knowing.{alike, Brings, IsLeft, IsSeenToDiffer, Knows}
use Rattle.gc_concurrent.proofs.Told.{long_after}
use Rattle.gc_concurrent.proofs.Starting.{field_no_start, field_unwritten, starts_back}
use Rattle.gc_concurrent.proofs.Knowing.{code_due, due_code, due_same, in_memory, original_there, replica_there, set_two}

-- ---- what the tables are once entries were told

abbrev Entries : Type 0
Entries = List (ℕ × ℕ)

record AreTold (xs : List (ℕ × ℕ)) (t after : Tables) : Type 0 where
  pub lost : after.lost ≡ t.lost
  pub olds : after.olds ≡ t.olds
  pub origins : after.origins ≡ t.origins
  pub room : after.room ≡ t.room
  pub dues : (p : ℕ) → get_or after.news p 0 ≡ 3 → (get_or t.news p 0 ≡ 3) ⊎ ((a : ℕ) × (i : ℕ) × (b : ℕ) × In {X = ℕ × ℕ} (a, i) xs × IsReplicaAt t a b × (p ≡ field_place b i))
  pub codes : (p : ℕ) → ((a i b : ℕ) → In {X = ℕ × ℕ} (a, i) xs → IsReplicaAt t a b → p ≢ field_place b i) → get_or after.news p 0 ≡ get_or t.news p 0
  pub free : (p : ℕ) → get_or after.news p 0 ≡ 2 → get_or t.news p 0 ≡ 2

none_told : (xs : List (ℕ × ℕ)) (t : Tables) → AreTold xs t t
none_told xs t = record { lost = refl; olds = refl; origins = refl; room = refl; dues = λ p d. inl d; codes = λ p no. refl; free = λ p two. two }

one_told : (e : ℕ × ℕ) (t after : Tables) → Wrote e.0 e.1 t after → AreTold (e ∷ []) t after
one_told e t after (inl h) = subst (AreTold (e ∷ []) t) (sym h.1) (none_told (e ∷ []) t)
one_told e t after (inr (b, at, within, is)) = subst (AreTold (e ∷ []) t) (sym is) (record {
  lost = refl;
  olds = refl;
  origins = refl;
  room = refl;
  dues = λ p d. ⊎_elim
      (λ (same : p ≡ field_place b e.1). inr (e.0, e.1, b, inl refl, at, same))
      (λ other. inl (sym (get_or-set_other t.news (field_place b e.1) p 3 0 other) ∙ d))
      (cases_eq p (field_place b e.1));
  codes = λ p no. get_or-set_other t.news (field_place b e.1) p 3 0 (no e.0 e.1 b (inl refl) at);
  free = λ p two. set_two t.news (field_place b e.1) 3 p (λ no. let wrong : 3 ≡ 2 = no in omega arith) two;
})

told_on : (e : ℕ × ℕ) (xs : List (ℕ × ℕ)) (t mid after : Tables) → AreTold (e ∷ []) t mid → AreTold xs mid after → AreTold (e ∷ xs) t after
told_on e xs t mid after one rest = record {
  lost = rest.lost ∙ one.lost;
  olds = rest.olds ∙ one.olds;
  origins = rest.origins ∙ one.origins;
  room = rest.room ∙ one.room;
  dues = λ p d. ⊎_elim
      (λ d. ⊎_elim (λ d. inl d) (λ z. inr (z.0, z.1, z.2, first z.0 z.1 z.3, z.4, z.5)) (one.dues p d))
      (λ z. inr (z.0, z.1, z.2, inr z.3, back z.0 z.2 z.4, z.5))
      (rest.dues p d);
  codes = λ p no. rest.codes p (λ a i b there at. no a i b (inr there) (back a b at)) ∙ one.codes p (λ a i b there at. no a i b (first a i there) at);
  free = λ p two. one.free p (rest.free p two);
}
  where
    first : (a i : ℕ) → In {X = ℕ × ℕ} (a, i) (e ∷ []) → In {X = ℕ × ℕ} (a, i) (e ∷ xs)
    first a i (inl h) = inl h
    first a i (inr h) = absurd h

    back : (a b : ℕ) → IsReplicaAt mid a b → IsReplicaAt t a b
    back a b at = record { low = at.low; taken = ap (λ ys. get_or ys a 0) (sym one.olds) ∙ at.taken; origin = ap (λ ys. get_or ys b 0) (sym one.origins) ∙ at.origin }

all_told : (xs : List (ℕ × ℕ)) (t after : Tables) → WroteEach xs t after → AreTold xs t after
all_told [] t after w = subst (AreTold [] t) (sym w) (none_told [] t)
all_told (e ∷ xs) t after w = told_on e xs t w.0 after (one_told e t w.0 w.1) (all_told xs w.0 after w.2)

-- an entry is in a log, or it is not
in_or_not : (a i : ℕ) (xs : List (ℕ × ℕ)) → In {X = ℕ × ℕ} (a, i) xs ⊎ (In {X = ℕ × ℕ} (a, i) xs → ⊥)
in_or_not a i [] = inr (λ h. h)
in_or_not a i (e ∷ xs) = ⊎_elim
    (λ h. inl (inr h))
    (λ none. ⊎_elim
    (λ (same : e.0 ≡ a). ⊎_elim
    (λ (field : e.1 ≡ i). inl (inl (λ k. (same k, field k))))
    (λ other. inr (λ h. ⊎_elim (λ (z : e ≡ (a, i)). other (ap (λ (y : ℕ × ℕ). y.1) z)) none h))
    (cases_eq e.1 i))
    (λ other. inr (λ h. ⊎_elim (λ (z : e ≡ (a, i)). other (ap (λ (y : ℕ × ℕ). y.0) z)) none h))
    (cases_eq e.0 a))
    (in_or_not a i xs)

module _ (v : Known) (t after : Tables) (space : SpaceWords) (u : Theirs) (is : CatchesUp v) (told : WroteEach v.mine.log t after) (h : Holds space v.theirs) (loose : ∥ Loose v.theirs ∥₁) (follows : Follows t v.seen space.words)
    (k : Knows t v.seen space.words v.theirs) (brings : Brings (λ _. ⊥) v.theirs u) (logged : (a i : ℕ) → In {X = ℕ × ℕ} (a, i) v.mine.log → IsLogged (its u) a i)
    (fields : (a i : ℕ) → In {X = ℕ × ℕ} (a, i) v.mine.log → (r : Replica) → In r v.theirs.replicas → r.original ≡ a → i < length r.object.fields) where
  abbrev s : SpaceWords
  s = seen_space v.seen v.mine

  abbrev words : List ℕ
  words = v.mine.space.words

  all : AreTold v.mine.log t after
  all = all_told v.mine.log t after told

  upto : IsSeen (length t.olds) v.seen
  upto = (follows k.found).0.watches.old_seen

  longer : length v.seen ≤ length words
  longer = let l : length v.seen ≤ length (after_all s is.told.events).words = long_after s is.told.events in let e : length words ≡ length (after_all s is.told.events).words = ap (λ (z : SpaceWords). length z.words) is.told.now in omega arith

  -- a field of a replica's original that is not logged is as it was seen
  unwritten : (r : Replica) → In r v.theirs.replicas → (i : ℕ) → i < length r.object.fields → (In {X = ℕ × ℕ} (r.original, i) v.mine.log → ⊥) → slice_index words (field_place r.original i) ≡ slice_index v.seen (field_place r.original i)
  unwritten r there i less none = ⊎_elim
      (λ (logs : v.mine.logs ≡ true).
      ap (λ (z : SpaceWords). slice_index z.words (field_place r.original i)) is.told.now
      ∙ field_unwritten s is.told.events is.told.could r.original i (original_there t v.seen space v.theirs h loose follows k r there i less)
      (λ w. none (subst (In {X = ℕ × ℕ} (r.original, i)) (is.told.logged logs) w)))
      (λ (rests : v.mine.logs ≡ false). absurd (subst (In r) (is.rests rests).0 there))
      (cases_Bool v.mine.logs)

  field_new : (r : Replica) → In r v.theirs.replicas → (i : ℕ) → i < length r.object.fields → IsSome (field_at space.words r.place i)
  field_new r there i less =
      let b = in_memory v.theirs space h loose r there in
      field_within space.words r.place i b.0.header (h.shaped).walked (ap header_of b.1) (let m = b.3 in omega arith)

  now_logged : (r q : Replica) (i : ℕ) → q.original ≡ r.original → In {X = ℕ × ℕ} (r.original, i) v.mine.log → IsLogged (its u) q.original i
  now_logged r q i same there = subst (λ a. IsLogged (its u) a i) (sym same) (logged r.original i there)

  -- what was left is left
  before : (place : ℕ) → IsLeft v.seen space.words v.theirs place → IsLeft words space.words u place
  before place l =
      let r = l.replica in
      let j = l.field in
      let q = brings.replicas r l.there in
      record {
        replica = q.0;
        there = q.1;
        field = j;
        has_field = (let n = q.2.len in let m = l.has_field in omega arith);
        at = l.at ∙ ap (λ p. field_place p j) (sym q.2.place);
        why = ⊎_elim
            (λ d. inl (due_same u r q.0 j q.2 (⊎_elim (λ (no : ⊥). absurd no) (λ d. d) (brings.due r j l.there l.has_field d))))
            (λ (d : IsSeenToDiffer v.seen space.words v.theirs r j). ⊎_elim
            (λ there. inl (inr (now_logged r q.0 j q.2.original there)))
            (λ none. inr (record {
              within = subst (λ a. field_place a j < length words) (sym q.2.original) (let w = d.within in let n = longer in omega arith);
              differs = (λ n. alike (q.2.raw n) (brings.pairs n) (slice_index words (field_place (q.2.original n) j)) (slice_index space.words (field_place (q.2.place n) j)))
                  ∙ ap (λ w. alike r.object.raw (pairs_of (its v.theirs)) w (slice_index space.words (field_place r.place j))) (unwritten r l.there j l.has_field none)
                  ∙ d.differs;
            }))
            (in_or_not r.original j v.mine.log))
            l.why;
      }

  -- what was told is logged
  behind : (place a i b : ℕ) → In {X = ℕ × ℕ} (a, i) v.mine.log → IsReplicaAt t a b → place ≡ field_place b i → IsLeft words space.words u place
  behind place a i b there at same =
      let r = replica_there t v.seen space.words v.theirs k a b at.low at.origin in
      let q = brings.replicas r.0 r.1 in
      let less = fields a i there r.0 r.1 r.2 in
      record {
        replica = q.0;
        there = q.1;
        field = i;
        has_field = (let n = q.2.len in omega arith);
        at = same ∙ ap (λ p. field_place p i) (sym (q.2.place ∙ r.3));
        why = inl (inr (subst (λ z. IsLogged (its u) z i) (sym (q.2.original ∙ r.2)) (logged a i there)));
      }

  pub caught_knows : Knows after v.mine.space.words space.words u
  caught_knows = record {
    found = all.lost ∙ k.found;
    pairs = ap pairs_in all.origins ∙ k.pairs ∙ sym brings.pairs;
    taken = λ a two. let r = k.taken a (ap (λ ys. get_or ys a 0) (sym all.olds) ∙ two) in let q = brings.replicas r.0 r.1 in (q.0, q.1, q.2.original ∙ r.2);
    olds = λ a start less.
        let n : length after.olds ≡ length t.olds = ap (length {A = ℕ}) all.olds in
        let m = upto.within in
        subst (λ ys. IsMark (get_or ys a 0)) (sym all.olds) (k.olds a (starts_back s is.told.events is.told.could a (omega arith) (subst (λ (z : SpaceWords). is_start z.words a ≡ true) is.told.now start)) (omega arith));
    news = λ b start. all.codes b (λ a i c there at same.
        let r = replica_there t v.seen space.words v.theirs k a c at.low at.origin in
        field_no_start space.words r.0.place i (h.shaped).walked (field_new r.0 r.1 i (fields a i there r.0 r.1 r.2)) (subst (λ z. is_start space.words z ≡ true) (same ∙ ap (λ p. field_place p i) (sym r.3)) start))
        ∙ k.news b start;
    free = λ b two. k.free b (all.free b two);
    due = λ place d. ⊎_elim (λ d. before place (k.due place (code_due t place d))) (λ z. behind place z.0 z.1 z.2 z.3 z.4 z.5) (all.dues place (due_code after place d));
    old_room = (let e = all.room in let n = k.old_room in let m = brings.from in omega arith);
    new_room = (let e = all.room in let n = k.new_room in let m = brings.into in omega arith);
  }
