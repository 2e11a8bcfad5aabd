-- Fields that take numbers and the values of roots, in order: what is given, and what it leaves.
use Rattle.std.proofs.lemmas.Grind.{common_steps}
use Rattle.std.proofs.Common.{◌≡◌, inl, inr, ℕ, suc, ◌+◌, ◌<◌, ◌≤◌, List, [], ◌∷◌, ◌++◌, length, get_or, drop, is_some, Option, Some, refl, ap, sym, ◌∙◌, subst, arith}
use Rattle.std.specs.Prelude.{IsFalse}
use Rattle.std.proofs.lemmas.List.{drop_all, drop_more, length-map}
use Rattle.gc_graph.specs.Graph.{Value, Num, root}
use Rattle.gc_graph.specs.declared.command.Op.TheVariants.{New, Put}
use Rattle.gc_graph.specs.declared.reply.Reply.{Reply}
use Rattle.gc_graph.specs.declared.reply.Reply.TheVariants as replies
use Rattle.gc_words.specs.Image.{Block, header_at, header_of}
use Rattle.gc_words.specs.Space.{end_of}
use Rattle.gc_words.specs.Word.{value_of}
use Rattle.gc_words.specs.declared.header.Header.{Header}
use Rattle.gc_heap.specs.Filling.{PutsAll, TakesFields}
use Rattle.gc_heap.specs.Heap.{HeapWords, IsHeap, graph_in}
use Rattle.gc_heap.specs.Places.{root_at}
use Rattle.gc_model.specs.Members.{In}
use Rattle.gc_model.specs.State.{State}
use Rattle.gc_model.specs.Steps.{mutate}
use Rattle.gc_model.proofs.Public.{roots_counted}
use Rattle.gc_copy.specs.Words.{CollectionWords}
use Rattle.gc_collected.specs.Giving.{give_step, given, gives_step, new_given_step}
use Rattle.gc_collected.specs.Values.{put_value_step}
use Rattle.gc_collected.specs.declared.giving.FieldValue.{FieldValue}
use Rattle.gc_collected.specs.declared.giving.FieldValue.TheVariants as values
use Rattle.gc_collected.specs.declared.known.KnownRoots.{KnownRoots}
use Rattle.gc_collected.specs.Internal.Given.{field_given, fields_given, fields_put, given_at, given_from, puts_step}
use Rattle.gc_collected.specs.Internal.CollectedHeap.{state_in}
use Rattle.gc_collected.specs.Internal.KnownRoots.{KnowsRoots}
use Rattle.gc_collected.specs.Internal.Together.{Logs}
use Rattle.gc_collected.proofs.Copies.{fields_there}
use Rattle.gc_collected.proofs.Given.{root_value_is}
use Rattle.gc_collected.proofs.Marks.{put_knows}
use Rattle.gc_collected.proofs.Together.{noted_none}
use Rattle.gc_collected.proofs.Unwritten.{logged_open}
use Rattle.gc_collected.proofs.ValuesPut.{value_known}

-- ---- from field i on

pub opened_fields : (a i : ℕ) (value : FieldValue) (fields : List FieldValue) → i < length fields → value ≡ get_or fields i value → fields_given a i (drop i fields) ≡ field_given a i value ++ fields_given a (i + 1) (drop (i + 1) fields)
opened_fields a i value fields less is = ap (fields_given a i) (drop_more fields i value less) ∙ (ap (λ x. fields_given a i (x ∷ drop (i + 1) fields)) (sym is) ∙ ap (λ j. field_given a i value ++ fields_given a j (drop (i + 1) fields)) (let e : suc i ≡ i + 1 = omega arith in e))

pub none_noted : (c : CollectionWords) (m i a : ℕ) (fields : List FieldValue) → length fields ≤ i → Logs c m (fields_given a i (drop i fields)) c
none_noted c m i a fields past = subst (λ xs. Logs c m (fields_given a i xs) c) (sym (drop_all i fields past)) (noted_none c m)

pub opened_given : (roots : List Value) (i : ℕ) (value : FieldValue) (fields : List FieldValue) → i < length fields → value ≡ get_or fields i value → given_from roots i (drop i fields) ≡ given_at roots i value ++ given_from roots (i + 1) (drop (i + 1) fields)
opened_given roots i value fields less is = ap (given_from roots i) (drop_more fields i value less) ∙ (ap (λ x. given_from roots i (x ∷ drop (i + 1) fields)) (sym is) ∙ ap (λ j. given_at roots i value ++ given_from roots j (drop (i + 1) fields)) (let e : suc i ≡ i + 1 = omega arith in e))

pub none_given : (h : HeapWords) (p i : ℕ) (roots : List Value) (fields : List FieldValue) → length fields ≤ i → PutsAll h p (given_from roots i (drop i fields)) h
none_given h p i roots fields past = subst (λ xs. PutsAll h p (given_from roots i xs) h) (sym (drop_all i fields past)) refl

-- one part after the other
pub puts_on : (es more : List (ℕ × Value)) (h mid new : HeapWords) (p : ℕ) → PutsAll h p es mid → PutsAll mid p more new → PutsAll h p (es ++ more) new
puts_on [] more h mid new p same rest = subst (λ (x : HeapWords). PutsAll x p more new) (sym same) rest
puts_on (e ∷ es) more h mid new p (next, one, all) rest = (next, one, puts_on es more next mid new p all rest)

pub puts_mutators : (es : List (ℕ × Value)) (h new : HeapWords) (p : ℕ) → PutsAll h p es new → new.mutators ≡ h.mutators
puts_mutators [] h new p same = ap (λ (x : HeapWords). x.mutators) (sym same)
puts_mutators (e ∷ es) h new p (next, one, more) = puts_mutators es next new p more ∙ one.mutators

-- ---- a new object

-- its header is that of an object without numbers alone, and counts its fields
pub new_header : (h : HeapWords) (d a len : ℕ) (k : Header) → IsHeap h → TakesFields h d a len → header_at h.space.words a ≡ Some k → IsFalse k.raw × (len ≡ k.len)
new_header h d a len k heap takes met = (
  ap (λ (x : Header). x.raw) (sym same) ∙ takes.plain,
  sym takes.long ∙ fields_there h a k takes.block.fields heap met (λ b is. (let both : Some takes.block ≡ Some b = sym takes.found ∙ is in let one : takes.block ≡ b = cc both in ap (λ (x : Block). x.fields) one)),
)
  where
    same : takes.block.header ≡ k
    same = (let both : Some takes.block.header ≡ Some k = sym (ap header_of takes.found) ∙ met in cc)

-- the new object is in its root, and its fields took these values
pub record HasGiven (made last : HeapWords) (d a count : ℕ) (es : List (ℕ × Value)) : Type 0 where
  pub puts : PutsAll made d es last
  pub takes : TakesFields made d a count
  pub within : d < length (graph_in made).roots

pub has_given : (heap made last : HeapWords) (o : Option CollectionWords) (m d a kind count : ℕ) (reply : Reply) (es : List (ℕ × Value)) → mutate (state_in heap o) m (New (root_at d) kind count) ≡ (reply, state_in made o) → d < length heap.roots
    → TakesFields made d (end_of heap.space) count → a ≡ end_of heap.space → PutsAll made d es last → HasGiven made last d a count es
has_given heap made last o m d a kind count reply es said within takes at puts = record {
  puts = puts;
  takes = subst (λ x. TakesFields made d x count) (sym at) takes;
  within = let n = length-map heap.roots value_of in let same = sym (ap (λ (x : Reply × State). length x.1.heap.graph.roots) said) ∙ roots_counted (state_in heap o) m (New (root_at d) kind count) in omega (arith, n, same, within);
}

-- ---- the fields that are written

pub fields_are : (fields : List FieldValue) (a i : ℕ) (roots : List Value) → fields_given a i fields ≡ fields_put a (given_from roots i fields)
fields_are [] a i roots = refl
fields_are (values.Nil ∷ rest) a i roots = fields_are rest a (suc i) roots
fields_are (values.Number n ∷ rest) a i roots = ap (λ fs. (a, i) ∷ fs) (fields_are rest a (suc i) roots)
fields_are (values.Root p ∷ rest) a i roots = ap (λ fs. (a, i) ∷ fs) (fields_are rest a (suc i) roots)

pub only_put : (es : List (ℕ × Value)) (a b j : ℕ) → In {X = ℕ × ℕ} (b, j) (fields_put a es) → b ≡ a
only_put [] a b j h = absurd h
only_put (e ∷ es) a b j (inl here) = sym (ap (λ (p : ℕ × ℕ). p.0) here)
only_put (e ∷ es) a b j (inr more) = only_put es a b j more

-- ---- the state

pub gives_are : (fields : List FieldValue) (s : State) (m d i : ℕ) → d < length s.heap.graph.roots → gives_step s m d i fields ≡ puts_step s m d (given_from s.heap.graph.roots i fields)
gives_are [] s m d i within = refl
gives_are (values.Nil ∷ rest) s m d i within = gives_are rest s m d (suc i) within
gives_are (values.Number n ∷ rest) s m d i within = gives_are rest (put_value_step s m d i (Num n)).1 m d (suc i) within
gives_are (values.Root p ∷ rest) s m d i within =
    ap (λ (x : Reply × State). gives_step x.1 m d (suc i) rest) (root_value_is s m d i p within)
    ∙ gives_are rest (put_value_step s m d i (root s.heap.graph p)).1 m d (suc i) within

pub made_given : (old made new : State) (m kind count d : ℕ) (fields : List FieldValue) (reply : Reply) → count ≡ length fields → mutate old m (New (root_at d) kind count) ≡ (reply, made) → (reply ≡ replies.Full → ⊥)
    → gives_step made m d 0 fields ≡ new → new_given_step old m d kind fields ≡ (reply, new)
made_given old made new m kind count d fields reply same first other fill = grind (arith, common_steps)

pub full_given : (old made : State) (m kind count d : ℕ) (fields : List FieldValue) (reply : Reply) → count ≡ length fields → mutate old m (New (root_at d) kind count) ≡ (reply, made) → reply ≡ replies.Full
    → new_given_step old m d kind fields ≡ (reply, made)
full_given old made m kind count d fields reply same first full = grind (arith, common_steps)

-- ---- what is known of the roots

one_known : (known : KnownRoots) (s : State) (m d i : ℕ) (value : FieldValue) → KnowsRoots known s → KnowsRoots known (give_step s m d i value)
one_known known s m d i values.Nil k = k
one_known known s m d i (values.Number n) k = value_known known s m d i (Num n) k
one_known known s m d i (values.Root p) k = put_knows known s _ m i (root_at d) (root_at p) _ refl k

pub gives_known : (fields : List FieldValue) (known : KnownRoots) (s : State) (m d i : ℕ) → KnowsRoots known s → KnowsRoots known (gives_step s m d i fields)
gives_known [] known s m d i k = k
gives_known (value ∷ rest) known s m d i k = gives_known rest known (give_step s m d i value) m d (suc i) (one_known known s m d i value k)

pub given_known : (known : KnownRoots) (reply : Reply) (made : State) (m d : ℕ) (fields : List FieldValue) → KnowsRoots known made → KnowsRoots known (given reply made m d fields)
given_known known replies.Full made m d fields k = k
given_known known replies.Made made m d fields k = gives_known fields known made m d 0 k
given_known known replies.Done made m d fields k = gives_known fields known made m d 0 k
given_known known replies.NoObject made m d fields k = gives_known fields known made m d 0 k
given_known known replies.NoField made m d fields k = gives_known fields known made m d 0 k
given_known known replies.NoNumber made m d fields k = gives_known fields known made m d 0 k
given_known known (replies.Saw view) made m d fields k = gives_known fields known made m d 0 k
given_known known replies.Yes made m d fields k = gives_known fields known made m d 0 k
given_known known replies.No made m d fields k = gives_known fields known made m d 0 k

pub new_known : (known : KnownRoots) (s new : State) (m kind d : ℕ) (fields : List FieldValue) (reply : Reply) → new_given_step s m d kind fields ≡ (reply, new) → KnowsRoots known (mutate s m (New (root_at d) kind (length fields))).1 → KnowsRoots known new
new_known known s new m kind d fields reply steps k =
    let made = mutate s m (New (root_at d) kind (length fields)) in
    subst (KnowsRoots known) (ap (λ (x : Reply × State). x.1) steps) (given_known known made.0 made.1 m d fields k)

-- ---- an open collection stays open

pub gives_open : (fields : List FieldValue) (s : State) (m d i : ℕ) → is_some (gives_step s m d i fields).collection ≡ is_some s.collection
gives_open [] s m d i = refl
gives_open (values.Nil ∷ rest) s m d i = gives_open rest s m d (suc i)
gives_open (values.Number n ∷ rest) s m d i = gives_open rest (put_value_step s m d i (Num n)).1 m d (suc i) ∙ logged_open s.collection m _
gives_open (values.Root p ∷ rest) s m d i = gives_open rest (mutate s m (Put (root_at d) i (root_at p))).1 m d (suc i) ∙ logged_open s.collection m _

pub given_open : (reply : Reply) (made : State) (m d : ℕ) (fields : List FieldValue) → is_some (given reply made m d fields).collection ≡ is_some made.collection
given_open replies.Full made m d fields = refl
given_open replies.Made made m d fields = gives_open fields made m d 0
given_open replies.Done made m d fields = gives_open fields made m d 0
given_open replies.NoObject made m d fields = gives_open fields made m d 0
given_open replies.NoField made m d fields = gives_open fields made m d 0
given_open replies.NoNumber made m d fields = gives_open fields made m d 0
given_open (replies.Saw view) made m d fields = gives_open fields made m d 0
given_open replies.Yes made m d fields = gives_open fields made m d 0
given_open replies.No made m d fields = gives_open fields made m d 0

pub new_open : (s new : State) (m kind d : ℕ) (fields : List FieldValue) (reply : Reply) → new_given_step s m d kind fields ≡ (reply, new) → is_some new.collection ≡ is_some s.collection
new_open s new m kind d fields reply steps =
    let made = mutate s m (New (root_at d) kind (length fields)) in
    sym (ap (λ (x : Reply × State). is_some x.1.collection) steps) ∙ given_open made.0 made.1 m d fields ∙ logged_open s.collection m _
