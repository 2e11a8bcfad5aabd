-- An object that takes any value into its fields.
use Rattle.std.proofs.Common.{◌≡◌, ℕ, ◌<◌, ◌≤◌, List, length, is_some, cond, Bool, true, false, Some, None, Option, inl, inr, refl, sym, ◌∙◌, ap, subst, arith}
use Rattle.std.specs.Prelude.{IsSome, IsFalse, ◌==◌, slice_get, slice_index, slice_set, not, ◌&&◌}
use Rattle.std.proofs.lemmas.List.{length-set, length-replicate, get_or-set_same}
use Rattle.std.proofs.lemmas.Bool.{cases_Bool, eqb-true, eqb-false}
use Rattle.gc_graph.specs.Graph.{Graph, Value, Nil, Num, Ref, object_of, field_of, root}
use Rattle.gc_graph.specs.Machine.{put_field, is_number}
use Rattle.gc_graph.specs.declared.reply.Reply.{Reply}
use Rattle.gc_graph.specs.declared.reply.Reply.TheVariants.{Done}
use Rattle.gc_words.specs.Word.{value_of, word_of, field_value}
use Rattle.gc_words.specs.Image.{Block, block_at, field_at, field_in, fresh_block, header_at, header_of, is_start, object_of_block}
use Rattle.gc_words.specs.Layout.{field_place}
use Rattle.gc_words.specs.Space.{CanPlace, end_of, with_word}
use Rattle.gc_words.specs.Closed.{IsRootWord, IsFieldWord, IsWordOfField, RefersToStart}
use Rattle.gc_words.proofs.Public.{block_of_header, field_beside, field_block, field_within, placed_block, object_found, value_read_back}
use Rattle.gc_words.specs.declared.header.Header.{Header}
use Rattle.std.specs.Option.{option_map}
use Rattle.gc_heap.specs.Heap.{HeapWords, IsHeap, KeepsLinks, graph_in}
use Rattle.gc_heap.specs.Filling.{PutsValue, TakesFields}
use Rattle.gc_heap.proofs.Commands.{Points, get_index, root_word, at_root, put_done, written_heap}
use Rattle.gc_heap.proofs.Links.{links_written}
use Rattle.gc_heap.proofs.Steps.{with_new}
use Rattle.gc_heap.proofs.Views.{meaning}

abbrev pub points_to : (h : HeapWords) (p a len : ℕ) → TakesFields h p a len → Points h p a
points_to h p a len t = record {
  block = t.block;
  found = t.found;
  target = t.target;
  object = ap (object_of (graph_in h).objects) t.target ∙ object_found h.space.words a ∙ ap (option_map object_of_block) t.found;
}

-- a new object takes its fields
pub new_takes : (h : HeapWords) (p : ℕ) (header : Header) → IsHeap h → CanPlace h.space header → p < length h.roots → IsFalse header.raw → TakesFields (with_new h p header) p (end_of h.space) header.len
new_takes h p header heap can inside plain =
    let low : 1 ≤ length h.space.words = heap.space.end_low in
    let high : h.space.size ≤ 4294967295 = heap.space.size_high in
    let w : ℕ = word_of (Ref (end_of h.space)) in
    record {
      block = fresh_block header;
      found = placed_block h.space header can;
      plain = plain;
      long = length-replicate header.len 0;
      target = at_root (with_new h p header) p w (sym (get_or-set_same h.roots p w 0 inside)) ∙ meaning w (Ref (end_of h.space)) (value_read_back (Ref (end_of h.space)) (low, omega arith));
    }

some_at : (xs : List ℕ) (i : ℕ) → i < length xs → IsSome (slice_get xs i)
some_at xs i less = ap is_some (get_index xs i less)

-- what a write of root t's word to a field of that object leaves
pub record Fills (h : HeapWords) (s a i t w : ℕ) (new : HeapWords) : Type 0 where
  pub field : IsSome (field_at h.space.words a i)
  pub heap : IsHeap new
  pub graph : let object = object_of (graph_in h).objects (root (graph_in h) s) in
      ◌≡◌ {A = Reply × Graph} (Done, graph_in new) (put_field (graph_in h) (root (graph_in h) s) object (field_of object i) i (root (graph_in h) t))
  pub links : KeepsLinks h.space.words new.space.words
  pub fields : (len : ℕ) → TakesFields h s a len → TakesFields new s a len

there : (h : HeapWords) (s a i len : ℕ) → TakesFields h s a len → i < len → IsSome (field_at h.space.words a i)
there h s a i len takes less = subst (λ o. IsSome (field_in o i)) (sym takes.found) (some_at takes.block.fields i (omega (arith, takes.long)))

pub fills : (h : HeapWords) (s a i len t w : ℕ) → IsHeap h → TakesFields h s a len → i < len → t < length h.roots → w ≡ slice_index h.roots t
    → Fills h s a i t w (record h { space = with_word h.space (field_place a i) w })
fills h s a i len t w heap takes less inside read =
    let some : IsSome (field_at h.space.words a i) = there h s a i len takes less in
    let means : root (graph_in h) t ≡ field_value takes.block.header w = at_root h t w read ∙ sym (ap (λ raw. cond raw (Num w) (value_of w)) takes.plain) in
    let word : IsFieldWord h.space.words takes.block.header w
    = subst (λ raw. IsWordOfField raw h.space.words w) (sym takes.plain) (subst (IsRootWord h.space.words) (sym read) (root_word h t heap inside)) in
    record {
      field = some;
      heap = written_heap h a i w takes.block heap takes.found some word;
      graph = put_done h s a i w (root (graph_in h) t) (points_to h s a len takes) heap some (ap (λ raw. raw && not (is_number (root (graph_in h) t))) takes.plain) means;
      links = links_written h.space a i w heap.space some;
      fields = λ n t. record {
        block = record t.block { fields = slice_set t.block.fields i w };
        found = field_block h.space a i w t.block heap.space some t.found;
        plain = t.plain;
        long = length-set t.block.fields i w ∙ t.long;
        target = t.target;
      };
    }

-- ---- a word of an object whose header is known

-- what a write of a field word leaves
pub record Writes (h : HeapWords) (p a i w : ℕ) (g : Header) (new : HeapWords) : Type 0 where
  pub heap : IsHeap new
  pub puts : PutsValue h p i (field_value g w) new
  pub headers : (b : ℕ) (k : Header) → header_at h.space.words b ≡ Some k → header_at new.space.words b ≡ Some k
  pub words : (k : Header) (x : ℕ) → IsFieldWord h.space.words k x → IsFieldWord new.space.words k x

-- an object of numbers takes a number
taken : (raw : Bool) (w : ℕ) → (raw && not (is_number (cond raw (Num w) (value_of w)))) ≡ false
taken true w = refl
taken false w = refl

started : (words others : List ℕ) → ((b : ℕ) (k : Header) → header_at words b ≡ Some k → header_at others b ≡ Some k) → (v : Value) → RefersToStart words v → RefersToStart others v
started words others headers Nil start = tt
started words others headers (Num n) start = tt
started words others headers (Ref b) start = go (block_at words b) refl start
  where
    met : (o : Option Block) (k : Header) → header_of o ≡ Some k → is_some o ≡ true
    met None k is = absurd (let no : None ≡ Some k = is in cc)
    met (Some block) k is = refl

    go : (o : Option Block) → block_at words b ≡ o → is_some o ≡ true → is_start others b ≡ true
    go None is none = absurd (let no : false ≡ true = none in cc)
    go (Some block) is there = met (block_at others b) block.header (headers b block.header (ap header_of is))

still_word : (words others : List ℕ) → ((b : ℕ) (k : Header) → header_at words b ≡ Some k → header_at others b ≡ Some k) → (raw : Bool) (x : ℕ) → IsWordOfField raw words x → IsWordOfField raw others x
still_word words others headers true x is = is
still_word words others headers false x is = record { value = is.value; start = started words others headers (value_of x) is.start }

pub writes : (h : HeapWords) (p a i w : ℕ) (g : Header) → IsHeap h → root (graph_in h) p ≡ Ref a → header_at h.space.words a ≡ Some g → i < g.len → IsFieldWord h.space.words g w
    → Writes h p a i w g (record h { space = with_word h.space (field_place a i) w })
writes h p a i w g heap target header less word =
    let found = block_of_header h.space.words a g header in
    let block : Block = found.0 in
    let some : IsSome (field_at h.space.words a i) = field_within h.space.words a i g heap.space.walked header less in
    let points : Points h p a = record {
      block = block;
      found = found.1;
      target = target;
      object = ap (object_of (graph_in h).objects) target ∙ object_found h.space.words a ∙ ap (option_map object_of_block) found.1;
    } in
    let new : HeapWords = record h { space = with_word h.space (field_place a i) w } in
    let headers : (b : ℕ) (k : Header) → header_at h.space.words b ≡ Some k → header_at new.space.words b ≡ Some k = λ b k met. elim (cases_Bool (a == b)) [
      | inl same ↦ (let one : a ≡ b = eqb-true a b same in
          subst (λ x. header_at new.space.words x ≡ Some k) one
          (ap header_of (field_block h.space a i w block heap.space some found.1) ∙ ap header_of (sym found.1) ∙ subst (λ x. header_at h.space.words x ≡ Some k) (sym one) met))
      | inr other ↦ ap header_of (field_beside h.space a i w b heap.space some (eqb-false a b other)) ∙ met
    ] in
    record {
      heap = written_heap h a i w block heap found.1 some (subst (λ k. IsFieldWord h.space.words k w) (sym found.2) word);
      puts = record {
        graph = put_done h p a i w (field_value g w) points heap some (ap (λ k. k.raw && not (is_number (field_value g w))) found.2 ∙ taken g.raw w) (ap (λ k. field_value k w) (sym found.2));
        links = links_written h.space a i w heap.space some;
        end = length-set h.space.words (field_place a i) w;
        size = refl;
        roots = refl;
        mutators = refl;
      };
      headers = headers;
      words = λ k x is. still_word h.space.words new.space.words headers k.raw x is;
    }
