-- Runs of fields that take values through no root: one value for all, or those of another object.
use Rattle.std.proofs.Common.{◌≡◌, ℕ, zero, suc, ◌+◌, ◌-◌, ◌<◌, ◌≤◌, List, [], ◌∷◌, length, is_some, Option, None, refl, ap, sym, ◌∙◌, subst, arith}
use Rattle.gc_graph.specs.Graph.{Value, Ref, root}
use Rattle.gc_graph.specs.declared.command.Op.TheVariants.{Put}
use Rattle.gc_graph.specs.declared.reply.Reply.{Reply}
use Rattle.gc_heap.specs.Filling.{PutsAll, PutsValue}
use Rattle.gc_heap.specs.Heap.{HeapWords, graph_in}
use Rattle.gc_heap.specs.Places.{root_at}
use Rattle.gc_model.specs.State.{Collection, State}
use Rattle.gc_model.specs.Steps.{logged, mutate}
use Rattle.gc_copy.specs.Words.{CollectionWords, state_of}
use Rattle.gc_model.specs.Members.{In}
use Rattle.gc_monitor.specs.Tables.{Tables}
use Rattle.gc_collected.specs.Internal.CollectedHeap.{Fits, state_in}
use Rattle.gc_collected.specs.Internal.Follows.{Follows}
use Rattle.gc_graph.specs.declared.reply.Reply.TheVariants.{Done}
use Rattle.gc_collected.specs.Copying.{copy_reply, fills_step, object_in, value_in, values_step}
use Rattle.gc_collected.specs.Values.{put_value_step}
use Rattle.gc_collected.specs.declared.known.KnownRoots.{KnownRoots}
use Rattle.gc_collected.specs.Internal.Given.{CopiesAll, fields_put, puts_step, same_from}
use Rattle.gc_collected.specs.Internal.KnownRoots.{KnowsRoots}
use Rattle.gc_collected.specs.Internal.Together.{LogsIfOpen, fields_from}
use Rattle.gc_collected.proofs.Given.{given_fits, given_ran, given_state, one_state, root_value_is, target_kept, within_kept}
use Rattle.gc_collected.proofs.GivenFields.{puts_mutators}
use Rattle.gc_collected.proofs.Marks.{put_knows}
use Rattle.gc_collected.proofs.Monitor.Follows.{follows_closed}
use Rattle.gc_collected.proofs.Monitor.Ran.{Ran}
use Rattle.gc_collected.proofs.Unwritten.{logged_open}
use Rattle.gc_collected.proofs.ValuesPut.{value_known}

-- ---- one value for all

pub same_fields : (n a i : ℕ) (v : Value) → fields_put a (same_from i n v) ≡ fields_from a i n
same_fields zero a i v = refl
same_fields (suc n) a i v = ap (λ fs. (a, i) ∷ fs) (same_fields n a (suc i) v)

pub fills_are : (n : ℕ) (s : State) (m p i q : ℕ) → p < length s.heap.graph.roots → fills_step s m p i n q ≡ puts_step s m p (same_from i n (root s.heap.graph q))
fills_are zero s m p i q within = refl
fills_are (suc n) s m p i q within =
    ap (λ (x : Reply × State). fills_step x.1 m p (suc i) n q) (root_value_is s m p i q within)
    ∙ fills_are n (put_value_step s m p i (root s.heap.graph q)).1 m p (suc i) q within

pub fills_known : (n : ℕ) (known : KnownRoots) (s : State) (m p i q : ℕ) → KnowsRoots known s → KnowsRoots known (fills_step s m p i n q)
fills_known zero known s m p i q k = k
fills_known (suc n) known s m p i q k = fills_known n known (mutate s m (Put (root_at p) i (root_at q))).1 m p (suc i) q (put_knows known s _ m i (root_at p) (root_at q) _ refl k)

pub fills_open : (n : ℕ) (s : State) (m p i q : ℕ) → is_some (fills_step s m p i n q).collection ≡ is_some s.collection
fills_open zero s m p i q = refl
fills_open (suc n) s m p i q = fills_open n (mutate s m (Put (root_at p) i (root_at q))).1 m p (suc i) q ∙ logged_open s.collection m _

-- the next field takes the value, and the rest of them
pub one_filled : (h next new : HeapWords) (p i n k : ℕ) (v : Value) → k < n → PutsValue h p (i + k) v next → PutsAll next p (same_from (i + (k + 1)) (n - (k + 1)) v) new → PutsAll h p (same_from (i + k) (n - k) v) new
one_filled h next new p i n k v less one more =
    let left : n - k ≡ suc (n - (k + 1)) = omega (arith, less) in
    let at : i + (k + 1) ≡ suc (i + k) = omega arith in
    subst (λ x. PutsAll h p (same_from (i + k) x v) new) (sym left) (next, one, subst (λ x. PutsAll next p (same_from x (n - (k + 1)) v) new) at more)

pub all_filled : (h : HeapWords) (p i n k : ℕ) (v : Value) → n ≤ k → PutsAll h p (same_from (i + k) (n - k) v) h
all_filled h p i n k v past = let none : n - k ≡ 0 = omega (arith, past) in subst (λ x. PutsAll h p (same_from (i + k) x v) h) (sym none) refl

pub from_first : (h new : HeapWords) (p i n : ℕ) (v : Value) → PutsAll h p (same_from (i + 0) (n - 0) v) new → PutsAll h p (same_from i n v) new
from_first h new p i n v all =
    let at : i + 0 ≡ i = omega arith in
    let whole : n - 0 ≡ n = omega arith in
    subst (λ x. PutsAll h p (same_from x n v) new) at (subst (λ x. PutsAll h p (same_from (i + 0) x v) new) whole all)

-- ---- those of another object

pub values_known : (n : ℕ) (known : KnownRoots) (s : State) (m p i q j : ℕ) → KnowsRoots known s → KnowsRoots known (values_step s m p i q j n)
values_known zero known s m p i q j k = k
values_known (suc n) known s m p i q j k = let v = value_in s.heap.graph q j in values_known n known (put_value_step s m p i v).1 m p (suc i) q (suc j) (value_known known s m p i v k)

pub values_open : (n : ℕ) (s : State) (m p i q j : ℕ) → is_some (values_step s m p i q j n).collection ≡ is_some s.collection
values_open zero s m p i q j = refl
values_open (suc n) s m p i q j = values_open n (put_value_step s m p i (value_in s.heap.graph q j)).1 m p (suc i) q (suc j) ∙ logged_open s.collection m _

-- the fields and the values that they take
abbrev pub copied_values : (n : ℕ) (h new : HeapWords) (p i q j : ℕ) → CopiesAll h p i q j n new → List (ℕ × Value)
copied_values zero h new p i q j same = []
copied_values (suc n) h new p i q j (next, one, more) = (i, value_in (graph_in h) q j) ∷ copied_values n next new p (suc i) q (suc j) more

pub copied_puts : (n : ℕ) (h new : HeapWords) (p i q j : ℕ) (all : CopiesAll h p i q j n new) → PutsAll h p (copied_values n h new p i q j all) new
copied_puts zero h new p i q j same = same
copied_puts (suc n) h new p i q j (next, one, more) = (next, one, copied_puts n next new p (suc i) q (suc j) more)

pub copied_fields : (n : ℕ) (h new : HeapWords) (a p i q j : ℕ) (all : CopiesAll h p i q j n new) → fields_put a (copied_values n h new p i q j all) ≡ fields_from a i n
copied_fields zero h new a p i q j same = refl
copied_fields (suc n) h new a p i q j (next, one, more) = ap (λ fs. (a, i) ∷ fs) (copied_fields n next new a p (suc i) q (suc j) more)

pub values_are : (n : ℕ) (h new : HeapWords) (o : Option Collection) (m a p i q j : ℕ) (all : CopiesAll h p i q j n new) → root (graph_in h) p ≡ Ref a → p < length (graph_in h).roots
    → values_step (state_of h o) m p i q j n ≡ puts_step (state_of h o) m p (copied_values n h new p i q j all)
values_are zero h new o m a p i q j same target within = refl
values_are (suc n) h new o m a p i q j (next, one, more) target within =
    let is : (put_value_step (state_of h o) m p i (value_in (graph_in h) q j)).1 ≡ state_of next (logged o m ((a, i) ∷ [])) = ap (λ (x : Reply × State). x.1) (one_state h next o m p i a (value_in (graph_in h) q j) one target within) in
    ap (λ (x : State). values_step x m p (suc i) q (suc j) n) is
    ∙ (values_are n next new (logged o m ((a, i) ∷ [])) m a p (suc i) q (suc j) more (target_kept h next p a one.roots target) (within_kept h next p one.roots within)
    ∙ ap (λ (x : State). puts_step x m p (copied_values n next new p (suc i) q (suc j) more)) (sym is))

-- the next field is copied, and the rest of them
pub one_copied : (h next new : HeapWords) (p i q j n k : ℕ) → k < n → PutsValue h p (i + k) (value_in (graph_in h) q (j + k)) next → CopiesAll next p (i + (k + 1)) q (j + (k + 1)) (n - (k + 1)) new → CopiesAll h p (i + k) q (j + k) (n - k) new
one_copied h next new p i q j n k less one more =
    let left : n - k ≡ suc (n - (k + 1)) = omega (arith, less) in
    let at : i + (k + 1) ≡ suc (i + k) = omega arith in
    let from : j + (k + 1) ≡ suc (j + k) = omega arith in
    subst (λ x. CopiesAll h p (i + k) q (j + k) x new) (sym left) (next, one, subst (λ y. CopiesAll next p (suc (i + k)) q y (n - (k + 1)) new) from (subst (λ x. CopiesAll next p x q (j + (k + 1)) (n - (k + 1)) new) at more))

pub none_more : (h : HeapWords) (p i q j n k : ℕ) → n ≤ k → CopiesAll h p (i + k) q (j + k) (n - k) h
none_more h p i q j n k past = let none : n - k ≡ 0 = omega (arith, past) in subst (λ x. CopiesAll h p (i + k) q (j + k) x h) (sym none) refl

pub all_from : (h new : HeapWords) (p i q j n : ℕ) → CopiesAll h p (i + 0) q (j + 0) (n - 0) new → CopiesAll h p i q j n new
all_from h new p i q j n all =
    let at : i + 0 ≡ i = omega arith in
    let from : j + 0 ≡ j = omega arith in
    let whole : n - 0 ≡ n = omega arith in
    subst (λ x. CopiesAll h p x q j n new) at (subst (λ y. CopiesAll h p (i + 0) q y n new) from (subst (λ x. CopiesAll h p (i + 0) q (j + 0) x new) whole all))

-- the rest is taken
takes_of : (h : HeapWords) (p q i j n x y m : ℕ) → x ≡ i → y ≡ j → m ≡ n → copy_reply i j n (object_in (graph_in h) (root_at p) 0) (object_in (graph_in h) (root_at q) 0) ≡ Done → copy_reply x y m (object_in (graph_in h) (root_at p) 0) (object_in (graph_in h) (root_at q) 0) ≡ Done
takes_of h p q i j n x y m one other count done = (λ k. copy_reply (one k) (other k) (count k) (object_in (graph_in h) (root_at p) 0) (object_in (graph_in h) (root_at q) 0)) ∙ done

pub takes_from : (h : HeapWords) (p i q j n : ℕ) → copy_reply i j n (object_in (graph_in h) (root_at p) 0) (object_in (graph_in h) (root_at q) 0) ≡ Done → copy_reply (i + 0) (j + 0) (n - 0) (object_in (graph_in h) (root_at p) 0) (object_in (graph_in h) (root_at q) 0) ≡ Done
takes_from h p i q j n done = takes_of h p q i j n (i + 0) (j + 0) (n - 0) (omega arith) (omega arith) (omega arith) done

pub takes_more : (h : HeapWords) (p i q j n k : ℕ) → copy_reply (suc (i + k)) (suc (j + k)) (n - (k + 1)) (object_in (graph_in h) (root_at p) 0) (object_in (graph_in h) (root_at q) 0) ≡ Done
    → copy_reply (i + (k + 1)) (j + (k + 1)) (n - (k + 1)) (object_in (graph_in h) (root_at p) 0) (object_in (graph_in h) (root_at q) 0) ≡ Done
takes_more h p i q j n k done = takes_of h p q (suc (i + k)) (suc (j + k)) (n - (k + 1)) (i + (k + 1)) (j + (k + 1)) (n - (k + 1)) (omega arith) (omega arith) refl done

-- ---- a row of fields, with the log and the monitor

-- the fields of the object in root p, from field i on, took these values
pub record Row (heap new : HeapWords) (p a i n : ℕ) (es : List (ℕ × Value)) : Type 0 where
  pub puts : PutsAll heap p es new
  pub fields : fields_put a es ≡ fields_from a i n
  pub target : root (graph_in heap) p ≡ Ref a
  pub within : p < length (graph_in heap).roots

module _ (heap new : HeapWords) (p a i n : ℕ) (es : List (ℕ × Value)) (row : Row heap new p a i n es) where
  logs_are : (o o' : Option CollectionWords) (m : ℕ) → LogsIfOpen o m (fields_from a i n) o' → LogsIfOpen o m (fields_put a es) o'
  logs_are o o' m l = subst (λ fs. LogsIfOpen o m fs o') (sym row.fields) l

  pub row_state : (o o' : Option CollectionWords) (m : ℕ) → LogsIfOpen o m (fields_from a i n) o' → puts_step (state_in heap o) m p es ≡ state_in new o'
  row_state o o' m l = given_state es heap new o o' m p a row.puts (logs_are o o' m l) row.target row.within

  pub row_fits : (epoch : ℕ) (o o' : Option CollectionWords) (m : ℕ) → m < heap.mutators → LogsIfOpen o m (fields_from a i n) o' → Fits epoch heap o → Fits epoch new o'
  row_fits epoch o o' m less l fits = given_fits es epoch heap new o o' m p a less row.puts (logs_are o o' m l) row.target row.within fits

  pub row_ran : (o o' : Option CollectionWords) (m : ℕ) → LogsIfOpen o m (fields_from a i n) o' → Ran (state_in heap o) (state_in new o') (λ b k. In {X = ℕ × ℕ} (b, k) (fields_from a i n))
  row_ran o o' m l = subst (λ fs. Ran (state_in heap o) (state_in new o') (λ b k. In {X = ℕ × ℕ} (b, k) fs)) row.fields (given_ran es heap new o o' m p a row.puts (logs_are o o' m l) row.target row.within)

  -- while no collection is open a monitor is told nothing
  pub row_follows : (m : ℕ) (w : Tables) → Follows (state_in heap None) w → Follows (state_in new None) w
  row_follows m w f = follows_closed (state_in heap None) (state_in new None) w (λ b k. In {X = ℕ × ℕ} (b, k) (fields_from a i n)) refl (row_ran None None m tt) f

  pub row_mutators : new.mutators ≡ heap.mutators
  row_mutators = puts_mutators es heap new p row.puts
