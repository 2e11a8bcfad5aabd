-- A monitor goes on following a heap: the mutators' commands.
-- For the theorem that the monitor follows its heap.
use Rattle.std.proofs.lemmas.Grind.{common_steps}
use Rattle.std.proofs.Common.{◌≡◌, ◌⊎◌, inl, inr, ⊎_elim, ℕ, zero, suc, ◌+◌, ◌<◌, ◌≤◌, Bool, true, false, List, [], ◌∷◌, length, Option, Some, None, refl, ap, sym, ◌∙◌, subst, arith}
use Rattle.std.specs.Prelude.{IfSome}
use Rattle.std.proofs.lemmas.Bool.{cases_Bool, eqb-true, eq-eqb}
use Rattle.gc_graph.specs.Machine.{words_taken}
use Rattle.gc_graph.specs.Slots.{SlotName}
use Rattle.gc_graph.specs.declared.command.Op.{Op}
use Rattle.gc_graph.specs.declared.reply.Reply.{Reply}
use Rattle.gc_words.specs.Layout.{field_place}
use Rattle.gc_model.specs.State.{Collection, State, heap_end}
use Rattle.gc_model.specs.Steps.{mutate, written}
use Rattle.gc_model.specs.Members.{In}
use Rattle.gc_model.specs.Linked.{LeadsTo, LeadsToOpen}
use Rattle.gc_model.specs.Belonging.{IsLogged, IsOpened, IsSpaceGraph}
use Rattle.gc_model.proofs.Public.{WrittenBy, laid_range, lookup_in, pair, replicas_end}
use Rattle.gc_monitor.specs.Watch.{Watch}
use Rattle.gc_monitor.proofs.Public.{opening_watch}
use Rattle.gc_monitor.specs.Tables.{Tables, watch_of}
use Rattle.gc_monitor.specs.Claims.{CanMake, CanWrite, CanWriteRow, IsLinked}
use Rattle.gc_monitor.specs.Events.{Made, Wrote, WroteRow, opening_tables}
use Rattle.gc_collected.specs.Internal.Beside.{AreOld, GoesBeside, heap_words}
use Rattle.gc_collected.specs.Internal.Knows.{Knows, KnowsAll, open_or_fresh}
use Rattle.gc_collected.specs.Internal.Stays.{WatchFits, MarksWritten}
use Rattle.gc_collected.specs.Internal.Follows.{Follows}
use Rattle.gc_collected.proofs.Monitor.CommandsKnown.{Continues, SameBut, SameOpen, can_make, continues_one, can_write, made_known, quiet_known, wrote_known}
use Rattle.gc_collected.proofs.Monitor.EndsKnown.{opened_known}
use Rattle.gc_collected.proofs.Monitor.Events.{Goes}
use Rattle.gc_collected.proofs.Monitor.Grown.{EndsMore, ends_more, grown, new_op}
use Rattle.gc_collected.proofs.Monitor.Leads.{Leads, SameReplicas, leads_one}
use Rattle.gc_collected.proofs.Monitor.Ran.{NoName, Ran, log_of_open, noted, ran_one}
use Rattle.gc_collected.proofs.Monitor.Stays.{sound, commanded, moved_on}
use Rattle.gc_collected.proofs.Monitor.Told.{told_wrote}

-- field j is one of so many, from i on, of the object at a
abbrev pub IsAmong : ℕ → ℕ → ℕ → ℕ → ℕ → Type 0
IsAmong a i n x j = (x ≡ a) × (i ≤ j) × (j < i + n)

-- what commands wrote is due, whether a collection is open or not
goes_through : (s s' : State) (t after : Tables) (Written : ℕ → ℕ → Type 0) → IfSome s.collection (IsOpened s) → Leads s s' Written
    → (s.collection ≡ None → watch_of t ≡ opening_watch (heap_end s) → watch_of after ≡ opening_watch (heap_end s'))
    → ((c : Collection) → s.collection ≡ Some c → IsOpened s c → Goes s c (watch_of t) → WatchFits (heap_end s') c (watch_of after) × MarksWritten Written (watch_of t) c (watch_of after))
    → GoesBeside s s.collection (watch_of t) → GoesBeside s' s'.collection (watch_of after)
goes_through s s' t after Written is_open leads none some goes = go s.collection refl s'.collection is_open goes leads.collection
  where
    go : (o : Option Collection) → s.collection ≡ o → (p : Option Collection) → IfSome o (IsOpened s) → GoesBeside s o (watch_of t) → SameReplicas o p → GoesBeside s' p (watch_of after)
    go None e None k w same = none e w
    go None e (Some d) k w same = absurd same
    go (Some c) e None k g same = absurd same
    go (Some c) e (Some d) k g same =
        let h = some c e k g in
        moved_on s'.heap.graph.objects (heap_end s') c d (watch_of after) same
        (commanded s.heap.graph.objects s'.heap.graph.objects Written (heap_end s) (heap_end s') c (watch_of t) (watch_of after) (sound s.heap.graph.objects c k.belongs) g leads.evolves h.0 h.1)

-- ---- commands of which nothing is told

known_through : (s s' : State) (t : Tables) (Written : ℕ → ℕ → Type 0) → Ran s s' Written → KnowsAll s t → KnowsAll s' t
known_through s s' t Written ran k = quiet_known s s' t NoName ran.on (λ a x. x) k

-- they wrote no field
pub follows_quiet : (s s' : State) (t : Tables) (Written : ℕ → ℕ → Type 0) → IfSome s.collection (IsOpened s) → Ran s s' Written → ((a i : ℕ) → Written a i → ⊥) → Follows s t → Follows s' t
follows_quiet s s' t Written is_open ran never f = record {
  found = f.found;
  goes = goes_through s s' t t Written is_open ran.leads (λ e w. w ∙ ap opening_watch ran.end)
      (λ c e k g. (subst (λ n. WatchFits n c (watch_of t)) ran.end g.fits, λ r l j u. ⊎_elim (λ d. d) (λ w. absurd (never r.original j w)))) f.goes;
  knows = known_through s s' t Written ran f.knows;
}

-- no collection is open
pub follows_closed : (s s' : State) (t : Tables) (Written : ℕ → ℕ → Type 0) → s.collection ≡ None → Ran s s' Written → Follows s t → Follows s' t
follows_closed s s' t Written closed ran f = record {
  found = f.found;
  goes = goes_through s s' t t Written (subst (λ (o : Option Collection). IfSome o (IsOpened s)) (sym closed) tt) ran.leads (λ e w. w ∙ ap opening_watch ran.end)
      (λ c e k g. absurd (let no : None ≡ Some c = sym closed ∙ e in cc)) f.goes;
  knows = known_through s s' t Written ran f.knows;
}

pub follows_same : (s s' : State) (t : Tables) → s' ≡ s → Follows s t → Follows s' t
follows_same s s' t same f = subst (λ (x : State). Follows x t) (sym same) f

-- ---- fields in a row are written, logged and told

module _ (s : State) (d : Collection) (old : List ℕ) (links : ℕ → ℕ) (is : old ≡ heap_words links s) (leads : LeadsTo links d) (heap : IsSpaceGraph s.size s.heap.free s.heap.graph) (opened : IsOpened s d) (a : ℕ) where
  -- a field that is logged is one of an object
  low_of : (j : ℕ) → IsLogged d a j → 1 ≤ a
  low_of j l = let h = opened.belongs.entries a j l in let range = laid_range 1 s.heap.graph.objects (heap_end s) (a, h.0) heap.laid (lookup_in s.heap.graph.objects a h.0 h.1) in let low : 1 ≤ a = range.0 in low

  -- what is told is true
  can_row : (t : Tables) (i n : ℕ) → WatchFits (heap_end s) d (watch_of t) → Knows s d t → ((j : ℕ) → i ≤ j → j < i + n → IsLogged d a j) → CanWriteRow old a i n t
  can_row t i zero fits k logged some taken = absurd (omega arith)
  can_row t i (suc n) fits k logged some taken =
      let h = can_write s d links heap opened t fits k a (i + n) (logged (i + n) (omega arith) (omega arith)) leads taken in
      let within : field_place h.0 (i + n) < length t.news = h.2 in
      (h.0, subst (λ ws. IsLinked ws t a h.0) (sym is) h.1, omega arith)

  first_or_later : (i n x j : ℕ) → IsAmong a i (suc n) x j → ((x ≡ a) × (j ≡ i)) ⊎ IsAmong a (suc i) n x j
  first_or_later i n x j h = grind (arith, common_steps, cases_Bool, eqb-true, eq-eqb)

  -- then the tables know it, and have the fields as due
  told_row : (n : ℕ) (t after : Tables) (i : ℕ) → WatchFits (heap_end s) d (watch_of t) → Knows s d t → ((j : ℕ) → i ≤ j → j < i + n → IsLogged d a j) → WroteRow a i n t after
      → Knows s d after × WatchFits (heap_end s) d (watch_of after) × MarksWritten (IsAmong a i n) (watch_of t) d (watch_of after)
  told_row zero t after i fits k logged same =
      subst (λ (t' : Tables). Knows s d t' × WatchFits (heap_end s) d (watch_of t') × MarksWritten (IsAmong a i zero) (watch_of t) d (watch_of t')) same
      (k, fits, λ r l j m. ⊎_elim (λ x. x) (λ w. absurd (omega (arith, w.1, w.2))))
  told_row (suc n) t after i fits k logged (next, wrote, rest) =
      let h = wrote_known s d links heap opened t fits k a i (logged i (omega arith) (omega arith)) next wrote in
      let one = told_wrote s.heap.graph.objects (heap_end s) d t next a i (λ x j. (x ≡ a) × (j ≡ i)) opened.belongs.once (low_of i (logged i (omega arith) (omega arith))) (λ x j w. w) fits wrote in
      let further = told_row n next after (suc i) h.1 h.0 (λ j first last. logged j (omega arith) (omega arith)) rest in (
        further.0,
        further.1,
        λ r l j m. ⊎_elim
            (λ x. further.2 r l j m (inl (one.1 r l j m (inl x))))
            (λ w. ⊎_elim (λ here. further.2 r l j m (inl (one.1 r l j m (inr here)))) (λ later. further.2 r l j m (inr later)) (first_or_later i n r.original j w)),
      )

-- the open collection after commands
open_after : (s s' : State) → Continues s s' NoName → (s.collection ≡ None → ⊥) → (d : Collection) × (s'.collection ≡ Some d)
open_after s s' on some = grind (arith, common_steps)

pub follows_written : (s s' : State) (a i n : ℕ) (Written : ℕ → ℕ → Type 0) (old : List ℕ) (t after : Tables) → IfSome s.collection (IsOpened s) → IfSome s'.collection (IsOpened s') → IsSpaceGraph s'.size s'.heap.free s'.heap.graph
    → Ran s s' Written → ((x j : ℕ) → Written x j → IsAmong a i n x j) → (s.collection ≡ None → ⊥) → ((d : Collection) → s'.collection ≡ Some d → (j : ℕ) → i ≤ j → j < i + n → IsLogged d a j) → AreOld s' old
    → (t.lost ≡ false → CanWriteRow old a i n t → after.lost ≡ false) → (after.lost ≡ false → WroteRow a i n t after) → Follows s t → Follows s' after
follows_written s s' a i n Written old t after is_open is_open' heap ran among not_closed logged olds stays wrote f = record {
  found = found;
  goes = goes_through s s' t after Written is_open ran.leads (λ e w. absurd (not_closed e))
      (λ c e k g. (
        refit d.0 c (sym (replicas_same c e)) told.1,
        λ r l j m x. told.2 r (subst (In r) (sym (replicas_same c e)) l) j m (⊎_elim (λ y. inl y) (λ w. inr (among r.original j w)) x),
      )) f.goes;
  knows = subst (λ o. Knows s' (open_or_fresh s' o) after) (sym d.1) told.0;
}
  where
    d : (d : Collection) × (s'.collection ≡ Some d)
    d = open_after s s' ran.on not_closed

    opened : IsOpened s' d.0
    opened = subst (λ (o : Option Collection). IfSome o (IsOpened s')) d.1 is_open'

    -- the replicas before and after are the same
    replicas_same : (c : Collection) → s.collection ≡ Some c → d.0.replicas ≡ c.replicas
    replicas_same c e = go s.collection e s'.collection d.1 ran.on.collection
      where
        go : (o : Option Collection) → o ≡ Some c → (p : Option Collection) → p ≡ Some d.0 → SameOpen o p → d.0.replicas ≡ c.replicas
        go o e p f same = grind (arith, common_steps)

    refit : (c c' : Collection) → c'.replicas ≡ c.replicas → WatchFits (heap_end s') c (watch_of after) → WatchFits (heap_end s') c' (watch_of after)
    refit c c' same fits = grind (arith, common_steps, pair, replicas_end)

    refit_first : (c : Collection) → SameBut c d.0 → WatchFits (heap_end s) c (watch_of t) → WatchFits (heap_end s') d.0 (watch_of t)
    refit_first c same fits = let end : heap_end s ≡ heap_end s' = ran.end in grind (arith, common_steps, pair, replicas_end)

    fits : WatchFits (heap_end s') d.0 (watch_of t)
    fits = go s.collection refl s'.collection d.1 ran.on.collection f.goes
      where
        go : (o : Option Collection) → s.collection ≡ o → (p : Option Collection) → p ≡ Some d.0 → SameOpen o p → GoesBeside s o (watch_of t) → WatchFits (heap_end s') d.0 (watch_of t)
        go o e p f same g = grind (arith, common_steps, refit_first)

    knows : Knows s' d.0 t
    knows = subst (λ o. Knows s' (open_or_fresh s' o) t) d.1 (known_through s s' t Written ran f.knows)

    leads : LeadsTo olds.0 d.0
    leads = subst (LeadsToOpen olds.0) d.1 olds.1

    found : after.lost ≡ false
    found = stays f.found (can_row s' d.0 old olds.0 olds.2 leads heap opened a t i n fits knows (logged d.0 d.1))

    told : Knows s' d.0 after × WatchFits (heap_end s') d.0 (watch_of after) × MarksWritten (IsAmong a i n) (watch_of t) d.0 (watch_of after)
    told = told_row s' d.0 old olds.0 olds.2 leads heap opened a n t after i fits knows (logged d.0 d.1) (wrote found)

-- one field, by a command
pub follows_put : (s s' : State) (m a i : ℕ) (op : Op) (reply : Reply) (old : List ℕ) (t after : Tables) → IfSome s.collection (IsOpened s) → IfSome s'.collection (IsOpened s') → IsSpaceGraph s'.size s'.heap.free s'.heap.graph → m < s.mutators
    → mutate s m op ≡ (reply, s') → words_taken op ≡ 0 → (a, i) ∷ [] ≡ written s.heap.graph m op reply → (s.collection ≡ None → ⊥) → AreOld s' old
    → (t.lost ≡ false → CanWrite old a i t → after.lost ≡ false) → (after.lost ≡ false → Wrote a i t after) → Follows s t → Follows s' after
follows_put s s' m a i op reply old t after is_open is_open' heap less said none is not_closed olds stays wrote f =
    follows_written s s' a i 1 (WrittenBy s.heap.graph m op reply) old t after is_open is_open' heap (ran_one s s' m op reply said none)
    (λ x j w. ⊎_elim
    (λ (p : (a, i) ≡ (x, j)). (sym (ap (λ (p : ℕ × ℕ). p.0) p), (let e : i ≡ j = ap (λ (p : ℕ × ℕ). p.1) p in omega arith), (let e : i ≡ j = ap (λ (p : ℕ × ℕ). p.1) p in omega arith)))
    (λ z. absurd z)
    (subst (λ ws. In {X = ℕ × ℕ} (x, j) ws) (sym is) w))
    not_closed
    (λ d there j low high. (let same : i ≡ j = omega arith in
    subst (IsLogged d a) same (noted s s' m op reply a i (log_of_open s m is_open less) said (subst (In {X = ℕ × ℕ} (a, i)) is (inl refl)) d there)))
    olds
    (λ n can. stays n (λ taken. (let h = can (omega arith) taken in (h.0, h.1, omega (arith, h.2)))))
    (λ n. (after, wrote n, refl)) f

-- ---- an object made, after which commands may write its fields

pub follows_made : (s s' : State) (Written : ℕ → ℕ → Type 0) (links : ℕ → ℕ) (old : List ℕ) (t after : Tables) → IfSome s.collection (IsOpened s) → IsSpaceGraph s.size s.heap.free s.heap.graph → IsSpaceGraph s'.size s'.heap.free s'.heap.graph → old ≡ heap_words links s'
    → EndsMore s s' → Continues s s' (λ a. a ≡ heap_end s) → Leads s s' Written → ((x j : ℕ) → Written x j → x ≡ heap_end s)
    → (t.lost ≡ false → CanMake old t → after.lost ≡ false) → (after.lost ≡ false → Made old t after) → Follows s t → Follows s' after
follows_made s s' Written links old t after is_open before later is more on leads new stays made f = record {
  found = found;
  goes = goes_through s s' t after Written is_open leads
      (λ e w. (let g = grow (ap (λ (w : Watch). w.old_seen) w) in ap watch_of g.1 ∙ (λ i. record (w i) { old_seen = g.0 i })))
      (λ c e k goes. (let g = grow goes.fits.old_seen in
      subst (λ (t' : Tables). WatchFits (heap_end s') c (watch_of t') × MarksWritten Written (watch_of t) c (watch_of t')) (sym g.1) (
        record { pairs = goes.fits.pairs; old_seen = g.0; new_seen = goes.fits.new_seen; row = goes.fits.row },
        λ r l j u. ⊎_elim (λ d. d) (λ w. absurd (
            let replica = k.belongs.replicas r l in
            let range = laid_range 1 s.heap.graph.objects (heap_end s) (r.original, replica.original) before.laid (lookup_in s.heap.graph.objects r.original replica.original replica.found) in
            let high : r.original + (length replica.original.fields + 2) ≤ heap_end s = range.1 in
            let at : r.original ≡ heap_end s = new r.original j w in
            omega arith)),
      )))
      f.goes;
  knows = made_known s s' t links later more on seen f.knows after made_is;
}
  where
    seen : length t.olds ≡ heap_end s
    seen = go s.collection f.goes
      where
        go : (o : Option Collection) → GoesBeside s o (watch_of t) → length t.olds ≡ heap_end s
        go o g = grind (arith, common_steps)

    found : after.lost ≡ false
    found = stays f.found (subst (λ ws. CanMake ws t) (sym is) (can_make s s' t links later more on seen f.knows))

    made_is : Made (heap_words links s') t after
    made_is = subst (λ ws. Made ws t after) is (made found)

    grow : length t.olds ≡ heap_end s → (length after.olds ≡ heap_end s') × (after ≡ record t { olds = after.olds })
    grow seen = grown s s' t after links later more seen made_is

-- by a `new` or a `raw`
pub follows_new : (s s' : State) (m : ℕ) (op : Op) (reply : Reply) (raw : Bool) (d : SlotName) (kind len : ℕ) (links : ℕ → ℕ) (old : List ℕ) (t after : Tables) → op ≡ new_op raw d kind len → IfSome s.collection (IsOpened s) → IsSpaceGraph s.size s.heap.free s.heap.graph → IsSpaceGraph s'.size s'.heap.free s'.heap.graph
    → mutate s m op ≡ (reply, s') → old ≡ heap_words links s' → (t.lost ≡ false → CanMake old t → after.lost ≡ false) → (after.lost ≡ false → Made old t after) → Follows s t → Follows s' after
follows_new s s' m op reply raw d kind len links old t after is is_open before later said words =
    follows_made s s' (WrittenBy s.heap.graph m op reply) links old t after is_open before later words (ends_more s s' m op reply raw d kind len is before said)
    (let on = continues_one s s' m op reply said in record { mutators = on.mutators; size = on.size; collection = on.collection; names = λ a n. ⊎_elim (λ l. inl l) (λ new. inr new.1) (on.names a n); stays = on.stays })
    (leads_one s s' m op reply said) (λ x j w. absurd (none raw is x j w))
  where
    none : (raw : Bool) → op ≡ new_op raw d kind len → (x j : ℕ) → WrittenBy s.heap.graph m op reply x j → ⊥
    none true e x j w = subst (λ (o : Op). WrittenBy s.heap.graph m o reply x j) e w
    none false e x j w = subst (λ (o : Op). WrittenBy s.heap.graph m o reply x j) e w

-- ---- the opening

pub follows_opening : (s : State) (t : Tables) → s.heap.graph.objects ≡ [] → s.collection ≡ None → 1 ≤ s.size → heap_end s ≡ 1 → t ≡ opening_tables s.size → Follows s t
follows_opening s t empty closed low end is = subst (Follows s) (sym is) (record {
  found = refl;
  goes = subst (λ o. GoesBeside s o (watch_of (opening_tables s.size))) (sym closed) (ap opening_watch (sym end));
  knows = opened_known s s.size empty closed (let same : s.size ≤ s.size = omega arith in same) low;
})
