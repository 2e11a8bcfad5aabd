-- Each step of the mutator keeps the rule.
use Rattle.std.proofs.lemmas.Bool.{cond-true, cond-false, cases_Bool}
use Rattle.std.proofs.Common.{◌≡◌, ◌≢◌, ◌⊎◌, ℕ, zero, suc, ◌+◌, ◌-◌, ◌<◌, ◌≤◌, true, false, List, [], ◌∷◌, ◌++◌, length, get_or, set, replicate, Some, sym, refl, ap, ◌∙◌, subst, length-append, inl, inr, ⊎_elim, arith, length-set, get_or-set_other, get_or-set_same}
use Rattle.std.specs.Prelude.{is_some, IsSome}
use mathlib.Core.Logic.{dite}
use mathlib.Core.Option.{none, some}
use native.Mathlib.Decide.{ℕ_discrete}
use lib.ListN.{get_elem?}
use lib.Seq.{set-get_or}
use Rattle.atomic_table.specs.Table.{step, keeps, stepped, Allows}
use Rattle.gc_graph.specs.Graph.{Value, Object, Graph, set_field, new_object}
use Rattle.gc_words.specs.Word.{IsHeader, read_header, field_value, header_word}
use Rattle.gc_words.proofs.Public.{read_back, field_written, some_of, stands_in, graph_field, graph_placed, closed_field, closed_placed, placed, object_found, field_read, fields_counted, laid_out_words, objects_apart}
use Rattle.gc_words.specs.Layout.{field_place, link_place}
use Rattle.gc_words.specs.Image.{Block, blocks, block_at, field_at, is_start, objects_of, object_of_block}
use Rattle.gc_words.specs.Space.{SpaceWords, IsSpace, CanPlace, end_of, with_field_at}
use Rattle.gc_words.specs.Closed.{IsClosed, IsFieldWord}
use Rattle.gc_words.specs.declared.header.Header.{Header}
use Rattle.std.proofs.lemmas.List.{length-replicate}
use Rattle.std.specs.Option.{option_map}
use Rattle.gc_model.specs.State.{Collection}
use Rattle.gc_model.specs.Members.{In}
use Rattle.gc_model.specs.Belonging.{HasField, IsOpened, IsDue, BelongsBy, RefersTo}
use Rattle.gc_model.proofs.Public.{Evolves, field_stays, lookup_left, lookup_written, written_entry, written_raw, written_kind, written_length, written_get, belongs_but, belongs_noted, belongs_from, its_replicas, replicas_evolve}
use Rattle.gc_copy.proofs.Public.{words_numbers}
use Rattle.gc_concurrent.specs.Ends.{Known, Mine, Theirs}
use Rattle.gc_concurrent.specs.Internal.Plans.{collection_of, plan}
use Rattle.gc_concurrent.specs.Internal.Rule.{RootWords, IsAtRest, IsConcurrent, wrote, made, referring, Sat, tells_get, tells_put, tells_new, tells_refer}
use Rattle.gc_concurrent.specs.Unreachable.{MayBeCopied}
use Rattle.gc_concurrent.specs.Internal.Carrying.{FieldsLeadTo}
use Rattle.gc_concurrent.proofs.Hands.{St, seats_mine, same}
use Rattle.gc_concurrent.proofs.Shown.{shown_set}
use Rattle.gc_concurrent.proofs.Told.{put_told, made_told}
use Rattle.gc_concurrent.proofs.Keeping.{kept_mine, kept_referring, set_leads, push_leads}

-- ---- a word is read

pub gets : (slots size id : ℕ) (me : Sat) (k : ℕ) → me.0.writes ≡ true
    → Allows (IsConcurrent size) slots id me k (λ x. x) (tells_get (step slots k 0 0 none) me)
gets slots size id me k writes s r _ here _ =
    let own = (r.seats id me.0 here).0 writes in (
      me.0,
      keeps,
      tt,
      same size s k id me.1 me.0 here r,
      (
        refl,
        λ l. subst (λ (m : Mine). k < length m.space.words → get_or s.words k 0 ≡ get_or m.space.words k 0) (sym own.1) (r.now k) l,
      ),
    )

-- ---- what the mutator's changes leave of the collection

abbrev objs : Mine → List (ℕ × Object)
objs m = objects_of m.space.words

opened_noted : (mine mine' : Mine) (t : Theirs) (entries : List (ℕ × ℕ)) → Evolves (objs mine) (objs mine') (λ a i. In {X = ℕ × ℕ} (a, i) entries) → mine'.log ≡ mine.log ++ entries
    → ((a i : ℕ) → In {X = ℕ × ℕ} (a, i) entries → HasField (objs mine') a i)
    → IsOpened (plan mine t) (collection_of mine t) → IsOpened (plan mine' t) (collection_of mine' t)
opened_noted mine mine' t entries evolves logged there h =
    let c : Collection = collection_of mine t in
    record {
      belongs = subst (λ l. BelongsBy (IsDue (with_logs l)) (objs mine') (with_logs l)) (sym logged)
          (belongs_noted (objs mine') c 0 entries (omega arith) (belongs_but (objs mine) (objs mine') c (λ a i. In {X = ℕ × ℕ} (a, i) entries) h.belongs evolves (words_numbers mine'.space.words)) there);
      size = h.size;
      logs = refl;
    }
  where
    with_logs : List (ℕ × ℕ) → Collection
    with_logs l = record { size = t.size; replicas = t.replicas; logs = l ∷ t.due ∷ []; scan_place = t.scan_place; scan_field = t.scan_field }

-- a field is written while the collection is at rest
opened_rests : (mine mine' : Mine) (t : Theirs) (Touched : ℕ → ℕ → Type 0) → Evolves (objs mine) (objs mine') Touched → mine'.log ≡ mine.log → t.replicas ≡ []
    → IsOpened (plan mine t) (collection_of mine t) → IsOpened (plan mine' t) (collection_of mine' t)
opened_rests mine mine' t Touched evolves logged empty h =
    let k = h.belongs in
    let still : BelongsBy (IsDue (with_logs mine.log)) (objs mine') (with_logs mine.log) = record {
      laid = k.laid;
      room = k.room;
      once = k.once;
      replicas = λ r l. absurd (subst (In r) empty l);
      scan = k.scan;
      entries = λ a i x. field_stays (objs mine) (objs mine') Touched a i evolves (k.entries a i x);
      numbers = words_numbers mine'.space.words;
    } in
    record {
      belongs = subst (λ l. BelongsBy (IsDue (with_logs l)) (objs mine') (with_logs l)) (sym logged) still;
      size = h.size;
      logs = refl;
    }
  where
    with_logs : List (ℕ × ℕ) → Collection
    with_logs l = record { size = t.size; replicas = t.replicas; logs = l ∷ t.due ∷ []; scan_place = t.scan_place; scan_field = t.scan_field }

opened_still : (mine mine' : Mine) (t : Theirs) → Evolves (objs mine) (objs mine') (λ a i. ⊥) → mine'.log ≡ mine.log
    → IsOpened (plan mine t) (collection_of mine t) → IsOpened (plan mine' t) (collection_of mine' t)
opened_still mine mine' t evolves logged h =
    let c : Collection = collection_of mine t in
    record {
      belongs = subst (λ l. BelongsBy (IsDue (with_logs l)) (objs mine') (with_logs l)) (sym logged)
          (belongs_from (IsDue c) (objs mine') c
          (replicas_evolve (objs mine) (objs mine') c.size (IsDue c) (IsDue c) (λ a i. ⊥) c.replicas (its_replicas (IsDue c) (objs mine) c h.belongs) evolves (λ raw p a i d. d) (λ raw p a i x. absurd x))
          (h.belongs).scan (λ a i x. field_stays (objs mine) (objs mine') (λ a i. ⊥) a i evolves ((h.belongs).entries a i x)) (words_numbers mine'.space.words));
      size = h.size;
      logs = refl;
    }
  where
    with_logs : List (ℕ × ℕ) → Collection
    with_logs l = record { size = t.size; replicas = t.replicas; logs = l ∷ t.due ∷ []; scan_place = t.scan_place; scan_field = t.scan_field }

-- ---- a field is written

set_evolves : (objects : List (ℕ × Object)) (Touched : ℕ → ℕ → Type 0) (name i : ℕ) (v : Value) → Touched name i → Evolves objects (set_field objects name i v) Touched
set_evolves objects Touched name i v t a o k = record {
  now = (written_entry name i v (a, o)).1;
  found = lookup_written name i v objects a o k;
  raw = written_raw name i v (a, o);
  kind = written_kind name i v (a, o);
  len = written_length name i v (a, o);
  fields = λ j w l. ⊎_elim (λ x. inl x) (λ y. inr (subst (λ n. Touched n j) (sym y.0) (subst (Touched name) (sym y.1) t))) (written_get name i v (a, o) j w l);
}

written_objects : (s : SpaceWords) (a i w : ℕ) (b : Block) → IsSpace s → IsSome (field_at s.words a i) → block_at s.words a ≡ Some b
    → objects_of (with_field_at s a i w).words ≡ set_field (objects_of s.words) a i (field_value b.header w)
written_objects s a i w b space has found = ap (λ (g : Graph). g.objects) (graph_field s a i w b [] space has found)

-- the field that is written is there
field_there : (s : SpaceWords) (a i : ℕ) (b : Block) → IsSpace s → IsSome (field_at s.words a i) → block_at s.words a ≡ Some b → HasField (objects_of s.words) a i
field_there s a i b space has found =
    let f = field_read s.words a i space.walked has in
    let same : f.block ≡ b = cc (sym f.found ∙ found) in (
      object_of_block b,
      object_found s.words a ∙ ap (option_map object_of_block) found,
      let n = fields_counted s.words a b space.walked found in let k = f.has_field in let e = ap (λ (x : Block). x.header.len) same in omega arith,
    )

-- the collection after a write, whether it is logged or at rest
opened_wrote : (mine : Mine) (t : Theirs) (a i w : ℕ) → Evolves (objs mine) (objs (wrote a i w mine)) (λ x j. In {X = ℕ × ℕ} (x, j) ((a, i) ∷ []))
    → ((x j : ℕ) → In {X = ℕ × ℕ} (x, j) ((a, i) ∷ []) → HasField (objs (wrote a i w mine)) x j) → (mine.logs ≡ false → IsAtRest mine t)
    → IsOpened (plan mine t) (collection_of mine t) → IsOpened (plan (wrote a i w mine) t) (collection_of (wrote a i w mine) t)
opened_wrote mine t a i w evolves there rests h = ⊎_elim
    (λ (e : mine.logs ≡ true). opened_noted mine (wrote a i w mine) t ((a, i) ∷ []) evolves (cond-true mine.logs (mine.log ++ (a, i) ∷ []) mine.log e) there h)
    (λ (e : mine.logs ≡ false). opened_rests mine (wrote a i w mine) t (λ x j. In {X = ℕ × ℕ} (x, j) ((a, i) ∷ [])) evolves
    (cond-false mine.logs (mine.log ++ (a, i) ∷ []) mine.log e) (rests e).copied h)
    (cases_Bool mine.logs)

-- at rest it stays so
rests_wrote : (mine : Mine) (t : Theirs) (a i w : ℕ) → (mine.logs ≡ false → IsAtRest mine t) → mine.logs ≡ false → IsAtRest (wrote a i w mine) t
rests_wrote mine t a i w rests e =
    let k = rests e in record { logged = cond-false mine.logs (mine.log ++ (a, i) ∷ []) mine.log e ∙ k.logged; copied = k.copied; due = k.due; wanted = k.wanted }

put_keeps : (size : ℕ) (s : St) (r : IsConcurrent size s) (id : ℕ) (v : Known) (c : List (ℕ × RootWords)) (a i w : ℕ) (b : Block) → get_elem? s.views id ≡ some v → v.writes ≡ true
    → block_at r.mine.space.words a ≡ Some b → IsSome (field_at r.mine.space.words a i) → IsFieldWord r.mine.space.words b.header w → RefersTo (MayBeCopied r.mine.base) (field_value b.header w)
    → IsConcurrent size (stepped s (field_place a i) w id c (record v { mine = wrote a i w r.mine }) keeps)
put_keeps size s r id v c a i w b here writes found has is allowed =
    let wide = r.wide in let sized = r.sized in
    let sp : SpaceWords = r.mine.space in
    let k : ℕ = field_place a i in
    let f = field_read sp.words a i (r.space).walked has in
    let in_mine : k < length sp.words = f.within in
    let high : length sp.words ≤ sp.size = (r.space).end_high in
    let m' : Mine = wrote a i w r.mine in
    let objects : objects_of m'.space.words ≡ set_field (objs r.mine) a i (field_value b.header w) = written_objects sp a i w b r.space has found in
    let evolves : Evolves (objs r.mine) (objs m') (λ x j. In {X = ℕ × ℕ} (x, j) ((a, i) ∷ [])) = subst (λ os. Evolves (objs r.mine) os (λ x j. In {X = ℕ × ℕ} (x, j) ((a, i) ∷ []))) (sym objects) (set_evolves (objs r.mine) (λ x j. In {X = ℕ × ℕ} (x, j) ((a, i) ∷ [])) a i (field_value b.header w) (inl refl)) in
    let was : HasField (objs r.mine) a i = field_there sp a i b r.space has found in
    record {
      mine = m';
      theirs = r.theirs;
      seen = r.seen;
      writer = r.writer;
      copier = r.copier;
      wide = length-set s.words k w ∙ wide;
      sized = sized;
      older = r.older;
      now = λ j l. dite (ℕ_discrete j k)
          (λ e. subst (λ (z : ℕ). get_or (set s.words k w) z 0 ≡ get_or (set sp.words k w) z 0) (sym e) (get_or-set_same s.words k w 0 (omega arith) ∙ sym (get_or-set_same sp.words k w 0 in_mine)))
          (λ ne. get_or-set_other s.words k j w 0 ne ∙ (r.now j (omega (arith, length-set sp.words k w)) ∙ sym (get_or-set_other sp.words k j w 0 ne)));
      free = λ j l h. get_or-set_other s.words k j w 0 (λ e. omega (arith, length-set sp.words k w)) ∙ r.free j (omega (arith, length-set sp.words k w)) h;
      space = (field_written sp a i w r.space has).0;
      closed = closed_field sp a i w b [] r.space has found is r.closed;
      wanted = λ x h. let o = r.wanted x h in let still = evolves x o.0 o.1 in (still.now, still.found);
      opened = opened_wrote r.mine r.theirs a i w evolves
          (λ x j h. ⊎_elim (λ (e : (a, i) ≡ (x, j)). subst (λ (p : ℕ × ℕ). HasField (objs m') p.0 p.1) e (field_stays (objs r.mine) (objs m') (λ x j. In {X = ℕ × ℕ} (x, j) ((a, i) ∷ [])) a i evolves was)) (λ (e : ⊥). absurd e) h) r.rests r.opened;
      carries = kept_mine r.mine r.theirs r.carries m' refl (let l = length-set sp.words k w in omega arith)
          (subst (FieldsLeadTo (MayBeCopied r.mine.base)) (sym objects) (set_leads (MayBeCopied r.mine.base) (objs r.mine) a i (field_value b.header w) r.carries.fields allowed));
      fits = (let l = length-set sp.words k w in let f = r.fits in omega arith);
      rests = rests_wrote r.mine r.theirs a i w r.rests;
      seats = seats_mine r.writer r.copier id r.mine m' r.theirs s.views v here writes r.seats;
      told = put_told r.seen r.mine a i w has r.told;
      shown = shown_set r.seen s.views id (record v { mine = m' }) (r.shown id v here) r.shown;
    }

apart : (j n : ℕ) → j ≢ n → (j < n) ⊎ (n < j)
apart zero zero ne = absurd (ne refl)
apart zero (suc n) ne = inl (omega arith)
apart (suc j) zero ne = inr (omega arith)
apart (suc j) (suc n) ne = ⊎_elim (λ l. inl (omega arith)) (λ l. inr (omega arith)) (apart j n (λ e. ne (ap suc e)))

-- a word belongs to one field
one_field : (sp : SpaceWords) (a i x j : ℕ) → IsSpace sp → IsSome (field_at sp.words a i) → IsSome (field_at sp.words x j) → field_place a i ≡ field_place x j → (a ≡ x) × (i ≡ j)
one_field sp a i x j space has has' e =
    let f = field_read sp.words a i space.walked has in
    let g = field_read sp.words x j space.walked has' in
    let laid = laid_out_words sp.words space.walked in
    let less = f.has_field in let less' = g.has_field in
    dite (ℕ_discrete a x)
    (λ same. (same, omega arith))
    (λ ne. absurd (⊎_elim
    (λ low. let past = objects_apart (blocks sp.words) 1 a x f.block laid f.found (ap is_some g.found) low in omega arith)
    (λ low. let past = objects_apart (blocks sp.words) 1 x a g.block laid g.found (ap is_some f.found) low in omega arith)
    (apart a x ne)))

puts : (slots size id : ℕ) (me : Sat) (a i w : ℕ) (b : Block) → me.0.writes ≡ true
    → block_at me.0.mine.space.words a ≡ Some b → IsSome (field_at me.0.mine.space.words a i) → IsFieldWord me.0.mine.space.words b.header w → RefersTo (MayBeCopied me.0.mine.base) (field_value b.header w)
    → Allows (IsConcurrent size) slots id me (field_place a i) (λ _. w) (λ _. tells_put (step slots (field_place a i) w 0 none) me w)
puts slots size id me a i w b writes found has is allowed s r _ here _ =
    let own = (r.seats id me.0 here).0 writes in
    let to : me.0.mine ≡ r.mine = own.1 in
    let has' : IsSome (field_at r.mine.space.words a i) = subst (λ (m : Mine). IsSome (field_at m.space.words a i)) to has in
    let allowed = put_keeps size s r id me.0 me.1 a i w b here writes (subst (λ (m : Mine). block_at m.space.words a ≡ Some b) to found) has'
    (subst (λ (m : Mine). IsFieldWord m.space.words b.header w) to is) (subst (λ (m : Mine). RefersTo (MayBeCopied m.base) (field_value b.header w)) to allowed) in (
      record me.0 { mine = wrote a i w r.mine },
      keeps,
      tt,
      allowed,
      λ x j e h. let one = one_field r.mine.space a i x j r.space has' (subst (λ (m : Mine). IsSome (field_at m.space.words x j)) to h) e in
          λ k. (record me.0 { mine = wrote (one.0 k) (one.1 k) w (sym to k) }, me.1),
    )

-- ---- an object is made

-- objects behind which one more comes
new_evolves : (objects : List (ℕ × Object)) (name : ℕ) (o : Object) → Evolves objects (objects ++ (name, o) ∷ []) (λ a i. ⊥)
new_evolves objects name o a q x = record { now = q; found = lookup_left objects ((name, o) ∷ []) a q x; raw = refl; kind = refl; len = refl; fields = λ j w y. inl y }

abbrev pub zeros : ℕ → List ℕ
zeros n = replicate n 0

pub zero_at : (n i : ℕ) → get_or (zeros n) i 0 ≡ 0
zero_at zero i = refl
zero_at (suc n) zero = refl
zero_at (suc n) (suc i) = zero_at n i

-- a word before, at and behind the end
at_left : (xs ys : List ℕ) (k : ℕ) → k < length xs → get_or (xs ++ ys) k 0 ≡ get_or xs k 0
at_left [] ys k h = absurd (omega arith)
at_left (x ∷ xs) ys zero h = refl
at_left (x ∷ xs) ys (suc k) h = at_left xs ys k (omega arith)

at_end : (xs : List ℕ) (y : ℕ) (ys : List ℕ) (k : ℕ) → k ≡ length xs → get_or (xs ++ y ∷ ys) k 0 ≡ y
at_end [] y ys zero h = refl
at_end [] y ys (suc k) h = absurd (omega arith)
at_end (x ∷ xs) y ys zero h = absurd (omega arith)
at_end (x ∷ xs) y ys (suc k) h = at_end xs y ys k (omega arith)

zeros_behind : (xs : List ℕ) (y n k : ℕ) → length xs < k → get_or (xs ++ y ∷ 0 ∷ replicate n 0) k 0 ≡ 0
zeros_behind [] y n zero h = absurd (omega arith)
zeros_behind [] y n (suc zero) h = refl
zeros_behind [] y n (suc (suc k)) h = zero_at n k
zeros_behind (x ∷ xs) y n zero h = absurd (omega arith)
zeros_behind (x ∷ xs) y n (suc k) h = zeros_behind xs y n k (omega arith)

longer : (xs : List ℕ) (y n : ℕ) → length (xs ++ y ∷ 0 ∷ replicate n 0) ≡ length xs + (n + 2)
longer xs y n = let e : length (zeros n) ≡ n = length-replicate n 0 in omega (arith, length-append xs (y ∷ 0 ∷ zeros n), e)

new_keeps : (size : ℕ) (s : St) (r : IsConcurrent size s) (id : ℕ) (v : Known) (c : List (ℕ × RootWords)) (h : Header) → get_elem? s.views id ≡ some v → v.writes ≡ true
    → CanPlace r.mine.space h
    → IsConcurrent size (stepped s (end_of r.mine.space) (header_word h) id c (record v { mine = made h r.mine }) keeps)
new_keeps size s r id v c h here writes can =
    let wide = r.wide in let sized = r.sized in
    let sp : SpaceWords = r.mine.space in
    let k : ℕ = end_of sp in
    let w : ℕ = header_word h in
    let high : length sp.words ≤ sp.size = (r.space).end_high in
    let fits : h.len + 2 ≤ sp.size - length sp.words = can.room in
    let m' : Mine = made h r.mine in
    let long : length m'.space.words ≡ length sp.words + (h.len + 2) = longer sp.words w h.len in
    let objects : objects_of m'.space.words ≡ objs r.mine ++ (k, new_object h.raw h.kind h.len) ∷ [] = ap (λ (g : Graph). g.objects) (graph_placed sp h [] can) in
    let evolves : Evolves (objs r.mine) (objs m') (λ a i. ⊥) = subst (λ os. Evolves (objs r.mine) os (λ a i. ⊥)) (sym objects) (new_evolves (objs r.mine) k (new_object h.raw h.kind h.len)) in
    record {
      mine = m';
      theirs = r.theirs;
      seen = r.seen;
      writer = r.writer;
      copier = r.copier;
      wide = length-set s.words k w ∙ wide;
      sized = sized;
      older = r.older;
      now = λ j l. dite (ℕ_discrete j k)
          (λ e. subst (λ (z : ℕ). get_or (set s.words k w) z 0 ≡ get_or m'.space.words z 0) (sym e) (get_or-set_same s.words k w 0 (omega arith) ∙ sym (at_end sp.words w (0 ∷ replicate h.len 0) k refl)))
          (λ ne. get_or-set_other s.words k j w 0 ne ∙ ⊎_elim
          (λ (low : j < length sp.words). r.now j low ∙ sym (at_left sp.words (w ∷ 0 ∷ replicate h.len 0) j low))
          (λ (far : length sp.words < j). r.free j (omega arith) (omega arith) ∙ sym (zeros_behind sp.words w h.len j far))
          (apart j (length sp.words) ne));
      free = λ j l q. get_or-set_other s.words k j w 0 (λ e. omega arith) ∙ r.free j (omega arith) q;
      space = (placed sp h can).0;
      closed = closed_placed sp h can [] r.closed;
      wanted = λ x g. let o = r.wanted x g in let still = evolves x o.0 o.1 in (still.now, still.found);
      opened = opened_still r.mine m' r.theirs evolves refl r.opened;
      carries = kept_mine r.mine r.theirs r.carries m' refl (omega arith)
          (subst (FieldsLeadTo (MayBeCopied r.mine.base)) (sym objects) (push_leads (MayBeCopied r.mine.base) (objs r.mine) k h.raw h.kind h.len r.carries.fields));
      fits = (let f = r.fits in omega arith);
      rests = λ e. let k = r.rests e in record { logged = k.logged; copied = k.copied; due = k.due; wanted = k.wanted };
      seats = seats_mine r.writer r.copier id r.mine m' r.theirs s.views v here writes r.seats;
      told = made_told r.seen r.mine h can r.told;
      shown = shown_set r.seen s.views id (record v { mine = m' }) (r.shown id v here) r.shown;
    }

same_header : (g h : Header) → IsHeader g → IsHeader h → header_word g ≡ header_word h → h ≡ g
same_header g h fine fine' e = let both : Some h ≡ Some g = sym (read_back h fine') ∙ (ap read_header (sym e) ∙ read_back g fine) in cc

news : (slots size id : ℕ) (me : Sat) (h : Header) → me.0.writes ≡ true → CanPlace me.0.mine.space h
    → Allows (IsConcurrent size) slots id me (end_of me.0.mine.space) (λ _. header_word h) (λ _. tells_new (step slots (end_of me.0.mine.space) (header_word h) 0 none) me (header_word h))
news slots size id me h writes can s r _ here _ =
    let own = (r.seats id me.0 here).0 writes in
    let to : me.0.mine ≡ r.mine = own.1 in
    let allowed = new_keeps size s r id me.0 me.1 h here writes (subst (λ (m : Mine). CanPlace m.space h) to can) in
    let w : Known = record me.0 { mine = made h r.mine } in (
      w,
      keeps,
      tt,
      subst (λ (m : Mine). IsConcurrent size (stepped s (end_of m.space) (header_word h) id me.1 w keeps)) (sym to) allowed,
      (λ g hd e. λ k. (record me.0 { mine = made (same_header g h hd can.header e k) (sym to k) }, me.1), subst (λ (m : Mine). IsClosed m.space.words []) (sym to) r.closed),
    )

-- the word of a link lies within the space
pub link_within : (s : SpaceWords) (a : ℕ) → IsSpace s → is_start s.words a ≡ true → link_place a < length s.words
link_within s a space start =
    let b : (b : Block) × (block_at s.words a ≡ Some b) = some_of (block_at s.words a) start in
    let fits = (stands_in s.words a b.0 space.walked b.1).fits in omega arith

-- ---- a reference is made from an address

refer_keeps : (size : ℕ) (s : St) (r : IsConcurrent size s) (k id : ℕ) (v : Known) (c : List (ℕ × RootWords)) → get_elem? s.views id ≡ some v → v.writes ≡ true
    → IsConcurrent size (stepped s k (get_or s.words k 0) id c (record v { mine = referring r.mine }) keeps)
refer_keeps size s r k id v c here writes =
    let m' : Mine = referring r.mine in
    subst (λ (ws : List ℕ). IsConcurrent size (record { words = ws; homes = s.homes; views = set s.views id (record v { mine = m' }) })) (sym (set-get_or s.words k 0)) (record {
      mine = m';
      theirs = r.theirs;
      seen = r.seen;
      writer = r.writer;
      copier = r.copier;
      wide = r.wide;
      sized = r.sized;
      older = r.older;
      now = r.now;
      free = r.free;
      space = r.space;
      closed = r.closed;
      wanted = r.wanted;
      opened = record { belongs = r.opened.belongs; size = r.opened.size; logs = r.opened.logs };
      carries = kept_referring r.mine r.theirs r.carries;
      fits = r.fits;
      rests = λ e. let k = r.rests e in record { logged = k.logged; copied = k.copied; due = k.due; wanted = k.wanted };
      seats = seats_mine r.writer r.copier id r.mine m' r.theirs s.views v here writes r.seats;
      told = record { events = r.told.events; could = r.told.could; now = r.told.now; logged = r.told.logged };
      shown = shown_set r.seen s.views id (record v { mine = m' }) (r.shown id v here) r.shown;
    })

pub refers : (slots size id : ℕ) (me : Sat) (k : ℕ) → me.0.writes ≡ true
    → Allows (IsConcurrent size) slots id me k (λ x. x) (tells_refer (step slots k 0 0 none) me)
refers slots size id me k writes s r _ here _ =
    let to : me.0.mine ≡ r.mine = ((r.seats id me.0 here).0 writes).1 in (
      record me.0 { mine = referring r.mine },
      keeps,
      tt,
      refer_keeps size s r k id me.0 me.1 here writes,
      λ j. (record me.0 { mine = referring (sym to j) }, me.1),
    )

-- ---- the same for callers, who have the place and the word by equations

pub puts_at : (slots size id : ℕ) (me : Sat) (a i k w : ℕ) (b : Block) → k ≡ field_place a i → me.0.writes ≡ true
    → block_at me.0.mine.space.words a ≡ Some b → IsSome (field_at me.0.mine.space.words a i) → IsFieldWord me.0.mine.space.words b.header w → RefersTo (MayBeCopied me.0.mine.base) (field_value b.header w)
    → Allows (IsConcurrent size) slots id me k (λ _. w) (λ _. tells_put (step slots k w 0 none) me w)
puts_at slots size id me a i k w b is writes found has fine allowed =
    subst (λ (z : ℕ). Allows (IsConcurrent size) slots id me z (λ _. w) (λ _. tells_put (step slots z w 0 none) me w)) (sym is) (puts slots size id me a i w b writes found has fine allowed)

pub news_at : (slots size id : ℕ) (me : Sat) (k w : ℕ) (h : Header) → end_of me.0.mine.space ≡ k → w ≡ header_word h → me.0.writes ≡ true → CanPlace me.0.mine.space h
    → Allows (IsConcurrent size) slots id me k (λ _. w) (λ _. tells_new (step slots k w 0 none) me w)
news_at slots size id me k w h is word writes can =
    subst (λ (z : ℕ × ℕ). Allows (IsConcurrent size) slots id me z.0 (λ _. z.1) (λ _. tells_new (step slots z.0 z.1 0 none) me z.1)) (λ j. (is j, sym word j)) (news slots size id me h writes can)
