-- A replica is placed, and all of its fields are due.
use Rattle.std.proofs.Common.{◌≡◌, ◌⊎◌, inl, inr, ⊎_elim, ℕ, zero, suc, ◌+◌, ◌-◌, ◌<◌, ◌≤◌, Bool, true, false, List, [], ◌∷◌, ◌++◌, length, get_or, set, map, replicate, Option, Some, None, is_some, refl, ap, sym, ◌∙◌, subst, arith, length-set}
use Rattle.std.specs.Prelude.{slice_index, slice_index_or, slice_set, IsSome, if◌then◌else◌}
use Rattle.std.proofs.Math.Logic.{∥∥₁_elim}
use Rattle.std.proofs.Props.{props}
use Rattle.std.proofs.lemmas.Bool.{cases_Bool, cases_eq, cases_lt, cond-true}
use Rattle.std.proofs.lemmas.List.{get_or-set_same, get_or-set_other, get_or_append_left, get_or-append-add, length-replicate, map-append}
use Rattle.gc_graph.specs.Graph.{Value, Nil, Num, Ref, Object, first_value}
use Rattle.gc_graph.specs.Correspond.{correspond}
use Rattle.gc_words.specs.Word.{read_header, read_correspond, read_value, value_of, is_value, words_correspond}
use Rattle.gc_words.specs.Closed.{IsClosed, IsWordOfField, RefersToStart}
use Rattle.gc_words.specs.Image.{Block, block_at, field_at, fresh_block, header_of, is_start}
use Rattle.gc_words.specs.Layout.{field_place, link_place}
use Rattle.gc_words.specs.Space.{SpaceWords, CanPlace, end_of, with_link, with_object}
use Rattle.gc_words.specs.Spelling.{block_words}
use Rattle.gc_words.specs.declared.header.Header.{Header}
use Rattle.gc_words.proofs.Public.{closed_field_read, field_read, field_within, none_at_end, placed_block, placed as space_placed, some_of, stands_in}
use Rattle.gc_model.specs.State.{Replica, new_end}
use Rattle.gc_model.specs.Members.{In}
use Rattle.gc_model.specs.Belonging.{IsDue}
use Rattle.gc_model.proofs.Public.{in_left, in_map, in_paired, in_push, in_right, laid_range, pair, paired_in, placed, replicas_end}
use Rattle.gc_monitor.specs.Tables.{Tables}
use Rattle.gc_monitor.specs.Origins.{pairs_in}
use Rattle.gc_monitor.specs.Telling.{IsMark}
use Rattle.gc_monitor.specs.Events.{PlacedBy, object_codes, replica_added}
use Rattle.gc_monitor.specs.Claims.{FitsBehind, IsUntaken}
use Rattle.gc_monitor.proofs.Public.{all_of, placed as pairs_placed, within_row}
use Rattle.gc_concurrent.specs.Ends.{Theirs, its}
use Rattle.gc_concurrent.specs.Internal.Rule.{IsOriginal, Loose, blank_replica, entries_of_fields, placed_one, to_fill}
use Rattle.gc_concurrent.specs.Internal.Flip.{Holds}
use Rattle.gc_concurrent.specs.Internal.Following.{Follows}
use Rattle.gc_concurrent.specs.Internal.Knowing.{alike, IsLeft, IsSeenToDiffer, Knows, KnowsBefore}
use Rattle.gc_concurrent.proofs.Following.{same_word}
use Rattle.gc_concurrent.proofs.Logs.{fields_in}
use Rattle.gc_concurrent.proofs.Memory.{end_is}
use Rattle.gc_concurrent.proofs.Starting.{link_start, made_start_back}
use Rattle.gc_concurrent.proofs.Knowing.{code_due, code_front, due_code, first_code, in_memory, two_among}

-- ---- words that differ still do, with a pair more

grown_values : (pairs : List (ℕ × ℕ)) (name end : ℕ) (v w : Value) → (w ≡ Ref end → ⊥) → correspond (pairs ++ (name, end) ∷ []) v w ≡ true → correspond pairs v w ≡ true
grown_values pairs name end Nil Nil other e = refl
grown_values pairs name end Nil (Num n) other e = absurd (let no : false ≡ true = e in cc)
grown_values pairs name end Nil (Ref b) other e = absurd (let no : false ≡ true = e in cc)
grown_values pairs name end (Num m) Nil other e = absurd (let no : false ≡ true = e in cc)
grown_values pairs name end (Num m) (Num n) other e = e
grown_values pairs name end (Num m) (Ref b) other e = absurd (let no : false ≡ true = e in cc)
grown_values pairs name end (Ref a) Nil other e = absurd (let no : false ≡ true = e in cc)
grown_values pairs name end (Ref a) (Num n) other e = absurd (let no : false ≡ true = e in cc)
grown_values pairs name end (Ref a) (Ref b) other e = ⊎_elim
    (λ h. in_paired pairs a b h)
    (λ (same : (name, end) ≡ (a, b)). absurd (other (ap (λ (z : ℕ × ℕ). Ref z.1) (sym same))))
    (in_push (a, b) (name, end) pairs (paired_in (pairs ++ (name, end) ∷ []) a b e))

grown_read : (pairs : List (ℕ × ℕ)) (name end : ℕ) (v w : Option Value) → (w ≡ Some (Ref end) → ⊥) → read_correspond (pairs ++ (name, end) ∷ []) v w ≡ true → read_correspond pairs v w ≡ true
grown_read pairs name end (Some v) (Some w) other e = grown_values pairs name end v w (λ is. other (ap (λ z. Some z) is)) e
grown_read pairs name end (Some v) None other e = absurd (let no : false ≡ true = e in cc)
grown_read pairs name end None (Some w) other e = absurd (let no : false ≡ true = e in cc)
grown_read pairs name end None None other e = absurd (let no : false ≡ true = e in cc)

differs_grown : (raw : Bool) (pairs : List (ℕ × ℕ)) (name end v w : ℕ) → (raw ≡ false → read_value w ≡ Some (Ref end) → ⊥) → alike raw pairs v w ≡ false → alike raw (pairs ++ (name, end) ∷ []) v w ≡ false
differs_grown true pairs name end v w other e = e
differs_grown false pairs name end v w other e = ⊎_elim
    (λ (yes : words_correspond (pairs ++ (name, end) ∷ []) v w ≡ true). absurd (let no : true ≡ false = sym (grown_read pairs name end (read_value v) (read_value w) (other refl) yes) ∙ e in cc))
    (λ no. no)
    (cases_Bool (words_correspond (pairs ++ (name, end) ∷ []) v w))

-- the codes of fields that are due
code_three : (n m : ℕ) → ◌≡◌ {A = ℕ} (get_or (1 ∷ 0 ∷ replicate n 3) m 0) 3 → (i : ℕ) × (m ≡ i + 2) × (i < n)
code_three n zero e = absurd (let no : 1 ≡ 3 = e in omega arith)
code_three n (suc zero) e = absurd (let no : 0 ≡ 3 = e in omega arith)
code_three n (suc (suc i)) e = (i, omega arith, within n i e)
  where
    within : (n i : ℕ) → ◌≡◌ {A = ℕ} (get_or (replicate n 3) i 0) 3 → i < n
    within zero i e = absurd (let no : 0 ≡ 3 = e in omega arith)
    within (suc n) zero e = omega arith
    within (suc n) (suc i) e = let l = within n i e in omega arith

module _ (t after : Tables) (seen : List ℕ) (space : SpaceWords) (h : Header) (word name : ℕ) (o : Object) (x : Theirs) (hold : Holds space x) (can : CanPlace space h) (closed : IsClosed space.words []) (loose : ∥ Loose x ∥₁)
    (rows : length t.news ≡ length space.words) (k : Knows t seen space.words x) (by : PlacedBy word name t after) (read : read_header word ≡ Some h) (is : h ≡ record { raw = o.raw; kind = o.kind; len = length o.fields }) where
  abbrev u : Theirs
  u = placed_one name o x

  abbrev blank : Replica
  blank = blank_replica name (new_end (its x)) o

  abbrev made : SpaceWords
  made = with_link (with_object space h) (end_of space) name

  end : new_end (its x) ≡ end_of space
  end = end_is x space hold

  len : h.len ≡ length o.fields
  len = ap (λ (g : Header). g.len) is

  added : after ≡ replica_added t h name true
  added =
      let both : Some by.header ≡ Some h = sym by.is ∙ read in
      let same : by.header ≡ h = cc both in
      by.added ∙ ap (λ g. replica_added t g name true) same

  low : name < length t.olds
  low = within_row t.olds name 0 by.start

  pairs : pairs_in (t.origins ++ name ∷ 0 ∷ replicate h.len 0) ≡ map pair (x.replicas ++ blank ∷ [])
  pairs =
      pairs_placed t.origins name (suc h.len) by.low
      ∙ (λ j. k.pairs j ++ (name, (by.rows ∙ rows ∙ sym end) j) ∷ [])
      ∙ sym (map-append pair x.replicas (blank ∷ []))

  taken : (a : ℕ) → get_or (set t.olds name 2) a 0 ≡ 2 → (r : Replica) × In r u.replicas × (r.original ≡ a)
  taken a two = ⊎_elim
      (λ (e : a ≡ name). (blank, in_right blank x.replicas (blank ∷ []) (inl refl), sym e))
      (λ other. let r = k.taken a (sym (get_or-set_other t.olds name a 2 0 other) ∙ two) in (r.0, in_left r.0 x.replicas (blank ∷ []) r.1, r.2))
      (cases_eq a name)

  olds : (a : ℕ) → is_start seen a ≡ true → a < length (set t.olds name 2) → IsMark (get_or (set t.olds name 2) a 0)
  olds a start less = ⊎_elim
      (λ (e : a ≡ name). inr (ap (λ z. get_or (set t.olds name 2) z 0) e ∙ get_or-set_same t.olds name 2 0 low))
      (λ other. subst IsMark (sym (get_or-set_other t.olds name a 2 0 other)) (k.olds a start (let n : length (set t.olds name 2) ≡ length t.olds = length-set t.olds name 2 in omega arith)))
      (cases_eq a name)

  news : (b : ℕ) → is_start made.words b ≡ true → get_or (t.news ++ object_codes h.len 3) b 0 ≡ 1
  news b start = ⊎_elim
      (λ (e : end_of space ≡ b). ap (λ z. get_or (t.news ++ object_codes h.len 3) z 0) (sym (rows ∙ e)) ∙ first_code t.news (0 ∷ replicate h.len 3) 1)
      (λ before. code_front t.news (object_codes h.len 3) b 0 (k.news b before))
      (made_start_back space h can b (sym (link_start (with_object space h) (end_of space) name (space_placed space h can).0 (ap is_some (placed_block space h can)) b) ∙ start))

  -- the words before are as they were
  word_before : (p : ℕ) → p < length space.words → slice_index made.words p ≡ slice_index space.words p
  word_before p less =
      get_or-set_other (space.words ++ block_words 0 (fresh_block h)) (link_place (end_of space)) p name 0 (λ e. let f : p ≡ link_place (end_of space) = e in omega arith)
      ∙ get_or_append_left space.words (block_words 0 (fresh_block h)) 0 p less

  -- no field refers to the new replica yet
  no_reference : (r : Replica) → In r x.replicas → (j : ℕ) → j < length r.object.fields → r.object.raw ≡ false → read_value (slice_index space.words (field_place r.place j)) ≡ Some (Ref (end_of space)) → ⊥
  no_reference r there j less plain e =
      let b = in_memory x space hold loose r there in
      let w : ℕ = slice_index space.words (field_place r.place j) in
      let has : IsSome (field_at space.words r.place j) = field_within space.words r.place j b.0.header (hold.shaped).walked (ap header_of b.1) (let m = b.3 in omega arith) in
      let fits : IsWordOfField b.0.header.raw space.words w = closed_field_read space.words [] r.place j w b.0 closed b.1 (field_read space.words r.place j (hold.shaped).walked has).word in
      let root = subst (λ raw. IsWordOfField raw space.words w) (sym b.2 ∙ plain) fits in
      let value : value_of w ≡ Ref (end_of space) = (let s : Some (value_of w) ≡ Some (Ref (end_of space)) = sym (cond-true (is_value w) (Some (value_of w)) None root.value) ∙ e in cc) in
      let start : RefersToStart space.words (Ref (end_of space)) = subst (RefersToStart space.words) value root.start in
      let no : true ≡ false = sym start ∙ ap is_some (none_at_end space hold.shaped) in cc

  abbrev Logged : ℕ → ℕ → Type 0
  Logged a i = Rattle.gc_model.specs.Belonging.IsLogged (its x) a i

  later : (r : Replica) (i : ℕ) → IsDue (its x) r.object.raw r.place r.original i → IsDue (its u) r.object.raw r.place r.original i
  later r i (inl d) = inl d
  later r i (inr (zero, h)) = inr (0, in_right (r.original, i) (entries_of_fields name 0 (to_fill o)) x.due h)
  later r i (inr (suc n, h)) = absurd h

  before : (place : ℕ) → place < length t.news → IsLeft seen space.words x place → IsLeft seen made.words u place
  before place less l =
      let r = l.replica in
      let j = l.field in
      record {
        replica = r;
        there = in_left r x.replicas (blank ∷ []) l.there;
        field = j;
        has_field = l.has_field;
        at = l.at;
        why = ⊎_elim (λ d. inl (later r j d)) (λ (d : IsSeenToDiffer seen space.words x r j). inr (record {
          within = d.within;
          differs = (λ n. alike r.object.raw (map-append pair x.replicas (blank ∷ []) n) (slice_index seen (field_place r.original j)) (word_before (field_place r.place j) (let e = l.at in omega arith) n))
              ∙ differs_grown r.object.raw (map pair x.replicas) name (new_end (its x)) (slice_index seen (field_place r.original j)) (slice_index space.words (field_place r.place j))
              (λ plain e. no_reference r l.there j l.has_field plain (e ∙ ap (λ n. Some (Ref n)) end)) d.differs;
        })) l.why;
      }

  -- the scan has not passed the end
  scan_low : x.scan_place ≤ new_end (its x)
  scan_low = ∥∥₁_elim loose (hlevel props) (λ (l : Loose x). ⊎_elim
      (λ z. let range = laid_range 1 (map placed x.replicas) (replicas_end x.replicas) (placed z.0) (l.belongs).laid (in_map placed z.0 x.replicas z.1) in let e = z.2 in omega arith)
      (λ z. let e = z.0 in omega arith)
      (l.belongs).scan)

  scan_first : x.scan_place ≡ new_end (its x) → x.scan_field ≡ 0
  scan_first e = ∥∥₁_elim loose (hlevel props) (λ (l : Loose x). ⊎_elim
      (λ z. absurd (let range = laid_range 1 (map placed x.replicas) (replicas_end x.replicas) (placed z.0) (l.belongs).laid (in_map placed z.0 x.replicas z.1) in let p = z.2 in omega arith))
      (λ z. z.1)
      (l.belongs).scan)

  unscanned : (i : ℕ) → (x.scan_place < new_end (its x)) ⊎ ((x.scan_place ≡ new_end (its x)) × (x.scan_field ≤ i))
  unscanned i = ⊎_elim
      (λ less. inl less)
      (λ past. let e : x.scan_place ≡ new_end (its x) = (let l = scan_low in omega arith) in inr (e, (let z = scan_first e in omega arith)))
      (cases_lt x.scan_place (new_end (its x)))

  new_due : (raw : Bool) → o.raw ≡ raw → (i : ℕ) → i < length o.fields → IsDue (its u) o.raw (new_end (its x)) name i
  new_due true e i less = inr (
    0,
    in_left (name, i) (entries_of_fields name 0 (to_fill o)) x.due
        (subst (λ b. In {X = ℕ × ℕ} (name, i) (entries_of_fields name 0 (if b then length o.fields else 0))) (sym e) (fields_in name 0 (length o.fields) i (omega arith) (omega arith))),
  )
  new_due false e i less = inl (e, unscanned i)

  behind : (place m : ℕ) → place ≡ length t.news + m → ◌≡◌ {A = ℕ} (get_or (1 ∷ 0 ∷ replicate h.len 3) m 0) 3 → IsLeft seen made.words u place
  behind place m e three =
      let c = code_three h.len m three in
      let is_at = c.1 in
      let less = c.2 in
      let n = len in
      record {
        replica = blank;
        there = in_right blank x.replicas (blank ∷ []) (inl refl);
        field = c.0;
        has_field = (let z : length blank.object.fields ≡ length o.fields = length-replicate (length o.fields) (first_value o.raw) in omega arith);
        at = (let r = rows in let f = end in omega arith);
        why = inl (new_due o.raw refl c.0 (omega arith));
      }

  due : (place : ℕ) → get_or (t.news ++ object_codes h.len 3) place 0 ≡ 3 → IsLeft seen made.words u place
  due place three = ⊎_elim
      (λ less. before place less (k.due place (code_due t place (sym (get_or_append_left t.news (object_codes h.len 3) 0 place less) ∙ three))))
      (λ (past : length t.news ≤ place).
      let m : ℕ = place - length t.news in
      let e : place ≡ length t.news + m = omega arith in
      behind place m e (sym (get_or-append-add t.news (object_codes h.len 3) m 0) ∙ (ap (λ z. get_or (t.news ++ object_codes h.len 3) z 0) (sym e) ∙ three)))
      (cases_lt place (length t.news))

  pub placed_knows : Knows after seen (with_link (with_object space h) (end_of space) name).words (placed_one name o x)
  placed_knows = subst (λ z. Knows z seen made.words u) (sym added) (record {
    found = k.found;
    pairs = pairs;
    taken = taken;
    olds = olds;
    news = news;
    free = λ b two. k.free b (two_among t.news h.len 3 b (λ e. omega arith) two);
    due = λ place d. due place (due_code (replica_added t h name true) place d);
    old_room = k.old_room;
    new_room = k.new_room;
  })

-- ---- the checker can place it

-- the new space and the tables have room for it
pub fits_behind : (t0 t : Tables) (seen0 seen new : List ℕ) (before now : Theirs) (name word : ℕ) → (kb : KnowsBefore t0 seen0 new before now name word) → Follows t seen new → Knows t seen new before → FitsBehind word t
fits_behind t0 t seen0 seen new before now name word kb follows k =
    (record { raw = kb.replica.object.raw; kind = kb.replica.object.kind; len = length kb.replica.object.fields }, kb.header, (let r = kb.room in let n = k.new_room in let m = (follows k.found).2 in omega arith))

pub can_place_by : (t0 t : Tables) (seen0 seen new : List ℕ) (before now : Theirs) (name word original : ℕ) → (kb : KnowsBefore t0 seen0 new before now name word) → Follows t seen new → Knows t seen new before
    → name < length t.olds → IsOriginal seen original kb.replica → (original ≡ word) × IsUntaken name t
can_place_by t0 t seen0 seen new before now name word original kb follows k less is =
    let f = follows k.found in
    let whole = f.1 in
    let upto = f.0.watches.old_seen in
    let start : is_start seen name ≡ true = subst (λ a. is_start seen a ≡ true) kb.original (is.start (let e = kb.original in let w = upto.within in omega arith)) in
    let ok = subst (λ ws. Rattle.std.specs.Prelude.IsOk (Rattle.gc_words.specs.Image.walk_words ws)) (all_of (length seen) seen refl) whole.space.walked in
    let b = some_of (block_at seen name) start in
    let st = stands_in seen name b.0 ok b.1 in
    let h : Header = record { raw = kb.replica.object.raw; kind = kb.replica.object.kind; len = length kb.replica.object.fields } in
    let one : slice_index_or t.olds name 0 ≡ 1 = ⊎_elim
    (λ (m : slice_index_or t.olds name 0 ≡ 1). m)
    (λ two. absurd (let r = k.taken name two in kb.none r.0 r.1 r.2))
    (k.olds name start less) in (
      same_word original word h is.header kb.header,
      (st.low, one),
    )
