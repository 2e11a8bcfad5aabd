-- Loads of the standing checker keep the rule.
use Rattle.std.proofs.Common.{◌≡◌, ◌≢◌, ℕ, ◌<◌, ◌≤◌, true, List, [], ◌++◌, length, get_or, set, Option, Some, None, is_some, refl, ap, sym, ◌∙◌, subst, ⊎_elim, arith, length-take}
use Rattle.std.specs.Prelude.{slice_set, slice_index, IsOk, IsSome, take}
use Rattle.std.proofs.lemmas.Bool.{cases_eq, cases_lt}
use Rattle.std.proofs.lemmas.List.{append-nil}
use lib.ListN.{get_elem?}
use lib.Seq.{set-get_or}
use mathlib.Core.Option.{some, none}
use Rattle.atomic_table.specs.Table.{step, keeps, stepped, Allows}
use Rattle.gc_words.specs.Word.{read_header}
use Rattle.gc_graph.specs.Graph.{Object}
use Rattle.gc_words.specs.Image.{Block, block_at, header_of, header_at, field_at, fresh_block, is_start, walk_words}
use Rattle.gc_words.specs.Layout.{field_place}
use Rattle.gc_words.specs.Space.{SpaceWords, IsSpace}
use Rattle.gc_words.specs.Spelling.{block_words}
use Rattle.gc_words.specs.declared.header.Header.{Header}
use Rattle.gc_words.proofs.Public.{field_read, fields_counted, object_found, some_of, stands_in}
use Rattle.gc_monitor.specs.Watch.{IsSeen, IsNext}
use Rattle.gc_monitor.proofs.Public.{all_of, start_there}
use Rattle.gc_model.specs.State.{Replica}
use Rattle.gc_model.specs.Members.{In}
use Rattle.gc_concurrent.specs.Ends.{Known, Mine, Theirs}
use Rattle.gc_concurrent.specs.Internal.Rule.{RootWords, IsConcurrent, Sat, Seated, SeesEnd, SeesNext, IsOriginal, seeing, tells_look, tells_header, tells_see}
use Rattle.gc_concurrent.specs.Internal.Told.{ComesFromSeen, seen_space}
use Rattle.gc_concurrent.proofs.Hands.{St, seat_set, same}
use Rattle.gc_concurrent.proofs.Shown.{shown_anew}
use Rattle.gc_concurrent.proofs.Loosely.{block_is}
use Rattle.gc_concurrent.proofs.Starting.{made_start_back, starts_back}
use Rattle.gc_concurrent.proofs.Told.{field_stays, header_stays, look_told, see_told, seen_is_space}

-- a space is seen whole
pub whole_seen : (s : SpaceWords) → IsSpace s → IsSeen (length s.words) s.words
whole_seen s is = record {
  within = omega arith;
  space = subst (λ ws. IsSpace (record { size = 4294967295; words = ws })) (sym (all_of (length s.words) s.words refl))
      (record { size_low = omega arith; size_high = omega arith; end_low = is.end_low; end_high = omega (arith, is.end_high, is.size_high); count = is.count; reserved = is.reserved; walked = is.walked });
}

pub some_header : (words : List ℕ) (a : ℕ) (h : Header) → header_at words a ≡ Some h → is_start words a ≡ true
some_header words a h e = from (block_at words a) refl e
  where
    from : (o : Option Block) → block_at words a ≡ o → header_of o ≡ Some h → is_some (block_at words a) ≡ true
    from None is wrong = absurd (let f : None ≡ Some h = wrong in cc)
    from (Some b) is _ = ap is_some is

-- an object that starts behind a walk is the next one
next_of_start : (words : List ℕ) (a : ℕ) (h : Header) → IsSeen (length words) words → IsOk (walk_words words) → header_at words a ≡ Some h → IsNext a words h
next_of_start words a h whole ok e =
    let there = some_of (block_at words a) (some_header words a h e) in
    let st = stands_in words a there.0 ok there.1 in
    let same : there.0.header ≡ h = (let f : Some there.0.header ≡ Some h = ap header_of (sym there.1) ∙ e in cc) in
    let bound : length (take (length words) words) ≤ 4294967295 = whole.space.end_high in
    subst (IsNext a words) same (record { header = st.header; within = st.fits; bound = omega (arith, st.fits, bound, length-take (length words) words) })

-- a step that changes what is seen alone
seen_keeps : (size : ℕ) (s : St) (r : IsConcurrent size s) (k id : ℕ) (v : Known) (c : List (ℕ × RootWords)) (seen : List ℕ) → get_elem? s.views id ≡ some v → v.copies ≡ true
    → ComesFromSeen seen r.mine → IsConcurrent size (stepped s k (get_or s.words k 0) id c (record v { seen = seen }) keeps)
seen_keeps size s r k id v c seen here copies told =
    subst (λ (ws : List ℕ). IsConcurrent size (record { words = ws; homes = s.homes; views = set s.views id (record v { seen = seen }) })) (sym (set-get_or s.words k 0)) (record {
      mine = r.mine;
      theirs = r.theirs;
      seen = seen;
      writer = r.writer;
      copier = r.copier;
      wide = r.wide;
      sized = r.sized;
      older = r.older;
      now = r.now;
      free = r.free;
      space = r.space;
      closed = r.closed;
      wanted = r.wanted;
      opened = r.opened;
      carries = r.carries;
      fits = r.fits;
      rests = r.rests;
      seats = seat_set (Seated r.writer r.copier r.mine r.theirs) s.views id (record v { seen = seen }) (r.seats id v here) (λ j u other e. r.seats j u e);
      told = told;
      shown = shown_anew seen r.writer r.copier id r.mine r.theirs s.views v (record v { seen = seen }) here copies refl r.seats;
    })

-- ---- a field

module _ (size : ℕ) (s : St) (r : IsConcurrent size s) (seen : List ℕ) (told_of : ComesFromSeen seen r.mine) where
  field_now : (a i : ℕ) → IsSome (field_at seen a i) → slice_index r.mine.space.words (field_place a i) ≡ get_or s.words (field_place a i) 0
  field_now a i has =
      let there : IsSome (field_at r.mine.space.words a i) = subst (λ (z : SpaceWords). IsSome (field_at z.words a i)) (sym told_of.now) (field_stays (seen_space seen r.mine) told_of.events a i told_of.could has) in
      sym (r.now (field_place a i) (field_read r.mine.space.words a i (r.space).walked there).within)

  now_header : (a : ℕ) (h : Header) → header_at seen a ≡ Some h → read_header (get_or s.words a 0) ≡ Some h
  now_header a h has = from (block_at r.mine.space.words a) refl
      (subst (λ (z : SpaceWords). header_at z.words a ≡ Some h) (sym told_of.now) (header_stays (seen_space seen r.mine) told_of.events a h told_of.could has))
    where
      from : (o : Option Block) → block_at r.mine.space.words a ≡ o → header_of o ≡ Some h → read_header (get_or s.words a 0) ≡ Some h
      from None e wrong = absurd (let f : None ≡ Some h = wrong in cc)
      from (Some b) e is = let st = stands_in r.mine.space.words a b (r.space).walked e in ap read_header (r.now a (omega (arith, st.fits))) ∙ st.header ∙ is

header_now : (size : ℕ) (s : St) (r : IsConcurrent size s) (seen : List ℕ) → r.seen ≡ seen → (a : ℕ) (h : Header) → header_at seen a ≡ Some h → read_header (get_or s.words a 0) ≡ Some h
header_now size s r seen is = now_header size s r seen (subst (λ ws. ComesFromSeen ws r.mine) is r.told)

looks_rule : (slots size id : ℕ) (me : Sat) (a i : ℕ) → me.0.copies ≡ true → IsSome (field_at me.0.seen a i)
    → Allows (IsConcurrent size) slots id me (field_place a i) (λ x. x) (tells_look (step slots (field_place a i) 0 0 none) me)
looks_rule slots size id me a i copies has s r _ seat _ =
    let seen : r.seen ≡ me.0.seen = sym (r.shown id me.0 seat copies) in
    let k : ℕ = field_place a i in
    let y : ℕ = get_or s.words k 0 in
    let told : ComesFromSeen me.0.seen r.mine = subst (λ ws. ComesFromSeen ws r.mine) seen r.told in (
      record me.0 { seen = slice_set me.0.seen k y },
      keeps,
      tt,
      seen_keeps size s r k id me.0 me.1 (slice_set me.0.seen k y) seat copies
          (subst (λ z. ComesFromSeen (slice_set me.0.seen k z) r.mine) (field_now size s r me.0.seen told a i has) (look_told me.0.seen r.mine a i told has)),
      λ b j _ _. refl,
    )

-- the same for callers, who have the place by an equation
pub looks_at : (slots size id : ℕ) (me : Sat) (a i k : ℕ) → k ≡ field_place a i → me.0.copies ≡ true → IsSome (field_at me.0.seen a i)
    → Allows (IsConcurrent size) slots id me k (λ x. x) (tells_look (step slots k 0 0 none) me)
looks_at slots size id me a i k is copies has = subst (λ (z : ℕ). Allows (IsConcurrent size) slots id me z (λ x. x) (tells_look (step slots z 0 0 none) me)) (sym is) (looks_rule slots size id me a i copies has)

-- the object of which the collector has a replica
original_block : (size : ℕ) (s : St) (r : IsConcurrent size s) (q : Replica) → In q r.theirs.replicas
    → (b : Block) × (block_at r.mine.space.words q.original ≡ Some b) × (b.header ≡ record { raw = q.object.raw; kind = q.object.kind; len = length q.object.fields })
original_block size s r q there =
    let words : List ℕ = r.mine.space.words in
    let rep = (r.opened).belongs.replicas q there in
    let b = block_is (block_at words q.original) rep.original (sym (object_found words q.original) ∙ rep.found) in
    let raw : b.0.header.raw ≡ q.object.raw = ap (λ (x : Object). x.raw) b.2 ∙ sym rep.raw in
    let kind : b.0.header.kind ≡ q.object.kind = ap (λ (x : Object). x.kind) b.2 ∙ sym rep.kind in
    let len : b.0.header.len ≡ length q.object.fields = sym (fields_counted words q.original b.0 (r.space).walked b.1) ∙ ap (λ (x : Object). length x.fields) b.2 ∙ sym rep.len in
    (b.0, b.1, λ i. record { raw = raw i; kind = kind i; len = len i })

original_read : (size : ℕ) (s : St) (r : IsConcurrent size s) (seen : List ℕ) → r.seen ≡ seen → (k : ℕ) (q : Replica) → In q r.theirs.replicas → q.original ≡ k → IsOriginal seen (get_or s.words k 0) q
original_read size s r seen is k q there at =
    let words : List ℕ = r.mine.space.words in
    let b = original_block size s r q there in
    let st = stands_in words q.original b.0 (r.space).walked b.1 in
    let told : ComesFromSeen seen r.mine = subst (λ ws. ComesFromSeen ws r.mine) is r.told in
    record {
      header = ap (λ n. read_header (get_or s.words n 0)) (sym at) ∙ (ap read_header (r.now q.original (let f = st.fits in omega arith)) ∙ st.header ∙ ap (λ (h : Header). Some h) b.2);
      start = λ low. starts_back (seen_space seen r.mine) told.events told.could q.original low (ap (λ (z : SpaceWords). is_start z.words q.original) (sym told.now) ∙ ap is_some b.1);
    }

pub headers_rule : (slots size k id : ℕ) (me : Sat) → me.0.copies ≡ true → Allows (IsConcurrent size) slots id me k (λ x. x) (tells_header (step slots k 0 0 none) me)
headers_rule slots size k id me copies s r _ seat _ = (
  me.0,
  keeps,
  tt,
  same size s k id me.1 me.0 seat r,
  (
    refl,
    λ h has. header_now size s r me.0.seen (sym (r.shown id me.0 seat copies)) k h has,
    λ q there at. original_read size s r me.0.seen (sym (r.shown id me.0 seat copies)) k q
        (subst (λ (t : Theirs). In q t.replicas) ((r.seats id me.0 seat).1 copies).1 there) at,
  ),
)

-- ---- the walk goes on

-- what a load behind n words sees
abbrev Sees : (size : ℕ) (s : St) (k id : ℕ) (me : Sat) → Type 0
Sees size s k id me = (w : Known) × IsConcurrent size (stepped s k (get_or s.words k 0) id me.1 w keeps) × (IsSeen k me.0.seen → (get_or s.words k 0 ≡ 0 → SeesEnd k me (w, me.1)) × (get_or s.words k 0 ≢ 0 → SeesNext k (get_or s.words k 0) me (w, me.1)))

module _ (size : ℕ) (s : St) (r : IsConcurrent size s) (k id : ℕ) (me : Sat) (seat : get_elem? s.views id ≡ some me.0) (copies : me.0.copies ≡ true) where
  is_seen : r.seen ≡ me.0.seen
  is_seen = sym (r.shown id me.0 seat copies)

  told_here : ComesFromSeen me.0.seen r.mine
  told_here = subst (λ ws. ComesFromSeen ws r.mine) is_seen r.told

  whole_here : IsSeen (length me.0.seen) me.0.seen
  whole_here = whole_seen (seen_space me.0.seen r.mine) (seen_is_space (seen_space me.0.seen r.mine) told_here.events told_here.could)

  -- the words that were seen fit in the space
  fits_seen : (seen : List ℕ) → ComesFromSeen seen r.mine → length seen ≤ me.0.theirs.old
  fits_seen seen told =
      let high : length seen ≤ r.mine.space.size = (seen_is_space (seen_space seen r.mine) told.events told.could).end_high in
      let old : me.0.theirs.old ≡ size = ap (λ (t : Theirs). t.old) ((r.seats id me.0 seat).1 copies).1 ∙ r.older in
      let sized = r.sized in omega arith

  -- a word below the end is a header where an object starts
  no_zero : (h : Header) → read_header (get_or s.words k 0) ≡ Some h → get_or s.words k 0 ≡ 0 → ⊥
  no_zero h is zero = let no : None ≡ Some h = sym (ap read_header zero) ∙ is in cc

  known_object : k < length me.0.seen → Sees size s k id me
  known_object less = (
    me.0,
    same size s k id me.1 me.0 seat r,
    λ upto.
        let h = start_there k me.0.seen upto whole_here less in
        let read = header_now size s r me.0.seen is_seen k h.0 h.2 in (
          λ zero. absurd (no_zero h.0 read zero),
          λ _. record {
            header = h.0;
            more = [];
            same = ap (λ ws. seeing ws me) (sym (append-nil me.0.seen));
            read = read;
            next = subst (λ ws. IsNext k ws h.0) (sym (append-nil me.0.seen)) h.1;
            whole = subst (λ ws. IsSeen (length ws) ws) (sym (append-nil me.0.seen)) whole_here;
            fits = subst (λ ws. length {A = ℕ} ws ≤ me.0.theirs.old) (sym (append-nil me.0.seen)) (fits_seen me.0.seen told_here);
            starts = λ a start _. subst (λ ws. is_start ws a ≡ true) (append-nil me.0.seen) start;
          },
        ),
  )

  new_object : k ≡ length me.0.seen → length me.0.seen < length r.mine.space.words → Sees size s k id me
  new_object at less =
      let f = see_told me.0.seen r.mine told_here less in
      let more : List ℕ = block_words 0 (fresh_block f.0) in
      let seen : List ℕ = me.0.seen ++ more in
      let space : IsSpace (seen_space seen r.mine) = seen_is_space (seen_space seen r.mine) f.1.events f.1.could in
      let whole : IsSeen (length seen) seen = whole_seen (seen_space seen r.mine) space in
      let there : header_at seen k ≡ Some f.0 = ap (header_at seen) at ∙ f.2 in (
        record me.0 { seen = seen },
        seen_keeps size s r k id me.0 me.1 seen seat copies f.1,
        λ upto. (
          λ zero. absurd (no_zero f.0 (now_header size s r seen f.1 k f.0 there) zero),
          λ _. record {
            header = f.0;
            more = more;
            same = refl;
            read = now_header size s r seen f.1 k f.0 there;
            next = next_of_start seen k f.0 whole space.walked there;
            whole = whole;
            fits = fits_seen seen f.1;
            starts = λ a start less. ⊎_elim
                (λ (e : length me.0.seen ≡ a). absurd (omega arith))
                (λ before. before)
                (made_start_back (seen_space me.0.seen r.mine) f.0 f.3 a start);
          },
        ),
      )

  nothing : length r.mine.space.words ≤ k → k < size → Sees size s k id me
  nothing past inside = (
    me.0,
    same size s k id me.1 me.0 seat r,
    λ upto. (
      λ zero. record {
        same = refl;
        originals = λ q there. low_original q (subst (λ (t : Theirs). In q t.replicas) ((r.seats id me.0 seat).1 copies).1 there);
        words = λ writes. subst (λ (m : Mine). length m.space.words ≤ k) (sym ((r.seats id me.0 seat).0 writes).1) past;
      },
      λ other. absurd (other (r.free k past inside)),
    ),
  )
    where
      low_original : (q : Replica) → In q r.theirs.replicas → q.original < k
      low_original q there =
          let b = original_block size s r q there in
          let f = (stands_in r.mine.space.words q.original b.0 (r.space).walked b.1).fits in omega arith

  behind_seen : length me.0.seen < k → Sees size s k id me
  behind_seen past = (me.0, same size s k id me.1 me.0 seat r, λ upto. absurd (omega (arith, past, upto.within)))

  sees_at : k < size → Sees size s k id me
  sees_at inside = ⊎_elim
      (λ less. known_object less)
      (λ past. ⊎_elim
      (λ less. ⊎_elim (λ at. new_object at (omega (arith, at, less))) (λ other. behind_seen (omega (arith, past, other_than k (length me.0.seen) past other))) (cases_eq k (length me.0.seen)))
      (λ end. nothing end inside)
      (cases_lt k (length r.mine.space.words)))
      (cases_lt k (length me.0.seen))
    where
      other_than : (a b : ℕ) → b ≤ a → (a ≡ b → ⊥) → b < a
      other_than a b low other = ⊎_elim (λ less. less) (λ more. absurd (other (omega (arith, low, more)))) (cases_lt b a)

pub sees_rule : (slots size k id : ℕ) (me : Sat) → me.0.copies ≡ true → k < size → Allows (IsConcurrent size) slots id me k (λ x. x) (tells_see (step slots k 0 0 none) me)
sees_rule slots size k id me copies inside s r _ seat _ =
    let w = sees_at size s r k id me seat copies inside in
    (w.0, keeps, tt, w.1, w.2)
