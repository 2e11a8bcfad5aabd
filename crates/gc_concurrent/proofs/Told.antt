-- What happens to the mutator's space since its words were seen.
use Rattle.std.proofs.Common.{◌≡◌, ◌≢◌, ◌⊎◌, inl, inr, ⊎_elim, ℕ, zero, suc, ◌<◌, ◌≤◌, true, false, List, [], ◌∷◌, ◌++◌, length, set, Option, Some, None, is_some, refl, sym, ◌∙◌, ap, subst, arith, length-append, length-set, set-set}
use Rattle.std.specs.Prelude.{slice_get, slice_set, slice_index, IsSome}
use Rattle.std.proofs.lemmas.Bool.{cases_eq, cases_lt, cond-true}
use lib.Seq.{set-get_or}
use Rattle.gc_words.specs.Image.{Block, block_in, block_at, header_of, header_at, field_in, field_at, fresh_block, is_start}
use Rattle.gc_words.specs.Layout.{field_place}
use Rattle.gc_words.specs.Space.{SpaceWords, IsSpace, CanPlace, end_of, with_object, with_field_at, with_link}
use Rattle.gc_words.specs.Spelling.{block_words}
use Rattle.gc_words.specs.declared.header.Header.{Header}
use Rattle.gc_words.proofs.Public.{field_read, field_written, field_block, field_beside, link_written, none_at_end, placed, placed_beside, placed_block}
use Rattle.gc_concurrent.specs.Ends.{Mine}
use Rattle.gc_concurrent.specs.Internal.Rule.{wrote, made}
use Rattle.gc_concurrent.specs.Internal.Told.{Event, Put, Make, after_all, CouldHappen, written_by, seen_space, ComesFromSeen}

-- ---- lists

set_swap : (xs : List ℕ) (p q x y : ℕ) → p ≢ q → set (set xs p x) q y ≡ set (set xs q y) p x
set_swap [] p q x y ne = refl
set_swap (z ∷ xs) zero zero x y ne = absurd (ne refl)
set_swap (z ∷ xs) zero (suc q) x y ne = refl
set_swap (z ∷ xs) (suc p) zero x y ne = refl
set_swap (z ∷ xs) (suc p) (suc q) x y ne = ap (λ ys. z ∷ ys) (set_swap xs p q x y (λ e. ne (ap suc e)))

set_front : (xs ys : List ℕ) (p x : ℕ) → p < length xs → set (xs ++ ys) p x ≡ set xs p x ++ ys
set_front [] ys p x l = absurd (omega arith)
set_front (z ∷ xs) ys zero x l = refl
set_front (z ∷ xs) ys (suc p) x l = ap (λ zs. z ∷ zs) (set_front xs ys p x (omega arith))

set_some : (xs : List ℕ) (j x i : ℕ) → is_some (slice_get xs i) ≡ true → is_some (slice_get (slice_set xs j x) i) ≡ true
set_some [] j x i h = h
set_some (y ∷ ys) zero x zero h = refl
set_some (y ∷ ys) zero x (suc i) h = h
set_some (y ∷ ys) (suc j) x zero h = refl
set_some (y ∷ ys) (suc j) x (suc i) h = set_some ys j x i h

-- ---- a field written

module _ (s : SpaceWords) (c j x : ℕ) (space : IsSpace s) (has : IsSome (field_at s.words c j)) where
  its_block : (b : Block) × (block_at s.words c ≡ Some b)
  its_block = let f = field_read s.words c j space.walked has in (f.block, f.found)

  put_header : (a : ℕ) → header_at (with_field_at s c j x).words a ≡ header_at s.words a
  put_header a = ⊎_elim
      (λ same. let b = its_block in
      ap (header_at (with_field_at s c j x).words) (sym same)
      ∙ ap header_of (field_block s c j x b.0 space has b.1)
      ∙ ap header_of (sym b.1)
      ∙ ap (header_at s.words) same)
      (λ other. ap header_of (field_beside s c j x a space has other))
      (cases_eq c a)

  pub put_field : (a i : ℕ) → IsSome (field_at s.words a i) → IsSome (field_at (with_field_at s c j x).words a i)
  put_field a i some = ⊎_elim
      (λ same. let b = its_block in
      subst (λ a. IsSome (field_at (with_field_at s c j x).words a i)) same
      (ap (λ o. is_some (field_in o i)) (field_block s c j x b.0 space has b.1)
      ∙ set_some b.0.fields j x i (ap (λ o. is_some (field_in o i)) (sym b.1) ∙ ap (λ a. is_some (field_at s.words a i)) same ∙ some)))
      (λ other. ap (λ o. is_some (field_in o i)) (field_beside s c j x a space has other) ∙ some)
      (cases_eq c a)

  put_start : (a : ℕ) → is_start s.words a ≡ true → is_start (with_field_at s c j x).words a ≡ true
  put_start a start = ⊎_elim
      (λ same. let b = its_block in ap (is_start (with_field_at s c j x).words) (sym same) ∙ ap is_some (field_block s c j x b.0 space has b.1))
      (λ other. ap is_some (field_beside s c j x a space has other) ∙ start)
      (cases_eq c a)

-- ---- a link written

module _ (s : SpaceWords) (c x : ℕ) (space : IsSpace s) (start : is_start s.words c ≡ true) where
  link_block : (a : ℕ) → block_at (with_link s c x).words a ≡ block_at s.words a
  link_block a = ap (λ bs. block_in bs a) (link_written s c x space start).1

-- ---- an object made

module _ (s : SpaceWords) (h : Header) (can : CanPlace s h) where
  not_end : (a : ℕ) → is_some (block_at s.words a) ≡ true → end_of s ≡ a → ⊥
  not_end a there e = let no : true ≡ false = sym there ∙ ap (λ a. is_some (block_at s.words a)) (sym e) ∙ ap is_some (none_at_end s can.shaped) in cc

  there_by : (a : ℕ) (o : Option Block) (g : Header) → block_at s.words a ≡ o → header_of o ≡ Some g → is_some (block_at s.words a) ≡ true
  there_by a None g e is = absurd (let no : None ≡ Some g = is in cc)
  there_by a (Some b) g e is = ap is_some e

  make_header : (a : ℕ) (g : Header) → header_at s.words a ≡ Some g → header_at (with_object s h).words a ≡ Some g
  make_header a g is = ap header_of (placed_beside s h a can (not_end a (there_by a (block_at s.words a) g refl is))) ∙ is

  there_field : (a i : ℕ) (o : Option Block) → block_at s.words a ≡ o → is_some (field_in o i) ≡ true → is_some (block_at s.words a) ≡ true
  there_field a i None e is = absurd (let no : false ≡ true = is in cc)
  there_field a i (Some b) e is = ap is_some e

  make_field : (a i : ℕ) → IsSome (field_at s.words a i) → IsSome (field_at (with_object s h).words a i)
  make_field a i some = ap (λ o. is_some (field_in o i)) (placed_beside s h a can (not_end a (there_field a i (block_at s.words a) refl some))) ∙ some

  make_start : (a : ℕ) → is_start s.words a ≡ true → is_start (with_object s h).words a ≡ true
  make_start a start = ap is_some (placed_beside s h a can (not_end a start)) ∙ start

-- ---- after all events

pub seen_is_space : (s : SpaceWords) (es : List Event) → CouldHappen s es → IsSpace s
seen_is_space s [] c = c
seen_is_space s (e ∷ es) c = seen_is_space s es c.1

pub space_after : (s : SpaceWords) (es : List Event) → CouldHappen s es → IsSpace (after_all s es)
space_after s [] could = could
space_after s (Put a i w ∷ es) could = (field_written (after_all s es) a i w (space_after s es could.1) could.0).0
space_after s (Make h ∷ es) could = (placed (after_all s es) h could.0).0

size_after : (s : SpaceWords) (es : List Event) → (after_all s es).size ≡ s.size
size_after s [] = refl
size_after s (Put a i w ∷ es) = size_after s es
size_after s (Make h ∷ es) = size_after s es

pub long_after : (s : SpaceWords) (es : List Event) → length s.words ≤ length (after_all s es).words
long_after s [] = omega arith
long_after s (Put a i w ∷ es) = omega (arith, long_after s es, length-set (after_all s es).words (field_place a i) w)
long_after s (Make h ∷ es) = omega (arith, long_after s es, length-append (after_all s es).words (block_words 0 (fresh_block h)))

pub header_stays : (s : SpaceWords) (es : List Event) (a : ℕ) (g : Header) → CouldHappen s es → header_at s.words a ≡ Some g → header_at (after_all s es).words a ≡ Some g
header_stays s [] a g could is = is
header_stays s (Put c j w ∷ es) a g could is = put_header (after_all s es) c j w (space_after s es could.1) could.0 a ∙ header_stays s es a g could.1 is
header_stays s (Make h ∷ es) a g could is = make_header (after_all s es) h could.0 a g (header_stays s es a g could.1 is)

pub field_stays : (s : SpaceWords) (es : List Event) (a i : ℕ) → CouldHappen s es → IsSome (field_at s.words a i) → IsSome (field_at (after_all s es).words a i)
field_stays s [] a i could is = is
field_stays s (Put c j w ∷ es) a i could is = put_field (after_all s es) c j w (space_after s es could.1) could.0 a i (field_stays s es a i could.1 is)
field_stays s (Make h ∷ es) a i could is = make_field (after_all s es) h could.0 a i (field_stays s es a i could.1 is)

-- ---- a field is seen anew

-- the same events, from words with this field
abbrev Replayed : SpaceWords → ℕ → ℕ → ℕ → List Event → Type 0
Replayed s a i y es = CouldHappen (with_field_at s a i y) es
    × ((after_all (with_field_at s a i y) es ≡ after_all s es) ⊎ (after_all (with_field_at s a i y) es ≡ with_field_at (after_all s es) a i y))

replayed_put : (s : SpaceWords) (a i y c j w : ℕ) (es : List Event) → CouldHappen s (Put c j w ∷ es) → IsSome (field_at s.words a i) → Replayed s a i y es → Replayed s a i y (Put c j w ∷ es)
replayed_put s a i y c j w es could has ih = ⊎_elim
    (λ e. ((subst (λ (z : SpaceWords). IsSome (field_at z.words c j)) (sym e) could.0, ih.0), inl (ap (λ z. with_field_at z c j w) e)))
    (λ e. (
      (subst (λ (z : SpaceWords). IsSome (field_at z.words c j)) (sym e) (put_field (after_all s es) a i y (space_after s es could.1) (field_stays s es a i could.1 has) c j could.0), ih.0),
      ⊎_elim
          (λ same. inl (ap (λ z. with_field_at z c j w) e
          ∙ ap (λ ws. record (after_all s es) { words = ws }) (ap (λ p. set (set (after_all s es).words p y) (field_place c j) w) same ∙ set-set (after_all s es).words (field_place c j) y w)))
          (λ other. inr (ap (λ z. with_field_at z c j w) e
          ∙ ap (λ ws. record (after_all s es) { words = ws }) (set_swap (after_all s es).words (field_place a i) (field_place c j) y w other)))
          (cases_eq (field_place a i) (field_place c j)),
    ))
    ih.1

replayed_make : (s : SpaceWords) (a i y : ℕ) (h : Header) (es : List Event) → CouldHappen s (Make h ∷ es) → IsSome (field_at s.words a i) → Replayed s a i y es → Replayed s a i y (Make h ∷ es)
replayed_make s a i y h es could has ih =
    let has' : IsSome (field_at (after_all s es).words a i) = field_stays s es a i could.1 has in
    ⊎_elim
    (λ e. ((subst (λ z. CanPlace z h) (sym e) could.0, ih.0), inl (ap (λ z. with_object z h) e)))
    (λ e. (
      (
        subst (λ z. CanPlace z h) (sym e) (record {
          shaped = (field_written (after_all s es) a i y (space_after s es could.1) has').0;
          header = could.0.header;
          room = omega (arith, could.0.room, length-set (after_all s es).words (field_place a i) y);
        }),
        ih.0,
      ),
      inr (ap (λ z. with_object z h) e
          ∙ ap (λ ws. record (after_all s es) { words = ws }) (sym (set_front (after_all s es).words (block_words 0 (fresh_block h)) (field_place a i) y (field_read (after_all s es).words a i (space_after s es could.1).walked has').within))),
    ))
    ih.1

replayed : (s : SpaceWords) (a i y : ℕ) (es : List Event) → CouldHappen s es → IsSome (field_at s.words a i) → Replayed s a i y es
replayed s a i y [] could has = ((field_written s a i y could has).0, inr refl)
replayed s a i y (Put c j w ∷ es) could has = replayed_put s a i y c j w es could has (replayed s a i y es could.1 has)
replayed s a i y (Make h ∷ es) could has = replayed_make s a i y h es could has (replayed s a i y es could.1 has)

-- a field of the words that were seen becomes what it is now
pub look_told : (seen : List ℕ) (m : Mine) (a i : ℕ) → ComesFromSeen seen m → IsSome (field_at seen a i) → ComesFromSeen (slice_set seen (field_place a i) (slice_index m.space.words (field_place a i))) m
look_told seen m a i is has =
    let s = seen_space seen m in
    let p = field_place a i in
    let y = slice_index m.space.words p in
    let r = replayed s a i y is.events is.could has in
    record {
      events = is.events;
      could = r.0;
      now = is.now ∙ sym (⊎_elim
          (λ e. e)
          (λ e. e ∙ ap (λ ws. record (after_all s is.events) { words = ws })
          (ap (λ (w : SpaceWords). set (after_all s is.events).words p (slice_index w.words p)) is.now ∙ set-get_or (after_all s is.events).words p 0))
          r.1);
      logged = is.logged;
    }

-- ---- an object is seen

-- the events without the first object that was made
pub record MadeFirst (s : SpaceWords) (es : List Event) : Type 0 where
  pub header : Header
  pub can : CanPlace s header
  pub rest : List Event
  pub could : CouldHappen (with_object s header) rest
  pub same : after_all (with_object s header) rest ≡ after_all s es
  pub written : written_by rest ≡ written_by es

-- writes alone, with an object made before them
puts_behind : (s : SpaceWords) (h : Header) (es : List Event) → CanPlace s h → CouldHappen s es → length (after_all s es).words ≡ length s.words
    → CouldHappen (with_object s h) es × (after_all (with_object s h) es ≡ with_object (after_all s es) h)
puts_behind s h [] can could none = ((placed s h can).0, refl)
puts_behind s h (Make g ∷ es) can could none = absurd (omega (arith, long_after s es, length-append (after_all s es).words (block_words 0 (fresh_block g)), none))
puts_behind s h (Put c j w ∷ es) can could none =
    let same : length (after_all s es).words ≡ length s.words = omega (arith, none, length-set (after_all s es).words (field_place c j) w) in
    let ih = puts_behind s h es can could.1 same in
    let space = space_after s es could.1 in
    let can' : CanPlace (after_all s es) h = record { shaped = space; header = can.header; room = omega (arith, can.room, size_after s es, same) } in (
      (subst (λ (z : SpaceWords). IsSome (field_at z.words c j)) (sym ih.1) (make_field (after_all s es) h can' c j could.0), ih.0),
      ap (λ z. with_field_at z c j w) ih.1
          ∙ ap (λ ws. record (after_all s es) { words = ws }) (set_front (after_all s es).words (block_words 0 (fresh_block h)) (field_place c j) w (field_read (after_all s es).words c j space.walked could.0).within),
    )

made_first : (s : SpaceWords) (es : List Event) → CouldHappen s es → length s.words < length (after_all s es).words → MadeFirst s es
made_first s [] could less = absurd (omega arith)
made_first s (Put c j w ∷ es) could less =
    let ih = made_first s es could.1 (omega (arith, less, length-set (after_all s es).words (field_place c j) w)) in
    record {
      header = ih.header;
      can = ih.can;
      rest = Put c j w ∷ ih.rest;
      could = (subst (λ (z : SpaceWords). IsSome (field_at z.words c j)) (sym ih.same) could.0, ih.could);
      same = ap (λ z. with_field_at z c j w) ih.same;
      written = ap (λ xs. xs ++ (c, j) ∷ []) ih.written;
    }
made_first s (Make g ∷ es) could less = ⊎_elim
    (λ more.
    let ih = made_first s es could.1 more in
    record {
      header = ih.header;
      can = ih.can;
      rest = Make g ∷ ih.rest;
      could = (subst (λ z. CanPlace z g) (sym ih.same) could.0, ih.could);
      same = ap (λ z. with_object z g) ih.same;
      written = ih.written;
    })
    (λ past.
    let same : length (after_all s es).words ≡ length s.words = omega (arith, past, long_after s es) in
    let can : CanPlace s g = record { shaped = seen_is_space s es could.1; header = could.0.header; room = omega (arith, could.0.room, size_after s es, same) } in
    let b = puts_behind s g es can could.1 same in
    record { header = g; can = can; rest = es; could = b.0; same = b.1; written = refl })
    (cases_lt (length s.words) (length (after_all s es).words))

-- where there are more words than were seen, the next object is seen as it was made
pub see_told : (seen : List ℕ) (m : Mine) → ComesFromSeen seen m → length seen < length m.space.words
    → (h : Header) × ComesFromSeen (seen ++ block_words 0 (fresh_block h)) m × (header_at (seen ++ block_words 0 (fresh_block h)) (length seen) ≡ Some h) × CanPlace (seen_space seen m) h
see_told seen m is less =
    let s = seen_space seen m in
    let f = made_first s is.events is.could (subst (λ (w : SpaceWords). length seen < length w.words) is.now less) in (
      f.header,
      record { events = f.rest; could = f.could; now = is.now ∙ sym f.same; logged = λ e. f.written ∙ is.logged e },
      ap header_of (placed_block s f.header f.can),
      f.can,
    )

-- ---- a mutator's step

pub put_told : (seen : List ℕ) (m : Mine) (a i w : ℕ) → IsSome (field_at m.space.words a i) → ComesFromSeen seen m → ComesFromSeen seen (wrote a i w m)
put_told seen m a i w has is = record {
  events = Put a i w ∷ is.events;
  could = (subst (λ (z : SpaceWords). IsSome (field_at z.words a i)) is.now has, is.could);
  now = ap (λ z. with_field_at z a i w) is.now;
  logged = λ e. ap (λ xs. xs ++ (a, i) ∷ []) (is.logged e) ∙ sym (cond-true m.logs (m.log ++ (a, i) ∷ []) m.log e);
}

pub made_told : (seen : List ℕ) (m : Mine) (h : Header) → CanPlace m.space h → ComesFromSeen seen m → ComesFromSeen seen (made h m)
made_told seen m h can is = record {
  events = Make h ∷ is.events;
  could = (subst (λ z. CanPlace z h) is.now can, is.could);
  now = ap (λ z. with_object z h) is.now;
  logged = is.logged;
}

-- where both ends are at hand, all words can be seen as they are
pub caught_up : (m : Mine) → IsSpace m.space → m.log ≡ [] → ComesFromSeen m.space.words m
caught_up m space none = record { events = []; could = space; now = refl; logged = λ e. sym none }
