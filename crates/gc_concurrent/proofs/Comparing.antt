-- The collector writes a field or places a replica, and its standing checker goes along.
use Rattle.std.proofs.Common.{◌≡◌, ℕ, ◌+◌, ◌<◌, true, false, suc, map, List, [], ◌∷◌, replicate, ◌++◌, length, Some, is_some, refl, ap, sym, ◌∙◌, subst, ⊎_elim, arith}
use Rattle.std.specs.Prelude.{slice_index, slice_set, IsOk, IsSome}
use Rattle.std.proofs.Math.Logic.{∥∥₁_elim}
use Rattle.std.proofs.Props.{props}
use Rattle.std.proofs.lemmas.Bool.{cases_Bool}
use Rattle.std.proofs.lemmas.List.{get_or-set_same, length-replicate}
use Rattle.gc_words.specs.Word.{header_word, read_header}
use Rattle.gc_words.specs.Image.{header_at, field_at, walk_words}
use Rattle.gc_words.specs.Layout.{field_place, link_place}
use Rattle.gc_words.specs.Space.{SpaceWords, IsSpace, end_of, with_field_at, with_link, with_object}
use Rattle.gc_words.specs.declared.header.Header.{Header}
use Rattle.gc_words.proofs.Public.{field_read, field_written, header_read, written_back}
use Rattle.gc_monitor.specs.Tables.{Tables}
use Rattle.gc_model.specs.State.{new_end, objects_end, replica_of}
use Rattle.gc_model.proofs.Public.{placed}
use Rattle.gc_concurrent.specs.declared.copier.Copier.{Copier}
use Rattle.gc_concurrent.specs.Ends.{Known, Theirs, its}
use Rattle.gc_concurrent.specs.Nearing.{ComesNearer}
use Rattle.gc_concurrent.specs.Internal.Copiers.{KeepsSeat, Nears}
use Rattle.gc_concurrent.specs.Internal.Following.{Follows, WroteEach}
use Rattle.gc_concurrent.specs.Internal.Rule.{CatchesUp, Loose, Sat, StartsThere, seeing}
use Rattle.gc_concurrent.proofs.Told.{put_field}
use Rattle.gc_concurrent.proofs.Seeing.{some_header, whole_seen}
use Rattle.gc_concurrent.proofs.Following.{through, catches_up_follows}
use Rattle.gc_monitor.specs.Telling.{Tells}
use Rattle.gc_monitor.specs.Watch.{IsSeen}
use Rattle.gc_monitor.specs.Events.{Freed, flipped_tables, opening_tables}
use Rattle.gc_monitor.proofs.Public.{dropped_tells, flipped_tells, opening_tells}
use Rattle.gc_concurrent.proofs.Memory.{end_is}
use Rattle.gc_concurrent.proofs.InHand.{mem}

-- ---- what a step of the checker leaves of a seat

pub theirs_seen : (b c : Sat) (seen : List ℕ) → c ≡ seeing seen b → c.0.theirs ≡ b.0.theirs
theirs_seen b c seen e = ap (λ (m : Sat). m.0.theirs) e

pub copies_seen : (b c : Sat) (seen : List ℕ) → c ≡ seeing seen b → b.0.copies ≡ true → c.0.copies ≡ true
copies_seen b c seen e copies = ap (λ (m : Sat). m.0.copies) e ∙ copies

pub keeps_seen : (a b c : Sat) (seen : List ℕ) → c ≡ seeing seen b → KeepsSeat a b → KeepsSeat a c
keeps_seen a b c seen e k = record {
  writes = ap (λ (m : Sat). m.0.writes) e ∙ k.writes;
  mine = ap (λ (m : Sat). m.0.mine) e ∙ k.mine;
  begun = record { base = ap (λ (m : Sat). m.0.theirs.base) e ∙ k.begun.base; from = ap (λ (m : Sat). m.0.theirs.old) e ∙ k.begun.from; into = ap (λ (m : Sat). m.0.theirs.size) e ∙ k.begun.into };
  replicas = λ x there. subst (λ (t : Theirs). IsSome (replica_of (its t) x)) (sym (theirs_seen b c seen e)) (k.replicas x there);
  starts = λ writes there. subst (λ (m : Sat). StartsThere m.0.mine m.0.theirs) (sym e) (k.starts writes there);
  holds = ap (λ (m : Sat). m.1) e ∙ k.holds;
}

pub nears_seen : (a b c : Sat) (seen : List ℕ) → c ≡ seeing seen b → Nears a b → Nears a c
nears_seen a b c seen e n = (
  (λ writes. subst (ComesNearer (length a.0.mine.space.words) a.0.theirs) (sym (theirs_seen b c seen e)) (n.0 writes)),
  subst (ComesNearer a.0.theirs.size a.0.theirs) (sym (theirs_seen b c seen e)) n.1,
)

pub loose_seen : (b c : Sat) (seen : List ℕ) → c ≡ seeing seen b → ∥ Loose b.0.theirs ∥₁ → ∥ Loose c.0.theirs ∥₁
loose_seen b c seen e l = subst (λ (t : Theirs). ∥ Loose t ∥₁) (sym (theirs_seen b c seen e)) l

-- a step that sees nothing
pub along_still : (t : Tables) (a b : Sat) (old new : SpaceWords) → b.0.seen ≡ a.0.seen → new ≡ old → ∥ Follows t a.0.seen old.words ∥₁ → ∥ Follows t b.0.seen new.words ∥₁
along_still t a b old new seen space f = subst (λ (z : List ℕ × SpaceWords). ∥ Follows t z.0 z.1.words ∥₁) (λ i. (sym seen i, sym space i)) f

-- ---- a field

-- the header of an object is its first word
pub word_there : (words : List ℕ) (at w : ℕ) (h : Header) → IsOk (walk_words words) → header_at words at ≡ Some h → w ≡ header_word h → slice_index words at ≡ w
word_there words at w h ok found is =
    let r = header_read words at ok (some_header words at h found) in
    let same : r.header ≡ h = (let s : Some r.header ≡ Some h = sym r.found ∙ found in cc) in
    sym (written_back (slice_index words at) r.header r.word).1 ∙ ap header_word same ∙ sym is

pub can_compare : (t : Tables) (seen words : List ℕ) (at w : ℕ) → slice_index words at ≡ w → ∥ Follows t seen words ∥₁ → ∥ ((new : List ℕ) × (slice_index new at ≡ w) × Follows t seen new) ∥₁
can_compare t seen words at w is f = ∥∥₁_elim f (hlevel props) (λ x. ∣ (words, is, x) ∣₁)

pub can_place : (t : Tables) (seen words : List ℕ) → ∥ Follows t seen words ∥₁ → ∥ ((new : List ℕ) × Follows t seen new) ∥₁
can_place t seen words f = ∥∥₁_elim f (hlevel props) (λ x. ∣ (words, x) ∣₁)

pub along_written : (t after : Tables) (seen after_seen : List ℕ) (space new back : SpaceWords) (at i w moved written : ℕ) → IsSpace space → IsSome (field_at space.words at i) → new ≡ with_field_at space at i moved → back ≡ new
    → field_at new.words at i ≡ Some written → slice_index space.words at ≡ w
    → ((ws : List ℕ) → slice_index ws at ≡ w → field_place at i < length ws → ∥ Follows t seen ws ∥₁ → ∥ Follows after after_seen (slice_set ws (field_place at i) written) ∥₁)
    → ∥ Follows t seen space.words ∥₁ → ∥ Follows after after_seen back.words ∥₁
along_written t after seen after_seen space new back at i w moved written is has set same read word told f =
    let p = field_place at i in
    let low : p < length space.words = (field_read space.words at i is.walked has).within in
    let wrote : IsSpace (with_field_at space at i moved) = (field_written space at i moved is has).0 in
    let read' : field_at (with_field_at space at i moved).words at i ≡ Some written = ap (λ (s : SpaceWords). field_at s.words at i) (sym set) ∙ read in
    let there = field_read (with_field_at space at i moved).words at i wrote.walked (ap is_some read') in
    let one : Some written ≡ Some moved = sym read' ∙ there.word ∙ ap (λ n. Some n) (get_or-set_same space.words p moved 0 low) in
    let value : written ≡ moved = cc one in
    subst (λ ws. ∥ Follows after after_seen ws ∥₁) (ap (slice_set space.words p) value ∙ sym (ap (λ (s : SpaceWords). s.words) (same ∙ set))) (told space.words word low f)

-- the field that was written is still there
pub field_again : (space new : SpaceWords) (at i moved : ℕ) → IsSpace space → IsSome (field_at space.words at i) → new ≡ with_field_at space at i moved → IsSome (field_at new.words at i)
field_again space new at i moved is has set = ap (λ (s : SpaceWords). is_some (field_at s.words at i)) set ∙ put_field space at i moved is has at i has

-- ---- a replica

link_behind : (ws rest : List ℕ) (x y v : ℕ) → slice_set (ws ++ x ∷ y ∷ rest) (link_place (length ws)) v ≡ ws ++ x ∷ v ∷ rest
link_behind [] rest x y v = refl
link_behind (w ∷ ws) rest x y v = ap (λ n. slice_set (w ∷ (ws ++ x ∷ y ∷ rest)) n v) (let e : length (w ∷ ws) + 1 ≡ suc (length ws + 1) = omega arith in e) ∙ ap (λ zs. w ∷ zs) (link_behind ws rest x y v)

first_behind : (ws rest : List ℕ) (x : ℕ) → slice_index (ws ++ x ∷ rest) (length ws) ≡ x
first_behind [] rest x = refl
first_behind (w ∷ ws) rest x = first_behind ws rest x

pub along_placed : (t after : Tables) (seen after_seen : List ℕ) (space made : SpaceWords) (h : Header) (w name : ℕ) → made ≡ with_link (with_object space h) (end_of space) name → w ≡ header_word h → read_header w ≡ Some h
    → ((new more : List ℕ) (g : Header) → read_header w ≡ Some g → length more ≡ g.len + 2 → slice_index (new ++ more) (length new) ≡ w → ∥ Follows t seen new ∥₁ → ∥ Follows after after_seen (new ++ more) ∥₁)
    → ∥ Follows t seen space.words ∥₁ → ∥ Follows after after_seen made.words ∥₁
along_placed t after seen after_seen space made h w name is word read told f =
    let zeros : length {A = ℕ} (replicate h.len 0) ≡ h.len = length-replicate h.len 0 in
    let more : List ℕ = header_word h ∷ name ∷ replicate h.len 0 in
    subst (λ ws. ∥ Follows after after_seen ws ∥₁) (sym (ap (λ (s : SpaceWords). s.words) is ∙ link_behind space.words (replicate h.len 0) (header_word h) 0 name))
    (told space.words more h read (omega (arith, zeros)) (first_behind space.words (name ∷ replicate h.len 0) (header_word h) ∙ sym word) f)

-- ---- both ends at hand

pub along_caught : (a : Copier) (v : Known) (after : Tables) → v.seen ≡ a.seat.me.0.seen → v.theirs ≡ a.seat.me.0.theirs → CatchesUp v → (a.standing.lost ≡ true → after.lost ≡ true)
    → (after.lost ≡ false → WroteEach v.mine.log a.standing after) → ∥ Follows after v.mine.space.words a.space.words ∥₁
along_caught a v after seen theirs is lost told =
    through a.standing after v.seen v.mine.space.words a.space.words a.space.words
    (catches_up_follows v a.standing after a.space.words is
    (λ none. let e : new_end (its a.seat.me.0.theirs) ≡ 1 = ap (λ rs. objects_end 1 (map placed rs)) (ap (λ (t : Theirs). t.replicas) (sym theirs) ∙ none) in omega (arith, e, end_is a.seat.me.0.theirs a.space (mem a)))
    lost told)
    (subst (λ ws. ∥ Follows a.standing ws a.space.words ∥₁) (sym seen) a.along)

-- the new space is the mutator's from now on, and the next one is empty
pub flipped_follows : (t after : Tables) (seen : List ℕ) (space : SpaceWords) → IsSpace space → (t.lost ≡ true → after.lost ≡ true) → (after.lost ≡ false → after ≡ flipped_tables t) → ∥ Follows t seen space.words ∥₁
    → ∥ Follows after space.words (0 ∷ []) ∥₁
flipped_follows t after seen space is lost flipped f = through t after seen space.words space.words (0 ∷ []) (λ follows ok.
    let x = follows (⊎_elim (λ (e : t.lost ≡ true). absurd (let wrong : true ≡ false = sym (lost e) ∙ ok in cc)) (λ (e : t.lost ≡ false). e) (cases_Bool t.lost)) in
    subst (λ z. Tells space.words (0 ∷ []) z × IsSeen (length space.words) space.words × (length z.news ≡ 1)) (sym (flipped ok)) (flipped_tells seen space.words t x.0, whole_seen space is, refl)) f

-- the collection begins anew
pub dropped_follows : (t after : Tables) (seen new : List ℕ) → (t.lost ≡ true → after.lost ≡ true) → (after.lost ≡ false → Freed t after) → ∥ Follows t seen new ∥₁ → ∥ Follows after seen (0 ∷ []) ∥₁
dropped_follows t after seen new lost freed f = through t after seen seen new (0 ∷ []) (λ follows ok.
    let x = follows (⊎_elim (λ (e : t.lost ≡ true). absurd (let wrong : true ≡ false = sym (lost e) ∙ ok in cc)) (λ (e : t.lost ≡ false). e) (cases_Bool t.lost)) in
    (dropped_tells seen new t after x.0 (freed ok), x.1, ap (λ (t : Tables). length t.news) (freed ok).rest)) f

-- the first collection begins
pub opening_follows : (space : SpaceWords) (room : ℕ) (t : Tables) → IsSpace space → t ≡ opening_tables room → ∥ Follows t space.words (0 ∷ []) ∥₁
opening_follows space room t is opening = subst (λ z. ∥ Follows z space.words (0 ∷ []) ∥₁) (sym opening) ∣ (λ _. (opening_tells space.words room is.end_low is.reserved, whole_seen space is, refl)) ∣₁

-- the tables have room for more
pub roomy_follows : (t : Tables) (room : ℕ) (seen new : List ℕ) → Follows t seen new → Follows (record t { room = room }) seen new
roomy_follows t room seen new follows fine =
    let f = follows fine in (
      record {
        agree = record { counted = f.0.agree.counted; few = f.0.agree.few; rows = f.0.agree.rows; taken = f.0.agree.taken };
        watches = f.0.watches;
        old_starts = f.0.old_starts;
        new_starts = f.0.new_starts;
      },
      f.1,
      f.2,
    )
