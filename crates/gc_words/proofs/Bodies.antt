-- What the code of a space's calls reads and writes.
use Rattle.std.proofs.lemmas.Grind.{common_steps}
use Rattle.std.proofs.Common.{◌≡◌, ℕ, ◌+◌, ◌-◌, ◌<◌, ◌≤◌, true, List, [], ◌∷◌, ◌++◌, length, get_or, take, drop, replicate, Some, None, sym, ◌∙◌, ap, subst, arith}
use Rattle.std.specs.Prelude.{slice_index, IsSome, IsOk, nat_le}
use Rattle.std.proofs.lemmas.Bool.{cond-true, le-leb}
use Rattle.std.proofs.lemmas.List.{get_or_read, take_at}
use Rattle.gc_words.specs.Word.{IsHeader, header_word}
use Rattle.gc_words.specs.Image.{Block, walk_words, header_of, header_at, fresh_block, blocks, block_at, is_start, field_at, set_block}
use Rattle.gc_words.specs.Spelling.{spelled, no_links}
use Rattle.gc_words.specs.Layout.{field_place, link_place, next_place}
use Rattle.gc_words.specs.Space.{SpaceWords, IsSpace, end_of, HasRoomFor, with_object, with_word, without_links}
use Rattle.gc_words.specs.declared.header.Header.{Header}
use Rattle.gc_graph.specs.Machine.{object_words}
use Rattle.gc_words.specs.Walking.{next_of, next_after}
use Rattle.gc_words.specs.Internal.Walking.{StandsIn}
use Rattle.gc_words.proofs.Starts.{stands_in}
use Rattle.gc_words.proofs.Writes.{some_of, HeaderRead, header_read, FieldRead, field_read, placed, field_written, link_written}
use Rattle.gc_words.proofs.Blocks.{placed_block, written_word}
use Rattle.gc_words.proofs.Spelled.{cleared, length_relinked}

-- ---- reading a word: t is what a caller sees of the fields s

pub header_seen : (s t : SpaceWords) (a : ℕ) → s ≡ t → IsSpace s → is_start t.words a ≡ true → HeaderRead t.words a
header_seen s t a same space start = header_read t.words a (subst IsSpace same space).walked start

pub field_seen : (s t : SpaceWords) (a i : ℕ) → s ≡ t → IsSpace s → IsSome (field_at t.words a i) → FieldRead t.words a i
field_seen s t a i same space some = field_read t.words a i (subst IsSpace same space).walked some

pub word_seen : (s t : SpaceWords) (p x : ℕ) → s ≡ t → p < length t.words → x ≡ get_or s.words p x → x ≡ slice_index t.words p
word_seen s t p x same inside read = grind (arith, common_steps, get_or_read)

-- ---- the place after an object

pub record NextRead (words : List ℕ) (a : ℕ) : Type 0 where
  pub next : ℕ
  pub found : next_of words a ≡ Some next
  pub place : (h : Header) → header_at words a ≡ Some h → next ≡ next_place a h.len
  pub inside : a < length words
  pub within : next ≤ length words

next_read : (words : List ℕ) (a : ℕ) → IsOk (walk_words words) → is_start words a ≡ true → NextRead words a
next_read words a ok start =
    let b : (b : Block) × (block_at words a ≡ Some b) = some_of (block_at words a) start in
    let s : StandsIn words a b.0 = stands_in words a b.0 ok b.1 in
    let len : ℕ = b.0.header.len in
    record {
      next = next_place a len;
      found = ap (λ o. next_after a o (length words - a)) s.header ∙ cond-true (nat_le (object_words len) (length words - a)) (Some (next_place a len)) None (le-leb _ _ (omega arith));
      place = λ h e. let same : b.0.header ≡ h = (let both : Some b.0.header ≡ Some h = sym (ap header_of b.1) ∙ e in cc) in ap (λ (h : Header). next_place a h.len) same;
      inside = omega arith;
      within = s.fits;
    }

pub next_seen : (s t : SpaceWords) (a : ℕ) → s ≡ t → IsSpace s → is_start t.words a ≡ true → NextRead t.words a
next_seen s t a same space start = next_read t.words a (subst IsSpace same space).walked start

-- ---- writing a word at a place that the code has computed

pub field_at_place : (s t : SpaceWords) (a i w p : ℕ) → s ≡ t → p ≡ field_place a i → IsSpace s → IsSome (field_at t.words a i)
    → IsSpace (with_word s p w) × (blocks (with_word s p w).words ≡ set_block (blocks t.words) a i w) × (field_at (with_word s p w).words a i ≡ Some w)
field_at_place s t a i w p same place space some = grind (arith, common_steps, field_written, written_word)

pub link_at_place : (s t : SpaceWords) (a w p : ℕ) → s ≡ t → p ≡ link_place a → IsSpace s → is_start t.words a ≡ true
    → IsSpace (with_word s p w) × (blocks (with_word s p w).words ≡ blocks t.words)
link_at_place s t a w p same place space start = grind (arith, common_steps, link_written)

-- ---- placing an object: push its header word, then make room for its other words

pub record Places (s t : SpaceWords) (h : Header) : Type 0 where
  pub space : IsSpace s
  pub objects : blocks s.words ≡ blocks t.words ++ (end_of t, fresh_block h) ∷ []
  pub object : block_at s.words (end_of t) ≡ Some (fresh_block h)
  pub words : s ≡ with_object t h

pub object_placed : (s t : SpaceWords) (pushed new : List ℕ) (h : Header) (n : ℕ) → s ≡ t → IsSpace s → IsHeader h → HasRoomFor t h.len
    → pushed ≡ s.words ++ header_word h ∷ [] → n ≡ h.len + 1 → new ≡ pushed ++ replicate n 0 → Places (record { size = s.size; words = new }) t h
object_placed s t pushed new h n same space is room push count made = grind (arith, common_steps, placed, placed_block)

-- ---- clearing links in the vector of words

pub record Clears (s t : SpaceWords) : Type 0 where
  pub space : IsSpace s
  pub objects : blocks s.words ≡ blocks t.words
  pub words : s ≡ without_links t

pub links_cleared : (s t : SpaceWords) (lent new : List ℕ) (n : ℕ) → s ≡ t → IsSpace s → lent ≡ s.words → n ≡ length s.words → new ≡ spelled no_links (blocks lent)
    → Clears (record { size = s.size; words = take n (new ++ drop (length new) s.words) }) t
links_cleared s t lent new n same space is count made = grind (arith, common_steps, take_at, cleared, length_relinked)
