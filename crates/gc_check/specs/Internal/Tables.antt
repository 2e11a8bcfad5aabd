-- The contents of the checker's tables, and the faults that they find one by one.
use Rattle.std.specs.Prelude.{◌≡◌, ℕ, ◌+◌, ◌/◌, ◌<◌, ◌≤◌, ◌^◌, ◌==◌, nat_le, if◌then◌else◌, not, List, length, map, slice_index, Option, None, IsOk}
use Rattle.std.specs.Bool.{then_some}
use Rattle.std.specs.List.{list_any, range_with_len}
use Rattle.gc_graph.specs.Correspond.{paired}
use Rattle.gc_words.specs.Image.{Image, walk_words, is_start}
use Rattle.gc_words.specs.Fault.{◌or_else◌, table_fault}
use Rattle.gc_words.specs.Marks.{is_marked}
use Rattle.gc_words.specs.declared.refusal.Refusal.{Refusal}
use Rattle.gc_words.specs.declared.refusal.Refusal.TheVariants.{OldNotStart, NewNotStart, NotRising, Twice}
use Rattle.gc_cert.specs.Grammar.{CertifiedPair}

-- ---- a mark for each place

-- exactly the places at which objects start are marked
pub record MarksStarts (words bits : List ℕ) : Type 0 where
  pub len : length bits ≡ length words / 64 + 1
  pub walked : IsOk (walk_words words)
  pub starts : (place : ℕ) → is_marked bits place ≡ is_start words place

-- ---- a number for each object

-- a table with an entry for two words
pub record HasEntries (words entries : List ℕ) : Type 0 where
  pub len : length entries ≡ length words / 2 + 1
  pub walked : IsOk (walk_words words)

-- the entry of the object that starts at this address, or 0
abbrev pub entry_at : List ℕ → List ℕ → ℕ → ℕ
entry_at words entries place = if is_start words place then slice_index entries (place / 2) else 0

-- the entries at all addresses
unfoldable pub by_address : List ℕ → List ℕ → List ℕ
by_address words entries = map (entry_at words entries) (range_with_len 0 (length words))

-- ---- partners

-- The entry at an old address is the new address that is paired with it, or 0.
pub record HoldsPartners (partners : List ℕ) (pairs : List (ℕ × ℕ)) : Type 0 where
  pub pair : (a b : ℕ) → 1 ≤ b → (slice_index partners a == b) ≡ paired pairs a b
  pub taken : (a : ℕ) → not (slice_index partners a == 0) ≡ list_any (λ q. q.0 == a) pairs

-- the fault of pair k's addresses, given the partners of the pairs before it and the last new address among them
abbrev pub entry_fault : Image → Image → List ℕ → ℕ → ℕ → ℕ × ℕ → Option Refusal
entry_fault old new partners last k p =
    then_some (not (is_start old.words p.0)) (OldNotStart k)
    or_else then_some (not (is_start new.words p.1)) (NewNotStart k)
    or_else then_some (nat_le p.1 last) (NotRising k)
    or_else then_some (not (slice_index partners p.0 == 0)) (Twice k)

-- a `u32` can count the pairs, their addresses have no fault, and the table holds the partners of these pairs
pub record HasTables (checked : CertifiedPair) (entries : List ℕ) : Type 0 where
  pub few : length checked.pairs < 2 ^ 32
  pub placed : table_fault checked.old checked.new checked.pairs ≡ None
  pub fits : HasEntries checked.old.words entries
  pub partners : HoldsPartners (by_address checked.old.words entries) checked.pairs
