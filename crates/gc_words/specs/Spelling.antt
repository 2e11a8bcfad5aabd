-- The words of a space, built from its objects and their links.
use Rattle.std.specs.Prelude.{ℕ, List, ◌∷◌, slice_index}
use Rattle.std.specs.List.{flat_map}
use Rattle.gc_words.specs.Layout.{link_place}
use Rattle.gc_words.specs.Word.{header_word}
use Rattle.gc_words.specs.Image.{Block}

-- the words of an object: its header, its link, its fields
abbrev pub block_words : ℕ → Block → List ℕ
block_words link b = header_word b.header ∷ link ∷ b.fields

-- objects back to back; the object that starts at a place has the link `links place`
abbrev pub spelled_from : (ℕ → ℕ) → List (ℕ × Block) → List ℕ
spelled_from links entries = flat_map (λ entry. block_words (links entry.0) entry.1) entries

-- the words of a space with these objects and links
abbrev pub spelled : (ℕ → ℕ) → List (ℕ × Block) → List ℕ
spelled links entries = 0 ∷ spelled_from links entries

abbrev pub no_links : ℕ → ℕ
no_links place = 0

-- the link word of the object that starts at this address
abbrev pub link_at : List ℕ → ℕ → ℕ
link_at words place = slice_index words (link_place place)
