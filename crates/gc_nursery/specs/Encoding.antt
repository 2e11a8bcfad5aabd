-- The young objects as an image by themselves, so that a checker of whole images can check a minor collection.
use Rattle.std.specs.Prelude.{◌≡◌, ◌≢◌, ℕ, suc, ◌+◌, ◌-◌, ◌<◌, nat_lt, Bool, true, false, if◌then◌else◌, List, length, map, IsTrue, ⊤}
use Rattle.std.specs.List.{All}
use Rattle.gc_graph.specs.Graph.{Value, Nil, Num, Ref}
use Rattle.gc_words.specs.Word.{value_of, word_of, is_value}
use Rattle.gc_words.specs.Image.{Image, Block}
use Rattle.gc_words.specs.Spelling.{spelled, no_links}
use Rattle.gc_nursery.specs.Minor.{young_blocks}

-- ---- the numbers of old objects

-- `code` gives each old object a number, and no two objects have the same.
pub record IsCode (code : ℕ → ℕ) (base : ℕ) : Type 0 where
  pub apart : (a b : ℕ) → a < base → b < base → code a ≡ code b → a ≡ b

-- the code of an address that is counted from `top`
abbrev pub counted_from : ℕ → ℕ → ℕ
counted_from top a = top + a

-- ---- the image

-- A reference to an old object becomes its number; one to a young object is counted from the base.
abbrev pub encoded_value : (ℕ → ℕ) → ℕ → Value → Value
encoded_value code base Nil = Nil
encoded_value code base (Num n) = Num n
encoded_value code base (Ref a) = if nat_lt a base then Num (code a) else Ref (suc (a - base))

abbrev pub encoded : (ℕ → ℕ) → ℕ → ℕ → ℕ
encoded code base w = word_of (encoded_value code base (value_of w))

abbrev pub encoded_fields : (ℕ → ℕ) → ℕ → Bool → List ℕ → List ℕ
encoded_fields code base true fields = fields
encoded_fields code base false fields = map (encoded code base) fields

abbrev pub encoded_block : (ℕ → ℕ) → ℕ → Block → Block
encoded_block code base b = record b { fields = encoded_fields code base b.header.raw b.fields }

abbrev pub encoded_blocks : (ℕ → ℕ) → ℕ → List (ℕ × Block) → List (ℕ × Block)
encoded_blocks code base bs = map (λ entry. (suc (entry.0 - base), encoded_block code base entry.1)) bs

-- the pairs with addresses that are counted from the base
abbrev pub rebased : ℕ → List (ℕ × ℕ) → List (ℕ × ℕ)
rebased base pairs = map (λ p. (suc (p.0 - base), suc (p.1 - base))) pairs

abbrev pub young_words : (ℕ → ℕ) → ℕ → List ℕ → List ℕ
young_words code base young = spelled no_links (encoded_blocks code base (young_blocks base young))

abbrev pub young_image : ℕ → (ℕ → ℕ) → ℕ → List ℕ → List ℕ → Image
young_image size code base young roots = record { size = size; end = length (young_words code base young); words = young_words code base young; roots = map (encoded code base) roots; raws = true }

-- ---- what may be encoded

-- the value is not the number of an old object
abbrev pub IsApart : (ℕ → ℕ) → ℕ → Value → Type 0
IsApart code base Nil = ⊤
IsApart code base (Num n) = (a : ℕ) → a < base → code a ≢ n
IsApart code base (Ref a) = ⊤

pub record CanEncode (code : ℕ → ℕ) (base w : ℕ) : Type 0 where
  pub value : IsTrue (is_value w)
  pub apart : IsApart code base (value_of w)

-- each word of a raw object stays as it is
abbrev pub FieldsCanEncode : (ℕ → ℕ) → ℕ → Bool → List ℕ → Type 0
FieldsCanEncode code base true fields = ⊤
FieldsCanEncode code base false fields = All (CanEncode code base) fields

-- References to old objects become numbers that no young field and no root has. The root words are those of remembered fields and of roots.
pub record IsEncoded (code : ℕ → ℕ) (base : ℕ) (young root_words : List ℕ) : Type 0 where
  pub codes : IsCode code base
  pub fields : All (λ entry. FieldsCanEncode code base entry.1.header.raw entry.1.fields) (young_blocks base young)
  pub roots : All (CanEncode code base) root_words
