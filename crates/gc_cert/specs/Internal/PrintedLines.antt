-- Printed lines are buffered after what is already buffered, or go out with it.
use Rattle.std.specs.Prelude.{ℕ, List, ◌++◌, Option}
use Rattle.gc_text.specs.Lines.{text_of}
use Rattle.gc_graph.specs.Streams.{SendsFront, HasSent}

-- what was buffered before and these lines went out, except what is still buffered
abbrev pub Prints : List (List ℕ) → Option (List ℕ) → Option (List ℕ) → List ℕ → List ℕ → Type 0
Prints lines old new before after = HasSent old new (before ++ text_of lines) after

-- a prefix of what was buffered before and of these lines went out
abbrev pub PrintsFront : List (List ℕ) → Option (List ℕ) → Option (List ℕ) → List ℕ → Type 0
PrintsFront lines old new before = SendsFront old new (before ++ text_of lines)
