-- Sources and sinks as contracts see them.
use Rattle.std.specs.Prelude.{◌≡◌, ℕ, Bool, List, ◌++◌, Option}
use Rattle.std.specs.Io.KnownBytes.{Appends}
use Rattle.gc_graph.specs.declared.source.Source.{Source}
use Rattle.gc_graph.specs.declared.sink.Sink.{Sink}

-- the bytes that the reader has left, if they are known
abbrev pub bytes_left : {R : Type 0} → (R → Option (List ℕ)) → Source R → Option (List ℕ)
bytes_left remaining s = remaining s.reader

-- whether a read has failed
abbrev pub source_failed : {R : Type 0} → Source R → Bool
source_failed s = s.failed

-- the bytes that the writer holds, if they are known
abbrev pub bytes_written : {W : Type 0} → (W → Option (List ℕ)) → Sink W → Option (List ℕ)
bytes_written contents s = contents s.writer

-- whether a write has failed
abbrev pub sink_failed : {W : Type 0} → Sink W → Bool
sink_failed s = s.failed

-- a prefix of the text, and nothing else, was appended to the known bytes
abbrev pub SendsFront : Option (List ℕ) → Option (List ℕ) → List ℕ → Type 0
SendsFront old new text = (front : List ℕ) × (rest : List ℕ) × (text ≡ front ++ rest) × Appends old new front

-- the text without its suffix `rest` was appended to the known bytes
pub record HasSent (old new : Option (List ℕ)) (text rest : List ℕ) : Type 0 where
  pub front : List ℕ
  pub parts : text ≡ front ++ rest
  pub out : Appends old new front
