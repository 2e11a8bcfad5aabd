-- Paths from the roots of an image.
use Rattle.std.specs.Prelude.{◌≡◌, ℕ, ◌≤◌, List, length, Some}
use Rattle.gc_graph.specs.Graph.{Ref, at_path}
use Rattle.gc_words.specs.Image.{Image, graph_of}
use Rattle.gc_check.specs.declared.shortest_path.Path.{Path}

-- the path finds a reference to this address
abbrev pub PathLeadsTo : Image → Path → ℕ → Type 0
PathLeadsTo image path address = at_path (graph_of image) path.place path.fields.items ≡ Some (Ref address)

-- no path that finds one has fewer fields
abbrev pub IsShortest : Image → Path → ℕ → Type 0
IsShortest image path address = (place : ℕ) (fields : List ℕ) → at_path (graph_of image) place fields ≡ Some (Ref address) → length path.fields.items ≤ length fields
