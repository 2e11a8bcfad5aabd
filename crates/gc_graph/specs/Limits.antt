-- The limits of the program's numbers, each with one name. The program's constants are proved equal to them wherever
-- they are used.
use Rattle.std.specs.Prelude.{ℕ, ◌+◌, ◌*◌}

-- the maximum number of words in a space of a text, a world or the plain machine, and of the images that `check` accepts
abbrev pub most_words : ℕ
most_words = 1048576

-- the maximum number of words in any other space: its size and its addresses are numbers of 32 bits
abbrev pub largest_space : ℕ
largest_space = 4294967295

-- the maximum number of objects in a space of `most_words` words, and so of pairs in a text: each object takes at least
-- two words, and the first word is reserved
abbrev pub most_pairs : ℕ
most_pairs = 524287

-- the maximum number of mutators of a heap
abbrev pub most_mutators : ℕ
most_mutators = 16

-- the number of slots that all mutators share, and the number that each mutator has of its own
abbrev pub slots_each : ℕ
slots_each = 16

-- the maximum number of roots of an image: the shared ones, and those of all mutators
abbrev pub most_roots : ℕ
most_roots = slots_each + slots_each * most_mutators

-- the number of kinds of objects: 0 to 255
abbrev pub kinds : ℕ
kinds = 256

-- the number of possible lengths of an object: 0 to 65535 fields
abbrev pub lengths : ℕ
lengths = 65536
