-- What calls tell of two texts of bytes.
use Rattle.std.specs.Prelude.{◌≡◌, ◌≢◌, ◌⊎◌, ℕ, ℤ, pos, negsuc, List, Option, Some}
use Rattle.std.specs.Cmp.Lexicographic.{slice_cmp}
use Rattle.std.specs.Ordering.{nat_cmp}
use Rattle.std.specs.declared.cmp.Ordering.{Ordering}
use Rattle.std.specs.declared.cmp.Ordering.TheVariants.{Less, Equal, Greater}
use Rattle.gc_check.specs.InC.{done}
use Rattle.gc_graph.specs.declared.reply.Reply.TheVariants.{NoObject, Yes, No}
use Rattle.gc_in_c.specs.Replies.{reply_in_c}

-- the answer says whether both have the same bytes
abbrev pub TellsSame : Option (List ℕ) → Option (List ℕ) → ℕ → Type 0
TellsSame (Some one) (Some other) answer = ((one ≡ other) × (answer ≡ reply_in_c Yes)) ⊎ ((one ≢ other) × (answer ≡ reply_in_c No))
TellsSame one other answer = answer ≡ reply_in_c NoObject

abbrev pub order_in_c : Ordering → ℤ
order_in_c Less = negsuc 0
order_in_c Equal = pos 0
order_in_c Greater = pos 1

-- C's variable takes the order of unsigned bytes, in which a shorter beginning comes first
abbrev pub TellsOrder : Option (List ℕ) → Option (List ℕ) → ℤ → ℤ → ℕ → Type 0
TellsOrder (Some one) (Some other) before after answer = (answer ≡ done) × (after ≡ order_in_c (slice_cmp nat_cmp one other))
TellsOrder one other before after answer = (answer ≡ reply_in_c NoObject) × (after ≡ before)
