-- The bits fit between those that stay.
use Rattle.std.proofs.Common.{◌≡◌, ◌+◌, ◌*◌, ◌/◌, ◌%◌, ◌^◌, ◌<◌, ◌≤◌, length, map, ap, subst, sym, ◌∙◌, arith}
use Rattle.std.proofs.lemmas.List.{length-map}
use Rattle.gc_bytes.specs.Vector.{top_bit}
use Rattle.gc_bytes.proofs.Bits.{AreBits, patched, patched_is, patched_small}
use Rattle.gc_bytes.proofs.ChangedVectors.{shifted_is}
use Rattle.gc_bytes.proofs.Vectors.{tops_from_index}
use Rattle.gc_bytes.proofs.changing_tops.patched_top.Goals as goal
use Rattle.gc_bytes.proofs.changing_tops.patched_top.Goals.{After-number_of_tops}

all : (c : After-number_of_tops) → AreBits (map top_bit c.args.words.now)
all c = tops_from_index c.args.words.now (λ i. let word = c.type_inv.words i in omega arith)

within : (c : After-number_of_tops) → c.args.at + length (map top_bit c.args.words.now) ≤ 63
within c = let n = length-map c.args.words.now top_bit in omega (arith, n, c.requires.within)

is : (c : After-number_of_tops) → c.args.field % (1 * 2 ^ c.args.at % 2 ^ 64) + c.args.field / 2 ^ (c.args.at + length c.args.words.now) * 2 ^ (c.args.at + length c.args.words.now) % 2 ^ 64 + c.number_of_tops.result * 2 ^ c.args.at % 2 ^ 64
    ≡ patched c.args.field c.args.at (map top_bit c.args.words.now) (within c) c.requires.number (all c)
is c =
    ap (λ n. c.args.field % (1 * 2 ^ c.args.at % 2 ^ 64) + c.args.field / 2 ^ (c.args.at + n) * 2 ^ (c.args.at + n) % 2 ^ 64 + c.number_of_tops.result * 2 ^ c.args.at % 2 ^ 64) (sym (length-map c.args.words.now top_bit))
    ∙ shifted_is c.args.field c.args.at (map top_bit c.args.words.now) (within c) c.requires.number (all c) c.number_of_tops.result c.number_of_tops.ensures.value

small : (c : After-number_of_tops) → patched c.args.field c.args.at (map top_bit c.args.words.now) (within c) c.requires.number (all c) < 2 ^ 63
small c = patched_small c.args.field c.args.at (map top_bit c.args.words.now) (within c) c.requires.number (all c)

pub overflow_add-result : goal.overflow_add-result
overflow_add-result c = let e = is c in let s = small c in omega arith

pub returns-clause-field : goal.returns-clause-field
returns-clause-field c = is c ∙ patched_is c.args.field c.args.at (map top_bit c.args.words.now) (within c) c.requires.number (all c)

pub returns-clause-number : goal.returns-clause-number
returns-clause-number c = subst (λ x. x < 2 ^ 63) (sym (is c)) (small c)
