-- The first and the last of the words are taken from the text.
use Rattle.std.proofs.Common.{◌+◌, ◌-◌, ◌/◌, ◌%◌, ◌*◌, ◌^◌, ◌<◌, ◌≤◌, ◌≡◌, List, ℕ, length, get_or, take, ap, subst, ◌∙◌, arith}
use Rattle.std.proofs.lemmas.List.{length-take-le}
use Rattle.gc_bytes.specs.Text.{AreBytes, bytes_of, spelled}
use Rattle.gc_bytes.specs.Changed.{changed_in}
use Rattle.gc_bytes.proofs.Changed.{changed_are}
use Rattle.gc_bytes.proofs.Digits.{length-bytes_of}
use Rattle.gc_bytes.proofs.Joined.{bytes_are}
use Rattle.gc_bytes.proofs.Spelled.{bytes_parted}
use Rattle.gc_bytes.proofs.text.Text.changed_by.Goals as goal

-- a text has as many bytes as it counts, which are few
counted : (words text : List ℕ) (count at n : ℕ) → count ≤ 7 * length words → length words < 2 ^ 59 → take count (bytes_of words) ≡ text → at + n ≤ length text → at + n < 2 ^ 64
counted words text count at n within few is inside =
    let all = length-bytes_of words in
    let taken = length-take-le count (bytes_of words) (omega arith) in
    let same = ap length is in
    omega arith

pub overflow_add-end : goal.overflow_add-end
overflow_add-end c = let few = counted c.self.inside.words.now c.args.self.now c.self.inside.count c.args.at (length c.args.bytes.now) c.self.invariant.0 c.self.invariant.1 c.self.view_is c.requires.inside in omega arith

pub returns : goal.returns
returns c =
    let words = c.self.inside.words.now in
    let count = c.self.inside.count in
    let skip = c.args.at % 7 in
    let bytes = c.args.bytes.now in
    let all : AreBytes c.args.self.now = subst AreBytes c.self.view_is (bytes_parted count (bytes_of words) (bytes_are words)).0 in
    let last = (c.args.at + length bytes - 1) / 7 in
    ap (λ x. changed_in x c.part_word.result skip bytes) (c.part_word-first.ensures.word ∙ ap (λ t. get_or (spelled t) (c.args.at / 7) 0) c.self.view_is)
    ∙ ap (λ x. changed_in (get_or (spelled c.args.self.now) (c.args.at / 7) 0) x skip bytes) (c.part_word.ensures.word ∙ ap (λ t. get_or (spelled t) last 0) c.self.view_is)
    ∙ changed_are c.args.self.now c.args.at bytes c.requires.some c.requires.inside all
