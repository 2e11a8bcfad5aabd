-- Walks over both images reach their ends and a pair joins two starts, so both headers can be read.
use Rattle.std.proofs.Common.{sym, ◌<◌, ap, subst, length, get_or, IsOk, IsTrue}
use Rattle.gc_words.specs.Image.{walk_words, is_start}
use Rattle.gc_words.specs.Views.{image_of, addresses}
use Rattle.gc_words.specs.declared.image.Pair.{Pair}
use Rattle.gc_check.specs.Verdict.{pairs_of}
use Rattle.gc_check.proofs.Placements.{table_parts, pair_joins, walks}
use Rattle.gc_check.proofs.tables.Tables.pair_fault.Goals as goal

-- any pair will do: a read within the certificate does not use it
abbrev none : Pair
none = record { old = record { 0 = 0 }; new = record { 0 = 0 } }

pub header_word_at-word-requires-clause-walked : goal.header_word_at-word-requires-clause-walked
header_word_at-word-requires-clause-walked c = subst (λ words. IsOk (walk_words words)) (sym c.words.ensures.value) c.words.ensures.walked

pub header_word_at-requires-clause-walked : goal.header_word_at-requires-clause-walked
header_word_at-requires-clause-walked c = walks (image_of c.self.inside.new) (table_parts c.self.inside.old (image_of c.self.inside.new) (pairs_of c.self.inside.cert.now) c.self.invariant.placed).0.new_shaped

pub header_word_at-word-requires-clause-start : goal.header_word_at-word-requires-clause-start
header_word_at-word-requires-clause-start c =
    let inside : c.args.k < length (pairs_of c.self.inside.cert.now) = subst (λ n. c.args.k < n) (sym (ap (λ v. length v.pairs) c.self.view_is)) c.requires in
    subst (λ words. IsTrue (is_start words (addresses (get_or c.self.inside.cert.now c.args.k none)).0)) (sym c.words.ensures.value)
    (pair_joins c.self.inside.old (image_of c.self.inside.new) c.self.inside.cert.now c.args.k none c.self.invariant.placed inside).0

pub header_word_at-requires-clause-start : goal.header_word_at-requires-clause-start
header_word_at-requires-clause-start c =
    let inside : c.args.k < length (pairs_of c.self.inside.cert.now) = subst (λ n. c.args.k < n) (sym (ap (λ v. length v.pairs) c.self.view_is)) c.requires in
    (pair_joins c.self.inside.old (image_of c.self.inside.new) c.self.inside.cert.now c.args.k none c.self.invariant.placed inside).1
