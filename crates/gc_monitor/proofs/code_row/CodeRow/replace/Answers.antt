-- One code of one word changes, and was that of its place.
use Rattle.std.proofs.Common.{◌<◌, set, ◌∙◌, ap, arith}
use Rattle.gc_monitor.specs.Internal.InWords.{Codes}
use Rattle.gc_monitor.proofs.Packed.{word_within, seen_within, codes_set, has_codes_set, is_with, code_read}
use Rattle.gc_monitor.proofs.code_row.CodeRow.replace.Goals as goal

pub index-word-requires : goal.index-word-requires
index-word-requires c = omega (arith, c.self.inside.words.ok.0, word_within _ _ _ c.self.invariant.0 (seen_within _ _ _ _ _ c.self.view_is c.requires.within))

pub index_mut-requires : goal.index_mut-requires
index_mut-requires c = omega (arith, c.self.inside.words.ok.0, word_within _ _ _ c.self.invariant.0 (seen_within _ _ _ _ _ c.self.view_is c.requires.within))

pub invariant_of-self : goal.invariant_of-self
invariant_of-self c =
    let seen : c.args.place < c.self.inside.len = seen_within _ _ _ _ _ c.self.view_is c.requires.within in (
      has_codes_set _ _ c.args.place c.args.code c.with_code.result c.self.invariant.0 seen
          (is_with _ _ _ _ c.index-word.result.now c.index-word.ensures (word_within _ _ _ c.self.invariant.0 seen) c.with_code.ensures.here c.with_code.ensures.others),
      c.self.invariant.1,
    )

pub returns-clause-codes : goal.returns-clause-codes
returns-clause-codes c =
    let seen : c.args.place < c.self.inside.len = seen_within _ _ _ _ _ c.self.view_is c.requires.within in
    codes_set _ _ c.args.place c.args.code c.with_code.result c.self.invariant.0 seen
    (is_with _ _ _ _ c.index-word.result.now c.index-word.ensures (word_within _ _ _ c.self.invariant.0 seen) c.with_code.ensures.here c.with_code.ensures.others)
    ∙ ap (λ (t : Codes). set t.codes c.args.place c.args.code) c.self.view_is

pub returns-clause-was : goal.returns-clause-was
returns-clause-was c =
    code_read _ _ _ c.args.place c.code_in.result c.index-word.result.now c.args.self.now c.self.view_is c.requires.within c.index-word.ensures
    (word_within _ _ _ c.self.invariant.0 (seen_within _ _ _ _ _ c.self.view_is c.requires.within)) c.code_in.ensures
