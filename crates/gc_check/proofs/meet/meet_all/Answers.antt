-- At the end no word is left to meet, so if all were alike, the two lists correspond.
use Rattle.std.proofs.Common.{rules, ◌≡◌, ◌≤◌, length, true, subst, ◌∙◌}
use Rattle.std.specs.List.{AllZip}
use Rattle.gc_words.specs.Word.{words_correspond}
use Rattle.gc_check.specs.Internal.Meetings.{met_all, alike_all}
use Rattle.gc_check.specs.Verdict.{pairs_of}
use Rattle.gc_check.proofs.Alike.{alike_zip, all_ended, met_ended}
use Rattle.gc_check.proofs.meet.meet_all.Goals as goal

pub returns-clause-alike : goal.returns-clause-alike
returns-clause-alike c = λ alike.
    let old = c.args.old.now in
    let new = c.args.new.now in
    let before = pairs_of c.args.found.now.pairs.items in
    let past : length c.args.originals.now ≤ c.loop-i.i = search rules in
    let all : alike_all old new before c.args.originals.now c.args.replicas.now ≡ true
    = c.loop-i.invariant.alike alike ∙ all_ended old new (pairs_of c.loop-i.found.pairs.items) c.loop-i.i c.args.originals.now c.args.replicas.now past c.requires.count in
    let pairs : met_all old new before c.args.originals.now c.args.replicas.now ≡ pairs_of c.loop-i.found.pairs.items
    = c.loop-i.invariant.same ∙ met_ended old new (pairs_of c.loop-i.found.pairs.items) c.loop-i.i c.args.originals.now c.args.replicas.now past in
    subst (λ pairs. AllZip (λ v w. words_correspond pairs v w ≡ true) c.args.originals.now c.args.replicas.now) pairs (alike_zip old new before c.args.originals.now c.args.replicas.now all)
