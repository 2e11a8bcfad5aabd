-- A place with a mark is one more start, and a place without one is none.
use Rattle.std.proofs.Common.{rules, ◌≡◌, ◌<◌, ◌≤◌, ◌+◌, ◌-◌, length, true, false}
use Rattle.gc_words.specs.Image.{is_start}
use Rattle.gc_check.specs.Internal.Starts.{starts_from}
use Rattle.gc_check.proofs.StartMarks.{start_counted, none_counted}
use Rattle.gc_check.proofs.starts.Starts.count.Goals.{then-is_marked, else-is_marked}
use Rattle.gc_check.proofs.starts.Starts.count.Goals as goal

pub loop-place-preserved : goal.loop-place-preserved
loop-place-preserved c =
    let words = c.args.self.now.words in
    let inside : c.loop-place.place < length words = search rules in
    elim c.if-is_marked.branch [
      | then-is_marked w ↦ (let start : is_start words c.loop-place.place ≡ true = search rules in
          let few : c.if-is_marked.count ≤ c.loop-place.place + 1 = search rules in
          record {
            few = few;
            rest = (let whole : c.loop-place.count + 1 + starts_from words (c.loop-place.place + 1) (length words - (c.loop-place.place + 1)) ≡ starts_from words 0 (length words)
                = start_counted words c.loop-place.count c.loop-place.place (length words) (starts_from words 0 (length words)) inside start c.loop-place.invariant.rest in search rules);
          })
      | else-is_marked w ↦ (let none : is_start words c.loop-place.place ≡ false = search rules in
          let few : c.if-is_marked.count ≤ c.loop-place.place + 1 = search rules in
          record {
            few = few;
            rest = (let whole : c.loop-place.count + starts_from words (c.loop-place.place + 1) (length words - (c.loop-place.place + 1)) ≡ starts_from words 0 (length words)
                = none_counted words c.loop-place.count c.loop-place.place (length words) (starts_from words 0 (length words)) inside none c.loop-place.invariant.rest in search rules);
          })
    ]
