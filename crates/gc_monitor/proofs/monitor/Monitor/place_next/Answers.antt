-- The tables gain the pair that the link claims. If the copy of a raw object was found equal, none of its fields is due.
use Rattle.std.proofs.Common.{◌≡◌, ◌<◌, ◌≤◌, ◌+◌, Some, true, false, length, not, ap, sym, ◌∙◌, subst, arith}
use Rattle.std.specs.Prelude.{MatchOption, slice_index, slice_index_or}
use Rattle.gc_words.specs.declared.header.Header.{Header}
use Rattle.gc_words.specs.Word.{read_header}
use Rattle.gc_words.specs.Layout.{link_place}
use Rattle.gc_monitor.specs.Watch.{IsNext}
use Rattle.gc_monitor.specs.Tables.{Tables}
use Rattle.gc_monitor.specs.Events.{IsClaim, IsCopy, replica_added}
use Rattle.gc_monitor.specs.contracts.monitor.Monitor.{the_view}
use Rattle.gc_monitor.proofs.RowsAgree.{agree_of, placed_at, owes_none}
use Rattle.gc_monitor.proofs.monitor.Monitor.place_next.Goals as goal
use Rattle.gc_monitor.proofs.monitor.Monitor.place_next.Goals.{After-is_raw}

-- the link's claim can be true
claim : (c : After-is_raw) → IsClaim c.args.old.now c.args.new.now (the_view c.self.inside) c.in-Some.header c.in-Some-claim_in.original
claim c =
    let h = c.in-Some.header in
    let a = c.in-Some-claim_in.original in
    let at : c.len-at.result ≡ length c.self.inside.news.codes = c.len-at.ensures in
    let takes = c.takes.ensures in
    let yes = c.if-not-takes.false in
    let view : length c.self.inside.news.codes ≡ length c.args.self.now.news = ap (λ (t : Tables). length t.news) c.self.view_is in
    let roomy : c.self.inside.room ≡ c.args.self.now.room = ap (λ (t : Tables). t.room) c.self.view_is in
    let next = subst (λ o. MatchOption o ((g : Header) → IsNext c.len-at.result c.args.new.now g → ⊥) (λ (g : Header). (read_header (slice_index c.args.new.now c.len-at.result) ≡ Some g) × (c.len-at.result + (g.len + 2) ≤ length c.args.new.now))) c.in-Some.ensures.some.0 c.next_within.ensures in
    record {
      next = record {
        header = subst (λ n. read_header (slice_index c.args.new.now n) ≡ Some h) at next.0;
        within = subst (λ n. n + (h.len + 2) ≤ length c.args.new.now) at next.1;
        bound = omega (arith, view, roomy, c.in-Some.ensures.some.1, c.self.invariant.1);
      };
      rows = (agree_of _ c.self.invariant.5 (ap (λ (t : Tables). t.lost) c.self.view_is ∙ c.requires.found)).rows;
      link = subst (λ n. slice_index c.args.new.now (link_place n) ≡ a) at (c.in-Some-claim_in.ensures.0);
      low = (takes.free yes).0;
      within = omega (arith, c.if-original-old.false);
      start = subst (λ (t : Tables). slice_index_or t.olds a 0 ≡ 1) (sym c.self.view_is) (takes.free yes).1;
      header = subst (λ n. slice_index c.args.old.now a ≡ slice_index c.args.new.now n) at (takes.read yes);
    }

-- the new space goes on behind the walk
more : (c : After-is_raw) → length c.self.inside.news.codes < length c.args.new.now
more c = subst (λ n. n < length c.args.new.now) (sym (ap (λ (t : Tables). length t.news) c.self.view_is)) c.requires.more

pub returns-then-is_raw : goal.returns-then-is_raw
returns-then-is_raw c =
    let k = (goal.at.returns-then-is_raw c).After-is_raw in
    let h = c.in-Some.header in
    let a = c.in-Some-claim_in.original in
    let at : c.len-at.result ≡ length c.self.inside.news.codes = c.len-at.ensures in
    let added = c.add_raw.ensures.added ∙ ap (λ (t : Tables). replica_added t h a (not c.add_raw.result)) (sym c.self.view_is) in
    let found = ap (λ (t : Tables). t.lost) c.add_raw.ensures.added ∙ c.requires.found in
    record {
      found = λ yes. found;
      lost = λ no. absurd cc;
      placed = λ found.
          placed_at c.args.old.now c.args.new.now _ _ _ h a c.add_raw.result c.self.view_is (more k) (claim k)
          (λ t. subst (λ n. IsCopy c.args.old.now c.args.new.now h a n) at (c.add_raw.ensures.copy t)) added;
      copied = λ found. owes_none c.args.old.now c.args.new.now _ _ _ h a c.add_raw.result c.self.view_is (claim k)
          (λ copy fits. c.add_raw.ensures.whole (subst (λ n. IsCopy c.args.old.now c.args.new.now h a n) (sym at) copy) fits) added;
      stays = λ can. found;
    }

pub returns : goal.returns
returns c =
    let k = (goal.at.returns c).After-is_raw in
    let h = c.in-Some.header in
    let a = c.in-Some-claim_in.original in
    let added = c.add_replica.ensures ∙ ap (λ (t : Tables). replica_added t h a true) (sym c.self.view_is) in
    let found = ap (λ (t : Tables). t.lost) c.add_replica.ensures ∙ c.requires.found in
    record {
      found = λ yes. found;
      lost = λ no. absurd cc;
      placed = λ found.
          placed_at c.args.old.now c.args.new.now _ _ _ h a false c.self.view_is (more k) (claim k) (λ e. absurd cc) added;
      copied = λ found. owes_none c.args.old.now c.args.new.now _ _ _ h a false c.self.view_is (claim k)
          (λ copy fits. sym c.if-is_raw.false ∙ c.is_raw.ensures ∙ copy.raw) added;
      stays = λ can. found;
    }
