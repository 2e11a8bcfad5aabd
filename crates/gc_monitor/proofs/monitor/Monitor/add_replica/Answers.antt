-- The tables have the replica more and still agree, and what it owes is counted.
use Rattle.std.proofs.lemmas.Grind.{common_steps}
use Rattle.std.proofs.Common.{◌≡◌, ◌+◌, ◌++◌, ◌∷◌, length, replicate, inr, ap, sym, ◌∙◌, subst, refl, arith}
use Rattle.std.specs.Prelude.{if◌then◌else◌, slice_index_or}
use Rattle.gc_monitor.specs.Tables.{Tables, RowsAgree}
use Rattle.gc_monitor.specs.Events.{code_of, object_codes, replica_added}
use Rattle.gc_monitor.specs.contracts.monitor.Monitor.{the_view}
use Rattle.gc_monitor.proofs.RowsAgree.{agree_of, agree_replica, replica_written, few_due}
use Rattle.gc_monitor.proofs.monitor.Monitor.add_replica.Goals as goal
use Rattle.gc_monitor.proofs.monitor.Monitor.add_replica.Goals.{After-due_words}

agree : (c : After-due_words) → RowsAgree (the_view c.self.inside)
agree c = agree_of _ c.self.invariant.5 (ap (λ (t : Tables). t.lost) c.self.view_is ∙ c.requires.found)

-- the tables have the replica more
added : (c : After-due_words) → record (the_view c.self.inside) { olds = c.take.new.self.codes; news = c.add_codes.new.row.codes; origins = c.add.new.self.origins; missing = c.self.inside.missing + c.due_words.result }
    ≡ replica_added (the_view c.self.inside) c.args.header c.args.original c.args.due
added c =
    replica_written _ c.args.header c.args.original _ c.due_words.result c.args.due _ _ _ (agree c) c.take.ensures.codes
    (c.add_codes.ensures.codes ∙ ap (λ n. c.self.inside.news.codes ++ object_codes n (code_of c.args.due)) c.len-2.ensures)
    (c.add.ensures.origins ∙ ap (λ n. c.self.inside.origins.origins ++ c.args.original ∷ 0 ∷ replicate n 0) c.len.ensures)
    refl (c.due_words.ensures ∙ ap (λ n. if c.args.due then n else 0) c.len-3.ensures)

pub overflow_add-self : goal.overflow_add-self
overflow_add-self c = grind (arith, common_steps, few_due, agree_of)

pub invariant_of-self : goal.invariant_of-self
invariant_of-self c =
    let news : length c.self.inside.news.codes ≡ length c.args.self.now.news = ap (λ (t : Tables). length t.news) c.self.view_is in
    let k = (goal.at.invariant_of-self c).After-due_words in (
      c.self.invariant.0,
      c.self.invariant.1,
      omega (arith, c.self.invariant.2, c.take.ensures.room),
      omega (arith, c.self.invariant.3, c.add_codes.ensures.room),
      omega (arith, c.self.invariant.4, c.add.ensures.room),
      inr (subst RowsAgree (sym (added k)) (agree_replica _ c.args.header _ _ (omega (arith, c.requires.room, news, c.self.invariant.1, room)) start (agree k))),
    )
  where
    room : c.self.inside.room ≡ c.args.self.now.room
    room = ap (λ (t : Tables). t.room) c.self.view_is

    start : slice_index_or c.self.inside.olds.codes c.args.original 0 ≡ 1
    start = ap (λ (t : Tables). slice_index_or t.olds c.args.original 0) c.self.view_is ∙ c.requires.original

pub returns : goal.returns
returns c = added ((goal.at.returns c).After-due_words) ∙ ap (λ (t : Tables). replica_added t c.args.header c.args.original c.args.due) c.self.view_is
