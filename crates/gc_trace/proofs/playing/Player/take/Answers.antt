-- After one more event the state, the counts and, if lines are gathered, the text are those of one more answer.
use Rattle.std.proofs.Common.{sym, subst, rules}
use Rattle.gc_model.specs.Belonging.{IsState}
use Rattle.gc_trace.proofs.PlayedEvents.{state_is, counts_are, lines_are}
use Rattle.gc_trace.proofs.Sizes.{state_kept}
use Rattle.gc_trace.proofs.playing.Player.take.Goals as goal

pub returns-in_default-gather-clause-played : goal.returns-in_default-gather-clause-played
returns-in_default-gather-clause-played c s events h =
    let player = c.args.self.now in
    let made = c.in-Ok.ensures in
    record {
      state = state_is s events c.args.event.now player.heap.core _ h.state made.happened;
      counts = counts_are s events c.args.event.now player.heap.core _ player.report _ h.state made.answer h.counts c.count.ensures;
      lines = search rules;
    }

pub returns-clause-played : goal.returns-clause-played
returns-clause-played c s events h =
    let player = c.args.self.now in
    let made = c.in-Ok.ensures in
    record {
      state = state_is s events c.args.event.now player.heap.core _ h.state made.happened;
      counts = counts_are s events c.args.event.now player.heap.core _ player.report _ h.state made.answer h.counts c.count.ensures;
      lines = λ told. lines_are s events c.args.event.now player.heap.core _ _ c.gather.new.text.items c.gather.new.self _ h.state made.answer (h.lines told) c.gather.ensures.moved c.print_answer.ensures;
    }

pub returns-in_default-gather-clause-sound : goal.returns-in_default-gather-clause-sound
returns-in_default-gather-clause-sound c = subst IsState (sym c.in-Ok.ensures.happened) (state_kept c.args.self.now.heap.core c.args.event.now c.states_stay.ensures.commands c.states_stay.ensures.steps c.requires.sound c.requires.event)

pub returns-clause-sound : goal.returns-clause-sound
returns-clause-sound c = subst IsState (sym c.in-Ok.ensures.happened) (state_kept c.args.self.now.heap.core c.args.event.now c.states_stay.ensures.commands c.states_stay.ensures.steps c.requires.sound c.requires.event)
