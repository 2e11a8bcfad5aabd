-- The contents of a player, and its results.
use Rattle.std.specs.Prelude.{◌≡◌, ◌++◌, ℕ, List, [], Option}
use Rattle.gc_model.specs.State.{State}
use Rattle.gc_model.specs.Runs.{answers, state_after}
use Rattle.gc_model.specs.declared.event.Event.{Event}
use Rattle.gc_trace.specs.Faults.{IsReadAsTrace}
use Rattle.gc_trace.specs.Grammar.{IsRecording}
use Rattle.gc_trace.specs.Internal.Reading.{HasRead, read_so_far}
use Rattle.gc_trace.specs.Plays as plays
use Rattle.gc_trace.specs.Replies.{reply_text}
use Rattle.gc_trace.specs.Report.{report_of}
use Rattle.gc_trace.specs.declared.event_reader.EventReader.{EventReader}
use Rattle.gc_trace.specs.declared.playing.Gather.{Gather}
use Rattle.gc_trace.specs.declared.playing.Gather.TheVariants.{Replies}
use Rattle.gc_trace.specs.declared.playing.Played.{Played}
use Rattle.gc_trace.specs.declared.playing.Player.{Player}

-- the player has played these events, starting in state s: it has the last state, the counts and, if it gathers them,
-- the reply lines
pub record HasPlayed (s : State) (events : List Event) (player : Player) : Type 0 where
  pub state : player.heap.core ≡ state_after s events
  pub counts : player.report ≡ report_of (answers s events) s
  pub lines : player.gather ≡ Replies → player.text.items ++ player.printer ≡ reply_text (answers s events)

-- the player has played a trace with the reader's heading; each text whose heading was read spells this trace
pub record HasPlayedRest (lines : EventReader) (left : Option (List ℕ)) (player : Player) : Type 0 where
  pub events : List Event
  pub recording : IsRecording (read_so_far lines events)
  pub played : HasPlayed (plays.trace_opening (read_so_far lines [])) events player
  pub read : (text : List ℕ) → HasRead text [] lines left → IsReadAsTrace (read_so_far lines events) text

-- the results of playing the reader's trace; the reply lines are there if they were gathered
abbrev pub HasResults : Option (List ℕ) → Gather → Played → Type 0
HasResults text gather played = plays.IsTraceAnd text (λ t. (played.report ≡ plays.report_in t) × (gather ≡ Replies → played.replies.items ≡ reply_text (plays.trace_answers t)))
