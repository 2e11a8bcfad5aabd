-- Worked rows: whole texts and what the reader returns, event lines, and reply lines.
use Rattle.std.specs.Prelude.{◌≡◌, ℕ, List, [], ◌∷◌, codes}
use Rattle.gc_graph.specs.Slots.{own_slot, shared_slot}
use Rattle.gc_graph.specs.declared.command.Op.TheVariants as ops
use Rattle.gc_graph.specs.declared.reply.Reply.TheVariants as replies
use Rattle.gc_graph.specs.declared.reply.View.TheVariants as views
use Rattle.gc_model.specs.declared.event.Answer.TheVariants.{Mutator, Collector}
use Rattle.gc_model.specs.declared.step.Step.TheVariants as steps
use Rattle.gc_model.specs.declared.step.StepReply.TheVariants as step_replies
use Rattle.gc_model.specs.State.{opening_state}
use Rattle.gc_model.specs.Runs.{answers}
use Rattle.gc_model.specs.declared.event.Event.{Event}
use Rattle.gc_model.specs.declared.event.Event.TheVariants.{Mutate, Collect}
use Rattle.gc_trace.specs.Grammar.{Recording, trace_text, least_trace}
use Rattle.gc_trace.specs.Faults.{IsReadAsTrace, IsTraceFaultOf}
use Rattle.gc_trace.specs.Replies.{reply_text}
use Rattle.gc_trace.specs.declared.fault.TraceFault.TheVariants.{BadHeader, BadLine, NoSuchMutator}

-- a trace of one mutator in a space of eight words
abbrev pub small : ℕ → List Event → Recording
small version events = record { version = version; size = 8; mutators = 1; events = events }

pub record TextRows : Type 0 where
  pub nothing : IsTraceFaultOf BadHeader []
  pub no_size : IsTraceFaultOf BadHeader (codes "heaptrace 1\nspace 0 mutators 1\n")
  pub many_mutators : IsTraceFaultOf BadHeader (codes "heaptrace 1\nspace 8 mutators 17\n")
  pub no_line_feed : IsTraceFaultOf BadHeader (codes "heaptrace 1\nspace 8 mutators 1")
  pub no_events : IsReadAsTrace (small 1 []) (codes "heaptrace 1\nspace 8 mutators 1\n")
  pub cut_line : IsTraceFaultOf (BadLine 3) (codes "heaptrace 1\nspace 8 mutators 1\nm 0 look r0")
  pub no_slot : IsTraceFaultOf (BadLine 3) (codes "heaptrace 1\nspace 8 mutators 1\nm 0 look r16\n")
  pub two_spaces : IsTraceFaultOf (BadLine 3) (codes "heaptrace 1\nspace 8 mutators 1\nm 0  look r0\n")
  pub no_kind : IsTraceFaultOf (BadLine 3) (codes "heaptrace 1\nspace 8 mutators 1\nm 0 new r0 256 0\n")
  pub leading_zero : IsTraceFaultOf (BadLine 3) (codes "heaptrace 1\nspace 8 mutators 1\nm 0 num r0 01\n")
  pub no_mutator : IsTraceFaultOf (BadLine 3) (codes "heaptrace 1\nspace 8 mutators 1\nm 16 look r0\n")
  pub strange_mutator : IsTraceFaultOf (NoSuchMutator 3) (codes "heaptrace 1\nspace 8 mutators 1\nm 1 look r0\n")
  pub strange_log : IsTraceFaultOf (NoSuchMutator 3) (codes "heaptrace 1\nspace 8 mutators 1\nc apply 1\nx\n")
  pub empty_line : IsTraceFaultOf (BadLine 4) (codes "heaptrace 1\nspace 8 mutators 1\nm 0 nil g0\n\n")

-- what version 2 adds
pub record SizedRows : Type 0 where
  pub read : IsReadAsTrace (small 2 (Collect steps.Begin ∷ Collect (steps.BeginSized 12) ∷ [])) (codes "heaptrace 2\nspace 8 mutators 1\nc begin\nc begin 12\n")
  pub low : IsTraceFaultOf (BadLine 3) (codes "heaptrace 2\nspace 8 mutators 1\nc begin 0\n")
  pub high : IsTraceFaultOf (BadLine 3) (codes "heaptrace 2\nspace 8 mutators 1\nc begin 1048577\n")
  pub not_in_first : IsTraceFaultOf (BadLine 3) (codes "heaptrace 1\nspace 8 mutators 1\nc begin 12\n")
  pub least : trace_text (least_trace 8 1 (Collect (steps.BeginSized 12) ∷ [])) ≡ codes "heaptrace 2\nspace 8 mutators 1\nc begin 12\n"
  pub lower : trace_text (least_trace 8 1 (Collect steps.Begin ∷ [])) ≡ codes "heaptrace 1\nspace 8 mutators 1\nc begin\n"

-- events on a raw object; a `Put` writes to it while a collection is open
abbrev pub raw_events : List Event
raw_events =
    Mutate 0 (ops.NewRaw (own_slot 0) 7 2) ∷ Mutate 0 (ops.Look (own_slot 0)) ∷ Mutate 0 (ops.Get (own_slot 1) (own_slot 0) 1) ∷ Mutate 0 (ops.Put (own_slot 0) 0 (own_slot 2)) ∷ Mutate 0 (ops.Put (own_slot 0) 2 (own_slot 2))
    ∷ Mutate 0 (ops.Num (own_slot 1) 8) ∷ Mutate 0 (ops.Put (own_slot 0) 0 (own_slot 1)) ∷ Collect steps.Begin ∷ Collect steps.Roots ∷ Mutate 0 (ops.Num (own_slot 1) 10) ∷ Mutate 0 (ops.Put (own_slot 0) 1 (own_slot 1))
    ∷ Collect steps.Scan ∷ Collect steps.Scan ∷ Collect steps.Flip ∷ Collect (steps.Apply 0) ∷ Collect steps.Flip ∷ Mutate 0 (ops.Get (own_slot 2) (own_slot 0) 0) ∷ Mutate 0 (ops.Get (own_slot 2) (own_slot 0) 1) ∷ []

-- what version 3 adds
pub record RawRows : Type 0 where
  pub read : IsReadAsTrace (small 3 (Mutate 0 (ops.NewRaw (own_slot 0) 7 2) ∷ [])) (codes "heaptrace 3\nspace 8 mutators 1\nm 0 raw r0 7 2\n")
  pub long : IsTraceFaultOf (BadLine 3) (codes "heaptrace 3\nspace 8 mutators 1\nm 0 raw r0 7 65536\n")
  pub not_in_first : IsTraceFaultOf (BadLine 3) (codes "heaptrace 1\nspace 8 mutators 1\nm 0 raw r0 7 2\n")
  pub not_in_second : IsTraceFaultOf (BadLine 3) (codes "heaptrace 2\nspace 8 mutators 1\nm 0 raw r0 7 2\n")
  pub no_fourth : IsTraceFaultOf BadHeader (codes "heaptrace 4\nspace 8 mutators 1\n")
  pub least : trace_text (least_trace 8 1 (Collect (steps.BeginSized 12) ∷ Mutate 0 (ops.NewRaw (own_slot 0) 7 2) ∷ [])) ≡ codes "heaptrace 3\nspace 8 mutators 1\nc begin 12\nm 0 raw r0 7 2\n"
  pub played : trace_text (least_trace 16 1 raw_events)
      ≡ codes "heaptrace 3\nspace 16 mutators 1\nm 0 raw r0 7 2\nm 0 look r0\nm 0 get r1 r0 1\nm 0 put r0 0 r2\nm 0 put r0 2 r2\nm 0 num r1 8\nm 0 put r0 0 r1\nc begin\nc roots\nm 0 num r1 10\nm 0 put r0 1 r1\nc scan\nc scan\nc flip\nc apply 0\nc flip\nm 0 get r2 r0 0\nm 0 get r2 r0 1\n"
  pub replies : reply_text (answers (opening_state 16 1) raw_events)
      ≡ codes "made\nsaw raw 7 2\nsaw num 0\nno number\nno field\ndone\ndone\nbegun\ncopied\ndone\ndone\npassed\nclean\nnot ready\napplied\nflipped 1\nsaw num 8\nsaw num 10\n"

-- each kind of line of version 1, once
abbrev pub all_lines : List Event
all_lines =
    Mutate 0 (ops.New (own_slot 0) 255 65535) ∷ Mutate 1 (ops.Num (own_slot 1) 9223372036854775807) ∷ Mutate 0 (ops.Nil (shared_slot 15)) ∷ Mutate 0 (ops.Move (shared_slot 0) (own_slot 0))
    ∷ Mutate 0 (ops.Get (own_slot 1) (own_slot 0) 0) ∷ Mutate 0 (ops.Put (own_slot 0) 7 (own_slot 1)) ∷ Mutate 0 (ops.Same (own_slot 0) (shared_slot 1)) ∷ Mutate 0 (ops.Look (own_slot 9))
    ∷ Collect steps.Begin ∷ Collect steps.Roots ∷ Collect steps.Scan ∷ Collect (steps.Apply 1) ∷ Collect steps.Flip ∷ Collect steps.Drop ∷ []

pub record LineRows : Type 0 where
  pub events : trace_text (least_trace 9 2 all_lines)
      ≡ codes "heaptrace 1\nspace 9 mutators 2\nm 0 new r0 255 65535\nm 1 num r1 9223372036854775807\nm 0 nil g15\nm 0 move g0 r0\nm 0 get r1 r0 0\nm 0 put r0 7 r1\nm 0 same r0 g1\nm 0 look r9\nc begin\nc roots\nc scan\nc apply 1\nc flip\nc drop\n"
  pub replies : reply_text (Mutator replies.Full ∷ Mutator replies.Made ∷ Mutator replies.Done ∷ Mutator replies.NoObject ∷ Mutator replies.NoField ∷ Mutator replies.NoNumber ∷ Mutator replies.Yes ∷ Mutator replies.No
      ∷ Mutator (replies.Saw views.Nil) ∷ Mutator (replies.Saw (views.Num 9)) ∷ Mutator (replies.Saw (views.Obj 1 2)) ∷ Mutator (replies.Saw (views.RawObj 1 2)) ∷ [])
      ≡ codes "full\nmade\ndone\nno object\nno field\nno number\nyes\nno\nsaw nil\nsaw num 9\nsaw obj 1 2\nsaw raw 1 2\n"
  pub step_replies : reply_text (Collector step_replies.Busy ∷ Collector step_replies.Begun ∷ Collector step_replies.Idle ∷ Collector step_replies.Clean ∷ Collector step_replies.NoRoom ∷ Collector step_replies.Copied
      ∷ Collector step_replies.Passed ∷ Collector step_replies.Scanned ∷ Collector step_replies.Applied ∷ Collector step_replies.NotReady ∷ Collector step_replies.Refused ∷ Collector (step_replies.Flipped 3) ∷ Collector step_replies.Dropped ∷ [])
      ≡ codes "busy\nbegun\nidle\nclean\nno room\ncopied\npassed\nscanned\napplied\nnot ready\nrefused\nflipped 3\ndropped\n"
