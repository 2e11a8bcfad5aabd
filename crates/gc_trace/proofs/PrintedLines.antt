-- Lines that are written in order.
use Rattle.std.proofs.lemmas.Grind.{common_steps}
use Rattle.std.proofs.Common.{◌≡◌, ℕ, List, ◌++◌, take, drop, sym, ap, ◌∙◌, Option, subst, length, ◌+◌, ◌<◌, ◌≤◌, get_or, append_assoc, arith}
use Rattle.std.proofs.lemmas.List.{append-nil, take-append-drop, take_all, take_more}
use Rattle.std.specs.Io.KnownBytes.{Appends}
use Rattle.std.specs.List.{flat_map}
use Rattle.std.proofs.lemmas.List.Concat.{flat_map-append, flat_map-cons}
use Rattle.std.proofs.lemmas.List.Folds.{flat_map-map}
use Rattle.gc_graph.specs.Streams.{SendsFront, HasSent}
use Rattle.gc_graph.proofs.Public.{sent_then, sent_at_last, front_sent}
use Rattle.gc_world.specs.History.{events_of}
use Rattle.gc_world.specs.declared.entry.Entry.{Entry}
use Rattle.gc_trace.specs.Grammar.{event_line, trace_heading, trace_text, least_version, least_trace}

-- a text, followed by the lines of the first i elements
abbrev pub lines_to : {X : Type 0} → List ℕ → (X → List ℕ) → List X → ℕ → List ℕ
lines_to front line xs i = front ++ flat_map line (take i xs)

lines_more : {X : Type 0} (front : List ℕ) (line : X → List ℕ) (xs : List X) (i : ℕ) (x : X) → i < length xs → x ≡ get_or xs i x → lines_to front line xs (i + 1) ≡ lines_to front line xs i ++ line x
lines_more {X} front line xs i x lt is = grind (arith, common_steps, take_more, flat_map-append, flat_map-cons, append-nil)

lines_whole : {X : Type 0} (front : List ℕ) (line : X → List ℕ) (xs : List X) (i : ℕ) → lines_to front line xs i ++ flat_map line (drop i xs) ≡ front ++ flat_map line xs
lines_whole {X} front line xs i =
    append_assoc front (flat_map line (take i xs)) (flat_map line (drop i xs)) ∙ ap (λ (t : List ℕ). front ++ t) (sym (flat_map-append line (take i xs) (drop i xs)) ∙ ap (flat_map line) (take-append-drop i xs))

-- one more line waits in the buffer
pub line_sent : {X : Type 0} (front : List ℕ) (line : X → List ℕ) (a b c : Option (List ℕ)) (xs : List X) (i : ℕ) (x : X) (waiting mid rest : List ℕ) → i < length xs → x ≡ get_or xs i x
    → HasSent a b (lines_to front line xs i) waiting → HasSent b c waiting mid → rest ≡ mid ++ line x → HasSent a c (lines_to front line xs (i + 1)) rest
line_sent front line a b c xs i x waiting mid rest lt is so_far more e = grind (arith, common_steps, lines_more, sent_then)

-- part of the buffer was written
pub line_failed : {X : Type 0} (front : List ℕ) (line : X → List ℕ) (a b c : Option (List ℕ)) (xs : List X) (i : ℕ) (waiting whole : List ℕ) → front ++ flat_map line xs ≡ whole → HasSent a b (lines_to front line xs i) waiting → SendsFront b c waiting → SendsFront a c whole
line_failed front line a b c xs i waiting whole is so_far failed = subst (SendsFront a c) (lines_whole front line xs i ∙ is) (front_sent a b c (lines_to front line xs i) waiting (flat_map line (drop i xs)) so_far failed)

-- the whole buffer was written
pub lines_sent : {X : Type 0} (front : List ℕ) (line : X → List ℕ) (a b c : Option (List ℕ)) (xs : List X) (i : ℕ) (waiting whole : List ℕ) → front ++ flat_map line xs ≡ whole → length xs ≤ i → HasSent a b (lines_to front line xs i) waiting → Appends b c waiting → Appends a c whole
lines_sent {X} front line a b c xs i waiting whole is le so_far out = grind (arith, common_steps, take_all, sent_at_last)

-- ---- the lines of a history

abbrev pub entry_line : Entry → List ℕ
entry_line entry = event_line entry.event

entry_lines : (entries : List Entry) → flat_map entry_line entries ≡ flat_map event_line (events_of entries)
entry_lines entries = sym (flat_map-map event_line (λ (entry : Entry). entry.event) entries)

-- the heading and the lines of a history's events are its text
pub whole_text : (size mutators : ℕ) (entries : List Entry) → trace_heading (least_version (events_of entries)) size mutators ++ flat_map entry_line entries ≡ trace_text (least_trace size mutators (events_of entries))
unfolding trace_text
whole_text size mutators entries = ap (λ (t : List ℕ). trace_heading (least_version (events_of entries)) size mutators ++ t) (entry_lines entries)
