-- How much of a text an event reader has read.
use Rattle.std.proofs.Common.{◌≡◌, ◌≢◌, ℕ, ◌+◌, List, [], ◌∷◌, ◌++◌, drop, refl, sym, ap, ◌∙◌, arith, subst, append_assoc, Option, Some}
use Rattle.std.specs.Prelude.{codes}
use Rattle.std.specs.Fmt.{decimal}
use Rattle.std.specs.List.{AllByRecursion}
use Rattle.gc_text.specs.Lines.{HasNo, newline, joined, ended}
use Rattle.gc_text.specs.Reading as reading
use Rattle.gc_text.specs.Reading.{Place, start, IsAt, HasTakenLine, NoneIsFirst}
use Rattle.gc_text.specs.declared.read_fault.ReadFault.{ReadFault}
use Rattle.gc_text.specs.declared.read_fault.ReadFault.TheVariants as reads
use Rattle.gc_text.proofs.Public.{HasNo-name, HasNo-decimal, HasNo-joined, one_cut}
use Rattle.gc_model.specs.declared.event.Event.{Event}
use Rattle.gc_trace.specs.Grammar.{Recording, trace_heading, event_tokens, event_line, IsHeading, HasLine, IsOf, IsRecording}
use Rattle.gc_trace.specs.Internal.Headings.{first_line, second_line, IsVersion, AreWorldSizes}
use Rattle.gc_trace.specs.Faults.{trace_limit, HasNoHeading, GoodBefore, HasStranger, HasBadLine, BeginsWithNoEvent, ReadingMayFail}
use Rattle.gc_trace.specs.declared.fault.TraceFault.TheVariants.{TooLarge}
use Rattle.gc_trace.specs.Internal.Faults.{trace_fault_of}
use Rattle.gc_trace.specs.Internal.Reading.{IsReadingTrace, HasRead, read_so_far}
use Rattle.gc_trace.specs.declared.event_reader.EventReader.{EventReader}
use Rattle.gc_graph.proofs.Public.{all_push}
use Rattle.gc_trace.proofs.EventLines.{event_line-more}
use Rattle.gc_trace.proofs.Total.{made_of, good_start, good_more}

-- ---- faults of reading

pub may_fail : (fault : ReadFault) (most : ℕ) (text : List ℕ) (left : Option (List ℕ)) → most ≡ trace_limit → reading.CannotRead fault most text left → ReadingMayFail (trace_fault_of fault) text
may_fail reads.Read most text left is h = tt
may_fail reads.TooLarge most text left is h = (rw is at h).0
may_fail reads.NoMemory most text left is h = tt

pub stops : (fault : ReadFault) (most : ℕ) (text : List ℕ) (left : Option (List ℕ)) → most ≡ trace_limit → reading.CannotRead fault most text left → trace_fault_of fault ≡ TooLarge → left ≡ Some (drop (trace_limit + 1) text)
stops reads.Read most text left is h large = absurd cc
stops reads.TooLarge most text left is h large = (rw is at h).1
stops reads.NoMemory most text left is h large = absurd cc

-- ---- the heading

heading_more : (version size mutators : ℕ) (more : List ℕ) → trace_heading version size mutators ++ more ≡ first_line version ++ newline ∷ (second_line (size, mutators) ++ newline ∷ more)
unfolding trace_heading
heading_more version size mutators more =
    append_assoc (ended (first_line version)) (ended (second_line (size, mutators))) more
    ∙ append_assoc (first_line version) (newline ∷ []) (ended (second_line (size, mutators)) ++ more)
    ∙ ap (λ (t : List ℕ). first_line version ++ newline ∷ t) (append_assoc (second_line (size, mutators)) (newline ∷ []) more)

first_whole : (version : ℕ) → IsVersion version → HasNo newline (first_line version)
first_whole version fits = HasNo-joined (codes "heaptrace" ∷ decimal version ∷ []) (HasNo-name newline (codes "heaptrace") (omega arith) refl, (HasNo-decimal newline version (omega arith) (omega (arith, fits)), tt))

-- no version is first
pub no_version : (text : List ℕ) → NoneIsFirst IsVersion first_line text → HasNoHeading text
no_version text none version size mutators more fits is = none version (second_line (size, mutators) ++ newline ∷ more) (fits.0, fits.1) (is ∙ heading_more version size mutators more)

-- no sizes follow the version
pub no_sizes : (text : List ℕ) (version : ℕ) (behind : Place) → IsVersion version → HasTakenLine (first_line version) (start text) behind → NoneIsFirst AreWorldSizes second_line behind.rest → HasNoHeading text
no_sizes text version behind is_version taken none other size mutators more fits is =
    let same = one_cut newline (first_line version) behind.rest (first_line other) (second_line (size, mutators) ++ newline ∷ more) (first_whole version is_version) (first_whole other (fits.0, fits.1)) (sym taken.parts ∙ is ∙ heading_more other size mutators more) in
    none (size, mutators) more (fits.2, fits.3, fits.4, fits.5) same.1

pub heading_read : (text : List ℕ) (r : EventReader) (one two : Place) (left : Option (List ℕ)) → IsHeading r.version r.size r.mutators → HasTakenLine (first_line r.version) (start text) one → HasTakenLine (second_line (r.size, r.mutators)) one two → IsAt text two r.lines left
    → HasRead text [] r left
heading_read text r one two left fits first second at =
    let parts : text ≡ trace_heading r.version r.size r.mutators ++ two.rest
    = first.parts ∙ ap (λ (t : List ℕ). first_line r.version ++ newline ∷ t) second.parts ∙ sym (heading_more r.version r.size r.mutators two.rest) in
    record {
      place = two;
      at = at;
      good = subst (λ (n : ℕ). GoodBefore text n (read_so_far r []) two.rest) (omega (arith, first.number, second.number)) (good_start text two.rest r.version r.size r.mutators fits parts);
    }

-- ---- events

-- the line of an event
abbrev line_of : Event → List ℕ
line_of event = joined (event_tokens event)

no_event_line : (version : ℕ) (text : List ℕ) → NoneIsFirst (HasLine version) line_of text → BeginsWithNoEvent version text
no_event_line version text none event more fits is = none event more fits (is ∙ event_line-more event more)

behind_event : (event : Event) (old new : Place) → HasTakenLine (line_of event) old new → old.rest ≡ event_line event ++ new.rest
behind_event event old new taken = taken.parts ∙ sym (event_line-more event new.rest)

-- one more event
pub event_read : (text : List ℕ) (events : List Event) (r next : EventReader) (before left : Option (List ℕ)) (event : Event) (h : HasRead text events r before) (place : Place) → HasLine r.version event → IsOf r.mutators event → read_so_far next [] ≡ read_so_far r [] → HasTakenLine (line_of event) h.place place → IsAt text place next.lines left
    → HasRead text (events ++ event ∷ []) next left
event_read text events r next before left event h place fits of same taken at =
    let good = good_more text (h.place.taken + 1) r.version r.size r.mutators events h.place.rest event place.rest h.good fits of (behind_event event h.place place taken) in
    record {
      place = place;
      at = at;
      good = subst (λ (n : ℕ). GoodBefore text n (read_so_far next (events ++ event ∷ [])) place.rest) (omega (arith, taken.number))
          (subst (λ (t : Recording). GoodBefore text (h.place.taken + 1 + 1) (made_of t.version t.size t.mutators (events ++ event ∷ [])) place.rest) (sym same) good);
    }

-- an event of a mutator that does not exist
pub stranger_read : (text : List ℕ) (events : List Event) (r : EventReader) (left : Option (List ℕ)) (event : Event) (h : HasRead text events r left) (place : Place) (n : ℕ) → HasLine r.version event → ¬ IsOf r.mutators event → HasTakenLine (line_of event) h.place place → n ≡ place.taken
    → HasStranger text n
stranger_read text events r left event h place n fits strange taken is =
    let number : h.place.taken + 1 ≡ n = omega (arith, taken.number, is) in
    (read_so_far r events, event, place.rest, subst (λ (m : ℕ). GoodBefore text m (read_so_far r events) (event_line event ++ place.rest)) number (subst (GoodBefore text (h.place.taken + 1) (read_so_far r events)) (behind_event event h.place place taken) h.good), fits, strange)

-- a line that is no event's
pub bad_line : (text : List ℕ) (events : List Event) (r : EventReader) (left : Option (List ℕ)) (h : HasRead text events r left) (n : ℕ) → h.place.rest ≢ [] → NoneIsFirst (HasLine r.version) line_of h.place.rest → n ≡ h.place.taken + 1 → HasBadLine text n
bad_line text events r left h n some none is = (read_so_far r events, h.place.rest, subst (λ (m : ℕ). GoodBefore text m (read_so_far r events) h.place.rest) (sym is) h.good, some, no_event_line r.version h.place.rest none)

-- ---- all events of a text

-- each event can happen
abbrev AllCan : EventReader → List Event → Type 0
AllCan r events = AllByRecursion (λ event. HasLine r.version event × IsOf r.mutators event) events

-- reading more does not change the heading
pub same_heading : (r next : EventReader) (events : List Event) → read_so_far next [] ≡ read_so_far r [] → read_so_far next events ≡ read_so_far r events
same_heading r next events same = ap (λ (t : Recording). made_of t.version t.size t.mutators events) same

pub all_can : (r next : EventReader) (events : List Event) (event : Event) → read_so_far next [] ≡ read_so_far r [] → AllCan r events → HasLine r.version event × IsOf r.mutators event → AllCan next (events ++ event ∷ [])
all_can r next events event same all can =
    subst (λ (t : Recording). AllByRecursion (λ e. HasLine t.version e × IsOf t.mutators e) (events ++ event ∷ [])) (sym same)
    (all_push (λ e. HasLine r.version e × IsOf r.mutators e) events event all can)

pub still_recording : (r next : EventReader) (events : List Event) → read_so_far next [] ≡ read_so_far r [] → IsReadingTrace r → AllCan r events → IsRecording (read_so_far next events)
still_recording r next events same reading all = subst IsRecording (sym (same_heading r next events same)) (record { heading = reading.heading; events = all })
