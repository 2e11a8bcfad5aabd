-- A text has one reading: one trace, or one first fault.
use Rattle.std.proofs.lemmas.Grind.{common_steps}
use Rattle.std.proofs.Common.{◌≡◌, ◌≢◌, ℕ, ◌+◌, List, [], ◌∷◌, ◌++◌, length, refl, sym, ap, ◌∙◌, arith, append_assoc, subst}
use Rattle.std.specs.List.{AllByRecursion, flat_map}
use Rattle.std.proofs.lemmas.List.{append-nil}
use Rattle.std.proofs.lemmas.List.Concat.{flat_map-cons}
use Rattle.gc_text.specs.Lines.{newline, joined}
use Rattle.gc_model.specs.declared.event.Event.{Event}
use Rattle.gc_trace.specs.Grammar.{Recording, event_tokens, event_line, trace_heading, trace_text, HasLine, IsOf, IsRecording, IsTraceText}
use Rattle.gc_trace.specs.Faults.{HasNoHeading, GoodBefore, BeginsWithNoEvent, HasBadLine, HasStranger, IsTraceFaultOf, IsReadAsTrace}
use Rattle.gc_trace.specs.declared.fault.TraceFault.{TraceFault}
use Rattle.gc_trace.specs.declared.fault.TraceFault.TheVariants.{Read, TooLarge, BadHeader, BadLine, NoSuchMutator, NoMemory}
use Rattle.gc_trace.proofs.Headings.{heading_injective, small_heading}
use Rattle.gc_trace.proofs.NamedEvents.{named_event, event_again}
use Rattle.gc_trace.proofs.EventLines.{event_line-more, tokens_of-event, HasNo-event}
use Rattle.gc_text.proofs.Public.{one_cut, tokens_of}

-- two event lines at the start of the same text are the same
event_line_injective : (version : ℕ) (e d : Event) (x y : List ℕ) → HasLine version e → HasLine version d → event_line e ++ x ≡ event_line d ++ y → (e ≡ d) × (x ≡ y)
event_line_injective version e d x y p q same =
    let cut = one_cut newline (joined (event_tokens e)) x (joined (event_tokens d)) y (HasNo-event version e p) (HasNo-event version d q) (sym (event_line-more e x) ∙ same ∙ event_line-more d y) in
    let tokens : event_tokens e ≡ event_tokens d = sym (tokens_of-event version e p) ∙ ap tokens_of cut.0 ∙ tokens_of-event version d q in
    (sym (event_again version e p) ∙ ap named_event tokens ∙ event_again version d q, cut.1)

-- ---- the end of the good lines

-- the text does not begin with an event line of a trace of this version and number of mutators
abbrev pub Stops : ℕ → ℕ → List ℕ → Type 0
Stops version mutators rest = (event : Event) (more : List ℕ) → HasLine version event → IsOf mutators event → rest ≢ event_line event ++ more

abbrev Fit : ℕ → ℕ → List Event → Type 0
Fit version mutators events = AllByRecursion (λ event. HasLine version event × IsOf mutators event) events

abbrev lines : List Event → List ℕ
lines events = flat_map event_line events

lines_more : (e : Event) (es : List Event) (x : List ℕ) → lines (e ∷ es) ++ x ≡ event_line e ++ (lines es ++ x)
lines_more e es x = ap (λ (t : List ℕ). t ++ x) (flat_map-cons event_line e es) ∙ append_assoc (event_line e) (lines es) x

same_stop : (v m : ℕ) (es ds : List Event) (x y : List ℕ) → Fit v m es → Fit v m ds → Stops v m x → Stops v m y → lines es ++ x ≡ lines ds ++ y → (es ≡ ds) × (x ≡ y)
same_stop v m [] [] x y p q stop stop' same = (refl, same)
same_stop v m [] (d ∷ ds) x y p q stop stop' same = absurd (stop d (lines ds ++ y) q.0.0 q.0.1 (same ∙ lines_more d ds y))
same_stop v m (e ∷ es) [] x y p q stop stop' same = absurd (stop' e (lines es ++ x) p.0.0 p.0.1 (sym same ∙ lines_more e es x))
same_stop v m (e ∷ es) (d ∷ ds) x y p q stop stop' same =
    let one = event_line_injective v e d (lines es ++ x) (lines ds ++ y) p.0.0 q.0.0 (sym (lines_more e es x) ∙ same ∙ lines_more d ds y) in
    let rest = same_stop v m es ds x y p.1 q.1 stop stop' one.1 in
    (rw (one.0, rest.0) refl, rest.1)

-- the lines of this trace, and a rest that does not begin with another event line
abbrev StopsAt : Recording → List ℕ → List ℕ → Type 0
StopsAt t rest text = IsRecording t × (text ≡ trace_text t ++ rest) × Stops t.version t.mutators rest

abbrev together : ℕ → ℕ → ℕ → List Event → Recording
together v s m events = record { version = v; size = s; mutators = m; events = events }

one_stop : (t u : Recording) (x y text : List ℕ) → StopsAt t x text → StopsAt u y text → (t ≡ u) × (x ≡ y)
unfolding trace_text
one_stop t u x y text p q =
    let l : text ≡ trace_heading t.version t.size t.mutators ++ (lines t.events ++ x) = p.1 ∙ append_assoc (trace_heading t.version t.size t.mutators) (lines t.events) x in
    let r : text ≡ trace_heading u.version u.size u.mutators ++ (lines u.events ++ y) = q.1 ∙ append_assoc (trace_heading u.version u.size u.mutators) (lines u.events) y in
    let head = heading_injective t.version t.size t.mutators u.version u.size u.mutators (lines t.events ++ x) (lines u.events ++ y) (small_heading t.version t.size t.mutators p.0.heading) (small_heading u.version u.size u.mutators q.0.heading) (sym l ∙ r) in
    let fit : Fit u.version u.mutators t.events = subst (λ (v : ℕ). Fit v u.mutators t.events) head.0.version (subst (λ (m : ℕ). Fit t.version m t.events) head.0.mutators p.0.events) in
    let stop : Stops u.version u.mutators x = subst (λ (v : ℕ). Stops v u.mutators x) head.0.version (subst (λ (m : ℕ). Stops t.version m x) head.0.mutators p.2) in
    let rest = same_stop u.version u.mutators t.events u.events x y fit q.0.events stop q.2 head.1 in (
      ap (λ (v : ℕ). together v t.size t.mutators t.events) head.0.version ∙ ap (λ (s : ℕ). together u.version s t.mutators t.events) head.0.size
          ∙ ap (λ (m : ℕ). together u.version u.size m t.events) head.0.mutators ∙ ap (together u.version u.size u.mutators) rest.0,
      rest.1,
    )

some_cut : (a b : List ℕ) → a ++ newline ∷ b ≢ []
some_cut [] b e = cc
some_cut (x ∷ a) b e = cc

line_some : (e : Event) (more : List ℕ) → event_line e ++ more ≢ []
line_some e more is = some_cut (joined (event_tokens e)) more (sym (event_line-more e more) ∙ is)

good_stop : (t : Recording) (text : List ℕ) → IsTraceText t text → StopsAt t [] text
good_stop t text p = (p.recording, p.spelled ∙ sym (append-nil (trace_text t)), λ e more _ _ is. line_some e more (sym is))

before_parts : (text : List ℕ) (n : ℕ) (t : Recording) (rest : List ℕ) → GoodBefore text n t rest → text ≡ trace_text t ++ rest
before_parts text n t rest b = b.parts ∙ ap (λ (l : List ℕ). l ++ rest) b.good.spelled

abbrev BadStop : List ℕ → ℕ → Type 0
BadStop text n = (t : Recording) × (rest : List ℕ) × StopsAt t rest text × (n ≡ 3 + length t.events) × (rest ≢ []) × BeginsWithNoEvent t.version rest

bad_stop : (text : List ℕ) (n : ℕ) → HasBadLine text n → BadStop text n
bad_stop text n h = grind (arith, common_steps, before_parts)

abbrev StrangeStop : List ℕ → ℕ → Type 0
StrangeStop text n = (t : Recording) × (e : Event) × (more : List ℕ) × StopsAt t (event_line e ++ more) text × (n ≡ 3 + length t.events) × HasLine t.version e

strange_stop : (text : List ℕ) (n : ℕ) → HasStranger text n → StrangeStop text n
strange_stop text n (t, e, more, before, fits, strange) = (
  t,
  e,
  more,
  (
    before.good.recording,
    before_parts text n t (event_line e ++ more) before,
    λ d rest p of is.
        let same = event_line_injective t.version e d more rest fits p is in
        strange (subst (λ (c : Event). IsOf t.mutators c) (sym same.0) of),
  ),
  before.number,
  fits,
)

-- ---- one reading

pub one_value : (t u : Recording) (text : List ℕ) → IsTraceText t text → IsTraceText u text → t ≡ u
one_value t u text p q = (one_stop t u [] [] text (good_stop t text p) (good_stop u text q)).0

headed : (t : Recording) (x text : List ℕ) → StopsAt t x text → HasNoHeading text → ⊥
unfolding trace_text
headed t x text p none = none t.version t.size t.mutators (lines t.events ++ x) p.0.heading (p.1 ∙ append_assoc (trace_heading t.version t.size t.mutators) (lines t.events) x)

good_bad : (t : Recording) (text : List ℕ) (n : ℕ) → IsTraceText t text → HasBadLine text n → ⊥
good_bad t text n p h =
    let b = bad_stop text n h in
    b.4 (sym (one_stop t b.0 [] b.1 text (good_stop t text p) b.2).1)

good_strange : (t : Recording) (text : List ℕ) (n : ℕ) → IsTraceText t text → HasStranger text n → ⊥
good_strange t text n p h =
    let b = strange_stop text n h in
    line_some b.1 b.2 (sym (one_stop t b.0 [] (event_line b.1 ++ b.2) text (good_stop t text p) b.3).1)

pub no_fault : (t : Recording) (fault : TraceFault) (text : List ℕ) → IsReadAsTrace t text → IsTraceFaultOf fault text → ⊥
no_fault t Read text p q = q
no_fault t TooLarge text p q = omega (arith, p.1, q)
no_fault t BadHeader text p q = headed t [] text (good_stop t text p.0) q.1
no_fault t (BadLine n) text p q = good_bad t text n p.0 q.1
no_fault t (NoSuchMutator n) text p q = good_strange t text n p.0 q.1
no_fault t NoMemory text p q = q

bad_bad : (text : List ℕ) (n m : ℕ) → HasBadLine text n → HasBadLine text m → n ≡ m
bad_bad text n m h k =
    let a = bad_stop text n h in
    let b = bad_stop text m k in
    let same = (one_stop a.0 b.0 a.1 b.1 text a.2 b.2).0 in
    a.3 ∙ ap (λ (t : Recording). 3 + length t.events) same ∙ sym b.3

strange_strange : (text : List ℕ) (n m : ℕ) → HasStranger text n → HasStranger text m → n ≡ m
strange_strange text n m h k =
    let a = strange_stop text n h in
    let b = strange_stop text m k in
    let same = (one_stop a.0 b.0 (event_line a.1 ++ a.2) (event_line b.1 ++ b.2) text a.3 b.3).0 in
    a.4 ∙ ap (λ (t : Recording). 3 + length t.events) same ∙ sym b.4

bad_strange : (text : List ℕ) (n m : ℕ) → HasBadLine text n → HasStranger text m → ⊥
bad_strange text n m h k =
    let a = bad_stop text n h in
    let b = strange_stop text m k in
    let same = one_stop a.0 b.0 a.1 (event_line b.1 ++ b.2) text a.2 b.3 in
    a.5 b.1 b.2 (subst (λ (t : Recording). HasLine t.version b.1) (sym same.0) b.5) same.1

bad_headed : (text : List ℕ) (n : ℕ) → HasBadLine text n → HasNoHeading text → ⊥
bad_headed text n h none = let a = bad_stop text n h in headed a.0 a.1 text a.2 none

strange_headed : (text : List ℕ) (n : ℕ) → HasStranger text n → HasNoHeading text → ⊥
strange_headed text n h none = let a = strange_stop text n h in headed a.0 (event_line a.1 ++ a.2) text a.3 none

pub one_fault : (f g : TraceFault) (text : List ℕ) → IsTraceFaultOf f text → IsTraceFaultOf g text → f ≡ g
one_fault Read g text p q = absurd p
one_fault NoMemory g text p q = absurd p
one_fault TooLarge Read text p q = absurd q
one_fault TooLarge NoMemory text p q = absurd q
one_fault TooLarge TooLarge text p q = refl
one_fault TooLarge BadHeader text p q = absurd (omega (arith, p, q.0))
one_fault TooLarge (BadLine m) text p q = absurd (omega (arith, p, q.0))
one_fault TooLarge (NoSuchMutator m) text p q = absurd (omega (arith, p, q.0))
one_fault BadHeader Read text p q = absurd q
one_fault BadHeader NoMemory text p q = absurd q
one_fault BadHeader TooLarge text p q = absurd (omega (arith, q, p.0))
one_fault BadHeader BadHeader text p q = refl
one_fault BadHeader (BadLine m) text p q = absurd (bad_headed text m q.1 p.1)
one_fault BadHeader (NoSuchMutator m) text p q = absurd (strange_headed text m q.1 p.1)
one_fault (BadLine n) Read text p q = absurd q
one_fault (BadLine n) NoMemory text p q = absurd q
one_fault (BadLine n) TooLarge text p q = absurd (omega (arith, q, p.0))
one_fault (BadLine n) BadHeader text p q = absurd (bad_headed text n p.1 q.1)
one_fault (BadLine n) (BadLine m) text p q = ap BadLine (bad_bad text n m p.1 q.1)
one_fault (BadLine n) (NoSuchMutator m) text p q = absurd (bad_strange text n m p.1 q.1)
one_fault (NoSuchMutator n) Read text p q = absurd q
one_fault (NoSuchMutator n) NoMemory text p q = absurd q
one_fault (NoSuchMutator n) TooLarge text p q = absurd (omega (arith, q, p.0))
one_fault (NoSuchMutator n) BadHeader text p q = absurd (strange_headed text n p.1 q.1)
one_fault (NoSuchMutator n) (BadLine m) text p q = absurd (bad_strange text m n q.1 p.1)
one_fault (NoSuchMutator n) (NoSuchMutator m) text p q = ap NoSuchMutator (strange_strange text n m p.1 q.1)
