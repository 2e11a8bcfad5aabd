-- A walk marks the starts of a space one after the other.
use Rattle.std.proofs.lemmas.Grind.{common_steps}
use Rattle.std.proofs.Common.{◌≡◌, ◌≢◌, ℕ, zero, suc, ◌-◌, ◌+◌, ◌/◌, ◌<◌, ◌≤◌, Bool, true, false, cond, ◌==◌, List, length, take, drop, replicate, Option, Some, None, Result, is_some, refl, sym, ◌∙◌, ap, subst, arith, []}
use Rattle.std.specs.Prelude.{slice_index, IsOk}
use Rattle.std.specs.Result.{result_unwrap_or}
use Rattle.std.proofs.lemmas.Bool.{eq-eqb, ne_eqb, cases_eq}
use Rattle.std.proofs.lemmas.List.{length-replicate}
use Rattle.gc_words.specs.Word.{header_in}
use Rattle.gc_words.specs.Image.{Block, walk_words, with_front, block_in, block_at, header_of, header_at, is_start}
use Rattle.gc_words.specs.Walking.{next_after, next_in, next_of}
use Rattle.gc_words.proofs.Public.{walk_from, block_from, StandsIn, step, Behind, behind, has_start_from, stands_in, header_counted, no_mark}
use Rattle.gc_words.specs.declared.header.Header.{Header}
use Rattle.gc_check.specs.Internal.Starts.{starts_from}
use Rattle.gc_words.specs.Marks.{is_marked}

-- if the walk reaches the end, the starts are the marked places and those still to come from `at` on
pub record MarksTo (words bits : List ℕ) (at : ℕ) : Type 0 where
  pub len : length bits ≡ length words / 64 + 1
  pub starts : IsOk (walk_from words at) → (place : ℕ) → cond (is_marked bits place) true (has_start_from words at place) ≡ is_start words place

pub nothing_at : (n a : ℕ) → slice_index (replicate n 0) a ≡ 0
nothing_at zero a = refl
nothing_at (suc n) zero = refl
nothing_at (suc n) (suc a) = nothing_at n a

-- nothing is marked, and the walk begins
pub none_marked : (words bits : List ℕ) → bits ≡ replicate (length words / 64 + 1) 0 → MarksTo words bits 1
none_marked words bits e = grind (arith, common_steps, length-replicate, no_mark, nothing_at)

-- an object is marked, and the walk continues after it
pub marks_next : (raws : Bool) (words bits after : List ℕ) (at next : ℕ) → at < length words → next_in raws words at ≡ Some next → length after ≡ length bits → is_marked after at ≡ true
    → ((other : ℕ) → other ≢ at → is_marked after other ≡ is_marked bits other) → MarksTo words bits at → MarksTo words after next
marks_next raws words bits after at next inside e long here_marked others before = record { len = long ∙ before.len; starts = starts }
  where
    next_counted : (o : Option Header) → header_in raws (slice_index words at) ≡ o → next_after at o (length words - at) ≡ Some next → next_of words at ≡ Some next
    next_counted o is e = grind (arith, common_steps, header_counted)

    step_is : next_of words at ≡ Some next
    step_is = next_counted (header_in raws (slice_index words at)) refl e

    ok_front : (x : ℕ × Block) (r : Result (List (ℕ × Block)) ℕ) → IsOk r → IsOk (with_front x r)
    ok_front x r ok = grind (arith, common_steps)

    walked : IsOk (walk_from words next) → IsOk (walk_from words at)
    walked ok = subst IsOk (sym (step true words at next inside step_is).walk_is) (ok_front _ (walk_from words next) ok)

    here : (ok : IsOk (walk_from words next)) (place : ℕ) (b : Bool) → (at == place) ≡ b → has_start_from words at place ≡ cond b true (has_start_from words next place)
    here ok place b e =
        let m : Behind words at next = behind words at next inside (walked ok) step_is in
        let block : Block = block_from words at m.step.header in
        ap (λ bs. is_some (block_in bs place)) m.objects
        ∙ ap (λ t. is_some (cond t (Some block) (block_in (result_unwrap_or (walk_from words next) []) place))) e
        ∙ first_of b block (block_in (result_unwrap_or (walk_from words next) []) place)
      where
        first_of : (b : Bool) (block : Block) (others : Option Block) → is_some (cond b (Some block) others) ≡ cond b true (is_some others)
        first_of b block others = grind (arith, common_steps)

    starts : IsOk (walk_from words next) → (place : ℕ) → cond (is_marked after place) true (has_start_from words next place) ≡ is_start words place
    starts ok place = grind (arith, common_steps, has_start_from, cases_eq, here, eq-eqb, walked, ne_eqb)

-- ---- an object starts at each mark

pub start_stands : (words : List ℕ) (place : ℕ) → IsOk (walk_words words) → is_start words place ≡ true → (b : Block) × (block_at words place ≡ Some b) × StandsIn words place b
start_stands words place ok start = from (block_at words place) refl start
  where
    from : (o : Option Block) → block_at words place ≡ o → is_some o ≡ true → (b : Block) × (block_at words place ≡ Some b) × StandsIn words place b
    from None e some = absurd (let no : false ≡ true = some in cc)
    from (Some b) e some = (b, e, stands_in words place b ok e)

pub low_start : (words : List ℕ) (place : ℕ) → IsOk (walk_words words) → is_start words place ≡ true → 1 ≤ place
low_start words place ok start = grind (arith, common_steps, start_stands)

pub start_within : (words : List ℕ) (place : ℕ) → IsOk (walk_words words) → is_start words place ≡ true → place < length words
start_within words place ok start = grind (arith, common_steps, start_stands)

pub no_start_past : (words : List ℕ) (place : ℕ) → IsOk (walk_words words) → length words ≤ place → is_start words place ≡ false
no_start_past words place ok past = grind (arith, common_steps, start_within)

-- the object with this header that starts here
pub header_stands : (words : List ℕ) (place : ℕ) (h : Header) → IsOk (walk_words words) → header_at words place ≡ Some h
    → (place + (h.len + 2) ≤ length words) × (block_at words place ≡ Some (record { header = h; fields = take h.len (drop (place + 2) words) }))
header_stands words place h ok e = from (block_at words place) refl e
  where
    from : (o : Option Block) → block_at words place ≡ o → header_of o ≡ Some h
        → (place + (h.len + 2) ≤ length words) × (block_at words place ≡ Some (record { header = h; fields = take h.len (drop (place + 2) words) }))
    from None is e = absurd (let no : None ≡ Some h = e in cc)
    from (Some b) is e =
        let s : StandsIn words place b = stands_in words place b ok is in
        let same : b.header ≡ h = (let is : Some b.header ≡ Some h = e in cc) in (
          subst (λ (h : Header). place + (h.len + 2) ≤ length words) same s.fits,
          is ∙ (λ i. Some (record { header = same i; fields = (s.fields ∙ ap (λ (h : Header). take h.len (drop (place + 2) words)) same) i })),
        )

-- ---- the number of starts

-- the places from one on, and those behind it
starts_step : (words : List ℕ) (place len : ℕ) → place < len
    → starts_from words place (len - place) ≡ cond (is_start words place) (suc (starts_from words (place + 1) (len - (place + 1)))) (starts_from words (place + 1) (len - (place + 1)))
starts_step words place len inside = grind (arith, common_steps)

pub start_counted : (words : List ℕ) (count place len whole : ℕ) → place < len → is_start words place ≡ true → count + starts_from words place (len - place) ≡ whole
    → count + 1 + starts_from words (place + 1) (len - (place + 1)) ≡ whole
start_counted words count place len whole inside start e = grind (arith, common_steps, step, starts_step)

pub none_counted : (words : List ℕ) (count place len whole : ℕ) → place < len → is_start words place ≡ false → count + starts_from words place (len - place) ≡ whole
    → count + starts_from words (place + 1) (len - (place + 1)) ≡ whole
none_counted words count place len whole inside none e = grind (arith, common_steps, step, starts_step)
