-- A walk over a space's words, one object at a time.
use Rattle.std.proofs.lemmas.Grind.{common_steps}
use Rattle.std.proofs.Common.{◌≡◌, ℕ, suc, zero, ◌+◌, ◌-◌, ◌<◌, ◌≤◌, Bool, true, false, cond, List, [], ◌∷◌, ◌++◌, length, take, drop, Option, Some, None, Result, Ok, Err, is_some, refl, sym, ◌∙◌, ap, subst, arith, length-drop, append_assoc}
use Rattle.std.specs.Prelude.{nat_le, slice_index, slice_set, IsOk, IsSome}
use Rattle.std.specs.Result.{result_err, result_unwrap_or}
use Rattle.std.specs.List.{AllByRecursion}
use Rattle.std.proofs.lemmas.Bool.{eq-eqb, ne_eqb, leb-true, leb-false, and_from, lt-leb}
use Rattle.std.proofs.lemmas.List.{drop_more, drop-drop, drop-set-lt, drop-set-add, drop-take, drop_all, take-append-drop, take-set-le, take-take}
use Rattle.gc_words.specs.Word.{header_in, header_word}
use Rattle.gc_words.specs.Image.{Block, walk, with_front, walk_all, block_in}
use Rattle.gc_words.specs.Spelling.{block_words, spelled_from}
use Rattle.gc_words.specs.Fault.{words_fault}
use Rattle.gc_words.specs.Walking.{next_after, next_in, next_of}
use Rattle.gc_words.specs.Internal.Walking.{walk_on, walk_from, block_from, StepsIn, StepsTo}
use Rattle.gc_words.specs.declared.header.Header.{Header}
use Rattle.gc_words.proofs.Writes.{some_of}
use Rattle.gc_words.proofs.Walks.{fields_in, starts_above, object_result, written_back}
use Rattle.gc_words.proofs.Starts.{ok_is}

-- ---- the walk passes over an object's words

pub passed : (raws : Bool) (k at : ℕ) (ws : List ℕ) → k ≤ length ws → walk raws k at ws ≡ walk raws 0 (at + k) (drop k ws)
passed raws zero at ws h = ap (λ n. walk raws 0 n ws) (omega arith)
passed raws (suc k) at [] h = absurd (omega arith)
passed raws (suc k) at (w ∷ ws) h = passed raws k (suc at) ws (omega arith) ∙ ap (λ n. walk raws 0 n (drop k ws)) (omega arith)

-- ---- one object

-- the words from a place on: the first, and the rest
opened : (words : List ℕ) (at : ℕ) → at < length words → drop at words ≡ slice_index words at ∷ drop (at + 1) words
opened words at h = drop_more words at 0 h

rest_length : (words : List ℕ) (at : ℕ) → at < length words → length (drop (at + 1) words) ≡ length words - (at + 1)
rest_length words at h = length-drop (at + 1) words

pub step : (raws : Bool) (words : List ℕ) (at next : ℕ) → at < length words → next_in raws words at ≡ Some next → StepsIn raws words at next
step raws words at next inside e = from (header_in raws (slice_index words at)) refl e
  where
    fits : (h : Header) (b : Bool) → nat_le (h.len + 2) (length words - at) ≡ b → cond b (Some (at + (h.len + 2))) None ≡ Some next → (h.len + 2 ≤ length words - at) × (at + (h.len + 2) ≡ next)
    fits h b t e = grind (arith, common_steps, leb-true)

    from : (o : Option Header) → header_in raws (slice_index words at) ≡ o → next_after at o (length words - at) ≡ Some next → StepsIn raws words at next
    from None is e = absurd (let no : None ≡ Some next = e in cc)
    from (Some h) is e =
        let f : (h.len + 2 ≤ length words - at) × (at + (h.len + 2) ≡ next) = fits h (nat_le (h.len + 2) (length words - at)) refl e in
        let rest : List ℕ = drop (at + 1) words in
        let count : length rest ≡ length words - (at + 1) = rest_length words at inside in
        let room : h.len + 1 ≤ length rest = (let r : h.len + 2 ≤ length words - at = f.0 in omega arith) in
        let n : next ≡ at + (h.len + 2) = sym f.1 in
        let fields : fields_in h rest ≡ take h.len (drop (at + 2) words) = ap (take h.len) (drop-drop 1 (at + 1) words) ∙ ap (λ n. take h.len (drop n words)) (omega arith) in
        record {
          header = h;
          word = is;
          place = n;
          within = (let r : h.len + 2 ≤ length words - at = f.0 in omega arith);
          walk_is = ap (walk raws 0 at) (opened words at inside)
              ∙ object_result raws at (slice_index words at) rest h is room
              ∙ ap (with_front (at, record { header = h; fields = fields_in h rest })) (passed raws (h.len + 1) (suc at) rest room
              ∙ ap (λ xs. walk raws 0 (suc at + (h.len + 1)) xs) (drop-drop (h.len + 1) (at + 1) words ∙ ap (λ n. drop n words) (omega arith))
              ∙ ap (λ n. walk raws 0 n (drop next words)) (omega arith))
              ∙ ap (λ fs. with_front (at, record { header = h; fields = fs }) (walk_on raws words next)) fields;
        }

pub no_step : (raws : Bool) (words : List ℕ) (at : ℕ) → at < length words → next_in raws words at ≡ None → walk_on raws words at ≡ Err at
no_step raws words at inside e = grind (arith, common_steps, leb-false, opened, rest_length, lt-leb)

-- a walk that reaches the end continues from each object
pub has_next : (words : List ℕ) (at : ℕ) → at < length words → IsOk (walk_from words at) → IsSome (next_of words at)
has_next words at inside ok = grind (arith, common_steps, no_step)

-- ---- after the last object

pub at_end : (words : List ℕ) (at : ℕ) → length words ≤ at → walk_from words at ≡ Ok []
at_end words at h = ap (walk true 0 at) (drop_all at words h)

-- ---- a walk's fault

fault_behind : (x : ℕ × Block) (r : Result (List (ℕ × Block)) ℕ) → result_err (with_front x r) ≡ result_err r
fault_behind x r = grind (arith, common_steps)

pub same_fault : (raws : Bool) (words : List ℕ) (at next : ℕ) → at < length words → next_in raws words at ≡ Some next → result_err (walk_on raws words at) ≡ result_err (walk_on raws words next)
same_fault raws words at next inside e = ap (λ r. result_err r) (step raws words at next inside e).walk_is ∙ fault_behind _ (walk_on raws words next)

-- there are as many words as the end says, and the first is 0
pub framed : (raws : Bool) (end : ℕ) (words : List ℕ) → length words ≡ end → slice_index words 0 ≡ 0 → words_fault raws end words ≡ result_err (walk_on raws words 1)
framed raws end words count reserved = ap (λ b. cond b (result_err (walk_all raws words)) (Some 0)) (and_from _ _ (eq-eqb _ _ count) (eq-eqb _ _ reserved))

-- ---- the objects after one

ok_behind : (x : ℕ × Block) (r : Result (List (ℕ × Block)) ℕ) → IsOk (with_front x r) → IsOk r × (result_unwrap_or (with_front x r) [] ≡ x ∷ result_unwrap_or r [])
ok_behind x r e = grind (arith, common_steps)

pub record Behind (words : List ℕ) (at next : ℕ) : Type 0 where
  pub step : StepsTo words at next
  pub walked : IsOk (walk_from words next)
  pub objects : result_unwrap_or (walk_from words at) [] ≡ (at, block_from words at step.header) ∷ result_unwrap_or (walk_from words next) []

pub behind : (words : List ℕ) (at next : ℕ) → at < length words → IsOk (walk_from words at) → next_of words at ≡ Some next → Behind words at next
behind words at next inside ok e =
    let s : StepsTo words at next = step true words at next inside e in
    let b : IsOk (walk_from words next) × (result_unwrap_or (with_front (at, block_from words at s.header) (walk_from words next)) [] ≡ (at, block_from words at s.header) ∷ result_unwrap_or (walk_from words next) [])
    = ok_behind _ (walk_from words next) (subst IsOk s.walk_is ok) in
    record { step = s; walked = b.0; objects = ap (λ r. result_unwrap_or r []) s.walk_is ∙ b.1 }

-- ---- whether an object starts at a place

abbrev pub has_start_from : List ℕ → ℕ → ℕ → Bool
has_start_from words at place = is_some (block_in (result_unwrap_or (walk_from words at) []) place)

pub start_behind : (words : List ℕ) (at next place : ℕ) → at < length words → at < place → IsOk (walk_from words at) → next_of words at ≡ Some next
    → has_start_from words at place ≡ has_start_from words next place
start_behind words at next place inside before ok e =
    let b : Behind words at next = behind words at next inside ok e in
    ap (λ bs. is_some (block_in bs place)) b.objects
    ∙ ap (λ t. is_some (cond t (Some (block_from words at b.step.header)) (block_in (result_unwrap_or (walk_from words next) []) place))) (ne_eqb at place (λ same. omega arith))

pub start_here : (words : List ℕ) (at : ℕ) → at < length words → IsOk (walk_from words at) → has_start_from words at at ≡ true
start_here words at inside ok =
    let n : (next : ℕ) × (next_of words at ≡ Some next) = some_of (next_of words at) (has_next words at inside ok) in
    let b : Behind words at n.0 = behind words at n.0 inside ok n.1 in
    ap (λ bs. is_some (block_in bs at)) b.objects
    ∙ ap (λ t. is_some (cond t (Some (block_from words at b.step.header)) (block_in (result_unwrap_or (walk_from words n.0) []) at))) (eq-eqb at at refl)

none_above : (bs : List (ℕ × Block)) (low place : ℕ) → place < low → AllByRecursion (λ b. low ≤ b.0) bs → block_in bs place ≡ None
none_above [] low place h all = refl
none_above (b ∷ bs) low place h all = grind (arith, common_steps, ne_eqb, none_above bs low place h all.1)

pub no_start_below : (words : List ℕ) (at place : ℕ) → place < at → IsOk (walk_from words at) → has_start_from words at place ≡ false
no_start_below words at place below ok =
    ap is_some (none_above (result_unwrap_or (walk_from words at) []) (at + 0) place (omega arith) (starts_above (drop at words) 0 at _ (ok_is (walk_from words at) ok)))

-- ---- setting links, one object at a time

-- the words up to a place, and the objects from there on with these links
abbrev pub relinked_from : (ℕ → ℕ) → List ℕ → ℕ → List ℕ
relinked_from links words at = take at words ++ spelled_from links (result_unwrap_or (walk_from words at) [])

pub take_add : (n k : ℕ) (xs : List ℕ) → take (n + k) xs ≡ take n xs ++ take k (drop n xs)
take_add n k xs = sym (take-append-drop n (take (n + k) xs)) ∙ (λ i. take-take n (n + k) xs (omega arith) i ++ drop-take n k xs i)

pub relinked_step : (links : ℕ → ℕ) (words : List ℕ) (at next : ℕ) → at < length words → IsOk (walk_from words at) → next_of words at ≡ Some next
    → let after = slice_set words (at + 1) (links at) in IsOk (walk_from after next) × (relinked_from links words at ≡ relinked_from links after next)
relinked_step links words at next inside ok e =
    let b : Behind words at next = behind words at next inside ok e in
    let h : Header = b.step.header in
    let after : List ℕ = slice_set words (at + 1) (links at) in
    let place : next ≡ at + (h.len + 2) = b.step.place in
    let within : next ≤ length words = b.step.within in
    let kept : drop next after ≡ drop next words = drop-set-lt next words (at + 1) (links at) (omega arith) in
    let same : walk_from after next ≡ walk_from words next = ap (walk true 0 next) kept in
    let word : header_word h ≡ slice_index words at = (written_back (slice_index words at) h b.step.word).1 in
    let two : at + 1 + 1 ≡ at + 2 = omega arith in
    let rest : List ℕ = drop (at + 2) words in
    let open_words : drop at words ≡ slice_index words at ∷ slice_index words (at + 1) ∷ rest
    = opened words at inside ∙ ap (λ xs. slice_index words at ∷ xs) (opened words (at + 1) (omega arith) ∙ ap (λ n. slice_index words (at + 1) ∷ drop n words) two) in
    let open_after : drop at after ≡ slice_index words at ∷ links at ∷ rest = drop-set-add at words 1 (links at) ∙ ap (λ xs. slice_set xs 1 (links at)) open_words in
    let size : h.len + 2 ≡ suc (suc h.len) = omega arith in
    let front : take next after ≡ take at words ++ (slice_index words at ∷ links at ∷ take h.len rest)
    = ap (λ n. take n after) place ∙ take_add at (h.len + 2) after
    ∙ (λ i. take-set-le at words (at + 1) (links at) (omega arith) i ++ take (size i) (open_after i)) in
    let block : List ℕ = block_words (links at) (block_from words at h) in (
      subst IsOk (sym same) b.walked,
      ap (λ bs. take at words ++ spelled_from links bs) b.objects
          ∙ sym (append_assoc (take at words) block (spelled_from links (result_unwrap_or (walk_from words next) [])))
          ∙ ap (λ w. (take at words ++ (w ∷ links at ∷ take h.len rest)) ++ spelled_from links (result_unwrap_or (walk_from words next) [])) word
          ∙ ap (λ xs. xs ++ spelled_from links (result_unwrap_or (walk_from words next) [])) (sym front)
          ∙ ap (λ r. take next after ++ spelled_from links (result_unwrap_or r [])) (sym same),
    )
