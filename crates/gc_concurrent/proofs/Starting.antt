-- Where objects start does not change, and no field of one object is a word of another.
use Rattle.std.proofs.Common.{◌≡◌, ◌⊎◌, inl, inr, ⊎_elim, ℕ, ◌+◌, ◌<◌, ◌≤◌, true, List, [], ◌∷◌, length, is_some, refl, ap, sym, ◌∙◌, arith}
use Rattle.std.specs.Prelude.{slice_index, IsOk, IsSome}
use Rattle.std.proofs.lemmas.Bool.{cases_eq, cases_lt}
use Rattle.std.proofs.lemmas.List.{get_or-set_other, get_or_append_left}
use Rattle.gc_words.specs.Image.{blocks, block_in, field_at, fresh_block, is_start, walk_words}
use Rattle.gc_words.specs.Layout.{field_place}
use Rattle.gc_words.specs.Space.{SpaceWords, IsSpace, CanPlace, end_of, with_field_at, with_link, with_object}
use Rattle.gc_words.specs.Spelling.{block_words}
use Rattle.gc_words.specs.declared.header.Header.{Header}
use Rattle.gc_words.proofs.Public.{field_beside, field_read, laid_out_words, link_written, objects_apart, placed_beside}
use Rattle.gc_model.specs.Members.{In}
use Rattle.gc_model.proofs.Public.{in_left, in_right}
use Rattle.gc_concurrent.specs.Internal.Told.{Event, Put, Make, after_all, CouldHappen, written_by}
use Rattle.gc_concurrent.proofs.Told.{field_stays, long_after, space_after}

-- ---- starts that were there before

pub field_start_back : (s : SpaceWords) (c j x : ℕ) → IsSpace s → IsSome (field_at s.words c j) → (a : ℕ) → is_start (with_field_at s c j x).words a ≡ true → is_start s.words a ≡ true
field_start_back s c j x space has a start = ⊎_elim
    (λ same. let f = field_read s.words c j space.walked has in ap (is_start s.words) (sym same) ∙ ap is_some f.found)
    (λ other. sym (ap is_some (field_beside s c j x a space has other)) ∙ start)
    (cases_eq c a)

pub link_start : (s : SpaceWords) (c x : ℕ) → IsSpace s → is_start s.words c ≡ true → (a : ℕ) → is_start (with_link s c x).words a ≡ is_start s.words a
link_start s c x space start a = ap (λ bs. is_some (block_in bs a)) (link_written s c x space start).1

pub made_start_back : (s : SpaceWords) (h : Header) → CanPlace s h → (a : ℕ) → is_start (with_object s h).words a ≡ true → (end_of s ≡ a) ⊎ (is_start s.words a ≡ true)
made_start_back s h can a start = ⊎_elim (λ e. inl e) (λ other. inr (sym (ap is_some (placed_beside s h a can other)) ∙ start)) (cases_eq (end_of s) a)

pub starts_back : (s : SpaceWords) (es : List Event) → CouldHappen s es → (a : ℕ) → a < length s.words → is_start (after_all s es).words a ≡ true → is_start s.words a ≡ true
starts_back s [] could a low start = start
starts_back s (Put c j w ∷ es) could a low start = starts_back s es could.1 a low (field_start_back (after_all s es) c j w (space_after s es could.1) could.0 a start)
starts_back s (Make h ∷ es) could a low start = ⊎_elim
    (λ (e : end_of (after_all s es) ≡ a). absurd (let l = long_after s es in omega arith))
    (λ still. starts_back s es could.1 a low still)
    (made_start_back (after_all s es) h could.0 a start)

-- ---- fields apart

pub field_no_start : (words : List ℕ) (a i : ℕ) → IsOk (walk_words words) → IsSome (field_at words a i) → is_start words (field_place a i) ≡ true → ⊥
field_no_start words a i ok has start =
    let f = field_read words a i ok has in
    let past : a + (f.block.header.len + 2) ≤ field_place a i = objects_apart (blocks words) 1 a (field_place a i) f.block (laid_out_words words ok) f.found start (omega arith) in
    let inside = f.has_field in omega arith

pub same_object : (words : List ℕ) (a x i j : ℕ) → IsOk (walk_words words) → IsSome (field_at words a i) → IsSome (field_at words x j) → field_place a i ≡ field_place x j → a ≡ x
same_object words a x i j ok e f same =
    let p = field_read words a i ok e in
    let q = field_read words x j ok f in
    let m = p.has_field in
    let n = q.has_field in
    ⊎_elim (λ is. is) (λ other. ⊎_elim
    (λ less. absurd (let past : a + (p.block.header.len + 2) ≤ x = objects_apart (blocks words) 1 a x p.block (laid_out_words words ok) p.found (ap is_some q.found) less in omega arith))
    (λ more. absurd (let past : x + (q.block.header.len + 2) ≤ a = objects_apart (blocks words) 1 x a q.block (laid_out_words words ok) q.found (ap is_some p.found) (omega arith) in omega arith))
    (cases_lt a x))
    (cases_eq a x)

-- a field that no event wrote has the word that it had
pub field_unwritten : (s : SpaceWords) (es : List Event) → CouldHappen s es → (a i : ℕ) → IsSome (field_at s.words a i) → (In {X = ℕ × ℕ} (a, i) (written_by es) → ⊥)
    → slice_index (after_all s es).words (field_place a i) ≡ slice_index s.words (field_place a i)
field_unwritten s [] could a i has none = refl
field_unwritten s (Put c j w ∷ es) could a i has none =
    get_or-set_other (after_all s es).words (field_place c j) (field_place a i) w 0 (λ e.
    let is : a ≡ c = same_object (after_all s es).words a c i j (space_after s es could.1).walked (field_stays s es a i could.1 has) could.0 e in
    let fields : i ≡ j = (let e' : field_place a i ≡ field_place c j = e in omega arith) in
    none (in_right (a, i) (written_by es) ((c, j) ∷ []) (inl (λ k. (sym is k, sym fields k)))))
    ∙ field_unwritten s es could.1 a i has (λ h. none (in_left (a, i) (written_by es) ((c, j) ∷ []) h))
field_unwritten s (Make h ∷ es) could a i has none =
    get_or_append_left (after_all s es).words (block_words 0 (fresh_block h)) 0 (field_place a i) (field_read (after_all s es).words a i (space_after s es could.1).walked (field_stays s es a i could.1 has)).within
    ∙ field_unwritten s es could.1 a i has none
