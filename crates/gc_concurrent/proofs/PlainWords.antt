-- A space in plain words, and what a write there makes of it.
use Rattle.std.proofs.Common.{◌≡◌, ◌≢◌, ◌∙◌, ℕ, zero, suc, ◌+◌, ◌-◌, ◌/◌, ◌<◌, ◌≤◌, true, List, [], ◌∷◌, ◌++◌, length, get_or, set, take, drop, replicate, Some, refl, sym, ap, subst, arith, length-append, length-set, append_assoc}
use Rattle.std.specs.Prelude.{slice_index, IsSome}
use Rattle.std.proofs.lemmas.List.{drop_at, drop-replicate, drop-set-lt, get_or-take, get_or_read, length-replicate, length-take-le, replicate-append-replicate, set_at, take_at, take-append-drop, take-replicate}
use Rattle.gc_words.specs.Word.{IsHeader, header_word}
use Rattle.gc_words.specs.Image.{Block, block_at, field_at, fresh_block, is_start}
use Rattle.gc_words.specs.Spelling.{block_words}
use Rattle.gc_words.specs.Layout.{field_place, link_place}
use Rattle.gc_words.specs.Closed.{IsClosed, IsFieldWord}
use Rattle.gc_words.specs.Marks.{is_marked}
use Rattle.gc_words.specs.Space.{SpaceWords, IsSpace, CanPlace, HasRoomFor, with_field_at, with_link, with_object, with_word}
use Rattle.gc_words.specs.declared.header.Header.{Header}
use Rattle.gc_words.proofs.Public.{closed_empty, closed_field, closed_objects, closed_placed, field_read, field_written, link_written, placed}
use Rattle.gc_concurrent.specs.Internal.Plain.{IsRowOfSpace, space_in}
use Rattle.gc_concurrent.specs.Internal.Starts.{TellsStarts}
use Rattle.gc_concurrent.proofs.Marking.{marks_linked, marks_made, marks_none, marks_written}
use Rattle.gc_concurrent.proofs.Opening.{empty_shaped}
use Rattle.gc_concurrent.proofs.Writing.{link_within}

-- ---- a word is read

-- a word before the end is one of the row, and one of the space
pub record WordSeen (row : List ℕ) (t : SpaceWords) (place : ℕ) : Type 0 where
  pub inside : place < length row
  pub word : (x : ℕ) → x ≡ get_or row place x → x ≡ slice_index t.words place

pub word_seen : (row : List ℕ) (end : ℕ) (t : SpaceWords) (place : ℕ) → space_in row end ≡ t → end ≤ length row → place < length t.words → WordSeen row t place
word_seen row end t place same within low =
    let long : length (take end row) ≡ end = length-take-le end row within in
    let count : length (take end row) ≡ length t.words = ap (λ (s : SpaceWords). length s.words) same in
    let inside : place < length row = omega arith in
    record {
      inside = inside;
      word = λ x read. get_or_read row place x inside read 0 ∙ sym (get_or-take end row place 0 (omega arith)) ∙ ap (λ (s : SpaceWords). slice_index s.words place) same;
    }

-- ---- a word is written

-- the row is again that of a space, which is this one
pub record Becomes (row : List ℕ) (end : ℕ) (starts : List ℕ) (t : SpaceWords) : Type 0 where
  pub plain : IsRowOfSpace row end starts
  pub is : space_in row end ≡ t

take_of_set : (row : List ℕ) (end k w : ℕ) → k < end → take end (set row k w) ≡ set (take end row) k w
take_of_set row zero k w low = absurd (omega arith)
take_of_set [] (suc end) k w low = refl
take_of_set (x ∷ row) (suc end) zero w low = refl
take_of_set (x ∷ row) (suc end) (suc k) w low = ap (λ rest. x ∷ rest) (take_of_set row end k w (omega arith))

word_put : (row : List ℕ) (end : ℕ) (starts : List ℕ) (k w : ℕ) → IsRowOfSpace row end starts → k < length (take end row) → IsSpace (with_word (space_in row end) k w)
    → IsClosed (set (take end row) k w) [] → TellsStarts starts (set (take end row) k w) → Becomes (set row k w) end starts (with_word (space_in row end) k w)
word_put row end starts k w p low space closed marked =
    let within : end ≤ length row = p.within in
    let low' : k < end = (let long : length (take end row) ≡ end = length-take-le end row within in omega arith) in
    let long : length (set row k w) ≡ length row = length-set row k w in
    let words : take end (set row k w) ≡ set (take end row) k w = take_of_set row end k w low' in
    let same : space_in (set row k w) end ≡ with_word (space_in row end) k w = λ i. record { size = long i; words = words i } in
    record {
      plain = record {
        space = subst IsSpace (sym same) space;
        closed = subst (λ ws. IsClosed ws []) (sym words) closed;
        within = omega arith;
        free = drop-set-lt end row k w low' ∙ p.free ∙ ap (λ n. replicate (n - end) 0) (sym long);
        wide = (let wide : length row / 64 < length starts = p.wide in subst (λ n. n / 64 < length starts) (sym long) wide);
        marked = subst (TellsStarts starts) (sym words) marked;
      };
      is = same;
    }

-- a field is written
field_put_here : (row : List ℕ) (end : ℕ) (starts : List ℕ) (a i w : ℕ) → IsRowOfSpace row end starts → IsSome (field_at (take end row) a i)
    → ((b : Block) → block_at (take end row) a ≡ Some b → IsFieldWord (take end row) b.header w) → Becomes (set row (field_place a i) w) end starts (with_field_at (space_in row end) a i w)
field_put_here row end starts a i w p has fits =
    let s : SpaceWords = space_in row end in
    let f = field_read (take end row) a i p.space.walked has in
    word_put row end starts (field_place a i) w p f.within (field_written s a i w p.space has).0 (closed_field s a i w f.block [] p.space has f.found (fits f.block f.found) p.closed)
    (marks_written starts s a i w p.space has p.marked)

pub field_put : (row : List ℕ) (end : ℕ) (starts : List ℕ) (t : SpaceWords) (a i w place : ℕ) → space_in row end ≡ t → place ≡ field_place a i → IsRowOfSpace row end starts → IsSome (field_at t.words a i)
    → ((b : Block) → block_at t.words a ≡ Some b → IsFieldWord t.words b.header w) → Becomes (set row place w) end starts (with_field_at t a i w)
field_put row end starts t a i w place same at p has fits =
    let there : IsSome (field_at (take end row) a i) = subst (λ (z : SpaceWords). IsSome (field_at z.words a i)) (sym same) has in
    let may : (b : Block) → block_at (take end row) a ≡ Some b → IsFieldWord (take end row) b.header w
    = subst (λ (z : SpaceWords). (b : Block) → block_at z.words a ≡ Some b → IsFieldWord z.words b.header w) (sym same) fits in
    subst (λ (z : SpaceWords). Becomes (set row place w) end starts (with_field_at z a i w)) same
    (subst (λ k. Becomes (set row k w) end starts (with_field_at (space_in row end) a i w)) (sym at) (field_put_here row end starts a i w p there may))

-- a link is written
link_put_here : (row : List ℕ) (end : ℕ) (starts : List ℕ) (a w : ℕ) → IsRowOfSpace row end starts → is_start (take end row) a ≡ true
    → Becomes (set row (link_place a) w) end starts (with_link (space_in row end) a w)
link_put_here row end starts a w p start =
    let s : SpaceWords = space_in row end in
    let wrote = link_written s a w p.space start in
    word_put row end starts (link_place a) w p (link_within s a p.space start) wrote.0 (closed_objects (take end row) (with_link s a w).words [] wrote.1 p.closed) (marks_linked starts s a w p.space start p.marked)

pub link_put : (row : List ℕ) (end : ℕ) (starts : List ℕ) (t : SpaceWords) (a w : ℕ) → space_in row end ≡ t → IsRowOfSpace row end starts → is_start t.words a ≡ true
    → Becomes (set row (link_place a) w) end starts (with_link t a w)
link_put row end starts t a w same p start =
    subst (λ (z : SpaceWords). Becomes (set row (link_place a) w) end starts (with_link z a w)) same
    (link_put_here row end starts a w p (subst (λ (z : SpaceWords). is_start z.words a ≡ true) (sym same) start))

-- ---- an object is placed

object_words_counted : (words : List ℕ) (x n : ℕ) → length (words ++ x ∷ 0 ∷ replicate n 0) ≡ length words + (n + 2)
object_words_counted words x n = let zeros : List ℕ = replicate n 0 in let e : length zeros ≡ n = length-replicate n 0 in omega (arith, length-append words (x ∷ 0 ∷ zeros), e)

-- the header is written over the first free word
header_put : (words : List ℕ) (x n rest : ℕ) → set (words ++ 0 ∷ 0 ∷ replicate (n + rest) 0) (length words) x ≡ (words ++ x ∷ 0 ∷ replicate n 0) ++ replicate rest 0
header_put words x n rest =
    set_at words 0 (0 ∷ replicate (n + rest) 0) x (length words) refl
    ∙ ap (λ zs. words ++ x ∷ 0 ∷ zs) (sym (replicate-append-replicate n rest 0))
    ∙ sym (append_assoc words (x ∷ 0 ∷ replicate n 0) (replicate rest 0))

object_put_here : (row starts starts' : List ℕ) (end next : ℕ) (h : Header) → IsRowOfSpace row end starts → IsHeader h → HasRoomFor (space_in row end) h.len → next ≡ end + (h.len + 2)
    → length starts' ≡ length starts → is_marked starts' end ≡ true → ((other : ℕ) → other ≢ end → is_marked starts' other ≡ is_marked starts other)
    → Becomes (set row end (header_word h)) next starts' (with_object (space_in row end) h)
object_put_here row starts starts' end next h p is room at wide here others =
    let s : SpaceWords = space_in row end in
    let can : CanPlace s h = record { shaped = p.space; header = is; room = room } in
    let within : end ≤ length row = p.within in
    let x : ℕ = header_word h in
    let words : List ℕ = take end row in
    let long : length words ≡ end = length-take-le end row within in
    let fits : h.len + 2 ≤ length row - length words = room in
    let rest : ℕ = length row - next in
    let split : row ≡ words ++ 0 ∷ 0 ∷ replicate (h.len + rest) 0
    = sym (take-append-drop end row) ∙ ap (λ zs. words ++ zs) (p.free ∙ ap (λ n. replicate n 0) (let e : length row - end ≡ suc (suc (h.len + rest)) = omega arith in e)) in
    let all : set row end x ≡ (words ++ block_words 0 (fresh_block h)) ++ replicate rest 0
    = ap (λ l. set l end x) split ∙ ap (λ n. set (words ++ 0 ∷ 0 ∷ replicate (h.len + rest) 0) n x) (sym long) ∙ header_put words x h.len rest in
    let count : length (words ++ block_words 0 (fresh_block h)) ≡ next = (let c = object_words_counted words x h.len in omega arith) in
    let wrote : take next (set row end x) ≡ words ++ block_words 0 (fresh_block h) = ap (take next) all ∙ take_at (words ++ block_words 0 (fresh_block h)) (replicate rest 0) next count in
    let same_long : length (set row end x) ≡ length row = length-set row end x in
    let same : space_in (set row end x) next ≡ with_object s h = λ i. record { size = same_long i; words = wrote i } in
    record {
      plain = record {
        space = subst IsSpace (sym same) (placed s h can).0;
        closed = subst (λ ws. IsClosed ws []) (sym wrote) (closed_placed s h can [] p.closed);
        within = omega arith;
        free = ap (drop next) all ∙ drop_at (words ++ block_words 0 (fresh_block h)) (replicate rest 0) next count ∙ ap (λ n. replicate (n - next) 0) (sym same_long);
        wide = (let w : length row / 64 < length starts = p.wide in subst (λ n. n / 64 < length starts') (sym same_long) (omega arith));
        marked = subst (TellsStarts starts') (sym wrote) (marks_made starts starts' s h can (ap (is_marked starts') long ∙ here) (λ k other. others k (λ e. other (e ∙ sym long))) p.marked);
      };
      is = same;
    }

pub object_put : (row starts starts' bits : List ℕ) (end next x : ℕ) (t : SpaceWords) (h : Header) → space_in row end ≡ t → IsRowOfSpace row end starts → IsHeader h → HasRoomFor t h.len
    → x ≡ header_word h → next ≡ end + (h.len + 2) → starts' ≡ bits → length bits ≡ length starts → is_marked bits end ≡ true → ((other : ℕ) → other ≢ end → is_marked bits other ≡ is_marked starts other)
    → Becomes (set row end x) next starts' (with_object t h)
object_put row starts starts' bits end next x t h same p is room word at marks wide here others =
    subst (λ (z : SpaceWords). Becomes (set row end x) next starts' (with_object z h)) same
    (subst (λ (z : ℕ × List ℕ). Becomes (set row end z.0) next z.1 (with_object (space_in row end) h)) (λ i. (sym word i, sym marks i))
    (object_put_here row starts bits end next h p is (subst (λ (z : SpaceWords). HasRoomFor z h.len) (sym same) room) at wide here others))

-- ---- a new space

pub zeros_plain : (size : ℕ) (row starts : List ℕ) → 1 ≤ size → size ≤ 4294967295 → row ≡ replicate size 0 → starts ≡ replicate (size / 64 + 1) 0 → IsRowOfSpace row 1 starts
zeros_plain size row starts low high zeros none =
    let long : length row ≡ size = ap (length {A = ℕ}) zeros ∙ length-replicate size 0 in
    let count : length starts ≡ size / 64 + 1 = ap (length {A = ℕ}) none ∙ length-replicate (size / 64 + 1) 0 in
    let words : take 1 row ≡ 0 ∷ [] = ap (take 1) zeros ∙ take-replicate 1 size 0 low in
    record {
      space = subst IsSpace (λ i. record { size = sym long i; words = sym words i }) (empty_shaped size low high);
      closed = subst (λ ws. IsClosed ws []) (sym words) (closed_empty size 0);
      within = omega arith;
      free = ap (drop 1) zeros ∙ drop-replicate 1 size 0 ∙ ap (λ n. replicate (n - 1) 0) (sym long);
      wide = omega arith;
      marked = subst (λ (z : List ℕ × List ℕ). TellsStarts z.0 z.1) (λ i. (sym none i, sym words i)) (marks_none (size / 64 + 1));
    }
