-- The fields follow the object's link, as many as its header says, and end within the words.
use Rattle.std.proofs.lemmas.Grind.{common_steps}
use Rattle.std.proofs.Common.{◌≡◌, ℕ, ◌+◌, ◌-◌, ◌≤◌, length, take, drop, Some, sym, ◌∙◌, ap, subst, arith}
use Rattle.gc_words.specs.Image.{Block, header_at, header_of, block_at}
use Rattle.gc_words.specs.Space.{SpaceWords, IsSpace}
use Rattle.gc_words.specs.Internal.Walking.{StandsIn}
use Rattle.gc_words.specs.declared.header.Header.{Header}
use Rattle.gc_words.proofs.Starts.{stands_in}
use Rattle.gc_words.proofs.Writes.{some_of}
use Rattle.gc_words.proofs.space.Space.fields.Goals as goal

-- where the fields end, within the words
within : (s t : SpaceWords) (a : ℕ) (h : Header) → s ≡ t → IsSpace s → (b : Block) → block_at t.words a ≡ Some b → header_at t.words a ≡ Some h → a + 2 + h.len ≤ length s.words
within s t a h same space b found header =
    let stands : StandsIn t.words a b = stands_in t.words a b (subst IsSpace same space).walked found in
    let is : b.header ≡ h = (let both : Some b.header ≡ Some h = sym (ap header_of found) ∙ header in cc) in
    let fits : a + (b.header.len + 2) ≤ length t.words = stands.fits in
    omega (arith, fits, ap (λ (h : Header). h.len) is, ap (λ (s : SpaceWords). length s.words) same)

pub slice_bounds-result-end : goal.slice_bounds-result-end
slice_bounds-result-end c = grind (arith, common_steps, some_of, within)

-- the words from the first field on, as many as the header says
pub returns-clause-value : goal.returns-clause-value
returns-clause-value c = λ b found.
    let stands : StandsIn c.args.self.now.words c.args.at.0 b = stands_in c.args.self.now.words c.args.at.0 b (subst IsSpace c.self.view_is c.self.invariant.0).walked found in
    let is : b.header ≡ c.header.result = (let both : Some b.header ≡ Some c.header.result = sym (ap header_of found) ∙ c.header.ensures in cc) in
    let words : c.deref.result.now ≡ c.args.self.now.words = c.deref.ensures.value ∙ ap (λ (s : SpaceWords). s.words) c.self.view_is in
    let start : c.field_index-start.result ≡ c.args.at.0 + 2 = omega (arith, c.field_index-start.ensures) in
    let count : c.field_index-start.result + c.from.result - c.field_index-start.result ≡ b.header.len = omega (arith, c.from.ensures, c.len.ensures, ap (λ (h : Header). h.len) is) in
    (λ i. take (count i) (drop (start i) (words i))) ∙ sym stands.fields
