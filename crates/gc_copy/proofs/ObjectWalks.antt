-- Loops over the objects of a space meet each object once, in order.
use Rattle.std.proofs.lemmas.Grind.{common_steps}
use Rattle.std.proofs.Common.{◌≡◌, ℕ, ◌<◌, ◌≤◌, true, List, [], ◌∷◌, ◌++◌, map, length, Some, refl, ap, sym, ◌∙◌, subst, arith, append_assoc, length-append, inl}
use Rattle.std.specs.Prelude.{◌^◌, IsOk}
use Rattle.std.specs.Result.{result_unwrap_or}
use Rattle.std.proofs.lemmas.List.{map-append}
use Rattle.gc_words.specs.Image.{Block, blocks, is_start}
use Rattle.gc_words.specs.Spelling.{link_at}
use Rattle.gc_words.specs.Space.{SpaceWords, IsSpace}
use Rattle.gc_words.specs.Views.{addresses}
use Rattle.gc_words.specs.Walking.{next_of}
use Rattle.gc_words.proofs.Public.{walk_from, block_from, Behind, behind, has_next, some_of}
use Rattle.gc_words.specs.declared.image.Pair.{Pair}
use Rattle.gc_model.specs.State.{Replica}
use Rattle.gc_model.specs.Members.{In}
use Rattle.gc_copy.specs.Words.{replica_entry, replicas_in}
use Rattle.gc_model.proofs.Public.{in_right, in_map}
use Rattle.gc_copy.proofs.Spaces.{in_start}

-- ---- the walk so far

-- the objects passed so far; the walk continues from here
pub record Met (words : List ℕ) (at : ℕ) (done : List (ℕ × Block)) : Type 0 where
  pub split : blocks words ≡ done ++ result_unwrap_or (walk_from words at) []
  pub walked : IsOk (walk_from words at)
  pub few : length done < at
  pub within : at ≤ length words

pub met_none : (space : SpaceWords) → IsSpace space → Met space.words 1 []
met_none space is = grind (arith, common_steps)

-- the object here, and the walk after it
pub record Passing (words : List ℕ) (at next : ℕ) (done : List (ℕ × Block)) : Type 0 where
  pub block : Block
  pub found : In {X = ℕ × Block} (at, block) (blocks words)
  pub met : Met words next (done ++ (at, block) ∷ [])
  pub on : at < next

pub passing : (words : List ℕ) (at next : ℕ) (done : List (ℕ × Block)) → Met words at done → at < length words → next_of words at ≡ Some next → Passing words at next done
passing words at next done m less e =
    let b : Behind words at next = behind words at next less m.walked e in
    let block : Block = block_from words at b.step.header in
    let split : blocks words ≡ done ++ (at, block) ∷ result_unwrap_or (walk_from words next) [] = m.split ∙ ap (λ bs. done ++ bs) b.objects in
    let place = b.step.place in
    let few = m.few in
    record {
      block = block;
      found = subst (In (at, block)) (sym split) (in_right (at, block) done ((at, block) ∷ result_unwrap_or (walk_from words next) []) (inl refl));
      met = record {
        split = split ∙ sym (append_assoc done ((at, block) ∷ []) (result_unwrap_or (walk_from words next) []));
        walked = b.walked;
        few = omega (arith, length-append done ((at, block) ∷ []));
        within = b.step.within;
      };
      on = omega arith;
    }

-- an object starts here
pub start_met : (words : List ℕ) (at : ℕ) (done : List (ℕ × Block)) → Met words at done → at < length words → is_start words at ≡ true
start_met words at done m less =
    let n = some_of (next_of words at) (has_next words at less m.walked) in
    let p : Passing words at n.0 done = passing words at n.0 done m less n.1 in
    in_start words (at, p.block) p.found

-- ---- what loops maintain

abbrev pub pair_of : Replica → ℕ × ℕ
pair_of r = (r.original, r.place)

abbrev pub Lists : List ℕ → ℕ → List Pair → Type 0
Lists words at pairs = (done : List (ℕ × Block)) × Met words at done × (map addresses pairs ≡ map pair_of (map (replica_entry words) done))

pub lists_more : (words : List ℕ) (at next : ℕ) (pairs more : List Pair) (pair : Pair) → Lists words at pairs → at < length words → next_of words at ≡ Some next → addresses pair ≡ (link_at words at, at) → more ≡ pairs ++ pair ∷ [] → Lists words next more
lists_more words at next pairs more pair k less e is after =
    let p : Passing words at next k.0 = passing words at next k.0 k.1 less e in (
      k.0 ++ (at, p.block) ∷ [],
      p.met,
      ap (map addresses) after
          ∙ map-append addresses pairs (pair ∷ [])
          ∙ (λ i. k.2 i ++ is i ∷ [])
          ∙ sym (ap (map pair_of) (map-append (replica_entry words) k.0 ((at, p.block) ∷ [])) ∙ map-append pair_of (map (replica_entry words) k.0) (replica_entry words (at, p.block) ∷ [])),
    )

-- the original that the link of the object here leads to
pub link_small : (words : List ℕ) (at : ℕ) (done : List (ℕ × Block)) → ((r : Replica) → In r (replicas_in words) → r.original < 2 ^ 32) → Met words at done → at < length words → link_at words at < 2 ^ 32
link_small words at done small m less =
    let n = some_of (next_of words at) (has_next words at less m.walked) in
    let p : Passing words at n.0 done = passing words at n.0 done m less n.1 in
    small (replica_entry words (at, p.block)) (in_map (replica_entry words) (at, p.block) (blocks words) p.found)
