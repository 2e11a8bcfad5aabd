-- A word is a reference to the address exactly if the reference that is read from it is this one.
use Rattle.std.proofs.Common.{rules, ◌≡◌, ◌<◌, ◌^◌, Some, None, true, false, ap, sym, ◌∙◌}
use Rattle.std.proofs.lemmas.Bool.{eqb-true, eq-eqb}
use Rattle.gc_check.proofs.visits.is_reference.Goals as goal

pub returns-in_default : goal.returns-in_default
returns-in_default c =
    ((λ e. absurd (let no : false ≡ true = e in cc)), (λ e. absurd (let no : None ≡ Some c.args.address = sym (search rules) ∙ (c.reference_at.ensures c.args.address (search rules)).1 e in cc)))

pub returns : goal.returns
returns c =
    let low : c.args.address < 2 ^ 32 = search rules in (
      (λ e. (c.reference_at.ensures c.args.address low).0 (c.in-Some.is ∙ ap Some (eqb-true c.in-Some.found c.args.address e))),
      (λ e. eq-eqb c.in-Some.found c.args.address (let both : Some c.in-Some.found ≡ Some c.args.address = sym c.in-Some.is ∙ (c.reference_at.ensures c.args.address low).1 e in cc)),
    )
