-- A turn compares the rest of a replica, and passes it.
use Rattle.std.proofs.Common.{◌≡◌, ◌⊎◌, inl, inr, suc, ◌+◌, ◌-◌, ◌≤◌, true, Some, IsFalse, ap, sym, subst, ◌∙◌, refl, arith}
use Rattle.std.proofs.lemmas.Bool.{cases_Bool, cases_lt}
use Rattle.gc_words.specs.declared.header.Header.{Header}
use Rattle.gc_monitor.specs.Tables.{Tables}
use Rattle.gc_monitor.specs.Runs.{LookRun}
use Rattle.gc_monitor.proofs.Runs.{looks_join, rest_run}
use Rattle.gc_monitor.proofs.monitor.Monitor.look_all.Goals as goal

pub returns-then-not-look_rest-clause-stays : goal.returns-then-not-look_rest-clause-stays
returns-then-not-look_rest-clause-stays c first can =
    let h = c.in-Some.header in
    let place = c.loop-place.place in
    let field = c.loop-place.field in
    let less = c.loop-place-test.true in
    let run = c.loop-place.invariant.1 in
    let go = (can run.0 place field c.loop-place.self run.1).0 (inl less) in
    let one : go.header ≡ h = (let e : Some go.header ≡ Some h = sym go.is ∙ c.in-Some.ensures.1 in cc) in
    elim (cases_Bool h.raw) [
      | inl raw ↦ ap (λ (t : Tables). t.lost) (c.look_rest.ensures.raw raw) ∙ c.loop-place.invariant.0
      | inr plain ↦ c.look_rest.ensures.stays plain
          (elim (cases_lt h.len field) [
            | inl more ↦ (let look = go.looks (ap (λ (x : Header). x.raw) one ∙ plain) (λ last. omega (arith, more, last, ap (λ (x : Header). x.len) one)) in
                let same : look.0 ≡ h = (let e : Some look.0 ≡ Some h = sym look.2.header ∙ c.in-Some.ensures.1 in cc) in
                absurd (omega (arith, more, look.2.has_field, ap (λ (x : Header). x.len) same)))
            | inr few ↦ few
          ])
          (λ k mid small looks.
          let joined = looks_join c.args.old.now c.args.new.now c.args.to c.args.end run.0 c.args.at c.args.i c.args.self.now place field c.loop-place.self h run.1 c.in-Some.ensures.1 plain k mid (λ j l. inl less) looks in
          let next = (can joined.0 place (field + k) mid joined.1).0 (inl less) in
          let same : next.header ≡ h = (let e : Some next.header ≡ Some h = sym next.is ∙ c.in-Some.ensures.1 in cc) in
          next.looks (ap (λ (x : Header). x.raw) same ∙ plain) (λ last. omega (arith, small, last, ap (λ (x : Header). x.len) same)))
    ]

pub returns-then-from-to-clause-stays : goal.returns-then-from-to-clause-stays
returns-then-from-to-clause-stays c first can =
    let h = c.in-Some.header in
    let less = c.loop-place-test.true in
    let found : IsFalse c.look_rest.new.self.lost = c.look_rest.ensures.found c.if-not-look_rest.false in
    let run = c.loop-place.invariant.1 in
    let rest = rest_run c.args.old.now c.args.new.now c.args.to c.args.end run.0 c.args.at c.args.i c.args.self.now c.loop-place.place c.loop-place.field c.loop-place.self h run.1 c.in-Some.ensures.1 less
    c.look_rest.new.self c.look_rest.ensures.raw (λ plain. c.look_rest.ensures.looked plain found) in
    let go = (can rest.0 c.loop-place.place rest.1 c.look_rest.new.self rest.2).0 (inl less) in
    let one : h ≡ go.header = (let e : Some h ≡ Some go.header = sym c.in-Some.ensures.1 ∙ go.is in cc) in
    let past : c.loop-place.place + (go.header.len + 2) ≤ c.args.to = go.passes (subst (λ (x : Header). (x.raw ≡ true) ⊎ (rest.1 ≡ x.len)) one rest.3) in
    absurd (omega (arith, past, less, ap (λ (x : Header). x.len) one, c.if-from-to.true, c.from.ensures, c.len.ensures))

pub loop-place-preserved : goal.loop-place-preserved
loop-place-preserved c =
    let h = c.in-Some.header in
    let less = c.loop-place-test.true in
    let found : IsFalse c.look_rest.new.self.lost = c.look_rest.ensures.found c.if-not-look_rest.false in
    let run = c.loop-place.invariant.1 in
    let rest = rest_run c.args.old.now c.args.new.now c.args.to c.args.end run.0 c.args.at c.args.i c.args.self.now c.loop-place.place c.loop-place.field c.loop-place.self h run.1 c.in-Some.ensures.1 less
    c.look_rest.new.self c.look_rest.ensures.raw (λ plain. c.look_rest.ensures.looked plain found) in
    let is : c.loop-place.place + (c.from-in-loop-place.result + 2) ≡ c.loop-place.place + (h.len + 2) = ap (λ n. c.loop-place.place + (n + 2)) (c.from-in-loop-place.ensures ∙ c.len-in-loop-place.ensures) in
    let low : c.loop-place.place + (c.from-in-loop-place.result + 2) ≤ c.args.to = omega (arith, less, c.from-in-loop-place.ensures, c.len-in-loop-place.ensures, c.if-from-to.false, c.from.ensures, c.len.ensures) in (
      found,
      (suc rest.0, (c.loop-place.place, rest.1, c.look_rest.new.self, rest.2, (inl less, (h, c.in-Some.ensures.1, inr (rest.3, is, low, refl, refl))))),
    )

pub returns-then-field-end-2-clause-looked : goal.returns-then-field-end-2-clause-looked
returns-then-field-end-2-clause-looked c = λ found.
    let run = c.loop-place.invariant.1 in
    let at : c.loop-place.place ≡ c.args.to = c.if-place-to.false in
    let looked = c.look_last.ensures.looked found in
    let here = subst (λ n. LookRun c.args.old.now c.args.new.now c.args.to c.args.end run.0 c.args.at c.args.i c.args.self.now n c.loop-place.field c.loop-place.self) at run.1 in
    let n = c.args.end - c.loop-place.field in
    let joined = looks_join c.args.old.now c.args.new.now c.args.to c.args.end run.0 c.args.at c.args.i c.args.self.now c.args.to c.loop-place.field c.loop-place.self looked.0 here looked.1 looked.2 n c.look_last.new.self
    (λ j l. inr (refl, omega (arith, l))) looked.3 in
    let all : c.loop-place.field + n ≡ c.args.end = omega (arith, c.if-field-end-2.true) in
    (joined.0, subst (λ k. LookRun c.args.old.now c.args.new.now c.args.to c.args.end joined.0 c.args.at c.args.i c.args.self.now c.args.to k c.look_last.new.self) all joined.1)

pub returns-then-field-end-2-clause-stays : goal.returns-then-field-end-2-clause-stays
returns-then-field-end-2-clause-stays c first can =
    let run = c.loop-place.invariant.1 in
    let at : c.loop-place.place ≡ c.args.to = c.if-place-to.false in
    let field = c.loop-place.field in
    let here = subst (λ n. LookRun c.args.old.now c.args.new.now c.args.to c.args.end run.0 c.args.at c.args.i c.args.self.now n field c.loop-place.self) at run.1 in
    let go = (can run.0 c.args.to field c.loop-place.self here).0 (inr (refl, c.if-field-end-2.true)) in
    elim (cases_Bool go.header.raw) [
      | inl raw ↦ absurd (let past : c.args.to + (go.header.len + 2) ≤ c.args.to = go.passes (inl raw) in omega arith)
      | inr plain ↦ c.look_last.ensures.stays go.header go.within go.is plain (λ k mid small looks.
          let joined = looks_join c.args.old.now c.args.new.now c.args.to c.args.end run.0 c.args.at c.args.i c.args.self.now c.args.to field c.loop-place.self go.header here go.is plain k mid (λ j l. inr (refl, omega (arith, l, small))) looks in
          let next = (can joined.0 c.args.to (field + k) mid joined.1).0 (inr (refl, small)) in
          let same : next.header ≡ go.header = (let e : Some next.header ≡ Some go.header = sym next.is ∙ go.is in cc) in
          next.looks (ap (λ (x : Header). x.raw) same ∙ plain) (λ last. (let past : c.args.to + (next.header.len + 2) ≤ c.args.to = next.passes (inr last) in omega arith)))
    ]
