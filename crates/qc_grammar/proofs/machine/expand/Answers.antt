use Rattle.std.proofs.Common.{◌++◌, ◌∷◌, ◌+◌, ap, arith}
use Rattle.qc_grammar.specs.inner.Certificate.{rules}
use Rattle.qc_grammar.specs.inner.Machine.{table, body_at, left}
use Rattle.qc_grammar.proofs.Bodies.{opened}
use Rattle.qc_grammar.proofs.Facts.{exact}
use Rattle.qc_grammar.proofs.Steps.{act, go, fail, shrink}
use Rattle.qc_grammar.proofs.machine.expand.Goals as goal

pub places-preserved-in-Some-Action : goal.places-preserved-in-Some-Action
places-preserved-in-Some-Action g c = let o = table c.args.table in λ kinds rest n r.
    act (rules o g.notes) o kinds c.args.at c.in-Some-Action.action (left o (c.places.place ∷ c.places.stack))
    (left o ((c.places.place + 2) ∷ c.places.stack)) c.in-Some-Action.field-0 rest c.places.events c.add.new.self
    (opened o c.places.place c.places.stack c.in-Some-Action.field-0 c.in-Some-Action.ensures.same)
    c.in-Some-Action.field-0-is c.in_ok-add-in-Some-Action.ensures.ok (c.places.invariant kinds rest n r)

pub places-smaller-in-Some : goal.places-smaller-in-Some
places-smaller-in-Some g c = let o = table c.args.table in
    omega (
      arith,
      c.in_ok-keep-in-Some.ensures.few,
      shrink (rules o g.notes) o g.notes c.in-Some-Rule.rule c.args.next (left o (c.places.place ∷ c.places.stack))
          (left o ((c.places.place + 2) ∷ c.places.stack)) (left o (c.in-Some.chosen ∷ c.keep.new.stack))
          (body_at o c.in-Some.chosen) c.in-Some-Rule.field-0 (exact o g.notes c.requires)
          (opened o c.places.place c.places.stack c.in-Some-Rule.field-0 c.in-Some-Rule.ensures.same)
          c.in-Some-Rule.field-0-is c.in-Some.ensures
          (ap (λ z. body_at o c.in-Some.chosen ++ z) c.in_ok-keep-in-Some.ensures.same),
    )

pub places-preserved-in-Some : goal.places-preserved-in-Some
places-preserved-in-Some g c = let o = table c.args.table in λ kinds rest n r.
    go (rules o g.notes) o kinds c.args.at c.in-Some-Rule.rule c.args.next (left o (c.places.place ∷ c.places.stack))
    (left o ((c.places.place + 2) ∷ c.places.stack)) (left o (c.in-Some.chosen ∷ c.keep.new.stack))
    (body_at o c.in-Some.chosen) c.in-Some-Rule.field-0 rest c.places.events
    (opened o c.places.place c.places.stack c.in-Some-Rule.field-0 c.in-Some-Rule.ensures.same)
    c.in-Some-Rule.field-0-is c.in-Some.ensures n
    (ap (λ z. body_at o c.in-Some.chosen ++ z) c.in_ok-keep-in-Some.ensures.same) (c.places.invariant kinds rest n r)

pub returns-in-None-choose : goal.returns-in-None-choose
returns-in-None-choose g c = let o = table c.args.table in λ kinds rest n r.
    fail (rules o g.notes) o kinds g.notes c.args.at c.in-Some-Rule.rule c.args.next
    (left o (c.places.place ∷ c.places.stack)) (left o ((c.places.place + 2) ∷ c.places.stack))
    c.in-Some-Rule.field-0 rest c.places.events (exact o g.notes c.requires)
    (opened o c.places.place c.places.stack c.in-Some-Rule.field-0 c.in-Some-Rule.ensures.same)
    c.in-Some-Rule.field-0-is c.in-None-choose.ensures n (c.places.invariant kinds rest n r)
