use Rattle.std.proofs.Common.{◌≡◌, ◌∷◌, ◌++◌, [], Some, cond, ap, subst, sym, ◌∙◌, rules}
use Rattle.std.specs.Map.{lookup}
use Rattle.qc_keys.specs.Counts.{equal}
use Rattle.qc_seen.proofs.Gathered.{found_at, one_more_at, unwritten}
use Rattle.qc_seen.proofs.gathering.Gathering.add.Goals as goal

pub returns-in_err-add-clause-err : goal.returns-in_err-add-clause-err
returns-in_err-add-clause-err c =
    unwritten c.from_residual.result c.args.key.now c.self.inside.groups.entries c.args.self.now
    (c.get_mut.follows.lender c.add.new.self).entries c.in-Some.group.now c.add.new.self c.self.view_is
    c.in-Some.ensures.value c.in_err-add.ensures.err (c.get_mut.follows.holds c.add.new.self).0

pub returns-in-Some-clause-ok : goal.returns-in-Some-clause-ok
returns-in-Some-clause-ok c =
    one_more_at c.args.key.now c.args.item c.self.inside.groups.entries c.args.self.now
    (c.get_mut.follows.lender c.add.new.self).entries c.in-Some.group.now c.add.new.self c.self.view_is
    (found_at c.args.key.now c.self.inside.groups.entries _ c.in-Some.ensures.value) c.in_ok-add.ensures.ok
    ((c.get_mut.follows.holds c.add.new.self).3 (search rules)).0

pub returns-clause-ok : goal.returns-clause-ok
returns-clause-ok c =
    let map = c.get_mut.follows.lender-at-none in
    let kept = ap (λ m. m.entries) c.get_mut.follows.holds-at-none in
    one_more_at c.args.key.now c.args.item map.entries c.args.self.now c.insert.new.self.entries [] c.add-2.new.self
    (kept ∙ c.self.view_is)
    (found_at c.args.key.now map.entries _ (c.in_default.ensures.value ∙ ap (lookup (equal c.args.key.now)) (sym kept)))
    (c.in_ok-add-2.ensures.ok ∙ ap (λ l. l ++ c.args.item ∷ []) c.new-group.ensures)
    (λ q. subst (λ k. lookup (equal q) c.insert.new.self.entries
    ≡ cond (equal k q) (Some c.add-2.new.self) (lookup (equal q) map.entries)) c.in_ok-copy.ensures
    (c.in_ok-insert.ensures.updates.0 q))
