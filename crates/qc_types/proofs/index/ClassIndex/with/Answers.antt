use Rattle.std.proofs.Common.{◌≡◌, ◌∙◌, ap, refl, rules, subst, sym}
use Rattle.qc_containers.specs.Pairs.{lookup, put}
use Rattle.qc_types.specs.inner.Places.{IsJump, parent_place, place_of}
use Rattle.qc_types.proofs.Indexing.{done, fresh, is_absent, more_index, repeated, to_place}
use Rattle.qc_types.proofs.index.ClassIndex.with.Goals as goal

pub returns-then-is_some-clause-bad : goal.returns-then-is_some-clause-bad
returns-then-is_some-clause-bad c _ =
    repeated c.args.self c.as_str.result.now c.args.def.name c.place.result c.is_some.result c.place.ensures.value
    c.as_str.ensures.text c.is_some.ensures (search rules)

pub put-requires : goal.put-requires
put-requires c =
    let i = c.self.inside in
    let new : place_of c.args.self c.args.def.name ≡ _ =
    fresh c.args.self c.as_str.result.now c.args.def.name c.place.result c.is_some.result c.place.ensures.value
    c.as_str.ensures.text c.is_some.ensures (search rules) in
    record {
      absent = ap (λ n. lookup n i.places) c.in_ok-name.ensures
          ∙ is_absent i.entries i.places c.self.invariant c.args.def.name
          (ap (λ d. place_of d c.args.def.name) c.self.view_is ∙ new);
    }

pub invariant_of-result : goal.invariant_of-result
invariant_of-result c =
    let i = c.self.inside in
    let d = c.args.def in
    let new : place_of c.args.self d.name ≡ _ =
    fresh c.args.self c.as_str.result.now d.name c.place.result c.is_some.result c.place.ensures.value
    c.as_str.ensures.text c.is_some.ensures (search rules) in
    more_index i.entries i.places c.self.invariant d _ c.add.new.self c.put.new.self refl
    (c.place_over-parent.ensures ∙ ap (λ x. parent_place x d.parent) (sym c.self.view_is))
    (subst (λ x. IsJump x c.place_over-parent.result c.jump_over-jump.result) (sym c.self.view_is)
    c.jump_over-jump.ensures)
    c.in_ok-add.ensures.ok
    (done _ c.put.result c.is_err.result c.put.ensures.ok c.is_err.ensures.value (search rules)
    ∙ (λ k. put (c.in_ok-name.ensures k) (to_place (c.len-at.ensures k)) i.places))
    (ap (λ x. place_of x d.name) c.self.view_is ∙ new)
