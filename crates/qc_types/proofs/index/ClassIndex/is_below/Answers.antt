use Rattle.std.proofs.Common.{◌≡◌, ◌∙◌, ap, None, rules, Some, sym}
use Rattle.qc_types.specs.Classes.{is_in}
use Rattle.qc_types.specs.inner.Places.{path, place_of}
use Rattle.qc_types.proofs.Places.{chain_is, place_within}
use Rattle.qc_types.proofs.Paths.{never, on_name}
use Rattle.qc_types.proofs.index.ClassIndex.is_below.Goals as goal

pub returns-in_default : goal.returns-in_default
returns-in_default c =
    let k = c.args.self.now in
    let none : c.place.result ≡ None = search rules in
    sym (never k c.args.a.now c.args.b.now
    (ap (place_of k) (sym c.as_str.ensures.text) ∙ sym c.place.ensures.value ∙ none))

pub is_on_path-requires-clause-place : goal.is_on_path-requires-clause-place
is_on_path-requires-clause-place c =
    let k = c.args.self.now in place_within k c.args.a.now c.in-Some-place.place
    (ap (place_of k) (sym c.as_str-2.ensures.text) ∙ sym c.in-Some-place.ensures.value)

pub returns-in-Some-place : goal.returns-in-Some-place
returns-in-Some-place c =
    let k = c.args.self.now in
    let above = ap (place_of k) (sym c.as_str.ensures.text) ∙ sym c.in-Some.ensures.value in
    let at = c.in-Some-place.ensures.value ∙ ap (place_of k) c.as_str-2.ensures.text in
    c.is_on_path.ensures ∙ on_name k c.args.b.now c.in-Some.above (Some c.in-Some-place.place) above
    ∙ ap (λ o. is_in c.args.b.now (path k o)) at ∙ ap (is_in c.args.b.now) (sym (chain_is k c.args.a.now))

pub returns-in-None : goal.returns-in-None
returns-in-None c =
    let k = c.args.self.now in
    let at = c.in-None.ensures.value ∙ ap (place_of k) c.as_str-2.ensures.text in
    ap (λ o. is_in c.args.b.now (path k o)) at ∙ ap (is_in c.args.b.now) (sym (chain_is k c.args.a.now))
