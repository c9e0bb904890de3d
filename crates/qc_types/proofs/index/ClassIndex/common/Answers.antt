use Rattle.std.proofs.Common.{◌≡◌, ◌∙◌, ap, false, rules, sym}
use Rattle.std.specs.Str.{bytes_eq}
use Rattle.qc_types.specs.inner.Places.{place_of}
use Rattle.qc_types.proofs.Places.{place_within}
use Rattle.qc_types.proofs.Paths.{common_at, no_first, no_second}
use Rattle.qc_types.proofs.index.ClassIndex.common.Goals as goal

pub returns-in_err-first : goal.returns-in_err-first
returns-in_err-first c =
    let k = c.args.self.now in
    let f : c.eq.result ≡ false = search rules in
    let differ : bytes_eq c.args.a.now c.args.b.now ≡ false =
    (λ i. bytes_eq (sym c.as_str.ensures.text i) (sym c.as_str-2.ensures.text i)) ∙ sym c.eq.ensures ∙ f in
    rw c.from_residual.ensures (no_first k c.args.a.now c.args.b.now differ
    (ap (place_of k) (sym c.as_str-3.ensures.text) ∙ sym c.in_err-first.ensures.value))

pub returns-in_err-second : goal.returns-in_err-second
returns-in_err-second c =
    let k = c.args.self.now in
    let f : c.eq.result ≡ false = search rules in
    let differ : bytes_eq c.args.a.now c.args.b.now ≡ false =
    (λ i. bytes_eq (sym c.as_str.ensures.text i) (sym c.as_str-2.ensures.text i)) ∙ sym c.eq.ensures ∙ f in
    rw c.from_residual-in_err-second.ensures
    (no_second k c.args.a.now c.args.b.now differ
    (ap (place_of k) (sym c.as_str-4.ensures.text) ∙ sym c.in_err-second.ensures.value))

pub meet-requires-clause-a : goal.meet-requires-clause-a
meet-requires-clause-a c =
    let k = c.args.self.now in place_within k c.args.a.now c.in_ok-first.first
    (ap (place_of k) (sym c.as_str-3.ensures.text) ∙ sym c.in_ok-first.ensures.value)

pub meet-requires-clause-b : goal.meet-requires-clause-b
meet-requires-clause-b c =
    let k = c.args.self.now in place_within k c.args.b.now c.in_ok-second.second
    (ap (place_of k) (sym c.as_str-4.ensures.text) ∙ sym c.in_ok-second.ensures.value)

pub returns : goal.returns
returns c =
    let k = c.args.self.now in
    let f : c.eq.result ≡ false = search rules in
    let differ : bytes_eq c.args.a.now c.args.b.now ≡ false =
    (λ i. bytes_eq (sym c.as_str.ensures.text i) (sym c.as_str-2.ensures.text i)) ∙ sym c.eq.ensures ∙ f in
    let p = ap (place_of k) (sym c.as_str-3.ensures.text) ∙ sym c.in_ok-first.ensures.value in
    let q = ap (place_of k) (sym c.as_str-4.ensures.text) ∙ sym c.in_ok-second.ensures.value in
    c.name.ensures ∙ c.meet.ensures ∙ sym
    (common_at k c.args.a.now c.args.b.now differ c.in_ok-first.first c.in_ok-second.second p q)
