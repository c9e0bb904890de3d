use Rattle.std.proofs.Common.{◌≡◌, ◌∙◌, arith, rules, true, false, refl, sym}
use Rattle.qc_types.specs.Types.{fits}
use Rattle.qc_types.proofs.Fitting.{exact_is, step, wide_is}
use Rattle.qc_types.proofs.conforming.+conforms.Goals as goal
use Rattle.qc_types.proofs.conforming.+conforms.Goals.{fields_fit-in-Some+else-not-is_of, fields_fit-in-None}

pub fields_fit-returns-then-not-is_of : goal.fields_fit-returns-then-not-is_of
fields_fit-returns-then-not-is_of t c = let f : c.is_of.result ≡ false = search rules in
    sym (step (fits c.args.index.now) c.args.fields.now c.args.row.now c.as_slice-pair-items.result.now
    c.loop-pair.pair-index c.pair-item.result c.as_str.result.now _ _ false c.loop-pair.invariant.left
    c.loop-pair.invariant.whole c.loop-pair.invariant.rising
    (omega arith) c.pair-item.is c.as_str.ensures.text c.in-Some.ensures (sym c.is_of.ensures ∙ f))

pub fields_fit-loop-pair-preserved : goal.fields_fit-loop-pair-preserved
fields_fit-loop-pair-preserved t c = record {
  rising = c.loop-pair.invariant.rising;
  left = elim c.match-value_of.branch [
    | fields_fit-in-Some+else-not-is_of w ↦ let f : w.is_of.result ≡ true = search rules in
        step (fits c.args.index.now) c.args.fields.now c.args.row.now c.as_slice-pair-items.result.now
        c.loop-pair.pair-index c.pair-item.result c.as_str.result.now _ _ true c.loop-pair.invariant.left
        c.loop-pair.invariant.whole c.loop-pair.invariant.rising
        (omega arith) c.pair-item.is c.as_str.ensures.text w.in-Some.ensures (sym w.is_of.ensures ∙ f)
    | fields_fit-in-None w ↦
        step (fits c.args.index.now) c.args.fields.now c.args.row.now c.as_slice-pair-items.result.now
        c.loop-pair.pair-index c.pair-item.result c.as_str.result.now _ _ true c.loop-pair.invariant.left
        c.loop-pair.invariant.whole c.loop-pair.invariant.rising
        (omega arith) c.pair-item.is c.as_str.ensures.text w.in-None.ensures refl
  ];
  whole = c.loop-pair.invariant.whole;
}

pub is_of-returns-then-not-has_names : goal.is_of-returns-then-not-has_names
is_of-returns-then-not-has_names t c = let f : c.has_names.result ≡ false = search rules in
    wide_is c.args.index.now c.args.d.now c.args.t.now c.in-Rec-Rec.fields c.in-Rec-Rec.row c.has_names.result false
    (search rules) (search rules) c.has_names.ensures (rw f refl)

pub is_of-returns-else-not-is_same_names : goal.is_of-returns-else-not-is_same_names
is_of-returns-else-not-is_same_names t c = let f : c.is_same_names.result ≡ true = search rules in
    exact_is c.args.index.now c.args.d.now c.args.t.now c.in-Rec-Rec.fields c.in-Rec-Rec.row c.is_same_names.result
    c.fields_fit.result (search rules) (search rules) c.is_same_names.ensures (rw f c.fields_fit.ensures)

pub is_of-returns-else-not-has_names : goal.is_of-returns-else-not-has_names
is_of-returns-else-not-has_names t c = let f : c.has_names.result ≡ true = search rules in
    wide_is c.args.index.now c.args.d.now c.args.t.now c.in-Rec-Rec.fields c.in-Rec-Rec.row c.has_names.result
    c.fields_fit-in-Wide.result (search rules) (search rules) c.has_names.ensures
    (rw f c.fields_fit-in-Wide.ensures)
