use Rattle.std.proofs.Common.{sym, ◌∙◌, get_or}
use Rattle.qc_rt.specs.Seen.{fields_seen, seen}
use Rattle.qc_seen.proofs.TwinForms.{twin-Brand}
use Rattle.qc_seen.proofs.TwinObjects.{class_some, class_text, class_untold, object_marked, object_plain}
use Rattle.qc_seen.proofs.twins.+twin.Goals as goal

pub object_twin-returns-then-has_marker : goal.object_twin-returns-then-has_marker
object_twin-returns-then-has_marker t c =
    rw (object_marked c.args.members.now (sym c.has_marker.ensures ∙ c.if-has_marker.true)) c.marked_twin.ensures

pub object_twin-returns-else-has_marker : goal.object_twin-returns-else-has_marker
object_twin-returns-else-has_marker t c =
    rw (object_plain c.args.members.now (sym c.has_marker.ensures ∙ c.if-has_marker.false)) c.record_twin.ensures

pub class_twin-returns-in_ok-content-in-Text : goal.class_twin-returns-in_ok-content-in-Text
class_twin-returns-in_ok-content-in-Text t c =
    let ps = c.as_slice-pairs.result.now in
    let members = fields_seen c.args.members.now in
    rw (
      class_some ps c.args.members.now c.index-pairs-0.result c.index-pairs-1.result c.index-pairs-0-2.result
          c.index-pairs-1-in-Text.result c.as_str.result.now c.as_str-2.result.now c.as_slice-pairs.ensures.pairs
          c.requires c.as_str.ensures c.as_str-2.ensures (sym c.tags_class.ensures ∙ c.if-not-tags_class.false)
          ∙ class_text (get_or ps 0 c.index-pairs-0-2.result).1 (get_or ps 1 c.index-pairs-1-in-Text.result).1 _ members
          c.in-Text.is,
      twin-Brand,
      ← c.in_ok-content-in-Text.ensures,
    ) c.value_twin.ensures

pub class_twin-returns-in_default : goal.class_twin-returns-in_default
class_twin-returns-in_default t c =
    let ps = c.as_slice-pairs.result.now in
    rw (class_some ps c.args.members.now c.index-pairs-0.result c.index-pairs-1.result c.index-pairs-0-2.result
    c.index-pairs-1.result c.as_str.result.now c.as_str-2.result.now c.as_slice-pairs.ensures.pairs c.requires
    c.as_str.ensures c.as_str-2.ensures (sym c.tags_class.ensures ∙ c.if-not-tags_class.false)
    ∙ class_untold (get_or ps 0 c.index-pairs-0-2.result).1 (seen (get_or ps 1 c.index-pairs-1.result).1)
    (fields_seen c.args.members.now) c.in_default.not-Text) c.odd_twin-in_default.ensures
