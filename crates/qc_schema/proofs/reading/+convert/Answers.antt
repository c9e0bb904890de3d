use Rattle.std.proofs.Common.{sym, ◌∙◌}
use Rattle.serde_json.proofs.Views.{Entry}
use Rattle.qc_schema.proofs.Converted.{started, none_done, may_push, still_rising, members_more}
use Rattle.qc_schema.proofs.reading.+convert.Goals as goal

pub convert_members-loop-key-init : goal.convert_members-loop-key-init
convert_members-loop-key-init t c =
    let begun = c.into_iter-key-iterator.ensures.into_iter_gives in
    record {
      rising = started _ _ _ c.new-all.ensures begun.0 begun.5;
      done = none_done _ _ _ c.new-all.ensures begun.0;
    }

pub convert_members-add-requires : goal.convert_members-add-requires
convert_members-add-requires t c =
    let e : Entry = (c.in-Some.key, c.in-Some.member) in
    record {
      rising = may_push c.loop-key.all c.loop-key.key-iterator c.next.new.self e _ _ c.in-Some.ensures.steps
          c.in_ok-name.ensures c.loop-key.invariant.rising;
    }

pub convert_members-loop-key-preserved : goal.convert_members-loop-key-preserved
convert_members-loop-key-preserved t c =
    let e : Entry = (c.in-Some.key, c.in-Some.member) in
    record {
      rising = still_rising c.loop-key.all _ c.loop-key.key-iterator c.next.new.self e _ _ c.in-Some.ensures.steps
          c.in_ok-name.ensures c.in_ok-add-in-Some-2.ensures.ok c.loop-key.invariant.rising;
      done = members_more c.loop-key.all _ c.loop-key.key-iterator c.next.new.self e _ _ _ c.in-Some.ensures.steps
          c.in_ok-name.ensures c.loop-key.invariant.done (sym c.in-Some-2.is ∙ c.in_ok-tree.ensures)
          c.in_ok-add-in-Some-2.ensures.ok;
    }
