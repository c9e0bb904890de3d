use Rattle.qc_schema.proofs.Returning.{means, ok_at}
use Rattle.qc_schema.proofs.writing.json_text.Goals as goal

pub returns-clause-reads_back : goal.returns-clause-reads_back
returns-clause-reads_back c =
    ok_at c.from_string.result _ _ c.from_string.ensures
    (means c.args.j.now _ c.in_ok-text.ensures c.hand_utf8.ensures c.check_sound.ensures)
