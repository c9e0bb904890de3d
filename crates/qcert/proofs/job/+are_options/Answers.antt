use Rattle.std.specs.Rc.{rc_str_bytes}
use Rattle.qcert.proofs.WordLemmas.{first_option, goes_on, stops}
use Rattle.qcert.proofs.job.+are_options.Goals as goal

pub returns-then-is_new : goal.returns-then-is_new
returns-then-is_new t c =
    goes_on _ rc_str_bytes _ c.args.words.now
    (first_option _ rc_str_bytes _ c.args.words.now _ c.key-item.is c.as_str.ensures.value c.in-len2-up.len_at_least)
    _ _ c.is_new.ensures c.if-is_new.true c.are_options.ensures

pub returns-else-is_new : goal.returns-else-is_new
returns-else-is_new t c =
    stops _ rc_str_bytes _ c.args.words.now
    (first_option _ rc_str_bytes _ c.args.words.now _ c.key-item.is c.as_str.ensures.value c.in-len2-up.len_at_least) _
    c.is_new.ensures c.if-is_new.false
