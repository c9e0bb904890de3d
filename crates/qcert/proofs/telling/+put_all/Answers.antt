use Rattle.std.proofs.Common.{◌≡◌, ◌++◌, inr, map, drop, sym, rules}
use Rattle.qcert.specs.inner.Pieces.{all_pieces}
use Rattle.qcert.proofs.Lines.{front_of_all, put_behind, joined_first, rest_of}
use Rattle.qcert.proofs.telling.+put_all.Goals as goal

pub returns-in_err-put-in-len1-up-clause-bytes : goal.returns-in_err-put-in-len1-up-clause-bytes
returns-in_err-put-in-len1-up-clause-bytes g t c =
    let parts : all_pieces (map (λ piece. piece.now) c.args.pieces.now)
    ≡ c.as_bytes.result.now ++ all_pieces (map (λ piece. piece.now) (drop 1 c.args.pieces.now)) = search
    (rules, joined_first) in
    inr (c.in_err-put-in-len1-up.ensures.failed, rw parts (front_of_all _ _ _ _ c.in_err-put-in-len1-up.ensures.err))

pub returns-in_ok-put-in-len1-up-clause-bytes : goal.returns-in_ok-put-in-len1-up-clause-bytes
returns-in_ok-put-in-len1-up-clause-bytes g t c =
    let parts : all_pieces (map (λ piece. piece.now) c.args.pieces.now)
    ≡ c.as_bytes.result.now ++ all_pieces (map (λ piece. piece.now) (drop 1 c.args.pieces.now)) = search
    (rules, joined_first) in
    let others = rest_of c.args.pieces.now in
    rw (parts, sym others) (put_behind _ _ _ _ _ _ _ _ c.in_ok-put-in-len1-up.ensures.ok
    c.in_ok-put-in-len1-up.ensures.count c.put_all.ensures.bytes)
