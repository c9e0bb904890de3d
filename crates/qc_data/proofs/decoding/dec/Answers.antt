use Rattle.std.proofs.Common.{◌≡◌, IfOk, Result, Ok, Err, sym, subst}
use Rattle.qc_data.specs.Decoding.{dec, Decodes}
use Rattle.qc_data.proofs.Inverses.{inverse}
use Rattle.qc_data.proofs.decoding.dec.Goals as goal

ok_at : {T E : Type 0} (r : Result T E) (t : T) (P : T → Type 0) → IfOk r (λ x. x ≡ t) → P t → IfOk r P
ok_at (Ok x) t P e p = subst P (sym e) p
ok_at (Err x) t P e p = tt

pub returns-clause-inverse : goal.returns-clause-inverse
returns-clause-inverse c =
    ok_at c.decode.result (dec c.args.j.now) (Decodes c.args.j.now) c.decode.ensures (inverse c.args.j.now)
