use Rattle.std.proofs.Common.{[], refl}
use Rattle.qc_data.specs.declared.data.Datum.TheVariants.{Rec, Unit as Nothing}
use Rattle.qc_nra.specs.Meaning.{nra}
use Rattle.qc_nnrc.specs.Meaning.{nnrc}
use Rattle.qc_nnrs.specs.Meaning.{nnrs}
use Rattle.qc_route.specs.declared.stage.Stage.TheVariants.{Nraenv, Nnrc, Nnrs}
use Rattle.qc_route.proofs.Kept.{passed}
use Rattle.qc_route.proofs.advancing.advance.Goals as goal

pub returns-in_ok-pass-in-Nraenv-NraenvToNnrc-clause-keeps :
    goal.returns-in_ok-pass-in-Nraenv-NraenvToNnrc-clause-keeps
returns-in_ok-pass-in-Nraenv-NraenvToNnrc-clause-keeps c =
    let tree = c.in-Nraenv-NraenvToNnrc.tree in
    let made = c.in_ok-pass-in-Nraenv-NraenvToNnrc.field-0 in
    rw c.in-Nraenv-NraenvToNnrc.is-0 (passed c.args.schema.now (Nraenv tree) (Nnrc made)
    (λ m w. nra m w tree Nothing (Rec [])) (λ m w. nnrc m w made []) (λ m w. refl) (λ m w. refl)
    c.in_ok-pass-in-Nraenv-NraenvToNnrc.ensures.keeps)

pub returns-in_ok-pass-in-Nnrc-NnrcToNnrs-clause-keeps :
    goal.returns-in_ok-pass-in-Nnrc-NnrcToNnrs-clause-keeps
returns-in_ok-pass-in-Nnrc-NnrcToNnrs-clause-keeps c =
    let tree = c.in-Nnrc-NnrcToNnrs.tree in
    let made = c.in_ok-pass-in-Nnrc-NnrcToNnrs.field-0 in
    rw c.in-Nnrc-NnrcToNnrs.is-0 (passed c.args.schema.now (Nnrc tree) (Nnrs made) (λ m w. nnrc m w tree [])
    (λ m w. nnrs m w made) (λ m w. refl) (λ m w. refl) c.in_ok-pass-in-Nnrc-NnrcToNnrs.ensures.keeps)
