-- What agrees between modes still does under the forms that all trees have.
use Rattle.std.proofs.Common.{◌≡◌, Bool, true, false, cond, List, refl}
use Rattle.qc_data.specs.Outcome.{Outcome, each, alone, Agrees}
use Rattle.qc_data.specs.declared.data.Datum.{Datum}
use Rattle.qc_data.proofs.Outcomes.{agrees_same, agrees_then, agrees_gather}
use Rattle.qc_ops.specs.Operands.{as_bool, bag}
use Rattle.qc_trees.specs.Branches.{truth}

pub agrees_bag : (xs ys : Outcome (List Datum)) → Agrees xs ys → Agrees (bag xs) (bag ys)
agrees_bag xs ys h = agrees_then xs ys _ _ h (λ zs. refl)

pub agrees_each : (f g : Datum → Outcome Datum) (xs : List Datum) → ((x : Datum) → Agrees (f x) (g x))
    → Agrees (bag (each f xs)) (bag (each g xs))
agrees_each f g xs h =
    agrees_bag (each f xs) (each g xs)
    (agrees_gather (λ x. alone (f x)) (λ x. alone (g x)) xs (λ x. agrees_then (f x) (g x) _ _ (h x) (λ v. refl)))

pub agrees_truth : (a b : Outcome Datum) → Agrees a b → Agrees (truth a) (truth b)
unfolding truth
agrees_truth a b h = agrees_then a b as_bool as_bool h (λ v. agrees_same (as_bool v))

pub agrees_choice : {A : Type 0} (t : Bool) (a b c d : Outcome A) → Agrees a c → Agrees b d
    → Agrees (cond t a b) (cond t c d)
agrees_choice true a b c d h k = h
agrees_choice false a b c d h k = k
