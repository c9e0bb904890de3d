-- Items that are put before a tree, from the last one on.
use Rattle.std.proofs.Common.{◌≡◌, List, [], ◌∷◌, ◌++◌, refl, ap}
use Rattle.qc_nra.specs.declared.tree.Nra.{Nra}
use Rattle.qc_oql_nra.specs.OqlForms.{folded}

pub folded_last : {A : Type 0} (f : A → Nra → Nra) (xs : List A) (x : A) (a : Nra)
    → folded f (xs ++ x ∷ []) a ≡ folded f xs (f x a)
folded_last f [] x a = refl
folded_last f (y ∷ xs) x a = ap (f y) (folded_last f xs x a)
