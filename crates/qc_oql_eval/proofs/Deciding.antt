-- Whether some or each of the truth values is true, one after another.
use Rattle.std.proofs.Common.{◌≡◌, Bool, true, false, List, [], ◌∷◌, ◌++◌, refl, sym, ap, ◌∙◌}
use Rattle.qc_data.specs.Outcome.{Outcome, Value, Halts, and_then, alone, each}
use Rattle.qc_oql_tree.specs.declared.tree.Quantifier.{Quantifier}
use Rattle.qc_oql_tree.specs.declared.tree.Quantifier.TheVariants.{Exists, ForAll}
use Rattle.qc_oql_tree.specs.FormMeanings.{decides}

-- the answer, from that on the members before
abbrev pub decided_from : {A : Type 0} → Quantifier → Bool → (A → Outcome Bool) → List A → Outcome Bool
decided_from q b f [] = Value b
decided_from q b f (x ∷ xs) = and_then (f x) (λ t. decided_from q (decides q (b ∷ t ∷ [])) f xs)

joined : (q : Quantifier) (b t : Bool) (ts : List Bool)
    → decides q (decides q (b ∷ t ∷ []) ∷ ts) ≡ decides q (b ∷ t ∷ ts)
unfolding decides
joined Exists true t ts = refl
joined Exists false true ts = refl
joined Exists false false ts = refl
joined ForAll true true ts = refl
joined ForAll true false ts = refl
joined ForAll false t ts = refl

alone_is : (q : Quantifier) (b : Bool) → decides q (b ∷ []) ≡ b
unfolding decides
alone_is Exists true = refl
alone_is Exists false = refl
alone_is ForAll true = refl
alone_is ForAll false = refl

step : (q : Quantifier) (b : Bool) (o : Outcome Bool) (rest : Outcome (List Bool)) (D : Bool → Outcome Bool)
    → ((c : Bool) → and_then rest (λ ts. Value (decides q (c ∷ ts))) ≡ D c)
    → and_then (and_then (alone o) (λ ys. and_then rest (λ zs. Value (ys ++ zs)))) (λ ts. Value (decides q (b ∷ ts)))
    ≡ and_then o (λ t. D (decides q (b ∷ t ∷ [])))
step q b (Halts w) rest D h = refl
step q b (Value t) (Halts w) D h = h (decides q (b ∷ t ∷ []))
step q b (Value t) (Value ts) D h = ap Value (sym (joined q b t ts)) ∙ h (decides q (b ∷ t ∷ []))

on : {A : Type 0} (q : Quantifier) (b : Bool) (f : A → Outcome Bool) (xs : List A)
    → and_then (each f xs) (λ ts. Value (decides q (b ∷ ts))) ≡ decided_from q b f xs
on q b f [] = ap Value (alone_is q b)
on q b f (x ∷ xs) = step q b (f x) (each f xs) (λ c. decided_from q c f xs) (λ c. on q c f xs)

pub decided_is : {A : Type 0} (q : Quantifier) (f : A → Outcome Bool) (xs : List A)
    → and_then (each f xs) (λ ts. Value (decides q ts)) ≡ decided_from q (decides q []) f xs
unfolding decides
decided_is Exists f xs = on Exists false f xs
decided_is ForAll f xs = on ForAll true f xs
