-- The outcomes of expressions in order.
use Rattle.std.proofs.Common.{◌≡◌, ℕ, ◌+◌, ◌<◌, List, [], ◌∷◌, ◌++◌, map, drop, get_or, length, refl, sym, ap, ◌∙◌}
use Rattle.std.proofs.Common.{append_assoc, add-one, drop-cons}
use Rattle.qc_data.specs.Outcome.{Outcome, Value, Halts, Why, and_then}
use Rattle.qc_data.specs.declared.data.Json.{Json}
use Rattle.qc_js.specs.declared.tree.Expr.{Expr}
use Rattle.qc_js.specs.Meaning.{Reading, Store, values_of}

-- the values that are there in front of those to come
abbrev pub values_from : List Json → Outcome (List Json) → Outcome (List Json)
values_from done o = and_then o (λ js. Value (done ++ js))

pub none_yet : (o : Outcome (List Json)) → o ≡ values_from [] o
none_yet (Value js) = refl
none_yet (Halts why) = refl

module _ (f : Expr → Reading) (es : List Expr) (st : Store) (i : ℕ) (e : Expr) (done : List Json) (lt : i < length es)
    (at : e ≡ get_or es i e)
    (so_far : values_of (map f es) st ≡ values_from done (values_of (map f (drop i es)) st)) where
  next : values_of (map f (drop i es)) st
      ≡ and_then (f e st) (λ j. and_then (values_of (map f (drop (i + 1) es)) st) (λ js. Value (j ∷ js)))
  next =
      ap (λ l. values_of (map f l) st) (drop-cons es i e lt ∙ (λ k. sym at k ∷ drop (sym (add-one i) k) es))

  pub halted : (why : Why) → f e st ≡ Halts why → values_of (map f es) st ≡ Halts why
  halted why h = so_far ∙ ap (values_from done) next ∙ rw h refl

  one_later : (j : Json) (o : Outcome (List Json))
      → values_from done (and_then o (λ js. Value (j ∷ js))) ≡ values_from (done ++ j ∷ []) o
  one_later j (Value js) = ap Value (sym (append_assoc done (j ∷ []) js))
  one_later j (Halts why) = refl

  pub one_more : (j : Json) (all : List Json) → f e st ≡ Value j → all ≡ done ++ j ∷ []
      → values_of (map f es) st ≡ values_from all (values_of (map f (drop (i + 1) es)) st)
  one_more j all h is =
      so_far ∙ ap (values_from done) next ∙ rw (h, is) (one_later j (values_of (map f (drop (i + 1) es)) st))
