-- An object decoded part by part.
use Rattle.std.proofs.Common.{unwrap_or, ◌≡◌, ℕ, List, [], ◌∷◌, ◌++◌, map, get_or, length, Option, Some, None}
use Rattle.std.proofs.Common.{option_map, option_and_then, cond, true, false, refl, sym, ap, ◌∙◌, arith}
use Rattle.qc_containers.specs.Rising.{on_value}
use Rattle.std.specs.Prelude.{codes, ◌&&◌, Bool, slice_get}
use Rattle.std.specs.Str.{bytes_eq}
use Rattle.qc_data.specs.Decoding.{dec, fields_of, object_of, plain, branded, name_of}
use Rattle.qc_data.specs.declared.data.Datum.TheVariants.{Brand}
use Rattle.qc_data.specs.declared.data.Datum.{Datum}
use Rattle.qc_data.specs.declared.data.Json.{Json}
use Rattle.qc_containers.specs.Name.{is_name}
use Rattle.qc_containers.proofs.Appending.{nothing_before, one_more}
use Rattle.qc_data.proofs.DecodingLaws.{plain_is}

-- before the first member
pub none_decoded : (all : List (List ℕ × Datum)) (ps : List (List ℕ × Json)) → all ≡ []
    → fields_of (map (on_value dec) ps) ≡ option_map (λ fs. all ++ fs) (fields_of (map (on_value dec) ps))
none_decoded all ps none = rw none (sym (nothing_before (fields_of (map (on_value dec) ps))))

-- the members, decoded
abbrev pub decs : List (List ℕ × Json) → List (List ℕ × Option Datum)
decs = map (on_value dec)

-- an object of another length than 1 and 2 is a record
pub many_plain : (ps : List (List ℕ × Json)) → (length ps ≡ 1 → ⊥) → (length ps ≡ 2 → ⊥)
    → object_of (decs ps) ≡ plain (decs ps)
many_plain [] a b = refl
many_plain (p ∷ []) a b = absurd (a (omega arith))
many_plain (p ∷ q ∷ []) a b = absurd (b (omega arith))
many_plain (p ∷ q ∷ r ∷ ps) a b = refl

-- an object of one member that is no side
pub one_plain : (ps ms : List (List ℕ × Json)) (d e : List ℕ × Json) (s t : List ℕ) → ps ≡ ms → length ms ≡ 1
    → s ≡ (get_or ps 0 d).0 → t ≡ (get_or ps 0 e).0
    → bytes_eq s (codes "$left") ≡ false → bytes_eq t (codes "$right") ≡ false → object_of (decs ms) ≡ plain (decs ms)
one_plain [] ms d e s t is n p q a b = absurd (omega (arith, ap length is))
one_plain (m ∷ []) ms d e s t is n p q a b =
    let a' : bytes_eq m.0 (codes "$left") ≡ false = ap (λ w. bytes_eq w (codes "$left")) (sym p) ∙ a in
    let b' : bytes_eq m.0 (codes "$right") ≡ false = ap (λ w. bytes_eq w (codes "$right")) (sym q) ∙ b in
    rw (← is) (rw (a', b') refl)
one_plain (m ∷ n' ∷ ps) ms d e s t is n p q a b = absurd (omega (arith, ap length is))

-- an object of two members that is no class value
pub two_plain : (ps ms : List (List ℕ × Json)) (d e : List ℕ × Json) (s t : List ℕ) → ps ≡ ms → length ms ≡ 2
    → s ≡ (get_or ps 0 d).0 → t ≡ (get_or ps 1 e).0
    → (bytes_eq s (codes "$class") && bytes_eq t (codes "$data")) ≡ false → object_of (decs ms) ≡ plain (decs ms)
two_plain [] ms d e s t is n p q a = absurd (omega (arith, ap length is))
two_plain (m ∷ []) ms d e s t is n p q a = absurd (omega (arith, ap length is))
two_plain (m ∷ l ∷ []) ms d e s t is n p q a =
    let a' : (bytes_eq m.0 (codes "$class") && bytes_eq l.0 (codes "$data"))
    ≡ false = ap (λ w. bytes_eq w (codes "$class") && bytes_eq l.0 (codes "$data")) (sym p)
    ∙ ap (λ w. bytes_eq s (codes "$class") && bytes_eq w (codes "$data")) (sym q) ∙ a in
    rw (← is) (rw a' refl)
two_plain (m ∷ l ∷ k ∷ ps) ms d e s t is n p q a = absurd (omega (arith, ap length is))

-- an object of two members that is a class value
pub two_brand : (ps ms : List (List ℕ × Json)) (d e d' e' : List ℕ × Json) (s t : List ℕ) → ps ≡ ms → length ms ≡ 2
    → s ≡ (get_or ps 0 d).0 → t ≡ (get_or ps 1 e).0
    → (bytes_eq s (codes "$class") && bytes_eq t (codes "$data")) ≡ true
    → branded (dec (get_or ps 0 d').1) (dec (get_or ps 1 e').1) ≡ object_of (decs ms)
two_brand [] ms d e d' e' s t is n p q a = absurd (omega (arith, ap length is))
two_brand (m ∷ []) ms d e d' e' s t is n p q a = absurd (omega (arith, ap length is))
two_brand (m ∷ l ∷ []) ms d e d' e' s t is n p q a =
    let a' : (bytes_eq m.0 (codes "$class") && bytes_eq l.0 (codes "$data"))
    ≡ true = ap (λ w. bytes_eq w (codes "$class") && bytes_eq l.0 (codes "$data")) (sym p)
    ∙ ap (λ w. bytes_eq s (codes "$class") && bytes_eq w (codes "$data")) (sym q) ∙ a in
    rw (← is) (rw a' refl)
two_brand (m ∷ l ∷ k ∷ ps) ms d e d' e' s t is n p q a = absurd (omega (arith, ap length is))

-- a class value made of its decoded parts
pub brand_is : (v : Option Datum) (o : Option (List ℕ)) (x c d whole : Option Datum)
    → v ≡ option_and_then (λ n. option_map (Brand n) x) o → o ≡ option_and_then name_of c → x ≡ d → branded c d ≡ whole
    → v ≡ whole
brand_is v o x c d whole made p q e = made ∙ rw (p, q) e

-- a name that a test let through
pub some_if : (b : Bool) (n s : List ℕ) → Some n ≡ cond b (Some s) None → n ≡ s
some_if true n s e = ap (λ o. unwrap_or o n) e
some_if false n s e = absurd (cc)

-- an object whose first text is a name is a record
pub named_plain : (ps : List (List ℕ × Json)) (n : List ℕ) → Some n ≡ option_map (λ p. p.0) (slice_get ps 0)
    → is_name n ≡ true → object_of (decs ps) ≡ plain (decs ps)
named_plain [] n e h = absurd (cc)
named_plain (p ∷ ps) n e h =
    plain_is (decs ps) p.0 (dec p.1) (ap (λ o. is_name (unwrap_or o n)) (sym e) ∙ h)

-- before the first pair of an iterator that owns them
pub none_taken : (all : List (List ℕ × Datum)) (it ps : List (List ℕ × Json)) → all ≡ [] → it ≡ ps
    → fields_of (decs ps) ≡ option_map (λ fs. all ++ fs) (fields_of (decs it))
none_taken all it ps none is = rw (none, is) (sym (nothing_before (fields_of (decs ps))))

-- the fields from one that has a name and a datum
field_at : (b : Bool) (s n : List ℕ) (rest : Option (List (List ℕ × Datum))) (o : Option Datum) (d : Datum)
    → Some n ≡ cond b (Some s) None → Some d ≡ o
    → cond b (option_and_then (λ d. option_map (λ fs. (s, d) ∷ fs) rest) o) None
    ≡ option_map (λ fs. (n, d) ∷ fs) rest
field_at true s n rest o d e is =
    rw (← is) (ap (λ m. option_map (λ fs. (m, d) ∷ fs) rest) (sym (some_if true n s e)))
field_at false s n rest o d e is = absurd (cc)

-- one field more
pub field_more : (all new : List (List ℕ × Datum)) (it left : List (List ℕ × Json)) (p : List ℕ × Json) (n : List ℕ)
    (d : Datum) (whole : Option (List (List ℕ × Datum))) → it ≡ p ∷ left → Some n ≡ cond (is_name p.0) (Some p.0) None
    → Some d ≡ dec p.1 → new ≡ all ++ (n, d) ∷ []
    → whole ≡ option_map (λ fs. all ++ fs) (fields_of (decs it))
    → whole ≡ option_map (λ fs. new ++ fs) (fields_of (decs left))
field_more all new it left p n d whole step named is made w =
    let rest = fields_of (decs left) in
    let at : fields_of (decs it) ≡ option_map (λ fs. (n, d) ∷ fs) rest
    = ap (λ l. fields_of (decs l)) step ∙ field_at (is_name p.0) p.0 n rest (dec p.1) d named is in
    w ∙ ap (option_map (λ fs. all ++ fs)) at ∙ one_more all (n, d) rest
    ∙ ap (λ l. option_map (λ fs. l ++ fs) rest) (sym made)
