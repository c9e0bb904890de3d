-- An index as it is made, one class after another.
use Rattle.std.proofs.Common.{◌≡◌, ℕ, zero, suc, ◌-◌, ◌<◌, List, [], ◌∷◌, ◌++◌, length, map, reverse, slice_get, Option}
use Rattle.std.proofs.Common.{Some, None, Bool, true, false, ◌&&◌, cond, IsTrue, inl, inr, refl, sym, ap, ◌∙◌, subst}
use Rattle.std.proofs.Common.{arith}
use Rattle.std.specs.Prelude.{is_some, is_err, not, option_map, Result, Ok, Err, OnOk}
use Rattle.std.specs.Str.{bytes_eq}
use Rattle.std.proofs.Math.Bool.{and-false}
use Rattle.std.proofs.lemmas.List.{append_assoc, length-append, length-map, length-reverse, map-append, reverse-append}
use Rattle.std.proofs.lemmas.Option.{slice_get_cases, slice_get_past}
use Rattle.qc_containers.specs.Pairs.{lookup, put}
use Rattle.qc_types.specs.declared.index.Entry.{Entry}
use Rattle.qc_types.specs.declared.index.Place.{Place}
use Rattle.qc_types.specs.declared.ty.ClassDef.{ClassDef}
use Rattle.qc_types.specs.Classes.{Defs, listed}
use Rattle.qc_types.specs.Schemas.{extends, good_class, good_classes, good_part, lists, user}
use Rattle.qc_types.specs.inner.Places.{EntryAt, IsEntry, IsIndex, IsJump, New, defs_of, earlier, parent_place}
use Rattle.qc_types.specs.inner.Places.{place_of, places_of}
use Rattle.qc_types.proofs.Jumps.{entry_last, entry_later}
use Rattle.qc_types.proofs.Places.{listed_is, there, unlisted, up_to}
use Rattle.qc_types.proofs.PutLaws.{lookup-put}

-- ---- names and places

abbrev pub to_place : ℕ → Place
to_place n = record { at = n }

abbrev pub place_number : Place → ℕ
place_number p = p.at

lookup-places : (c : Defs) (n : List ℕ) → lookup n (places_of c) ≡ option_map to_place (place_of c n)
lookup-places [] n = refl
lookup-places (d ∷ ds) n =
    lookup-put d.name n (to_place (length ds)) (places_of ds)
    ∙ elim (bytes_eq d.name n) as (λ k. cond k (Some (to_place (length ds))) (lookup n (places_of ds))
    ≡ option_map to_place (cond k (Some (length ds)) (place_of ds n))) [ true ↦ refl | false ↦ lookup-places ds n ]

numbered : (o : Option ℕ) → option_map place_number (option_map to_place o) ≡ o
numbered None = refl
numbered (Some n) = refl

-- what a look-up in the index answers
pub place_is : (es : List Entry) (ps : List (List ℕ × Place)) → IsIndex es ps → (n : List ℕ) (o : Option Place)
    → o ≡ lookup n ps → option_map place_number o ≡ place_of (defs_of es) n
place_is es ps i n o e =
    ap (option_map place_number) (e ∙ ap (lookup n) i.places_are ∙ lookup-places (defs_of es) n)
    ∙ numbered (place_of (defs_of es) n)

-- whether a name has a class, by whether it has a place
module _ (c : Defs) (n m : List ℕ) (o : Option ℕ) (b : Bool) (at : o ≡ place_of c n) (same : n ≡ m)
    (is : b ≡ is_some o) where
  pub repeated : b ≡ true → IsTrue (listed c m)
  repeated t = listed_is c m ∙ ap (λ k. is_some (place_of c k)) (sym same) ∙ ap is_some (sym at) ∙ sym is ∙ t

  pub fresh : b ≡ false → place_of c m ≡ None
  fresh f = ap (place_of c) (sym same) ∙ sym at ∙ none o (sym is ∙ f)
    where
      none : (p : Option ℕ) → is_some p ≡ false → p ≡ None
      none None h = refl
      none (Some k) h = absurd (cc)

-- what a call that did not fail made
pub done : {A E : Type 0} (P : Type 0) (r : Result A E) (b : Bool) → OnOk r P → b ≡ is_err r → b ≡ false → P
done P (Ok a) b h e f = h
done P (Err x) b h e f = let bad : true ≡ false = sym e ∙ f in absurd (cc)

-- a name without a class is not among them
pub is_absent : (es : List Entry) (ps : List (List ℕ × Place)) → IsIndex es ps → (n : List ℕ)
    → place_of (defs_of es) n ≡ None → lookup n ps ≡ None
is_absent es ps i n e = ap (lookup n) i.places_are ∙ lookup-places (defs_of es) n ∙ ap (option_map to_place) e

-- ---- entries and their classes

abbrev pub class_in : Entry → ClassDef
class_in e = e.def

pub length_defs : (es : List Entry) → length (defs_of es) ≡ length es
length_defs es = length-reverse (map class_in es) ∙ length-map es class_in

defs_of_end : (es : List Entry) (e : Entry) → defs_of (es ++ e ∷ []) ≡ e.def ∷ defs_of es
defs_of_end es e = ap reverse (map-append class_in es (e ∷ [])) ∙ reverse-append (map class_in es) (e.def ∷ [])

-- ---- one class more

end_later : {X : Type 0} (xs : List X) (x : X) (n : ℕ) → n < length xs → slice_get (xs ++ x ∷ []) n ≡ slice_get xs n
end_later [] x n lt = absurd (omega (arith, lt))
end_later (y ∷ ys) x zero lt = refl
end_later (y ∷ ys) x (suc n) lt = end_later ys x n (omega (arith, lt))

end_at : {X : Type 0} (xs : List X) (x : X) → slice_get (xs ++ x ∷ []) (length xs) ≡ Some x
end_at [] x = refl
end_at (y ∷ ys) x = end_at ys x

module _ (es : List Entry) (ps : List (List ℕ × Place)) (i : IsIndex es ps) (d : ClassDef) (e : Entry) (xs : List Entry)
    (ys : List (List ℕ × Place)) (is : e.def ≡ d) (over : e.parent ≡ parent_place (defs_of es) d.parent)
    (jump : IsJump (defs_of es) e.parent e.jump) (more : xs ≡ es ++ e ∷ [])
    (put_in : ys ≡ put d.name (to_place (length es)) ps) where
  pub more_defs : defs_of xs ≡ d ∷ defs_of es
  more_defs = ap defs_of more ∙ defs_of_end es e ∙ ap (λ k. k ∷ defs_of es) is

  more_entries : (n : ℕ) → EntryAt (d ∷ defs_of es) n (slice_get (es ++ e ∷ []) n)
  more_entries n = elim (slice_get_cases es n).1 [
    | inl u ↦
        subst (EntryAt (d ∷ defs_of es) n) (sym (end_later es e n u.1))
        (entry_later d (defs_of es) n (omega (arith, u.1, length_defs es)) (slice_get es n) (i.entries_are n))
    | inr u ↦ elim (slice_get_cases (es ++ e ∷ []) n).1 [
      | inl v ↦
          let at : length es ≡ n = omega (arith, u.0, v.1, length-append es (e ∷ [])) in
          subst (λ k. EntryAt (d ∷ defs_of es) k (slice_get (es ++ e ∷ []) k)) at
          (subst (EntryAt (d ∷ defs_of es) (length es)) (sym (end_at es e))
          (subst (λ k. IsEntry (d ∷ defs_of es) k e) (length_defs es) (entry_last d (defs_of es) e is over jump)))
      | inr v ↦
          subst (EntryAt (d ∷ defs_of es) n) (sym v.1)
          (slice_get_past (reverse (d ∷ defs_of es)) n
          (omega (arith, v.0, length-append es (e ∷ []), length_defs es, length-reverse (d ∷ defs_of es))))
    ]
  ]

  pub more_index : place_of (defs_of es) d.name ≡ None → IsIndex xs ys
  more_index new = let c = defs_of es in record {
    entries_are = subst (λ l. (n : ℕ) → EntryAt (defs_of l) n (slice_get l n)) (sym more)
        (subst (λ k. (n : ℕ) → EntryAt k n (slice_get (es ++ e ∷ []) n))
        (sym more_defs ∙ ap defs_of more) more_entries);
    places_are =
        put_in ∙ (λ k. put d.name (to_place (sym (length_defs es) k)) (i.places_are k)) ∙ ap places_of (sym more_defs);
    names = subst New (sym more_defs) (unlisted c d.name new, i.names);
  }

-- ---- good lists

not_good : (c : Defs) (d : ClassDef) (ds : Defs) → IsTrue (listed ds d.name) → good_class c ds d ≡ false
not_good c d ds h =
    let rest = lists c d.shape && extends c ds d.parent d.shape in
    ap (λ b. user d.name && (not b && rest)) h ∙ and-false (user d.name)

not_good_part : (c : Defs) (xs : Defs) (d : ClassDef) (ds : Defs) → IsTrue (listed ds d.name)
    → good_part c (xs ++ d ∷ ds) ≡ false
not_good_part c [] d ds h = ap (λ b. b && good_part c ds) (not_good c d ds h)
not_good_part c (x ∷ xs) d ds h =
    ap (λ b. good_class c (xs ++ d ∷ ds) x && b) (not_good_part c xs d ds h) ∙ and-false (good_class c (xs ++ d ∷ ds) x)

-- a list with a name that repeats is not good
repeats : (c xs : Defs) (d : ClassDef) (ds : Defs) → xs ++ d ∷ ds ≡ c → IsTrue (listed ds d.name)
    → good_classes c ≡ false
repeats c xs d ds e h = ap (good_part c) (sym e) ∙ not_good_part c xs d ds h

-- from the last class to the first
module _ (c : Defs) (k : ℕ) (d : ClassDef) (b : Bool) (left : good_classes c ≡ good_part c (earlier c k)) (more : 0 < k)
    (at : Some d ≡ slice_get (reverse c) (k - 1))
    (is : b ≡ good_class c (earlier c (k - 1)) d) where
  one_less : good_classes c ≡ (b && good_part c (earlier c (k - 1)))
  one_less =
      let e : k ≡ suc (k - 1) = omega arith in
      left ∙ ap (λ m. good_part c (earlier c m)) e ∙ ap (good_part c) (up_to c (k - 1) d (sym at))
      ∙ ap (λ t. t && good_part c (earlier c (k - 1))) (sym is)

  pub stops : b ≡ false → false ≡ good_classes c
  stops f = sym (one_less ∙ ap (λ t. t && good_part c (earlier c (k - 1))) f)

  pub goes_on : b ≡ true → good_classes c ≡ good_part c (earlier c (k - 1))
  goes_on t = one_less ∙ ap (λ u. u && good_part c (earlier c (k - 1))) t

-- there is a class at each place
pub no_end : (P : Type 0) (c : Defs) (n : ℕ) → n < length c → None ≡ slice_get (reverse c) n → P
no_end P c n lt e = let w = there c n lt in let bad : ◌≡◌ {A = Option ClassDef} None (Some w.0) = e ∙ w.1 in absurd (cc)

-- a name that repeats, as the loop that makes the index meets it
pub met_again : (c xs ys : Defs) (d : ClassDef) (ds : Defs) → xs ≡ ys ++ d ∷ [] → xs ++ ds ≡ c
    → IsTrue (listed ds d.name) → good_classes c ≡ false
met_again c xs ys d ds e h l = repeats c ys d ds (sym (append_assoc ys (d ∷ []) ds) ∙ ap (λ z. z ++ ds) (sym e) ∙ h) l
