-- The parameters of operators are written out, and a cast has just the classes that are below its own.
use Rattle.std.proofs.Common.{◌≡◌, ◌∙◌, ℕ, zero, suc, ◌+◌, ◌<◌, Bool, true, false, cond, List, [], ◌∷◌, ◌++◌, map}
use Rattle.std.proofs.Common.{reverse, take, get_or, length}
use Rattle.std.proofs.Common.{refl, sym, ap, subst, add-one, append-nil, true≢false, Some, None}
use Rattle.std.proofs.lemmas.Option.{get_or_from_slice_get, slice_get_within}
use Rattle.std.specs.Prelude.{◌&&◌, ◌||◌, filter, not, slice_get, Err, IfOk, Ok, Result}
use Rattle.std.specs.Str.{bytes_eq}
use Rattle.std.proofs.Math.Seq.{take-suc}
use Rattle.std.proofs.lemmas.List.{map-append, reverse-append}
use Rattle.std.proofs.lemmas.Slice.Eq.{bytes_eq-Decides}
use Rattle.qc_containers.specs.declared.memory.Memory.{Memory}
use Rattle.qc_containers.specs.Name.{is_marker}
use Rattle.qc_data.specs.declared.data.Json.TheVariants as J
use Rattle.qc_ops.specs.Records.{is_among}
use Rattle.qc_ops.specs.Sides.{is_under}
use Rattle.qc_ops.specs.declared.op.Unary.{Unary}
use Rattle.qc_ops.specs.declared.op.Unary.TheVariants as one
use Rattle.qc_types.specs.Classes.{Defs, below, chain, is_in, parents}
use Rattle.qc_types.specs.declared.ty.ClassDef.{ClassDef}
use Rattle.qc_rt.specs.Laws.{NoMarkers, names_tree}
use Rattle.qc_js.specs.declared.tree.Expr.{Expr}
use Rattle.qc_js.specs.declared.tree.Expr.TheVariants as tree
use Rattle.qc_to_js.specs.inner.Written.{AreParameters, Writes, WritesAll, classes_under, is_other, truth}
use Rattle.qc_to_js.proofs.Constants.{truth_written}
use Rattle.qc_to_js.proofs.Writing.{writes-Array, writes-Text}

abbrev Made : Type 0
Made = Result (List Expr) Memory

-- ---- lists of names and of truth values

texts_written : (ns : List (List ℕ)) → WritesAll (map J.Text ns) (map tree.Text ns)
texts_written [] = tt
texts_written (n ∷ ns) = (writes-Text n, texts_written ns)

names_written : (ns : List (List ℕ)) → Writes (names_tree ns) (tree.Array (map tree.Text ns))
names_written ns = writes-Array (map J.Text ns) (map tree.Text ns) (texts_written ns)

abbrev Keys : Type 0
Keys = List (List ℕ × Bool)

key_texts : (keys : Keys) → WritesAll (map (λ key. J.Text key.0) keys) (map (λ key. tree.Text key.0) keys)
key_texts [] = tt
key_texts (key ∷ keys) = (writes-Text key.0, key_texts keys)

key_truths : (keys : Keys) → WritesAll (map (λ key. J.Bool key.1) keys) (map (λ key. truth key.1) keys)
key_truths [] = tt
key_truths (key ∷ keys) = (truth_written key.1, key_truths keys)

-- ---- the operators

module _ (c : Defs) (op : Unary) where
  pub project_made : (names : List (List ℕ)) (r : Made) → op ≡ one.Project names
      → IfOk r (λ made. made ≡ tree.Array (map tree.Text names) ∷ []) → IfOk r (λ made. NoMarkers names)
      → IfOk r (λ made. AreParameters c op made)
  project_made names (Ok es) is made plain =
      rw (is, made) record { classes = []; written = (names_written names, tt); names = plain; are_classes = tt }
  project_made names (Err e) is made plain = tt

  pub cast_made : (name : List ℕ) (r : Made) → op ≡ one.Cast name
      → IfOk r (λ made. made ≡ tree.Array (map tree.Text (classes_under c name (reverse c))) ∷ [])
      → IfOk r (λ made. NoMarkers (classes_under c name (reverse c)))
      → ((other : List ℕ) → is_among other (classes_under c name (reverse c)) ≡ is_under c other name)
      → IfOk r (λ made. AreParameters c op made)
  cast_made name (Ok es) is made plain all =
      rw (is, made) record {
        classes = classes_under c name (reverse c);
        written = (names_written (classes_under c name (reverse c)), tt);
        names = tt;
        are_classes = (plain, all);
      }
  cast_made name (Err e) is made plain all = tt

  pub order_made : (keys : Keys) (r : Made) → op ≡ one.Order keys
      → IfOk r (λ made. made
      ≡ tree.Array (map (λ key. tree.Text key.0) keys) ∷ tree.Array (map (λ key. truth key.1) keys) ∷ [])
      → IfOk r (λ made. NoMarkers (map (λ key. key.0) keys)) → IfOk r (λ made. AreParameters c op made)
  order_made keys (Ok es) is made plain =
      rw (is, made) record {
        classes = [];
        written = (
          writes-Array (map (λ key. J.Text key.0) keys) (map (λ key. tree.Text key.0) keys) (key_texts keys),
          (writes-Array (map (λ key. J.Bool key.1) keys) (map (λ key. truth key.1) keys) (key_truths keys), tt),
        );
        names = plain;
        are_classes = tt;
      }
  order_made keys (Err e) is made plain = tt

  pub group_made : (name : List ℕ) (names : List (List ℕ)) (r : Made) → op ≡ one.Group name names
      → IfOk r (λ made. made ≡ tree.Text name ∷ tree.Array (map tree.Text names) ∷ []) → is_marker name ≡ false
      → IfOk r (λ made. NoMarkers names) → IfOk r (λ made. AreParameters c op made)
  group_made name names (Ok es) is made first plain =
      rw (is, made) record {
        classes = [];
        written = (writes-Text name, (names_written names, tt));
        names = (first, plain);
        are_classes = tt;
      }
  group_made name names (Err e) is made first plain = tt

  pub like_made : (pattern text : List ℕ) (r : Made) → op ≡ one.Like pattern → text ≡ pattern
      → IfOk r (λ made. made ≡ tree.Text text ∷ []) → IfOk r (λ made. AreParameters c op made)
  like_made pattern text (Ok es) is same made =
      rw (is, made, same) record { classes = []; written = (writes-Text pattern, tt); names = tt; are_classes = tt }
  like_made pattern text (Err e) is same made = tt

-- ---- tests

and_none : (a : Bool) → (a && false) ≡ false
and_none true = refl
and_none false = refl

or_true : (a : Bool) → (a || true) ≡ true
or_true true = refl
or_true false = refl

or_later : (a b c : Bool) → (a || (b || c)) ≡ ((a || b) || c)
or_later true b c = refl
or_later false b c = refl

or_turned : (a b : Bool) → (a || (b || false)) ≡ (b || a)
or_turned true true = refl
or_turned true false = refl
or_turned false true = refl
or_turned false false = refl

filter_append : (test : List ℕ → Bool) (xs ys : List (List ℕ))
    → filter test (xs ++ ys) ≡ filter test xs ++ filter test ys
filter_append test [] ys = refl
filter_append test (x ∷ xs) ys =
    elim (test x) as (λ b. cond b (x ∷ filter test (xs ++ ys)) (filter test (xs ++ ys))
    ≡ cond b (x ∷ filter test xs) (filter test xs) ++ filter test ys)
    [ true ↦ ap (λ l. x ∷ l) (filter_append test xs ys) | false ↦ filter_append test xs ys ]

all_more : (ns : List (List ℕ)) (n : List ℕ) → NoMarkers ns → is_marker n ≡ false → NoMarkers (ns ++ n ∷ [])
all_more [] n h p = (p, tt)
all_more (m ∷ ns) n h p = (h.0, all_more ns n h.1 p)

some_more : (ns : List (List ℕ)) (n : List ℕ) (b : Bool) → NoMarkers ns → is_marker n ≡ false
    → NoMarkers (ns ++ cond b (n ∷ []) [])
some_more ns n true h p = all_more ns n h p
some_more ns n false h p = subst NoMarkers (sym (append-nil ns)) h

texts_of : (b : Bool) (n : List ℕ) → cond b (tree.Text n ∷ []) [] ≡ map tree.Text (cond b (n ∷ []) [])
texts_of true n = refl
texts_of false n = refl

-- ---- the classes of a cast

-- a class of the list
abbrev Listed : List ℕ → Defs → Bool
Listed other ds = is_among other (map (λ (d : ClassDef). d.name) ds)

same_text : (a b : List ℕ) → bytes_eq a b ≡ true → a ≡ b
same_text a b e = (bytes_eq-Decides a b).0 e

itself : (a : List ℕ) → bytes_eq a a ≡ true
itself a = (bytes_eq-Decides a a).1 refl

-- a name among some that were chosen
chosen_at : (other n : List ℕ) (test : List ℕ → Bool) (ns : List (List ℕ)) (same holds : Bool) → bytes_eq other n ≡ same
    → test n ≡ holds → is_among other (filter test ns) ≡ (is_among other ns && test other)
    → is_among other (cond holds (n ∷ filter test ns) (filter test ns)) ≡ ((same || is_among other ns) && test other)
chosen_at other n test ns true true e h rest =
    let is : test other ≡ true = ap test (same_text other n e) ∙ h in rw (e, is) refl
chosen_at other n test ns true false e h rest =
    let is : test other ≡ false = ap test (same_text other n e) ∙ h in rw (rest, is) (and_none (is_among other ns))
chosen_at other n test ns false true e h rest = rw e rest
chosen_at other n test ns false false e h rest = rest

among_chosen : (other : List ℕ) (test : List ℕ → Bool) (ns : List (List ℕ))
    → is_among other (filter test ns) ≡ (is_among other ns && test other)
among_chosen other test [] = refl
among_chosen other test (n ∷ ns) =
    chosen_at other n test ns (bytes_eq other n) (test n) refl refl (among_chosen other test ns)

listed_append : (other : List ℕ) (ds es : Defs) → Listed other (ds ++ es) ≡ (Listed other ds || Listed other es)
listed_append other [] es = refl
listed_append other (d ∷ ds) es =
    ap (λ b. bytes_eq other d.name || b) (listed_append other ds es)
    ∙ or_later (bytes_eq other d.name) (Listed other ds) (Listed other es)

listed_reverse : (other : List ℕ) (ds : Defs) → Listed other (reverse ds) ≡ Listed other ds
listed_reverse other [] = refl
listed_reverse other (d ∷ ds) =
    ap (Listed other) (reverse-append (d ∷ []) ds) ∙ listed_append other (reverse ds) (d ∷ [])
    ∙ ap (λ b. b || Listed other (d ∷ [])) (listed_reverse other ds)
    ∙ or_turned (Listed other ds) (bytes_eq other d.name)

-- what is below another is listed
listed_at : (d : ClassDef) (ds : Defs) (a b : List ℕ) (same : Bool) → bytes_eq d.name a ≡ same
    → is_in b (cond same (a ∷ parents (λ p. chain ds p) d.parent) (chain ds a)) ≡ true
    → (below ds a b ≡ true → Listed a ds ≡ true) → Listed a (d ∷ ds) ≡ true
listed_at d ds a b true e h rest =
    rw (ap (λ n. bytes_eq a n) (same_text d.name a e) ∙ itself a) refl
listed_at d ds a b false e h rest = rw (rest h) (or_true (bytes_eq a d.name))

below_listed : (c : Defs) (a b : List ℕ) → below c a b ≡ true → Listed a c ≡ true
below_listed [] a b h = absurd (true≢false (sym h))
below_listed (d ∷ ds) a b h = listed_at d ds a b (bytes_eq d.name a) refl h (below_listed ds a b)

decided : (c : Defs) (name other : List ℕ) (same under : Bool) → below c other name ≡ under
    → (same || (Listed other (reverse c) && (not same && under))) ≡ (same || under)
decided c name other true under e = refl
decided c name other false true e =
    rw (listed_reverse other c ∙ below_listed c other name e) refl
decided c name other false false e = and_none (Listed other (reverse c))

-- the list has just the class and those below it
pub classes_are : (c : Defs) (name other : List ℕ)
    → is_among other (classes_under c name (reverse c)) ≡ is_under c other name
classes_are c name other =
    ap (λ b. bytes_eq other name || b)
    (among_chosen other (λ n. is_other c n name) (map (λ (d : ClassDef). d.name) (reverse c)))
    ∙ decided c name other (bytes_eq other name) (below c other name) refl

-- ---- the next class of the list

module _ (c : Defs) (name : List ℕ) (ds : Defs) (i : ℕ) (d : ClassDef) (found : slice_get ds i ≡ Some d) where
  lt : i < length ds
  lt = slice_get_within ds i d found

  at : d ≡ get_or ds i d
  at = sym (get_or_from_slice_get ds i d d found)

  abbrev Test : List ℕ → Bool
  Test n = is_other c n name

  abbrev Names : ℕ → List (List ℕ)
  Names k = map (λ (e : ClassDef). e.name) (take k ds)

  abbrev New : List (List ℕ)
  New = cond (Test d.name) (d.name ∷ []) []

  next_names : Names (i + 1) ≡ Names i ++ d.name ∷ []
  next_names =
      ap Names (add-one i) ∙ ap (map (λ (e : ClassDef). e.name)) (take-suc ds i d lt)
      ∙ map-append (λ (e : ClassDef). e.name) (take i ds) (get_or ds i d ∷ [])
      ∙ ap (λ (e : ClassDef). Names i ++ e.name ∷ []) (sym at)

  next_under : classes_under c name (take (i + 1) ds) ≡ classes_under c name (take i ds) ++ New
  next_under = ap (λ l. name ∷ l) (ap (filter Test) next_names ∙ filter_append Test (Names i) (d.name ∷ []))

  pub class_added : (all next : List Expr) → all ≡ map tree.Text (classes_under c name (take i ds))
      → next ≡ all ++ cond (Test d.name) (tree.Text d.name ∷ []) []
      → next ≡ map tree.Text (classes_under c name (take (i + 1) ds))
  class_added all next so_far e =
      e ∙ (λ k. so_far k ++ texts_of (Test d.name) d.name k)
      ∙ sym (map-append tree.Text (classes_under c name (take i ds)) New) ∙ ap (map tree.Text) (sym next_under)

  pub names_added : NoMarkers (classes_under c name (take i ds)) → is_marker d.name ≡ false
      → NoMarkers (classes_under c name (take (i + 1) ds))
  names_added h p =
      subst NoMarkers (sym next_under) (some_more (classes_under c name (take i ds)) d.name (Test d.name) h p)

-- behind the last class there is none more
past_taken : (ds : Defs) (i : ℕ) → slice_get ds i ≡ None → take (suc i) ds ≡ take i ds
past_taken [] zero e = refl
past_taken [] (suc i) e = refl
past_taken (d ∷ ds) zero e = absurd (cc)
past_taken (d ∷ ds) (suc i) e = ap (λ l. d ∷ l) (past_taken ds i e)

pub none_taken : (ds : Defs) (i : ℕ) → slice_get ds i ≡ None → take (i + 1) ds ≡ take i ds
none_taken ds i e = ap (λ k. take k ds) (add-one i) ∙ past_taken ds i e
