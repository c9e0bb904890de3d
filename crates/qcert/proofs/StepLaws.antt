-- The laws of steps, where texts are told and the shelf did not fail: each kind has them, and so have steps after each
-- other. And which names a step asks for.
use Rattle.std.proofs.Common.{◌≡◌, ◌<◌, ◌≤◌, ◌⊎◌, inl, inr, refl, sym, ◌∙◌, ap, subst, ℕ, List, [], ◌∷◌, ◌++◌}
use Rattle.std.proofs.Common.{Option, Some, None, Result, Ok, Err, length, append_assoc, arith}
use Rattle.std.proofs.lemmas.List.{append-nil}
use Rattle.qc_io.specs.Device.{Texts}
use Rattle.qc_work.specs.declared.refusal.File.{File}
use Rattle.qc_work.specs.declared.refusal.Refusal.{Refusal}
use Rattle.qc_work.specs.declared.refusal.Refusal.TheVariants.{ReadFault, Memory}
use Rattle.qcert.specs.Files.{HasNoText, fetch, read_as, most_of}
use Rattle.qcert.specs.Steps.{Names, Step, MayEnd, firm, pure, then}

-- what is accepted need not be refused, and where one refusal must come, no other may
pub record Lawful {A : Type 0} (t : Texts) (s : Step A) : Type 1 where
  pub apart : (x : A) (r : Refusal) → s.accepts (Some t) x → s.must (Some t) r → ⊥
  pub one_reason : (failed : Type 0) → ¬ failed → (r q : Refusal) (names : Names) → s.must (Some t) r
      → s.may (Some t) failed q names → (q ≡ r) ⊎ (q ≡ Memory)

-- it also accepts one value, and then no refusal may come
pub record Good {A : Type 0} (t : Texts) (s : Step A) : Type 1 where
  pub lawful : Lawful t s
  pub one_value : (x y : A) → s.accepts (Some t) x → s.accepts (Some t) y → x ≡ y
  pub is_firm : (failed : Type 0) → ¬ failed → (x : A) (r : Refusal) (names : Names) → s.accepts (Some t) x
      → s.may (Some t) failed r names → r ≡ Memory

-- ---- computations

-- a partial function: one value, or one fault
pub record IsPartial {A : Type 0} (Accepts : A → Type 0) (Refuses : Refusal → Type 0) : Type 0 where
  pub one_value : (x y : A) → Accepts x → Accepts y → x ≡ y
  pub one_fault : (r q : Refusal) → Refuses r → Refuses q → q ≡ r
  pub apart : (x : A) (r : Refusal) → Accepts x → Refuses r → ⊥

module _ {A : Type 0} (t : Texts) (Accepts : A → Type 0) (Refuses : Refusal → Type 0) where
  module _ (apart : (x : A) (r : Refusal) → Accepts x → Refuses r → ⊥)
      (once : (r q : Refusal) → Refuses r → Refuses q → q ≡ r) where
    firm_reason : (r q : Refusal) → Refuses r → Refuses q ⊎ ⊥ ⊎ (q ≡ Memory) → (q ≡ r) ⊎ (q ≡ Memory)
    firm_reason r q m (inl u) = inl (once r q m u)
    firm_reason r q m (inr (inl u)) = absurd u
    firm_reason r q m (inr (inr e)) = inr e

    pub firm_lawful : Lawful t (firm Accepts Refuses)
    firm_lawful = record { apart = apart; one_reason = λ failed sound r q names m u. firm_reason r q m u.0 }

    firm_memory : (x : A) (r : Refusal) → Accepts x → Refuses r ⊎ ⊥ ⊎ (r ≡ Memory) → r ≡ Memory
    firm_memory x r a (inl u) = absurd (apart x r a u)
    firm_memory x r a (inr (inl u)) = absurd u
    firm_memory x r a (inr (inr e)) = e

  pub firm_good : IsPartial Accepts Refuses → Good t (firm Accepts Refuses)
  firm_good p = record {
    lawful = firm_lawful p.apart p.one_fault;
    one_value = p.one_value;
    is_firm = λ failed sound x r names a u. firm_memory p.apart p.one_fault x r a u.0;
  }

pub pure_good : {A : Type 0} (t : Texts) (x : A) → Good t (pure x)
pure_good t x = firm_good t (λ y. y ≡ x) (λ r. ⊥)
    (record { one_value = λ y z e f. e ∙ sym f; one_fault = λ r q m u. absurd m; apart = λ y r e u. u })

-- ---- one after the other

module _ {A B : Type 0} {t : Texts} {first : Step A} (next : A → Step B) (one : Good t first) where
  module _ (each : (x : A) → first.accepts (Some t) x → Lawful t (next x)) where
    abbrev both : Step B
    both = then first next

    then_apart : (y : B) (r : Refusal) → both.accepts (Some t) y → both.must (Some t) r → ⊥
    then_apart y r u (inl m) = one.lawful.apart u.0 r u.1 m
    then_apart y r u (inr v) =
        let here = one.one_value v.0 u.0 v.1 u.1 in
        (each u.0 u.1).apart y r u.2 (subst (λ (x : A). (next x).must (Some t) r) here v.2)

    then_reason : (failed : Type 0) → ¬ failed → (r q : Refusal) (names : Names) → both.must (Some t) r
        → both.may (Some t) failed q names → (q ≡ r) ⊎ (q ≡ Memory)
    then_reason failed sound r q names (inl m) (inl n) = one.lawful.one_reason failed sound r q names m n
    then_reason failed sound r q names (inl m) (inr v) = absurd (one.lawful.apart v.value r v.accepted m)
    then_reason failed sound r q names (inr u) (inl n) = inr (one.is_firm failed sound u.0 q names u.1 n)
    then_reason failed sound r q names (inr u) (inr v) =
        let here = one.one_value v.value u.0 v.accepted u.1 in
        let refused = subst (λ (x : A). (next x).may (Some t) failed q v.back) here v.follows in
        (each u.0 u.1).one_reason failed sound r q v.back u.2 refused

    pub then_lawful : Lawful t (then first next)
    then_lawful = record { apart = then_apart; one_reason = then_reason }

  module _ (each : (x : A) → first.accepts (Some t) x → Good t (next x)) where
    then_one : (y z : B) → (then first next).accepts (Some t) y → (then first next).accepts (Some t) z → y ≡ z
    then_one y z u v =
        let here = one.one_value v.0 u.0 v.1 u.1 in
        (each u.0 u.1).one_value y z u.2 (subst (λ (x : A). (next x).accepts (Some t) z) here v.2)

    then_firm : (failed : Type 0) → ¬ failed → (y : B) (r : Refusal) (names : Names)
        → (then first next).accepts (Some t) y → (then first next).may (Some t) failed r names → r ≡ Memory
    then_firm failed sound y r names u (inl n) = one.is_firm failed sound u.0 r names u.1 n
    then_firm failed sound y r names u (inr v) =
        let here = one.one_value v.value u.0 v.accepted u.1 in
        let refused = subst (λ (x : A). (next x).may (Some t) failed r v.back) here v.follows in
        (each u.0 u.1).is_firm failed sound y r v.back u.2 refused

    pub then_good : Good t (then first next)
    then_good = record { lawful = then_lawful (λ x a. (each x a).lawful); one_value = then_one; is_firm = then_firm }

-- ---- files

module _ (t : Texts) (file : File) (name : List ℕ) where
  abbrev fetched : Step (List ℕ)
  fetched = fetch file name

  fetch_one : (a b : List ℕ) → fetched.accepts (Some t) a → fetched.accepts (Some t) b → a ≡ b
  fetch_one a b s u =
      let first : t name ≡ Some a = s.told in
      let second : t name ≡ Some b = u.told in
      cc

  over : (a b : List ℕ) → fetched.accepts (Some t) a → t name ≡ Some b → most_of file < length b → ⊥
  over a b s told long =
      let first : t name ≡ Some a = s.told in
      let one : b ≡ a = cc in
      let fits : length a ≤ most_of file = s.fits in
      let longer : most_of file < length a = subst (λ (bytes : List ℕ). most_of file < length bytes) one long in
      absurd (omega arith)

  fetch_apart : (a : List ℕ) (r : Refusal) → fetched.accepts (Some t) a → fetched.must (Some t) r → ⊥
  fetch_apart a r s (inl m) =
      let some : t name ≡ Some a = s.told in
      let clash : Some a ≡ None = sym some ∙ m.1 in
      cc
  fetch_apart a r s (inr m) = over a m.2.told.0 s m.2.told.1 m.2.told.2

  missing : (text : List ℕ) → t name ≡ Some text → t name ≡ None → ⊥
  missing text some none = let clash : Some text ≡ None = sym some ∙ none in cc

  no_text_once : (r q : Refusal) → fetched.must (Some t) r → fetched.must (Some t) q → q ≡ r
  no_text_once r q (inl m) (inl n) = n.0 ∙ sym m.0
  no_text_once r q (inr m) (inr n) = n.0 ∙ sym m.0
  no_text_once r q (inl m) (inr n) = absurd (missing n.2.told.0 n.2.told.1 m.1)
  no_text_once r q (inr m) (inl n) = absurd (missing m.2.told.0 m.2.told.1 n.1)

  module _ (failed : Type 0) (sound : ¬ failed) where
    abbrev IsReason : Refusal → Type 0
    IsReason r = HasNoText (Some t) file name r ⊎ ((r ≡ ReadFault file) × failed) ⊎ (r ≡ Memory)

    fetch_reason : (r q : Refusal) → fetched.must (Some t) r → IsReason q → (q ≡ r) ⊎ (q ≡ Memory)
    fetch_reason r q m (inl n) = inl (no_text_once r q m n)
    fetch_reason r q m (inr (inl n)) = absurd (sound n.1)
    fetch_reason r q m (inr (inr e)) = inr e

    fetch_firm : (a : List ℕ) (r : Refusal) → fetched.accepts (Some t) a → IsReason r → r ≡ Memory
    fetch_firm a r s (inl m) = absurd (fetch_apart a r s m)
    fetch_firm a r s (inr (inl n)) = absurd (sound n.1)
    fetch_firm a r s (inr (inr e)) = e

  fetch_good : Good t (fetch file name)
  fetch_good = record {
    lawful = record {
      apart = fetch_apart;
      one_reason = λ failed sound r q names m u. fetch_reason failed sound r q m u.0;
    };
    one_value = fetch_one;
    is_firm = λ failed sound a r names s u. fetch_firm failed sound a r s u.0;
  }

  -- a file whose text means one thing, or is refused for one reason
  pub read_good : {A : Type 0} {Means : List ℕ → A → Type 0} {IsBad : List ℕ → Refusal → Type 0}
      → ((bytes : List ℕ) → IsPartial (Means bytes) (IsBad bytes)) → Good t (read_as Means IsBad file name)
  read_good {Means = M} {IsBad = B} p =
      then_good (λ bytes. firm (M bytes) (B bytes)) fetch_good (λ bytes a. firm_good t (M bytes) (B bytes) (p bytes))

-- ---- what the laws give of any step

module _ {A : Type 0} (t : Texts) (failed : Type 0) (sound : ¬ failed) (s : Step A) (lawful : Lawful t s) where
  err_reason : (ending : Result A Refusal) (r q : Refusal) → ending ≡ Err q → (q ≡ r) ⊎ (q ≡ Memory)
      → (ending ≡ Err r) ⊎ (ending ≡ Err Memory)
  err_reason ending r q is (inl e) = inl (is ∙ ap (λ (z : Refusal). Err z) e)
  err_reason ending r q is (inr e) = inr (is ∙ ap (λ (z : Refusal). Err z) e)

  -- what must be refused is, but for want of memory
  pub refused : (r : Refusal) (ending : Result A Refusal) (names : Names) → s.must (Some t) r
      → MayEnd s (Some t) failed ending names → (ending ≡ Err r) ⊎ (ending ≡ Err Memory)
  refused r (Ok y) names m u = absurd (lawful.apart y r u.0 m)
  refused r (Err q) names m u = err_reason (Err q) r q refl (lawful.one_reason failed sound r q names m u)

module _ {A B : Type 0} (t : Texts) (failed : Type 0) (sound : ¬ failed) (first : Step A) (next : A → Step B)
    (one : Good t first) where
  -- where the first step accepts a value on which the next one is not refused, nothing is, but for want of memory
  pub complete : (x : A) (r : Refusal) (names : Names) → first.accepts (Some t) x
      → ((q : Refusal) (back : Names) → (next x).may (Some t) failed q back → q ≡ Memory)
      → (then first next).may (Some t) failed r names → r ≡ Memory
  complete x r names a clear (inl n) = one.is_firm failed sound x r names a n
  complete x r names a clear (inr v) =
      let here = one.one_value v.value x v.accepted a in
      clear r v.back (subst (λ (y : A). (next y).may (Some t) failed r v.back) here v.follows)

  -- where the first step must be refused, nothing is asked for after it
  pub stops_there : (r q : Refusal) (names : Names) → first.must (Some t) r
      → (then first next).may (Some t) failed q names → first.may (Some t) failed q names
  stops_there r q names m (inl a) = a
  stops_there r q names m (inr u) = absurd (one.lawful.apart u.value r u.accepted m)

-- ---- which names a step asks for

-- the names stand at the front of all
pub record IsFront (all names : Names) : Type 0 where
  pub others : Names
  pub joined : all ≡ names ++ others

-- it asks for all these names where it accepts a value, and for a front of them where it is refused
pub record AsksFor {A : Type 0} (s : Step A) (all : Names) : Type 1 where
  pub whole : (texts : Option Texts) (x : A) (names : Names) → s.asks texts x names → names ≡ all
  pub until : (texts : Option Texts) (failed : Type 0) (r : Refusal) (names : Names) → s.may texts failed r names
      → IsFront all names

all_of : (all names : Names) → names ≡ all → IsFront all names
all_of all names e = record { others = []; joined = sym e ∙ sym (append-nil names) }

front_of : (all more names : Names) → IsFront all names → IsFront (all ++ more) names
front_of all more names f = record {
  others = f.others ++ more;
  joined = ap (λ (l : Names). l ++ more) f.joined ∙ append_assoc names f.others more;
}

none_at_all : (names : Names) → names ≡ [] → IsFront [] names
none_at_all names e = all_of [] names e

behind : (all more names front back : Names) → names ≡ front ++ back → front ≡ all → IsFront more back
    → IsFront (all ++ more) names
behind all more names front back is first f = record {
  others = f.others;
  joined = ap (λ (l : Names). all ++ l) f.joined ∙ sym (append_assoc all back f.others)
      ∙ ap (λ (l : Names). (l ++ back) ++ f.others) (sym first) ∙ ap (λ (l : Names). l ++ f.others) (sym is);
}

pub firm_asks : {A : Type 0} (Accepts : A → Type 0) (Refuses : Refusal → Type 0) → AsksFor (firm Accepts Refuses) []
firm_asks Accepts Refuses = record {
  whole = λ texts x names e. e;
  until = λ texts failed r names u. none_at_all names u.1;
}

pub pure_asks : {A : Type 0} (x : A) → AsksFor (pure x) []
pure_asks x = firm_asks (λ y. y ≡ x) (λ r. ⊥)

fetch_asks : (file : File) (name : List ℕ) → AsksFor (fetch file name) (name ∷ [])
fetch_asks file name = record {
  whole = λ texts x names e. e;
  until = λ texts failed r names u. all_of (name ∷ []) names u.1;
}

module _ {A B : Type 0} (first : Step A) (next : A → Step B) (all more : Names) (a : AsksFor first all)
    (b : (x : A) → AsksFor (next x) more) where
  then_whole : (texts : Option Texts) (y : B) (names : Names) → (then first next).asks texts y names
      → names ≡ all ++ more
  then_whole texts y names u =
      u.joined ∙ ap (λ (l : Names). l ++ u.back) (a.whole texts u.value u.front u.asks)
      ∙ ap (λ (l : Names). all ++ l) ((b u.value).whole texts y u.back u.follows.1)

  then_until : (texts : Option Texts) (failed : Type 0) (r : Refusal) (names : Names)
      → (then first next).may texts failed r names → IsFront (all ++ more) names
  then_until texts failed r names (inl u) = front_of all more names (a.until texts failed r names u)
  then_until texts failed r names (inr u) =
      behind all more names u.front u.back u.joined (a.whole texts u.value u.front u.asks)
      ((b u.value).until texts failed r u.back u.follows)

  pub then_asks : AsksFor (then first next) (all ++ more)
  then_asks = record { whole = then_whole; until = then_until }

-- where what follows asks for nothing
pub then_nothing : {A B : Type 0} (first : Step A) (next : A → Step B) (all : Names) → AsksFor first all
    → ((x : A) → AsksFor (next x) []) → AsksFor (then first next) all
then_nothing first next all a b =
    subst (λ (l : Names). AsksFor (then first next) l) (append-nil all) (then_asks first next all [] a b)

pub read_asks : {A : Type 0} (Means : List ℕ → A → Type 0) (IsBad : List ℕ → Refusal → Type 0) (file : File)
    (name : List ℕ) → AsksFor (read_as Means IsBad file name) (name ∷ [])
read_asks Means IsBad file name =
    then_nothing (fetch file name) (λ bytes. firm (Means bytes) (IsBad bytes)) (name ∷ []) (fetch_asks file name)
    (λ bytes. firm_asks (Means bytes) (IsBad bytes))
