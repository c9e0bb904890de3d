-- Words as names with their values, the first and those behind it.
use Rattle.std.proofs.Common.{◌≡◌, ◌≤◌, ◌-◌, Bool, true, false, if◌then◌else◌, length, map, drop, take, get_or, List}
use Rattle.std.proofs.Common.{[]}
use Rattle.std.proofs.Common.{◌∷◌, refl, sym, ap, ◌∙◌, take_all, arith}
use Rattle.qcert.specs.Jobs.{Word, are_options, is_new}

-- the words behind the first two
pub rest_of_two : {A : Type 0} (xs : List A) → take (length xs - 2) (drop 2 xs) ≡ drop 2 xs
rest_of_two [] = refl
rest_of_two (x ∷ []) = refl
rest_of_two (x ∷ y ∷ xs) = take_all (length (x ∷ y ∷ xs) - 2) xs (omega arith)

module _ {A : Type 0} (names : List Word) (f : A → Word) (key : Word) (xs : List A) where
  -- what is asked of the words, where the first name is this one
  abbrev pub HasFirst : Type 0
  HasFirst = are_options names (map f xs)
      ≡ (if is_new key names (map f (drop 2 xs)) then are_options names (map f (drop 2 xs)) else false)

  as_first : (first : A) → key ≡ f first
      → are_options names (map f xs)
      ≡ (if is_new (f first) names (map f (drop 2 xs)) then are_options names (map f (drop 2 xs)) else false) → HasFirst
  as_first first is e =
      e ∙ ap (λ k. if is_new k names (map f (drop 2 xs)) then are_options names (map f (drop 2 xs)) else false) (sym is)

  is_first : HasFirst → (new : Bool) → new ≡ is_new key names (map f (take (length xs - 2) (drop 2 xs)))
      → are_options names (map f xs) ≡ (if new then are_options names (map f (drop 2 xs)) else false)
  is_first parts new e =
      parts ∙ ap (λ b. if b then are_options names (map f (drop 2 xs)) else false)
      (ap (λ l. is_new key names (map f l)) (sym (rest_of_two xs)) ∙ sym e)

  pub goes_on : HasFirst → (new rest : Bool) → new ≡ is_new key names (map f (take (length xs - 2) (drop 2 xs)))
      → new ≡ true → rest ≡ are_options names (map f (take (length xs - 2) (drop 2 xs)))
      → rest ≡ are_options names (map f xs)
  goes_on parts new rest e t r =
      r ∙ ap (λ l. are_options names (map f l)) (rest_of_two xs)
      ∙ sym (is_first parts new e ∙ ap (λ b. if b then are_options names (map f (drop 2 xs)) else false) t)

  pub stops : HasFirst → (new : Bool) → new ≡ is_new key names (map f (take (length xs - 2) (drop 2 xs)))
      → new ≡ false → new ≡ are_options names (map f xs)
  stops parts new e t =
      t ∙ sym (is_first parts new e ∙ ap (λ b. if b then are_options names (map f (drop 2 xs)) else false) t)

-- the first word is the first name
pub first_option : {A : Type 0} (names : List Word) (f : A → Word) (key : Word) (xs : List A) (first : A)
    → first ≡ get_or xs 0 first → key ≡ f first → 2 ≤ length xs → HasFirst names f key xs
first_option names f key [] first at is le = absurd (omega arith)
first_option names f key (x ∷ []) first at is le = absurd (omega arith)
first_option names f key (x ∷ y ∷ xs) first at is le =
    as_first names f key (x ∷ y ∷ xs) x (is ∙ ap f at) refl
