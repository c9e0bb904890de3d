-- The words of a text that were read, and what lies behind them.
use Rattle.std.proofs.Common.{◌≡◌, ◌≢◌, ◌≤◌, ◌<◌, ◌+◌, ◌==◌, ◌&&◌, nat_le, ℕ, Bool, true, false, if◌then◌else◌, List}
use Rattle.std.proofs.Common.{[]}
use Rattle.std.proofs.Common.{◌∷◌, ◌++◌, length, Option, Some, None, option_map, option_and_then, refl, sym, ap, ◌∙◌}
use Rattle.std.proofs.Common.{append_assoc, arith, ◌-◌, drop, take, get_or, get_or-drop, drop_of_length-le}
use Rattle.std.proofs.lemmas.Bool.Decides.{nat_tests}
use Rattle.std.proofs.lemmas.List.{append-nil, length-append, length-drop, take_more, drop_more, take_rest}
use Rattle.qc_route.specs.declared.word.Word.{Word}
use Rattle.qc_route.specs.inner.Putting.{CannotPut, HasPut, no_word_is, full}
use Rattle.qc_route.specs.Paths.{is_path, is_source, is_walk, path_in, pieces, word_of, words_of}

-- these words, and then those of the pieces
abbrev pub after : List Word → Option (List Word) → Option (List Word)
after words o = option_map (λ more. words ++ more) o

after_none : (o : Option (List Word)) → o ≡ after [] o
after_none None = refl
after_none (Some more) = refl

after_one : (words : List Word) (w : Word) (o : Option (List Word))
    → after words (option_map (λ more. w ∷ more) o) ≡ after (words ++ w ∷ []) o
after_one words w None = refl
after_one words w (Some more) = ap (λ l. Some l) (sym (append_assoc words (w ∷ []) more))

-- these words of the text were read, and these bytes of a piece; the rest lies behind
abbrev pub HasRead : List ℕ → List Word → List ℕ → List ℕ → Type 0
HasRead text words piece rest = words_of (pieces [] text) ≡ after words (words_of (pieces piece rest))

pub begun : (text : List ℕ) → HasRead text [] [] text
begun text = after_none (words_of (pieces [] text))

-- a piece ends at a comma, and goes on at another byte
at_comma : (piece : List ℕ) (b : ℕ) (rest : List ℕ) → b ≡ 44 → pieces piece (b ∷ rest) ≡ piece ∷ pieces [] rest
at_comma piece b rest e = ap (λ c. pieces piece (c ∷ rest)) e

past_byte : (piece : List ℕ) (b : ℕ) (rest : List ℕ) → (b == 44) ≡ false
    → pieces piece (b ∷ rest) ≡ pieces (piece ++ b ∷ []) rest
past_byte piece b rest e =
    ap (λ (t : Bool). if t then piece ∷ pieces [] rest else pieces (piece ++ b ∷ []) rest) e

module _ (text : List ℕ) (words : List Word) (piece : List ℕ) where
  pub goes_on : (b : ℕ) (rest : List ℕ) → HasRead text words piece (b ∷ rest) → (b == 44) ≡ false
      → HasRead text words (piece ++ b ∷ []) rest
  goes_on b rest h e = h ∙ ap (λ ps. after words (words_of ps)) (past_byte piece b rest e)

  -- a whole piece was read
  abbrev pub HasPiece : List (List ℕ) → Type 0
  HasPiece ps = words_of (pieces [] text) ≡ after words (words_of (piece ∷ ps))

  pub comma : (b : ℕ) (rest : List ℕ) → HasRead text words piece (b ∷ rest) → b ≡ 44 → HasPiece (pieces [] rest)
  comma b rest h e = h ∙ ap (λ ps. after words (words_of ps)) (at_comma piece b rest e)

  module _ (ps : List (List ℕ)) (h : HasPiece ps) where
    abbrev tail : Option (List Word)
    tail = words_of ps

    pub word_read : (w : Word) → word_of piece ≡ Some w → words_of (pieces [] text) ≡ after (words ++ w ∷ []) tail
    word_read w e =
        h ∙ ap (λ o. after words (option_and_then (λ word. option_map (λ more. word ∷ more) tail) o)) e
        ∙ after_one words w tail

    abbrev chosen : Option (List Word) → Option (List Word)
    chosen o = option_and_then (λ ws. if is_path ws then Some ws else None) o

    pub no_word : word_of piece ≡ None → path_in text ≡ None
    no_word e =
        ap chosen
        (h ∙ ap (λ o. after words (option_and_then (λ word. option_map (λ more. word ∷ more) tail) o)) e)

    by_source : (a b t : Bool) → t ≡ false → ((a && t) && b) ≡ false
    by_source true b t e = ap (λ x. x && b) e
    by_source false b t e = refl

    above_sixteen : (n : ℕ) → 16 < n → nat_le n 16 ≡ false
    above_sixteen n l = grind (arith, nat_tests)

    too_long : (ws : List Word) → 16 < length ws → is_path ws ≡ false
    too_long [] l = absurd (omega arith)
    too_long (w ∷ ws) l =
        let q : nat_le (length (w ∷ ws)) 16 ≡ false = above_sixteen (length (w ∷ ws)) l in
        by_source (is_source w) (is_walk (w ∷ ws)) (nat_le (length (w ∷ ws)) 16) q

    unchosen : (w : Word) (o : Option (List Word)) → 16 ≤ length words → chosen (after (words ++ w ∷ []) o) ≡ None
    unchosen w None l = refl
    unchosen w (Some more) l =
        let long : 16 < length ((words ++ w ∷ []) ++ more) =
        omega (arith, l, length-append (words ++ w ∷ []) more, length-append words (w ∷ [])) in
        ap (λ (t : Bool). if t then Some ((words ++ w ∷ []) ++ more) else None)
        (too_long ((words ++ w ∷ []) ++ more) long)

    pub no_room : (w : Word) → word_of piece ≡ Some w → 16 ≤ length words → path_in text ≡ None
    no_room w e l = ap chosen (word_read w e) ∙ unchosen w tail l

    -- what was put, or could not be
    pub put : (all : List Word) → HasPut words all piece → words_of (pieces [] text) ≡ after all tail
    put all p = word_read p.word p.is_word ∙ ap (λ ws. after ws tail) (sym p.put)

    pub refused : CannotPut words piece → path_in text ≡ None
    refused (no_word_is e) = no_word e
    refused (full w e l) = no_room w e l

-- ---- places of the text

no_comma : (b : ℕ) → b ≢ 44 → (b == 44) ≡ false
no_comma b ne = grind (arith, nat_tests)

none_between : (at : ℕ) → 0 ≡ at + 1 - (at + 1)
none_between at = omega arith

-- what was read up to a place, where a piece began at another
abbrev pub HasReadTo : List ℕ → List Word → ℕ → ℕ → Type 0
HasReadTo text words start at = HasRead text words (take (at - start) (drop start text)) (drop at text)

module _ (text : List ℕ) (words : List Word) (start at d : ℕ) (before : start ≤ at) (within : at < length text)
    (h : HasReadTo text words start at) where
  split : drop at text ≡ get_or text at d ∷ drop (at + 1) text
  split = drop_more text at d within

  here : HasRead text words (take (at - start) (drop start text)) (get_or text at d ∷ drop (at + 1) text)
  here = h ∙ ap (λ rest. after words (words_of (pieces (take (at - start) (drop start text)) rest))) split

  pub past_comma : (all : List Word) → get_or text at d ≡ 44 → HasPut words all (take (at - start) (drop start text))
      → HasReadTo text all (at + 1) (at + 1)
  past_comma all e p =
      put text words (take (at - start) (drop start text)) (pieces [] (drop (at + 1) text))
      (comma text words (take (at - start) (drop start text)) (get_or text at d) (drop (at + 1) text) here e) all p
      ∙ ap (λ n. after all (words_of (pieces (take n (drop (at + 1) text)) (drop (at + 1) text)))) (none_between at)

  pub stuck_at_comma : get_or text at d ≡ 44 → CannotPut words (take (at - start) (drop start text))
      → path_in text ≡ None
  stuck_at_comma e p =
      refused text words (take (at - start) (drop start text)) (pieces [] (drop (at + 1) text))
      (comma text words (take (at - start) (drop start text)) (get_or text at d) (drop (at + 1) text) here e) p

  piece_more : take (at - start) (drop start text) ++ get_or text at d ∷ [] ≡ take (at + 1 - start) (drop start text)
  piece_more =
      let n : at + 1 - start ≡ at - start + 1 = omega (arith, before) in
      let q : start + (at - start) ≡ at = omega (arith, before) in
      let l : at - start < length (drop start text) = omega (arith, before, within, length-drop start text) in
      sym (ap (λ k. take k (drop start text)) n ∙ take_more (drop start text) (at - start) d l
      ∙ ap (λ b. take (at - start) (drop start text) ++ b ∷ [])
      (get_or-drop start text (at - start) d ∙ ap (λ k. get_or text k d) q))

  pub past_other : get_or text at d ≢ 44 → HasReadTo text words start (at + 1)
  past_other ne =
      goes_on text words (take (at - start) (drop start text)) (get_or text at d) (drop (at + 1) text) here
      (no_comma (get_or text at d) ne)
      ∙ ap (λ piece. after words (words_of (pieces piece (drop (at + 1) text)))) piece_more

-- the last piece ends with the text
rest_is_all : (text : List ℕ) (start : ℕ) → take (length text - start) (drop start text) ≡ drop start text
rest_is_all text start = take_rest text start

module _ (text : List ℕ) (words : List Word) (start at : ℕ) (h : HasReadTo text words start at)
    (end : ¬ (at < length text)) (most : at ≤ length text) where
  nothing_behind : drop at text ≡ []
  nothing_behind = drop_of_length-le text (omega (arith, end))

  last : HasPiece text words (drop start text) []
  last =
      h ∙ ap (λ rest. after words (words_of (pieces (take (at - start) (drop start text)) rest))) nothing_behind
      ∙ ap (λ piece. after words (words_of (piece ∷ [])))
      (ap (λ n. take (n - start) (drop start text)) (let q : at ≡ length text = omega (arith, end, most) in q)
      ∙ rest_is_all text start)

  pub all_read : (all : List Word) → HasPut words all (drop start text) → words_of (pieces [] text) ≡ Some all
  all_read all p = put text words (drop start text) [] last all p ∙ ap (λ l. Some l) (append-nil all)

  pub stuck_at_end : CannotPut words (drop start text) → path_in text ≡ None
  stuck_at_end p = refused text words (drop start text) [] last p

-- ---- walks

pub short_walk : (words : List Word) → length words < 2 → true ≡ is_walk words
short_walk [] l = refl
short_walk (w ∷ []) l = refl
short_walk (w ∷ v ∷ words) l = absurd (omega (arith, l))
