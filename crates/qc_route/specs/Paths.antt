-- The words of paths, the edges between them, and which texts are paths.
use Rattle.std.specs.Prelude.{ℕ, ◌==◌, nat_le, Bool, true, false, ◌&&◌, if◌then◌else◌, List, [], ◌∷◌, ◌++◌, length}
use Rattle.std.specs.Prelude.{codes}
use Rattle.std.specs.Prelude.{Option, Some, None, is_some, option_map, option_and_then}
use Rattle.std.specs.Str.{bytes_eq}
use Rattle.qc_route.specs.declared.edge.Edge.{Edge}
use Rattle.qc_route.specs.declared.edge.Edge.TheVariants.{OqlToNraenv, NraenvToNnrc, NnrcToNnrs, NnrsToImp, ImpToJs}
use Rattle.qc_route.specs.declared.word.Word.{Word}
use Rattle.qc_route.specs.declared.word.Word.TheVariants.{Oql, Nraenv, Nnrc, Nnrs, Imp, Js}

-- ---- words

-- a word as it is written
abbrev pub text_of : Word → List ℕ
text_of Oql = codes "oql"
text_of Nraenv = codes "nraenv"
text_of Nnrc = codes "nnrc"
text_of Nnrs = codes "nnrs"
text_of Imp = codes "imp"
text_of Js = codes "js"

-- the word that is written so
abbrev pub word_of : List ℕ → Option Word
word_of text =
    if bytes_eq text (codes "oql") then Some Oql
    else if bytes_eq text (codes "nraenv") then Some Nraenv
    else if bytes_eq text (codes "nnrc") then Some Nnrc
    else if bytes_eq text (codes "nnrs") then Some Nnrs
    else if bytes_eq text (codes "imp") then Some Imp
    else if bytes_eq text (codes "js") then Some Js
    else None

-- the words that a path may begin with
abbrev pub is_source : Word → Bool
is_source Oql = true
is_source _ = false

-- ---- edges

abbrev pub from : Edge → Word
from OqlToNraenv = Oql
from NraenvToNnrc = Nraenv
from NnrcToNnrs = Nnrc
from NnrsToImp = Nnrs
from ImpToJs = Imp

abbrev pub to : Edge → Word
to OqlToNraenv = Nraenv
to NraenvToNnrc = Nnrc
to NnrcToNnrs = Nnrs
to NnrsToImp = Imp
to ImpToJs = Js

-- the edge from a word to a word
abbrev pub edge_between : Word → Word → Option Edge
edge_between Oql Nraenv = Some OqlToNraenv
edge_between Nraenv Nnrc = Some NraenvToNnrc
edge_between Nnrc Nnrs = Some NnrcToNnrs
edge_between Nnrs Imp = Some NnrsToImp
edge_between Imp Js = Some ImpToJs
edge_between _ _ = None

-- ---- paths

-- from each word an edge leads to the next
abbrev pub is_walk : List Word → Bool
is_walk [] = true
is_walk (word ∷ []) = true
is_walk (word ∷ next ∷ words) = is_some (edge_between word next) && is_walk (next ∷ words)

-- a walk from a source, of at most 16 words
abbrev pub is_path : List Word → Bool
is_path [] = false
is_path (word ∷ words) = (is_source word && nat_le (length (word ∷ words)) 16) && is_walk (word ∷ words)

-- the pieces of a text between its commas, of which the first begins with these bytes
abbrev pub pieces : List ℕ → List ℕ → List (List ℕ)
pieces piece [] = piece ∷ []
pieces piece (b ∷ bs) = if b == 44 then piece ∷ pieces [] bs else pieces (piece ++ b ∷ []) bs

-- the words that are written so
abbrev pub words_of : List (List ℕ) → Option (List Word)
words_of [] = Some []
words_of (text ∷ texts) = option_and_then (λ word. option_map (λ words. word ∷ words) (words_of texts)) (word_of text)

-- the path that a text is: its words, with commas between them
abbrev pub path_in : List ℕ → Option (List Word)
path_in text = option_and_then (λ words. if is_path words then Some words else None) (words_of (pieces [] text))

-- the path through all stages
abbrev pub usual : List Word
usual = Oql ∷ Nraenv ∷ Nnrc ∷ Nnrs ∷ Imp ∷ Js ∷ []

-- the word that words begin with, and the one that they end with
abbrev pub first_of : List Word → Option Word
first_of [] = None
first_of (word ∷ words) = Some word

abbrev pub last_of : List Word → Option Word
last_of [] = None
last_of (word ∷ []) = Some word
last_of (word ∷ next ∷ words) = last_of (next ∷ words)
