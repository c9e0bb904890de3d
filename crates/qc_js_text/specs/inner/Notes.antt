-- What is noted of the rules of the table of js.grammar, made by tools/table.
use Rattle.std.specs.Prelude.{true, false, [], ◌∷◌}
use Rattle.qc_grammar.specs.inner.Certificate.{Notes}

unfoldable pub notes : Notes
notes =
    -- program
    record {
      places = 0 ∷ [];
      follow = 0 ∷ [];
      seed = 0;
      rank = 3;
      weight = 1;
      solid = true;
    } ∷
    -- statements
    record {
      places = 30 ∷ 38 ∷ [];
      follow = 9 ∷ 23 ∷ [];
      seed = 1;
      rank = 1;
      weight = 3;
      solid = false;
    } ∷
    -- statement
    record {
      places = 40 ∷ 52 ∷ 60 ∷ 72 ∷ 94 ∷ 112 ∷ [];
      follow = 1 ∷ 9 ∷ 10 ∷ 11 ∷ 13 ∷ 15 ∷ 22 ∷ 23 ∷ [];
      seed = 0;
      rank = 1;
      weight = 2;
      solid = true;
    } ∷
    -- use
    record {
      places = 118 ∷ 128 ∷ [];
      follow = 1 ∷ 9 ∷ 10 ∷ 11 ∷ 13 ∷ 15 ∷ 22 ∷ 23 ∷ [];
      seed = 0;
      rank = 3;
      weight = 1;
      solid = true;
    } ∷
    -- constant
    record {
      places = 144 ∷ 152 ∷ [];
      follow = 1 ∷ 9 ∷ 10 ∷ 11 ∷ 13 ∷ 15 ∷ 22 ∷ 23 ∷ [];
      seed = 0;
      rank = 2;
      weight = 2;
      solid = true;
    } ∷
    -- square
    record {
      places = 158 ∷ 168 ∷ [];
      follow = 1 ∷ 9 ∷ 10 ∷ 11 ∷ 13 ∷ 15 ∷ 22 ∷ 23 ∷ [];
      seed = 0;
      rank = 3;
      weight = 4;
      solid = true;
    } ∷
    -- block
    record {
      places = 186 ∷ [];
      follow = 1 ∷ 9 ∷ 10 ∷ 11 ∷ 13 ∷ 15 ∷ 16 ∷ 22 ∷ 23 ∷ [];
      seed = 0;
      rank = 2;
      weight = 1;
      solid = true;
    } ∷
    -- e
    record {
      places = 196 ∷ 200 ∷ [];
      follow = 21 ∷ 25 ∷ 26 ∷ 27 ∷ [];
      seed = 0;
      rank = 2;
      weight = 2;
      solid = true;
    } ∷
    -- members
    record {
      places = 210 ∷ 214 ∷ [];
      follow = 21 ∷ 25 ∷ 26 ∷ 27 ∷ [];
      seed = 0;
      rank = 1;
      weight = 3;
      solid = true;
    } ∷
    -- arguments
    record {
      places = 224 ∷ 228 ∷ [];
      follow = 21 ∷ 25 ∷ 26 ∷ 27 ∷ [];
      seed = 0;
      rank = 1;
      weight = 3;
      solid = true;
    } ∷
    -- items
    record {
      places = 238 ∷ 248 ∷ [];
      follow = 21 ∷ 25 ∷ [];
      seed = 1;
      rank = 1;
      weight = 1;
      solid = false;
    } ∷
    -- simple
    record {
      places = 250 ∷ 256 ∷ 262 ∷ 268 ∷ 274 ∷ 280 ∷ 286 ∷ 292 ∷ [];
      follow = 21 ∷ 25 ∷ 26 ∷ 27 ∷ [];
      seed = 0;
      rank = 1;
      weight = 1;
      solid = true;
    } ∷
    []
